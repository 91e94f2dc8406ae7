-- From the run of a file to its outcome.
use Rattle.std.proofs.Common.{◌≡◌, ℕ, true, List, [], length, Some, None, Option, sym, refl, ap, ◌∙◌, subst, inl, inr}
use Rattle.model.specs.Answers.{accepted, refused}
use Rattle.std.specs.List.{AllByRecursion}
use Rattle.fields.specs.Values.{Value, kind, band, list, stride, rule_out_field, end, write, Fine}
use Rattle.fields.specs.Reading.{Fields, fields, first, got}
use Rattle.faults.specs.Faults.{Fault, fault_in_plan}
use Rattle.sequence.specs.declared.phase.Phase.{Phase}
use Rattle.sequence.specs.declared.phase.Phase.TheVariants.{Kinds, Goal, Strided, Rules, Done}
use Rattle.sequence.specs.declared.ruled.Ruled.{Ruled}
use Rattle.sequence.specs.Machines.{Operation, acting, settled, settling}
use Rattle.sequence.specs.Sequence.{InOrder, follow, owes, reach}
use Rattle.sequence.specs.Words.{AllAccepted, Completed, FaultAt, Ran, after_all, calls, calls_in, is_accepted, ruled_by}
use Rattle.sequence.specs.Words.{unread as no_field, beyond as past_end, unfit as not-next, unsettled as not-settled, undone as not_done, Faulted as Faulted-so}
use Rattle.sequence.proofs.Order.{all, place_of_goal}
use Rattle.sequence.proofs.Calling.{calls_in_lem}
use Rattle.sequence.proofs.Passing.{fields_whole, lasts}
use Rattle.reader.specs.Holding.{Holding, fresh, operate, settle_held}
use Rattle.outcomes.specs.Desk.{desk}
use Rattle.outcomes.specs.Outcomes.{Accepted, Faulted, Read, Showing, Standing, Stops, beyond, unfit, unmade, unread, unruled, unsettled}
use Rattle.outcomes.proofs.Stages.{Stage, band_stops, kind_stops, list_stops, stride_stops}
use Rattle.outcomes.proofs.Settles.{settle_shows, settle_stops}
use Rattle.outcomes.proofs.Rules.{rule_stops}
use Rattle.outcomes.proofs.Going.{goes_on, none_not}

no_place : {A : Type 0} (g : ℕ) → None ≡ Some g → A
no_place g e = cc

never : {A : Type 0} (m n : ℕ) → accepted m ≡ refused n → A
never m n e = cc

module _ (f b : List ℕ) (values : List Value) (log : List Ruled) where
  standing_of_lem : (phase : Phase) (h : Holding) → Stage f b phase values log h → Standing phase f b values log h
  standing_of_lem Rules h st = st
  standing_of_lem Done h st = st
  standing_of_lem phase h st = st.0.waits

  module _ (q : ℕ) (rest : List ℕ) (s : Holding) where
    -- settle is refused
    settle_by : (phase : Phase) (v : Value) (r : List ℕ) (next : Phase) (g n : ℕ) → Stage f b phase values log s → reach Kinds 0 values ≡ Some phase
        → first rest ≡ got v r → follow phase q v ≡ Some next → owes phase v ≡ Some g → (settle_held s).1 ≡ refused n
        → Stops f b phase values q rest (fault_in_plan g n) (settle_held s).0 log
    settle_by (Goal p) v r next g n st se e1 e2 o a =
        let k = settle_stops f b values log s st.0 st.1.0 st.1.1 n a in
        unsettled v r next g n st.1.0 (settle_held s).0 log e1 e2 o (place_of_goal values (Goal p) v g se o) k.0 k.1
    settle_by (Strided p) v r next g n st se e1 e2 o a =
        let k = settle_stops f b values log s st.0 st.1.0 st.1.1 n a in
        unsettled v r next g n st.1.0 (settle_held s).0 log e1 e2 o (place_of_goal values (Strided p) v g se o) k.0 k.1
    settle_by phase v r next g n st se e1 e2 o a = no_place g o

    -- a rule-out is refused
    rule_by : (phase : Phase) (k d : ℕ) (r : List ℕ) (next : Phase) (n : ℕ) (t : Holding) → Showing f b values log t
        → first rest ≡ got (rule_out_field k d) r → follow phase q (rule_out_field k d) ≡ Some next → (operate t (rule_out_field k d)).1 ≡ refused n
        → Stops f b phase values q rest (fault_in_plan q n) (operate t (rule_out_field k d)).0 log
    rule_by phase k d r next n t sh e1 e2 a =
        let w = rule_stops f b values log t sh k d n a in
        unruled k d r next n (operate t (rule_out_field k d)).0 log e1 e2 w.0 w.1

    -- the field's own operation is refused
    own_by : (phase : Phase) (v : Value) (r : List ℕ) (next : Phase) (n : ℕ) → Stage f b phase values log s
        → first rest ≡ got v r → follow phase q v ≡ Some next → is_accepted (settling desk s (owes phase v)).1 ≡ true
        → (acting desk (settling desk s (owes phase v)).0 v).1 ≡ refused n
        → Stops f b phase values q rest (fault_in_plan q n) (acting desk (settling desk s (owes phase v)).0 v).0 log
    unfolding desk
    own_by Kinds (kind x y z) r next n st e1 e2 a x' =
        let k = kind_stops f b values log s st.0 x y z n x' in
        unmade (kind x y z) r next n (operate s (kind x y z)).0 log e1 e2 k.0 k.1
    own_by Kinds (band x y) r next n st e1 e2 a x' =
        let k = band_stops f b values log s st.0 x y n x' in
        unmade (band x y) r next n (operate s (band x y)).0 log e1 e2 k.0 k.1
    own_by Kinds (list ts) r next n st e1 e2 a x' =
        let k = list_stops f b values log s st.0 ts n x' in
        unmade (list ts) r next n (operate s (list ts)).0 log e1 e2 k.0 k.1
    own_by (Goal g) (stride x y) r next n st e1 e2 a x' =
        let k = stride_stops f b values log s st.0 st.1.0 st.1.1 st.1.2 x y n x' in
        unmade (stride x y) r next n (operate s (stride x y)).0 log e1 e2 k.0 k.1
    own_by (Goal g) (rule_out_field k d) r next n st e1 e2 a x' =
        rule_by (Goal g) k d r next n (settle_held s).0 (settle_shows f b values log s st.0 st.1.0 st.1.1 a) e1 e2 x'
    own_by (Strided g) (rule_out_field k d) r next n st e1 e2 a x' =
        rule_by (Strided g) k d r next n (settle_held s).0 (settle_shows f b values log s st.0 st.1.0 st.1.1 a) e1 e2 x'
    own_by Rules (rule_out_field k d) r next n st e1 e2 a x' = rule_by Rules k d r next n s st e1 e2 x'
    own_by phase end r next n st e1 e2 a x' = never 0 n x'
    own_by phase v r next n st e1 e2 a x' = none_not next e2

    settle_no : (phase : Phase) (v : Value) (r : List ℕ) (next : Phase) (g n : ℕ) → Stage f b phase values log s → reach Kinds 0 values ≡ Some phase
        → first rest ≡ got v r → follow phase q v ≡ Some next → owes phase v ≡ Some g → (desk s settled).1 ≡ refused n
        → Stops f b phase values q rest (fault_in_plan g n) (desk s settled).0 log
    unfolding desk
    settle_no phase v r next g n st se e1 e2 o a = settle_by phase v r next g n st se e1 e2 o a

    stops_at : (phase : Phase) (x : Fault) (t : Holding) → Stage f b phase values log s → reach Kinds 0 values ≡ Some phase
        → FaultAt desk phase q rest s x t → Stops f b phase values q rest x t log
    stops_at phase x t st se (no_field c d l) = unread c s log d l (standing_of_lem phase s st)
    stops_at phase x t st se (past_end y ys d l) = beyond y ys s log d l (standing_of_lem phase s st)
    stops_at phase x t st se (not-next v r e1 e2) = unfit v r s log e1 e2 (standing_of_lem phase s st)
    stops_at phase x t st se (not-settled v r next g n e1 e2 o a) = settle_no phase v r next g n st se e1 e2 o a
    stops_at phase x t st se (not_done v r next n e1 e2 a y) = own_by phase v r next n st e1 e2 a y

-- nothing is read yet
begun : (f b : List ℕ) → Stage f b Kinds [] [] (fresh f b)
begun f b = (record { waits = record { case = refl; life = refl; ahead = refl; back = refl; none = refl }; fit = refl; rules = refl }, refl)

module _ (file f b : List ℕ) (h : Holding) (log : List Ruled) where
  abbrev start : Holding
  start = fresh f b

  -- the fields of a file in order are those that are read from it
  read_so : (values : List Value) → InOrder values → AllByRecursion Fine values → file ≡ write values → (fields file).values ≡ values
  read_so values order fine is = ap (λ (x : Fields). x.values) (ap fields is ∙ fields_whole values (lasts values Kinds 0 refl (all values order)) fine)

  accepted_so : Completed desk file start h log → Accepted file f b h log
  accepted_so c =
      let values = c.values in
      let e = calls_in_lem values c.order in
      let x = goes_on f b values Kinds 0 [] start [] Done (begun f b) (all values c.order) (subst (AllAccepted desk start) (sym e) c.all_accepted) in
      let y = subst (λ (cs : List Operation). Showing f b values (ruled_by desk start cs) (after_all desk start cs)) e x in
      let z = subst (λ (t : Holding). Showing f b values (ruled_by desk start (calls_in c.order)) t) (sym c.state) y in
      record {
        values = values;
        file_is = c.file_is;
        fine = c.fine;
        order = c.order;
        only = λ others o fine is. sym (read_so others o fine is) ∙ read_so values c.order c.fine c.file_is;
        showing = subst (λ (l : List Ruled). Showing f b values l h) (sym c.answers) z;
      }

  faulted_so : (x : Fault) → Faulted-so desk file start x h log → Faulted file f b x h log
  faulted_so x c =
      let values = c.values in
      let st = goes_on f b values Kinds 0 [] start [] c.phase (begun f b) c.sequence c.all_accepted in
      let now = subst (λ (l : List Ruled). Stage f b c.phase values l (after_all desk start (calls Kinds 0 values))) (sym c.answers) st in
      record {
        values = values;
        rest = c.rest;
        phase = c.phase;
        file_is = c.file_is;
        fine = c.fine;
        sequence = c.sequence;
        stops = stops_at f b values log (length (write values)) c.rest (after_all desk start (calls Kinds 0 values)) c.phase x h now c.sequence c.fault;
      }

pub told : (file f b : List ℕ) (o : Option Fault) (h : Holding) (log : List Ruled) → Ran desk file (fresh f b) o h log → Read file f b o h log
told file f b o h log r =
    record {
      ran = r;
      accepted = λ e. accepted_so file f b h log (r.done e);
      faulted =
          λ x e. elim (r.faults x e) [
            | inl t ↦ inl (record { long = t.long; fault = t.fault; state = t.state; none = t.answers })
            | inr t ↦ inr (faulted_so file f b h log x t)
          ];
    }
