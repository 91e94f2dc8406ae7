-- Settling with what the fields name.
use Rattle.std.proofs.Common.{◌≡◌, ℕ, Bool, true, false, List, map, length, Some, Option, sym, refl, ap, ◌∙◌, subst}
use Rattle.std.proofs.lemmas.Bool.{false≢true}
use Rattle.model.specs.Answers.{Answer, accepted, option_as, refuse, refused}
use Rattle.model.specs.Goals.{Target}
use Rattle.model.specs.Parts.{Part}
use Rattle.model.specs.Sets.{held_in_all}
use Rattle.meaning.specs.Life.{Life, Shown, blank, lives, settles}
use Rattle.meaning.specs.Plan.{settled}
use Rattle.meaning.specs.Problems.{Problem, allowed_sets, fitting, is_empty, needed, short}
use Rattle.meaning.specs.Register.{Call, after, answers, rule_out, start}
use Rattle.meaning.proofs.Runs.{settled_shows}
use Rattle.fields.specs.Values.{Value}
use Rattle.sequence.specs.declared.ruled.Ruled.{Ruled}
use Rattle.sequence.specs.Words.{is_accepted}
use Rattle.reader.specs.Holding.{Holding, cells_under, settle_held, settled_as}
use Rattle.outcomes.specs.Named.{goal_named, kinds_named, problem_named}
use Rattle.outcomes.specs.Outcomes.{SettleRefused, Showing, Waiting, left_by}
use Rattle.outcomes.proofs.Stages.{Unset}

-- the answer in a row
abbrev pub gone_said : Ruled → Answer
gone_said y = accepted y.gone

-- what is held, part by part
pub held_is : (h : Holding) (k : List Part) (l : Option Life) (f b : List ℕ) → h.kinds ≡ k → h.life ≡ l → h.forward ≡ f → h.backward ≡ b
    → h ≡ record { kinds = k; goal = h.goal; life = l; forward = f; backward = b }
held_is h k l f b e1 e2 e3 e4 =
    ap (λ (x : List Part). record { kinds = x; goal = h.goal; life = h.life; forward = h.forward; backward = h.backward }) e1
    ∙ (ap (λ (x : Option Life). record { kinds = k; goal = h.goal; life = x; forward = h.forward; backward = h.backward }) e2
    ∙ (ap (λ (x : List ℕ). record { kinds = k; goal = h.goal; life = l; forward = x; backward = h.backward }) e3
    ∙ ap (λ (x : List ℕ). record { kinds = k; goal = h.goal; life = l; forward = f; backward = x }) e4))

-- what three tests leave
abbrev three : {S : Type 0} → S → S → ℕ → Bool → Bool → Bool → S × Answer
three s t n x y z = refuse s x 6 (refuse s y 7 (refuse s z 8 (t, accepted n)))

pub record Through {S : Type 0} (s t : S) (n : ℕ) (x y z : Bool) : Type 0 where
  pub second : y ≡ false
  pub third : z ≡ false
  pub is : three s t n x y z ≡ (t, accepted n)

through : {S : Type 0} (s t : S) (n : ℕ) (x y z : Bool) → is_accepted (three s t n x y z).1 ≡ true → Through s t n x y z
through s t n false false false a = record { second = refl; third = refl; is = refl }
through s t n x y z a = absurd (false≢true a)

stopped : {S : Type 0} (s t : S) (n : ℕ) (x y z : Bool) (k : ℕ) → (three s t n x y z).1 ≡ refused k → three s t n x y z ≡ (s, refused k)
stopped s t n false false false k e = cc
stopped {S = S} s t n x y z k e = ap (λ (a : Answer). (s, a)) e

module _ (f b : List ℕ) (us : List Value) (log : List Ruled) (h : Holding) (u : Unset f b us log h) (t : Target) (named : goal_named us ≡ Some t) where
  abbrev c : Problem
  c = problem_named us t

  abbrev canon : Holding
  canon = record { kinds = kinds_named us; goal = h.goal; life = Some (blank t); forward = f; backward = b }

  is : h ≡ canon
  is = held_is h (kinds_named us) (Some (blank t)) f b u.waits.case (u.waits.life ∙ ap (option_as blank) named) u.waits.ahead u.waits.back

  abbrev count : ℕ
  count = held_in_all (settled c).standing

  settled_by : is_accepted (settles (blank t) c.kinds (length f) (length b)).1 ≡ true → Showing f b us log (settle_held canon).0
  settled_by a =
      let w = through (blank t) (lives c (settled c)) count (is_empty c.kinds) (short c (length f) (length b)) (is_empty (fitting c (allowed_sets c))) a in
      let P : Life × Answer → Type 0 = λ x. Showing f b us log (settled_as canon (cells_under (blank t) c.kinds) x).0 in
      let base : P (lives c (settled c), accepted count) =
      record {
        problem = c;
        state = settled c;
        case = refl;
        life = refl;
        kinds = u.fit;
        goal = named;
        room = w.second;
        register = subst (λ (xs : List Call). Shown (lives c (settled c)) (after c start xs)) (sym u.rules) (settled_shows c w.third);
        rows = ap (λ (l : List Ruled). map (λ row. rule_out row.kind row.count (length f) (length b)) l) u.waits.none ∙ sym u.rules;
        answered = ap (λ (l : List Ruled). map gone_said l) u.waits.none ∙ ap (answers c start) (sym u.rules);
        ahead = refl;
        back = refl;
      } in
      subst P (sym w.is) base

  pub settle_shows : is_accepted (settle_held h).1 ≡ true → Showing f b us log (settle_held h).0
  settle_shows a = subst (λ (x : Holding). is_accepted (settle_held x).1 ≡ true → Showing f b us log (settle_held x).0) (sym is) settled_by a

  refused_by : (n : ℕ) → (settles (blank t) c.kinds (length f) (length b)).1 ≡ refused n
      → SettleRefused f b us t n × Waiting (left_by n (needed c) f) (left_by n (needed c) b) us log (settle_held canon).0
  refused_by n e =
      let w = stopped (blank t) (lives c (settled c)) count (is_empty c.kinds) (short c (length f) (length b)) (is_empty (fitting c (allowed_sets c))) n e in
      let P : Life × Answer → Type 0 = λ x. Waiting (left_by n (needed c) f) (left_by n (needed c) b) us log (settled_as canon (cells_under (blank t) c.kinds) x).0 in
      let base : P (blank t, refused n) = record { case = refl; life = ap (option_as blank) (sym named); ahead = refl; back = refl; none = u.waits.none } in
      (record { goal = named; kinds = u.fit; answer = e }, subst P (sym w) base)

  pub settle_stops : (n : ℕ) → (settle_held h).1 ≡ refused n → SettleRefused f b us t n × Waiting (left_by n (needed c) f) (left_by n (needed c) b) us log (settle_held h).0
  settle_stops n e =
      subst (λ (x : Holding). (settle_held x).1 ≡ refused n → SettleRefused f b us t n × Waiting (left_by n (needed c) f) (left_by n (needed c) b) us log (settle_held x).0) (sym is)
      (refused_by n) e
