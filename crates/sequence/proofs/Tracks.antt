-- A run as a list of fields that passed and how it ended.
use Rattle.std.proofs.Common.{◌≡◌, ℕ, ◌+◌, List, [], ◌∷◌, ◌++◌, length, Some, None, Option, sym, refl, ap, ◌∙◌, subst, append_assoc, append-nil, arith, length-append}
use Rattle.fields.specs.Values.{Value, rule_out_field, end, field, write}
use Rattle.fields.specs.Reading.{Stop}
use Rattle.faults.specs.Faults.{Fault}
use Rattle.sequence.specs.declared.phase.Phase.{Phase}
use Rattle.sequence.specs.declared.ruled.Ruled.{Ruled}
use Rattle.model.specs.Answers.{Answer, accepted, refused}
use Rattle.sequence.specs.Machines.{Machine, Operation, of, acting, settling}
use Rattle.sequence.specs.Sequence.{follow, owes, reach, reach_on}
use Rattle.sequence.specs.Running.{noted, Turn, goes, stops, operated, settled_first, in_sequence, turn, Outcome, stopped, on_turn, runs}
use Rattle.sequence.specs.Words.{due, own, calls_on, calls, is_accepted, number, after_all, AllAccepted, ruled_by}

-- calls f lead from one state and its answers to another
pub record Leads {S : Type 0} (m : Machine S) (s : S) (log : List Ruled) (f : List Operation → List Operation) (t : S) (log' : List Ruled) : Type 0 where
  pub accepts : (cs : List Operation) → AllAccepted m t cs → AllAccepted m s (f cs)
  pub ends : (cs : List Operation) → after_all m s (f cs) ≡ after_all m t cs
  pub notes : (cs : List Operation) → log ++ ruled_by m s (f cs) ≡ log' ++ ruled_by m t cs

noted_more : (v : Value) (n : ℕ) (log : List Ruled) → noted v n log ≡ log ++ noted v n []
noted_more (rule_out_field k d) n log = refl
noted_more v n log = sym (append-nil log)

leads_settle : {S : Type 0} (m : Machine S) (g : Option ℕ) (s : S) (log : List Ruled) (n : ℕ) → (settling m s g).1 ≡ accepted n → Leads m s log (due g) (settling m s g).0 log
leads_settle m None s log n e = record { accepts = λ cs h. h; ends = λ cs. refl; notes = λ cs. refl }
leads_settle m (Some g) s log n e = record { accepts = λ cs h. (ap is_accepted e, h); ends = λ cs. refl; notes = λ cs. refl }

leads_op : {S : Type 0} (m : Machine S) (v : Value) (s : S) (log : List Ruled) (n : ℕ) → (m s (of v)).1 ≡ accepted n
    → Leads m s log (λ cs. of v ∷ cs) (m s (of v)).0 (noted v n log)
leads_op m v s log n e =
    record {
      accepts = λ cs h. (ap is_accepted e, h);
      ends = λ cs. refl;
      notes = λ cs.
          ap (λ (k : ℕ). log ++ (noted v k [] ++ ruled_by m (m s (of v)).0 cs)) (ap number e)
          ∙ (sym (append_assoc log (noted v n []) (ruled_by m (m s (of v)).0 cs))
          ∙ ap (λ (l : List Ruled). l ++ ruled_by m (m s (of v)).0 cs) (sym (noted_more v n log)));
    }

leads_own : {S : Type 0} (m : Machine S) (v : Value) (s : S) (log : List Ruled) (n : ℕ) → (acting m s v).1 ≡ accepted n
    → Leads m s log (own v) (acting m s v).0 (noted v n log)
leads_own m end s log n e = record { accepts = λ cs h. h; ends = λ cs. refl; notes = λ cs. refl }
leads_own m v s log n e = leads_op m v s log n e

leads_both : {S : Type 0} (m : Machine S) (f h : List Operation → List Operation) (s t u : S) (log log' log'' : List Ruled)
    → Leads m s log f t log' → Leads m t log' h u log'' → Leads m s log (λ cs. f (h cs)) u log''
leads_both m f h s t u log log' log'' a b =
    record {
      accepts = λ cs x. a.accepts (h cs) (b.accepts cs x);
      ends = λ cs. a.ends (h cs) ∙ b.ends cs;
      notes = λ cs. a.notes (h cs) ∙ b.notes cs;
    }

-- a field that goes on
pub record Passed {S : Type 0} (m : Machine S) (phase : Phase) (p : ℕ) (v : Value) (s : S) (log : List Ruled) (next : Phase) (t : S) (log' : List Ruled) : Type 0 where
  pub follows : follow phase p v ≡ Some next
  pub leads : Leads m s log (λ cs. due (owes phase v) (own v cs)) t log'

passed_op : {S : Type 0} (m : Machine S) (to next : Phase) (p : ℕ) (v : Value) (g : Option ℕ) (s s1 t : S) (log log' : List Ruled) (a : Answer)
    → (acting m s1 v).1 ≡ a → Leads m s log (due g) s1 log → operated to p v log (acting m s1 v).0 a ≡ goes next t log'
    → (to ≡ next) × Leads m s log (λ cs. due g (own v cs)) t log'
passed_op {S = S} m to next p v g s s1 t log log' (accepted n) a l e =
    let st : (acting m s1 v).0 ≡ t = cc in
    let lg : noted v n log ≡ log' = cc in (
      cc,
      subst (λ (u : S). Leads m s log (λ cs. due g (own v cs)) u log') st
          (subst (λ (k : List Ruled). Leads m s log (λ cs. due g (own v cs)) (acting m s1 v).0 k) lg
          (leads_both m (due g) (own v) s s1 (acting m s1 v).0 log log (noted v n log) l (leads_own m v s1 log n a))),
    )
passed_op m to next p v g s s1 t log log' (refused n) a l e = cc

passed_settle : {S : Type 0} (m : Machine S) (to next : Phase) (p : ℕ) (v : Value) (g : Option ℕ) (s t : S) (log log' : List Ruled) (a : Answer)
    → (settling m s g).1 ≡ a → settled_first m to p v log g (settling m s g).0 a ≡ goes next t log'
    → (to ≡ next) × Leads m s log (λ cs. due g (own v cs)) t log'
passed_settle m to next p v g s t log log' (accepted n) a e =
    passed_op m to next p v g s (settling m s g).0 t log log' (acting m (settling m s g).0 v).1 refl (leads_settle m g s log n a) e
passed_settle m to next p v g s t log log' (refused n) a e = cc

passed_in : {S : Type 0} (m : Machine S) (next : Phase) (p : ℕ) (v : Value) (g : Option ℕ) (s t : S) (log log' : List Ruled) (o : Option Phase)
    → in_sequence m p v s log g o ≡ goes next t log' → (o ≡ Some next) × Leads m s log (λ cs. due g (own v cs)) t log'
passed_in m next p v g s t log log' None e = cc
passed_in m next p v g s t log log' (Some to) e =
    let w = passed_settle m to next p v g s t log log' (settling m s g).1 refl e in (ap Some w.0, w.1)

pub passed : {S : Type 0} (m : Machine S) (phase : Phase) (p : ℕ) (v : Value) (s : S) (log : List Ruled) (next : Phase) (t : S) (log' : List Ruled)
    → turn m phase p v s log ≡ goes next t log' → Passed m phase p v s log next t log'
passed m phase p v s log next t log' e =
    let w = passed_in m next p v (owes phase v) s t log log' (follow phase p v) e in record { follows = w.0; leads = w.1 }

-- how a run ends after the fields that passed
abbrev pub Ending : {S : Type 0} → (m : Machine S) → Stop → Phase → ℕ → List Value → S → List Ruled → Outcome S → Type 0
Ending m stop phase q [] s log o = o ≡ record { fault = stopped stop q; state = s; answers = log }
Ending {S = S} m stop phase q (v ∷ vs) s log o =
    (x : Fault) × (t : S) × (log' : List Ruled) × (turn m phase q v s log ≡ stops x t log') × (o ≡ record { fault = Some x; state = t; answers = log' })

pub record Track {S : Type 0} (m : Machine S) (stop : Stop) (vs : List Value) (phase : Phase) (p : ℕ) (s : S) (log : List Ruled) (o : Outcome S) : Type 0 where
  pub us : List Value
  pub ws : List Value
  pub next : Phase
  pub q : ℕ
  pub t : S
  pub log' : List Ruled
  pub parts : vs ≡ us ++ ws
  pub sequence : reach phase p us ≡ Some next
  pub place : q ≡ p + length (write us)
  pub all_accepted : AllAccepted m s (calls phase p us)
  pub state : t ≡ after_all m s (calls phase p us)
  pub notes : log' ≡ log ++ ruled_by m s (calls phase p us)
  pub ending : Ending m stop next q ws t log' o

track_stops : {S : Type 0} (m : Machine S) (stop : Stop) (vs : List Value) (phase : Phase) (p : ℕ) (s : S) (log : List Ruled) (o : Outcome S)
    → Ending m stop phase p vs s log o → Track m stop vs phase p s log o
track_stops m stop vs phase p s log o e =
    record {
      us = [];
      ws = vs;
      next = phase;
      q = p;
      t = s;
      log' = log;
      parts = refl;
      sequence = refl;
      place = omega arith;
      all_accepted = tt;
      state = refl;
      notes = sym (append-nil log);
      ending = e;
    }

track_goes : {S : Type 0} (m : Machine S) (stop : Stop) (v : Value) (vs : List Value) (phase : Phase) (p : ℕ) (s : S) (log : List Ruled) (o : Outcome S) (next : Phase) (t : S) (log' : List Ruled)
    → Passed m phase p v s log next t log' → Track m stop vs next (p + length (field v)) t log' o → Track m stop (v ∷ vs) phase p s log o
track_goes m stop v vs phase p s log o next t log' w r =
    let cs = calls next (p + length (field v)) r.us in
    let same : calls phase p (v ∷ r.us) ≡ due (owes phase v) (own v cs) =
    ap (λ (x : Option Phase). due (owes phase v) (own v (calls_on x (λ to. calls to (p + length (field v)) r.us)))) w.follows in
    record {
      us = v ∷ r.us;
      ws = r.ws;
      next = r.next;
      q = r.q;
      t = r.t;
      log' = r.log';
      parts = ap (λ (x : List Value). v ∷ x) r.parts;
      sequence = ap (λ (x : Option Phase). reach_on x (λ to. reach to (p + length (field v)) r.us)) w.follows ∙ r.sequence;
      place = omega (arith, r.place, length-append (field v) (write r.us));
      all_accepted = subst (AllAccepted m s) (sym same) (w.leads.accepts cs r.all_accepted);
      state = r.state ∙ (sym (w.leads.ends cs) ∙ ap (after_all m s) (sym same));
      notes = r.notes ∙ (sym (w.leads.notes cs) ∙ ap (λ (x : List Operation). log ++ ruled_by m s x) (sym same));
      ending = r.ending;
    }

track_on : {S : Type 0} (m : Machine S) (stop : Stop) (v : Value) (vs : List Value) (phase : Phase) (p : ℕ) (s : S) (log : List Ruled) (u : Turn S)
    → turn m phase p v s log ≡ u
    → ((next : Phase) (q : ℕ) (t : S) (log' : List Ruled) → Track m stop vs next q t log' (runs m stop vs next q t log'))
    → Track m stop (v ∷ vs) phase p s log (on_turn u (runs m stop vs) (p + length (field v)))
track_on m stop v vs phase p s log (goes next t log') e again =
    track_goes m stop v vs phase p s log _ next t log' (passed m phase p v s log next t log' e) (again next (p + length (field v)) t log')
track_on m stop v vs phase p s log (stops x t log') e again = track_stops m stop (v ∷ vs) phase p s log _ (x, t, log', e, refl)

pub track : {S : Type 0} (m : Machine S) (stop : Stop) (vs : List Value) (phase : Phase) (p : ℕ) (s : S) (log : List Ruled)
    → Track m stop vs phase p s log (runs m stop vs phase p s log)
track m stop [] phase p s log = track_stops m stop [] phase p s log _ refl
track m stop (v ∷ vs) phase p s log = track_on m stop v vs phase p s log (turn m phase p v s log) refl (track m stop vs)
