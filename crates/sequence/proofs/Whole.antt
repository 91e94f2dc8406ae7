-- From the outcome of a run to all that is said of it.
use Rattle.std.proofs.Common.{◌≡◌, ℕ, ◌<◌, ◌≤◌, ltb, ◌⊎◌, List, [], ◌++◌, length, Some, None, Option, sym, refl, ap, ◌∙◌, subst, inl, inr, append_assoc, append-nil, arith}
use Rattle.std.proofs.lemmas.Bool.{cond-true, cond-false, le-ltb, lt-ltb, cases_lt}
use Rattle.std.specs.List.{AllByRecursion}
use Rattle.fields.specs.Values.{Value, write, Fine}
use Rattle.fields.specs.Reading.{Bytes, Stop, broken, closed, Fields, fields, Left, Ends}
use Rattle.fields.proofs.Laws.{wrote}
use Rattle.faults.specs.Faults.{Fault, too_long}
use Rattle.sequence.specs.declared.phase.Phase.{Phase}
use Rattle.sequence.specs.declared.phase.Phase.TheVariants.{Kinds, Done}
use Rattle.sequence.specs.declared.ruled.Ruled.{Ruled}
use Rattle.sequence.specs.Machines.{Machine}
use Rattle.sequence.specs.Sequence.{reach, InOrder}
use Rattle.sequence.specs.Running.{Outcome, runs, outcome}
use Rattle.sequence.specs.Words.{calls, calls_in, after_all, AllAccepted, ruled_by, Completed, FaultAt, Faulted, TooMany, Ran}
use Rattle.sequence.proofs.Order.{only, all}
use Rattle.sequence.proofs.Tracks.{Track, track}
use Rattle.sequence.proofs.Calling.{calls_in_lem, done_is, reach_last, reach_open}
use Rattle.sequence.proofs.Faulting.{Closes, ending_fault, ending_none}
use Rattle.sequence.proofs.Passing.{runs_all, lasts, write_append, fine_front, fine_back, fields_whole}

-- the phase where all fields that were read have passed
closes : (stop : Stop) (vs : List Value) (n : Phase) → Ends stop vs → reach Kinds 0 vs ≡ Some n → Closes stop n
closes (broken c) vs n h r = reach_open vs Kinds n 0 refl h r
closes (closed rest) vs n h r = reach_last h.0 Kinds n 0 (subst (λ (t : List Value). reach Kinds 0 t ≡ Some n) h.1 r)

module _ {S : Type 0} (m : Machine S) (file : List ℕ) (s t : S) (log : List Ruled) (by : Bytes file) where
  short : (f : Option Fault) → length file ≤ 16384 → outcome m s file ≡ record { fault = f; state = t; answers = log }
      → runs m (fields file).stop (fields file).values Kinds 0 s [] ≡ record { fault = f; state = t; answers = log }
  short f h e = sym (cond-false (ltb 16384 (length file)) _ _ (le-ltb 16384 (length file) h)) ∙ e

  long : (f : Option Fault) → 16384 < length file → outcome m s file ≡ record { fault = f; state = t; answers = log }
      → ◌≡◌ {A = Outcome S} (record { fault = Some too_long; state = s; answers = [] }) (record { fault = f; state = t; answers = log })
  long f h e = sym (cond-true (ltb 16384 (length file)) _ _ (lt-ltb 16384 (length file) h)) ∙ e

  tracked : (f : Option Fault) → length file ≤ 16384 → outcome m s file ≡ record { fault = f; state = t; answers = log }
      → Track m (fields file).stop (fields file).values Kinds 0 s [] (record { fault = f; state = t; answers = log })
  tracked f h e =
      subst (Track m (fields file).stop (fields file).values Kinds 0 s []) (short f h e) (track m (fields file).stop (fields file).values Kinds 0 s [])

  completed_at : Track m (fields file).stop (fields file).values Kinds 0 s [] (record { fault = None; state = t; answers = log }) → Completed m file s t log
  completed_at r =
      let w = wrote file by in
      let n = ending_none m (fields file).stop r.next r.q r.ws r.t r.log' t log r.ending in
      let us : r.us ≡ (fields file).values = sym (r.parts ∙ (ap (λ (x : List Value). r.us ++ x) n.0 ∙ append-nil r.us)) in
      let rest : w.0 ≡ [] = subst (λ (x : Stop). Left x w.0) n.1 w.2 in
      let reached : reach Kinds 0 (fields file).values ≡ Some r.next = subst (λ (x : List Value). reach Kinds 0 x ≡ Some r.next) us r.sequence in
      let done : r.next ≡ Done = done_is r.next (subst (λ (x : Stop). Closes x r.next) n.1 (closes (fields file).stop (fields file).values r.next w.4 reached)) in
      let o : InOrder (fields file).values = only (fields file).values (reached ∙ ap Some done) in
      let cs : calls Kinds 0 r.us ≡ calls_in o = ap (calls Kinds 0) us ∙ calls_in_lem (fields file).values o in
      record {
        values = (fields file).values;
        file_is = w.1 ∙ (ap (λ (x : List ℕ). write (fields file).values ++ x) rest ∙ append-nil (write (fields file).values));
        fine = w.3;
        order = o;
        all_accepted = subst (AllAccepted m s) cs r.all_accepted;
        state = n.2 ∙ (r.state ∙ ap (after_all m s) cs);
        answers = n.3 ∙ (r.notes ∙ ap (ruled_by m s) cs);
      }

  done_of : outcome m s file ≡ record { fault = None; state = t; answers = log } → Completed m file s t log
  done_of e =
      elim (cases_lt 16384 (length file)) [
        | inl h ↦ let a = ap (λ (o : Outcome S). o.fault) (long None h e) in absurd cc
        | inr h ↦ completed_at (tracked None h e)
      ]

  faulted_at : (x : Fault) → Track m (fields file).stop (fields file).values Kinds 0 s [] (record { fault = Some x; state = t; answers = log }) → Faulted m file s x t log
  faulted_at x r =
      let w = wrote file by in
      let fine : AllByRecursion Fine (r.us ++ r.ws) = subst (AllByRecursion Fine) r.parts w.3 in
      let at : r.q ≡ length (write r.us) = omega (arith, r.place) in
      let c : r.ws ≡ [] → Closes (fields file).stop r.next =
      λ e.
      closes (fields file).stop (fields file).values r.next w.4
      (subst (λ (y : List Value). reach Kinds 0 y ≡ Some r.next) (sym (r.parts ∙ (ap (λ (z : List Value). r.us ++ z) e ∙ append-nil r.us))) r.sequence) in
      let f = ending_fault m (fields file).stop r.next r.q r.ws r.t r.log' x t log w.0 r.ending w.2 c (fine_back r.us r.ws fine) in
      record {
        values = r.us;
        rest = write r.ws ++ w.0;
        phase = r.next;
        file_is = w.1 ∙ (ap (λ (y : List Value). write y ++ w.0) r.parts ∙ (ap (λ (y : List ℕ). y ++ w.0) (write_append r.us r.ws) ∙ append_assoc (write r.us) (write r.ws) w.0));
        fine = fine_front r.us r.ws fine;
        sequence = r.sequence;
        all_accepted = r.all_accepted;
        answers = f.1 ∙ r.notes;
        fault =
            subst (λ (q : ℕ). FaultAt m r.next q (write r.ws ++ w.0) (after_all m s (calls Kinds 0 r.us)) x t) at
            (subst (λ (u : S). FaultAt m r.next r.q (write r.ws ++ w.0) u x t) r.state f.0);
      }

  fault_of_lem : (x : Fault) → outcome m s file ≡ record { fault = Some x; state = t; answers = log } → TooMany m file s x t log ⊎ Faulted m file s x t log
  fault_of_lem x e =
      elim (cases_lt 16384 (length file)) [
        | inl h ↦
            let k = long (Some x) h e in
            let a = ap (λ (o : Outcome S). o.fault) k in
            inl (record { long = h; fault = cc; state = sym (ap (λ (o : Outcome S). o.state) k); answers = sym (ap (λ (o : Outcome S). o.answers) k) })
        | inr h ↦ inr (faulted_at x (tracked (Some x) h e))
      ]

  whole_of : (f : Option Fault) → outcome m s file ≡ record { fault = f; state = t; answers = log }
      → (values : List Value) (order : InOrder values) → file ≡ write values → AllByRecursion Fine values → length file ≤ 16384 → AllAccepted m s (calls_in order) → f ≡ None
  whole_of f e values order is fine h acc =
      let r = all values order in
      let fs : fields file ≡ record { values = values; stop = closed [] } = ap fields is ∙ fields_whole values (lasts values Kinds 0 refl r) fine in
      sym (ap (λ (o : Outcome S). o.fault) (short f h e))
      ∙ (ap (λ (x : Fields). (runs m x.stop x.values Kinds 0 s []).fault) fs
      ∙ runs_all m (closed []) values Done Kinds 0 s [] r (subst (AllAccepted m s) (sym (calls_in_lem values order)) acc))

pub ran : {S : Type 0} (m : Machine S) (file : List ℕ) (s : S) (f : Option Fault) (t : S) (log : List Ruled) → Bytes file
    → outcome m s file ≡ record { fault = f; state = t; answers = log } → Ran m file s f t log
ran m file s f t log by e =
    let at : (g : Option Fault) → f ≡ g → outcome m s file ≡ record { fault = g; state = t; answers = log } =
    λ g n. e ∙ ap (λ (x : Option Fault). record { fault = x; state = t; answers = log }) n in
    record {
      ends = e;
      done = λ n. done_of m file s t log by (at None n);
      faults = λ x n. fault_of_lem m file s t log by x (at (Some x) n);
      whole = whole_of m file s t log by f e;
    }
