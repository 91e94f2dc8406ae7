-- What is still to run.
use Rattle.std.proofs.Common.{◌≡◌, ℕ, ◌+◌, ◌*◌, ◌<◌, ◌≤◌, Bool, true, false, cond, ltb, List, [], ◌∷◌, ◌++◌, length, Some, None, Option, sym, refl, ap, ◌∙◌, arith, append-nil, length-append}
use Rattle.std.proofs.lemmas.Bool.{cond-true, cond-false, le-ltb, lt-ltb}
use Rattle.fields.specs.declared.field.Cause.{Cause}
use Rattle.fields.specs.Values.{Value, kind, band, list, stride, rule_out_field, end, field}
use Rattle.fields.specs.Reading.{bad, got, first, closed, Fields, fields, is_end}
use Rattle.fields.proofs.Laws.{fields_more, fields_end, fields_bad}
use Rattle.fields.specs.Causes.{cause_number}
use Rattle.faults.specs.Faults.{Fault, fault_in_field, out_of_sequence, too_long}
use Rattle.sequence.specs.declared.phase.Phase.{Phase}
use Rattle.sequence.specs.declared.phase.Phase.TheVariants.{Kinds, Goal, Strided, Rules, Done}
use Rattle.sequence.specs.declared.ruled.Ruled.{Ruled}
use Rattle.sequence.specs.Machines.{Machine}
use Rattle.sequence.specs.Sequence.{follow, owes, is_done}
use Rattle.sequence.specs.Running.{goes, stops, turn, Outcome, on_turn, runs, outcome}
use Rattle.sequence.specs.Words.{due, own, ruled_by}
use Rattle.sequence.proofs.Tracks.{passed}

-- the run from p on, where `rest` begins
abbrev pub ahead : {S : Type 0} → (m : Machine S) → Phase → ℕ → List ℕ → S → List Ruled → Outcome S
ahead m phase p rest s log =
    cond (is_done phase) (runs m (closed rest) [] phase p s log) (runs m (fields rest).stop (fields rest).values phase p s log)

-- the end field, and it alone, leads to the last phase
pub follow_end : (phase : Phase) (p : ℕ) (v : Value) (n : Phase) → follow phase p v ≡ Some n → is_done n ≡ is_end v
follow_end Kinds p (kind size price counts) n e = let s : n ≡ Kinds = cc in ap is_done s
follow_end Kinds p (band low high) n e = let s : n ≡ Goal p = cc in ap is_done s
follow_end Kinds p (list totals) n e = let s : n ≡ Goal p = cc in ap is_done s
follow_end (Goal g) p (stride modulus rest) n e = let s : n ≡ Strided g = cc in ap is_done s
follow_end (Goal g) p (rule_out_field k count) n e = let s : n ≡ Rules = cc in ap is_done s
follow_end (Goal g) p end n e = let s : n ≡ Done = cc in ap is_done s
follow_end (Strided g) p (rule_out_field k count) n e = let s : n ≡ Rules = cc in ap is_done s
follow_end (Strided g) p end n e = let s : n ≡ Done = cc in ap is_done s
follow_end Rules p (rule_out_field k count) n e = let s : n ≡ Rules = cc in ap is_done s
follow_end Rules p end n e = let s : n ≡ Done = cc in ap is_done s
follow_end phase p v n e = cc

-- a note takes no more room than its field
notes_room : {S : Type 0} (m : Machine S) (s : S) (g : Option ℕ) (v : Value) → 5 * length (ruled_by m s (due g (own v []))) ≤ length (field v)
notes_room m s None (rule_out_field k d) = omega arith
notes_room m s (Some g) (rule_out_field k d) = omega arith
notes_room m s g v = omega arith

-- a field that goes on: whether it is the end, and room for its note
pub went : {S : Type 0} (m : Machine S) (phase : Phase) (p : ℕ) (v : Value) (s : S) (log : List Ruled) (next : Phase) (t : S) (log' : List Ruled)
    → turn m phase p v s log ≡ goes next t log' → (is_done next ≡ is_end v) × (5 * length log' ≤ 5 * length log + length (field v))
went m phase p v s log next t log' e =
    let w = passed m phase p v s log next t log' e in
    let n : log ++ ruled_by m s (due (owes phase v) (own v [])) ≡ log' = w.leads.notes [] ∙ append-nil log' in
    let r = notes_room m s (owes phase v) v in
    (follow_end phase p v next w.follows, omega (arith, ap length n, length-append log (ruled_by m s (due (owes phase v) (own v [])))))

-- the run after a field, the last or not
abbrev after : {S : Type 0} → (m : Machine S) → Bool → List ℕ → Phase → ℕ → S → List Ruled → Outcome S
after m last rest phase p s log = cond last (runs m (closed rest) [] phase p s log) (runs m (fields rest).stop (fields rest).values phase p s log)

runs_first : {S : Type 0} (m : Machine S) (last : Bool) (phase : Phase) (p : ℕ) (rest : List ℕ) (v : Value) (rest' : List ℕ) (s : S) (log : List Ruled)
    → is_end v ≡ last → first rest ≡ got v rest'
    → runs m (fields rest).stop (fields rest).values phase p s log ≡ on_turn (turn m phase p v s log) (after m last rest') (p + length (field v))
runs_first m true phase p rest v rest' s log o f = ap (λ (x : Fields). runs m x.stop x.values phase p s log) (fields_end rest v rest' f o)
runs_first m false phase p rest v rest' s log o f = ap (λ (x : Fields). runs m x.stop x.values phase p s log) (fields_more rest v rest' f o)

-- a field that goes on leaves the rest to run
pub step : {S : Type 0} (m : Machine S) (phase : Phase) (p : ℕ) (rest : List ℕ) (v : Value) (rest' : List ℕ) (s : S) (log : List Ruled) (next : Phase) (t : S) (log' : List Ruled)
    → is_done phase ≡ false → first rest ≡ got v rest' → turn m phase p v s log ≡ goes next t log'
    → ahead m phase p rest s log ≡ ahead m next (p + length (field v)) rest' t log'
step m phase p rest v rest' s log next t log' d f e =
    cond-false (is_done phase) _ _ d
    ∙ (runs_first m (is_done next) phase p rest v rest' s log (sym (went m phase p v s log next t log' e).0) f
    ∙ ap (λ u. on_turn u (after m (is_done next) rest') (p + length (field v))) e)

-- a field that stops ends the run
pub fault : {S : Type 0} (m : Machine S) (phase : Phase) (p : ℕ) (rest : List ℕ) (v : Value) (rest' : List ℕ) (s : S) (log : List Ruled) (f : Fault) (t : S) (log' : List Ruled)
    → is_done phase ≡ false → first rest ≡ got v rest' → turn m phase p v s log ≡ stops f t log'
    → ahead m phase p rest s log ≡ record { fault = Some f; state = t; answers = log' }
fault m phase p rest v rest' s log f t log' d g e =
    cond-false (is_done phase) _ _ d
    ∙ (runs_first m (is_end v) phase p rest v rest' s log refl g ∙ ap (λ u. on_turn u (after m (is_end v) rest') (p + length (field v))) e)

-- a field that cannot be read ends the run
pub unread : {S : Type 0} (m : Machine S) (phase : Phase) (p : ℕ) (rest : List ℕ) (c : Cause) (s : S) (log : List Ruled)
    → is_done phase ≡ false → first rest ≡ bad c
    → ahead m phase p rest s log ≡ record { fault = Some (fault_in_field p (cause_number c)); state = s; answers = log }
unread m phase p rest c s log d e =
    cond-false (is_done phase) _ _ d ∙ ap (λ (x : Fields). runs m x.stop x.values phase p s log) (fields_bad rest c e)

-- past the end field the file ends, or stops at its next byte
pub ended : {S : Type 0} (m : Machine S) (phase : Phase) (p : ℕ) (rest : List ℕ) (s : S) (log : List Ruled)
    → is_done phase ≡ true → length rest ≡ 0 → ahead m phase p rest s log ≡ record { fault = None; state = s; answers = log }
ended m phase p [] s log d h = cond-true (is_done phase) _ _ d
ended m phase p (x ∷ xs) s log d h = absurd (omega arith)

pub beyond : {S : Type 0} (m : Machine S) (phase : Phase) (p : ℕ) (rest : List ℕ) (s : S) (log : List Ruled)
    → is_done phase ≡ true → 0 < length rest → ahead m phase p rest s log ≡ record { fault = Some (out_of_sequence p); state = s; answers = log }
beyond m phase p [] s log d h = absurd (omega arith)
beyond m phase p (x ∷ xs) s log d h = cond-true (is_done phase) _ _ d

pub ran_from : {S : Type 0} (m : Machine S) (file : List ℕ) (s : S) (o : Outcome S) → length file ≤ 16384 → ahead m Kinds 0 file s [] ≡ o → outcome m s file ≡ o
ran_from m file s o h e = cond-false (ltb 16384 (length file)) _ _ (le-ltb 16384 (length file) h) ∙ e

pub too_long_lem : {S : Type 0} (m : Machine S) (file : List ℕ) (s : S) (log : List Ruled) → 16384 < length file → log ≡ []
    → outcome m s file ≡ record { fault = Some too_long; state = s; answers = log }
too_long_lem m file s log h e =
    cond-true (ltb 16384 (length file)) _ _ (lt-ltb 16384 (length file) h) ∙ ap (λ l. record { fault = Some too_long; state = s; answers = l }) (sym e)
