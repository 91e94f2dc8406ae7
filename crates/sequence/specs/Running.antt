-- The run of a file, over its fields.
use Rattle.std.specs.Prelude.{ℕ, ◌+◌, cond, List, [], ◌∷◌, ◌++◌, length, Some, None, Option, nat_lt}
use Rattle.fields.specs.Values.{Value, kind, band, list, stride, rule_out_field, end, field}
use Rattle.fields.specs.Reading.{Stop, broken, closed, fields}
use Rattle.fields.specs.Causes.{cause_number}
use Rattle.faults.specs.Faults.{Fault, fault_in_field, out_of_sequence, fault_in_plan, too_long}
use Rattle.sequence.specs.declared.phase.Phase.{Phase}
use Rattle.sequence.specs.declared.phase.Phase.TheVariants.{Kinds}
use Rattle.sequence.specs.declared.ruled.Ruled.{Ruled}
use Rattle.model.specs.Answers.{Answer, accepted, refused}
use Rattle.sequence.specs.Machines.{Machine, acting, settling}
use Rattle.sequence.specs.Sequence.{follow, owes}

-- the answers so far, with that of a rule-out
abbrev pub noted : Value → ℕ → List Ruled → List Ruled
noted (kind size price counts) n log = log
noted (band low high) n log = log
noted (list totals) n log = log
noted (stride modulus rest) n log = log
noted (rule_out_field k d) n log = log ++ (record { kind = k; count = d; gone = n } ∷ [])
noted end n log = log

-- one field: the file goes on in a phase, or stops at a fault; with the state and the answers then
pub data Turn (S : Type 0) : Type 0 where
  goes : Phase → S → List Ruled → Turn S
  stops : Fault → S → List Ruled → Turn S

-- the field's own operation: a refusal has the field's place
abbrev pub operated : {S : Type 0} → Phase → ℕ → Value → List Ruled → S → Answer → Turn S
operated next p v log s (accepted n) = goes next s (noted v n log)
operated next p v log s (refused n) = stops (fault_in_plan p n) s log

-- the place of the goal that is settled
abbrev pub goal_place : Option ℕ → ℕ
goal_place None = 0
goal_place (Some g) = g

-- settle went first: its refusal has the goal's place
abbrev pub settled_first : {S : Type 0} → (m : Machine S) → Phase → ℕ → Value → List Ruled → Option ℕ → S → Answer → Turn S
settled_first m next p v log g s (accepted n) = operated next p v log (acting m s v).0 (acting m s v).1
settled_first m next p v log g s (refused n) = stops (fault_in_plan (goal_place g) n) s log

-- a field is in sequence, or 19
abbrev pub in_sequence : {S : Type 0} → (m : Machine S) → ℕ → Value → S → List Ruled → Option ℕ → Option Phase → Turn S
in_sequence m p v s log g None = stops (out_of_sequence p) s log
in_sequence m p v s log g (Some next) = settled_first m next p v log g (settling m s g).0 (settling m s g).1

-- a field at p: in sequence; then settle, where it is owed; then its own operation
abbrev pub turn : {S : Type 0} → (m : Machine S) → Phase → ℕ → Value → S → List Ruled → Turn S
turn m phase p v s log = in_sequence m p v s log (owes phase v) (follow phase p v)

-- how a run ends: its fault, if any, the state and the answers of the rule-outs
pub record Outcome (S : Type 0) : Type 0 where
  pub fault : Option Fault
  pub state : S
  pub answers : List Ruled

-- after the last field: its fault, or 19 at the first byte after the end
abbrev pub stopped : Stop → ℕ → Option Fault
stopped (broken c) p = Some (fault_in_field p (cause_number c))
stopped (closed []) p = None
stopped (closed (x ∷ xs)) p = Some (out_of_sequence p)

-- the run after one field
abbrev pub on_turn : {S : Type 0} → Turn S → (Phase → ℕ → S → List Ruled → Outcome S) → ℕ → Outcome S
on_turn (goes next s log) then p = then next p s log
on_turn (stops f s log) then p = record { fault = Some f; state = s; answers = log }

-- the fields from p on, one by one
abbrev pub runs : {S : Type 0} → (m : Machine S) → Stop → List Value → Phase → ℕ → S → List Ruled → Outcome S
runs m stop [] phase p s log = record { fault = stopped stop p; state = s; answers = log }
runs m stop (v ∷ vs) phase p s log = on_turn (turn m phase p v s log) (runs m stop vs) (p + length (field v))

-- the whole file
abbrev pub outcome : {S : Type 0} → (m : Machine S) → S → List ℕ → Outcome S
outcome m s file =
    cond (nat_lt 16384 (length file)) (record { fault = Some too_long; state = s; answers = [] })
    (runs m (fields file).stop (fields file).values Kinds 0 s [])
