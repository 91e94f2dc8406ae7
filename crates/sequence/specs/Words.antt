-- What a run is, in the words of files, fields and operations.
use Rattle.std.specs.Prelude.{◌≡◌, ℕ, ◌+◌, ◌<◌, ◌≤◌, Bool, true, false, cond, ◌⊎◌, List, [], ◌∷◌, ◌++◌, map, length, Some, None, Option}
use Rattle.fields.specs.declared.field.Cause.{Cause}
use Rattle.std.specs.List.{AllByRecursion}
use Rattle.fields.specs.Values.{Value, field, write, Fine}
use Rattle.fields.specs.Reading.{bad, got, first, is_end}
use Rattle.fields.specs.Causes.{cause_number}
use Rattle.faults.specs.Faults.{Fault, fault_in_field, out_of_sequence, fault_in_plan, too_long}
use Rattle.sequence.specs.declared.phase.Phase.{Phase}
use Rattle.sequence.specs.declared.phase.Phase.TheVariants.{Kinds}
use Rattle.sequence.specs.declared.ruled.Ruled.{Ruled}
use Rattle.model.specs.Answers.{Answer, accepted, refused}
use Rattle.sequence.specs.Machines.{Machine, Operation, of, settled, acting, settling}
use Rattle.sequence.specs.Sequence.{follow, owes, is_done, reach, InOrder}
use Rattle.sequence.specs.Running.{noted, outcome}

-- settle, where it is owed, comes first
abbrev pub due : Option ℕ → List Operation → List Operation
due None cs = cs
due (Some g) cs = settled ∷ cs

-- the call of a field of its own; the end has none
abbrev pub own : Value → List Operation → List Operation
own v cs = cond (is_end v) cs (of v ∷ cs)

-- the calls of the fields after it
abbrev pub calls_on : Option Phase → (Phase → List Operation) → List Operation
calls_on None then = []
calls_on (Some next) then = then next

-- the calls of all the fields
abbrev pub calls : Phase → ℕ → List Value → List Operation
calls phase p [] = []
calls phase p (v ∷ vs) = due (owes phase v) (own v (calls_on (follow phase p v) (λ next. calls next (p + length (field v)) vs)))

-- the calls of a whole file: each field's own, and settle between the goal with its stride and the rest
abbrev pub calls_in : {vs : List Value} → InOrder vs → List Operation
calls_in o = map of o.kinds ++ (of o.goal ∷ (map of o.strides ++ (settled ∷ map of o.rules)))

-- the call was accepted
abbrev pub is_accepted : Answer → Bool
is_accepted (accepted n) = true
is_accepted (refused n) = false

-- the number in an answer
abbrev pub number : Answer → ℕ
number (accepted n) = n
number (refused n) = n

-- the state after calls that were made one after the other
abbrev pub after_all : {S : Type 0} → (m : Machine S) → S → List Operation → S
after_all m s [] = s
after_all m s (c ∷ cs) = after_all m (m s c).0 cs

-- all of them were accepted
abbrev pub AllAccepted : {S : Type 0} → (m : Machine S) → S → List Operation → Type 0
AllAccepted m s [] = Unit {0}
AllAccepted m s (c ∷ cs) = (is_accepted (m s c).1 ≡ true) × AllAccepted m (m s c).0 cs

-- the row that a call leaves, if it was a rule-out
abbrev pub note_of : Operation → ℕ → List Ruled
note_of (of v) n = noted v n []
note_of settled n = []

-- the answers of the rule-outs among them
abbrev pub ruled_by : {S : Type 0} → (m : Machine S) → S → List Operation → List Ruled
ruled_by m s [] = []
ruled_by m s (c ∷ cs) = note_of c (number (m s c).1) ++ ruled_by m (m s c).0 cs

-- the file is the writing of fields in order, and the planner went through exactly their calls, all accepted
pub record Completed {S : Type 0} (m : Machine S) (file : List ℕ) (before after : S) (log : List Ruled) : Type 0 where
  pub values : List Value
  pub file_is : file ≡ write values
  pub fine : AllByRecursion Fine values
  pub order : InOrder values
  pub all_accepted : AllAccepted m before (calls_in order)
  pub state : after ≡ after_all m before (calls_in order)
  pub answers : log ≡ ruled_by m before (calls_in order)

-- the fault at q, where `rest` begins and fields in sequence have led to a phase and a state; and the state after it
pub data FaultAt {S : Type 0} (m : Machine S) (phase : Phase) (q : ℕ) (rest : List ℕ) (s : S) : Fault → S → Type 0 where
  -- no field can be read
  unread : (c : Cause) → is_done phase ≡ false → first rest ≡ bad c → FaultAt m phase q rest s (fault_in_field q (cause_number c)) s
  -- a byte after the end
  beyond : (b : ℕ) (bs : List ℕ) → is_done phase ≡ true → rest ≡ b ∷ bs → FaultAt m phase q rest s (out_of_sequence q) s
  -- a field that is read but does not follow
  unfit : (v : Value) (r : List ℕ) → first rest ≡ got v r → follow phase q v ≡ None → FaultAt m phase q rest s (out_of_sequence q) s
  -- settle, owed at this field, is refused: the goal's place
  unsettled : (v : Value) (r : List ℕ) (next : Phase) (g n : ℕ) → first rest ≡ got v r → follow phase q v ≡ Some next → owes phase v ≡ Some g
      → (m s settled).1 ≡ refused n → FaultAt m phase q rest s (fault_in_plan g n) (m s settled).0
  -- the field's own operation is refused, after an accepted settle where one was owed
  undone : (v : Value) (r : List ℕ) (next : Phase) (n : ℕ) → first rest ≡ got v r → follow phase q v ≡ Some next
      → is_accepted (settling m s (owes phase v)).1 ≡ true → (acting m (settling m s (owes phase v)).0 v).1 ≡ refused n
      → FaultAt m phase q rest s (fault_in_plan q n) (acting m (settling m s (owes phase v)).0 v).0

-- the fault is the first in file order: before it stand fields in sequence with all their calls accepted
pub record Faulted {S : Type 0} (m : Machine S) (file : List ℕ) (before : S) (f : Fault) (after : S) (log : List Ruled) : Type 0 where
  pub values : List Value
  pub rest : List ℕ
  pub phase : Phase
  pub file_is : file ≡ write values ++ rest
  pub fine : AllByRecursion Fine values
  pub sequence : reach Kinds 0 values ≡ Some phase
  pub all_accepted : AllAccepted m before (calls Kinds 0 values)
  pub answers : log ≡ ruled_by m before (calls Kinds 0 values)
  pub fault : FaultAt m phase (length (write values)) rest (after_all m before (calls Kinds 0 values)) f after

-- the file has too many bytes, and none of them is read
pub record TooMany {S : Type 0} (m : Machine S) (file : List ℕ) (before : S) (f : Fault) (after : S) (log : List Ruled) : Type 0 where
  pub long : 16384 < length file
  pub fault : f ≡ too_long
  pub state : after ≡ before
  pub answers : log ≡ []

-- a run: its defined outcome, and what that means
pub record Ran {S : Type 0} (m : Machine S) (file : List ℕ) (before : S) (f : Option Fault) (after : S) (log : List Ruled) : Type 0 where
  pub ends : outcome m before file ≡ record { fault = f; state = after; answers = log }
  pub done : f ≡ None → Completed m file before after log
  pub faults : (x : Fault) → f ≡ Some x → TooMany m file before x after log ⊎ Faulted m file before x after log
  -- fields in order whose calls are all accepted are run without fault
  pub whole : (values : List Value) (order : InOrder values) → file ≡ write values → AllByRecursion Fine values → length file ≤ 16384
      → AllAccepted m before (calls_in order) → f ≡ None
