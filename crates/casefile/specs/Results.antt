-- What the results of the calls say.
use Rattle.std.specs.Prelude.{◌≡◌, ℕ, List, Some, None, Ok, Err, Option, Result}
use Rattle.model.specs.declared.refusal.Refusal.{Refusal}
use Rattle.model.specs.Answers.{Answer, accepted, answer_of, refused}
use Rattle.model.specs.Refusals.{number_of}
use Rattle.faults.specs.Faults.{Fault, told}
use Rattle.fields.specs.declared.placed.Placed.{Placed}
use Rattle.faults.specs.declared.fault.FileFault.{FileFault}
use Rattle.sequence.specs.declared.phase.Phase.{Phase}
use Rattle.sequence.specs.declared.ruled.Ruled.{Ruled}
use Rattle.sequence.specs.Running.{Turn, goal_place, goes, stops}
use Rattle.reader.specs.Holding.{Holding}

-- an operation's answer at its place in the file
abbrev pub placed : ℕ → Result ℕ Refusal → Result ℕ (Placed Refusal)
placed p (Ok n) = Ok n
placed p (Err e) = Err (record { place = p; cause = e })

-- what is held afterwards, and the answer, are those given
pub record Did (after : Holding) (r : Result ℕ Refusal) (x : Holding × Answer) : Type 0 where
  pub state : after ≡ x.0
  pub answer : answer_of r ≡ x.1

-- settle's answer, where it was owed; a refusal has the goal's place
abbrev pub answer_at : Result ℕ (Placed Refusal) → Answer
answer_at (Ok n) = accepted n
answer_at (Err f) = refused (number_of f.cause)

-- the place of a refusal
abbrev pub At : ℕ → Result ℕ (Placed Refusal) → Type 0
At p (Ok n) = Unit {0}
At p (Err f) = f.place ≡ p

-- what is held after a settle that was owed, its answer and its place
pub record SettledAt (g : Option ℕ) (after : Holding) (r : Result ℕ (Placed Refusal)) (x : Holding × Answer) : Type 0 where
  pub state : after ≡ x.0
  pub answer : answer_at r ≡ x.1
  pub place : At (goal_place g) r

-- what one field came to
abbrev pub turned : Result Phase FileFault → Holding → List Ruled → Turn Holding
turned (Ok next) s log = goes next s log
turned (Err f) s log = stops (told f) s log

-- what a result says of a fault
abbrev pub fault_of : {X : Type 0} → Result X FileFault → Option Fault
fault_of (Ok x) = None
fault_of (Err f) = Some (told f)
