-- The outcomes of reading a file, with two tables lent that hold f and b at first.
use Rattle.std.specs.Prelude.{◌≡◌, ℕ, ◌<◌, true, false, cond, ◌⊎◌, List, [], ◌∷◌, ◌++◌, map, length, replicate, Some, None, Option, ◌==◌}
use Rattle.model.specs.Answers.{accepted, option_as, refused}
use Rattle.model.specs.Cases.{allowed_parts}
use Rattle.model.specs.Goals.{Target}
use Rattle.meaning.specs.Cells.{over}
use Rattle.meaning.specs.Life.{Shown, backward_marks, blank, forward_marks, lives, settles}
use Rattle.meaning.specs.Plan.{State}
use Rattle.meaning.specs.Problems.{Problem, needed, short}
use Rattle.meaning.specs.Register.{after, answers, rule_out, start, step}
use Rattle.fields.specs.declared.field.Cause.{Cause}
use Rattle.fields.specs.Causes.{cause_number}
use Rattle.std.specs.List.{AllByRecursion}
use Rattle.fields.specs.Values.{Value, rule_out_field, write, Fine}
use Rattle.fields.specs.Reading.{bad, first, got}
use Rattle.faults.specs.Faults.{Fault, fault_in_field, out_of_sequence, fault_in_plan, too_long}
use Rattle.sequence.specs.declared.phase.Phase.{Phase}
use Rattle.sequence.specs.declared.phase.Phase.TheVariants.{Kinds, Goal, Strided, Rules, Done}
use Rattle.sequence.specs.declared.ruled.Ruled.{Ruled}
use Rattle.sequence.specs.Sequence.{InOrder, follow, is_done, is_goal, owes, reach}
use Rattle.sequence.specs.Words.{Ran}
use Rattle.reader.specs.Holding.{Holding, fresh}
use Rattle.outcomes.specs.Desk.{desk}
use Rattle.outcomes.specs.Named.{calls_named, goal_named, kinds_named, making_refused, problem_named}

-- Settled: the case has the kinds of the fields, and the plan these kinds and the goal of the fields; it shows the register of their
-- rule-outs after a settle; the answers are the register's; and each table
-- is long enough and holds the marks of the plan, what stood past them staying.
pub record Showing (f b : List ℕ) (values : List Value) (log : List Ruled) (h : Holding) : Type 0 where
  pub problem : Problem
  pub state : State
  pub case : h.kinds ≡ kinds_named values
  pub life : h.life ≡ Some (lives problem state)
  pub kinds : allowed_parts problem.kinds ≡ kinds_named values
  pub goal : goal_named values ≡ Some problem.goal
  pub room : short problem (length f) (length b) ≡ false
  pub register : Shown (lives problem state) (after problem start (calls_named (length f) (length b) values))
  pub rows : map (λ row. rule_out row.kind row.count (length f) (length b)) log ≡ calls_named (length f) (length b) values
  pub answered : map (λ row. accepted row.gone) log ≡ answers problem start (calls_named (length f) (length b) values)
  pub ahead : h.forward ≡ over (forward_marks (lives problem state)) f
  pub back : h.backward ≡ over (backward_marks (lives problem state)) b

-- Not settled: the case has the kinds of the fields, the plan is blank over their goal, once there is one, and the tables hold f and b.
pub record Waiting (f b : List ℕ) (values : List Value) (log : List Ruled) (h : Holding) : Type 0 where
  pub case : h.kinds ≡ kinds_named values
  pub life : h.life ≡ option_as blank (goal_named values)
  pub ahead : h.forward ≡ f
  pub back : h.backward ≡ b
  pub none : log ≡ []

-- after fields that led to a phase
abbrev pub Standing : Phase → List ℕ → List ℕ → List Value → List Ruled → Holding → Type 0
Standing Kinds f b values log h = Waiting f b values log h
Standing (Goal g) f b values log h = Waiting f b values log h
Standing (Strided g) f b values log h = Waiting f b values log h
Standing Rules f b values log h = Showing f b values log h
Standing Done f b values log h = Showing f b values log h

-- settle, with the kinds and the goal of the fields, is refused under a number
pub record SettleRefused (f b : List ℕ) (values : List Value) (t : Target) (n : ℕ) : Type 0 where
  pub goal : goal_named values ≡ Some t
  pub kinds : allowed_parts (problem_named values t).kinds ≡ kinds_named values
  pub answer : (settles (blank t) (problem_named values t).kinds (length f) (length b)).1 ≡ refused n

-- what a table then holds: refusal 8 clears the needed cells, the others leave it
abbrev pub left_by : ℕ → ℕ → List ℕ → List ℕ
left_by n cells before = cond (n == 8) (over (replicate cells 0) before) before

-- g is the place of the band or list among the fields
abbrev pub GoalAt : List Value → ℕ → Type 0
GoalAt values g = (ks : List Value) × (goal : Value) × (ss : List Value) × (values ≡ ks ++ (goal ∷ ss)) × (is_goal goal ≡ true) × (g ≡ length (write ks))

-- The fault at q, where `rest` begins, after fields that led to a phase; and what is held then.
pub data Stops (f b : List ℕ) (phase : Phase) (values : List Value) (q : ℕ) (rest : List ℕ) : Fault → Holding → List Ruled → Type 0 where
  -- no field can be read
  unread : (c : Cause) (h : Holding) (log : List Ruled) → is_done phase ≡ false → first rest ≡ bad c → Standing phase f b values log h
      → Stops f b phase values q rest (fault_in_field q (cause_number c)) h log
  -- a byte stands after the end
  beyond : (x : ℕ) (xs : List ℕ) (h : Holding) (log : List Ruled) → is_done phase ≡ true → rest ≡ x ∷ xs → Standing phase f b values log h
      → Stops f b phase values q rest (out_of_sequence q) h log
  -- a field is read that does not follow
  unfit : (v : Value) (r : List ℕ) (h : Holding) (log : List Ruled) → first rest ≡ got v r → follow phase q v ≡ None → Standing phase f b values log h
      → Stops f b phase values q rest (out_of_sequence q) h log
  -- a kind, a goal or a stride is refused
  unmade : (v : Value) (r : List ℕ) (next : Phase) (n : ℕ) (h : Holding) (log : List Ruled) → first rest ≡ got v r → follow phase q v ≡ Some next
      → making_refused values v ≡ Some n → Waiting f b values log h → Stops f b phase values q rest (fault_in_plan q n) h log
  -- settle, owed at this field, is refused: the place of the band or list
  unsettled : (v : Value) (r : List ℕ) (next : Phase) (g n : ℕ) (t : Target) (h : Holding) (log : List Ruled) → first rest ≡ got v r
      → follow phase q v ≡ Some next → owes phase v ≡ Some g → GoalAt values g → SettleRefused f b values t n
      → Waiting (left_by n (needed (problem_named values t)) f) (left_by n (needed (problem_named values t)) b) values log h
      → Stops f b phase values q rest (fault_in_plan g n) h log
  -- a rule-out is refused, as the register refuses it
  unruled : (k d : ℕ) (r : List ℕ) (next : Phase) (n : ℕ) (h : Holding) (log : List Ruled) → first rest ≡ got (rule_out_field k d) r
      → follow phase q (rule_out_field k d) ≡ Some next → (now : Showing f b values log h)
      → (step now.problem (after now.problem start (calls_named (length f) (length b) values)) (rule_out k d (length f) (length b))).1 ≡ refused n
      → Stops f b phase values q rest (fault_in_plan q n) h log

-- The fault is the first in file order: before it stand fields in sequence, whose operations were all accepted.
pub record Faulted (file f b : List ℕ) (x : Fault) (h : Holding) (log : List Ruled) : Type 0 where
  pub values : List Value
  pub rest : List ℕ
  pub phase : Phase
  pub file_is : file ≡ write values ++ rest
  pub fine : AllByRecursion Fine values
  pub sequence : reach Kinds 0 values ≡ Some phase
  pub stops : Stops f b phase values (length (write values)) rest x h log

-- The file has too many bytes: none of them is read.
pub record TooMany (file f b : List ℕ) (x : Fault) (h : Holding) (log : List Ruled) : Type 0 where
  pub long : 16384 < length file
  pub fault : x ≡ too_long
  pub state : h ≡ fresh f b
  pub none : log ≡ []

-- No fault: the file is the writing of exactly one list of fields in order, and the plan is settled with what they name.
pub record Accepted (file f b : List ℕ) (h : Holding) (log : List Ruled) : Type 0 where
  pub values : List Value
  pub file_is : file ≡ write values
  pub fine : AllByRecursion Fine values
  pub order : InOrder values
  pub only : (others : List Value) → InOrder others → AllByRecursion Fine others → file ≡ write others → others ≡ values
  pub showing : Showing f b values log h

-- A reading: its defined outcome, and what that means.
pub record Read (file f b : List ℕ) (o : Option Fault) (h : Holding) (log : List Ruled) : Type 0 where
  pub ran : Ran desk file (fresh f b) o h log
  pub accepted : o ≡ None → Accepted file f b h log
  pub faulted : (x : Fault) → o ≡ Some x → TooMany file f b x h log ⊎ Faulted file f b x h log

-- every run that ends as defined has such an outcome
abbrev pub OutcomesTold : Type 0
OutcomesTold = (file f b : List ℕ) (o : Option Fault) (h : Holding) (log : List Ruled) → Ran desk file (fresh f b) o h log → Read file f b o h log
