-- The life of a plan: blank over a goal, then settled with a case; and what each call does to it.
use Rattle.std.specs.Prelude.{◌≡◌, ℕ, ◌+◌, ◌-◌, ◌<◌, ◌≤◌, Bool, true, false, cond, ◌&&◌, ◌↔◌, List, [], ◌∷◌, length, replicate, ◌==◌, nat_le, nat_lt, slice_index}
use Rattle.std.specs.List.{AllByRecursion}
use Rattle.meaning.specs.Cells.{over, tallies, tallies_back}
use Rattle.meaning.specs.Measures.{Means}
use Rattle.meaning.specs.Models.{yes_no}
use Rattle.meaning.specs.Plan.{Shows, State, does, settled}
use Rattle.meaning.specs.Problems.{Problem, allowed_sets, fitting, is_empty, kinds_of, needed, short, uses}
use Rattle.meaning.specs.Register.{Call, Register, after, answers, loads_of, rule_out, start, step}
use Rattle.meaning.specs.Tallies.{tally_of, tally_over}
use Rattle.model.specs.Answers.{Answer, Outcome, accepted, refuse, refused}
use Rattle.model.specs.Goals.{Target}
use Rattle.model.specs.declared.kind.Kind.{Kind}
use Rattle.model.specs.Parts.{parts}
use Rattle.model.specs.Sets.{has, held_in_all, set_of}

pub data Life : Type 0 where
  blank : Target → Life
  lives : Problem → State → Life

-- what a call does: refused 9 while the plan is blank
abbrev pub act : Life → Call → Life × Answer
act (blank g) x = (blank g, refused 9)
act (lives c s) x = (lives c (does c s x).0, (does c s x).1)

-- what a settle does
abbrev pub settles : Life → List Kind → ℕ → ℕ → Life × Answer
settles (lives c s) kinds forward backward = (lives c s, refused 9)
settles (blank g) kinds forward backward =
    let c : Problem = record { kinds = kinds; goal = g } in
    refuse (blank g) (is_empty kinds) 6
    (refuse (blank g) (short c forward backward) 7
    (refuse (blank g) (is_empty (fitting c (allowed_sets c))) 8
    (lives c (settled c), accepted (held_in_all (settled c).standing))))

-- the plan shows the register
abbrev pub Shown : Life → Register → Type 0
Shown (blank g) r = ⊥
Shown (lives c s) r = Shows c s r

-- The call went as defined; and whatever register the plan showed, it shows that register after the call, which answers the same.
abbrev pub Follows : Life → Call → Life → Answer → Type 0
Follows (blank g) x l a = Unit {0}
Follows (lives c s) x l a = (r : Register) → Shows c s r → Shown l (step c r x).0 × (a ≡ (step c r x).1)

pub record Called (before : Life) (x : Call) (after : Life) (a : Answer) : Type 0 where
  pub life : after ≡ (act before x).0
  pub answer : a ≡ (act before x).1
  pub follows : Follows before x after a

-- A settle went as defined, and an accepted one shows the empty register.
abbrev pub Begins : Life → Answer → Type 0
Begins l (accepted n) = Shown l start
Begins l (refused k) = Unit {0}

pub record Settled (before : Life) (kinds : List Kind) (forward backward : ℕ) (after : Life) (a : Answer) : Type 0 where
  pub life : after ≡ (settles before kinds forward backward).0
  pub answer : a ≡ (settles before kinds forward backward).1
  pub begins : Begins after a

-- the marks of a plan
abbrev pub wide : Target → ℕ
wide g = g.top + 1

abbrev pub forward_marks : Life → List ℕ
forward_marks (blank g) = []
forward_marks (lives c s) = tallies yes_no (parts c.kinds s.standing) (wide c.goal)

abbrev pub backward_marks : Life → List ℕ
backward_marks (blank g) = []
backward_marks (lives c s) = tallies_back yes_no c.goal.admits (parts c.kinds s.standing) (wide c.goal)

-- what a table holds after a call: the marks where it was accepted or refused 8, and else what it held
abbrev pub marked : List ℕ → Answer → List ℕ → List ℕ
marked marks (accepted n) before = over marks before
marked marks (refused k) before = cond (k == 8) (over marks before) before

-- what a table holds after a settle of n kinds over a goal: refusal 8 clears the needed cells
abbrev pub marked_first : List ℕ → ℕ → Answer → List ℕ → List ℕ
marked_first marks cells (accepted n) before = over marks before
marked_first marks cells (refused k) before = cond (k == 8) (over (replicate cells 0) before) before

-- what a table holds after a withdraw
abbrev pub remarked : List ℕ → Answer → List ℕ → List ℕ
remarked marks (accepted n) before = over marks before
remarked marks (refused k) before = before

-- The standing set of kind i.
abbrev pub standing_set : Life → ℕ → Answer
standing_set (blank g) i = refused 9
standing_set (lives c s) i = cond (nat_le 1 i && nat_le i (kinds_of c)) (accepted (slice_index s.standing (i - 1))) (refused 10)

-- it holds the counts that the loads of any register have that the plan shows
abbrev pub UsedBy : Life → ℕ → Answer → Type 0
UsedBy (blank g) i a = Unit {0}
UsedBy (lives c s) i (refused k) = Unit {0}
UsedBy (lives c s) i (accepted set) = (r : Register) → Shows c s r → set ≡ set_of (uses (loads_of c r.ruled) (i - 1))

pub record Standing (l : Life) (i : ℕ) (a : Answer) : Type 0 where
  pub answer : a ≡ standing_set l i
  pub used : UsedBy l i a

-- The tally of the fitting loads of standing counts, with a slice of so many values.
abbrev pub tallied : {V : Type 0} → Means V → Life → ℕ → Outcome V
tallied m (blank g) values = refused 9
tallied m (lives c s) values =
    cond (nat_lt values (needed c)) (refused 7) (accepted (tally_of m c.goal.admits (parts c.kinds s.standing)))

-- it is the tally of the loads of any register that the plan shows
abbrev pub TalliedBy : {V : Type 0} → Means V → Life → Outcome V → Type 0
TalliedBy m (blank g) a = Unit {0}
TalliedBy m (lives c s) (refused k) = Unit {0}
TalliedBy m (lives c s) (accepted v) = (r : Register) → Shows c s r → v ≡ tally_over m (parts c.kinds (allowed_sets c)) (loads_of c r.ruled)

-- and at place (i, b) of the slice is then the tally of the choices of standing counts for kinds 1 to i totalling b
abbrev pub tallied_cells : {V : Type 0} → Means V → Life → Outcome V → List V → List V
tallied_cells m (blank g) a before = before
tallied_cells m (lives c s) (refused k) before = before
tallied_cells m (lives c s) (accepted v) before = over (tallies m (parts c.kinds s.standing) (wide c.goal)) before

pub record Tallied {V : Type 0} (m : Means V) (l : Life) (before after : List V) (a : Outcome V) : Type 0 where
  pub answer : a ≡ tallied m l (length before)
  pub loads : TalliedBy m l a
  pub cells : after ≡ tallied_cells m l a before

abbrev pub standing_of : Life → List ℕ
standing_of (blank g) = []
standing_of (lives c s) = s.standing

-- A list of calls: the life after them, and their answers.
abbrev pub life_after : Life → List Call → Life
life_after l [] = l
life_after l (x ∷ xs) = life_after (act l x).0 xs

abbrev pub replies : Life → List Call → List Answer
replies l [] = []
replies l (x ∷ xs) = (act l x).1 ∷ replies (act l x).0 xs

-- Whatever register the plan showed: after the calls it shows the register after them, and the answers are the register's; a count
-- stands exactly when some load of that register has it; and the next rule out, of a count that stands and with tables long
-- enough, would be refused 8 exactly when every load of that register has it.
pub record Told (c : Problem) (r : Register) (xs : List Call) (last : Life) (said : List Answer) : Type 0 where
  pub shown : Shown last (after c r xs)
  pub answered : said ≡ answers c r xs
  pub stands : (i d : ℕ) → 1 ≤ i → i ≤ kinds_of c → d < 64
      → has (slice_index (standing_of last) (i - 1)) d ≡ uses (loads_of c (after c r xs).ruled) (i - 1) d
  pub last_way : (i d forward backward : ℕ) → 1 ≤ i → i ≤ kinds_of c → d < 64 → short c forward backward ≡ false
      → has (slice_index (standing_of last) (i - 1)) d ≡ true
      → ((act last (rule_out i d forward backward)).1 ≡ refused 8) ↔ AllByRecursion (λ load. slice_index load (i - 1) ≡ d) (loads_of c (after c r xs).ruled)

abbrev pub ToldAll : Life → List Call → Life → List Answer → Type 0
ToldAll (blank g) xs last said = Unit {0}
ToldAll (lives c s) xs last said = (r : Register) → Shows c s r → Told c r xs last said

pub record Ran (before : Life) (xs : List Call) (last : Life) (said : List Answer) : Type 0 where
  pub life : last ≡ life_after before xs
  pub says : said ≡ replies before xs
  pub told : ToldAll before xs last said

-- the call was refused
abbrev pub is_refused : Answer → Bool
is_refused (accepted n) = false
is_refused (refused k) = true

-- Refused exactly where P holds, and then with 8; else accepted.
pub record OnlyEight (P : Type 0) (a : Answer) : Type 0 where
  pub exactly : (is_refused a ≡ true) ↔ P
  pub eight : is_refused a ≡ true → a ≡ refused 8

-- The plan and the register agree: the plan shows the register; a count stands exactly when some load of the register has it; and
-- a rule out that comes next, of a count that stands and with tables long enough, is refused, and then with 8, exactly when every
-- load of the register has it.
pub record Agrees (c : Problem) (l : Life) (r : Register) : Type 0 where
  pub shown : Shown l r
  pub stands : (i d : ℕ) → 1 ≤ i → i ≤ kinds_of c → d < 64 → has (slice_index (standing_of l) (i - 1)) d ≡ uses (loads_of c r.ruled) (i - 1) d
  pub next : (i d forward backward : ℕ) → 1 ≤ i → i ≤ kinds_of c → d < 64 → short c forward backward ≡ false
      → has (slice_index (standing_of l) (i - 1)) d ≡ true
      → OnlyEight (AllByRecursion (λ load. slice_index load (i - 1) ≡ d) (loads_of c r.ruled)) (act l (rule_out i d forward backward)).1

-- the goal that the plan was made over
abbrev pub goal_of : Life → Target
goal_of (blank g) = g
goal_of (lives c s) = c.goal

-- how many branches are open
abbrev pub open_in : Life → ℕ
open_in (blank g) = 0
open_in (lives c s) = length s.noted

-- Where a slice held the old marks over some cells, it then holds the new marks over the same cells.
abbrev pub Remarks : List ℕ → List ℕ → List ℕ → List ℕ → Type 0
Remarks old new entry exit = (below : List ℕ) → entry ≡ over old below → exit ≡ over new below
