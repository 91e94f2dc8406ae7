-- A whole history: a blank plan is settled with a case, any list of calls follows, and then comes a tally.
use Rattle.std.specs.Prelude.{◌≡◌, ℕ, cond, List, map, length, Some, Option, nat_lt}
use Rattle.model.specs.Answers.{Answer, Outcome, accepted, refused}
use Rattle.model.specs.declared.kind.Kind.{Kind}
use Rattle.model.specs.Parts.{parts}
use Rattle.meaning.specs.Cells.{over}
use Rattle.meaning.specs.Life.{Agrees, Life, goal_of, life_after, marked_first, open_in, settles, tallied, tallied_cells}
use Rattle.meaning.specs.Measures.{Means}
use Rattle.meaning.specs.Problems.{Problem, allowed_sets, needed, problem}
use Rattle.meaning.specs.Register.{Call, after, answers, loads_of, start}
use Rattle.meaning.specs.Tallies.{tally_over}

-- How a history ends: settle was refused under a number, or the plan lived, with settle's answer, the tally, and how many branches are open.
pub data Ending (V : Type 0) : Type 0 where
  unsettled : (number : ℕ) → Ending V
  lived : (counts : ℕ) (tally : Outcome V) (opened : ℕ) → Ending V

-- After a refused settle nothing more is done. After an accepted one the calls are made, and then the tally into so many values.
abbrev pub ends : {V : Type 0} → Means V → List Call → ℕ → Life → Answer → Life × Ending V
ends m xs values l (refused k) = (l, unsettled k)
ends m xs values l (accepted n) = (life_after l xs, lived n (tallied m (life_after l xs) values) (open_in (life_after l xs)))

abbrev pub lived_through : {V : Type 0} → Means V → Life → List Kind → ℕ → ℕ → List Call → ℕ → Life × Ending V
lived_through m l kinds forward backward xs values = ends m xs values (settles l kinds forward backward).0 (settles l kinds forward backward).1

-- the tally over the loads of the register after the calls, each once, or 7 where the values are too few
abbrev pub tally_after : {V : Type 0} → Means V → Problem → List Call → ℕ → Outcome V
tally_after m c xs values =
    cond (nat_lt values (needed c)) (refused 7)
    (accepted (tally_over m (parts c.kinds (allowed_sets c)) (loads_of c (after c start xs).ruled)))

-- What the register says of a history: each call got its answer; what stands, and what a rule out that comes next would be told,
-- is as its loads say; the tally is over exactly its loads; and as many branches are open.
pub record ToldByRegister {V : Type 0} (m : Means V) (c : Problem) (xs : List Call) (values : ℕ) (last : Life) (said : List (Option Answer)) (tally : Outcome V) (opened : ℕ) : Type 0 where
  pub answered : said ≡ map Some (answers c start xs)
  pub agrees : Agrees c last (after c start xs)
  pub tally_is : tally ≡ tally_after m c xs values
  pub open_are : opened ≡ length (after c start xs).beside

-- a history that settle refused has no register
abbrev pub Tells : {V : Type 0} → Means V → Problem → List Call → ℕ → Life → List (Option Answer) → Ending V → Type 0
Tells m c xs values last said (unsettled k) = Unit {0}
Tells m c xs values last said (lived n tally opened) = ToldByRegister m c xs values last said tally opened

-- A history went and ended as defined, and where the plan lived, the register tells of it.
pub record WholeHistory {V : Type 0} (m : Means V) (before : Life) (kinds : List Kind) (forward backward : ℕ) (xs : List Call) (values : ℕ) (last : Life) (said : List (Option Answer)) (e : Ending V) : Type 0 where
  pub life : last ≡ (lived_through m before kinds forward backward xs values).0
  pub ending : e ≡ (lived_through m before kinds forward backward xs values).1
  pub tells : Tells m (problem (goal_of before) kinds) xs values last said e

-- what a table holds afterwards: the marks of the plan as left; or what a refused settle left
abbrev pub marked_by : {V : Type 0} → List ℕ → ℕ → Ending V → List ℕ → List ℕ
marked_by marks cells (unsettled k) before = marked_first marks cells (refused k) before
marked_by marks cells (lived n tally opened) before = over marks before

-- what the slice of values holds afterwards
abbrev pub tallied_by : {V : Type 0} → Means V → Life → Ending V → List V → List V
tallied_by m last (unsettled k) before = before
tallied_by m last (lived n tally opened) before = tallied_cells m last tally before
