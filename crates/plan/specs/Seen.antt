-- What plans stand for. It names the struct, so it is cited by the calls and not by the struct's own file.
use Rattle.model.specs.declared.kind.Kind.{Kind}
use Rattle.std.specs.Prelude.{ℕ, List, length}
use Rattle.fixed_list.specs.FixedLists.{in_use}
use Rattle.model.specs.Goals.{Target}
use Rattle.meaning.specs.Problems.{needed, problem}
use Rattle.meaning.specs.Life.{Life}
use Rattle.plan.specs.declared.plan.Plan.{Plan}
use Rattle.meaning.specs.View.{life_of}

-- the life of a plan: blank over its goal, or settled with its case
abbrev pub life : {G : Type 0} → (G → Target) → Plan G → Life
life means p = life_of (means p.goal) p.case.kinds.many p.case.kinds.items p.standing (in_use p.noted) (length (in_use p.noted))

-- how many cells a table needs for the kinds under the goal
abbrev pub cells_for : Target → List Kind → ℕ
cells_for t kinds = needed (problem t kinds)
