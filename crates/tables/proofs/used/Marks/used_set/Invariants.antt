use Rattle.std.proofs.Common.{◌≡◌, ℕ, ◌<◌, ◌≤◌, false}
use Rattle.model.specs.Sets.{has}
use Rattle.tables.specs.Tables.{parts_of}
use Rattle.model.specs.Loads.{fits}
use Rattle.meaning.specs.Problems.{uses}
use Rattle.tables.proofs.used.Marks.used_set.Given as goal

-- the used ones among the counts so far
abbrev pub invariant-loop-d : goal.invariant-loop-d
invariant-loop-d g l =
    ((k : ℕ) → k < l.d → has l.found k ≡ uses (fits (g.G.Goal.means l.self.goal.now).admits (parts_of l.self.parts)) l.i k)
    × ((k : ℕ) → l.d ≤ k → has l.found k ≡ false)
