use Rattle.std.proofs.Common.{◌≡◌, ℕ, ◌<◌, get_or}
use Rattle.model.specs.Sets.{set_of}
use Rattle.model.specs.Loads.{fits}
use Rattle.meaning.specs.Problems.{uses}
use Rattle.tables.specs.Tables.{parts_of}
use Rattle.tables.proofs.used.used_sets.Given as goal

abbrev pub invariant-loop-i : goal.invariant-loop-i
invariant-loop-i g l = (j : ℕ) → j < l.i → get_or l.set-items j 0 ≡ set_of (uses (fits (g.G.Goal.means l.fn.goal).admits (parts_of l.fn.parts)) j)
