use Rattle.std.proofs.Common.{◌≡◌, ℕ, ◌<◌, get_or}
use Rattle.meaning.specs.Recurrence.{last_row}
use Rattle.meaning.specs.Models.{yes_no}
use Rattle.tables.proofs.backward.fill_last_row.Given as goal

abbrev pub invariant-loop-b : goal.invariant-loop-b
invariant-loop-b g l = (k : ℕ) → k < l.b → get_or l.row k 0 ≡ last_row yes_no (g.G.Goal.means l.goal).admits k
