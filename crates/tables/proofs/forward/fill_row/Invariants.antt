use Rattle.std.proofs.Common.{◌≡◌, ℕ, ◌<◌, length, get_or}
use Rattle.model.specs.Parts.{part}
use Rattle.meaning.proofs.Rows.{join_to}
use Rattle.tables.proofs.forward.fill_row.Given as goal

-- each cell holds the join over the counts so far
abbrev pub invariant-loop-d : goal.invariant-loop-d
invariant-loop-d g l =
    let m = g.M.Measure.means in
    (b : ℕ) → b < length l.row → get_or l.row b m.zero ≡ join_to m (λ c. get_or l.before c m.zero) (part l.kind l.standing) b l.d
