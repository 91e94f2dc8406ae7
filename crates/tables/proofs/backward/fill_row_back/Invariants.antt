use Rattle.std.proofs.Common.{◌≡◌, ℕ, ◌<◌, length, get_or}
use Rattle.model.specs.Parts.{part}
use Rattle.meaning.specs.Models.{yes_no}
use Rattle.meaning.proofs.Rows.{join_back_to}
use Rattle.tables.proofs.backward.fill_row_back.Given as goal

-- each cell holds the join over the counts so far
abbrev pub invariant-loop-d : goal.invariant-loop-d
invariant-loop-d l =
    (b : ℕ) → b < length l.row → get_or l.row b 0 ≡ join_back_to yes_no (length l.row) (part l.kind l.standing) (λ c. get_or l.after c 0) b l.d
