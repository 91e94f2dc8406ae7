use Rattle.std.proofs.Common.{◌≡◌, map, get_or, filter}
use Rattle.std.specs.List.{range_with_len}
use Rattle.meaning.specs.Tallies.{join_of}
use Rattle.tables.proofs.tally.join_row.Given as goal

abbrev pub invariant-loop-b : goal.invariant-loop-b
invariant-loop-b g l =
    let m = g.M.Measure.means in
    l.sum ≡ join_of m (map (λ b. get_or l.row b m.zero) (filter (g.G.Goal.means l.goal).admits (range_with_len 0 l.b)))
