use Rattle.std.proofs.Common.{◌≡◌, ℕ, ◌<◌, ◌≤◌, get_or}
use Rattle.tables.proofs.rows.join_part.Given as goal

-- the first cells are joined, and no other is touched yet
abbrev pub invariant-loop-b : goal.invariant-loop-b
invariant-loop-b g l =
    let m = g.M.Measure.means in
    let old = l.initial.row in
    ((k : ℕ) → k < l.b → get_or l.row k m.zero ≡ m.join (get_or old k m.zero) (m.chain (get_or l.from k m.zero) l.worth))
    × ((k : ℕ) → l.b ≤ k → get_or l.row k m.zero ≡ get_or old k m.zero)
