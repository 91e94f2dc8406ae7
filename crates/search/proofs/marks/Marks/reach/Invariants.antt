use Rattle.std.proofs.Common.{◌≡◌, ℕ, ◌*◌, ◌≤◌, take}
use Rattle.meaning.specs.Marks.{Stands}
use Rattle.meaning.specs.Paths.{total_to}
use Rattle.search.specs.Seen.{parts_in}
use Rattle.search.proofs.marks.Marks.reach.Given as goal

abbrev pub invariant-loop-i : goal.invariant-loop-i
invariant-loop-i l =
    ((j : ℕ) → j ≤ l.i → Stands (take j (parts_in l.self)) (take j l.load))
    × (l.total ≡ total_to (parts_in l.self) l.load l.i)
    × (l.total ≤ l.i * 1044225)
