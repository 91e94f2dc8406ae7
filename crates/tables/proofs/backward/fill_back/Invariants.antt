use Rattle.std.proofs.Common.{◌≡◌, ◌≤◌, length, take}
use Rattle.std.specs.Iterator.Adapters.{enumerate_count, enumerate_source, rev_source}
use Rattle.std.specs.Slice.Iter.{iter_rest}
use Rattle.tables.specs.Tables.{parts_of}
use Rattle.meaning.specs.Recurrence.{FilledFrom}
use Rattle.meaning.specs.Models.{yes_no}
use Rattle.tables.proofs.backward.fill_back.Given as goal

-- the kinds that are left, and the rows after them
abbrev pub invariant-loop-i : goal.invariant-loop-i
invariant-loop-i g l =
    let left = iter_rest (enumerate_source (rev_source l.i-iterator)) in
    (enumerate_count (rev_source l.i-iterator) ≡ 0) × (left ≡ take (length left) l.fn.parts.kinds.now) × (length left ≤ length l.fn.parts.kinds.now)
    × FilledFrom (yes_no) (g.G.Goal.means l.goal).admits (parts_of l.fn.parts) l.width (length left) l.initial.cells l.cells
