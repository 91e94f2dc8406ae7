use Rattle.std.proofs.Common.{◌≡◌, ℕ, ◌+◌, ◌<◌, ◌≤◌, false, None, length, take}
use Rattle.std.specs.Iterator.Adapters.{enumerate_count, enumerate_source, rev_source}
use Rattle.std.specs.Slice.Iter.{iter_rest}
use Rattle.meaning.specs.Paths.{total_to}
use Rattle.search.specs.Search.{NoneFrom, raises}
use Rattle.search.specs.Seen.{parts_in}
use Rattle.search.proofs.marks.Marks.raise.Given as goal

-- the bytes that are left, and what is known of the places after them
abbrev pub invariant-raised : goal.invariant-raised
invariant-raised l =
    let left = iter_rest (enumerate_source (rev_source l.i-iterator)) in
    (l.found ≡ None) × NoneFrom l.self l.load (length left) × (l.total ≡ total_to (parts_in l.self) l.load (length left)) × (l.total ≤ 33415200)
    × (enumerate_count (rev_source l.i-iterator) ≡ 0) × (left ≡ take (length left) l.load) × (length left ≤ length (iter_rest (enumerate_source (rev_source l.initial.i-iterator))))

abbrev pub invariant-loop-d : goal.invariant-loop-d
invariant-loop-d l = (l.found ≡ None) × NoneFrom l.self l.load (l.i + 1) × ((d : ℕ) → d < l.d → raises l.self l.load l.i d ≡ false)
