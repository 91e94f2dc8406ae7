-- A row read from a table, and the rows of two tables that hold the marks of the parts.
use Rattle.std.proofs.Common.{◌≡◌, ℕ, ◌+◌, ◌-◌, ◌*◌, ◌<◌, ◌≤◌, List, length, get_or, take, drop, refl, ap, ◌∙◌, rules, arith, length-take, length-drop}
use Rattle.std.specs.List.{slice_range}
use Rattle.std.proofs.lemmas.List.{places}
use Rattle.std.proofs.lemmas.Nat.{mul-le}
use Rattle.model.specs.Goals.{Target}
use Rattle.model.specs.declared.parts.Parts.{Parts}
use Rattle.meaning.specs.Models.{yes_no}
use Rattle.meaning.specs.Tallies.{tally_at, tally_past}
use Rattle.meaning.proofs.Rows.{length_parts}
use Rattle.meaning.proofs.Choosing.{cheap_parts}
use Rattle.meaning.proofs.Grid.{holds_at}
use Rattle.meaning.proofs.Marking.{forward_bit, backward_bit}
use Rattle.tables.specs.Tables.{Filled, parts_of}
use Rattle.tables.specs.declared.table.Table.{Table}

-- row i of the cells, whose rows are u wide, which is w
module _ {V : Type 0} (i u w : ℕ) (cells row : List V) (is : row ≡ slice_range cells (i * u) (i * u + u)) (e : u ≡ w) (room : (i + 1) * w ≤ length cells) where
  row_is : row ≡ take (i * w + w - i * w) (drop (i * w) cells)
  row_is = rw e at is

  pub row_long : length row ≡ w
  row_long = omega (arith, ap length row_is, length-take (i * w + w - i * w) (drop (i * w) cells), length-drop (i * w) cells)

  pub row_at : (z : V) (b : ℕ) → b < w → get_or row b z ≡ get_or cells (i * w + b) z
  row_at z b h = rw row_is (search (rules, places))

-- one of the rows of two filled tables, and the row after it
module _ (goal : Target) (ps : Parts) (first second : Table ℕ) (filled : Filled goal ps first second) (i : ℕ) (here : i < length ps.kinds.now) where
  many : length (parts_of ps) ≡ length ps.kinds.now
  many = length_parts ps.kinds.now ps.sets.now ps.same

  room : (i + 1) * first.width ≤ length first.cells.now
  room = omega (arith, filled.ready.ahead_ready.room, mul-le (i + 1) first.width (length ps.kinds.now + 1) first.width (omega arith) (omega arith))

  room_back : (i + 1 + 1) * first.width ≤ length second.cells.now
  room_back = omega (arith, rw filled.ready.same at filled.ready.back_ready.room, mul-le (i + 2) first.width (length ps.kinds.now + 1) first.width (omega arith) (omega arith))

  module _ (row : List ℕ) (is : row ≡ slice_range first.cells.now (i * first.width) (i * first.width + first.width)) where
    pub ahead_long : length row ≡ first.width
    ahead_long = row_long i first.width first.width first.cells.now row is refl room

    pub ahead_bit : (b : ℕ) → b < first.width → get_or row b 0 ≤ 1
    ahead_bit b h =
        omega (
          arith,
          row_at i first.width first.width first.cells.now row is refl room 0 b h,
          forward_bit (parts_of ps) (cheap_parts ps.kinds.now ps.sets.now) first.width first.cells.now filled.marks.ahead i b (omega (arith, many)) h,
        )

    pub ahead_at : (b : ℕ) → b < first.width → get_or row b 0 ≡ tally_at yes_no (take i (parts_of ps)) b
    ahead_at b h =
        row_at i first.width first.width first.cells.now row is refl room 0 b h
        ∙ holds_at 0 (length (parts_of ps) + 1) first.width (λ i b. tally_at yes_no (take i (parts_of ps)) b) first.cells.now filled.marks.ahead i b (omega (arith, many)) h

  module _ (row : List ℕ) (is : row ≡ slice_range second.cells.now ((i + 1) * second.width) ((i + 1) * second.width + second.width)) where
    pub back_long : length row ≡ first.width
    back_long = row_long (i + 1) second.width first.width second.cells.now row is filled.ready.same room_back

    pub back_bit : (b : ℕ) → b < first.width → get_or row b 0 ≤ 1
    back_bit b h =
        omega (
          arith,
          row_at (i + 1) second.width first.width second.cells.now row is filled.ready.same room_back 0 b h,
          backward_bit goal.admits (parts_of ps) (cheap_parts ps.kinds.now ps.sets.now) first.width second.cells.now filled.marks.back (i + 1) b (omega (arith, many)) h,
        )

    pub back_at : (b : ℕ) → b < first.width → get_or row b 0 ≡ tally_past yes_no goal.admits (drop (i + 1) (parts_of ps)) b
    back_at b h =
        row_at (i + 1) second.width first.width second.cells.now row is filled.ready.same room_back 0 b h
        ∙ holds_at 0 (length (parts_of ps) + 1) first.width (λ i b. tally_past yes_no goal.admits (drop i (parts_of ps)) b) second.cells.now filled.marks.back (i + 1) b (omega (arith, many)) h
