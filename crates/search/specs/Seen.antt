-- What the marks hold, by short names.
use Rattle.std.specs.Prelude.{◌≡◌, ℕ, ◌<◌, Bool, true, List, length, slice_index_or}
use Rattle.meaning.specs.Models.{yes_no}
use Rattle.model.specs.Parts.{Part, parts}
use Rattle.meaning.specs.Cells.{Holds, tallies_back}
use Rattle.search.specs.declared.marks.Marks.{Marks}

abbrev pub no_part : Part
no_part = record { size = 0; price = 0; standing = 0 }

abbrev pub parts_in : Marks → List Part
parts_in m = parts m.parts.kinds.now m.parts.sets.now

abbrev pub kinds_in : Marks → ℕ
kinds_in m = length m.parts.kinds.now

abbrev pub part_in : Marks → ℕ → Part
part_in m i = slice_index_or (parts_in m) i no_part

-- the cells are the backward marks for the admitted totals
pub record Right (admitted : ℕ → Bool) (m : Marks) : Type 0 where
  pub some : 0 < m.width
  pub bound : (t : ℕ) → admitted t ≡ true → t < m.width
  pub marks : Holds (tallies_back yes_no admitted (parts_in m) m.width) m.cells.now
