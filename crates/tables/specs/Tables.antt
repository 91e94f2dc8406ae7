-- Tables before and after a call, and the two tables of marks.
use Rattle.std.specs.Prelude.{◌≡◌, ℕ, List, length}
use Rattle.model.specs.Goals.{Target}
use Rattle.model.specs.Parts.{Part, parts}
use Rattle.model.specs.declared.kind.Kind.{Kind}
use Rattle.model.specs.declared.parts.Parts.{Parts}
use Rattle.meaning.specs.Cells.{over, tallies, tallies_back, BothReady, Holds}
use Rattle.meaning.specs.Models.{yes_no}
use Rattle.meaning.specs.Recurrence.{Asked}
use Rattle.tables.specs.declared.table.Table.{Table}

-- each kind with the set at its place
abbrev pub parts_of : Parts → List Part
parts_of ps = parts ps.kinds.now ps.sets.now

-- a table after a call stands over the same slice, of the same length, in rows of the same width
pub record SameRows {V : Type 0} (before after : Table V) : Type 0 where
  pub width : after.width ≡ before.width
  pub long : length after.cells.now ≡ length before.cells.now
  pub name : after.cells.ghost_name ≡ before.cells.ghost_name

-- both tables have room for the rows of the parts and are as wide as the goal asks, and the last row of the second has the goal's answers
pub record Prepared (goal : Target) (ps : Parts) (first second : Table ℕ) : Type 0 where
  pub ready : BothReady goal.top ps.kinds.now ps.sets.now first.width second.width first.cells.now second.cells.now
  pub asked : Asked yes_no goal.admits (length ps.kinds.now) second.width second.cells.now

-- the two tables begin with the marks of the kinds with the sets
pub record HoldMarks (goal : Target) (kinds : List Kind) (sets : List ℕ) (first second : Table ℕ) : Type 0 where
  pub ahead : Holds (tallies yes_no (parts kinds sets) first.width) first.cells.now
  pub back : Holds (tallies_back yes_no goal.admits (parts kinds sets) first.width) second.cells.now

-- both tables are as wide as the goal asks, and hold the marks of the parts
pub record Filled (goal : Target) (ps : Parts) (first second : Table ℕ) : Type 0 where
  pub ready : BothReady goal.top ps.kinds.now ps.sets.now first.width second.width first.cells.now second.cells.now
  pub marks : HoldMarks goal ps.kinds.now ps.sets.now first second

-- the marks of the parts written over the first cells of both tables, the cells past them staying
pub record Marked (goal : Target) (ps : Parts) (first second first' second' : Table ℕ) : Type 0 where
  pub ahead : first'.cells.now ≡ over (tallies yes_no (parts_of ps) first.width) first.cells.now
  pub back : second'.cells.now ≡ over (tallies_back yes_no goal.admits (parts_of ps) first.width) second.cells.now
  pub ahead_rows : SameRows first first'
  pub back_rows : SameRows second second'
