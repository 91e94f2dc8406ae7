-- Marks and loads, in the subject's own words.
use Rattle.std.specs.Prelude.{◌≡◌, ℕ, ◌+◌, ◌*◌, ◌<◌, ◌≤◌, Bool, true, ◌↔◌, List, length, take, drop, slice_index, slice_index_or}
use Rattle.std.specs.List.{AllByRecursion}
use Rattle.model.specs.Loads.{fits, total_of, Within}
use Rattle.model.specs.Parts.{Part, sets_of}
use Rattle.model.specs.Sets.{has}
use Rattle.meaning.specs.Cells.{tallies, tallies_back}
use Rattle.meaning.specs.Marks.{Cheap, Closes, Reaches}
use Rattle.meaning.specs.Models.{yes_no}
use Rattle.meaning.specs.Problems.{uses}

-- cell (i, b) of a table in rows of w cells
abbrev pub cell : List ℕ → ℕ → ℕ → ℕ → ℕ
cell cells w i b = slice_index cells (i * w + b)

-- the total of the first i counts of a load
abbrev pub total_to : List Part → List ℕ → ℕ → ℕ
total_to ps load i = total_of (take i ps) (take i load)

-- the part at place i
abbrev pub part_at : List Part → ℕ → Part
part_at ps i = slice_index_or ps i (record { size = 0; price = 0; standing = 0 })

-- What is proved of the marks of parts under a goal that admits no total of w or more.
pub record Marked (admits : ℕ → Bool) (ps : List Part) (w : ℕ) : Type 0 where
  -- a forward cell (i, b) is marked exactly when some choice of counts for the first i kinds totals b
  pub forward : (i b : ℕ) → i ≤ length ps → b < w → (cell (tallies yes_no ps w) w i b ≡ 1) ↔ Reaches (take i ps) b
  -- a backward cell (i, b) is marked exactly when some choice of counts for the kinds after the first i, added to b, gives an admitted total
  pub backward : (i b : ℕ) → i ≤ length ps → b < w → (cell (tallies_back yes_no admits ps w) w i b ≡ 1) ↔ Closes admits (drop i ps) b
  -- a load of counts in the sets fits exactly when each cell on its way lies within the tables and is marked in both
  pub paths : (load : List ℕ) → Within (sets_of ps) load
      → (admits (total_of ps load) ≡ true)
      ↔ ((i : ℕ) → i ≤ length ps
      → (total_to ps load i < w)
      × (cell (tallies yes_no ps w) w i (total_to ps load i) ≡ 1)
      × (cell (tallies_back yes_no admits ps w) w i (total_to ps load i) ≡ 1))
  -- some fitting load has count d at place i exactly when d is in that set and, for some b, cell (i, b) is marked forward and cell
  -- (i + 1, b + size × d) backward
  pub used : (i d : ℕ) → i < length ps → d < 64
      → (uses (fits admits ps) i d ≡ true)
      ↔ ((has (part_at ps i).standing d ≡ true)
      × ((b : ℕ)
      × ((b + (part_at ps i).size * d < w)
      × (cell (tallies yes_no ps w) w i b ≡ 1)
      × (cell (tallies_back yes_no admits ps w) w (i + 1) (b + (part_at ps i).size * d) ≡ 1))))

abbrev pub MarksAndLoads : Type 0
MarksAndLoads = (admits : ℕ → Bool) (ps : List Part) (w : ℕ) → AllByRecursion Cheap ps → ((t : ℕ) → admits t ≡ true → t < w) → Marked admits ps w
