-- What tables hold: cell (i, b) is at place i × width + b.
use Rattle.std.specs.Prelude.{◌≡◌, ℕ, ◌+◌, ◌*◌, ◌/◌, ◌%◌, ◌<◌, ◌≤◌, Bool, List, ◌++◌, map, length, take, drop}
use Rattle.std.specs.List.{range_with_len}
use Rattle.meaning.specs.Measures.{Means}
use Rattle.meaning.specs.Tallies.{tally_at, tally_past}
use Rattle.model.specs.declared.kind.Kind.{Kind}
use Rattle.model.specs.Parts.{Part}

-- the cells of a table of `rows` rows, row by row, with f i b at place i × width + b
unfoldable pub grid : {V : Type 0} → ℕ → ℕ → (ℕ → ℕ → V) → List V
grid rows width f = map (λ k. f (k / width) (k % width)) (range_with_len 0 (rows * width))

-- at (i, b) the tally of the choices for the first i parts totalling b
abbrev pub tallies : {V : Type 0} → Means V → List Part → ℕ → List V
tallies m ps width = grid (length ps + 1) width (λ i b. tally_at m (take i ps) b)

-- at (i, b) the tally of the choices for the parts after the first i that, added to b, give an admitted total
abbrev pub tallies_back : {V : Type 0} → Means V → (ℕ → Bool) → List Part → ℕ → List V
tallies_back m admitted ps width = grid (length ps + 1) width (λ i b. tally_past m admitted (drop i ps) b)

-- the cells written over the first places of a slice, what stood past them staying
abbrev pub over : {V : Type 0} → List V → List V → List V
over cells before = cells ++ drop (length cells) before

-- the slice begins with the cells
abbrev pub Holds : {V : Type 0} → List V → List V → Type 0
Holds cells slice = take (length cells) slice ≡ cells

-- a table's slice has room for the rows of the kinds, and there is a set for each kind
pub record Ready {V : Type 0} (kinds : List Kind) (sets : List ℕ) (width : ℕ) (cells : List V) : Type 0 where
  pub pos : 0 < width
  pub low : width ≤ 4096
  pub same : length sets ≡ length kinds
  pub room : (length kinds + 1) * width ≤ length cells

-- both tables are ready, and as wide as the goal's totals ask
pub record BothReady (top : ℕ) (kinds : List Kind) (sets : List ℕ) (aheadWidth backWidth : ℕ) (ahead back : List ℕ) : Type 0 where
  pub wide : aheadWidth ≡ top + 1
  pub same : backWidth ≡ aheadWidth
  pub ahead_ready : Ready kinds sets aheadWidth ahead
  pub back_ready : Ready kinds sets backWidth back
