-- The forward recurrence.
use Rattle.std.specs.Prelude.{◌≡◌, ℕ, ◌+◌, ◌-◌, ◌*◌, ◌<◌, ◌≤◌, Bool, cond, List, [], ◌∷◌, map, length, take, drop, fold, filter, ◌==◌, nat_le, nat_lt, slice_index_or}
use Rattle.meaning.specs.Measures.{Means}
use Rattle.meaning.specs.Tallies.{join_of}
use Rattle.model.specs.Parts.{Part}
use Rattle.model.specs.Sets.{members}

-- row 0: one at 0 and zero elsewhere
unfoldable pub first_row : {V : Type 0} → Means V → ℕ → V
first_row m b = cond (b == 0) m.one m.zero

-- the counts of the part p whose size does not pass b
abbrev pub counts_to : Part → ℕ → List ℕ
counts_to p b = filter (λ d. nat_le (p.size * d) b) (members p.standing)

-- the row after the row f, by the part p
unfoldable pub row_after : {V : Type 0} → Means V → (ℕ → V) → Part → ℕ → V
row_after m f p b = join_of m (map (λ d. m.chain (f (b - p.size * d)) (m.worth p.price d)) (counts_to p b))

-- the row after all of ps
unfoldable pub cell_of : {V : Type 0} → Means V → List Part → ℕ → V
cell_of m ps = fold (row_after m) (first_row m) ps

-- Rows 0 to n of a table are those of the first 0 to n parts, and the cells past the table are as they were.
pub record FilledTo {V : Type 0} (m : Means V) (ps : List Part) (width n : ℕ) (before after : List V) : Type 0 where
  pub needed : (i b : ℕ) → i ≤ n → b < width → slice_index_or after (i * width + b) m.zero ≡ cell_of m (take i ps) b
  pub past : (k : ℕ) → (length ps + 1) * width ≤ k → slice_index_or after k m.zero ≡ slice_index_or before k m.zero

-- The backward recurrence.
-- the last row: one where the total is admitted and zero elsewhere
unfoldable pub last_row : {V : Type 0} → Means V → (ℕ → Bool) → ℕ → V
last_row m admitted b = cond (admitted b) m.one m.zero

-- the counts of the part p that keep b within the row
abbrev pub counts_past : Part → ℕ → ℕ → List ℕ
counts_past p width b = filter (λ d. nat_lt (b + p.size * d) width) (members p.standing)

-- the row before the row f, by the part p
unfoldable pub row_before : {V : Type 0} → Means V → ℕ → Part → (ℕ → V) → ℕ → V
row_before m width p f b = join_of m (map (λ d. m.chain (m.worth p.price d) (f (b + p.size * d))) (counts_past p width b))

unfoldable pub back_of : {V : Type 0} → Means V → (ℕ → Bool) → ℕ → List Part → ℕ → V
back_of m admitted width [] = last_row m admitted
back_of m admitted width (p ∷ ps) = row_before m width p (back_of m admitted width ps)

-- Rows n on of a table are those of the parts left, and the cells past the table are as they were.
pub record FilledFrom {V : Type 0} (m : Means V) (admitted : ℕ → Bool) (ps : List Part) (width n : ℕ) (before after : List V) : Type 0 where
  pub needed : (i b : ℕ) → n ≤ i → i ≤ length ps → b < width → slice_index_or after (i * width + b) m.zero ≡ back_of m admitted width (drop i ps) b
  pub past : (k : ℕ) → (length ps + 1) * width ≤ k → slice_index_or after k m.zero ≡ slice_index_or before k m.zero

-- the last row of a table has one where the total is admitted, and zero elsewhere
abbrev pub Asked : {V : Type 0} → Means V → (ℕ → Bool) → ℕ → ℕ → List V → Type 0
Asked m admitted n width cells = (b : ℕ) → b < width → slice_index_or cells (n * width + b) m.zero ≡ last_row m admitted b
