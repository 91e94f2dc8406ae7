-- The list of loads, in the subject's own words.
use Rattle.std.specs.Prelude.{◌≡◌, ℕ, ◌<◌, Bool, true, List, [], length, Decides, slice_index_or}
use Rattle.model.specs.Parts.{Part}
use Rattle.model.specs.Loads.{passing, fits, Within, Fits}
use Rattle.model.specs.Order.{before, Precedes}

-- The list holds exactly the loads with the property P, each once, ordered by the first kind in which they differ, the smaller
-- count first.
pub record Lists (P : List ℕ → Type 0) (loads : List (List ℕ)) : Type 0 where
  pub only : (k : ℕ) → k < length loads → P (slice_index_or loads k [])
  pub all : (load : List ℕ) → P load → (k : ℕ) × (k < length loads) × (slice_index_or loads k [] ≡ load)
  pub once : (j k : ℕ) → j < length loads → k < length loads → slice_index_or loads j [] ≡ slice_index_or loads k [] → j ≡ k
  pub ordered : (j k : ℕ) → j < k → k < length loads → Precedes (slice_index_or loads j []) (slice_index_or loads k [])

-- so it is with the choices from any sets that pass any test
abbrev pub ChoicesListed : Type 0
ChoicesListed = (t : List ℕ → Bool) (sets : List ℕ) → Lists (λ load. Within sets load × (t load ≡ true)) (passing t sets)

-- and so with the fitting loads
abbrev pub LoadsListed : Type 0
LoadsListed = (admits : ℕ → Bool) (ps : List Part) → Lists (Fits admits ps) (fits admits ps)

-- the test of the order is the relation
abbrev pub OrderTold : Type 0
OrderTold = (l m : List ℕ) → Decides (before l m) (Precedes l m)
