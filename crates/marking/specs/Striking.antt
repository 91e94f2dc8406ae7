-- What a trial without one count finds.
use Rattle.std.specs.Prelude.{ℕ, ◌<◌, List, Some, None, Option, slice_index}
use Rattle.meaning.specs.Plan.{Lies}

-- the sets found, if any, lie within those that stood, and none of them is empty
abbrev pub Smaller : ℕ → List ℕ → Option (List ℕ) → Type 0
Smaller n standing None = Unit {0}
Smaller n standing (Some next) = Lies n next standing × ((j : ℕ) → j < n → 0 < slice_index next j)
