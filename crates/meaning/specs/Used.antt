-- The counts that fitting loads use, as a pass over the tables gives them.
use Rattle.std.specs.Prelude.{◌≡◌, ℕ, true, false, List, take, Some, None, Option}
use Rattle.meaning.specs.Problems.{is_empty, support}

-- none where there is no load; else for each of the n kinds the counts that the loads use
abbrev pub Pruned : List (List ℕ) → ℕ → Option (List ℕ) → Type 0
Pruned loads n None = is_empty loads ≡ true
Pruned loads n (Some next) = (is_empty loads ≡ false) × (take n next ≡ support n loads)
