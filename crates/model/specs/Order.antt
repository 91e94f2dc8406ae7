-- The order of loads: by the first kind in which they differ, the smaller count first.
use Rattle.std.specs.Prelude.{◌≡◌, ℕ, ◌<◌, Bool, false, ◌&&◌, ◌||◌, List, [], ◌∷◌, length, take, ◌==◌, nat_lt, slice_index, slice_index_or}

-- the load l comes before the load m
abbrev pub before : List ℕ → List ℕ → Bool
before [] m = false
before (a ∷ l) [] = false
before (a ∷ l) (b ∷ m) = nat_lt a b || (a == b && before l m)

-- The same as a relation: there is a place up to which they agree, and at which l has the smaller count.
pub record Precedes (l m : List ℕ) : Type 0 where
  pub place : ℕ
  pub in_first : place < length l
  pub in_second : place < length m
  pub agree : take place l ≡ take place m
  pub smaller : slice_index_or l place 0 < slice_index m place
