-- Loads: one count for each kind.
use Rattle.std.specs.Prelude.{◌≡◌, ℕ, ◌+◌, ◌*◌, ◌<◌, Bool, true, List, [], ◌∷◌, map, filter}
use Rattle.std.specs.List.{flat_map}
use Rattle.model.specs.Sets.{has, members}
use Rattle.model.specs.Parts.{Part, sets_of}

-- The choices of one member of each set, ordered by the first set in which they differ, the smaller count first.
unfoldable pub choices : List ℕ → List (List ℕ)
choices [] = [] ∷ []
choices (s ∷ sets) = flat_map (λ d. map (λ c. d ∷ c) (choices sets)) (members s)

-- the choices that pass the test t, in order
abbrev pub passing : (List ℕ → Bool) → List ℕ → List (List ℕ)
passing t sets = filter t (choices sets)

-- the sum of size × count
abbrev pub total_of : List Part → List ℕ → ℕ
total_of [] load = 0
total_of (p ∷ ps) [] = 0
total_of (p ∷ ps) (d ∷ load) = p.size * d + total_of ps load

-- the fitting loads with counts in the parts' sets, in order: the choices whose total is admitted
abbrev pub fits : (ℕ → Bool) → List Part → List (List ℕ)
fits admits ps = passing (λ load. admits (total_of ps load)) (sets_of ps)

-- the load has one count for each set, and that count is in the set
abbrev pub Within : List ℕ → List ℕ → Type 0
Within [] [] = Unit {0}
Within [] (d ∷ load) = ⊥
Within (s ∷ sets) [] = ⊥
Within (s ∷ sets) (d ∷ load) = (d < 64) × (has s d ≡ true) × Within sets load

-- the load fits: each of its counts is in the set of its part, and its total is admitted
abbrev pub Fits : (ℕ → Bool) → List Part → List ℕ → Type 0
Fits admits ps load = Within (sets_of ps) load × (admits (total_of ps load) ≡ true)
