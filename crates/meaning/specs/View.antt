-- What a plan's fields stand for: its kinds, its standing sets, and a row of sets for each branch.
use Rattle.std.specs.Prelude.{ℕ, zero, suc, ◌<◌, List, [], ◌∷◌, take, slice_index, slice_index_or}
use Rattle.model.specs.declared.kind.Kind.{Kind}
use Rattle.model.specs.Goals.{Target}
use Rattle.meaning.specs.Problems.{Problem, problem}
use Rattle.meaning.specs.Plan.{State, Lies}
use Rattle.meaning.specs.Life.{Life, blank, lives}

-- the first rows of the table, the last first, each cut to n
abbrev pub rows_back : ℕ → List (List ℕ) → ℕ → List (List ℕ)
rows_back n rows zero = []
rows_back n rows (suc k) = take n (slice_index_or rows k []) ∷ rows_back n rows k

-- what a plan with n kinds holds
abbrev pub state_of : ℕ → List ℕ → List (List ℕ) → ℕ → State
state_of n standing noted opened = record { standing = take n standing; noted = rows_back n noted opened }

-- the same with the first n kinds
abbrev pub problem_of : Target → ℕ → List Kind → Problem
problem_of t n kinds = problem t (take n kinds)

-- a plan of no kinds is blank
abbrev pub life_of : Target → ℕ → List Kind → List ℕ → List (List ℕ) → ℕ → Life
life_of t zero kinds standing noted opened = blank t
life_of t (suc n) kinds standing noted opened = lives (problem_of t (suc n) kinds) (state_of (suc n) standing noted opened)

-- Each standing set lies in the sets of every open branch, and those of a later branch in those of an earlier one; and none of these
-- sets is empty.
abbrev pub Inside : ℕ → List ℕ → List (List ℕ) → ℕ → Type 0
Inside n standing noted many =
    ((k : ℕ) → k < many → Lies n standing (slice_index_or noted k []))
    × ((k m : ℕ) → k < m → m < many → Lies n (slice_index_or noted m []) (slice_index_or noted k []))
    × ((j : ℕ) → j < n → 0 < slice_index standing j)
    × ((k j : ℕ) → k < many → j < n → 0 < slice_index (slice_index_or noted k []) j)
