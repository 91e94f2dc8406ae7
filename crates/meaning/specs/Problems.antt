-- A problem: kinds and a goal. Place j, from 0, is the place of kind j + 1.
use Rattle.std.specs.Prelude.{ℕ, ◌+◌, ◌*◌, Bool, true, false, not, ◌&&◌, ◌||◌, List, [], ◌∷◌, map, length, filter, ◌==◌, nat_le, nat_lt, slice_index}
use Rattle.std.specs.List.{range_with_len}
use Rattle.model.specs.Goals.{Target}
use Rattle.model.specs.Loads.{fits}
use Rattle.model.specs.declared.kind.Kind.{Kind}
use Rattle.model.specs.Parts.{parts}
use Rattle.model.specs.Sets.{set_of}

-- the kinds of a case, with the goal that their loads are to meet
pub record Problem : Type 0 where
  pub kinds : List Kind
  pub goal : Target

-- the kinds and what the goal means
abbrev pub problem : Target → List Kind → Problem
problem t kinds = record { kinds = kinds; goal = t }

-- how many kinds it has
abbrev pub kinds_of : Problem → ℕ
kinds_of c = length c.kinds

-- their sets of allowed counts
abbrev pub allowed_sets : Problem → List ℕ
allowed_sets c = map (λ k. k.allowed) c.kinds

-- the fitting loads with counts in the given sets, in order
abbrev pub fitting : Problem → List ℕ → List (List ℕ)
fitting c sets = fits c.goal.admits (parts c.kinds sets)

-- the load has count d at place j
abbrev pub has_at : List ℕ → ℕ → ℕ → Bool
has_at load j d = slice_index load j == d

-- some x of the list, every x of the list passes the test; the list is empty
abbrev pub some : {X : Type 0} → (X → Bool) → List X → Bool
some p [] = false
some p (x ∷ xs) = p x || some p xs

abbrev pub every : {X : Type 0} → (X → Bool) → List X → Bool
every p [] = true
every p (x ∷ xs) = p x && every p xs

abbrev pub is_empty : {X : Type 0} → List X → Bool
is_empty [] = true
is_empty (x ∷ xs) = false

-- some load of the list has count d at place j
abbrev pub uses : List (List ℕ) → ℕ → ℕ → Bool
uses loads j d = some (λ load. has_at load j d) loads

-- every load of the list has count d at place j
abbrev pub all_use : List (List ℕ) → ℕ → ℕ → Bool
all_use loads j d = every (λ load. has_at load j d) loads

-- the loads of the list with another count than d at place j
abbrev pub without : ℕ → ℕ → List (List ℕ) → List (List ℕ)
without j d loads = filter (λ load. not (has_at load j d)) loads

-- for each of n kinds the set of the counts that some load of the list has
abbrev pub support : ℕ → List (List ℕ) → List ℕ
support n loads = map (λ j. set_of (uses loads j)) (range_with_len 0 n)

-- how many cells a table needs; one of two tables is shorter than that
abbrev pub needed : Problem → ℕ
needed c = (kinds_of c + 1) * (c.goal.top + 1)

abbrev pub short : Problem → ℕ → ℕ → Bool
short c forward backward = nat_lt forward (needed c) || nat_lt backward (needed c)

-- i is a kind's number, from 1, and d is a count
abbrev pub in_range : Problem → ℕ → ℕ → Bool
in_range c i d = nat_le 1 i && (nat_le i (kinds_of c) && nat_le d 63)
