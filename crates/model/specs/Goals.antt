-- What goals mean.
use Rattle.std.specs.Prelude.{◌≡◌, ℕ, ◌-◌, ◌%◌, ◌≤◌, Bool, true, cond, not, ◌&&◌, ◌||◌, List, [], ◌∷◌, length, Some, None, Option, ◌==◌, nat_le, nat_lt, slice_index}
use Rattle.std.specs.List.{list_any}
use Rattle.model.specs.Answers.{Outcome, accepted, refused}

-- A goal means a set of totals, given by its test, and has a top.
pub record Target : Type 0 where
  pub admits : ℕ → Bool
  pub top : ℕ

-- none of the totals is above the top
abbrev pub Bounded : Target → Type 0
Bounded g = (b : ℕ) → g.admits b ≡ true → b ≤ g.top

-- every total from low to high
abbrev pub between : ℕ → ℕ → Target
between low high = record { admits = λ b. nat_le low b && nat_le b high; top = high }

-- b is one of the totals
abbrev pub is_in : List ℕ → ℕ → Bool
is_in ts b = list_any (λ t. t == b) ts

-- the last total; 0 where there is none
abbrev pub last_of : List ℕ → ℕ
last_of ts = slice_index ts (length ts - 1)

-- the last total, if there is one
abbrev pub last_in : List ℕ → Option ℕ
last_in ts = cond (length ts == 0) None (Some (last_of ts))

-- each total is below the next
abbrev pub rising : List ℕ → Bool
rising [] = true
rising (t ∷ []) = true
rising (t ∷ u ∷ ts) = nat_lt t u && rising (u ∷ ts)

-- the totals, where they are at most n and rise strictly
abbrev pub rising_made : ℕ → List ℕ → Option (List ℕ)
rising_made n ts = cond (nat_lt n (length ts) || not (rising ts)) None (Some ts)

-- the totals of a list
abbrev pub one_of : List ℕ → Target
one_of ts = record { admits = is_in ts; top = last_of ts }

-- the totals of another goal whose remainder by m is r
abbrev pub strided : ℕ → ℕ → Target → Target
strided m r below = record { admits = λ b. below.admits b && (b % m == r); top = below.top }

-- making a band: refused 4 where low is above high or high is over 4,095
abbrev pub band_made : ℕ → ℕ → Outcome Target
band_made low high = cond (nat_lt high low || nat_lt 4095 high) (refused 4) (accepted (between low high))

-- making a list: refused 4 where it is empty, over 16 long or not strictly rising, or its last total is over 4,095
abbrev pub bad_list : List ℕ → Bool
bad_list ts = length ts == 0 || (nat_lt 16 (length ts) || (not (rising ts) || nat_lt 4095 (last_of ts)))

abbrev pub list_made : List ℕ → Outcome Target
list_made ts = cond (bad_list ts) (refused 4) (accepted (one_of ts))

-- making a stride: refused 5 where m is 0 or over 4,096, or r is not below m
abbrev pub stride_made : ℕ → ℕ → Target → Outcome Target
stride_made m r below = cond (m == 0 || (nat_lt 4096 m || nat_le m r)) (refused 5) (accepted (strided m r below))
