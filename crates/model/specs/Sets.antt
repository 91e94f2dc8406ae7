-- A set of counts is a 64-bit number: its bit d, the lowest being bit 0, says whether count d is in it.
use Rattle.std.specs.Prelude.{ℕ, zero, suc, ◌+◌, ◌*◌, ◌/◌, ◌%◌, ◌^◌, Bool, cond, List, length, sum_by, filter, ◌==◌}
use Rattle.std.specs.List.{range_with_len}

-- count d is in the set s
abbrev pub has : ℕ → ℕ → Bool
has s d = s / 2 ^ d % 2 == 1

-- 0 to 63, rising
unfoldable pub counts : List ℕ
counts = range_with_len 0 64

-- the counts in the set s, rising
abbrev pub members : ℕ → List ℕ
members s = filter (has s) counts

-- how many counts the set s holds
abbrev pub held : ℕ → ℕ
held s = length (members s)

-- how many counts the sets hold in all
abbrev pub held_in_all : List ℕ → ℕ
held_in_all sets = sum_by held sets

-- The set of those of the k lowest counts that pass the test p: p 0 is the lowest bit, and what p says from 1 on stands above it.
abbrev pub packed : ℕ → (ℕ → Bool) → ℕ
packed zero p = 0
packed (suc k) p = packed k (λ d. p (suc d)) * 2 + cond (p zero) 1 0

-- the set of the counts that pass the test p
unfoldable pub set_of : (ℕ → Bool) → ℕ
set_of p = packed 64 p
