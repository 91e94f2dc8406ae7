-- Counts of a set, written one after the other.
use Rattle.std.proofs.Common.{◌≡◌, ℕ, ◌+◌, true, false, cond, [], ◌∷◌, ◌++◌, filter, codes, decimal, append-nil, arith}
use Rattle.std.specs.List.{range_with_len}
use Rattle.std.proofs.lemmas.Grind.{flat_map-append}
use Rattle.std.proofs.lemmas.List.{map-id}
use Rattle.std.proofs.lemmas.List.FromFn.{filter_of_map_range_with_len_more}
use Rattle.model.specs.Sets.{counts, has, members}
use Rattle.report.specs.Lines.{spaced}

-- the counts below d that are in a set, and one more
filter_more : (set d : ℕ) → filter (has set) (range_with_len 0 (d + 1)) ≡ filter (has set) (range_with_len 0 d) ++ cond (has set d) (d ∷ []) []
filter_more set d = simp map-id at (filter_of_map_range_with_len_more (has set) (λ x. x) 0 d d (omega arith))

pub member_more : (set d : ℕ) → has set d ≡ true → spaced (filter (has set) (range_with_len 0 d)) ++ (codes " " ++ decimal d) ≡ spaced (filter (has set) (range_with_len 0 (d + 1)))
member_more set d h = rw (filter_more set d, flat_map-append, h) (simp append-nil)

pub other_more : (set d : ℕ) → has set d ≡ false → spaced (filter (has set) (range_with_len 0 d)) ≡ spaced (filter (has set) (range_with_len 0 (d + 1)))
other_more set d h = rw (filter_more set d, h) (simp append-nil)

pub all_members : (set d : ℕ) → d ≡ 64 → spaced (filter (has set) (range_with_len 0 d)) ≡ spaced (members set)
unfolding counts
all_members set d e = rw e
