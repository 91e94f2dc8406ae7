-- Ruling out a count: the fitting loads without it are the fitting loads of the sets with that count struck.
use Rattle.std.specs.Prelude.{◌≡◌, ℕ, ◌<◌, not, ◌&&◌, List, length, ◌==◌, slice_index, slice_set}
use Rattle.meaning.specs.Problems.{Problem, fitting, kinds_of, without}
use Rattle.model.specs.Sets.{has, set_of}

-- the set without count d
abbrev pub struck : ℕ → ℕ → ℕ
struck s d = set_of (λ e. has s e && not (e == d))

abbrev pub strike : List ℕ → ℕ → ℕ → List ℕ
strike sets j d = slice_set sets j (struck (slice_index sets j) d)

abbrev pub StrikeTells : Type 0
StrikeTells = (c : Problem) (sets : List ℕ) (j d : ℕ) → length sets ≡ kinds_of c → j < length sets → without j d (fitting c sets) ≡ fitting c (strike sets j d)
