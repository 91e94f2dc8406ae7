-- Marks in the subject's own words.
use Rattle.std.specs.Prelude.{◌≡◌, ℕ, ◌+◌, ◌≤◌, Bool, true, List, slice_index}
use Rattle.model.specs.Loads.{total_of, Within}
use Rattle.model.specs.Parts.{Part, sets_of}

-- c has one count for each part, and each of them stands
abbrev pub Stands : List Part → List ℕ → Type 0
Stands ps c = Within (sets_of ps) c

-- some choice of standing counts totals b
abbrev pub Reaches : List Part → ℕ → Type 0
Reaches ps b = (c : List ℕ) × (Stands ps c × (total_of ps c ≡ b))

-- some choice of standing counts, added to b, gives an admitted total
abbrev pub Closes : (ℕ → Bool) → List Part → ℕ → Type 0
Closes admitted ps b = (c : List ℕ) × (Stands ps c × (admitted (b + total_of ps c) ≡ true))

-- in a row of forward marks and the row of backward marks after it, a mark at b meets a mark at b + blocks
abbrev pub Meets : List ℕ → List ℕ → ℕ → ℕ → Type 0
Meets ahead back blocks b = (slice_index ahead b ≡ 1) × (slice_index back (b + blocks) ≡ 1)

-- prices as kinds have them
abbrev pub Cheap : Part → Type 0
Cheap p = p.price ≤ 1000
