-- What the parts of the search say.
use Rattle.std.specs.Prelude.{◌≡◌, ℕ, ◌+◌, ◌*◌, ◌<◌, ◌≤◌, Bool, true, false, ◌&&◌, List, length, take, ◌==◌, nat_lt, slice_index}
use Rattle.meaning.specs.Marks.{Stands}
use Rattle.meaning.specs.Paths.{total_to}
use Rattle.model.specs.Loads.{total_of}
use Rattle.model.specs.Order.{before}
use Rattle.model.specs.Parts.{Part}
use Rattle.model.specs.Sets.{has}
use Rattle.search.specs.Seen.{kinds_in, part_in, parts_in}
use Rattle.search.specs.declared.marks.Marks.{Marks}

-- the row of the first i kinds has a mark at the total b
abbrev pub is_closed_at : Marks → ℕ → ℕ → Bool
is_closed_at m i b = nat_lt b m.width && slice_index m.cells.now (i * m.width + b) == 1

-- the count d of the kind at i stands, and, put onto b, can be closed by the kinds after it
abbrev pub closes : Marks → ℕ → ℕ → ℕ → Bool
closes m i b d = has (part_in m i).standing d && is_closed_at m (i + 1) (b + (part_in m i).size * d)

-- c is, of the choices of standing counts that, added to b, give an admitted total, the first
pub record Least (admitted : ℕ → Bool) (ps : List Part) (b : ℕ) (c : List ℕ) : Type 0 where
  pub stands : Stands ps c
  pub closes : admitted (b + total_of ps c) ≡ true
  pub least : (y : List ℕ) → Stands ps y → admitted (b + total_of ps y) ≡ true → before y c ≡ false

-- m kinds have standing counts before them, and no more; t is what the bytes given for those total
pub record Leads (ps : List Part) (given : List ℕ) (m t : ℕ) : Type 0 where
  pub stands : (j : ℕ) → j < m → Stands (take j ps) (take j given)
  pub total : t ≡ total_to ps given m
  pub small : t ≤ m * 1044225
  pub ends : (j : ℕ) → m ≤ j → j < length ps → Stands (take j ps) (take j given) → ⊥

-- the count d at place i is above the given one, and can be closed
abbrev pub raises : Marks → List ℕ → ℕ → ℕ → Bool
raises m given i d = nat_lt (slice_index given i) d && closes m i (total_to (parts_in m) given i) d

-- no place from `from` on, with standing counts before it, can be raised
abbrev pub NoneFrom : Marks → List ℕ → ℕ → Type 0
NoneFrom m given from = (j d : ℕ) → from ≤ j → j < kinds_in m → d < 64 → Stands (take j (parts_in m)) (take j given) → raises m given j d ≡ false

-- i is the last place that can be raised, d the least count that it can be raised to, and t the total with it
pub record Highest (m : Marks) (given : List ℕ) (i d t : ℕ) : Type 0 where
  pub place : i < kinds_in m
  pub count : d < 64
  pub stands : Stands (take i (parts_in m)) (take i given)
  pub total : t ≡ total_to (parts_in m) given i + (part_in m i).size * d
  pub raised : raises m given i d ≡ true
  pub least : (e : ℕ) → e < d → raises m given i e ≡ false
  pub last : NoneFrom m given (i + 1)
