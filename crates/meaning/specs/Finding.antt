-- The first fitting load, the first after given bytes, and whole runs of them.
use Rattle.std.specs.Prelude.{◌≡◌, ℕ, zero, suc, ◌<◌, ◌≤◌, Bool, true, false, List, [], ◌∷◌, length, is_some, Some, None, filter, Option}
use Rattle.std.specs.List.{slice_get}
use Rattle.model.specs.Loads.{Fits, fits}
use Rattle.model.specs.Order.{Precedes, before}
use Rattle.model.specs.Parts.{Part}

-- the first of a list, if there is one
abbrev pub head_of : {X : Type 0} → List X → Option X
head_of [] = None
head_of (x ∷ xs) = Some x

-- the first of the fitting loads
abbrev pub first_load : (ℕ → Bool) → List Part → Option (List ℕ)
first_load admits ps = head_of (fits admits ps)

-- of the fitting loads that come after the given bytes, the first
abbrev pub next_load : (ℕ → Bool) → List Part → List ℕ → Option (List ℕ)
next_load admits ps given = head_of (filter (before given) (fits admits ps))

-- what a lent slice holds after an answer: the load, or what it held
abbrev pub or_kept : Option (List ℕ) → List ℕ → List ℕ
or_kept None held = held
or_kept (Some load) held = load

-- The answer says whether there is a load o, and the slice then holds it, or what it held.
pub record Gives (o : Option (List ℕ)) (entry : List ℕ) (r : Bool) (exit : List ℕ) : Type 0 where
  pub answer : r ≡ is_some o
  pub load : exit ≡ or_kept o entry

-- In the subject's own words: the load fits, and no other that fits comes before it.
pub record IsFirst (admits : ℕ → Bool) (ps : List Part) (load : List ℕ) : Type 0 where
  pub fits : Fits admits ps load
  pub none_before : (other : List ℕ) → Fits admits ps other → before other load ≡ false

-- The load fits and comes after the given bytes, and no other that does so comes before it.
pub record IsNext (admits : ℕ → Bool) (ps : List Part) (given load : List ℕ) : Type 0 where
  pub fits : Fits admits ps load
  pub after : before given load ≡ true
  pub none_between : (other : List ℕ) → Fits admits ps other → before given other ≡ true → before other load ≡ false

-- next from an answer; from none, none
abbrev pub onwards : (ℕ → Bool) → List Part → Option (List ℕ) → Option (List ℕ)
onwards admits ps None = None
onwards admits ps (Some load) = next_load admits ps load

-- what call k of a run answers: first, and then next from each answer
abbrev pub call_of : (ℕ → Bool) → List Part → ℕ → Option (List ℕ)
call_of admits ps zero = first_load admits ps
call_of admits ps (suc k) = onwards admits ps (call_of admits ps k)

-- A run gives every fitting load, each once and in order, and then none.
pub record RunRight (admits : ℕ → Bool) (ps : List Part) : Type 0 where
  pub each : (k : ℕ) → call_of admits ps k ≡ slice_get (fits admits ps) k
  pub only : (k : ℕ) (load : List ℕ) → call_of admits ps k ≡ Some load → Fits admits ps load
  pub all : (load : List ℕ) → Fits admits ps load → (k : ℕ) × (call_of admits ps k ≡ Some load)
  pub rises : (j k : ℕ) (earlier later : List ℕ) → j < k → call_of admits ps j ≡ Some earlier → call_of admits ps k ≡ Some later → Precedes earlier later
  pub ends : (k : ℕ) → length (fits admits ps) ≤ k → call_of admits ps k ≡ None

abbrev pub RunsRight : Type 0
RunsRight = (admits : ℕ → Bool) (ps : List Part) → RunRight admits ps
