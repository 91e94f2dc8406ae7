-- What first load and next load answer, and what the lent slices then hold.
use Rattle.std.specs.Prelude.{◌≡◌, ℕ, suc, Bool, true, false, cond, List, length, Some, None, filter, Option, ◌==◌, ◌≢◌}
use Rattle.model.specs.Answers.{Outcome, accepted, refused}
use Rattle.model.specs.Loads.{Fits}
use Rattle.model.specs.Order.{before}
use Rattle.model.specs.Parts.{Part, parts}
use Rattle.meaning.specs.Cells.{over}
use Rattle.meaning.specs.Finding.{IsFirst, IsNext, RunRight, call_of, head_of}
use Rattle.meaning.specs.Life.{Life, blank, lives}
use Rattle.meaning.specs.Plan.{Shows}
use Rattle.meaning.specs.Problems.{fitting, kinds_of, short}
use Rattle.meaning.specs.Register.{Register, loads_of}

-- where a search starts: before all loads, or after the given bytes
abbrev pub start_of : Bool → List ℕ → Option (List ℕ)
start_of false bytes = None
start_of true bytes = Some bytes

-- of a list of loads, the first; or the first that comes after given bytes
abbrev pub sought : Option (List ℕ) → List (List ℕ) → Option (List ℕ)
sought None loads = head_of loads
sought (Some given) loads = head_of (filter (before given) loads)

-- refused 15 where there is none
abbrev pub found_or : Option (List ℕ) → Outcome (List ℕ)
found_or None = refused 15
found_or (Some load) = accepted load

-- The load that is sought, among the fitting loads of standing counts: refused 9 while the plan is blank, 7 where a table is short, 14 where
-- the slice does not have a byte for each kind, 15 where no load comes.
abbrev pub finds : Life → Option (List ℕ) → ℕ → ℕ → ℕ → Outcome (List ℕ)
finds (blank g) after bytes forward backward = refused 9
finds (lives c s) after bytes forward backward =
    cond (short c forward backward) (refused 7) (cond (bytes == kinds_of c) (found_or (sought after (fitting c s.standing))) (refused 14))

-- no load that fits is first, or comes after the given bytes
abbrev pub NoneComes : (ℕ → Bool) → List Part → Option (List ℕ) → Type 0
NoneComes admits ps None = (other : List ℕ) → Fits admits ps other → ⊥
NoneComes admits ps (Some given) = (other : List ℕ) → Fits admits ps other → before given other ≢ true

-- the load is the first that fits, or the first after the given bytes
abbrev pub Comes : (ℕ → Bool) → List Part → Option (List ℕ) → List ℕ → Type 0
Comes admits ps None load = IsFirst admits ps load
Comes admits ps (Some given) load = IsNext admits ps given load

-- In the subject's own words: an accepted call wrote the load that comes, and refusal 15 says that none does.
abbrev pub InWords : Life → Option (List ℕ) → Outcome (List ℕ) → Type 0
InWords (blank g) after a = Unit {0}
InWords (lives c s) after (accepted load) = Comes c.goal.admits (parts c.kinds s.standing) after load
InWords (lives c s) after (refused k) = k ≡ 15 → NoneComes c.goal.admits (parts c.kinds s.standing) after

-- By the loads of any register that the plan shows.
abbrev pub ByRegister : Life → Option (List ℕ) → Outcome (List ℕ) → Type 0
ByRegister (blank g) after a = Unit {0}
ByRegister (lives c s) after (accepted load) = (r : Register) → Shows c s r → sought after (loads_of c r.ruled) ≡ Some load
ByRegister (lives c s) after (refused k) = k ≡ 15 → (r : Register) → Shows c s r → sought after (loads_of c r.ruled) ≡ None

-- The call's place in a run of first load and then next load from each answer: first load answers as call 0 of the run, and next load from
-- what call k gave answers as the call after it.
abbrev pub Place : (ℕ → Bool) → List Part → Option (List ℕ) → Option (List ℕ) → Type 0
Place admits ps None o = o ≡ call_of admits ps 0
Place admits ps (Some given) o = (k : ℕ) → call_of admits ps k ≡ Some given → o ≡ call_of admits ps (suc k)

-- The answer has its place in the run, and the run gives every fitting load of standing counts, each once and in order, and then none.
pub record OnRun (admits : ℕ → Bool) (ps : List Part) (after o : Option (List ℕ)) : Type 0 where
  pub place : Place admits ps after o
  pub whole : RunRight admits ps

-- By the run of calls: a load, or refusal 15 where the run has ended.
abbrev pub ByRun : Life → Option (List ℕ) → Outcome (List ℕ) → Type 0
ByRun (blank g) after a = Unit {0}
ByRun (lives c s) after (accepted load) = OnRun c.goal.admits (parts c.kinds s.standing) after (Some load)
ByRun (lives c s) after (refused k) = k ≡ 15 → OnRun c.goal.admits (parts c.kinds s.standing) after None

-- on a refusal the slice for the load is as it was
abbrev pub load_in : Outcome (List ℕ) → List ℕ → List ℕ
load_in (accepted load) before = load
load_in (refused k) before = before

-- a table holds the plan's marks where a load was found and where none came, and else what it held
abbrev pub marked_for : List ℕ → Outcome (List ℕ) → List ℕ → List ℕ
marked_for marks (accepted load) before = over marks before
marked_for marks (refused k) before = cond (k == 15) (over marks before) before

-- All that is promised of a call: the load found or the refusal, and the slice for the load.
pub record Found (l : Life) (after : Option (List ℕ)) (forward backward : ℕ) (entry exit : List ℕ) (a : Outcome (List ℕ)) : Type 0 where
  pub answer : a ≡ finds l after (length entry) forward backward
  pub slice : exit ≡ load_in a entry
  pub words : InWords l after a
  pub loads : ByRegister l after a
  pub run : ByRun l after a
