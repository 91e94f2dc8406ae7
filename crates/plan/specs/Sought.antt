-- What a call that writes a load answered.
use Rattle.std.specs.Prelude.{◌≡◌, ◌≢◌, ℕ, ◌<◌, false, List, Option, Ok, Err, Result}
use Rattle.meaning.specs.Life.{Life}
use Rattle.meaning.specs.Problems.{short}
use Rattle.meaning.specs.Seeking.{Found}
use Rattle.meaning.specs.View.{problem_of}
use Rattle.model.specs.Goals.{Target}
use Rattle.model.specs.declared.kind.Kind.{Kind}
use Rattle.model.specs.declared.refusal.Refusal.{Refusal}
use Rattle.model.specs.Answers.{Outcome, accepted, refused}
use Rattle.model.specs.Refusals.{number_of}

-- the load that the slice then holds, or the refusal
abbrev pub load_said : Result (Unit {0}) Refusal → List ℕ → Outcome (List ℕ)
load_said (Ok u) exit = accepted exit
load_said (Err e) exit = refused (number_of e)

-- Whatever load is sought, this refusal answers the call, and not for want of a load.
pub record Barred (l : Life) (forward backward : ℕ) (load : List ℕ) (e : Refusal) : Type 0 where
  pub unsearched : number_of e ≢ 15
  pub answers : (after : Option (List ℕ)) → Found l after forward backward load load (refused (number_of e))

-- There are kinds, both tables have room for their marks, and the slice has a byte for each.
pub record Searchable (g : Target) (n : ℕ) (kinds : List Kind) (forward backward bytes : ℕ) : Type 0 where
  pub some : 0 < n
  pub room : short (problem_of g n kinds) forward backward ≡ false
  pub long : bytes ≡ n
