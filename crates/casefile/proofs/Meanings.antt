-- From the defined outcome of a file to what it means.
use Rattle.std.proofs.Common.{◌≡◌, ℕ, ◌≤◌, List, [], length, drop, Option, sym, ◌∙◌}
use Rattle.fields.specs.Reading.{Bytes}
use Rattle.faults.specs.Faults.{Fault}
use Rattle.sequence.specs.declared.phase.Phase.{Phase}
use Rattle.sequence.specs.declared.phase.Phase.TheVariants.{Kinds}
use Rattle.sequence.specs.declared.ruled.Ruled.{Ruled}
use Rattle.sequence.specs.Running.{outcome}
use Rattle.sequence.proofs.Ahead.{ahead, ran_from}
use Rattle.sequence.proofs.Whole.{ran}
use Rattle.reader.specs.Holding.{Holding, fresh}
use Rattle.outcomes.specs.Desk.{desk}
use Rattle.outcomes.specs.Outcomes.{Read}
use Rattle.outcomes.proofs.Ending.{told}

pub read : (file f b : List ℕ) (o : Option Fault) (h : Holding) (log : List Ruled) → Bytes file
    → outcome desk (fresh f b) file ≡ record { fault = o; state = h; answers = log } → Read file f b o h log
read file f b o h log by e = told file f b o h log (ran desk file (fresh f b) o h log by e)

-- from what is still to run, where that comes to the same as the whole file
pub read_on : (file f b : List ℕ) (phase : Phase) (p : ℕ) (s : Holding) (before : List Ruled) (o : Option Fault) (h : Holding) (log : List Ruled) → Bytes file → length file ≤ 16384
    → ahead desk phase p (drop p file) s before ≡ ahead desk Kinds 0 file (fresh f b) []
    → ahead desk phase p (drop p file) s before ≡ record { fault = o; state = h; answers = log } → Read file f b o h log
read_on file f b phase p s before o h log by small same e = read file f b o h log by (ran_from desk file (fresh f b) _ small (sym same ∙ e))
