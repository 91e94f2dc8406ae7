use Rattle.std.proofs.Common.{◌≡◌, drop}
use Rattle.model.specs.Goals.{is_in}
use Rattle.model.specs.ListGoals.{rising_in}
use Rattle.model.proofs.goal.rising.RisingTotals.contains.Given as goal

-- the total is not among those passed, so what is left decides
abbrev pub invariant-loop-listed : goal.invariant-loop-listed
invariant-loop-listed g l = is_in (drop l.listed-index (rising_in l.self)) l.total ≡ is_in (rising_in l.self) l.total
