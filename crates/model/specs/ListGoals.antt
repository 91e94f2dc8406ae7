-- The totals of a list goal.
use Rattle.std.specs.Prelude.{ℕ, List}
use Rattle.model.specs.declared.goal.rising.RisingTotals.{RisingTotals}
use Rattle.model.specs.declared.goal.list.TotalList.{TotalList}
use Rattle.fixed_list.specs.FixedLists.{in_use}

-- strictly rising totals, in order
abbrev pub rising_in : {N : ℕ} → RisingTotals N → List ℕ
rising_in r = in_use r.list

-- those of a list goal
abbrev pub totals_in : TotalList → List ℕ
totals_in l = rising_in l.listed
