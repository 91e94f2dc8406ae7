use Rattle.std.proofs.Common.{refl}
use Rattle.model.specs.Sets.{counts, set_of}
use Rattle.model.specs.Loads.{choices}
use Rattle.meaning.specs.Cells.{grid}
use Rattle.meaning.specs.Tallies.{tally_by}
use Rattle.results.specs.Rows.{Worked}
use Rattle.results.proofs.worked_results_hold.Goals as goal

-- both lists, computed
all_hold : Worked
unfolding counts set_of choices grid tally_by
all_hold = refl

pub returns : goal.returns
returns c = all_hold
