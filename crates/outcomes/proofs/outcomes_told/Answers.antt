use Rattle.outcomes.proofs.Ending.{told}
use Rattle.outcomes.proofs.outcomes_told.Goals as goal

pub returns : goal.returns
returns c = told
