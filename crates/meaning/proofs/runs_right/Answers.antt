use Rattle.meaning.proofs.Rising.{run_right}
use Rattle.meaning.proofs.runs_right.Goals as goal

pub returns : goal.returns
returns c = run_right
