use Rattle.meaning.proofs.Paths.{marked}
use Rattle.meaning.proofs.marks_and_loads.Goals as goal

pub returns : goal.returns
returns c = marked
