-- What the goal that a file names means.
use Rattle.model.specs.Goals.{Target, between, one_of, strided}
use Rattle.model.specs.ListGoals.{totals_in}
use Rattle.reader.specs.declared.goal.Named.{Named}
use Rattle.reader.specs.declared.goal.Named.TheVariants.{Band, List as Totals}
use Rattle.reader.specs.declared.goal.FileGoal.{FileGoal}
use Rattle.reader.specs.declared.goal.FileGoal.TheVariants.{Plain, Strided}

-- the totals of a band or of a list
abbrev pub named_target : Named → Target
named_target (Band b) = between b.low b.high
named_target (Totals l) = one_of (totals_in l)

-- the same, under a stride or not
abbrev pub file_target : FileGoal → Target
file_target (Plain goal) = named_target goal
file_target (Strided s) = strided s.modulus s.remainder (named_target s.below)
