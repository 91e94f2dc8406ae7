-- No total of a named goal is above its top.
use Rattle.std.specs.Prelude.{◌%◌, ◌==◌, nat_le}
use Rattle.std.proofs.lemmas.Bool.{and_parts, leb-true}
use Rattle.model.specs.Goals.{Bounded}
use Rattle.model.specs.ListGoals.{totals_in}
use Rattle.model.specs.Rises.{in_below_last}
use Rattle.reader.specs.declared.goal.Named.{Named}
use Rattle.reader.specs.declared.goal.Named.TheVariants.{Band, List as Totals}
use Rattle.reader.specs.declared.goal.FileGoal.{FileGoal}
use Rattle.reader.specs.declared.goal.FileGoal.TheVariants.{Plain, Strided}
use Rattle.reader.specs.Targets.{file_target, named_target}

pub named_bounded : (g : Named) → Bounded (named_target g)
named_bounded (Band g) b e = leb-true b g.high (and_parts (nat_le g.low b) (nat_le b g.high) e).1
named_bounded (Totals l) b e = in_below_last (totals_in l) b l.listed.rises e

pub file_bounded : (g : FileGoal) → Bounded (file_target g)
file_bounded (Plain g) b e = named_bounded g b e
file_bounded (Strided s) b e = named_bounded s.below b (and_parts ((named_target s.below).admits b) (b % s.modulus == s.remainder) e).0
