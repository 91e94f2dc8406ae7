use Rattle.std.proofs.Common.{sym, ◌∙◌, arith}
use Rattle.std.proofs.lemmas.Bool.{le-ltb}
use Rattle.model.proofs.Bits.{has_past}
use Rattle.model.proofs.sets.contains.Goals as goal

-- a set has no bit past the 64th
pub returns-else-count-lt-COUNTS : goal.returns-else-count-lt-COUNTS
returns-else-count-lt-COUNTS c = le-ltb c.args.count 64 (omega arith) ∙ sym (has_past c.args.set c.args.count (omega (arith, c.ranges.set)) (omega arith))
