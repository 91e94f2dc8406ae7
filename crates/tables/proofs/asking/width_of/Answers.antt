use Rattle.std.proofs.Common.{rules}
use Rattle.tables.proofs.asking.width_of.Goals as goal

pub overflow_add-result : goal.overflow_add-result
overflow_add-result g c = let low = g.met.G.Goal.low c.args.goal.now in search rules

pub returns : goal.returns
returns g c = let low = g.met.G.Goal.low c.args.goal.now in search rules
