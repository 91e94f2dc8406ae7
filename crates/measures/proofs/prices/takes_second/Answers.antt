use Rattle.std.proofs.Common.{◌≡◌, true, false, not, eqb, ap, arith}
use Rattle.std.proofs.lemmas.Bool.{ne_eqb, eq-eqb}
use Rattle.std.proofs.lemmas.Grind.{common_steps}
use Rattle.measures.proofs.prices.takes_second.Goals as goal

pub returns-then-this-ne0 : goal.returns-then-this-ne0
returns-then-this-ne0 g c = let highest : not (eqb g.row.HIGHEST 0) ≡ true = ap not (ne_eqb g.row.HIGHEST 0 c.if-this-ne0.true) in rw highest (grind (arith, common_steps))

pub returns-else-this-ne0 : goal.returns-else-this-ne0
returns-else-this-ne0 g c = let lowest : not (eqb g.row.HIGHEST 0) ≡ false = ap not (eq-eqb g.row.HIGHEST 0 c.if-this-ne0.false) in rw lowest (grind (arith, common_steps))
