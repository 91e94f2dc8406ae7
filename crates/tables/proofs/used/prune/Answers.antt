use Rattle.tables.proofs.Both.{none_fits, some_fits}
use Rattle.tables.proofs.used.prune.Goals as goal

pub returns-then-at-eq1-clause-answer : goal.returns-then-at-eq1-clause-answer
returns-then-at-eq1-clause-answer g c = (some_fits _ _ _ _ _ _ c.requires.prepared c.fill_marks.ensures c.at.result c.at.ensures c.if-at-eq1.true, c.used_sets.ensures)

pub returns-else-at-eq1-clause-answer : goal.returns-else-at-eq1-clause-answer
returns-else-at-eq1-clause-answer g c = none_fits _ _ _ _ _ _ c.requires.prepared c.fill_marks.ensures c.at.result c.at.ensures c.if-at-eq1.false
