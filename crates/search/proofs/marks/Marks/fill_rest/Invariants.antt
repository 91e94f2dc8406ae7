use Rattle.search.proofs.Finding.{Filling}
use Rattle.search.specs.Seen.{parts_in}
use Rattle.search.proofs.marks.Marks.fill_rest.Given as goal

abbrev pub invariant-loop-i : goal.invariant-loop-i
invariant-loop-i g l = Filling (g.G.Goal.means l.goal).admits (parts_in l.self) l.from l.total l.i l.b l.rest
