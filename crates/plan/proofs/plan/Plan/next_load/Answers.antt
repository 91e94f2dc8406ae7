use Rattle.std.proofs.Common.{Some, length, arith}
use Rattle.fixed_list.specs.FixedLists.{in_use}
use Rattle.meaning.proofs.Lists.{long_take}
use Rattle.plan.proofs.Seeking.{answered}
use Rattle.search.specs.Seen.{parts_in}
use Rattle.plan.proofs.plan.Plan.next_load.Goals as goal

pub returns-clause-finds : goal.returns-clause-finds
returns-clause-finds g c =
    let p = c.args.self.now in
    answered (g.G.Goal.means p.goal) p.case.kinds.many p.case.kinds.items p.standing (in_use p.noted) (length (in_use p.noted)) (Some c.args.load.now) (length c.args.forward.now) (length c.args.backward.now) c.args.load.now c.next_load.new.load c.next_load.result (parts_in c.marks-marks.result)
    c.in_ok-mark_for.ensures.searchable (long_take p.case.kinds.many p.case.kinds.items (omega (arith, p.case.kinds.few, p.case.kinds.long))) c.marks-marks.ensures.parts c.next_load.ensures.next c.next_load.ensures.found c.next_load.ensures.none c.next_load.ensures.refusal
