use Rattle.std.proofs.Common.{arith, rules}
use Rattle.std.proofs.lemmas.Grind.{common_steps}
use Rattle.report.proofs.Spaced.{all_members, member_more, other_more}
use Rattle.report.proofs.counts.SetCountsDisplay.fmt.Goals.{then-contains+in_ok-write, else-contains}
use Rattle.report.proofs.counts.SetCountsDisplay.fmt.Goals as goal

pub loop-member-preserved : goal.loop-member-preserved
loop-member-preserved g c plain =
    let set = c.args.self.now.0 in
    let d = c.loop-member.member-counter in
    let x = c.loop-member.invariant plain in
    elim c.if-contains.branch [
      | then-contains+in_ok-write w ↦ let e = member_more set d (search rules) in grind (arith, common_steps)
      | else-contains w ↦ let e = other_more set d (search rules) in grind (arith, common_steps)
    ]

pub returns-clause-writes : goal.returns-clause-writes
returns-clause-writes g c plain ok =
    let x = c.loop-member.invariant plain in
    let e = all_members c.args.self.now.0 c.loop-member.member-counter (omega arith) in
    grind (arith, common_steps)
