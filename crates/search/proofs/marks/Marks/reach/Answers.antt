use Rattle.std.proofs.Common.{◌≡◌, ◌+◌, ◌<◌, length, ap, ◌∙◌, arith}
use Rattle.meaning.specs.Paths.{total_to}
use Rattle.search.proofs.Finding.{parts_long, stands_ends, stands_step, total_step}
use Rattle.search.specs.Seen.{parts_in}
use Rattle.search.proofs.marks.Marks.reach.Goals as goal

pub returns-then-not-stands-clause-leads : goal.returns-then-not-stands-clause-leads
returns-then-not-stands-clause-leads c =
    let ps = parts_in c.args.self.now in
    let given = c.args.load.now in
    let i = c.loop-i.i in
    let n : i < length ps = omega (arith, parts_long c.args.self.now) in
    record {
      stands = λ j h. c.loop-i.invariant.0 j (omega arith);
      total = ap (λ v. c.loop-i.total + v) c.blocks-total.ensures.value ∙ total_step ps given i c.loop-i.total n (omega arith) c.loop-i.invariant.1;
      small = omega (arith, c.blocks-total.ensures.small);
      ends = λ j h l s. stands_ends ps given i c.stands.result n (omega arith) c.stands.ensures c.if-not-stands.true j h s;
    }

pub loop-i-preserved : goal.loop-i-preserved
loop-i-preserved c =
    let ps = parts_in c.args.self.now in
    let given = c.args.load.now in
    let i = c.loop-i.i in
    let n : i < length ps = omega (arith, parts_long c.args.self.now) in (
      stands_step ps given i c.stands.result n (omega arith) c.loop-i.invariant.0 c.stands.ensures c.if-not-stands.false,
      ap (λ v. c.loop-i.total + v) c.blocks-total.ensures.value ∙ total_step ps given i c.loop-i.total n (omega arith) c.loop-i.invariant.1,
      omega (arith, c.blocks-total.ensures.small),
    )

pub returns-clause-leads : goal.returns-clause-leads
returns-clause-leads c =
    let ps = parts_in c.args.self.now in
    let given = c.args.load.now in
    let n = parts_long c.args.self.now in
    let end : c.loop-i.i ≡ length given = omega arith in
    record {
      stands = λ j h. c.loop-i.invariant.0 j (omega arith);
      total = c.loop-i.invariant.1 ∙ ap (total_to ps given) end;
      small = omega arith;
      ends = λ j h l s. absurd (omega arith);
    }
