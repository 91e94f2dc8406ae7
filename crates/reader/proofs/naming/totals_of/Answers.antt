use Rattle.std.proofs.Common.{◌≡◌, ◌/◌, length, take, sym, ap, ◌∙◌, arith}
use Rattle.std.proofs.lemmas.Grind.{common_steps}
use Rattle.std.proofs.lemmas.List.{take_all, take_more_set, take_more}
use Rattle.fields.specs.Reading.{totals}
use Rattle.reader.proofs.Totals.{chunk_total, halved}
use Rattle.reader.proofs.naming.totals_of.Goals as goal

pub loop-i-preserved : goal.loop-i-preserved
loop-i-preserved c =
    let bs = c.args.part.now in
    let h = halved bs in
    let t = chunk_total bs (length bs / 2) c.loop-i.i (omega (arith, c.as_chunks.ensures.front_len)) (omega arith) in
    grind (arith, common_steps, take_more_set, take_more)

pub returns-clause-front : goal.returns-clause-front
returns-clause-front c =
    let bs = c.args.part.now in
    let i = c.loop-i.i in
    let end : i ≡ length (totals bs) = omega (arith, halved bs, c.as_chunks.ensures.front_len) in
    ap (λ n. take n c.loop-i.totals) (sym end) ∙ (c.loop-i.invariant.1 ∙ take_all i (totals bs) (omega (arith, end)))
