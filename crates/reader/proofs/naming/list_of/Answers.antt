use Rattle.std.proofs.Common.{take, ap, ◌∙◌, arith, rules}
use Rattle.fields.specs.Reading.{totals}
use Rattle.reader.proofs.Totals.{halved, too_many}
use Rattle.reader.proofs.naming.list_of.Goals as goal

pub returns-then-many-gt-MOST_LISTED : goal.returns-then-many-gt-MOST_LISTED
returns-then-many-gt-MOST_LISTED c =
    let bs = c.args.part.now in
    too_many (totals bs) (omega (arith, halved bs, c.if-many-gt-MOST_LISTED.true))

pub returns : goal.returns
returns c =
    let bs = c.args.part.now in
    let e = ap (λ n. take n c.totals_of-totals.result) (halved bs) ∙ c.totals_of-totals.ensures.front in
    search rules
