use Rattle.std.proofs.Common.{rules}
use Rattle.reader.specs.Seen.{seen}
use Rattle.casefile.proofs.Desks.{settled_at}
use Rattle.casefile.proofs.operating.settle_owed.Goals as goal

pub returns-in-Some : goal.returns-in-Some
returns-in-Some c =
    let h = seen c.args.reader.now c.args.forward.now c.args.backward.now in
    let next = seen c.settle.new.self c.settle.new.forward c.settle.new.backward in
    let so = settled_at c.in-Some.place h next c.settle.result c.at.result c.settle.ensures in
    search rules
