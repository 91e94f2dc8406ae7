use Rattle.std.proofs.Common.{rules}
use Rattle.fields.specs.Reading.{said}
use Rattle.reader.specs.Seen.{seen}
use Rattle.casefile.proofs.Desks.{acted}
use Rattle.casefile.proofs.operating.turn.Goals as goal

-- the operation of a field is that of the desk
pub returns-in_err-answer : goal.returns-in_err-answer
returns-in_err-answer c =
    let before = seen c.settle_owed.new.reader c.settle_owed.new.forward c.settle_owed.new.backward in
    let after = seen c.operate.new.self c.operate.new.forward c.operate.new.backward in
    let d = acted before after c.operate.result (said c.args.field) c.operate.ensures in
    search rules

pub returns : goal.returns
returns c =
    let before = seen c.settle_owed.new.reader c.settle_owed.new.forward c.settle_owed.new.backward in
    let after = seen c.operate.new.self c.operate.new.forward c.operate.new.backward in
    let d = acted before after c.operate.result (said c.args.field) c.operate.ensures in
    search rules
