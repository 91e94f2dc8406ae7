use Rattle.std.proofs.Common.{length, rules}
use Rattle.fixed_list.specs.FixedLists.{in_use}
use Rattle.model.specs.Cases.{kinds_in}
use Rattle.reader.specs.Targets.{file_target}
use Rattle.reader.proofs.Holding.{life_target}
use Rattle.reader.proofs.Numbers.{kinds_back}
use Rattle.reader.proofs.reader.Reader.settle.Goals as goal

-- the kinds and the target are those that are held
pub returns : goal.returns
returns c =
    let plan = c.in-Some.plan in
    let k = kinds_back (kinds_in c.args.self.now.case) in
    let t = life_target (file_target plan.goal) plan.case.kinds.many plan.case.kinds.items plan.standing (in_use plan.noted) (length (in_use plan.noted)) in
    search rules
