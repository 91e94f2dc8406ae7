use Rattle.std.proofs.Common.{min, length, refl, arith}
use Rattle.meaning.proofs.Remarks.{made_withdraw}
use Rattle.plan.proofs.Stage.{whole}
use Rattle.plan.proofs.plan.Plan.make_withdraw.Goals as goal

pub returns : goal.returns
returns g c =
    let p = c.args.self.now in
    let q = c.withdraw_number.new.self in
    let means = g.G.Goal.means in
    let forward = c.args.forward.now in
    let backward = c.args.backward.now in
    let made = made_withdraw _ _ _ _ c.lengths-f.result.0 c.lengths-f.result.1 (min c.args.cells.forward (length forward)) (min c.args.cells.backward (length backward)) forward backward _ _ c.args.number
    c.withdraw_number.ensures.does (omega (arith, c.lengths-f.ensures.forward)) (omega (arith, c.lengths-f.ensures.backward)) c.lengths-f.ensures.forward c.lengths-f.ensures.backward refl (whole means p) (whole means q) c.withdraw_number.ensures.forward c.withdraw_number.ensures.backward in
    record { does = made.does; goal = c.withdraw_number.ensures.goal; forward = made.ahead_on; backward = made.back_on }
