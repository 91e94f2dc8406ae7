use Rattle.std.proofs.Common.{◌≡◌, ℕ, ◌<◌, ◌≤◌, length, sym, ◌∙◌, subst, arith}
use Rattle.fixed_list.specs.FixedLists.{in_use}
use Rattle.model.specs.Answers.{accepted, refused}
use Rattle.meaning.specs.Register.{keep}
use Rattle.meaning.specs.Life.{Called}
use Rattle.meaning.specs.View.{life_of, problem_of}
use Rattle.meaning.proofs.PlanBranching as Branching
use Rattle.meaning.proofs.PlanFields.{called_live}
use Rattle.plan.proofs.Noted.{Within, keep_goes, taken, within_fewer}
use Rattle.plan.proofs.Stage.{some_kinds}
use Rattle.plan.proofs.plan.Plan.keep_number.Goals as goal

pub returns-then-not-is_latest-clause-does : goal.returns-then-not-is_latest-clause-does
returns-then-not-is_latest-clause-does g c =
    let p = c.args.self.now in
    let t = g.G.Goal.means p.goal in
    let n = p.case.kinds.many in
    let rows = in_use p.noted in
    let k = length rows in
    let some : 0 < n = some_kinds n _ c.is_blank.ensures c.if-is_blank.false in
    called_live t p.case.kinds.items n p.standing p.standing rows rows k k (keep c.args.number) (refused 13) some
    (Branching.keep_other (problem_of t n p.case.kinds.items) n p.standing rows k c.args.number (λ e. c.is_latest.ensures.no c.if-not-is_latest.true (e ∙ sym c.len.ensures.many)))

pub invariant_of-self : goal.invariant_of-self
invariant_of-self g c =
    let p = c.args.self.now in
    let n = p.case.kinds.many in
    let after = in_use c.pop.new.self in
    let at = c.is_latest.ensures.yes c.if-not-is_latest.false in
    let real : 1 ≤ c.args.number = at.0 in
    let is : c.args.number ≡ length (in_use p.noted) = at.1 ∙ c.len.ensures.many in
    let took = taken (in_use p.noted) after c.pop.result c.pop.ensures (omega arith) in
    record { full = p.full; inside = within_fewer n p.standing _ after (subst (Within n p.standing) took p.inside) }

pub returns-clause-does : goal.returns-clause-does
returns-clause-does g c =
    let p = c.args.self.now in
    let t = g.G.Goal.means p.goal in
    let n = p.case.kinds.many in
    let kinds = p.case.kinds.items in
    let before = in_use p.noted in
    let after = in_use c.pop.new.self in
    let some : 0 < n = some_kinds n _ c.is_blank.ensures c.if-is_blank.false in
    let at = c.is_latest.ensures.yes c.if-not-is_latest.false in
    let real : 1 ≤ c.args.number = at.0 in
    let is : c.args.number ≡ length before = at.1 ∙ c.len.ensures.many in
    let Open : ℕ → Type 0 = λ m. Called (life_of t n kinds p.standing before (length before)) (keep c.args.number) (life_of t n kinds p.standing after (length after)) (accepted m) in
    subst Open (sym c.len-2.ensures.many)
    (keep_goes t n kinds p.standing some before after _ c.args.number (taken before after c.pop.result c.pop.ensures (omega arith)) real is)
