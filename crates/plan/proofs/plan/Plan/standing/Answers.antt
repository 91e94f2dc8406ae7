use Rattle.std.proofs.Common.{ℕ, ◌-◌, ◌<◌, leb, length, get_or, sym, ap, ◌∙◌, subst, arith}
use Rattle.std.proofs.lemmas.Bool.{and_parts, leb-true}
use Rattle.std.proofs.lemmas.List.{get_or-take}
use Rattle.fixed_list.specs.FixedLists.{in_use}
use Rattle.model.specs.Answers.{accepted}
use Rattle.meaning.specs.Life.{Standing}
use Rattle.meaning.specs.View.{life_of}
use Rattle.meaning.proofs.PlanTelling.{stand_live}
use Rattle.plan.proofs.Opening.{opened}
use Rattle.plan.proofs.plan.Plan.standing.Goals as goal

pub returns-clause-tells : goal.returns-clause-tells
returns-clause-tells g c =
    let p = c.args.self.now in
    let t = g.G.Goal.means p.goal in
    let n = p.case.kinds.many in
    let kinds = p.case.kinds.items in
    let i = c.args.kind in
    let ps = c.in_ok-parts.parts in
    let o = opened g.G.Goal.means p ps c.in_ok-parts.ensures.parts in
    let two = and_parts (leb 1 i) (leb i (length ps.kinds.now)) (sym c.if-not-is_kind.ensures) in
    let low : i - 1 < n = omega (arith, leb-true 1 i two.0, leb-true i (length ps.kinds.now) two.1, o.long) in
    let S : ℕ → Type 0 = λ v. Standing (life_of t n kinds p.standing (in_use p.noted) (length (in_use p.noted))) i (accepted v) in
    subst S (sym (ap (λ xs. get_or xs (i - 1) 0) o.sets_are ∙ get_or-take n p.standing (i - 1) 0 low))
    (stand_live t n kinds p.standing (in_use p.noted) (length (in_use p.noted)) i (leb-true 1 i two.0) (omega (arith, leb-true i (length ps.kinds.now) two.1, o.long)) (ap length (sym o.kinds_are) ∙ o.long))
