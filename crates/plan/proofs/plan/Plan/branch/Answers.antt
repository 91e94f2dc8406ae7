use Rattle.std.proofs.Common.{◌≡◌, ℕ, ◌+◌, ◌<◌, List, [], ◌∷◌, length, sym, ap, ◌∙◌, subst, arith}
use Rattle.std.proofs.lemmas.Bool.{eqb-false, eqb-true}
use Rattle.std.proofs.lemmas.List.{length-append}
use Rattle.fixed_list.specs.FixedLists.{in_use}
use Rattle.model.specs.Answers.{Answer, accepted, refused}
use Rattle.meaning.specs.Life.{Called}
use Rattle.meaning.specs.Register.{branch}
use Rattle.meaning.specs.View.{life_of, problem_of}
use Rattle.meaning.proofs.PlanBranching as Branching
use Rattle.meaning.proofs.PlanFields.{called_live}
use Rattle.plan.proofs.Noted.{Within, branch_goes, within_more}
use Rattle.plan.proofs.Stage.{some_kinds}
use Rattle.plan.proofs.plan.Plan.branch.Goals as goal

pub returns-then-is_full-clause-does : goal.returns-then-is_full-clause-does
returns-then-is_full-clause-does g c =
    let p = c.args.self.now in
    let t = g.G.Goal.means p.goal in
    let n = p.case.kinds.many in
    let rows = in_use p.noted in
    let k = length rows in
    let some : 0 < n = some_kinds n _ c.is_blank.ensures c.if-is_blank.false in
    let full : k ≡ 8 = eqb-true k 8 (sym c.is_full.ensures.many ∙ c.if-is_full.true) in
    called_live t p.case.kinds.items n p.standing p.standing rows rows k k branch (refused 12) some
    (Branching.branch_refused (problem_of t n p.case.kinds.items) n p.standing rows k (omega (arith, full)))

pub invariant_of-self : goal.invariant_of-self
invariant_of-self g c =
    let p = c.args.self.now in
    let n = p.case.kinds.many in
    record { full = p.full; inside = subst (Within n p.standing) (sym c.push.ensures) (within_more n p.standing (in_use p.noted) p.inside) }

pub returns-clause-does : goal.returns-clause-does
returns-clause-does g c =
    let p = c.args.self.now in
    let t = g.G.Goal.means p.goal in
    let n = p.case.kinds.many in
    let kinds = p.case.kinds.items in
    let rows = in_use p.noted in
    let some : 0 < n = some_kinds n _ c.is_blank.ensures c.if-is_blank.false in
    let not : length rows ≡ 8 → ⊥ = eqb-false (length rows) 8 (sym c.is_full.ensures.many ∙ c.if-is_full.false) in
    let few : length rows < 8 = omega (arith, not, c.is_full.ensures.few) in
    let After : List (List ℕ) → Type 0 = λ more. Called (life_of t n kinds p.standing rows (length rows)) branch (life_of t n kinds p.standing more (length more)) (accepted (length more)) in
    let Said : Answer → Type 0 = λ a. Called (life_of t n kinds p.standing rows (length rows)) branch (life_of t n kinds p.standing (in_use c.push.new.self) (length (in_use c.push.new.self))) a in
    let long : length (in_use c.push.new.self) ≡ length rows + 1 = ap length c.push.ensures ∙ length-append rows (p.standing ∷ []) in
    let next : length (in_use c.push.new.self) ≡ c.of.result.number = omega (arith, c.of.ensures, c.number_after-number.ensures, c.len.ensures.many, long) in
    subst Said (ap accepted next) (subst After (sym c.push.ensures) (branch_goes t n kinds p.standing some rows few))
