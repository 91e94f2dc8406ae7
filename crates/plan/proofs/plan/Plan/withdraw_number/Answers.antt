use Rattle.std.proofs.Common.{◌≡◌, ℕ, ◌≤◌, List, length, take, Err, Result, sym, ap, ◌∙◌, subst, arith, rules}
use Rattle.fixed_list.specs.FixedLists.{in_use}
use Rattle.model.specs.Answers.{refused, answer_of}
use Rattle.model.specs.Refusals.{number_of}
use Rattle.model.specs.declared.kind.Kind.{Kind}
use Rattle.model.specs.declared.refusal.Refusal.{Refusal}
use Rattle.model.specs.Sets.{held_in_all}
use Rattle.meaning.specs.Life.{Called}
use Rattle.meaning.specs.Register.{withdraw}
use Rattle.meaning.specs.View.{problem_of}
use Rattle.meaning.proofs.Lists.{long_take}
use Rattle.meaning.proofs.PlanBranching as Branching
use Rattle.meaning.proofs.PlanFields.{called_live}
use Rattle.plan.specs.Seen.{life}
use Rattle.plan.specs.declared.plan.Plan.{Plan}
use Rattle.plan.proofs.Noted.{Within, no_fewer, withdraw_goes, within_back}
use Rattle.plan.proofs.Opening.{readied, withdraw_closed}
use Rattle.plan.proofs.plan.Plan.withdraw_number.Goals as goal

pub returns-in_err-parts-clause-does : goal.returns-in_err-parts-clause-does
returns-in_err-parts-clause-does g c =
    let l = life g.G.Goal.means c.args.self.now in
    let f = length c.args.forward.now in
    let b = length c.args.backward.now in
    let e = c.in_err-parts.field-0.0 in
    let is : c.from_residual.result ≡ Err e = search rules in
    let Closed : Result ℕ Refusal → Type 0 = λ r. Called l (withdraw c.args.number f b) l (answer_of r) in
    subst Closed (sym is) (withdraw_closed l c.args.number f b (number_of e) c.in_err-parts.ensures.parts)

pub returns-then-not-is_latest-clause-does : goal.returns-then-not-is_latest-clause-does
returns-then-not-is_latest-clause-does g c =
    let p = c.args.self.now in
    let t = g.G.Goal.means p.goal in
    let n = p.case.kinds.many in
    let kinds = p.case.kinds.items in
    let rows = in_use p.noted in
    let k = length rows in
    let f = length c.args.forward.now in
    let b = length c.args.backward.now in
    let r = readied g.G.Goal.means p c.in_ok-parts.parts f b c.in_ok-parts.ensures.parts in
    called_live t kinds n p.standing p.standing rows rows k k (withdraw c.args.number f b) (refused 13) r.begun.some
    (Branching.withdraw_other (problem_of t n kinds) n p.standing rows f b k c.args.number r.room_of (λ e. c.is_latest.ensures.no c.if-not-is_latest.true (e ∙ sym c.len.ensures.many)))

-- the plan has as many kinds as it reads
kinds_long : {G : Type 0} (p : Plan G) {ks : List Kind} → ks ≡ take p.case.kinds.many p.case.kinds.items → length ks ≡ p.case.kinds.many
kinds_long p are = ap length are ∙ long_take p.case.kinds.many p.case.kinds.items (omega (arith, p.case.kinds.few, p.case.kinds.long))

pub invariant_of-self-2 : goal.invariant_of-self-2
invariant_of-self-2 g c =
    let p = c.args.self.now in
    let n = p.case.kinds.many in
    let row = c.in-Some.row in
    let long : length row ≡ 32 = search rules in
    record { full = long; inside = within_back n p.standing row (in_use c.pop.new.self) (subst (Within n p.standing) c.in-Some.ensures p.inside) }

pub overflow_sub-result : goal.overflow_sub-result
overflow_sub-result g c =
    let p = c.args.self.now in
    let n = p.case.kinds.many in
    let row = c.in-Some.row in
    let r = readied g.G.Goal.means p c.in_ok-parts.parts (length c.args.forward.now) (length c.args.backward.now) c.in_ok-parts.ensures.parts in
    let h : held_in_all (take n p.standing) ≤ held_in_all (take n row) = no_fewer n p.standing row (in_use c.pop.new.self) (subst (Within n p.standing) c.in-Some.ensures p.inside) in
    let before : c.held_in_all-before.result ≡ held_in_all (take n p.standing) = c.held_in_all-before.ensures ∙ ap (λ m. held_in_all (take m p.standing)) r.begun.long in
    let later : c.held_in_all-after.result ≡ held_in_all (take n row) = c.held_in_all-after.ensures ∙ ap (λ m. held_in_all (take m row)) (kinds_long p c.kinds-kinds.ensures) in
    omega (arith, h, before, later)

pub returns-clause-does : goal.returns-clause-does
returns-clause-does g c =
    let p = c.args.self.now in
    let t = g.G.Goal.means p.goal in
    let n = p.case.kinds.many in
    let kinds = p.case.kinds.items in
    let f = length c.args.forward.now in
    let b = length c.args.backward.now in
    let row = c.in-Some.row in
    let r = readied g.G.Goal.means p c.in_ok-parts.parts f b c.in_ok-parts.ensures.parts in
    let at = c.is_latest.ensures.yes c.if-not-is_latest.false in
    let before : c.held_in_all-before.result ≡ held_in_all (take n p.standing) = c.held_in_all-before.ensures ∙ ap (λ m. held_in_all (take m p.standing)) r.begun.long in
    let later : c.held_in_all-after.result ≡ held_in_all (take n row) = c.held_in_all-after.ensures ∙ ap (λ m. held_in_all (take m row)) (kinds_long p c.kinds-kinds.ensures) in
    withdraw_goes t n kinds p.standing r.begun.some (in_use p.noted) (in_use c.pop.new.self) row c.args.number f b c.held_in_all-before.result c.held_in_all-after.result
    c.in-Some.ensures at.0 (at.1 ∙ c.len.ensures.many) r.room_of before later
