use Rattle.std.proofs.Common.{◌≡◌, ℕ, ◌<◌, false, List, [], map, length, take, Some, sym, ap, ◌∙◌, subst, arith, rules}
use Rattle.std.proofs.lemmas.Bool.{eqb-true}
use Rattle.fixed_list.specs.FixedLists.{in_use}
use Rattle.model.specs.Answers.{accepted}
use Rattle.model.specs.declared.kind.Kind.{Kind}
use Rattle.model.specs.Loads.{fits}
use Rattle.model.specs.Parts.{parts}
use Rattle.model.specs.Sets.{held_in_all}
use Rattle.meaning.specs.Life.{Life, Settled}
use Rattle.meaning.specs.Problems.{problem, short}
use Rattle.meaning.specs.Used.{Pruned}
use Rattle.meaning.specs.View.{Inside, life_of}
use Rattle.meaning.proofs.Lists.{long_take}
use Rattle.meaning.proofs.PlanFields.{blank_is, inside_none}
use Rattle.meaning.proofs.PlanSettling.{settled_now}
use Rattle.marking.proofs.Striking.{sets_some}
use Rattle.plan.specs.Seen.{life}
use Rattle.plan.proofs.plan.Plan.settle.Goals as goal

pub invariant_of-self : goal.invariant_of-self
invariant_of-self g c =
    let cs = c.args.case.now.kinds in
    let ks = c.kinds-kinds.result.now in
    let next = c.in-Some.next in
    let allowed = c.allowed_sets-allowed.result in
    let full : length next ≡ 32 = search rules in
    let same : length ks ≡ cs.many = ap length c.kinds-kinds.ensures ∙ long_take cs.many cs.items (omega (arith, cs.few, cs.long)) in
    let wide : length allowed ≡ 32 = search rules in
    let sets : length (take (length ks) allowed) ≡ length ks = long_take (length ks) allowed (omega (arith, cs.few)) in
    let some = sets_some (g.G.Goal.means c.args.self.now.goal).admits ks (take (length ks) allowed) next sets c.in-Some.ensures.answer in
    let In : List (List ℕ) → Type 0 = λ rows. ∥ Inside cs.many next rows (length rows) ∥₁ in
    record { full = full; inside = subst In (sym c.clear.ensures) (inside_none cs.many next [] (λ j h. some j (omega arith))) }

pub returns-clause-does : goal.returns-clause-does
returns-clause-does g c =
    let old = c.args.self.now in
    let t = g.G.Goal.means old.goal in
    let n₀ = old.case.kinds.many in
    let rows = in_use old.noted in
    let cs = c.args.case.now.kinds in
    let n = cs.many in
    let kinds = cs.items in
    let ks = c.kinds-kinds.result.now in
    let next = c.in-Some.next in
    let allowed = c.allowed_sets-allowed.result in
    let f = length c.args.forward.now in
    let b = length c.args.backward.now in
    -- the kinds that were read are those of the case
    let are : ks ≡ take n kinds = c.kinds-kinds.ensures in
    let long : length (take n kinds) ≡ n = long_take n kinds (omega (arith, cs.few, cs.long)) in
    let same : length ks ≡ n = ap length are ∙ long in
    let some : 0 < length ks = search rules in
    let Short : List Kind → Type 0 = λ xs. short (problem t xs) f b ≡ false in
    let room : Short (take n kinds) = subst Short are (sym c.is_short.ensures ∙ c.if-is_short.false) in
    let sets : take n allowed ≡ map (λ k. k.allowed) (take n kinds) = ap (λ k. take k allowed) (sym same) ∙ c.allowed_sets-allowed.ensures ∙ ap (map (λ k. k.allowed)) are in
    let Found : List Kind → Type 0 = λ xs. Pruned (fits t.admits (parts xs (take (length xs) allowed))) (length xs) (Some next) in
    let FoundTo : ℕ → Type 0 = λ k. Pruned (fits t.admits (parts (take n kinds) (take k allowed))) (length (take n kinds)) (Some next) in
    let found : FoundTo n = subst FoundTo long (subst Found are c.in-Some.ensures.answer) in
    let blank : n₀ ≡ 0 = eqb-true n₀ 0 (sym c.if-not-is_blank.ensures) in
    let Before : Life → Type 0 = λ l. Settled l (take n kinds) f b (life_of t n kinds next [] 0) (accepted c.held_in_all.result) in
    let After : List (List ℕ) → Type 0 = λ rows. Settled (life g.G.Goal.means old) (take n kinds) f b (life_of t n kinds next rows (length rows)) (accepted c.held_in_all.result) in
    subst After (sym c.clear.ensures)
    (subst Before (blank_is t n₀ old.case.kinds.items old.standing [] 0 blank ∙ sym (blank_is t n₀ old.case.kinds.items old.standing rows (length rows) blank))
    (settled_now t n₀ n kinds old.case.kinds.items next allowed old.standing [] 0 f b c.held_in_all.result
    blank (omega (arith, some, same)) long room sets found (c.held_in_all.ensures ∙ ap (λ k. held_in_all (take k next)) same)))
