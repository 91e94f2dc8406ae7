use Rattle.std.proofs.Common.{◌≡◌, ℕ, ◌-◌, ◌<◌, ◌≤◌, true, false, not, List, length, get_or, take, Err, Result, Some, sym, refl, ap, ◌∙◌, subst, ap₂, arith, rules}
use Rattle.std.proofs.lemmas.List.{get_or-take}
use Rattle.fixed_list.specs.FixedLists.{in_use}
use Rattle.model.specs.Answers.{accepted, answer_of}
use Rattle.model.specs.Loads.{fits}
use Rattle.model.specs.Parts.{parts}
use Rattle.model.specs.Refusals.{number_of}
use Rattle.model.specs.declared.refusal.Refusal.{Refusal}
use Rattle.model.specs.Sets.{has, held_in_all}
use Rattle.meaning.specs.Life.{Called, forward_marks, backward_marks, marked}
use Rattle.meaning.specs.Plan.{Lies}
use Rattle.meaning.specs.Problems.{in_range, is_empty, problem, short, support, without}
use Rattle.meaning.specs.Register.{rule_out}
use Rattle.meaning.specs.View.{rows_back}
use Rattle.meaning.proofs.Held.{held_take_less}
use Rattle.meaning.proofs.PlanFields.{passed, refused_is}
use Rattle.meaning.proofs.PlanRuling.{inside_less}
use Rattle.marking.specs.Striking.{Smaller}
use Rattle.plan.specs.Seen.{life}
use Rattle.plan.proofs.Opening.{called_next, called_same, kept_cells, readied, rule_closed}
use Rattle.plan.proofs.plan.Plan.rule_out.Goals as goal

pub returns-in_err-parts : goal.returns-in_err-parts
returns-in_err-parts g c =
    let l = life g.G.Goal.means c.args.self.now in
    let f = length c.args.forward.now in
    let b = length c.args.backward.now in
    let e = c.in_err-parts.field-0.0 in
    let is : c.from_residual.result ≡ Err e = search rules in
    let Closed : Result ℕ Refusal → Type 0 = λ r. Called l (rule_out c.args.kind c.args.count f b) l (answer_of r) in
    let Ahead : Result ℕ Refusal → Type 0 = λ r. c.args.forward.now ≡ marked (forward_marks l) (answer_of r) c.args.forward.now in
    let Back : Result ℕ Refusal → Type 0 = λ r. c.args.backward.now ≡ marked (backward_marks l) (answer_of r) c.args.backward.now in
    record {
      does = subst Closed (sym is) (rule_closed l c.args.kind c.args.count f b (number_of e) c.in_err-parts.ensures.parts);
      goal = refl;
      forward = subst Ahead (sym is) (kept_cells l f b (number_of e) (forward_marks l) c.args.forward.now c.in_err-parts.ensures.parts);
      backward = subst Back (sym is) (kept_cells l f b (number_of e) (backward_marks l) c.args.backward.now c.in_err-parts.ensures.parts);
    }

pub returns-then-not-in_range-clause-does : goal.returns-then-not-in_range-clause-does
returns-then-not-in_range-clause-does g c =
    let p = c.args.self.now in
    let t = g.G.Goal.means p.goal in
    let ps = c.in_ok-parts.parts in
    let i = c.args.kind in
    let d = c.args.count in
    let f = length c.args.forward.now in
    let b = length c.args.backward.now in
    let x = problem t ps.kinds.now in
    let r = readied g.G.Goal.means p ps f b c.in_ok-parts.ensures.parts in
    let ranged : in_range x i d ≡ false = sym c.in_range.ensures ∙ c.if-not-in_range.true in
    called_same t p.case.kinds.many p.case.kinds.items p.standing ps.kinds.now ps.sets.now (in_use p.noted) (length (in_use p.noted)) r.begun (rule_out i d f b) 10
    (passed _ (short x f b) 7 _ r.room ∙ refused_is _ (not (in_range x i d)) 10 _ (ap not ranged))

pub returns-then-not-contains-clause-does : goal.returns-then-not-contains-clause-does
returns-then-not-contains-clause-does g c =
    let p = c.args.self.now in
    let t = g.G.Goal.means p.goal in
    let ps = c.in_ok-parts.parts in
    let i = c.args.kind in
    let d = c.args.count in
    let f = length c.args.forward.now in
    let b = length c.args.backward.now in
    let x = problem t ps.kinds.now in
    let r = readied g.G.Goal.means p ps f b c.in_ok-parts.ensures.parts in
    let ranged : in_range x i d ≡ true = sym c.in_range.ensures ∙ c.if-not-in_range.false in
    let gone : has (get_or ps.sets.now (i - 1) 0) d ≡ false = sym c.contains.ensures ∙ c.if-not-contains.true in
    called_same t p.case.kinds.many p.case.kinds.items p.standing ps.kinds.now ps.sets.now (in_use p.noted) (length (in_use p.noted)) r.begun (rule_out i d f b) 11
    (passed _ (short x f b) 7 _ r.room ∙ passed _ (not (in_range x i d)) 10 _ (ap not ranged) ∙ refused_is _ (not (has (get_or ps.sets.now (i - 1) 0) d)) 11 _ (ap not gone))

pub returns-in_default-clause-does : goal.returns-in_default-clause-does
returns-in_default-clause-does g c =
    let p = c.args.self.now in
    let t = g.G.Goal.means p.goal in
    let ps = c.in_ok-parts.parts in
    let i = c.args.kind in
    let d = c.args.count in
    let f = length c.args.forward.now in
    let b = length c.args.backward.now in
    let x = problem t ps.kinds.now in
    let r = readied g.G.Goal.means p ps f b c.in_ok-parts.ensures.parts in
    let ranged : in_range x i d ≡ true = sym c.in_range.ensures ∙ c.if-not-in_range.false in
    let there : has (get_or ps.sets.now (i - 1) 0) d ≡ true = sym c.contains.ensures ∙ c.if-not-contains.false in
    called_same t p.case.kinds.many p.case.kinds.items p.standing ps.kinds.now ps.sets.now (in_use p.noted) (length (in_use p.noted)) r.begun (rule_out i d f b) 8
    (passed _ (short x f b) 7 _ r.room ∙ passed _ (not (in_range x i d)) 10 _ (ap not ranged) ∙ passed _ (not (has (get_or ps.sets.now (i - 1) 0) d)) 11 _ (ap not there)
    ∙ refused_is _ (is_empty (without (i - 1) d (fits t.admits (parts ps.kinds.now ps.sets.now)))) 8 _ c.in_default.ensures.answer)

-- what lies in the first n sets lies in the sets
lies_of : (n : ℕ) (next standing : List ℕ) → Lies n next (take n standing) → Lies n next standing
lies_of n next standing h j d l m y = ap (λ s. has s d) (sym (get_or-take n standing j 0 l)) ∙ h j d l m y

less : (n m : ℕ) (next standing ss : List ℕ) → m ≡ n → ss ≡ take n standing → Smaller m ss (Some next) → Lies n next standing × ((j : ℕ) → j < n → 0 < get_or next j 0)
less n m next standing ss e f h =
    let A : ℕ → Type 0 = λ k. Smaller k ss (Some next) in
    let B : List ℕ → Type 0 = λ xs. Smaller n xs (Some next) in
    let two : Smaller n (take n standing) (Some next) = subst B f (subst A e h) in
    (lies_of n next standing two.0, two.1)

pub invariant_of-self : goal.invariant_of-self
invariant_of-self g c =
    let p = c.args.self.now in
    let n = p.case.kinds.many in
    let ps = c.in_ok-parts.parts in
    let next = c.in-Some.next in
    let o = (readied g.G.Goal.means p ps (length c.args.forward.now) (length c.args.backward.now) c.in_ok-parts.ensures.parts).begun in
    let two = less n (length ps.kinds.now) next p.standing ps.sets.now o.long o.sets_are c.in-Some.ensures.smaller in
    let long : length next ≡ 32 = search rules in
    record { full = long; inside = inside_less n p.standing next (in_use p.noted) (length (in_use p.noted)) two.0 two.1 p.inside }

pub overflow_sub-result : goal.overflow_sub-result
overflow_sub-result g c =
    let p = c.args.self.now in
    let n = p.case.kinds.many in
    let ps = c.in_ok-parts.parts in
    let next = c.in-Some.next in
    let o = (readied g.G.Goal.means p ps (length c.args.forward.now) (length c.args.backward.now) c.in_ok-parts.ensures.parts).begun in
    let two = less n (length ps.kinds.now) next p.standing ps.sets.now o.long o.sets_are c.in-Some.ensures.smaller in
    let h : held_in_all (take n next) ≤ held_in_all (take n p.standing) = held_take_less n next p.standing two.0 in
    let before : c.held_in_all-before.result ≡ held_in_all (take n p.standing) = c.held_in_all-before.ensures ∙ ap held_in_all o.sets_are in
    let later : c.held_in_all-after.result ≡ held_in_all (take n next) = c.held_in_all-after.ensures ∙ ap (λ m. held_in_all (take m next)) (ps.same ∙ o.long) in
    omega (arith, h, before, later)

pub returns-clause-does : goal.returns-clause-does
returns-clause-does g c =
    let p = c.args.self.now in
    let t = g.G.Goal.means p.goal in
    let ps = c.in_ok-parts.parts in
    let ks = ps.kinds.now in
    let ss = ps.sets.now in
    let i = c.args.kind in
    let d = c.args.count in
    let f = length c.args.forward.now in
    let b = length c.args.backward.now in
    let x = problem t ks in
    let next = c.in-Some.next in
    let r = readied g.G.Goal.means p ps f b c.in_ok-parts.ensures.parts in
    let ranged : in_range x i d ≡ true = sym c.in_range.ensures ∙ c.if-not-in_range.false in
    let there : has (get_or ss (i - 1) 0) d ≡ true = sym c.contains.ensures ∙ c.if-not-contains.false in
    let rest = without (i - 1) d (fits t.admits (parts ks ss)) in
    let found : take (length ks) next ≡ support (length ks) rest = c.in-Some.ensures.answer.1 in
    let later : c.held_in_all-after.result ≡ held_in_all (take (length ks) next) = c.held_in_all-after.ensures ∙ ap (λ m. held_in_all (take m next)) ps.same in
    called_next t p.case.kinds.many p.case.kinds.items p.standing ks ss (in_use p.noted) (length (in_use p.noted)) r.begun (rule_out i d f b) next (length (in_use p.noted))
    (accepted (c.held_in_all-before.result - c.held_in_all-after.result))
    (passed _ (short x f b) 7 _ r.room ∙ passed _ (not (in_range x i d)) 10 _ (ap not ranged) ∙ passed _ (not (has (get_or ss (i - 1) 0) d)) 11 _ (ap not there)
    ∙ passed _ (is_empty rest) 8 _ c.in-Some.ensures.answer.0
    ∙ ap₂ (λ (xs : List ℕ) (m : ℕ). (record { standing = xs; noted = rows_back p.case.kinds.many (in_use p.noted) (length (in_use p.noted)) }, accepted m)) (sym found)
    (ap₂ (λ (y z : ℕ). y - z) (sym c.held_in_all-before.ensures) (ap held_in_all (sym found) ∙ sym later)))
