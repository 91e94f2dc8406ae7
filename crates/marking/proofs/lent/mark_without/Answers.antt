use Rattle.std.proofs.Common.{◌≡◌, ℕ, List, length, take, ◌∙◌, subst, arith, rules}
use Rattle.meaning.specs.Used.{Pruned}
use Rattle.meaning.proofs.Lists.{long_take}
use Rattle.marking.proofs.Striking.{rest_is, smaller}
use Rattle.marking.proofs.lent.mark_without.Goals as goal

pub returns-clause-answer : goal.returns-clause-answer
returns-clause-answer g c =
    let t = g.G.Goal.means c.args.goal.now in
    let ps = c.args.standing in
    let ks = ps.kinds.now in
    let tried = take (length ps.sets.now) c.strike_count-trial.result in
    let Found : List (List ℕ) → Type 0 = λ ls. Pruned ls (length ks) c.mark_again.result in
    subst Found (rest_is t ks ps.sets.now tried c.args.at c.args.count ps.same c.requires.place c.strike_count-trial.ensures) c.mark_again.ensures.answer

pub returns-clause-smaller : goal.returns-clause-smaller
returns-clause-smaller g c =
    let t = g.G.Goal.means c.args.goal.now in
    let ps = c.args.standing in
    let ks = ps.kinds.now in
    let trial = c.strike_count-trial.result in
    let full : length trial ≡ 32 = search rules in
    let long : length (take (length ps.sets.now) trial) ≡ length ks = long_take (length ps.sets.now) trial (omega (arith, c.requires.few, ps.same)) ∙ ps.same in
    smaller t ks ps.sets.now (take (length ps.sets.now) trial) c.args.at c.args.count c.mark_again.result ps.same long c.requires.place c.strike_count-trial.ensures c.mark_again.ensures.answer
