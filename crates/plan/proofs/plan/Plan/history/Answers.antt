use Rattle.std.proofs.Common.{◌≡◌, ℕ, List, map, length, Some, ap, ◌∙◌, ap₂}
use Rattle.fixed_list.specs.FixedLists.{in_use}
use Rattle.model.specs.Answers.{accepted, outcome_as}
use Rattle.model.specs.Cases.{kinds_in}
use Rattle.meaning.specs.Life.{Settled, life_after, open_in, replies}
use Rattle.meaning.specs.Register.{Call}
use Rattle.meaning.proofs.Lives.{history_lived, opened_are, still_lives}
use Rattle.plan.specs.Entries.{answers_in, calls_in}
use Rattle.plan.specs.Seen.{life}
use Rattle.plan.proofs.plan.Plan.history.Goals as goal

pub returns-clause-tells : goal.returns-clause-tells
returns-clause-tells g c =
    let means = g.G.Goal.means in
    let m = g.M.Measure.means in
    let p = c.args.self.now in
    let q = c.make_all.new.self in
    let before = life means p in
    let first = life means c.settle.new.self in
    let last = life means q in
    let kinds = kinds_in c.args.case.now in
    let forward = c.args.forward.now in
    let backward = c.args.backward.now in
    let f = length forward in
    let b = length backward in
    let entries = c.args.entries.now in
    let n = c.in_ok-counts.counts in
    let xs = calls_in f b entries in
    let settled : Settled before kinds f b first (accepted n) = c.in_ok-counts.ensures.does in
    let same : calls_in (length c.settle.new.forward) (length c.settle.new.backward) entries ≡ xs = ap₂ (λ (u v : ℕ). calls_in u v entries) c.settle.auto.forward c.settle.auto.backward in
    let goes : last ≡ life_after first xs = c.make_all.ensures.life ∙ ap (life_after first) same in
    let said : answers_in c.make_all.new.entries ≡ map Some (replies first xs) = c.make_all.ensures.answers ∙ ap (λ (ys : List Call). map Some (replies first ys)) same in
    let lives-on = still_lives before kinds f b n xs first last settled.life settled.answer goes in
    let many : c.of.result.many ≡ open_in last =
    c.of.ensures ∙ c.len.ensures.many ∙ opened_are (means q.goal) q.case.kinds.many q.case.kinds.items q.standing (in_use q.noted) (length (in_use q.noted)) _ _ lives-on in
    history_lived m before kinds f b xs (length c.args.values.now) first last (answers_in c.make_all.new.entries) n (outcome_as (λ v. v) c.tally-tally.result) c.of.result.many
    settled.life settled.answer goes said c.tally-tally.ensures.tells.answer many
