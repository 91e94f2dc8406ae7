use Rattle.std.proofs.Common.{ℕ, ◌<◌, length, ◌∙◌, subst, arith}
use Rattle.meaning.specs.Life.{Called}
use Rattle.model.specs.Answers.{answer_of}
use Rattle.plan.specs.Entries.{asked}
use Rattle.plan.specs.Seen.{life}
use Rattle.plan.proofs.Making.{answer_step, calls_set, life_step}
use Rattle.plan.proofs.plan.Plan.make_all.Goals as goal

pub loop-entry-preserved : goal.loop-entry-preserved
loop-entry-preserved g c =
    let means = g.G.Goal.means in
    let before = life means c.args.self.now in
    let here = life means c.loop-entry.self in
    let last = life means c.make-answer.new.self in
    let f = length c.args.forward.now in
    let b = length c.args.backward.now in
    let old = c.args.entries.now in
    let now = c.loop-entry.entries in
    let i = c.loop-entry.entry-index in
    let x = c.call.result in
    let said = c.make-answer.result in
    let low : i < length old = c.loop-entry-test.true in
    let room : i < length now = omega (arith, c.loop-entry.auto.entries) in
    let C₁ : ℕ → Type 0 = λ n. Called here (asked n (length c.loop-entry.backward) x) last (answer_of said) in
    let C₂ : ℕ → Type 0 = λ n. Called here (asked f n x) last (answer_of said) in
    let called : C₂ b = subst C₂ c.loop-entry.auto.backward (subst C₁ c.loop-entry.auto.forward c.make-answer.ensures.does) in
    let inv = c.loop-entry.invariant in (
      life_step before f b old now i _ x here last said low inv.0 inv.2 c.call.ensures called,
      answer_step before f b old now i _ x here last said low inv.0 inv.2 c.call.ensures called c.answered.result c.answered.ensures.answer room inv.1,
      calls_set now i c.answered.result _ room c.answered.ensures.call ∙ inv.2,
      c.make-answer.ensures.goal ∙ inv.3,
      λ below is. c.make-answer.ensures.forward below (inv.4 below is),
      λ below is. c.make-answer.ensures.backward below (inv.5 below is),
    )
