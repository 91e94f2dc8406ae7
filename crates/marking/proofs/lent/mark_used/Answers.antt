use Rattle.std.proofs.Common.{◌≡◌, ◌+◌, length, take, refl, ◌∙◌, rules, arith}
use Rattle.model.specs.Parts.{parts}
use Rattle.meaning.specs.Cells.{tallies, tallies_back}
use Rattle.meaning.specs.Models.{yes_no}
use Rattle.meaning.proofs.Lists.{long_take}
use Rattle.marking.proofs.Marked.{ahead_long, back_long, marked_twice, still_prepared}
use Rattle.marking.proofs.lent.mark_used.Goals as goal

pub refill_marks-requires-clause-prepared : goal.refill_marks-requires-clause-prepared
refill_marks-requires-clause-prepared g c =
    still_prepared (g.G.Goal.means c.args.goal.now) (g.met.G.Goal.bounded c.args.goal.now) c.args.parts _ c.args.parts.sets.now _ _ _ _ c.requires.prepared refl c.args.parts.same
    c.prune.ensures.marks.ahead_rows c.prune.ensures.marks.back_rows c.prune.ensures.marks.back

pub returns-clause-ahead : goal.returns-clause-ahead
returns-clause-ahead g c =
    let t = g.G.Goal.means c.args.goal.now in
    let ps = c.args.parts in
    let ks = ps.kinds.now in
    let next = c.in_ok-next.next in
    let full : length next ≡ 32 = search rules in
    let long : length (take (length ks) next) ≡ length ks = long_take (length ks) next (omega (arith, c.requires.few)) in
    marked_twice (λ ss w. tallies yes_no (parts ks ss) w) ks (ahead_long yes_no ks) (t.top + 1) ps.sets.now (take (length ks) next) c.args.ahead.now.width c.prune.new.ahead.width
    _ _ _ ps.same long c.requires.prepared.ready.wide (c.prune.ensures.marks.ahead_rows.width ∙ c.requires.prepared.ready.wide) c.prune.ensures.marks.ahead c.refill_marks.ensures.ahead

pub returns-clause-back : goal.returns-clause-back
returns-clause-back g c =
    let t = g.G.Goal.means c.args.goal.now in
    let ps = c.args.parts in
    let ks = ps.kinds.now in
    let next = c.in_ok-next.next in
    let full : length next ≡ 32 = search rules in
    let long : length (take (length ks) next) ≡ length ks = long_take (length ks) next (omega (arith, c.requires.few)) in
    marked_twice (λ ss w. tallies_back yes_no t.admits (parts ks ss) w) ks (back_long t.admits ks) (t.top + 1) ps.sets.now (take (length ks) next) c.args.ahead.now.width c.prune.new.ahead.width
    _ _ _ ps.same long c.requires.prepared.ready.wide (c.prune.ensures.marks.ahead_rows.width ∙ c.requires.prepared.ready.wide) c.prune.ensures.marks.back c.refill_marks.ensures.back
