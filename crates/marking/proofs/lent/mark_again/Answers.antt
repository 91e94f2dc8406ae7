use Rattle.std.proofs.Common.{◌≡◌, ◌+◌, ◌*◌, length, take, sym, refl, ap, ◌∙◌, rules, arith}
use Rattle.model.specs.Parts.{parts}
use Rattle.meaning.specs.Cells.{over, tallies, tallies_back}
use Rattle.meaning.specs.Models.{yes_no}
use Rattle.meaning.proofs.Grid.{over_same}
use Rattle.meaning.proofs.Lists.{long_take}
use Rattle.tables.specs.Tables.{Prepared, parts_of}
use Rattle.marking.specs.Lent.{marks_ahead, marks_back}
use Rattle.marking.proofs.Marked.{ahead_long, back_long, marked_twice, still_prepared}
use Rattle.marking.proofs.lent.mark_again.Goals as goal

pub fill_marks-requires : goal.fill_marks-requires
fill_marks-requires g c =
    let t = g.G.Goal.means c.args.goal.now in
    let ps = c.args.standing in
    let ks = ps.kinds.now in
    let wide : c.new-ahead.result.width ≡ t.top + 1 = c.new-ahead.ensures.width ∙ c.width_of.ensures.value in
    let was : Prepared t ps c.new-ahead.result c.asked_table-back.result = search rules in
    still_prepared t (g.met.G.Goal.bounded c.args.goal.now) ps ps c.args.tried.now _ _ _ _ was refl c.requires.same c.mark_used.ensures.ahead_rows c.mark_used.ensures.back_rows
    (c.in_default.ensures.back ∙ ap (λ w. over (tallies_back yes_no t.admits (parts ks c.args.tried.now) w) c.asked_table-back.result.cells.now) (sym wide))

pub returns-in_default-clause-forward : goal.returns-in_default-clause-forward
returns-in_default-clause-forward g c =
    let t = g.G.Goal.means c.args.goal.now in
    let ps = c.args.standing in
    let ks = ps.kinds.now in
    let tried = c.args.tried.now in
    let made : c.fill_marks.new.ahead.cells.now ≡ over (marks_ahead t (parts_of ps)) c.new-ahead.result.cells.now =
    marked_twice (λ ss w. tallies yes_no (parts ks ss) w) ks (ahead_long yes_no ks) (t.top + 1) tried ps.sets.now (t.top + 1) c.mark_used.new.ahead.width
    _ _ _ c.requires.same ps.same refl (c.mark_used.ensures.ahead_rows.width ∙ c.new-ahead.ensures.width ∙ c.width_of.ensures.value) c.in_default.ensures.ahead c.fill_marks.ensures.ahead in
    search rules

pub returns-in_default-clause-backward : goal.returns-in_default-clause-backward
returns-in_default-clause-backward g c =
    let t = g.G.Goal.means c.args.goal.now in
    let ps = c.args.standing in
    let ks = ps.kinds.now in
    let tried = c.args.tried.now in
    let made : c.fill_marks.new.back.cells.now ≡ over (marks_back t (parts_of ps)) c.args.backward.now =
    marked_twice (λ ss w. tallies_back yes_no t.admits (parts ks ss) w) ks (back_long t.admits ks) (t.top + 1) tried ps.sets.now (t.top + 1) c.mark_used.new.ahead.width
    _ _ _ c.requires.same ps.same refl (c.mark_used.ensures.ahead_rows.width ∙ c.new-ahead.ensures.width ∙ c.width_of.ensures.value) c.in_default.ensures.back c.fill_marks.ensures.back
    ∙ over_same _ _ _ ((length ks + 1) * (t.top + 1)) (back_long t.admits ks ps.sets.now (t.top + 1) ps.same) c.asked_table-back.ensures.past in
    search rules

pub returns-clause-backward : goal.returns-clause-backward
returns-clause-backward g c =
    let t = g.G.Goal.means c.args.goal.now in
    let ps = c.args.standing in
    let ks = ps.kinds.now in
    let next = c.in-Some.next in
    let full : length next ≡ 32 = search rules in
    let long : length (take (length ks) next) ≡ length ks = long_take (length ks) next (omega (arith, c.requires.few)) in
    let made : c.mark_used.new.back.cells.now ≡ over (marks_back t (parts ks (take (length ks) next))) c.args.backward.now =
    c.in-Some.ensures.back ∙ over_same _ _ _ ((length ks + 1) * (t.top + 1)) (back_long t.admits ks (take (length ks) next) (t.top + 1) long) c.asked_table-back.ensures.past in
    search rules
