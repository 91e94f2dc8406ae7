use Rattle.std.proofs.Common.{◌≡◌, ◌+◌, ◌∙◌, rules}
use Rattle.model.specs.Parts.{parts}
use Rattle.meaning.specs.Cells.{over, tallies_back}
use Rattle.meaning.specs.Models.{yes_no}
use Rattle.tables.specs.Tables.{parts_of}
use Rattle.marking.specs.Lent.{marks_back}
use Rattle.marking.proofs.Marked.{back_long, marked_past}
use Rattle.marking.proofs.lent.mark_sets.Goals as goal

pub returns-clause-backward : goal.returns-clause-backward
returns-clause-backward g c =
    let t = g.G.Goal.means c.args.goal.now in
    let ps = c.args.parts in
    let ks = ps.kinds.now in
    let made : c.fill_marks.new.back.cells.now ≡ over (marks_back t (parts_of ps)) c.args.backward.now =
    marked_past (λ ss w. tallies_back yes_no t.admits (parts ks ss) w) ks (back_long t.admits ks) (t.top + 1) ps.sets.now c.new-ahead.result.width
    _ _ _ ps.same (c.new-ahead.ensures.width ∙ c.width_of.ensures.value) c.asked_table-back.ensures.past c.fill_marks.ensures.back in
    search rules
