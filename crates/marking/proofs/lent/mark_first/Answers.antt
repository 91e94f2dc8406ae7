use Rattle.std.proofs.Common.{◌≡◌, ◌+◌, ◌*◌, length, take, replicate, ◌∙◌, rules, arith}
use lib.ListN.{length-replicate}
use Rattle.model.specs.Parts.{parts}
use Rattle.meaning.specs.Cells.{over, tallies, tallies_back}
use Rattle.meaning.specs.Models.{yes_no}
use Rattle.meaning.proofs.Grid.{over_same}
use Rattle.meaning.proofs.Lists.{long_take}
use Rattle.marking.specs.Lent.{marks_back}
use Rattle.marking.proofs.Marked.{ahead_long, back_long, marked_cleared}
use Rattle.marking.proofs.lent.mark_first.Goals as goal

pub returns-in_default-clause-forward : goal.returns-in_default-clause-forward
returns-in_default-clause-forward g c =
    let t = g.G.Goal.means c.args.goal.now in
    let ps = c.args.parts in
    let ks = ps.kinds.now in
    let made : c.clear.new.table.cells.now ≡ over (replicate ((length ks + 1) * (t.top + 1)) 0) c.new-ahead.result.cells.now =
    marked_cleared (λ ss w. tallies yes_no (parts ks ss) w) ks (ahead_long yes_no ks) (t.top + 1) ps.sets.now c.needed_cells-many.result
    _ _ _ ps.same c.needed_cells-many.ensures c.in_default.ensures.ahead c.clear.ensures.cells in
    search rules

pub returns-in_default-clause-backward : goal.returns-in_default-clause-backward
returns-in_default-clause-backward g c =
    let t = g.G.Goal.means c.args.goal.now in
    let ps = c.args.parts in
    let ks = ps.kinds.now in
    let many = (length ks + 1) * (t.top + 1) in
    let made : c.clear-in_default.new.table.cells.now ≡ over (replicate many 0) c.args.backward.now =
    marked_cleared (λ ss w. tallies_back yes_no t.admits (parts ks ss) w) ks (back_long t.admits ks) (t.top + 1) ps.sets.now c.needed_cells-many.result
    _ _ _ ps.same c.needed_cells-many.ensures c.in_default.ensures.back c.clear-in_default.ensures.cells
    ∙ over_same (replicate many 0) _ _ many (length-replicate many 0) c.asked_table-back.ensures.past in
    search rules

pub returns-clause-backward : goal.returns-clause-backward
returns-clause-backward g c =
    let t = g.G.Goal.means c.args.goal.now in
    let ps = c.args.parts in
    let ks = ps.kinds.now in
    let next = c.in-Some.next in
    let full : length next ≡ 32 = search rules in
    let long : length (take (length ks) next) ≡ length ks = long_take (length ks) next (omega (arith, c.requires.few)) in
    let made : c.mark_used.new.back.cells.now ≡ over (marks_back t (parts ks (take (length ks) next))) c.args.backward.now =
    c.in-Some.ensures.back ∙ over_same _ _ _ ((length ks + 1) * (t.top + 1)) (back_long t.admits ks (take (length ks) next) (t.top + 1) long) c.asked_table-back.ensures.past in
    search rules
