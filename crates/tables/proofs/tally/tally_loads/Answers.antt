use Rattle.std.proofs.Common.{◌≡◌, ℕ, ◌+◌, ◌*◌, ◌<◌, ◌≤◌, true, length, take, ap, ◌∙◌, arith}
use Rattle.std.proofs.lemmas.List.{take_all}
use Rattle.tables.specs.Tables.{parts_of}
use Rattle.meaning.specs.Cells.{tallies, Holds}
use Rattle.meaning.specs.Tallies.{tally_at}
use Rattle.meaning.proofs.Rows.{length_parts}
use Rattle.meaning.proofs.Grid.{over_holds, holds_at}
use Rattle.meaning.proofs.Choosing.{row_answers, cheap_parts}
use Rattle.tables.proofs.Row.{row_long, row_at}
use Rattle.tables.proofs.tally.tally_loads.Goals as goal

pub row-requires : goal.row-requires
row-requires g c =
    let same : c.forward.new.table.width ≡ c.args.table.now.width = c.forward.ensures.rows.width in
    omega (arith, ap (λ v. (length c.args.parts.kinds.now + 1) * v) same, c.forward.ensures.rows.long, c.requires.ready.room)

pub returns-clause-answer : goal.returns-clause-answer
returns-clause-answer g c =
    let ks = c.args.parts.kinds.now in
    let ps = parts_of c.args.parts in
    let n = length ks in
    let m = g.M.Measure.means in
    let adm = (g.G.Goal.means c.args.goal.now).admits in
    let w = c.args.table.now.width in
    let cells = c.forward.new.table.cells.now in
    let row = c.row.result.now in
    let bound : (t : ℕ) → adm t ≡ true → t < w = λ t y. omega (arith, c.requires.wide, g.met.G.Goal.bounded c.args.goal.now t y) in
    let long : length ps ≡ n = length_parts ks c.args.parts.sets.now c.args.parts.same in
    let held : Holds (tallies m ps w) cells = rw c.forward.ensures.cells (over_holds (tallies m ps w) c.args.table.now.cells.now) in
    let room : (n + 1) * w ≤ length cells = omega (arith, c.forward.ensures.rows.long, c.requires.ready.room) in
    let is = c.row.ensures in
    let u = c.forward.new.table.width in
    c.join_row.ensures
    ∙ row_answers m g.met.M.Measure.lawful adm w bound ps (cheap_parts ks c.args.parts.sets.now) row (row_long n u w cells row is c.forward.ensures.rows.width room)
    (λ b h. row_at n u w cells row is c.forward.ensures.rows.width room m.zero b h
    ∙ holds_at m.zero (length ps + 1) w (λ i b. tally_at m (take i ps) b) cells held n b (omega arith) h ∙ ap (λ qs. tally_at m qs b) (take_all n ps (omega arith)))
