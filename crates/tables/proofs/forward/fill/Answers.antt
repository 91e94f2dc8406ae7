use Rattle.std.proofs.Common.{◌≡◌, ◌+◌, ◌*◌, ◌≤◌, length, get_or, take, drop, refl, ◌∙◌, arith, length-take, length-drop, length-append}
use Rattle.std.proofs.lemmas.Nat.{mul-le}
use Rattle.model.specs.Parts.{part}
use Rattle.tables.specs.Tables.{parts_of}
use Rattle.meaning.proofs.Rows.{length_parts, parts_at, fill_none, fill_since}
use Rattle.tables.proofs.forward.fill.Goals as goal
use Rattle.tables.proofs.Cut.{row_filled, first_at, first_past}

pub loop-i-init : goal.loop-i-init
loop-i-init g c =
    let w = c.args.width in
    let row = c.fill_first_row.new.row in
    let one : w ≤ length c.args.cells.now = omega (arith, mul-le 1 w (length c.args.parts.kinds.now + 1) w (omega arith) (omega arith)) in
    let long : length row ≡ w = omega (arith, c.fill_first_row.auto.row, length-take w c.args.cells.now) in
    fill_none g.M.Measure.means _ w _ _ (λ b h. first_at _ w _ row b long h ∙ c.fill_first_row.ensures b (omega (arith, length-take w c.args.cells.now))) (λ k h. refl)

pub loop-i-preserved : goal.loop-i-preserved
loop-i-preserved g c =
    let ks = c.args.parts.kinds.now in
    let ss = c.args.parts.sets.now in
    let i = c.loop-i.i in
    let w = c.args.width in
    let cells = c.loop-i.cells in
    let row = c.fill_row.new.row in
    let back = c.split_at_mut-done.result.1.now in
    let p = part c.index-kinds-i.result (get_or ss i 0) in
    let n : length (parts_of c.args.parts) ≡ length ks = length_parts ks ss c.args.parts.same in
    let read : p ≡ get_or (parts_of c.args.parts) i p = parts_at ks ss i c.index-kinds-i.result (get_or ss i 0) p (omega arith) (omega (arith, c.args.parts.same)) c.index-kinds-i.is refl in
    let cells₀ = c.args.cells.now in
    let one : w ≤ length cells₀ = omega (arith, mul-le 1 w (length ks + 1) w (omega arith) (omega arith)) in
    let first_long : length c.fill_first_row.new.row ≡ w = omega (arith, c.fill_first_row.auto.row, length-take w cells₀) in
    let room : (length ks + 1) * w ≤ length cells = omega (arith, c.loop-i.auto.cells, length-append c.fill_first_row.new.row (drop w cells₀), length-drop w cells₀) in
    let two : (i + 2) * w ≤ (length ks + 1) * w = mul-le (i + 2) w (length ks + 1) w (omega arith) (omega arith) in
    let part_long : length (take w back) ≡ w = omega (arith, length-take w back, c.split_at_mut-done.ensures.back_len) in
    row_filled g.M.Measure.means (parts_of c.args.parts) w i p _ cells c.split_at_mut-done.result.0.now back row
    (omega arith) read (omega (arith, c.fill_row.auto.row)) (rw n room) c.split_at_mut-done.ensures.front c.split_at_mut-done.ensures.back c.loop-i.invariant (λ b h. c.fill_row.ensures b (omega arith))

pub returns : goal.returns
returns g c =
    let w = c.args.width in
    let row = c.fill_first_row.new.row in
    let n = length c.args.parts.kinds.now in
    let one : w ≤ length c.args.cells.now = omega (arith, mul-le 1 w (n + 1) w (omega arith) (omega arith)) in
    let long : length row ≡ w = omega (arith, c.fill_first_row.auto.row, length-take w c.args.cells.now) in
    let end : c.loop-i.i ≡ n = omega arith in
    fill_since g.M.Measure.means (parts_of c.args.parts) w c.loop-i.i n c.args.cells.now _ c.loop-i.cells end (λ k h. first_past _ w _ row k long one h) c.loop-i.invariant
