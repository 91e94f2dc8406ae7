use Rattle.std.proofs.Common.{◌≡◌, ℕ, ◌+◌, ◌*◌, cond, ltb, length, get_or, sym, ap, ◌∙◌, ap₂, arith}
use lib.Bits.{bit_or, and_comm}
use Rattle.model.specs.Parts.{part}
use Rattle.model.specs.Sets.{has}
use Rattle.meaning.specs.Models.{yes_no}
use Rattle.meaning.proofs.Rows.{join_back_to, join_back_to_more, join_back_to_all}
use Rattle.tables.proofs.backward.fill_row_back.Goals as goal

pub loop-d-preserved : goal.loop-d-preserved
loop-d-preserved c =
    let p = part c.args.kind c.args.standing in
    let d = c.loop-d.d in
    let w = length c.loop-d.row in
    let f = λ (j : ℕ). get_or c.args.after.now j 0 in
    let size = c.args.kind.size in
    λ b h. c.join_count_back.ensures b (omega (arith, c.join_count_back.auto.row))
    ∙ ap₂ (λ x y. cond (has c.args.standing d) (cond (ltb (b + size * d) w) (bit_or x y) x) x) (c.loop-d.invariant b (omega (arith, c.join_count_back.auto.row))) (and_comm (f (b + size * d)) 1)
    ∙ sym (join_back_to_more yes_no w p f b d) ∙ ap (λ v. join_back_to yes_no v p f b (d + 1)) (sym c.join_count_back.auto.row)

pub returns : goal.returns
returns c =
    let p = part c.args.kind c.args.standing in
    let f = λ (j : ℕ). get_or c.args.after.now j 0 in
    let end : c.loop-d.d ≡ 64 = omega arith in
    let long : length c.loop-d.row ≡ length c.args.row.now = omega (arith, c.loop-d.auto.row, c.zero_row.auto.row) in
    λ b h. c.loop-d.invariant b (omega arith) ∙ ap₂ (λ v n. join_back_to yes_no v p f b n) long end ∙ join_back_to_all yes_no (length c.args.row.now) p f b
