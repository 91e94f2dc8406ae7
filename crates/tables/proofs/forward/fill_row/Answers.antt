use Rattle.std.proofs.Common.{◌≡◌, ℕ, ◌*◌, ◌-◌, cond, leb, get_or, sym, ap, ◌∙◌, arith}
use Rattle.model.specs.Parts.{part}
use Rattle.model.specs.Sets.{has}
use Rattle.meaning.proofs.Rows.{join_to, join_to_more, join_to_all}
use Rattle.tables.proofs.forward.fill_row.Goals as goal

pub loop-d-preserved : goal.loop-d-preserved
loop-d-preserved g c =
    let m = g.M.Measure.means in
    let p = part c.args.kind c.args.standing in
    let d = c.loop-d.d in
    let f = λ (j : ℕ). get_or c.args.before.now j m.zero in
    λ b h. c.join_count.ensures b (omega (arith, c.join_count.auto.row))
    ∙ ap (λ x. cond (has c.args.standing d) (cond (leb (c.args.kind.size * d) b) (m.join x (m.chain (f (b - c.args.kind.size * d)) (m.worth c.args.kind.price d))) x) x) (c.loop-d.invariant b (omega (arith, c.join_count.auto.row)))
    ∙ sym (join_to_more m f p b d)

pub returns : goal.returns
returns g c =
    let m = g.M.Measure.means in
    let p = part c.args.kind c.args.standing in
    let f = λ (j : ℕ). get_or c.args.before.now j m.zero in
    let end : c.loop-d.d ≡ 64 = omega arith in
    λ b h. c.loop-d.invariant b (omega (arith, c.loop-d.auto.row, c.zero_row.auto.row)) ∙ ap (join_to m f p b) end ∙ join_to_all m f p b
