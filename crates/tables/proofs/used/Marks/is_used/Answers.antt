use Rattle.std.proofs.Common.{◌≡◌, ℕ, ◌*◌, ◌<◌, true, false, length, get_or, Decides, refl, ◌∙◌, subst, arith}
use Rattle.meaning.specs.Marks.{Meets}
use Rattle.model.specs.Sets.{has}
use Rattle.model.specs.Parts.{part}
use Rattle.tables.specs.Tables.{parts_of}
use Rattle.meaning.proofs.Rows.{length_parts, parts_at}
use Rattle.meaning.proofs.Choosing.{cheap_parts}
use Rattle.meaning.proofs.Marking.{used_is, not_used}
use Rattle.tables.proofs.Row.{ahead_long, ahead_bit, ahead_at, back_long, back_bit, back_at}
use Rattle.tables.proofs.used.Marks.is_used.Goals as goal

pub meets-requires-clause-marks : goal.meets-requires-clause-marks
meets-requires-clause-marks g c =
    let s = c.args.self.now in
    let t = g.G.Goal.means s.goal.now in
    let long = back_long t s.parts s.ahead.now s.back.now s.filled c.args.i c.requires.here c.row-then-contains.result.now c.row-then-contains.ensures in
    λ b l.
    let h : b < s.ahead.now.width = omega (arith, long) in
    (ahead_bit t s.parts s.ahead.now s.back.now s.filled c.args.i c.requires.here c.row.result.now c.row.ensures b h, back_bit t s.parts s.ahead.now s.back.now s.filled c.args.i c.requires.here c.row-then-contains.result.now c.row-then-contains.ensures b h)

pub returns-else-contains : goal.returns-else-contains
returns-else-contains g c =
    let s = c.args.self.now in
    let ks = s.parts.kinds.now in
    let ss = s.parts.sets.now in
    let ps = parts_of s.parts in
    let i = c.args.i in
    let p = part c.index-kinds-i.result (get_or ss i 0) in
    let h : i < length ks = c.requires.here in
    let n : i < length ps = omega (arith, length_parts ks ss s.parts.same) in
    let read : p ≡ get_or ps i p = parts_at ks ss i c.index-kinds-i.result (get_or ss i 0) p h (omega (arith, s.parts.same)) c.index-kinds-i.is refl in
    let none : has (get_or ss i 0) c.args.d ≡ false = cc in
    c.if-contains.false ∙ not_used (g.G.Goal.means s.goal.now).admits ps i c.args.d p n read none

pub returns-then-contains : goal.returns-then-contains
returns-then-contains g c =
    let s = c.args.self.now in
    let ks = s.parts.kinds.now in
    let ss = s.parts.sets.now in
    let ps = parts_of s.parts in
    let i = c.args.i in
    let t = g.G.Goal.means s.goal.now in
    let w = s.ahead.now.width in
    let ahead = c.row.result.now in
    let back = c.row-then-contains.result.now in
    let p = part c.index-kinds-i.result (get_or ss i 0) in
    let h : i < length ks = c.requires.here in
    let n : i < length ps = omega (arith, length_parts ks ss s.parts.same) in
    let read : p ≡ get_or ps i p = parts_at ks ss i c.index-kinds-i.result (get_or ss i 0) p h (omega (arith, s.parts.same)) c.index-kinds-i.is refl in
    let bound : (n : ℕ) → t.admits n ≡ true → n < w = λ n y. omega (arith, s.filled.ready.wide, g.met.G.Goal.bounded s.goal.now n y) in
    let P : ℕ → Type 0 = λ z. Decides c.meets.result ((b : ℕ) × Meets ahead back z b) in
    let met : P (c.index-kinds-i.result.size * c.args.d) = subst P c.blocks-shift.ensures c.meets.ensures in
    let some : has (get_or ss i 0) c.args.d ≡ true = cc in
    used_is t.admits ps w i c.args.d p ahead back c.meets.result bound (cheap_parts ks ss) n read c.requires.small some
    (ahead_long t s.parts s.ahead.now s.back.now s.filled i h ahead c.row.ensures) (back_long t s.parts s.ahead.now s.back.now s.filled i h back c.row-then-contains.ensures)
    (ahead_at t s.parts s.ahead.now s.back.now s.filled i h ahead c.row.ensures) (back_at t s.parts s.ahead.now s.back.now s.filled i h back c.row-then-contains.ensures) met
