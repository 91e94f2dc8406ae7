use Rattle.std.proofs.Common.{◌≡◌, ℕ, ◌+◌, ◌-◌, ◌*◌, ◌≤◌, length, ◌++◌, get_or, take, drop, refl, sym, ap, ◌∙◌, subst, arith, length-take, length-drop}
use Rattle.std.proofs.lemmas.List.{take_all}
use Rattle.std.specs.Iterator.Adapters.{enumerate_source, rev_source}
use Rattle.std.specs.Slice.Iter.{iter_rest}
use Rattle.model.specs.Parts.{part}
use Rattle.tables.specs.Tables.{parts_of}
use Rattle.meaning.specs.Recurrence.{FilledFrom}
use Rattle.meaning.proofs.Rows.{length_parts, parts_at, back_none}
use Rattle.meaning.specs.Models.{yes_no}
use Rattle.tables.proofs.backward.fill_back.Goals as goal
use Rattle.tables.proofs.Cut.{row_filled_back}
use Rattle.meaning.proofs.Left.{last_is, one_less, still_left}

pub loop-i-init : goal.loop-i-init
loop-i-init g c =
    let ks = c.args.parts.kinds.now in
    let left = iter_rest (enumerate_source (rev_source c.into_iter-i-iterator.result)) in
    let all : left ≡ ks = cc in
    let n : length left ≡ length ks = ap length all in
    let P : ℕ → Type 0 = λ j. FilledFrom yes_no (g.G.Goal.means c.args.goal.now).admits (parts_of c.args.parts) c.args.width j c.args.cells.now c.args.cells.now in
    (cc, all ∙ sym (take_all (length left) ks (omega arith)), omega arith, subst P (sym n) (back_none yes_no _ (parts_of c.args.parts) c.args.width (length ks) _ _ (length_parts ks c.args.parts.sets.now c.args.parts.same) c.requires.asked (λ k h. refl)))

pub loop-i-preserved : goal.loop-i-preserved
loop-i-preserved g c =
    let adm = (g.G.Goal.means c.args.goal.now).admits in
    let ks = c.args.parts.kinds.now in
    let ss = c.args.parts.sets.now in
    let ps = parts_of c.args.parts in
    let left = iter_rest (enumerate_source (rev_source c.loop-i.i-iterator)) in
    let rest = iter_rest (enumerate_source (rev_source c.next.new.self)) in
    let kind = c.in-Some.kind.now in
    let step = c.in-Some.ensures.steps in
    let i = c.in-Some.i in
    let at : i ≡ length rest = omega arith in
    let one_up : length left ≡ i + 1 = omega (arith, one_less ks left rest kind step.1.0 c.loop-i.invariant.1 c.loop-i.invariant.2) in
    let w = c.args.width in
    let cells = c.loop-i.cells in
    let row = c.fill_row_back.new.row in
    let front = c.split_at_mut-rest.result.0.now in
    let p = part kind (get_or ss i 0) in
    let n : length ps ≡ length ks = length_parts ks ss c.args.parts.same in
    let read : p ≡ get_or ps i p = parts_at ks ss i kind (get_or ss i 0) p (omega arith) (omega (arith, c.args.parts.same)) (last_is ks left rest kind step.1.0 c.loop-i.invariant.1 c.loop-i.invariant.2 kind ∙ ap (λ j. get_or ks j kind) (sym at)) refl in
    let room : (length ks + 1) * w ≤ length cells = omega (arith, c.loop-i.auto.cells, c.requires.ready.room) in
    let part_long : length (take (length front - i * w) (drop (i * w) front)) ≡ w = omega (arith, length-take (length front - i * w) (drop (i * w) front), length-drop (i * w) front, c.split_at_mut-rest.ensures.front_len) in
    let P : ℕ → Type 0 = λ j. FilledFrom yes_no adm ps w j c.args.cells.now cells in
    let Q : ℕ → Type 0 = λ j. FilledFrom yes_no adm ps w j c.args.cells.now ((take (i * w) front ++ (row ++ drop (length front - i * w) (drop (i * w) front))) ++ c.split_at_mut-rest.result.1.now) in (
      cc,
      still_left ks left rest kind step.1.0 c.loop-i.invariant.1 c.loop-i.invariant.2,
      omega arith,
      subst Q at (row_filled_back yes_no adm ps w (length (take (length front - i * w) (drop (i * w) front))) i p _ cells front c.split_at_mut-rest.result.1.now row
          (omega arith) read part_long (omega (arith, c.fill_row_back.auto.row)) (rw n room) c.split_at_mut-rest.ensures.front c.split_at_mut-rest.ensures.back (subst P one_up c.loop-i.invariant.3) c.fill_row_back.ensures),
    )
