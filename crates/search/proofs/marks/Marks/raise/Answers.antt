use Rattle.std.proofs.Common.{◌≡◌, ℕ, ◌+◌, ◌-◌, ◌*◌, ◌<◌, ◌≤◌, false, ◌&&◌, ltb, List, [], ◌∷◌, ◌++◌, length, get_or, take, refl, sym, ap, ◌∙◌, subst, arith, below_more, length-take}
use Rattle.std.specs.Iterator.Adapters.{enumerate_source, rev_source}
use Rattle.std.specs.Slice.Iter.{iter_rest}
use Rattle.meaning.specs.Paths.{total_to}
use Rattle.search.proofs.Finding.{lower, parts_long, taken_off}
use Rattle.meaning.proofs.Left.{last_is, one_less, still_left}
use Rattle.search.specs.Search.{NoneFrom, closes, raises}
use Rattle.search.specs.Seen.{kinds_in, part_in, parts_in}
use Rattle.search.specs.declared.marks.Marks.{Marks}
use Rattle.search.proofs.marks.Marks.raise.Goals as goal

-- the place of the last byte that is left, and the total before it
turn : (m : Marks) (given first left rest : List ℕ) (n x i total v : ℕ) → first ≡ take n given → length left ≤ length first → left ≡ rest ++ (x ∷ []) → left ≡ take (length left) given → length given ≡ kinds_in m → i ≡ 0 + length rest
    → total ≡ total_to (parts_in m) given (length left) → v ≡ (part_in m i).size * x
    → (length left ≡ i + 1) × (x ≡ get_or given i 0) × (v ≤ total) × (total - v ≡ total_to (parts_in m) given i) × (i < n) × (rest ≡ take (length rest) given)
turn m given first left rest n x i total v all some last here long at sum is =
    let within : length left ≤ length given = omega (arith, ap length all, length-take n given) in
    let up = one_less given left rest x last here within in
    let there : length rest ≡ i = omega arith in
    let read : x ≡ get_or given i 0 = last_is given left rest x last here within 0 ∙ ap (λ j. get_or given j 0) there in
    let t = taken_off m given i (length left) total v (omega arith) long (omega arith) sum (is ∙ ap (λ y. (part_in m i).size * y) read) in
    (omega arith, read, t.0, t.1, omega (arith, ap length all, length-take n given), still_left given left rest x last here within)

pub raised-init : goal.raised-init
raised-init c =
    let given = c.args.load.now in
    let lead = c.reach-lead.result in
    let left = iter_rest (enumerate_source (rev_source c.into_iter-i-iterator.result)) in
    let all : left ≡ take lead.kinds given = cc in
    let n : length left ≡ lead.kinds = omega (arith, ap length all, length-take lead.kinds given) in (
      refl,
      λ j d a l low s. absurd (c.reach-lead.ensures.leads.ends j (omega arith) (omega (arith, parts_long c.args.self.now)) s),
      c.reach-lead.ensures.leads.total ∙ ap (total_to (parts_in c.args.self.now) given) (sym n),
      omega (arith, c.reach-lead.ensures.leads.small),
      cc,
      all ∙ ap (λ k. take k given) (sym n),
      omega arith,
    )

pub overflow_sub-total : goal.overflow_sub-total
overflow_sub-total c =
    let m = c.args.self.now in
    let given = c.args.load.now in
    let left = iter_rest (enumerate_source (rev_source c.raised.i-iterator)) in
    let rest = iter_rest (enumerate_source (rev_source c.next.new.self)) in
    let first = iter_rest (enumerate_source (rev_source c.into_iter-i-iterator.result)) in
    let x = c.in-Some.field-0-1.now in
    let i = c.in-Some.i in
    let all : first ≡ take c.reach-lead.result.kinds given = cc in
    let at : i ≡ 0 + length rest = omega (arith, c.in-Some.ensures.steps.0, c.in-Some.ensures.steps.1.1, c.raised.invariant.4) in
    let t = turn m given first left rest c.reach-lead.result.kinds x i c.raised.total c.blocks-total.result all c.raised.invariant.6 c.in-Some.ensures.steps.1.0 c.raised.invariant.5 c.requires at c.raised.invariant.2 c.blocks-total.ensures.value in
    t.2

pub loop-d-init : goal.loop-d-init
loop-d-init c =
    let m = c.args.self.now in
    let given = c.args.load.now in
    let left = iter_rest (enumerate_source (rev_source c.raised.i-iterator)) in
    let rest = iter_rest (enumerate_source (rev_source c.next.new.self)) in
    let first = iter_rest (enumerate_source (rev_source c.into_iter-i-iterator.result)) in
    let x = c.in-Some.field-0-1.now in
    let i = c.in-Some.i in
    let all : first ≡ take c.reach-lead.result.kinds given = cc in
    let at : i ≡ 0 + length rest = omega (arith, c.in-Some.ensures.steps.0, c.in-Some.ensures.steps.1.1, c.raised.invariant.4) in
    let t = turn m given first left rest c.reach-lead.result.kinds x i c.raised.total c.blocks-total.result all c.raised.invariant.6 c.in-Some.ensures.steps.1.0 c.raised.invariant.5 c.requires at c.raised.invariant.2 c.blocks-total.ensures.value in
    let N : ℕ → Type 0 = λ k. NoneFrom m given k in
    (c.raised.invariant.0, subst N t.0 c.raised.invariant.1, λ d h. absurd (omega arith))

pub raised-preserved : goal.raised-preserved
raised-preserved c =
    let m = c.args.self.now in
    let given = c.args.load.now in
    let left = iter_rest (enumerate_source (rev_source c.raised.i-iterator)) in
    let rest = iter_rest (enumerate_source (rev_source c.next.new.self)) in
    let first = iter_rest (enumerate_source (rev_source c.into_iter-i-iterator.result)) in
    let x = c.in-Some.field-0-1.now in
    let i = c.in-Some.i in
    let all : first ≡ take c.reach-lead.result.kinds given = cc in
    let at : i ≡ 0 + length rest = omega (arith, c.in-Some.ensures.steps.0, c.in-Some.ensures.steps.1.1, c.raised.invariant.4) in
    let t = turn m given first left rest c.reach-lead.result.kinds x i c.raised.total c.blocks-total.result all c.raised.invariant.6 c.in-Some.ensures.steps.1.0 c.raised.invariant.5 c.requires at c.raised.invariant.2 c.blocks-total.ensures.value in
    let there : i ≡ length rest = omega arith in
    let N : ℕ → Type 0 = λ k. NoneFrom m given k in (
      c.loop-d.invariant.0,
      subst N there (lower m given i c.loop-d.invariant.1 (λ d h. c.loop-d.invariant.2 d (omega arith))),
      t.3 ∙ ap (total_to (parts_in m) given) there,
      omega (arith, c.raised.invariant.3),
      cc,
      t.5,
      omega arith,
    )

pub loop-d-preserved : goal.loop-d-preserved
loop-d-preserved c =
    let m = c.args.self.now in
    let given = c.args.load.now in
    let left = iter_rest (enumerate_source (rev_source c.raised.i-iterator)) in
    let rest = iter_rest (enumerate_source (rev_source c.next.new.self)) in
    let first = iter_rest (enumerate_source (rev_source c.into_iter-i-iterator.result)) in
    let x = c.in-Some.field-0-1.now in
    let i = c.in-Some.i in
    let all : first ≡ take c.reach-lead.result.kinds given = cc in
    let at : i ≡ 0 + length rest = omega (arith, c.in-Some.ensures.steps.0, c.in-Some.ensures.steps.1.1, c.raised.invariant.4) in
    let t = turn m given first left rest c.reach-lead.result.kinds x i c.raised.total c.blocks-total.result all c.raised.invariant.6 c.in-Some.ensures.steps.1.0 c.raised.invariant.5 c.requires at c.raised.invariant.2 c.blocks-total.ensures.value in
    let d = c.loop-d.d in
    let here : raises m given i d ≡ false = ap (λ b. ltb (get_or given i 0) d && closes m i b d) (sym t.3) ∙ ap (λ y. ltb y d && closes m i (c.raised.total - c.blocks-total.result) d) (sym t.1) ∙ sym c.can_raise.ensures ∙ c.if-can_raise.false in
    (c.loop-d.invariant.0, c.loop-d.invariant.1, below_more _ _ c.loop-d.invariant.2 here)

pub returns-then-can_raise : goal.returns-then-can_raise
returns-then-can_raise c =
    let m = c.args.self.now in
    let given = c.args.load.now in
    let left = iter_rest (enumerate_source (rev_source c.raised.i-iterator)) in
    let rest = iter_rest (enumerate_source (rev_source c.next.new.self)) in
    let first = iter_rest (enumerate_source (rev_source c.into_iter-i-iterator.result)) in
    let x = c.in-Some.field-0-1.now in
    let i = c.in-Some.i in
    let all : first ≡ take c.reach-lead.result.kinds given = cc in
    let at : i ≡ 0 + length rest = omega (arith, c.in-Some.ensures.steps.0, c.in-Some.ensures.steps.1.1, c.raised.invariant.4) in
    let t = turn m given first left rest c.reach-lead.result.kinds x i c.raised.total c.blocks-total.result all c.raised.invariant.6 c.in-Some.ensures.steps.1.0 c.raised.invariant.5 c.requires at c.raised.invariant.2 c.blocks-total.ensures.value in
    let d = c.loop-d.d in
    record {
      place = omega arith;
      count = c.loop-d-test.true;
      stands = c.reach-lead.ensures.leads.stands i t.4;
      total = ap (λ b. b + c.blocks-then-can_raise.result) t.3 ∙ ap (λ v. total_to (parts_in m) given i + v) c.blocks-then-can_raise.ensures.value;
      raised = ap (λ b. ltb (get_or given i 0) d && closes m i b d) (sym t.3) ∙ ap (λ y. ltb y d && closes m i (c.raised.total - c.blocks-total.result) d) (sym t.1) ∙ sym c.can_raise.ensures ∙ c.if-can_raise.true;
      least = c.loop-d.invariant.2;
      last = c.loop-d.invariant.1;
    }
