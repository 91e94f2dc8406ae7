use Rattle.std.proofs.Common.{◌≡◌, ℕ, ◌+◌, ◌<◌, List, [], length, drop, Some, sym, ap, ◌∙◌, subst, arith, length-drop}
use Rattle.std.proofs.lemmas.Result.{err_from_is_err_and}
use Rattle.std.proofs.lemmas.Bool.{ltb-false, ltb-true}
use Rattle.fields.specs.Values.{field}
use Rattle.fields.specs.Reading.{said, first, got, bad}
use Rattle.faults.specs.Faults.{told, too_long}
use Rattle.sequence.specs.declared.phase.Phase.TheVariants.{Kinds}
use Rattle.sequence.specs.Running.{turn, goes, stops}
use Rattle.sequence.proofs.Ahead as A
use Rattle.reader.specs.Holding.{fresh}
use Rattle.reader.specs.Seen.{seen}
use Rattle.outcomes.specs.Desk.{desk}
use Rattle.casefile.specs.Listed.{listed}
use Rattle.casefile.proofs.Meanings.{read, read_on}
use Rattle.casefile.proofs.running.run.Goals as goal

pub loop-phase-init : goal.loop-phase-init
loop-phase-init c =
    let file = c.args.file.now in (
      c.new-cursor.ensures.bytes,
      ltb-false 16384 (length file) (sym c.if-is_too_long.ensures),
      omega (arith, ap length c.clear.ensures),
      rw (c.new-cursor.ensures.place, c.new.ensures c.args.forward.now c.args.backward.now, c.clear.ensures),
    )

pub returns : goal.returns
returns c =
    let file = c.args.file.now in
    let l = c.loop-phase in
    let p = l.cursor.place in
    let none : length (drop p file) ≡ 0 = omega (arith, length-drop p file, ltb-false c.place-place-2.result (length file) (sym c.if-is_left.ensures), c.place-place-2.ensures) in
    read_on file _ _ l.phase p _ _ _ _ _ (λ k. (c.type_inv.file k).fits) l.invariant.1 l.invariant.3
    (A.ended desk l.phase p (drop p file) _ _ (sym c.loop-phase-test.ensures) none)

pub returns-then-is_left : goal.returns-then-is_left
returns-then-is_left c =
    let file = c.args.file.now in
    let l = c.loop-phase in
    let p = l.cursor.place in
    let here : c.place-place-2.result ≡ p = c.place-place-2.ensures in
    let some : 0 < length (drop p file) = omega (arith, length-drop p file, ltb-true c.place-place-2.result (length file) (sym c.if-is_left.ensures), here) in
    rw here
    (read_on file _ _ l.phase p _ _ _ _ _ (λ k. (c.type_inv.file k).fits) l.invariant.1 l.invariant.3
    (A.beyond desk l.phase p (drop p file) _ _ (sym c.loop-phase-test.ensures) some))

pub loop-phase-preserved : goal.loop-phase-preserved
loop-phase-preserved c =
    let file = c.args.file.now in
    let l = c.loop-phase in
    let p = l.cursor.place in
    let s = seen l.reader l.forward l.backward in
    let log = listed l.answers in
    let f = c.in_ok-field.field in
    let after = c.next.new.self.place in
    let to = c.in_ok-phase.phase in
    let t = seen c.turn.new.reader c.turn.new.forward c.turn.new.backward in
    let log' = listed c.turn.new.answers in
    let by : first (drop p file) ≡ got (said f) (drop after file) =
    subst (λ (b : List ℕ). first (drop p b) ≡ got (said f) (drop after b)) l.invariant.0 c.in_ok-field.ensures.answer.0 in
    let e : turn desk l.phase p (said f) s log ≡ goes to t log' =
    subst (λ (q : ℕ). turn desk l.phase q (said f) s log ≡ goes to t log') c.place-place.ensures c.in_ok-phase.ensures in
    let long : after ≡ p + length (field (said f)) = c.in_ok-field.ensures.answer.1 in (
      c.next.ensures.file ∙ l.invariant.0,
      l.invariant.1,
      omega (arith, (A.went desk l.phase p (said f) s log to t log' e).1, l.invariant.2, long),
      subst (λ (q : ℕ). A.ahead desk to q (drop after file) t log' ≡ A.ahead desk Kinds 0 file (fresh c.args.forward.now c.args.backward.now) []) (sym long)
          (sym (A.step desk l.phase p (drop p file) (said f) (drop after file) s log to t log' (sym c.loop-phase-test.ensures) by e) ∙ l.invariant.3),
    )

pub returns-in_err-phase : goal.returns-in_err-phase
returns-in_err-phase c =
    let file = c.args.file.now in
    let l = c.loop-phase in
    let p = l.cursor.place in
    let s = seen l.reader l.forward l.backward in
    let log = listed l.answers in
    let f = c.in_ok-field.field in
    let x = c.in_err-phase.field-0.0 in
    let after = c.next.new.self.place in
    let t = seen c.turn.new.reader c.turn.new.forward c.turn.new.backward in
    let log' = listed c.turn.new.answers in
    let by : first (drop p file) ≡ got (said f) (drop after file) =
    subst (λ (b : List ℕ). first (drop p b) ≡ got (said f) (drop after b)) l.invariant.0 c.in_ok-field.ensures.answer.0 in
    let e : turn desk l.phase p (said f) s log ≡ stops (told x) t log' =
    subst (λ (q : ℕ). turn desk l.phase q (said f) s log ≡ stops (told x) t log') c.place-place.ensures c.in_err-phase.ensures in
    let r = err_from_is_err_and c.from_residual-in_err-phase.result c.from_residual-in_err-phase.ensures.1 in
    rw (r.1, r.2)
    (read_on file _ _ l.phase p s log _ _ _ (λ k. (c.type_inv.file k).fits) l.invariant.1 l.invariant.3
    (A.fault desk l.phase p (drop p file) (said f) (drop after file) s log (told x) t log' (sym c.loop-phase-test.ensures) by e))

pub returns-in_err-field : goal.returns-in_err-field
returns-in_err-field c =
    let file = c.args.file.now in
    let l = c.loop-phase in
    let p = l.cursor.place in
    let x = c.in_err-field.field-0.0 in
    let nx = c.in_err-field.ensures.answer in
    let by : first (drop p file) ≡ bad x.cause = subst (λ (b : List ℕ). first (drop p b) ≡ bad x.cause) l.invariant.0 nx.0 in
    let r = err_from_is_err_and c.from_residual.result c.from_residual.ensures.1 in
    rw (r.1, r.2, nx.1)
    (read_on file _ _ l.phase p _ _ _ _ _ (λ k. (c.type_inv.file k).fits) l.invariant.1 l.invariant.3
    (A.unread desk l.phase p (drop p file) x.cause _ _ (sym c.loop-phase-test.ensures) by))

pub returns-then-is_too_long : goal.returns-then-is_too_long
returns-then-is_too_long c =
    let file = c.args.file.now in
    let start = fresh c.args.forward.now c.args.backward.now in
    rw (c.new.ensures c.args.forward.now c.args.backward.now)
    (read file c.args.forward.now c.args.backward.now (Some too_long) start _ (λ k. (c.type_inv.file k).fits)
    (A.too_long_lem desk file start _ (ltb-true 16384 (length file) (sym c.if-is_too_long.ensures)) c.clear.ensures))
