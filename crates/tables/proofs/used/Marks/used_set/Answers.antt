use Rattle.std.proofs.Common.{◌≡◌, ℕ, ◌^◌, ◌<◌, ◌||◌, eqb, sym, refl, ap, ◌∙◌, arith, rules, below_more}
use lib.Bits.{bit_or}
use Rattle.std.proofs.lemmas.Nat.{one_shl}
use Rattle.std.proofs.lemmas.Bool.{eq-eqb, ne_eqb}
use Rattle.model.specs.Sets.{has}
use Rattle.model.specs.Loads.{fits}
use Rattle.meaning.specs.Problems.{uses}
use Rattle.tables.specs.Tables.{parts_of}
use Rattle.meaning.proofs.Bits.{is_set_of}
use Rattle.meaning.proofs.Sets.{has_with}
use Rattle.tables.proofs.used.Marks.used_set.Goals as goal
use Rattle.tables.proofs.used.Marks.used_set.Goals.{then-is_used, else-is_used}

pub loop-d-preserved : goal.loop-d-preserved
loop-d-preserved g c =
    let s = c.args.self.now in
    let U = λ (k : ℕ). uses (fits (g.G.Goal.means s.goal.now).admits (parts_of s.parts)) c.args.i k in
    let d = c.loop-d.d in
    let old = c.loop-d.found in
    let new = c.if-is_used.found in
    elim c.if-is_used.branch [
      | then-is_used w ↦
          let put : (k : ℕ) → has new k ≡ (eqb k d || has old k) = λ k. ap (λ x. has x k) (w.found-is ∙ ap (bit_or old) (one_shl d 64 (omega arith))) ∙ has_with old d k in
          let other : (k : ℕ) → ((k ≡ d) → ⊥) → has new k ≡ has old k = λ k ne. put k ∙ ap (λ b. b || has old k) (ne_eqb k d ne) in (
            below_more (λ k. has new k ≡ U k) d
                (λ k h. other k (λ e. omega arith) ∙ c.loop-d.invariant.0 k h)
                (put d ∙ ap (λ b. b || has old d) (eq-eqb d d refl) ∙ sym w.if-is_used.true ∙ c.is_used.ensures),
            (λ k h. other k (λ e. omega arith) ∙ c.loop-d.invariant.1 k (omega arith)),
          )
      | else-is_used w ↦
          let same : (k : ℕ) → has new k ≡ has old k = λ k. ap (λ x. has x k) w.found-is in (
            below_more (λ k. has new k ≡ U k) d
                (λ k h. same k ∙ c.loop-d.invariant.0 k h)
                (same d ∙ c.loop-d.invariant.1 d (omega arith) ∙ sym w.if-is_used.false ∙ c.is_used.ensures),
            (λ k h. same k ∙ c.loop-d.invariant.1 k (omega arith)),
          )
    ]

pub returns : goal.returns
returns g c =
    let s = c.args.self.now in
    let fit : c.loop-d.found < 2 ^ 64 = search rules in
    is_set_of c.loop-d.found (uses (fits (g.G.Goal.means s.goal.now).admits (parts_of s.parts)) c.args.i) fit (λ d h. c.loop-d.invariant.0 d (omega arith))
