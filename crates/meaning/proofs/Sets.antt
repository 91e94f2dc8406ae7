-- The bits of a set after a count is put in.
use Rattle.std.proofs.Common.{◌≡◌, ℕ, zero, suc, ◌+◌, ◌-◌, ◌*◌, ◌/◌, ◌%◌, ◌^◌, ◌<◌, Bool, true, false, cond, not, ◌&&◌, ◌||◌, eqb, sym, refl, ap, ◌∙◌, inl, inr, one-mul, arith}
use lib.Bits.{bit_or, bit_xor, or_shr, or_mod, xor_shr, xor_mod}
use Rattle.std.proofs.lemmas.Nat.{pow_pos, pow-add, shl-shr, pow_below, div_below, mod_below}
use Rattle.std.proofs.lemmas.Bool.{cases_order, eq-eqb, ne_eqb, eqb-true}
use Rattle.model.specs.Sets.{has}

pow_split : (d k : ℕ) → k < d → 2 ^ d ≡ (2 ^ (d - k - 1) * 2) * 2 ^ k
pow_split d k l =
    let e : d ≡ (d - k - 1) + 1 + k = omega arith in
    ap (λ n. 2 ^ n) e ∙ pow-add 2 (d - k - 1 + 1) k ∙ ap (λ n. n * 2 ^ k) (pow-add 2 (d - k - 1) 1)

-- bit k of 2 ^ d
pub pow_bit : (d k : ℕ) → 2 ^ d / 2 ^ k % 2 ≡ cond (eqb k d) 1 0
pow_bit d k =
    elim (cases_order k d) [
      | inl e ↦
          ap (λ n. 2 ^ d / 2 ^ n % 2) e ∙ ap (λ n. n / 2 ^ d % 2) (sym (one-mul (2 ^ d))) ∙ ap (λ n. n % 2) (shl-shr 1 d) ∙ sym (ap (λ t. cond t 1 0) (eq-eqb k d e))
      | inr o ↦ elim o [
        | inl l ↦
            ap (λ n. n / 2 ^ k % 2) (pow_split d k l) ∙ ap (λ n. n % 2) (shl-shr (2 ^ (d - k - 1) * 2) k) ∙ omega arith
            ∙ sym (ap (λ t. cond t 1 0) (ne_eqb k d (λ e. omega arith)))
        | inr l ↦
            let less : 2 ^ d < 1 * 2 ^ k = omega (arith, pow_below d k l) in
            let none : 2 ^ d / 2 ^ k ≡ 0 = omega (arith, div_below (2 ^ d) (2 ^ k) 1 (pow_pos k) less) in
            ap (λ n. n % 2) none ∙ sym (ap (λ t. cond t 1 0) (ne_eqb k d (λ e. omega arith)))
      ]
    ]

or_bit : (x : ℕ) → x < 2 → (t : Bool) → eqb (bit_or x (cond t 1 0)) 1 ≡ (t || eqb x 1)
or_bit zero h true = refl
or_bit zero h false = refl
or_bit (suc zero) h true = refl
or_bit (suc zero) h false = refl
or_bit (suc (suc x)) h t = absurd (omega arith)

pub has_with : (s d k : ℕ) → has (bit_or s (2 ^ d)) k ≡ (eqb k d || has s k)
has_with s d k =
    ap (λ n. eqb (n % 2) 1) (or_shr s (2 ^ d) k) ∙ ap (λ n. eqb n 1) (or_mod (s / 2 ^ k) (2 ^ d / 2 ^ k) 1)
    ∙ ap (λ n. eqb (bit_or (s / 2 ^ k % 2) n) 1) (pow_bit d k) ∙ or_bit (s / 2 ^ k % 2) (mod_below (s / 2 ^ k) 2 (omega arith)) (eqb k d)

pub has_none : (k : ℕ) → has 0 k ≡ false
has_none k =
    let none : 0 / 2 ^ k ≡ 0 = omega (arith, div_below 0 (2 ^ k) 1 (pow_pos k) (omega (arith, pow_pos k))) in
    ap (λ n. eqb (n % 2) 1) none

pub put_same : (y t : Bool) (d : ℕ) → t ≡ false → ((y && eqb d d) || t) ≡ y
put_same true t d e = ap (λ b. b || t) (eq-eqb d d refl)
put_same false t d e = e

pub put_other : (y t : Bool) (k d : ℕ) → ((k ≡ d) → ⊥) → ((y && eqb k d) || t) ≡ t
put_other true t k d ne = ap (λ b. b || t) (ne_eqb k d ne)
put_other false t k d ne = refl

xor_bit : (x : ℕ) → x < 2 → (t : Bool) → eqb (bit_xor x (cond t 1 0)) 1 ≡ cond t (not (eqb x 1)) (eqb x 1)
xor_bit zero h true = refl
xor_bit zero h false = refl
xor_bit (suc zero) h true = refl
xor_bit (suc zero) h false = refl
xor_bit (suc (suc x)) h t = absurd (omega arith)

flipped : (x t : Bool) → (t ≡ true → x ≡ true) → cond t (not x) x ≡ (x && not t)
flipped true true h = refl
flipped true false h = refl
flipped false true h = sym (h refl)
flipped false false h = refl

-- a count that is in the set, taken out
pub has_without : (s d k : ℕ) → has s d ≡ true → has (bit_xor s (2 ^ d)) k ≡ (has s k && not (eqb k d))
has_without s d k stands =
    ap (λ n. eqb (n % 2) 1) (xor_shr s (2 ^ d) k) ∙ ap (λ n. eqb n 1) (xor_mod (s / 2 ^ k) (2 ^ d / 2 ^ k) 1)
    ∙ ap (λ n. eqb (bit_xor (s / 2 ^ k % 2) n) 1) (pow_bit d k) ∙ xor_bit (s / 2 ^ k % 2) (mod_below (s / 2 ^ k) 2 (omega arith)) (eqb k d)
    ∙ flipped (has s k) (eqb k d) (λ e. ap (has s) (eqb-true k d e) ∙ stands)
