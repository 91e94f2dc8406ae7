-- The bits of a set, and how many counts it holds.
use Rattle.std.proofs.Common.{◌≡◌, ℕ, zero, suc, ◌+◌, ◌*◌, ◌/◌, ◌%◌, ◌^◌, ◌<◌, ◌≤◌, Bool, true, false, cond, eqb, List, ◌∷◌, length, filter, sym, refl, ap, ◌∙◌, ap₂, pow-suc, zero-add, add-one, one-add, arith, pow_mono}
use lib.Count.{ones, ones_step}
use Rattle.std.specs.List.{range_with_len}
use Rattle.std.proofs.lemmas.Nat.{shr-shr, pow_pos, div_below}
use Rattle.model.specs.Sets.{has, counts, held}

-- bit d + 1 is bit d of the half
pub has_suc : (s d : ℕ) → has s (suc d) ≡ has (s / 2) d
has_suc s d = ap (λ (n : ℕ). eqb (n % 2) 1) (ap (λ (k : ℕ). s / 2 ^ k) (sym (one-add d)) ∙ sym (shr-shr s 1 d))

-- no bit stands past the last
pub has_past : (s d : ℕ) → s < 2 ^ 64 → 64 ≤ d → has s d ≡ false
has_past s d h l =
    let more : s < 1 * 2 ^ d = omega (arith, pow_mono l) in
    let none : s / 2 ^ d ≡ 0 = omega (arith, div_below s (2 ^ d) 1 (pow_pos d) more) in
    ap (λ n. eqb (n % 2) 1) none

pub low_is : (s : ℕ) → cond (has s 0) 1 0 ≡ s % 2
low_is s = go (s % 2) (ap (λ (n : ℕ). n % 2) (let e : s / 1 ≡ s = omega arith in e)) (let h : s % 2 < 2 = omega arith in h)
  where
    go : (r : ℕ) → s / 1 % 2 ≡ r → r < 2 → cond (has s 0) 1 0 ≡ r
    go zero e h = ap (λ (n : ℕ). cond (eqb n 1) 1 0) e
    go (suc zero) e h = ap (λ (n : ℕ). cond (eqb n 1) 1 0) e
    go (suc (suc r)) e h = absurd (omega arith)

-- A set holds as many counts as its number has ones

one_more : {X : Type 0} (p : X → Bool) (x : X) (xs : List X) → length (filter p (x ∷ xs)) ≡ cond (p x) 1 0 + length (filter p xs)
one_more {X} p x xs = go (p x) (filter p xs)
  where
    go : (b : Bool) (l : List X) → length (cond b (x ∷ l) l) ≡ cond b 1 0 + length l
    go true l = sym (one-add (length l))
    go false l = sym (zero-add (length l))

held_step : (s k a : ℕ) → length (filter (has s) (range_with_len (a + 1) k)) ≡ length (filter (has (s / 2)) (range_with_len a k))
held_step s zero a = refl
held_step s (suc k) a =
    one_more (has s) (a + 1) (range_with_len (a + 1 + 1) k)
    ∙ ap₂ (λ (b : Bool) (n : ℕ). cond b 1 0 + n) (ap (has s) (add-one a) ∙ has_suc s a) (held_step s k (a + 1))
    ∙ sym (one_more (has (s / 2)) a (range_with_len (a + 1) k))

held_ones_in : (k s : ℕ) → s < 2 ^ k → length (filter (has s) (range_with_len 0 k)) ≡ ones s
unfolding ones
held_ones_in zero s h = ap ones (let e : 0 ≡ s = omega arith in e)
held_ones_in (suc k) s h =
    one_more (has s) 0 (range_with_len 1 k)
    ∙ ap₂ (λ (m n : ℕ). m + n) (low_is s) (held_step s k 0 ∙ held_ones_in k (s / 2) (omega (arith, pow-suc 2 k)))
    ∙ sym (ones_step s)

pub held_ones : (s : ℕ) → s < 2 ^ 64 → held s ≡ ones s
unfolding counts
held_ones s h = held_ones_in 64 s h
