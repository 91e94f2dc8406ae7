-- The bits of a set that is packed from a test.
use Rattle.std.proofs.Common.{◌≡◌, ℕ, zero, suc, ◌+◌, ◌*◌, ◌/◌, ◌%◌, ◌^◌, ◌<◌, Bool, true, false, cond, eqb, sym, refl, ap, ◌∙◌, subst, ap₂, suc-le-suc, le_of_suc-le-suc, zero-lt-suc, pow-suc, arith, lit<}
use Rattle.model.proofs.Bits.{has_suc, low_is}
use Rattle.model.specs.Sets.{has, packed, set_of}

low_bit : (m : ℕ) (b : Bool) → has (m * 2 + cond b 1 0) 0 ≡ b
low_bit m true = ap (λ (n : ℕ). eqb n 1) (let e : (m * 2 + 1) / 1 % 2 ≡ 1 = omega arith in e)
low_bit m false = ap (λ (n : ℕ). eqb n 1) (let e : (m * 2 + 0) / 1 % 2 ≡ 0 = omega arith in e)

half_of : (m : ℕ) (b : Bool) → (m * 2 + cond b 1 0) / 2 ≡ m
half_of m true = omega arith
half_of m false = omega arith

pub has_packed : (k : ℕ) (p : ℕ → Bool) (d : ℕ) → d < k → has (packed k p) d ≡ p d
has_packed zero p d h = absurd (omega arith)
has_packed (suc k) p zero h = low_bit (packed k (λ d. p (suc d))) (p zero)
has_packed (suc k) p (suc d) h =
    has_suc (packed (suc k) p) d
    ∙ ap (λ (s : ℕ). has s d) (half_of (packed k (λ j. p (suc j))) (p zero))
    ∙ has_packed k (λ j. p (suc j)) d (le_of_suc-le-suc h)

below_step : (m n : ℕ) (b : Bool) → m < n → m * 2 + cond b 1 0 < n * 2
below_step m n true h = omega arith
below_step m n false h = omega arith

pub packed_below : (k : ℕ) (p : ℕ → Bool) → packed k p < 2 ^ k
packed_below zero p = lit< tt
packed_below (suc k) p =
    subst (λ (n : ℕ). packed (suc k) p < n) (sym (pow-suc 2 k))
    (below_step (packed k (λ d. p (suc d))) (2 ^ k) (p zero) (packed_below k (λ d. p (suc d))))

pub packed_cong : (k : ℕ) (p q : ℕ → Bool) → ((d : ℕ) → d < k → p d ≡ q d) → packed k p ≡ packed k q
packed_cong zero p q h = refl
packed_cong (suc k) p q h =
    ap₂ (λ (m : ℕ) (b : Bool). m * 2 + cond b 1 0) (packed_cong k (λ d. p (suc d)) (λ d. q (suc d)) (λ d l. h (suc d) (suc-le-suc l))) (h zero (zero-lt-suc k))

-- a set of k bits is packed again from its own bits, so that two sets with the same bits are equal
pub packed_has : (k s : ℕ) → s < 2 ^ k → packed k (has s) ≡ s
packed_has zero s h = sym (let e : s ≡ 0 = omega arith in e)
packed_has (suc k) s h =
    let half : s / 2 < 2 ^ k = omega (arith, pow-suc 2 k) in
    ap₂ (λ (m b : ℕ). m * 2 + b) (packed_cong k (λ d. has s (suc d)) (has (s / 2)) (λ d l. has_suc s d) ∙ packed_has k (s / 2) half) (low_is s)
    ∙ (let e : s / 2 * 2 + s % 2 ≡ s = omega arith in e)

pub same_bits : (k s t : ℕ) → s < 2 ^ k → t < 2 ^ k → ((d : ℕ) → d < k → has s d ≡ has t d) → s ≡ t
same_bits k s t a b h = sym (packed_has k s a) ∙ packed_cong k (has s) (has t) h ∙ packed_has k t b

-- count d is in the set of a test exactly when it passes
pub has_set_of : (p : ℕ → Bool) (d : ℕ) → d < 64 → has (set_of p) d ≡ p d
unfolding set_of
has_set_of p d h = has_packed 64 p d h

pub set_of_below : (p : ℕ → Bool) → set_of p < 2 ^ 64
unfolding set_of
set_of_below p = packed_below 64 p

-- a set is the set of a test when its bits are what the test says
pub is_set_of : (s : ℕ) (p : ℕ → Bool) → s < 2 ^ 64 → ((d : ℕ) → d < 64 → has s d ≡ p d) → s ≡ set_of p
unfolding set_of
is_set_of s p a h = sym (packed_has 64 s a) ∙ packed_cong 64 (has s) p h
