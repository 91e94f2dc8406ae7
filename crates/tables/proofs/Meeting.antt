-- A bit to which the meetings of the marks of two rows are joined.
use Rattle.std.proofs.Common.{◌≡◌, ℕ, zero, suc, ◌<◌, ◌≤◌, ◌⊎◌, List, [], ◌∷◌, length, get_or, fold, refl, inl, inr, arith}
use Rattle.std.specs.List.{zip}
use lib.Bits.{bit_and, bit_or}

-- what a function of three bits says at all of them
eight : (P : ℕ → ℕ → ℕ → Type 0) → P 0 0 0 → P 0 0 1 → P 0 1 0 → P 0 1 1 → P 1 0 0 → P 1 0 1 → P 1 1 0 → P 1 1 1 → (a x y : ℕ) → a ≤ 1 → x ≤ 1 → y ≤ 1 → P a x y
eight P a b c d e f g h zero zero zero k l m = a
eight P a b c d e f g h zero zero (suc zero) k l m = b
eight P a b c d e f g h zero (suc zero) zero k l m = c
eight P a b c d e f g h zero (suc zero) (suc zero) k l m = d
eight P a b c d e f g h (suc zero) zero zero k l m = e
eight P a b c d e f g h (suc zero) zero (suc zero) k l m = f
eight P a b c d e f g h (suc zero) (suc zero) zero k l m = g
eight P a b c d e f g h (suc zero) (suc zero) (suc zero) k l m = h
eight P a b c d e f g h (suc (suc n)) x y k l m = absurd (omega arith)
eight P a b c d e f g h zero (suc (suc n)) y k l m = absurd (omega arith)
eight P a b c d e f g h (suc zero) (suc (suc n)) y k l m = absurd (omega arith)
eight P a b c d e f g h zero zero (suc (suc n)) k l m = absurd (omega arith)
eight P a b c d e f g h zero (suc zero) (suc (suc n)) k l m = absurd (omega arith)
eight P a b c d e f g h (suc zero) zero (suc (suc n)) k l m = absurd (omega arith)
eight P a b c d e f g h (suc zero) (suc zero) (suc (suc n)) k l m = absurd (omega arith)

no : {X : Type 0} → ◌≡◌ {A = ℕ} 0 1 → X
no e = absurd (omega arith)

bit_low : (a x y : ℕ) → a ≤ 1 → x ≤ 1 → y ≤ 1 → bit_or a (bit_and x y) ≤ 1
bit_low = eight (λ a x y. bit_or a (bit_and x y) ≤ 1) (omega arith) (omega arith) (omega arith) (omega arith) (omega arith) (omega arith) (omega arith) (omega arith)

bit_came : (a x y : ℕ) → a ≤ 1 → x ≤ 1 → y ≤ 1 → bit_or a (bit_and x y) ≡ 1 → (a ≡ 1) ⊎ ((x ≡ 1) × (y ≡ 1))
bit_came =
    eight (λ a x y. bit_or a (bit_and x y) ≡ 1 → (a ≡ 1) ⊎ ((x ≡ 1) × (y ≡ 1)))
    no no no (λ e. inr (refl, refl)) (λ e. inl refl) (λ e. inl refl) (λ e. inl refl) (λ e. inl refl)

bit_stays : (a x y : ℕ) → a ≡ 1 → x ≤ 1 → y ≤ 1 → bit_or a (bit_and x y) ≡ 1
bit_stays a x y e l m =
    eight (λ a x y. a ≡ 1 → bit_or a (bit_and x y) ≡ 1) no no no (λ e. refl) (λ e. refl) (λ e. refl) (λ e. refl) (λ e. refl) a x y (omega arith) l m e

bit_comes : (a x y : ℕ) → a ≤ 1 → x ≡ 1 → y ≡ 1 → bit_or a (bit_and x y) ≡ 1
bit_comes a x y k e f =
    eight (λ a x y. x ≡ 1 → y ≡ 1 → bit_or a (bit_and x y) ≡ 1) (λ e f. no e) (λ e f. no e) (λ e f. no f) (λ e f. refl) (λ e f. refl) (λ e f. refl) (λ e f. refl) (λ e f. refl) a x y k (omega arith) (omega arith) e f

-- two rows of marks
abbrev pub Rows : List ℕ → List ℕ → Type 0
Rows xs ys = (b : ℕ) → b < length ys → (get_or xs b 0 ≤ 1) × (get_or ys b 0 ≤ 1)

rest : (x y : ℕ) (xs ys : List ℕ) → Rows (x ∷ xs) (y ∷ ys) → Rows xs ys
rest x y xs ys m b h = m (suc b) (omega arith)

pub met_came : (xs ys : List ℕ) (a : ℕ) → a ≤ 1 → Rows xs ys → fold (λ any p. bit_or any (bit_and p.0 p.1)) a (zip xs ys) ≡ 1 → (a ≡ 1) ⊎ ((b : ℕ) × ((get_or xs b 0 ≡ 1) × (get_or ys b 0 ≡ 1)))
met_came [] ys a l m e = inl e
met_came (x ∷ xs) [] a l m e = inl e
met_came (x ∷ xs) (y ∷ ys) a l m e =
    let bits = m zero (omega arith) in
    elim (met_came xs ys (bit_or a (bit_and x y)) (bit_low a x y l bits.0 bits.1) (rest x y xs ys m) e) [
      | inl now ↦ elim (bit_came a x y l bits.0 bits.1 now) [ inl old ↦ inl old | inr here ↦ inr (zero, here) ]
      | inr w ↦ inr (suc w.0, w.1)
    ]

met_stays : (xs ys : List ℕ) (a : ℕ) → a ≡ 1 → Rows xs ys → fold (λ any p. bit_or any (bit_and p.0 p.1)) a (zip xs ys) ≡ 1
met_stays [] ys a e m = e
met_stays (x ∷ xs) [] a e m = e
met_stays (x ∷ xs) (y ∷ ys) a e m =
    let bits = m zero (omega arith) in
    met_stays xs ys (bit_or a (bit_and x y)) (bit_stays a x y e bits.0 bits.1) (rest x y xs ys m)

pub met_comes : (xs ys : List ℕ) (a : ℕ) → a ≤ 1 → Rows xs ys → (b : ℕ) → get_or xs b 0 ≡ 1 → get_or ys b 0 ≡ 1 → fold (λ any p. bit_or any (bit_and p.0 p.1)) a (zip xs ys) ≡ 1
met_comes [] ys a l m b e f = no e
met_comes (x ∷ xs) [] a l m b e f = no f
met_comes (x ∷ xs) (y ∷ ys) a l m zero e f = met_stays xs ys (bit_or a (bit_and x y)) (bit_comes a x y l e f) (rest x y xs ys m)
met_comes (x ∷ xs) (y ∷ ys) a l m (suc b) e f =
    let bits = m zero (omega arith) in
    met_comes xs ys (bit_or a (bit_and x y)) (bit_low a x y l bits.0 bits.1) (rest x y xs ys m) b e f
