-- The order of loads.
use Rattle.std.proofs.Common.{◌≡◌, ℕ, zero, suc, ◌<◌, ◌≤◌, true, false, ◌&&◌, eqb, ltb, ◌⊎◌, List, [], ◌∷◌, length, get_or, take, Decides, refl, ap, ◌∙◌, inl, inr, arith}
use Rattle.std.proofs.lemmas.Bool.{lt-ltb, le-ltb, ltb-true, eq-eqb, ne_eqb, eqb-true, or_left, or_right, or_from, or_cases, and_from, and_parts, and_left, and_right, false≢true}
use Rattle.model.specs.Order.{before, Precedes}

pub same_first : (d : ℕ) (l m : List ℕ) → before l m ≡ true → before (d ∷ l) (d ∷ m) ≡ true
same_first d l m h = or_right (ltb d d) (eqb d d && before l m) (and_from (eqb d d) (before l m) (eq-eqb d d refl) h)

pub less_first : (d e : ℕ) (l m : List ℕ) → d < e → before (d ∷ l) (e ∷ m) ≡ true
less_first d e l m h = or_left (ltb d e) (eqb d e && before l m) (lt-ltb d e h)

-- the count in front is larger, or it is not smaller and what follows does not come before
pub not_first : (d e : ℕ) (l m : List ℕ) → e < d → before (d ∷ l) (e ∷ m) ≡ false
not_first d e l m h = or_from (ltb d e) (eqb d e && before l m) (le-ltb d e (omega arith)) (and_left (eqb d e) (before l m) (ne_eqb d e (λ x. omega arith)))

pub not_rest : (d e : ℕ) (l m : List ℕ) → e ≤ d → before l m ≡ false → before (d ∷ l) (e ∷ m) ≡ false
not_rest d e l m h n = or_from (ltb d e) (eqb d e && before l m) (le-ltb d e h) (and_right (eqb d e) (before l m) n)

pub before_cases : (d e : ℕ) (l m : List ℕ) → before (d ∷ l) (e ∷ m) ≡ true → (d < e) ⊎ ((d ≡ e) × (before l m ≡ true))
before_cases d e l m h =
    elim (or_cases (ltb d e) (eqb d e && before l m) h) [
      | inl x ↦ inl (ltb-true d e x)
      | inr x ↦ inr (eqb-true d e (and_parts (eqb d e) (before l m) x).0, (and_parts (eqb d e) (before l m) x).1)
    ]

pub before_asym : (l m : List ℕ) → before l m ≡ true → before m l ≡ false
before_asym [] [] h = refl
before_asym [] (e ∷ m) h = refl
before_asym (d ∷ l) [] h = refl
before_asym (d ∷ l) (e ∷ m) h =
    elim (before_cases d e l m h) [
      | inl x ↦ not_first e d m l x
      | inr x ↦ not_rest e d m l (omega (arith, x.0)) (before_asym l m x.1)
    ]

pub before_itself : (l : List ℕ) → before l l ≡ false
before_itself [] = refl
before_itself (d ∷ l) = not_rest d d l l (omega arith) (before_itself l)

-- The test of the order is the relation.
tells : (l m : List ℕ) → before l m ≡ true → Precedes l m
tells [] m h = absurd (false≢true h)
tells (d ∷ l) [] h = absurd (false≢true h)
tells (d ∷ l) (e ∷ m) h =
    elim (before_cases d e l m h) [
      | inl x ↦ record { place = 0; in_first = omega arith; in_second = omega arith; agree = refl; smaller = x }
      | inr x ↦ later d e l m x.0 (tells l m x.1)
    ]
  where
    later : (d e : ℕ) (l m : List ℕ) → d ≡ e → Precedes l m → Precedes (d ∷ l) (e ∷ m)
    later d e l m same p =
        let front : take (suc p.place) (d ∷ l) ≡ take (suc p.place) (e ∷ m) = ap (λ x. x ∷ take p.place l) same ∙ ap (λ xs. e ∷ xs) p.agree in
        record { place = suc p.place; in_first = omega (arith, p.in_first); in_second = omega (arith, p.in_second); agree = front; smaller = p.smaller }

told_at : (k : ℕ) (l m : List ℕ) → k < length l → k < length m → take k l ≡ take k m → get_or l k 0 < get_or m k 0 → before l m ≡ true
told_at k [] m i j a s = absurd (omega arith)
told_at k (d ∷ l) [] i j a s = absurd (omega arith)
told_at zero (d ∷ l) (e ∷ m) i j a s = less_first d e l m s
told_at (suc k) (d ∷ l) (e ∷ m) i j a s =
    let same : d ≡ e = cc in
    let rest : take k l ≡ take k m = cc in
    ap (λ x. before (x ∷ l) (e ∷ m)) same ∙ same_first e l m (told_at k l m (omega arith) (omega arith) rest s)

pub order_told : (l m : List ℕ) → Decides (before l m) (Precedes l m)
order_told l m = (tells l m, λ p. told_at p.place l m p.in_first p.in_second p.agree p.smaller)

-- no load precedes itself
pub never_itself : (l m : List ℕ) → l ≡ m → Precedes l m → ⊥
never_itself l m e p = let same = ap (λ x. get_or x p.place 0) e in omega (arith, same, p.smaller)
