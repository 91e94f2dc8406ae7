-- Strictly rising totals.
use Rattle.std.specs.Prelude.{◌≡◌, ℕ, zero, suc, ◌+◌, ◌-◌, ◌<◌, ◌≤◌, true, false, ◌&&◌, ◌||◌, List, [], ◌∷◌, length, drop, ◌==◌, nat_lt, slice_index, refl}
use Rattle.std.proofs.Common.{sym, ap, ◌∙◌, inl, inr, arith}
use Rattle.std.proofs.lemmas.List.{drop_more, drop_all}
use Rattle.std.proofs.lemmas.Bool.{and_parts, and_left, or_cases, or_from, false≢true, cases_order, lt-ltb, le-ltb, ltb-true, eqb-true, eq-eqb, ne_eqb}
use Rattle.model.specs.Goals.{is_in, last_of, rising}

-- what is left of rising totals rises
pub rising_rest : (t : ℕ) (ts : List ℕ) → rising (t ∷ ts) ≡ true → rising ts ≡ true
rising_rest t [] h = refl
rising_rest t (u ∷ ts) h = (and_parts (nat_lt t u) (rising (u ∷ ts)) h).1

pub rising_drop : (i : ℕ) (ts : List ℕ) → rising ts ≡ true → rising (drop i ts) ≡ true
rising_drop zero ts h = h
rising_drop (suc i) [] h = refl
rising_drop (suc i) (t ∷ ts) h = rising_drop i ts (rising_rest t ts h)

-- a total below the first is not among them
pub below_first : (t : ℕ) (ts : List ℕ) (b : ℕ) → rising (t ∷ ts) ≡ true → b < t → is_in (t ∷ ts) b ≡ false
below_first t [] b h l = or_from (t == b) false (ne_eqb t b (λ e. omega arith)) refl
below_first t (u ∷ ts) b h l =
    let two = and_parts (nat_lt t u) (rising (u ∷ ts)) h in
    let next : b < u = omega (arith, ltb-true t u two.0) in
    or_from (t == b) (is_in (u ∷ ts) b) (ne_eqb t b (λ e. omega arith)) (below_first u ts b two.1 next)

-- the first that is not below a total decides
decides : (t : ℕ) (ts : List ℕ) (b : ℕ) → rising (t ∷ ts) ≡ true → b ≤ t → is_in (t ∷ ts) b ≡ (t == b)
decides t ts b h o =
    elim (cases_order t b) [
      | inl e ↦ ap (λ x. x || is_in ts b) (eq-eqb t b e) ∙ sym (eq-eqb t b e)
      | inr w ↦ elim w [ inl l ↦ absurd (omega arith) | inr l ↦ below_first t ts b h l ∙ sym (ne_eqb t b (λ e. omega arith)) ]
    ]

module _ (ts : List ℕ) (i : ℕ) (l : i < length ts) where
  pub first_decides : (b : ℕ) → rising ts ≡ true → b ≤ slice_index ts i → is_in (drop i ts) b ≡ (slice_index ts i == b)
  first_decides b h o =
      let rest = drop_more ts i 0 l in
      ap (λ (xs : List ℕ). is_in xs b) rest ∙ decides (slice_index ts i) (drop (i + 1) ts) b (ap rising (sym rest) ∙ rising_drop i ts h) o

  -- one that is below it is passed over
  pub passed_over : (b : ℕ) → slice_index ts i < b → is_in (drop i ts) b ≡ is_in (drop (i + 1) ts) b
  passed_over b o =
      ap (λ (xs : List ℕ). is_in xs b) (drop_more ts i 0 l) ∙ ap (λ x. x || is_in (drop (i + 1) ts) b) (ne_eqb (slice_index ts i) b (λ e. omega arith))

pub none_left : (ts : List ℕ) (i b : ℕ) → length ts ≤ i → is_in (drop i ts) b ≡ false
none_left ts i b h = ap (λ (xs : List ℕ). is_in xs b) (drop_all i ts h)

-- the last of those after the first is the last of all
last_rest : (t u : ℕ) (ts : List ℕ) → last_of (t ∷ u ∷ ts) ≡ last_of (u ∷ ts)
last_rest t u ts =
    let e : length (t ∷ u ∷ ts) - 1 ≡ suc (length (u ∷ ts) - 1) = omega arith in
    ap (λ n. slice_index (t ∷ u ∷ ts) n) e

-- none of them is above the last
pub in_below_last : (ts : List ℕ) (b : ℕ) → rising ts ≡ true → is_in ts b ≡ true → b ≤ last_of ts
in_below_last [] b h i = absurd (false≢true i)
in_below_last (t ∷ []) b h i = elim (or_cases (t == b) false i) [ inl e ↦ omega (arith, eqb-true t b e) | inr n ↦ absurd (false≢true n) ]
in_below_last (t ∷ u ∷ ts) b h i =
    let two = and_parts (nat_lt t u) (rising (u ∷ ts)) h in
    let next : u ≤ last_of (u ∷ ts) = in_below_last (u ∷ ts) u two.1 (first_in u ts) in
    let same = last_rest t u ts in
    elim (or_cases (t == b) (is_in (u ∷ ts) b) i) [
      | inl e ↦ omega (arith, eqb-true t b e, ltb-true t u two.0)
      | inr j ↦ omega (arith, in_below_last (u ∷ ts) b two.1 j)
    ]
  where
    first_in : (u : ℕ) (us : List ℕ) → is_in (u ∷ us) u ≡ true
    first_in u us = ap (λ x. x || is_in us u) (eq-eqb u u refl)

-- Testing pair after pair from the first on.
pair : (ts : List ℕ) (i : ℕ) → 1 ≤ i → i < length ts → drop (i - 1) ts ≡ slice_index ts (i - 1) ∷ slice_index ts i ∷ drop (i + 1) ts
pair ts i o l =
    let e : i - 1 + 1 ≡ i = omega arith in
    drop_more ts (i - 1) 0 (omega arith) ∙ ap (λ n. slice_index ts (i - 1) ∷ drop n ts) e ∙ ap (λ xs. slice_index ts (i - 1) ∷ xs) (drop_more ts i 0 l)

pub pair_fails : (ts : List ℕ) (i : ℕ) → 1 ≤ i → i < length ts → slice_index ts i ≤ slice_index ts (i - 1) → rising (drop (i - 1) ts) ≡ false
pair_fails ts i o l h = ap rising (pair ts i o l) ∙ and_left (nat_lt (slice_index ts (i - 1)) (slice_index ts i)) _ (le-ltb (slice_index ts (i - 1)) (slice_index ts i) h)

pub pair_passes : (ts : List ℕ) (i : ℕ) → 1 ≤ i → i < length ts → slice_index ts (i - 1) < slice_index ts i → rising (drop (i - 1) ts) ≡ rising (drop (i + 1 - 1) ts)
pair_passes ts i o l h =
    let e : i + 1 - 1 ≡ i = omega arith in
    ap rising (pair ts i o l) ∙ ap (λ x. x && rising (slice_index ts i ∷ drop (i + 1) ts)) (lt-ltb (slice_index ts (i - 1)) (slice_index ts i) h)
    ∙ ap rising (sym (drop_more ts i 0 l)) ∙ ap (λ n. rising (drop n ts)) (sym e)

pub one_left : (ts : List ℕ) (i : ℕ) → length ts ≤ i → rising (drop (i - 1) ts) ≡ true
one_left [] zero h = refl
one_left [] (suc i) h = ap rising (drop_all (suc i - 1) [] (omega arith))
one_left (t ∷ ts) i h =
    elim (cases_order (i - 1) (length ts)) [
      | inl e ↦ ap (λ n. rising (drop n (t ∷ ts))) e ∙ alone t ts
      | inr w ↦ elim w [ inl l ↦ absurd (omega arith) | inr l ↦ ap rising (drop_all (i - 1) (t ∷ ts) (omega arith)) ]
    ]
  where
    alone : (t : ℕ) (ts : List ℕ) → rising (drop (length ts) (t ∷ ts)) ≡ true
    alone t [] = refl
    alone t (u ∷ us) = alone u us
