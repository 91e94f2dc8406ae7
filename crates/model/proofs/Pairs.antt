-- Totals rise strictly where each is below the next.
use Rattle.std.proofs.Common.{◌≡◌, ℕ, zero, suc, ◌+◌, ◌<◌, Bool, true, false, ltb, List, [], ◌∷◌, length, get_or, sym, refl, arith}
use Rattle.std.specs.List.{IsAllAdjacentAnswer}
use Rattle.std.proofs.lemmas.Bool.{and_from, and_left, and_right}
use Rattle.model.specs.Goals.{rising}

each_rises : (ts : List ℕ) → ((k d : ℕ) → k + 1 < length ts → true ≡ ltb (get_or ts k d) (get_or ts (k + 1) d)) → rising ts ≡ true
each_rises [] h = refl
each_rises (t ∷ []) h = refl
each_rises (t ∷ u ∷ ts) h =
    and_from (ltb t u) (rising (u ∷ ts)) (sym (h 0 0 (omega arith))) (each_rises (u ∷ ts) (λ k d l. let e : suc k + 1 ≡ suc (k + 1) = omega arith in rw e at (h (suc k) d (omega arith))))

one_falls : (ts : List ℕ) (k : ℕ) → k + 1 < length ts → ((d : ℕ) → false ≡ ltb (get_or ts k d) (get_or ts (k + 1) d)) → rising ts ≡ false
one_falls [] k l h = absurd (omega arith)
one_falls (t ∷ []) k l h = absurd (omega arith)
one_falls (t ∷ u ∷ ts) zero l h = and_left (ltb t u) (rising (u ∷ ts)) (sym (h 0))
one_falls (t ∷ u ∷ ts) (suc k) l h =
    and_right (ltb t u) (rising (u ∷ ts)) (one_falls (u ∷ ts) k (omega arith) (λ d. let e : suc k + 1 ≡ suc (k + 1) = omega arith in rw e at (h d)))

pub rising_by_pairs : (ts : List ℕ) (r : Bool) → IsAllAdjacentAnswer (λ x y b. b ≡ ltb x y) ts r → r ≡ rising ts
rising_by_pairs ts true h = sym (each_rises ts h)
rising_by_pairs ts false h = sym (one_falls ts h.0 h.1 h.2)
