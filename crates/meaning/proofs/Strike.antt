-- The fitting loads without a count are the fitting loads of the sets with that count struck.
use Rattle.std.proofs.Common.{◌≡◌, ℕ, zero, suc, pred, ◌<◌, Bool, not, ◌&&◌, eqb, List, [], ◌∷◌, length, get_or, filter, sym, ap, ◌∙◌, subst, suc-le-suc, le_of_suc-le-suc, not-suc-le-zero, zero-lt-suc, length-set}
use mathlib.Core.Bool.{and_assoc, and_comm}
use Rattle.meaning.specs.Problems.{Problem, fitting, has_at, kinds_of, without}
use Rattle.meaning.specs.Strike.{strike, struck}
use Rattle.model.specs.Sets.{has}
use Rattle.meaning.proofs.Lists.{kept_same, kept_kept}
use Rattle.meaning.proofs.Bits.{has_set_of}
use Rattle.meaning.proofs.Universe.{universe, within, Of, in_universe}
use Rattle.meaning.proofs.Standing.{adm, fitting_kept}

-- a && b && c in another order
last_first : (a b x : Bool) → ((a && x) && b) ≡ ((a && b) && x)
last_first a b x = and_assoc a x b ∙ ap (λ (y : Bool). a && y) (and_comm x b) ∙ sym (and_assoc a b x)

within_strike : (sets load : List ℕ) (j d : ℕ) → j < length sets → length load ≡ length sets → ((i : ℕ) → i < length sets → get_or load i 0 < 64)
    → within (strike sets j d) load ≡ (within sets load && not (has_at load j d))
within_strike [] load j d h e small = absurd (not-suc-le-zero h)
within_strike (s ∷ sets) [] j d h e small = absurd (not-suc-le-zero (subst (λ (n : ℕ). zero < n) (sym e) (zero-lt-suc (length sets))))
within_strike (s ∷ sets) (x ∷ load) zero d h e small =
    ap (λ (b : Bool). b && within sets load) (has_set_of (λ y. has s y && not (eqb y d)) x (small 0 (zero-lt-suc (length sets))))
    ∙ last_first (has s x) (within sets load) (not (eqb x d))
within_strike (s ∷ sets) (x ∷ load) (suc j) d h e small =
    ap (λ (b : Bool). has s x && b) (within_strike sets load j d (le_of_suc-le-suc h) (ap pred e) (λ i k. small (suc i) (suc-le-suc k)))
    ∙ sym (and_assoc (has s x) (within sets load) (not (has_at load j d)))

pub strike_tells_lem : (c : Problem) (sets : List ℕ) (j d : ℕ) → length sets ≡ kinds_of c → j < length sets → without j d (fitting c sets) ≡ fitting c (strike sets j d)
strike_tells_lem c sets j d long h =
    ap (without j d) (fitting_kept c sets long)
    ∙ kept_kept out (λ l. within sets l && adm c l) (universe (length sets))
    ∙ kept_same (λ l. (within sets l && adm c l) && out l) (λ l. within (strike sets j d) l && adm c l) (universe (length sets))
    (λ l i. let o : Of (length sets) l = in_universe (length sets) l i in
    last_first (within sets l) (out l) (adm c l)
    ∙ ap (λ (b : Bool). b && adm c l) (sym (within_strike sets l j d h o.long o.small)))
    ∙ ap (λ (n : ℕ). filter (λ l. within (strike sets j d) l && adm c l) (universe n)) (sym (length-set sets j (struck (get_or sets j 0) d)))
    ∙ sym (fitting_kept c (strike sets j d) (length-set sets j (struck (get_or sets j 0) d) ∙ long))
  where
    out : List ℕ → Bool
    out l = not (has_at l j d)
