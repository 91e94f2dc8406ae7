-- How many counts sets hold.
use Rattle.std.proofs.Common.{◌≡◌, ℕ, zero, suc, pred, ◌+◌, ◌<◌, ◌≤◌, Bool, true, false, cond, List, [], ◌∷◌, map, length, get_or, take, sum_by, filter, sym, refl, ap, ◌∙◌, subst, ap₂, suc-le-suc, zero-le, le_of_eq, not-suc-le-zero, zero-lt-suc, arith}
use lib.Seq.{take-nil}
use Rattle.std.specs.List.{range_with_len}
use Rattle.std.proofs.lemmas.List.Sums.{sum_by-cons}
use Rattle.std.proofs.lemmas.Bool.{false≢true}
use Rattle.meaning.specs.Problems.{support, uses}
use Rattle.model.specs.Sets.{counts, has, held, held_in_all, members, set_of}
use Rattle.model.proofs.Lists.{In}
use Rattle.meaning.proofs.Lists.{kept_same}
use Rattle.meaning.proofs.Bits.{has_set_of}
use Rattle.meaning.proofs.Universe.{in_counts}

-- the members of the set of a test are the counts that pass it
pub members_set : (p : ℕ → Bool) → members (set_of p) ≡ filter p counts
members_set p = kept_same (has (set_of p)) p counts (λ d i. has_set_of p d (in_counts d i))

sum_map : {X : Type 0} (f : X → ℕ) (g : ℕ → ℕ) (h : X → ℕ) → ((x : X) → g (f x) ≡ h x) → (xs : List X) → sum_by g (map f xs) ≡ sum_by h xs
sum_map f g h e [] = refl
sum_map f g h e (x ∷ xs) =
    sum_by-cons g (f x) (map f xs) ∙ ap₂ (λ (a b : ℕ). a + b) (e x) (sum_map f g h e xs) ∙ sym (sum_by-cons h x xs)

pub held_support : (n : ℕ) (loads : List (List ℕ)) → held_in_all (support n loads) ≡ sum_by (λ j. length (filter (uses loads j) counts)) (range_with_len 0 n)
held_support n loads =
    sum_map (λ j. set_of (uses loads j)) held (λ j. length (filter (uses loads j) counts)) (λ j. ap length (members_set (uses loads j))) (range_with_len 0 n)

-- a set that lies in another holds no more
fewer_kept : {X : Type 0} (p q : X → Bool) → (xs : List X) → ((x : X) → In x xs → p x ≡ true → q x ≡ true) → length (filter p xs) ≤ length (filter q xs)
fewer_kept p q [] h = omega arith
fewer_kept {X} p q (x ∷ xs) h = go (p x) (q x) (h x (mathlib.Core.Logic.inl refl)) (fewer_kept p q xs (λ y i. h y (mathlib.Core.Logic.inr i)))
  where
    go : (a b : Bool) → (a ≡ true → b ≡ true) → length (filter p xs) ≤ length (filter q xs)
        → length (cond a (x ∷ filter p xs) (filter p xs)) ≤ length (cond b (x ∷ filter q xs) (filter q xs))
    go true true f l = omega arith
    go true false f l = absurd (false≢true (f refl))
    go false true f l = omega arith
    go false false f l = l

pub held_less : (s t : ℕ) → ((d : ℕ) → d < 64 → has s d ≡ true → has t d ≡ true) → held s ≤ held t
held_less s t h = fewer_kept (has s) (has t) counts (λ d i. h d (in_counts d i))

-- over plain numbers, so that `omega` has no set to look into
sums_le : (x y a b c d : ℕ) → x ≡ a + b → y ≡ c + d → a ≤ c → b ≤ d → x ≤ y
sums_le x y a b c d e f h k = omega arith

pub held_in_all_less : (ss ts : List ℕ) → length ss ≡ length ts
    → ((j d : ℕ) → j < length ss → d < 64 → has (get_or ss j 0) d ≡ true → has (get_or ts j 0) d ≡ true) → held_in_all ss ≤ held_in_all ts
held_in_all_less [] [] e h = zero-le
held_in_all_less [] (t ∷ ts) e h = zero-le
held_in_all_less (s ∷ ss) [] e h = absurd (not-suc-le-zero (le_of_eq e))
held_in_all_less (s ∷ ss) (t ∷ ts) e h =
    sums_le _ _ (held s) (held_in_all ss) (held t) (held_in_all ts) (sum_by-cons held s ss) (sum_by-cons held t ts)
    (held_less s t (λ d. h 0 d (zero-lt-suc (length ss))))
    (held_in_all_less ss ts (ap pred e) (λ j d l. h (suc j) d (suc-le-suc l)))

held_none : held 0 ≡ 0
unfolding counts
held_none = refl

-- the same of the first n sets of two lists, however long these are
pub held_take_less : (n : ℕ) (ss ts : List ℕ)
    → ((j d : ℕ) → j < n → d < 64 → has (get_or ss j 0) d ≡ true → has (get_or ts j 0) d ≡ true) → held_in_all (take n ss) ≤ held_in_all (take n ts)
held_take_less zero ss ts h = zero-le
held_take_less (suc n) [] ts h = zero-le
held_take_less (suc n) (s ∷ ss) [] h =
    sums_le _ 0 (held s) (held_in_all (take n ss)) 0 0 (sum_by-cons held s (take n ss)) refl
    (subst (λ (m : ℕ). held s ≤ m) held_none (held_less s 0 (λ d. h 0 d (zero-lt-suc n))))
    (subst (λ (l : List ℕ). held_in_all (take n ss) ≤ held_in_all l) (take-nil n) (held_take_less n ss [] (λ j d l. h (suc j) d (suc-le-suc l))))
held_take_less (suc n) (s ∷ ss) (t ∷ ts) h =
    sums_le _ _ (held s) (held_in_all (take n ss)) (held t) (held_in_all (take n ts)) (sum_by-cons held s (take n ss)) (sum_by-cons held t (take n ts))
    (held_less s t (λ d. h 0 d (zero-lt-suc n)))
    (held_take_less n ss ts (λ j d l. h (suc j) d (suc-le-suc l)))
