-- All lists of n counts, in order. Every list of loads is a filter of it, so that two such lists are equal when their tests agree.
use Rattle.std.proofs.Common.{◌≡◌, ℕ, zero, suc, ◌+◌, ◌<◌, Bool, true, false, cond, ◌&&◌, ◌⊎◌, List, [], ◌∷◌, ◌++◌, map, length, get_or, filter, sym, refl, ap, ◌∙◌, subst, ap₂, inl, inr, le_of_suc-le-suc, arith}
use Rattle.std.specs.List.{range_with_len, flat_map}
use Rattle.std.proofs.lemmas.Bool.{false≢true}
use Rattle.meaning.specs.Tallies.{choices_of}
use Rattle.model.specs.Loads.{choices}
use Rattle.model.specs.declared.kind.Kind.{Kind}
use Rattle.model.specs.Parts.{parts}
use Rattle.model.specs.Sets.{counts, has, members}
use Rattle.model.proofs.Lists.{In}
use Rattle.meaning.proofs.Lists.{and_left, and_right, and_both, kept_same, kept_append, kept_map}

-- each of the counts in turn, before each of the lists
abbrev pub begun : List ℕ → List (List ℕ) → List (List ℕ)
begun ds ls = flat_map (λ d. map (λ c. d ∷ c) ls) ds

abbrev pub universe : ℕ → List (List ℕ)
universe zero = [] ∷ []
universe (suc n) = begun counts (universe n)

-- each count of the load is in the set of its place
abbrev pub within : List ℕ → List ℕ → Bool
within [] load = true
within (s ∷ sets) [] = false
within (s ∷ sets) (d ∷ load) = has s d && within sets load

-- filters of the counts and of the rest are a filter of the whole
begun_kept : (p : ℕ → Bool) (q r : List ℕ → Bool) → ((d : ℕ) (l : List ℕ) → r (d ∷ l) ≡ (p d && q l))
    → (ds : List ℕ) (ls : List (List ℕ)) → begun (filter p ds) (filter q ls) ≡ filter r (begun ds ls)
begun_kept p q r h [] ls = refl
begun_kept p q r h (d ∷ ds) ls =
    go (p d) refl (begun_kept p q r h ds ls) ∙ sym (kept_append r (map (λ l. d ∷ l) ls) (begun ds ls))
  where
    yes_here : p d ≡ true → (l : List ℕ) → q l ≡ r (d ∷ l)
    yes_here e l = sym (h d l ∙ ap (λ (b : Bool). b && q l) e)

    none : (ls : List (List ℕ)) → p d ≡ false → filter r (map (λ l. d ∷ l) ls) ≡ []
    none [] e = refl
    none (l ∷ ls) e = subst (λ (b : Bool). cond b ((d ∷ l) ∷ filter r (map (λ l. d ∷ l) ls)) (filter r (map (λ l. d ∷ l) ls)) ≡ []) (sym (h d l ∙ ap (λ (b : Bool). b && q l) e)) (none ls e)

    go : (b : Bool) → p d ≡ b → begun (filter p ds) (filter q ls) ≡ filter r (begun ds ls)
        → begun (cond b (d ∷ filter p ds) (filter p ds)) (filter q ls) ≡ filter r (map (λ l. d ∷ l) ls) ++ filter r (begun ds ls)
    go true e rest =
        ap₂ (λ (a b : List (List ℕ)). a ++ b)
        (ap (map (λ l. d ∷ l)) (kept_same q (λ l. r (d ∷ l)) ls (λ l i. yes_here e l)) ∙ sym (kept_map r (λ l. d ∷ l) ls)) rest
    go false e rest = rest ∙ ap (λ (a : List (List ℕ)). a ++ filter r (begun ds ls)) (sym (none ls e))

pub choices_kept : (ks : List Kind) (sets : List ℕ) → length sets ≡ length ks → choices_of (parts ks sets) ≡ filter (within sets) (universe (length sets))
unfolding choices
choices_kept [] [] e = refl
choices_kept [] (s ∷ sets) e = absurd (omega arith)
choices_kept (k ∷ ks) [] e = absurd (omega arith)
choices_kept (k ∷ ks) (s ∷ sets) e =
    ap (begun (members s)) (choices_kept ks sets (omega arith))
    ∙ begun_kept (has s) (within sets) (within (s ∷ sets)) (λ d l. refl) counts (universe (length sets))

-- what is in the universe
pub record Of (n : ℕ) (load : List ℕ) : Type 0 where
  pub long : length load ≡ n
  pub small : (j : ℕ) → j < n → get_or load j 0 < 64

pub in_append : {X : Type 0} (x : X) (xs ys : List X) → In x (xs ++ ys) → In x xs ⊎ In x ys
in_append x [] ys i = inr i
in_append x (y ∷ xs) ys (inl e) = inl (inl e)
in_append x (y ∷ xs) ys (inr i) = elim (in_append x xs ys i) [ inl j ↦ inl (inr j) | inr j ↦ inr j ]

pub in_map : {X Y : Type 0} (f : X → Y) (y : Y) (xs : List X) → In y (map f xs) → (x : X) × In x xs × (y ≡ f x)
in_map f y [] i = absurd i
in_map f y (x ∷ xs) (inl e) = (x, inl refl, e)
in_map f y (x ∷ xs) (inr i) = let t = in_map f y xs i in (t.0, inr t.1, t.2)

pub in_begun : (l : List ℕ) (ds : List ℕ) (ls : List (List ℕ)) → In l (begun ds ls) → (d : ℕ) × (t : List ℕ) × In d ds × In t ls × (l ≡ d ∷ t)
in_begun l [] ls i = absurd i
in_begun l (d ∷ ds) ls i = go (in_append l (map (λ t. d ∷ t) ls) (begun ds ls) i) (in_begun l ds ls)
  where
    go : In l (map (λ t. d ∷ t) ls) ⊎ In l (begun ds ls)
        → (In l (begun ds ls) → (d' : ℕ) × (t : List ℕ) × In d' ds × In t ls × (l ≡ d' ∷ t))
        → (d' : ℕ) × (t : List ℕ) × In d' (d ∷ ds) × In t ls × (l ≡ d' ∷ t)
    go (inl j) rec = let m = in_map (λ t. d ∷ t) l ls j in (d, m.0, inl refl, m.1, m.2)
    go (inr j) rec = let m = rec j in (m.0, m.1, inr m.2, m.3, m.4)

in_counting : (a n d : ℕ) → In d (range_with_len a n) → d < a + n
in_counting a zero d i = absurd i
in_counting a (suc n) d (inl e) = omega arith
in_counting a (suc n) d (inr i) = omega (arith, in_counting (a + 1) n d i)

-- the counts are those below 64
pub in_counts : (d : ℕ) → In d counts → d < 64
unfolding counts
in_counts d i = in_counting 0 64 d i

pub in_universe : (n : ℕ) (load : List ℕ) → In load (universe n) → Of n load
in_universe zero load (inl e) = subst (λ (l : List ℕ). Of 0 l) (sym e) (record { long = refl; small = λ j h. absurd (omega arith) })
in_universe zero load (inr i) = absurd i
in_universe (suc n) load i =
    let m = in_begun load counts (universe n) i in
    subst (λ (l : List ℕ). Of (suc n) l) (sym m.4)
    (record {
      long = ap suc (in_universe n m.1 m.3).long;
      small = more m.0 m.1 (in_counts m.0 m.2) (in_universe n m.1 m.3);
    })
  where
    more : (d : ℕ) (t : List ℕ) → d < 64 → Of n t → (j : ℕ) → j < suc n → get_or (d ∷ t) j 0 < 64
    more d t h o zero k = h
    more d t h o (suc j) k = o.small j (le_of_suc-le-suc k)

-- within, place by place
pub within_at : (sets load : List ℕ) → within sets load ≡ true → (j : ℕ) → j < length sets → has (get_or sets j 0) (get_or load j 0) ≡ true
within_at [] load w j h = absurd (omega arith)
within_at (s ∷ sets) [] w j h = absurd (false≢true w)
within_at (s ∷ sets) (d ∷ load) w zero h = and_left (has s d) (within sets load) w
within_at (s ∷ sets) (d ∷ load) w (suc j) h = within_at sets load (and_right (has s d) (within sets load) w) j (le_of_suc-le-suc h)

pub at_within : (sets load : List ℕ) → length load ≡ length sets → ((j : ℕ) → j < length sets → has (get_or sets j 0) (get_or load j 0) ≡ true) → within sets load ≡ true
at_within [] load e h = refl
at_within (s ∷ sets) [] e h = absurd (omega arith)
at_within (s ∷ sets) (d ∷ load) e h =
    and_both (has s d) (within sets load) (h 0 (omega arith)) (at_within sets load (omega arith) (λ j k. h (suc j) (omega arith)))
