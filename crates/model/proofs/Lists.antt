-- Membership and filters.
use Rattle.std.proofs.Common.{◌≡◌, ℕ, zero, suc, ◌+◌, ◌<◌, ◌≤◌, Bool, true, false, cond, ◌⊎◌, List, [], ◌∷◌, ◌++◌, map, length, get_or, filter, sym, ap, subst, inl, inr, arith}
use Rattle.std.specs.List.{range_with_len, flat_map, AllByRecursion}
use Rattle.std.proofs.lemmas.Bool.{cases_eq}

-- x is an element
abbrev pub In : {X : Type 0} → X → List X → Type 0
In x [] = ⊥
In x (y ∷ ys) = (x ≡ y) ⊎ In x ys

module _ {X : Type 0} where
  pub in_kept : (p : X → Bool) (x : X) (xs : List X) → In x xs → p x ≡ true → In x (filter p xs)
  in_kept p x [] i h = i
  in_kept p x (y ∷ ys) (inl e) h =
      let t : p y ≡ true = subst (λ (z : X). p z ≡ true) e h in
      subst (λ (b : Bool). In x (cond b (y ∷ filter p ys) (filter p ys))) (sym t) (inl e)
  in_kept p x (y ∷ ys) (inr i) h = go (p y) (in_kept p x ys i h)
    where
      go : (b : Bool) → In x (filter p ys) → In x (cond b (y ∷ filter p ys) (filter p ys))
      go true j = inr j
      go false j = j

pub in_left : {X : Type 0} (x : X) (xs ys : List X) → In x xs → In x (xs ++ ys)
in_left x [] ys h = absurd h
in_left x (y ∷ xs) ys (inl e) = inl e
in_left x (y ∷ xs) ys (inr h) = inr (in_left x xs ys h)

pub in_right : {X : Type 0} (x : X) (xs ys : List X) → In x ys → In x (xs ++ ys)
in_right x [] ys h = h
in_right x (y ∷ xs) ys h = inr (in_right x xs ys h)

pub in_map : {X Y : Type 0} (f : X → Y) (x : X) (xs : List X) → In x xs → In (f x) (map f xs)
in_map f x [] h = absurd h
in_map f x (y ∷ xs) (inl e) = inl (ap f e)
in_map f x (y ∷ xs) (inr h) = inr (in_map f x xs h)

pub in_joined : {X Y : Type 0} (g : X → List Y) (x : X) (y : Y) (xs : List X) → In x xs → In y (g x) → In y (flat_map g xs)
in_joined g x y [] h i = absurd h
in_joined {X} {Y} g x y (z ∷ xs) (inl e) i = let P : X → Type 0 = λ w. In y (g w) in in_left y (g z) (flat_map g xs) (subst P e i)
in_joined g x y (z ∷ xs) (inr h) i = in_right y (g z) (flat_map g xs) (in_joined g x y xs h i)

pub all_in : {X : Type 0} (P : X → Type 0) (xs : List X) → AllByRecursion P xs → (x : X) → In x xs → P x
all_in P [] a x i = absurd i
all_in {X} P (y ∷ ys) a x (inl e) = let Q : X → Type 0 = P in subst Q (sym e) a.0
all_in P (y ∷ ys) a x (inr i) = all_in P ys a.1 x i

pub all_both : {X : Type 0} (P Q : X → Type 0) (xs : List X) → AllByRecursion P xs → AllByRecursion Q xs → AllByRecursion (λ x. P x × Q x) xs
all_both P Q [] a b = tt
all_both P Q (x ∷ xs) a b = ((a.0, b.0), all_both P Q xs a.1 b.1)

-- an element has a place
pub place_of : {X : Type 0} (x : X) (xs : List X) (d : X) → In x xs → (k : ℕ) × (k < length xs) × (get_or xs k d ≡ x)
place_of x [] d i = absurd i
place_of x (y ∷ ys) d (inl e) = (0, omega arith, sym e)
place_of x (y ∷ ys) d (inr i) = let t = place_of x ys d i in let l = t.1 in (suc t.0, omega arith, t.2)

pub in_counting : (a n d : ℕ) → a ≤ d → d < a + n → In d (range_with_len a n)
in_counting a zero d l h = absurd (omega arith)
in_counting a (suc n) d l h =
    elim (cases_eq d a) [ inl e ↦ inl e | inr ne ↦ inr (in_counting (a + 1) n d (omega arith) (omega arith)) ]
