-- Membership, filters, and the tests some, every, is_empty over a list.
use Rattle.std.proofs.Common.{◌≡◌, ℕ, ◌≤◌, min, Bool, true, false, cond, not, ◌&&◌, ◌||◌, List, [], ◌∷◌, ◌++◌, map, length, take, filter, sym, refl, ap, ◌∙◌, subst, ap₂, inl, inr, arith, length-take}
use Rattle.std.specs.List.{AllByRecursion}
use Rattle.std.proofs.lemmas.Bool.{true≢false, false≢true}
use Rattle.model.proofs.Lists.{In}
use Rattle.meaning.specs.Problems.{every, is_empty, some}

-- two tests that hold together are equal
pub same_test : (a b : Bool) → (a ≡ true → b ≡ true) → (b ≡ true → a ≡ true) → a ≡ b
same_test true true f g = refl
same_test true false f g = sym (f refl)
same_test false true f g = g refl
same_test false false f g = refl

pub and_left : (a b : Bool) → (a && b) ≡ true → a ≡ true
and_left true b h = refl
and_left false b h = h

pub and_right : (a b : Bool) → (a && b) ≡ true → b ≡ true
and_right true b h = h
and_right false b h = absurd (false≢true h)

pub and_both : (a b : Bool) → a ≡ true → b ≡ true → (a && b) ≡ true
and_both true b h k = k
and_both false b h k = h

-- the first n of at least n are n
pub long_take : {X : Type 0} (n : ℕ) (xs : List X) → n ≤ length xs → length (take n xs) ≡ n
long_take n xs h = length-take n xs ∙ (let m : min n (length xs) ≡ n = omega arith in m)

module _ {X : Type 0} where
  pub kept_in : (p : X → Bool) (x : X) (xs : List X) → In x (filter p xs) → In x xs × (p x ≡ true)
  kept_in p x [] i = absurd i
  kept_in p x (y ∷ ys) i = go (p y) refl i (kept_in p x ys)
    where
      go : (b : Bool) → p y ≡ b → In x (cond b (y ∷ filter p ys) (filter p ys)) → (In x (filter p ys) → In x ys × (p x ≡ true)) → In x (y ∷ ys) × (p x ≡ true)
      go true e (inl j) rec = (inl j, subst (λ (z : X). p z ≡ true) (sym j) e)
      go true e (inr j) rec = (inr (rec j).0, (rec j).1)
      go false e j rec = (inr (rec j).0, (rec j).1)

  -- filters that agree on the list's members are equal
  pub kept_same : (p q : X → Bool) (xs : List X) → ((x : X) → In x xs → p x ≡ q x) → filter p xs ≡ filter q xs
  kept_same p q [] h = refl
  kept_same p q (y ∷ ys) h =
      ap₂ (λ (b : Bool) (l : List X). cond b (y ∷ l) l) (h y (inl refl)) (kept_same p q ys (λ x i. h x (inr i)))

  -- a filter of a filter
  pub kept_kept : (p q : X → Bool) (xs : List X) → filter p (filter q xs) ≡ filter (λ x. q x && p x) xs
  kept_kept p q [] = refl
  kept_kept p q (y ∷ ys) = go (q y) (kept_kept p q ys)
    where
      go : (b : Bool) → filter p (filter q ys) ≡ filter (λ x. q x && p x) ys
          → filter p (cond b (y ∷ filter q ys) (filter q ys)) ≡ cond (b && p y) (y ∷ filter (λ x. q x && p x) ys) (filter (λ x. q x && p x) ys)
      go true e = ap (λ (l : List X). cond (p y) (y ∷ l) l) e
      go false e = e

  pub kept_append : (p : X → Bool) (xs ys : List X) → filter p (xs ++ ys) ≡ filter p xs ++ filter p ys
  kept_append p [] ys = refl
  kept_append p (x ∷ xs) ys = go (p x) (kept_append p xs ys)
    where
      go : (b : Bool) → filter p (xs ++ ys) ≡ filter p xs ++ filter p ys
          → cond b (x ∷ filter p (xs ++ ys)) (filter p (xs ++ ys)) ≡ cond b (x ∷ filter p xs) (filter p xs) ++ filter p ys
      go true e = ap (λ (l : List X). x ∷ l) e
      go false e = e

  pub some_in : (p : X → Bool) (xs : List X) → some p xs ≡ true → (x : X) × In x xs × (p x ≡ true)
  some_in p [] h = absurd (false≢true h)
  some_in p (y ∷ ys) h = go (p y) refl h (some_in p ys)
    where
      go : (b : Bool) → p y ≡ b → (b || some p ys) ≡ true → (some p ys ≡ true → (x : X) × In x ys × (p x ≡ true)) → (x : X) × In x (y ∷ ys) × (p x ≡ true)
      go true e k rec = (y, inl refl, e)
      go false e k rec = ((rec k).0, inr (rec k).1, (rec k).2)

  pub in_some : (p : X → Bool) (x : X) (xs : List X) → In x xs → p x ≡ true → some p xs ≡ true
  in_some p x [] i h = absurd i
  in_some p x (y ∷ ys) (inl e) h = subst (λ (b : Bool). (b || some p ys) ≡ true) (sym (subst (λ (z : X). p z ≡ true) e h)) refl
  in_some p x (y ∷ ys) (inr i) h = go (p y) (in_some p x ys i h)
    where
      go : (b : Bool) → some p ys ≡ true → (b || some p ys) ≡ true
      go true e = refl
      go false e = e

  -- a list that is not empty has a member
  pub first_in : (xs : List X) → is_empty xs ≡ false → (x : X) × In x xs
  first_in [] h = absurd (true≢false h)
  first_in (x ∷ xs) h = (x, inl refl)

  -- nothing is left without those that pass exactly when every one passes
  pub none_left : (p : X → Bool) (xs : List X) → is_empty (filter (λ x. not (p x)) xs) ≡ every p xs
  none_left p [] = refl
  none_left p (y ∷ ys) = go (p y) (none_left p ys)
    where
      go : (b : Bool) → is_empty (filter (λ x. not (p x)) ys) ≡ every p ys
          → is_empty (cond (not b) (y ∷ filter (λ x. not (p x)) ys) (filter (λ x. not (p x)) ys)) ≡ (b && every p ys)
      go true e = e
      go false e = refl

  pub every_all : (p : X → Bool) (xs : List X) → every p xs ≡ true → AllByRecursion (λ x. p x ≡ true) xs
  every_all p [] h = tt
  every_all p (y ∷ ys) h = (and_left (p y) (every p ys) h, every_all p ys (and_right (p y) (every p ys) h))

  pub all_every : (p : X → Bool) (xs : List X) → AllByRecursion (λ x. p x ≡ true) xs → every p xs ≡ true
  all_every p [] h = refl
  all_every p (y ∷ ys) h = and_both (p y) (every p ys) h.0 (all_every p ys h.1)

-- a filter of a map
pub kept_map : {X Y : Type 0} (p : Y → Bool) (f : X → Y) (xs : List X) → filter p (map f xs) ≡ map f (filter (λ x. p (f x)) xs)
kept_map p f [] = refl
kept_map {X} {Y} p f (x ∷ xs) = go (p (f x)) (kept_map p f xs)
  where
    go : (b : Bool) → filter p (map f xs) ≡ map f (filter (λ x. p (f x)) xs)
        → cond b (f x ∷ filter p (map f xs)) (filter p (map f xs)) ≡ map f (cond b (x ∷ filter (λ x. p (f x)) xs) (filter (λ x. p (f x)) xs))
    go true e = ap (λ (l : List Y). f x ∷ l) e
    go false e = e
