-- What the laws of a measure give of joins over lists.
use Rattle.std.proofs.Common.{◌≡◌, Bool, true, false, cond, List, [], ◌∷◌, ◌++◌, map, fold, filter, sym, refl, ap, ◌∙◌}
use Rattle.std.specs.List.{flat_map, AllByRecursion}
use Rattle.model.proofs.Listed.{all_joined}
use Rattle.meaning.specs.Measures.{Laws, Means}
use Rattle.meaning.specs.Tallies.{join_of}

-- the join of f over a list, from the right
abbrev pub S : {V X : Type 0} → Means V → (X → V) → List X → V
S m f [] = m.zero
S m f (x ∷ xs) = m.join (f x) (S m f xs)

pub S_same : {V X : Type 0} (m : Means V) (P : X → Type 0) (f g : X → V) → ((x : X) → P x → f x ≡ g x) → (xs : List X) → AllByRecursion P xs → S m f xs ≡ S m g xs
S_same m P f g e [] a = refl
S_same m P f g e (x ∷ xs) a = ap (λ v. m.join v (S m f xs)) (e x a.0) ∙ ap (m.join (g x)) (S_same m P f g e xs a.1)

pub S_map : {V X Y : Type 0} (m : Means V) (f : Y → V) (g : X → Y) (xs : List X) → S m f (map g xs) ≡ S m (λ x. f (g x)) xs
S_map m f g [] = refl
S_map m f g (x ∷ xs) = ap (m.join (f (g x))) (S_map m f g xs)

module _ {V : Type 0} (m : Means V) (laws : Laws m) where
  pub zero_join : (a : V) → m.has a → m.join m.zero a ≡ a
  zero_join a h = laws.join_comm m.zero a laws.has_zero h ∙ laws.join_zero a h

  pub has_cond : (t : Bool) (v : V) → m.has v → m.has (cond t v m.zero)
  has_cond true v h = h
  has_cond false v h = laws.has_zero

  pub has_S : {X : Type 0} (P : X → Type 0) (f : X → V) → ((x : X) → P x → m.has (f x)) → (xs : List X) → AllByRecursion P xs → m.has (S m f xs)
  has_S P f h [] a = laws.has_zero
  has_S P f h (x ∷ xs) a = laws.has_join (f x) (S m f xs) (h x a.0) (has_S P f h xs a.1)

  S_zero : {X : Type 0} (xs : List X) → S m (λ x. m.zero) xs ≡ m.zero
  S_zero [] = refl
  S_zero (x ∷ xs) = ap (m.join m.zero) (S_zero xs) ∙ laws.join_zero m.zero laws.has_zero

  S_append : {X : Type 0} (P : X → Type 0) (f : X → V) → ((x : X) → P x → m.has (f x)) → (xs ys : List X) → AllByRecursion P xs → AllByRecursion P ys → S m f (xs ++ ys) ≡ m.join (S m f xs) (S m f ys)
  S_append P f h [] ys a b = sym (zero_join (S m f ys) (has_S P f h ys b))
  S_append P f h (x ∷ xs) ys a b =
      ap (m.join (f x)) (S_append P f h xs ys a.1 b)
      ∙ sym (laws.join_assoc (f x) (S m f xs) (S m f ys) (h x a.0) (has_S P f h xs a.1) (has_S P f h ys b))

  -- a join over a list of lists
  pub S_joined : {X Y : Type 0} (P : X → Type 0) (Q : Y → Type 0) (f : Y → V) → ((y : Y) → Q y → m.has (f y)) → (g : X → List Y) → ((x : X) → P x → AllByRecursion Q (g x)) → (xs : List X) → AllByRecursion P xs → S m f (flat_map g xs) ≡ S m (λ x. S m f (g x)) xs
  S_joined P Q f h g q [] a = refl
  S_joined P Q f h g q (x ∷ xs) a =
      S_append Q f h (g x) (flat_map g xs) (q x a.0) (all_joined P Q g q xs a.1)
      ∙ ap (m.join (S m f (g x))) (S_joined P Q f h g q xs a.1)

  -- (f + g) + (f' + g'), regrouped
  four : (a b c d : V) → m.has a → m.has b → m.has c → m.has d → m.join (m.join a b) (m.join c d) ≡ m.join (m.join a c) (m.join b d)
  four a b c d ha hb hc hd =
      laws.join_assoc a b (m.join c d) ha hb (laws.has_join c d hc hd)
      ∙ ap (m.join a) (sym (laws.join_assoc b c d hb hc hd) ∙ ap (λ v. m.join v d) (laws.join_comm b c hb hc) ∙ laws.join_assoc c b d hc hb hd)
      ∙ sym (laws.join_assoc a c (m.join b d) ha hc (laws.has_join b d hb hd))

  S_join : {X : Type 0} (P : X → Type 0) (f g : X → V) → ((x : X) → P x → m.has (f x)) → ((x : X) → P x → m.has (g x)) → (xs : List X) → AllByRecursion P xs → S m (λ x. m.join (f x) (g x)) xs ≡ m.join (S m f xs) (S m g xs)
  S_join P f g hf hg [] a = sym (laws.join_zero m.zero laws.has_zero)
  S_join P f g hf hg (x ∷ xs) a =
      ap (m.join (m.join (f x) (g x))) (S_join P f g hf hg xs a.1)
      ∙ four (f x) (g x) (S m f xs) (S m g xs) (hf x a.0) (hg x a.0) (has_S P f hf xs a.1) (has_S P g hg xs a.1)

  -- a double join, the other way round
  pub S_swap : {X Y : Type 0} (P : X → Type 0) (Q : Y → Type 0) (f : X → Y → V) → ((x : X) (y : Y) → P x → Q y → m.has (f x y)) → (xs : List X) (ys : List Y) → AllByRecursion P xs → AllByRecursion Q ys → S m (λ x. S m (f x) ys) xs ≡ S m (λ y. S m (λ x. f x y) xs) ys
  S_swap P Q f h [] ys a b = sym (S_zero ys)
  S_swap P Q f h (x ∷ xs) ys a b =
      ap (m.join (S m (f x) ys)) (S_swap P Q f h xs ys a.1 b)
      ∙ sym (S_join Q (f x) (λ y. S m (λ z. f z y) xs) (λ y q. h x y a.0 q) (λ y q. has_S P (λ z. f z y) (λ z p. h z y p q) xs a.1) ys b)

  pub S_chain : {X : Type 0} (P : X → Type 0) (f : X → V) → ((x : X) → P x → m.has (f x)) → (v : V) → m.has v → (xs : List X) → AllByRecursion P xs → m.chain (S m f xs) v ≡ S m (λ x. m.chain (f x) v) xs
  S_chain P f h v hv [] a = laws.zero_chain v hv
  S_chain P f h v hv (x ∷ xs) a =
      laws.join_chain (f x) (S m f xs) v (h x a.0) (has_S P f h xs a.1) hv
      ∙ ap (m.join (m.chain (f x) v)) (S_chain P f h v hv xs a.1)

  pub chain_S : {X : Type 0} (P : X → Type 0) (f : X → V) → ((x : X) → P x → m.has (f x)) → (v : V) → m.has v → (xs : List X) → AllByRecursion P xs → m.chain v (S m f xs) ≡ S m (λ x. m.chain v (f x)) xs
  chain_S P f h v hv [] a = laws.chain_zero v hv
  chain_S P f h v hv (x ∷ xs) a =
      laws.chain_join v (f x) (S m f xs) hv (h x a.0) (has_S P f h xs a.1)
      ∙ ap (m.join (m.chain v (f x))) (chain_S P f h v hv xs a.1)

  -- a test before the join is a test at each element
  pub S_cond : {X : Type 0} (t : Bool) (f : X → V) (xs : List X) → cond t (S m f xs) m.zero ≡ S m (λ x. cond t (f x) m.zero) xs
  S_cond true f xs = refl
  S_cond false f xs = sym (S_zero xs)

  pub S_kept : {X : Type 0} (P : X → Type 0) (t : X → Bool) (f : X → V) → ((x : X) → P x → m.has (f x)) → (xs : List X) → AllByRecursion P xs → S m f (filter t xs) ≡ S m (λ x. cond (t x) (f x) m.zero) xs
  S_kept P t f h [] a = refl
  S_kept P t f h (x ∷ xs) a =
      let rest = S m (λ x. cond (t x) (f x) m.zero) xs in
      let hr : m.has rest = has_S P (λ x. cond (t x) (f x) m.zero) (λ y p. has_cond (t y) (f y) (h y p)) xs a.1 in
      elim (t x) as (λ w. S m f (cond w (x ∷ filter t xs) (filter t xs)) ≡ m.join (cond w (f x) m.zero) rest) [
        | true ↦ ap (m.join (f x)) (S_kept P t f h xs a.1)
        | false ↦ S_kept P t f h xs a.1 ∙ sym (zero_join rest hr)
      ]

  S_folded : {X : Type 0} (P : X → Type 0) (f : X → V) → ((x : X) → P x → m.has (f x)) → (xs : List X) → AllByRecursion P xs → (v : V) → m.has v → fold m.join v (map f xs) ≡ m.join v (S m f xs)
  S_folded P f h [] a v hv = sym (laws.join_zero v hv)
  S_folded P f h (x ∷ xs) a v hv =
      S_folded P f h xs a.1 (m.join v (f x)) (laws.has_join v (f x) hv (h x a.0))
      ∙ laws.join_assoc v (f x) (S m f xs) hv (h x a.0) (has_S P f h xs a.1)

  pub join_of_S : {X : Type 0} (P : X → Type 0) (f : X → V) → ((x : X) → P x → m.has (f x)) → (xs : List X) → AllByRecursion P xs → join_of m (map f xs) ≡ S m f xs
  join_of_S P f h xs a = S_folded P f h xs a m.zero laws.has_zero ∙ zero_join (S m f xs) (has_S P f h xs a)
