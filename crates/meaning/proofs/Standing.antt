-- The fitting loads of the counts that some load uses are those loads again, where the loads are those that fit and are free of some rule-outs.
use Rattle.std.proofs.Common.{◌≡◌, ℕ, ◌-◌, ◌<◌, ◌≤◌, Bool, true, false, not, ◌&&◌, eqb, List, [], ◌∷◌, length, get_or, filter, sym, refl, ap, ◌∙◌, subst, ⊎_elim, zero-add, arith}
use lib.ListN.{length-map, get_or-eq_default}
use Rattle.std.proofs.lemmas.Bool.{eqb-true, eq-eqb, cases_lt}
use Rattle.std.proofs.lemmas.List.FromFn.{get_or-map-range_with_len, length-map-range_with_len}
use Rattle.meaning.specs.Problems.{Problem, allowed_sets, fitting, has_at, is_empty, kinds_of, support, uses}
use Rattle.meaning.specs.Register.{RuleOut, free, loads_of}
use Rattle.meaning.specs.Tallies.{choices_of}
use Rattle.model.specs.Loads.{total_of}
use Rattle.model.specs.Parts.{parts}
use Rattle.model.specs.Sets.{has, set_of}
use Rattle.meaning.proofs.Same.{total_same}
use Rattle.model.proofs.Lists.{In, in_kept}
use Rattle.meaning.proofs.Lists.{same_test, and_left, and_right, and_both, kept_in, kept_same, kept_kept, some_in, in_some, first_in}
use Rattle.meaning.proofs.Bits.{has_set_of}
use Rattle.meaning.proofs.Universe.{universe, within, choices_kept, Of, in_universe, within_at, at_within}

-- a support has a set for each kind, and count d is in it exactly when some load has it
pub support_long : (n : ℕ) (loads : List (List ℕ)) → length (support n loads) ≡ n
support_long n loads = length-map-range_with_len (λ j. set_of (uses loads j)) 0 n

pub support_at : (n : ℕ) (loads : List (List ℕ)) (j : ℕ) → j < n → get_or (support n loads) j 0 ≡ set_of (uses loads j)
support_at n loads j h = get_or-map-range_with_len (λ j. set_of (uses loads j)) 0 n j j 0 h (zero-add j)

pub support_has : (n : ℕ) (loads : List (List ℕ)) (j d : ℕ) → j < n → d < 64 → has (get_or (support n loads) j 0) d ≡ uses loads j d
support_has n loads j d h k = ap (λ (s : ℕ). has s d) (support_at n loads j h) ∙ has_set_of (uses loads j) d k

-- the total of a load does not depend on the sets: it is taken with the allowed ones
abbrev pub adm : Problem → List ℕ → Bool
adm c load = c.goal.admits (total_of (parts c.kinds (allowed_sets c)) load)

pub allowed_long : (c : Problem) → length (allowed_sets c) ≡ kinds_of c
allowed_long c = length-map c.kinds (λ k. k.allowed)

-- both lists of loads as filters of the universe
pub fitting_kept : (c : Problem) (sets : List ℕ) → length sets ≡ kinds_of c → fitting c sets ≡ filter (λ l. within sets l && adm c l) (universe (length sets))
fitting_kept c sets long =
    kept_same (λ l. c.goal.admits (total_of (parts c.kinds sets) l)) (adm c) (choices_of (parts c.kinds sets))
    (λ l i. ap c.goal.admits (total_same c.kinds sets (allowed_sets c) long (allowed_long c) l))
    ∙ ap (filter (adm c)) (choices_kept c.kinds sets long) ∙ kept_kept (adm c) (within sets) (universe (length sets))

abbrev passes : Problem → List RuleOut → List ℕ → Bool
passes c xs l = (within (allowed_sets c) l && adm c l) && free xs l

pub loads_kept : (c : Problem) (xs : List RuleOut) → loads_of c xs ≡ filter (passes c xs) (universe (kinds_of c))
loads_kept c xs =
    ap (filter (free xs)) (fitting_kept c (allowed_sets c) (allowed_long c))
    ∙ kept_kept (free xs) (λ l. within (allowed_sets c) l && adm c l) (universe (length (allowed_sets c)))
    ∙ ap (λ (n : ℕ). filter (passes c xs) (universe n)) (allowed_long c)

-- A load that, place by place, agrees with some load of a list is free of what all of the list are free of.
free_from : (xs : List RuleOut) (loads : List (List ℕ)) (l : List ℕ)
    → ((m : List ℕ) → In m loads → free xs m ≡ true)
    → ((j : ℕ) → (m : List ℕ) × In m loads × (get_or m j 0 ≡ get_or l j 0))
    → free xs l ≡ true
free_from [] loads l all ag = refl
free_from (x ∷ xs) loads l all ag =
    let t = ag (x.kind - 1) in
    and_both (not (has_at l (x.kind - 1) x.count)) (free xs l)
    (subst (λ (v : ℕ). not (eqb v x.count) ≡ true) t.2
    (and_left (not (has_at t.0 (x.kind - 1) x.count)) (free xs t.0) (all t.0 t.1)))
    (free_from xs loads l (λ m i. and_right (not (has_at m (x.kind - 1) x.count)) (free xs m) (all m i)) ag)

module _ (c : Problem) (xs : List RuleOut) where
  -- what a load of the register is
  pub load_is : (l : List ℕ) → In l (loads_of c xs) → In l (universe (kinds_of c)) × (passes c xs l ≡ true)
  load_is l i = kept_in (passes c xs) l (universe (kinds_of c)) (subst (λ (ls : List (List ℕ)). In l ls) (loads_kept c xs) i)

  pub is_load : (l : List ℕ) → In l (universe (kinds_of c)) → passes c xs l ≡ true → In l (loads_of c xs)
  is_load l i h = subst (λ (ls : List (List ℕ)). In l ls) (sym (loads_kept c xs)) (in_kept (passes c xs) l (universe (kinds_of c)) i h)

  -- the sets of the counts that the register's loads use
  abbrev sup : List ℕ
  sup = support (kinds_of c) (loads_of c xs)

  module _ (live : is_empty (loads_of c xs) ≡ false) where
    agrees : (l : List ℕ) → Of (kinds_of c) l → within sup l ≡ true → (j : ℕ) → (m : List ℕ) × In m (loads_of c xs) × (get_or m j 0 ≡ get_or l j 0)
    agrees l o w j = ⊎_elim near far (cases_lt j (kinds_of c))
      where
        near : j < kinds_of c → (m : List ℕ) × In m (loads_of c xs) × (get_or m j 0 ≡ get_or l j 0)
        near h =
            let long : j < length sup = subst (λ (n : ℕ). j < n) (sym (support_long (kinds_of c) (loads_of c xs))) h in
            let u : uses (loads_of c xs) j (get_or l j 0) ≡ true =
            sym (support_has (kinds_of c) (loads_of c xs) j (get_or l j 0) h (o.small j h)) ∙ within_at sup l w j long in
            let t = some_in (λ m. has_at m j (get_or l j 0)) (loads_of c xs) u in
            (t.0, t.1, eqb-true (get_or t.0 j 0) (get_or l j 0) t.2)

        far : kinds_of c ≤ j → (m : List ℕ) × In m (loads_of c xs) × (get_or m j 0 ≡ get_or l j 0)
        far h =
            let t = first_in (loads_of c xs) live in
            let e : length t.0 ≡ kinds_of c = (in_universe (kinds_of c) t.0 (load_is t.0 t.1).0).long in (
              t.0,
              t.1,
              get_or-eq_default t.0 0 (omega arith) ∙ sym (get_or-eq_default l 0 (omega (arith, o.long))),
            )

    -- a fitting load of counts that are used is one of the loads
    inward : (l : List ℕ) → Of (kinds_of c) l → (within sup l && adm c l) ≡ true → passes c xs l ≡ true
    inward l o h =
        let w : within sup l ≡ true = and_left (within sup l) (adm c l) h in
        let a : adm c l ≡ true = and_right (within sup l) (adm c l) h in
        let ag : (j : ℕ) → (m : List ℕ) × In m (loads_of c xs) × (get_or m j 0 ≡ get_or l j 0) = agrees l o w in
        let s : within (allowed_sets c) l ≡ true =
        at_within (allowed_sets c) l (o.long ∙ sym (allowed_long c))
        (λ j k. let t = ag j in
        subst (λ (v : ℕ). has (get_or (allowed_sets c) j 0) v ≡ true) t.2
        (within_at (allowed_sets c) t.0
        (and_left (within (allowed_sets c) t.0) (adm c t.0) (and_left (within (allowed_sets c) t.0 && adm c t.0) (free xs t.0) (load_is t.0 t.1).1)) j k)) in
        let f : free xs l ≡ true =
        free_from xs (loads_of c xs) l
        (λ m i. and_right (within (allowed_sets c) m && adm c m) (free xs m) (load_is m i).1) ag in
        and_both (within (allowed_sets c) l && adm c l) (free xs l) (and_both (within (allowed_sets c) l) (adm c l) s a) f

  -- one of the loads has only counts that are used
  outward : (l : List ℕ) → In l (universe (kinds_of c)) → passes c xs l ≡ true → (within sup l && adm c l) ≡ true
  outward l i h =
      let o : Of (kinds_of c) l = in_universe (kinds_of c) l i in
      let n : length sup ≡ kinds_of c = support_long (kinds_of c) (loads_of c xs) in
      and_both (within sup l) (adm c l)
      (at_within sup l (o.long ∙ sym n)
      (λ j k. let k' : j < kinds_of c = subst (λ (m : ℕ). j < m) n k in
      support_has (kinds_of c) (loads_of c xs) j (get_or l j 0) k' (o.small j k')
      ∙ in_some (λ m. has_at m j (get_or l j 0)) l (loads_of c xs) (is_load l i h) (eq-eqb (get_or l j 0) (get_or l j 0) refl)))
      (and_right (within (allowed_sets c) l) (adm c l) (and_left (within (allowed_sets c) l && adm c l) (free xs l) h))

  pub key : is_empty (loads_of c xs) ≡ false → fitting c (support (kinds_of c) (loads_of c xs)) ≡ loads_of c xs
  key live =
      fitting_kept c sup (support_long (kinds_of c) (loads_of c xs))
      ∙ ap (λ (n : ℕ). filter (λ l. within sup l && adm c l) (universe n)) (support_long (kinds_of c) (loads_of c xs))
      ∙ kept_same (λ l. within sup l && adm c l) (passes c xs) (universe (kinds_of c))
      (λ l i. same_test (within sup l && adm c l) (passes c xs l) (inward live l (in_universe (kinds_of c) l i)) (outward l i))
      ∙ sym (loads_kept c xs)
