-- Branches: the noted rows of a plan, and what branch, keep and withdraw do.
use Rattle.std.proofs.Common.{◌≡◌, ℕ, zero, suc, ◌-◌, ◌<◌, ◌≤◌, true, false, not, eqb, leb, ◌⊎◌, List, [], length, get_or, take, sym, refl, ap, ◌∙◌, subst, ap₂, inl, inr, arith}
use mathlib.Core.Logic.{∥∥₁_map, ∥∥₁_elim}
use native.Mathlib.Bridge.{le_prop}
use Rattle.std.proofs.lemmas.Bool.{le-leb, cases_eq, eq-eqb, ne_eqb}
use Rattle.model.specs.Sets.{held_in_all}
use Rattle.meaning.specs.Problems.{Problem, short}
use Rattle.model.specs.Answers.{accepted, refused}
use Rattle.meaning.specs.Register.{branch, keep, withdraw}
use Rattle.meaning.specs.Plan.{State, does, Lies}
use Rattle.meaning.proofs.Held.{held_take_less}
use Rattle.meaning.specs.View.{rows_back, state_of, Inside}
use Rattle.meaning.proofs.PlanFields.{passed, refused_is}

pub rows_long : (n : ℕ) (rows : List (List ℕ)) (k : ℕ) → length (rows_back n rows k) ≡ k
rows_long n rows zero = refl
rows_long n rows (suc k) = ap suc (rows_long n rows k)

module _ (c : Problem) (n : ℕ) (standing : List ℕ) (rows : List (List ℕ)) where
  abbrev s : ℕ → State
  s k = state_of n standing rows k

  pub branch_refused : (k : ℕ) → 8 ≤ k → does c (s k) branch ≡ (s k, refused 12)
  branch_refused k h =
      refused_is (s k) (leb 8 (length (rows_back n rows k))) 12 _ (le-leb 8 (length (rows_back n rows k)) (subst (λ (m : ℕ). 8 ≤ m) (sym (rows_long n rows k)) h))

  other_number : (k number : ℕ) → (number ≡ k → ⊥) → not (eqb number (length (rows_back n rows k))) ≡ true
  other_number k number ne = ap not (ap (eqb number) (rows_long n rows k) ∙ ne_eqb number k ne)

  same_number : (k number : ℕ) → number ≡ k → not (eqb number (length (rows_back n rows k))) ≡ false
  same_number k number e = ap not (ap (eqb number) (rows_long n rows k) ∙ eq-eqb number k e)

  pub keep_refused : (k number : ℕ) → (number ≡ k → ⊥) → does c (s k) (keep number) ≡ (s k, refused 13)
  keep_refused k number ne = refused_is (s k) (not (eqb number (length (rows_back n rows k)))) 13 _ (other_number k number ne)

  -- no branch has number 0
  pub keep_other : (k number : ℕ) → (number ≡ k → number ≡ 0) → does c (s k) (keep number) ≡ (s k, refused 13)
  keep_other zero number h = closed (cases_eq number 0)
    where
      closed : (number ≡ 0) ⊎ (number ≡ 0 → ⊥) → does c (s 0) (keep number) ≡ (s 0, refused 13)
      closed (inl e) = passed (s 0) (not (eqb number 0)) 13 _ (ap not (eq-eqb number 0 e))
      closed (inr ne) = keep_refused 0 number ne
  keep_other (suc k) number h = keep_refused (suc k) number (λ e. let z : number ≡ 0 = h e in omega arith)

  pub keep_closes : (k number : ℕ) → 1 ≤ number → number ≡ k → does c (s k) (keep number) ≡ (s (k - 1), accepted (k - 1))
  keep_closes zero number real e = absurd (omega arith)
  keep_closes (suc k) number real e =
      let back : suc k - 1 ≡ k = omega arith in
      passed (s (suc k)) (not (eqb number (length (rows_back n rows (suc k))))) 13 _ (same_number (suc k) number e)
      ∙ ap (λ (m : ℕ). (s k, accepted m)) (rows_long n rows k) ∙ ap (λ (m : ℕ). (s m, accepted m)) (sym back)

  module _ (f b : ℕ) where
    pub withdraw_short : (k number : ℕ) → short c f b ≡ true → does c (s k) (withdraw number f b) ≡ (s k, refused 7)
    withdraw_short k number h = refused_is (s k) (short c f b) 7 _ h

    pub withdraw_refused : (k number : ℕ) → short c f b ≡ false → (number ≡ k → ⊥) → does c (s k) (withdraw number f b) ≡ (s k, refused 13)
    withdraw_refused k number h ne =
        passed (s k) (short c f b) 7 _ h ∙ refused_is (s k) (not (eqb number (length (rows_back n rows k)))) 13 _ (other_number k number ne)

    pub withdraw_other : (k number : ℕ) → short c f b ≡ false → (number ≡ k → number ≡ 0) → does c (s k) (withdraw number f b) ≡ (s k, refused 13)
    withdraw_other zero number h o = closed (cases_eq number 0)
      where
        closed : (number ≡ 0) ⊎ (number ≡ 0 → ⊥) → does c (s 0) (withdraw number f b) ≡ (s 0, refused 13)
        closed (inl e) = passed (s 0) (short c f b) 7 _ h ∙ passed (s 0) (not (eqb number 0)) 13 _ (ap not (eq-eqb number 0 e))
        closed (inr ne) = withdraw_refused 0 number h ne
    withdraw_other (suc k) number h o = withdraw_refused (suc k) number h (λ e. let z : number ≡ 0 = o e in omega arith)

    pub withdraw_closes : (k number before later : ℕ) (row : List ℕ) → short c f b ≡ false → 1 ≤ number → number ≡ k → row ≡ get_or rows (k - 1) []
        → before ≡ held_in_all (take n standing) → later ≡ held_in_all (take n row)
        → does c (s k) (withdraw number f b) ≡ (state_of n row rows (k - 1), accepted (later - before))
    withdraw_closes zero number before later row h real e r p q = absurd (omega arith)
    withdraw_closes (suc k) number before later row h real e r p q =
        let back : suc k - 1 ≡ k = omega arith in
        let is : get_or rows k [] ≡ row = ap (λ (m : ℕ). get_or rows m []) (sym back) ∙ sym r in
        passed (s (suc k)) (short c f b) 7 _ h
        ∙ passed (s (suc k)) (not (eqb number (length (rows_back n rows (suc k))))) 13 _ (same_number (suc k) number e)
        ∙ ap₂ (λ (xs : List ℕ) (m : ℕ). (state_of n xs rows m, accepted (held_in_all (take n xs) - held_in_all (take n standing)))) is (sym back)
        ∙ ap₂ (λ (x y : ℕ). (state_of n row rows (suc k - 1), accepted (x - y))) (sym q) (sym p)

-- fewer rows, and the sets are still inside
pub inside_fewer : (n : ℕ) (standing : List ℕ) (rows : List (List ℕ)) (k m : ℕ) → m ≤ k → ∥ Inside n standing rows k ∥₁ → ∥ Inside n standing rows m ∥₁
inside_fewer n standing rows k m h t = ∥∥₁_map t (λ in'. (λ i l. in'.0 i (omega arith), λ i j l o. in'.1 i j l (omega arith), in'.2, λ i j l. in'.3 i j (omega arith)))

pub inside_back : (n : ℕ) (standing row : List ℕ) (rows : List (List ℕ)) (k m : ℕ) → m < k → row ≡ get_or rows m [] → ∥ Inside n standing rows k ∥₁ → ∥ Inside n row rows m ∥₁
inside_back n standing row rows k m h e t =
    ∥∥₁_map t (λ in'. (λ i l. subst (λ (z : List ℕ). Lies n z (get_or rows i [])) (sym e) (in'.1 i m l h), λ i j l o. in'.1 i j l (omega arith), λ j o. subst (λ (z : List ℕ). 0 < get_or z j 0) (sym e) (in'.3 m j h o), λ i j l. in'.3 i j (omega arith)))

-- so a withdraw's difference does not go below 0
pub no_fewer : (n : ℕ) (standing row : List ℕ) (rows : List (List ℕ)) (k m : ℕ) → m < k → row ≡ get_or rows m []
    → ∥ Inside n standing rows k ∥₁ → held_in_all (take n standing) ≤ held_in_all (take n row)
no_fewer n standing row rows k m h e t =
    ∥∥₁_elim t (le_prop {n = held_in_all (take n standing)} {m = held_in_all (take n row)})
    (λ in'. held_take_less n standing row (subst (λ (z : List ℕ). Lies n standing z) (sym e) (in'.0 m h)))
