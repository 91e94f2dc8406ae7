-- The sets that branches noted, the latest last: what a branch adds, and what is left once the latest is closed.
use Rattle.std.proofs.Common.{◌≡◌, ℕ, zero, suc, ◌+◌, ◌-◌, ◌<◌, ◌≤◌, false, leb, ◌⊎◌, inl, inr, List, [], ◌∷◌, ◌++◌, length, get_or, take, Some, None, Option, sym, refl, ap, ◌∙◌, subst, ap₂, add-one, arith}
use mathlib.Core.Logic.{∥∥₁_map}
use Rattle.std.proofs.lemmas.Bool.{cases_eq, lt-leb}
use Rattle.std.proofs.lemmas.List.{get_or_append_left, length-append}
use Rattle.std.proofs.Math.Seq.{get_or-append_seam}
use Rattle.fixed_list.specs.FixedLists.{IsLast}
use Rattle.model.specs.declared.kind.Kind.{Kind}
use Rattle.model.specs.Answers.{accepted}
use Rattle.model.specs.Goals.{Target}
use Rattle.model.specs.Sets.{held_in_all}
use Rattle.meaning.specs.Life.{Called, Life}
use Rattle.meaning.specs.Plan.{Lies}
use Rattle.meaning.specs.Problems.{Problem, short}
use Rattle.meaning.specs.Register.{branch, keep, withdraw}
use Rattle.meaning.specs.View.{Inside, life_of, problem_of, rows_back, state_of}
use Rattle.meaning.proofs.PlanBranching as Branching
use Rattle.meaning.proofs.PlanFields.{called_live, passed}

one_longer : (rows : List (List ℕ)) (row : List ℕ) → length (rows ++ row ∷ []) ≡ length rows + 1
one_longer rows row = length-append rows (row ∷ [])

-- the rows before the last do not change by it
rows_before : (n : ℕ) (rows : List (List ℕ)) (row : List ℕ) (k : ℕ) → k ≤ length rows → rows_back n (rows ++ row ∷ []) k ≡ rows_back n rows k
rows_before n rows row zero h = refl
rows_before n rows row (suc k) h =
    ap₂ (λ (t : List ℕ) (ts : List (List ℕ)). take n t ∷ ts) (get_or_append_left rows (row ∷ []) [] k (omega arith)) (rows_before n rows row k (omega arith))

rows_more : (n : ℕ) (rows : List (List ℕ)) (row : List ℕ) → rows_back n (rows ++ row ∷ []) (length (rows ++ row ∷ [])) ≡ take n row ∷ rows_back n rows (length rows)
rows_more n rows row =
    ap (rows_back n (rows ++ row ∷ [])) (one_longer rows row ∙ add-one (length rows))
    ∙ ap₂ (λ (t : List ℕ) (ts : List (List ℕ)). take n t ∷ ts) (get_or-append_seam rows row [] []) (rows_before n rows row (length rows) (omega arith))

-- the row that is taken out of a list of rows
abbrev pub row_in : Option (List ℕ) → List ℕ
row_in None = []
row_in (Some row) = row

-- a list of rows that is not empty ends with it
pub taken : (before after : List (List ℕ)) (o : Option (List ℕ)) → IsLast before o after → 0 < length before → before ≡ after ++ row_in o ∷ []
taken before after None is some = let none : length before ≡ 0 = ap length is.0 in absurd (omega arith)
taken before after (Some row) is some = is

module _ (n : ℕ) (standing : List ℕ) (rows : List (List ℕ)) where
  inside_before : (row : List ℕ) → Inside n standing (rows ++ row ∷ []) (length rows) → Inside n standing rows (length rows)
  inside_before row in' = (
    λ k l. subst (λ (t : List ℕ). Lies n standing t) (same k l) (in'.0 k l),
    λ k m l o. subst (λ (t : List ℕ). Lies n t (get_or rows k [])) (same m o)
        (subst (λ (t : List ℕ). Lies n (get_or (rows ++ row ∷ []) m []) t) (same k (omega arith)) (in'.1 k m l o)),
    in'.2,
    λ k j l o. subst (λ (t : List ℕ). 0 < get_or t j 0) (same k l) (in'.3 k j l o),
  )
    where
      same : (k : ℕ) → k < length rows → get_or (rows ++ row ∷ []) k [] ≡ get_or rows k []
      same k l = get_or_append_left rows (row ∷ []) [] k l

  inside_push : Inside n standing rows (length rows) → Inside n standing (rows ++ standing ∷ []) (length rows + 1)
  inside_push in' = (λ i l. at i l (cases_eq i (length rows)), λ i m l o. between i m l o (cases_eq m (length rows)), in'.2, λ i j l o. some i j l o (cases_eq i (length rows)))
    where
      last : (i : ℕ) → i ≡ length rows → standing ≡ get_or (rows ++ standing ∷ []) i []
      last i e = sym (ap (λ (z : ℕ). get_or (rows ++ standing ∷ []) z []) e ∙ get_or-append_seam rows standing [] [])

      old : (i : ℕ) → i < length rows → get_or rows i [] ≡ get_or (rows ++ standing ∷ []) i []
      old i l = sym (get_or_append_left rows (standing ∷ []) [] i l)

      at : (i : ℕ) → i < length rows + 1 → (i ≡ length rows) ⊎ (i ≡ length rows → ⊥) → Lies n standing (get_or (rows ++ standing ∷ []) i [])
      at i l (inl e) = subst (λ (t : List ℕ). Lies n standing t) (last i e) (λ j d a b w. w)
      at i l (inr ne) = subst (λ (t : List ℕ). Lies n standing t) (old i (omega arith)) (in'.0 i (omega arith))

      some : (i j : ℕ) → i < length rows + 1 → j < n → (i ≡ length rows) ⊎ (i ≡ length rows → ⊥) → 0 < get_or (get_or (rows ++ standing ∷ []) i []) j 0
      some i j l o (inl e) = subst (λ (t : List ℕ). 0 < get_or t j 0) (last i e) (in'.2 j o)
      some i j l o (inr ne) = subst (λ (t : List ℕ). 0 < get_or t j 0) (old i (omega arith)) (in'.3 i j (omega arith) o)

      between : (i m : ℕ) → i < m → m < length rows + 1 → (m ≡ length rows) ⊎ (m ≡ length rows → ⊥) → Lies n (get_or (rows ++ standing ∷ []) m []) (get_or (rows ++ standing ∷ []) i [])
      between i m l o (inl e) =
          subst (λ (t : List ℕ). Lies n t (get_or (rows ++ standing ∷ []) i [])) (last m e)
          (subst (λ (t : List ℕ). Lies n standing t) (old i (omega arith)) (in'.0 i (omega arith)))
      between i m l o (inr ne) =
          subst (λ (t : List ℕ). Lies n t (get_or (rows ++ standing ∷ []) i [])) (old m (omega arith))
          (subst (λ (t : List ℕ). Lies n (get_or rows m []) t) (old i (omega arith)) (in'.1 i m l (omega arith)))

-- the sets that stand, and those noted
abbrev pub Within : ℕ → List ℕ → List (List ℕ) → Type 0
Within n standing rows = ∥ Inside n standing rows (length rows) ∥₁

-- they stay inside as they are noted once more
pub within_more : (n : ℕ) (standing : List ℕ) (rows : List (List ℕ)) → Within n standing rows → Within n standing (rows ++ standing ∷ [])
within_more n standing rows t =
    let In : ℕ → Type 0 = λ k. ∥ Inside n standing (rows ++ standing ∷ []) k ∥₁ in
    subst In (sym (one_longer rows standing)) (∥∥₁_map t (inside_push n standing rows))

-- as the latest branch is closed, whether or not what it noted stands again
pub within_fewer : (n : ℕ) (standing row : List ℕ) (rows : List (List ℕ)) → Within n standing (rows ++ row ∷ []) → Within n standing rows
within_fewer n standing row rows t =
    ∥∥₁_map (Branching.inside_fewer n standing (rows ++ row ∷ []) (length (rows ++ row ∷ [])) (length rows) (omega (arith, one_longer rows row)) t) (inside_before n standing rows row)

pub within_back : (n : ℕ) (standing row : List ℕ) (rows : List (List ℕ)) → Within n standing (rows ++ row ∷ []) → Within n row rows
within_back n standing row rows t =
    ∥∥₁_map
    (Branching.inside_back n standing row (rows ++ row ∷ []) (length (rows ++ row ∷ [])) (length rows) (omega (arith, one_longer rows row)) (sym (get_or-append_seam rows row [] [])) t)
    (inside_before n row rows row)

-- so a withdraw's difference does not go below 0
pub no_fewer : (n : ℕ) (standing row : List ℕ) (rows : List (List ℕ)) → Within n standing (rows ++ row ∷ []) → held_in_all (take n standing) ≤ held_in_all (take n row)
no_fewer n standing row rows t =
    Branching.no_fewer n standing row (rows ++ row ∷ []) (length (rows ++ row ∷ [])) (length rows) (omega (arith, one_longer rows row)) (sym (get_or-append_seam rows row [] [])) t

module _ (t : Target) (n : ℕ) (kinds : List Kind) (standing : List ℕ) (some : 0 < n) where
  abbrev c : Problem
  c = problem_of t n kinds

  -- the life of a plan with these sets noted
  abbrev L : List ℕ → List (List ℕ) → Life
  L sets rows = life_of t n kinds sets rows (length rows)

  -- a branch opens
  pub branch_goes : (rows : List (List ℕ)) → length rows < 8 → Called (L standing rows) branch (L standing (rows ++ standing ∷ [])) (accepted (length (rows ++ standing ∷ [])))
  branch_goes rows few =
      let more = rows ++ standing ∷ [] in
      called_live t kinds n standing standing rows more (length rows) (length more) branch (accepted (length more)) some
      (passed (state_of n standing rows (length rows)) (leb 8 (length (rows_back n rows (length rows)))) 12 _
      (lt-leb 8 (length (rows_back n rows (length rows))) (subst (λ (m : ℕ). m < 8) (sym (Branching.rows_long n rows (length rows))) few))
      ∙ ap₂ (λ (ts : List (List ℕ)) (m : ℕ). (record { standing = take n standing; noted = ts }, accepted m)) (sym (rows_more n rows standing))
      (ap (λ (m : ℕ). m + 1) (Branching.rows_long n rows (length rows)) ∙ sym (one_longer rows standing)))

  -- and the latest is closed
  pub keep_goes : (before after : List (List ℕ)) (row : List ℕ) (number : ℕ) → before ≡ after ++ row ∷ [] → 1 ≤ number → number ≡ length before
      → Called (L standing before) (keep number) (L standing after) (accepted (length after))
  keep_goes before after row number is real e =
      let long : length before ≡ length after + 1 = ap length is ∙ one_longer after row in
      let down : length before - 1 ≡ length after = omega arith in
      called_live t kinds n standing standing before after (length before) (length after) (keep number) (accepted (length after)) some
      (Branching.keep_closes c n standing before (length before) number real e
      ∙ ap₂ (λ (ts : List (List ℕ)) (m : ℕ). (record { standing = take n standing; noted = ts }, accepted m))
      (ap₂ (rows_back n) is down ∙ rows_before n after row (length after) (omega arith)) down)

  pub withdraw_goes : (before after : List (List ℕ)) (row : List ℕ) (number f b held later : ℕ) → before ≡ after ++ row ∷ [] → 1 ≤ number → number ≡ length before → short c f b ≡ false
      → held ≡ held_in_all (take n standing) → later ≡ held_in_all (take n row)
      → Called (L standing before) (withdraw number f b) (L row after) (accepted (later - held))
  withdraw_goes before after row number f b held later is real e room p q =
      let long : length before ≡ length after + 1 = ap length is ∙ one_longer after row in
      let down : length before - 1 ≡ length after = omega arith in
      let noted : row ≡ get_or before (length before - 1) [] = sym (ap₂ (λ (xs : List (List ℕ)) (k : ℕ). get_or xs k []) is down ∙ get_or-append_seam after row [] []) in
      called_live t kinds n standing row before after (length before) (length after) (withdraw number f b) (accepted (later - held)) some
      (Branching.withdraw_closes c n standing before f b (length before) number held later row room real e noted p q
      ∙ ap (λ (ts : List (List ℕ)). (record { standing = take n row; noted = ts }, accepted (later - held)))
      (ap₂ (rows_back n) is down ∙ rows_before n after row (length after) (omega arith)))
