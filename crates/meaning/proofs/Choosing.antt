-- The recurrence gives the tallies of all choices.
use Rattle.std.proofs.Common.{◌≡◌, ℕ, zero, suc, ◌+◌, ◌-◌, ◌*◌, ◌<◌, ◌≤◌, Bool, true, false, cond, T, eqb, ltb, leb, ◌⊎◌, List, [], ◌∷◌, map, length, get_or, take, drop, fold, filter, sym, refl, ap, ◌∙◌, subst, inl, inr, arith}
use Rattle.std.proofs.lemmas.List.{drop_all}
use Rattle.std.specs.List.{range_with_len, AllByRecursion}
use Rattle.std.proofs.lemmas.Bool.{cases_lt, cases_eq, cond-true, cond-false, le-leb, lt-leb, eq-eqb, ne_eqb, cases_Bool, lt-ltb}
use Rattle.std.proofs.ByRecursion.{all_kept_by, All-map, All-weaker, All-take, All-drop}
use Rattle.meaning.specs.Cells.{Holds, over, tallies, tallies_back}
use Rattle.meaning.specs.Marks.{Cheap}
use Rattle.meaning.specs.Measures.{Laws, Means}
use Rattle.meaning.specs.Recurrence.{Asked, FilledFrom, FilledTo, back_of, cell_of, counts_past, counts_to, first_row, last_row, row_after, row_before}
use Rattle.meaning.specs.Tallies.{chain_of, choices_of, join_of, tally_at, tally_by, tally_of, tally_past}
use Rattle.model.specs.Loads.{choices, total_of}
use Rattle.model.specs.declared.kind.Kind.{Kind}
use Rattle.model.specs.Parts.{Part, parts}
use Rattle.model.specs.Sets.{members}
use Rattle.meaning.proofs.Grid.{grid_over, holds_at}
use Rattle.meaning.proofs.Rows.{cases_le}
use Rattle.model.proofs.Listed.{all_joined, counting_below, members_below}
use Rattle.meaning.proofs.Joins.{S, zero_join, S_same, S_map, has_cond, has_S, S_joined, S_swap, S_chain, chain_S, S_cond, S_kept, join_of_S}

next : (a t : ℕ) → a ≤ t → ((a ≡ t) → ⊥) → a + 1 ≤ t
next a t h ne = elim (cases_le a t h) [ inl e ↦ absurd (ne e) | inr l ↦ omega arith ]

module _ {V : Type 0} (m : Means V) (laws : Laws m) where
  -- the chains of worths are values of the measure, with one count d more in front too
  has_longer : (p : Part) → Cheap p → (ps : List Part) (cs : List (List ℕ)) → AllByRecursion (λ c. m.has (chain_of m ps c)) cs → (d : ℕ) → d < 64 → AllByRecursion (λ c. m.has (chain_of m (p ∷ ps) c)) (map (λ c. d ∷ c) cs)
  has_longer p cheap ps cs a d low =
      All-map (λ c. m.has (chain_of m (p ∷ ps) c)) (λ c. d ∷ c) cs
      (All-weaker (λ c. m.has (chain_of m ps c)) (λ c. m.has (chain_of m (p ∷ ps) (d ∷ c)))
      (λ c h. laws.has_chain (m.worth p.price d) (chain_of m ps c) (laws.has_worth p.price d cheap low) h) cs a)

  pub has_chains : (ps : List Part) → AllByRecursion Cheap ps → AllByRecursion (λ c. m.has (chain_of m ps c)) (choices_of ps)
  unfolding choices
  has_chains [] a = (laws.has_one, tt)
  has_chains (p ∷ ps) a =
      all_joined (λ d. d < 64) (λ c. m.has (chain_of m (p ∷ ps) c)) (λ d. map (λ c. d ∷ c) (choices_of ps))
      (has_longer p a.0 ps (choices_of ps) (has_chains ps a.1))
      (members p.standing) (members_below p.standing)

  -- one part of a row, and the row as a join of such parts
  abbrev link : (ℕ → V) → Part → ℕ → ℕ → V
  link f p b d = m.chain (f (b - p.size * d)) (m.worth p.price d)

  has_link : (f : ℕ → V) → ((b : ℕ) → m.has (f b)) → (p : Part) → Cheap p → (b d : ℕ) → d < 64 → m.has (link f p b d)
  has_link f hf p cheap b d low = laws.has_chain (f (b - p.size * d)) (m.worth p.price d) (hf (b - p.size * d)) (laws.has_worth p.price d cheap low)

  row_S : (f : ℕ → V) → ((b : ℕ) → m.has (f b)) → (p : Part) → Cheap p → (b : ℕ) → row_after m f p b ≡ S m (λ d. cond (leb (p.size * d) b) (link f p b d) m.zero) (members p.standing)
  unfolding row_after
  row_S f hf p cheap b =
      join_of_S m laws (λ d. d < 64) (link f p b) (has_link f hf p cheap b) (counts_to p b) (all_kept_by (λ d. leb (p.size * d) b) (λ d. d < 64) (members p.standing) (members_below p.standing))
      ∙ S_kept m laws (λ d. d < 64) (λ d. leb (p.size * d) b) (link f p b) (has_link f hf p cheap b) (members p.standing) (members_below p.standing)

  pub has_row : (f : ℕ → V) → ((b : ℕ) → m.has (f b)) → (p : Part) → Cheap p → (b : ℕ) → m.has (row_after m f p b)
  has_row f hf p cheap b =
      rw (row_S f hf p cheap b) (has_S m laws (λ d. d < 64) (λ d. cond (leb (p.size * d) b) (link f p b d) m.zero) (λ d low. has_cond m laws (leb (p.size * d) b) (link f p b d) (has_link f hf p cheap b d low)) (members p.standing) (members_below p.standing))

  -- what a choice c of total t adds to a row that began at f
  abbrev pub from : (ℕ → V) → ℕ → ℕ → V → V
  from f b t v = cond (leb t b) (m.chain (f (b - t)) v) m.zero

  has_from : (f : ℕ → V) → ((b : ℕ) → m.has (f b)) → (b t : ℕ) (v : V) → m.has v → m.has (from f b t v)
  has_from f hf b t v hv = has_cond m laws (leb t b) (m.chain (f (b - t)) v) (laws.has_chain (f (b - t)) v (hf (b - t)) hv)

  -- a count and then a choice are a longer choice
  longer : (f : ℕ → V) → ((b : ℕ) → m.has (f b)) → (b s t : ℕ) (w v : V) → m.has w → m.has v → cond (leb t b) (m.chain (cond (leb s (b - t)) (m.chain (f (b - t - s)) w) m.zero) v) m.zero ≡ from f b (s + t) (m.chain w v)
  longer f hf b s t w v hw hv =
      elim (cases_lt b (s + t)) [
        | inl over ↦ elim (cases_lt b t) [
          | inl past ↦ cond-false (leb t b) _ _ (lt-leb t b past) ∙ sym (cond-false (leb (s + t) b) _ _ (lt-leb (s + t) b over))
          | inr le ↦
              let no_room : leb s (b - t) ≡ false = lt-leb s (b - t) (omega arith) in
              cond-true (leb t b) _ _ (le-leb t b le) ∙ ap (λ x. m.chain x v) (cond-false (leb s (b - t)) _ _ no_room) ∙ laws.zero_chain v hv
              ∙ sym (cond-false (leb (s + t) b) _ _ (lt-leb (s + t) b over))
        ]
        | inr le ↦
            let room : leb s (b - t) ≡ true = le-leb s (b - t) (omega arith) in
            let place : b - t - s ≡ b - (s + t) = omega arith in
            cond-true (leb t b) _ _ (le-leb t b (omega arith)) ∙ ap (λ x. m.chain x v) (cond-true (leb s (b - t)) _ _ room) ∙ laws.chain_assoc (f (b - t - s)) w v (hf (b - t - s)) hw hv
            ∙ ap (λ j. m.chain (f j) (m.chain w v)) place
            ∙ sym (cond-true (leb (s + t) b) _ _ (le-leb (s + t) b le))
      ]

  -- a row before a choice of total t is, count by count, the longer choices
  spread : (f : ℕ → V) → ((b : ℕ) → m.has (f b)) → (p : Part) → Cheap p → (b t : ℕ) (v : V) → m.has v → from (row_after m f p) b t v ≡ S m (λ d. from f b (p.size * d + t) (m.chain (m.worth p.price d) v)) (members p.standing)
  spread f hf p cheap b t v hv =
      let ds = members p.standing in
      let term = λ (d : ℕ). cond (leb (p.size * d) (b - t)) (link f p (b - t) d) m.zero in
      let has-term : (d : ℕ) → d < 64 → m.has (term d) = λ d low. has_cond m laws (leb (p.size * d) (b - t)) (link f p (b - t) d) (has_link f hf p cheap (b - t) d low) in
      ap (λ x. cond (leb t b) (m.chain x v) m.zero) (row_S f hf p cheap (b - t))
      ∙ ap (λ x. cond (leb t b) x m.zero) (S_chain m laws (λ d. d < 64) term has-term v hv ds (members_below p.standing))
      ∙ S_cond m laws (leb t b) (λ d. m.chain (term d) v) ds
      ∙ S_same m (λ d. d < 64) (λ d. cond (leb t b) (m.chain (term d) v) m.zero) (λ d. from f b (p.size * d + t) (m.chain (m.worth p.price d) v))
      (λ d low. longer f hf b (p.size * d) t (m.worth p.price d) v (laws.has_worth p.price d cheap low) hv) ds (members_below p.standing)

  -- the rows from any row f on
  pub rows_from : (ps : List Part) → AllByRecursion Cheap ps → (f : ℕ → V) → ((b : ℕ) → m.has (f b)) → (b : ℕ) → fold (row_after m) f ps b ≡ S m (λ c. from f b (total_of ps c) (chain_of m ps c)) (choices_of ps)
  unfolding choices
  rows_from [] a f hf b =
      sym (laws.join_zero (from f b 0 m.one) (has_from f hf b 0 m.one laws.has_one)
      ∙ cond-true (leb 0 b) _ _ (le-leb 0 b (omega arith))
      ∙ laws.chain_one (f (b - 0)) (hf (b - 0))
      ∙ ap f (omega arith))
  rows_from (p ∷ ps) a f hf b =
      let cheap = a.0 in
      let cs = choices_of ps in
      let ds = members p.standing in
      let chains : AllByRecursion (λ c. m.has (chain_of m ps c)) cs = has_chains ps a.1 in
      rows_from ps a.1 (row_after m f p) (has_row f hf p cheap) b
      ∙ S_same m (λ c. m.has (chain_of m ps c)) (λ c. from (row_after m f p) b (total_of ps c) (chain_of m ps c)) (λ c. S m (λ d. from f b (total_of (p ∷ ps) (d ∷ c)) (chain_of m (p ∷ ps) (d ∷ c))) ds) (λ c h. spread f hf p cheap b (total_of ps c) (chain_of m ps c) h) cs chains
      ∙ S_swap m laws (λ c. m.has (chain_of m ps c)) (λ d. d < 64) (λ c d. from f b (total_of (p ∷ ps) (d ∷ c)) (chain_of m (p ∷ ps) (d ∷ c)))
      (λ c d h low. has_from f hf b (p.size * d + total_of ps c) (m.chain (m.worth p.price d) (chain_of m ps c)) (laws.has_chain (m.worth p.price d) (chain_of m ps c) (laws.has_worth p.price d cheap low) h))
      cs ds chains (members_below p.standing)
      ∙ sym (S_joined m laws (λ d. d < 64) (λ c. m.has (chain_of m (p ∷ ps) c)) (λ c. from f b (total_of (p ∷ ps) c) (chain_of m (p ∷ ps) c))
      (λ c h. has_from f hf b (total_of (p ∷ ps) c) (chain_of m (p ∷ ps) c) h)
      (λ d. map (λ c. d ∷ c) cs) (has_longer p cheap ps cs chains) ds (members_below p.standing)
      ∙ S_same m (λ d. d < 64) (λ d. S m (λ c. from f b (total_of (p ∷ ps) c) (chain_of m (p ∷ ps) c)) (map (λ c. d ∷ c) cs)) (λ d. S m (λ c. from f b (total_of (p ∷ ps) (d ∷ c)) (chain_of m (p ∷ ps) (d ∷ c))) cs)
      (λ d low. S_map m (λ c. from f b (total_of (p ∷ ps) c) (chain_of m (p ∷ ps) c)) (λ c. d ∷ c) cs) ds (members_below p.standing))

  has_first : (b : ℕ) → m.has (first_row m b)
  unfolding first_row
  has_first b = elim (eqb b 0) as (λ t. m.has (cond t m.one m.zero)) [ true ↦ laws.has_one | false ↦ laws.has_zero ]

  -- from row 0 a choice adds its chain where its total is b, and else nothing
  first : (b t : ℕ) (v : V) → m.has v → from (first_row m) b t v ≡ cond (eqb t b) v m.zero
  unfolding first_row
  first b t v hv =
      elim (cases_lt b t) [
        | inl past ↦ cond-false (leb t b) _ _ (lt-leb t b past) ∙ sym (cond-false (eqb t b) _ _ (ne_eqb t b (λ e. omega arith)))
        | inr le ↦ cond-true (leb t b) _ _ (le-leb t b le) ∙ elim (cases_eq t b) [
          | inl e ↦
              ap (λ x. m.chain x v) (cond-true (eqb (b - t) 0) _ _ (eq-eqb (b - t) 0 (omega arith))) ∙ laws.one_chain v hv ∙ sym (cond-true (eqb t b) _ _ (eq-eqb t b e))
          | inr ne ↦
              let more : (b - t ≡ 0) → ⊥ = λ z. ne (omega arith) in
              ap (λ x. m.chain x v) (cond-false (eqb (b - t) 0) _ _ (ne_eqb (b - t) 0 more)) ∙ laws.zero_chain v hv ∙ sym (cond-false (eqb t b) _ _ (ne_eqb t b ne))
        ]
      ]

  -- THE THEOREM: the recurrence gives the join over all choices totalling b of the chains of their worths
  pub cell_is_tally : (ps : List Part) → AllByRecursion Cheap ps → (b : ℕ) → cell_of m ps b ≡ tally_at m ps b
  unfolding cell_of tally_by
  cell_is_tally ps a b =
      let has = λ (c : List ℕ). m.has (chain_of m ps c) in
      let test = λ (c : List ℕ). eqb (total_of ps c) b in
      let chains : AllByRecursion (λ c. m.has (chain_of m ps c)) (choices_of ps) = has_chains ps a in
      rows_from ps a (first_row m) has_first b
      ∙ S_same m has (λ c. from (first_row m) b (total_of ps c) (chain_of m ps c)) (λ c. cond (test c) (chain_of m ps c) m.zero) (λ c h. first b (total_of ps c) (chain_of m ps c) h) (choices_of ps) chains
      ∙ sym (join_of_S m laws has (chain_of m ps) (λ c h. h) (filter test (choices_of ps)) (all_kept_by test has (choices_of ps) chains)
      ∙ S_kept m laws has test (chain_of m ps) (λ c h. h) (choices_of ps) chains)

  pub tallied : (ps : List Part) → AllByRecursion Cheap ps → (w n : ℕ) (before after : List V) → 0 < w → length ps ≡ n → length after ≡ length before → (n + 1) * w ≤ length before → FilledTo m ps w n before after → after ≡ over (tallies m ps w) before
  tallied ps a w n before after pos e long room filled =
      let P : ℕ → Type 0 = λ k. (k + 1) * w ≤ length before in
      grid_over m.zero (length ps + 1) w (λ i b. tally_at m (take i ps) b) before after pos long (subst P (sym e) room)
      (λ i b h l. filled.needed i b (omega arith) l ∙ cell_is_tally (take i ps) (All-take Cheap i ps a) b) filled.past

  -- The backward pass: from the left, by the laws of the other side.
  cond_same : (t : Bool) (v : V) → cond t v v ≡ v
  cond_same true v = refl
  cond_same false v = refl

  -- what a choice of total t adds past b
  abbrev past : (ℕ → Bool) → ℕ → ℕ → V → V
  past admitted b t v = cond (admitted (b + t)) v m.zero

  -- a count of size s and then a choice of total t: where the total is admitted, the count stays within the row
  past_longer : (admitted : ℕ → Bool) (w : ℕ) → ((t : ℕ) → admitted t ≡ true → t < w) → (b s t : ℕ) (x v : V) → m.has x → m.has v → cond (ltb (b + s) w) (m.chain x (past admitted (b + s) t v)) m.zero ≡ past admitted b (s + t) (m.chain x v)
  past_longer admitted w bound b s t x v hx hv =
      let place : b + s + t ≡ b + (s + t) = omega arith in
      elim (cases_Bool (admitted (b + s + t))) [
        | inl y ↦
            cond-true (ltb (b + s) w) _ _ (lt-ltb (b + s) w (omega (arith, bound (b + s + t) y))) ∙ ap (m.chain x) (cond-true (admitted (b + s + t)) _ _ y)
            ∙ sym (cond-true (admitted (b + (s + t))) _ _ (ap admitted (sym place) ∙ y))
        | inr n ↦
            ap (λ u. cond (ltb (b + s) w) (m.chain x u) m.zero) (cond-false (admitted (b + s + t)) _ _ n)
            ∙ ap (λ u. cond (ltb (b + s) w) u m.zero) (laws.chain_zero x hx) ∙ cond_same (ltb (b + s) w) m.zero
            ∙ sym (cond-false (admitted (b + (s + t))) _ _ (ap admitted (sym place) ∙ n))
      ]

  has_back : (admitted : ℕ → Bool) (w : ℕ) → ((t : ℕ) → admitted t ≡ true → t < w) → (ps : List Part) → AllByRecursion Cheap ps → (b : ℕ) → m.has (back_of m admitted w ps b)
  unfolding back_of last_row row_before
  has_back admitted w bound [] a b = has_cond m laws (admitted b) m.one laws.has_one
  has_back admitted w bound (p ∷ ps) a b =
      let f = λ (d : ℕ). m.chain (m.worth p.price d) (back_of m admitted w ps (b + p.size * d)) in
      let hf : (d : ℕ) → d < 64 → m.has (f d) = λ d l. laws.has_chain (m.worth p.price d) (back_of m admitted w ps (b + p.size * d)) (laws.has_worth p.price d a.0 l) (has_back admitted w bound ps a.1 (b + p.size * d)) in
      let below = all_kept_by (λ d. ltb (b + p.size * d) w) (λ d. d < 64) (members p.standing) (members_below p.standing) in
      let P : V → Type 0 = λ v. m.has v in
      subst P (sym (join_of_S m laws (λ d. d < 64) f hf (counts_past p w b) below)) (has_S m laws (λ d. d < 64) f hf (counts_past p w b) below)

  pub rows_back_lem : (admitted : ℕ → Bool) (w : ℕ) → ((t : ℕ) → admitted t ≡ true → t < w) → (ps : List Part) → AllByRecursion Cheap ps → (b : ℕ) → back_of m admitted w ps b ≡ S m (λ c. past admitted b (total_of ps c) (chain_of m ps c)) (choices_of ps)
  unfolding choices back_of last_row row_before
  rows_back_lem admitted w bound [] a b =
      sym (laws.join_zero (past admitted b 0 m.one) (has_cond m laws (admitted (b + 0)) m.one laws.has_one) ∙ ap (λ t. cond (admitted t) m.one m.zero) (omega arith))
  rows_back_lem admitted w bound (p ∷ ps) a b =
      let cheap = a.0 in
      let cs = choices_of ps in
      let ds = members p.standing in
      let low = members_below p.standing in
      let chains : AllByRecursion (λ c. m.has (chain_of m ps c)) cs = has_chains ps a.1 in
      join_of_S m laws (λ d. d < 64) (λ d. m.chain (m.worth p.price d) (back_of m admitted w ps (b + p.size * d)))
      (λ d l. laws.has_chain _ _ (laws.has_worth p.price d cheap l) (has_back admitted w bound ps a.1 (b + p.size * d)))
      (counts_past p w b) (all_kept_by (λ d. ltb (b + p.size * d) w) (λ d. d < 64) ds low)
      ∙ S_kept m laws (λ d. d < 64) (λ d. ltb (b + p.size * d) w) (λ d. m.chain (m.worth p.price d) (back_of m admitted w ps (b + p.size * d)))
      (λ d l. laws.has_chain _ _ (laws.has_worth p.price d cheap l) (has_back admitted w bound ps a.1 (b + p.size * d))) ds low
      ∙ S_same m (λ d. d < 64) (λ d. cond (ltb (b + p.size * d) w) (m.chain (m.worth p.price d) (back_of m admitted w ps (b + p.size * d))) m.zero)
      (λ d. S m (λ c. past admitted b (total_of (p ∷ ps) c) (chain_of m (p ∷ ps) c)) (map (λ c. d ∷ c) cs))
      (λ d l.
      let x = m.worth p.price d in
      let hx : m.has x = laws.has_worth p.price d cheap l in
      ap (λ u. cond (ltb (b + p.size * d) w) (m.chain x u) m.zero) (rows_back_lem admitted w bound ps a.1 (b + p.size * d))
      ∙ ap (λ u. cond (ltb (b + p.size * d) w) u m.zero) (chain_S m laws (λ c. m.has (chain_of m ps c)) (λ c. past admitted (b + p.size * d) (total_of ps c) (chain_of m ps c)) (λ c h. has_cond m laws (admitted (b + p.size * d + total_of ps c)) (chain_of m ps c) h) x hx cs chains)
      ∙ S_cond m laws (ltb (b + p.size * d) w) (λ c. m.chain x (past admitted (b + p.size * d) (total_of ps c) (chain_of m ps c))) cs
      ∙ S_same m (λ c. m.has (chain_of m ps c)) (λ c. cond (ltb (b + p.size * d) w) (m.chain x (past admitted (b + p.size * d) (total_of ps c) (chain_of m ps c))) m.zero) (λ c. past admitted b (total_of (p ∷ ps) (d ∷ c)) (chain_of m (p ∷ ps) (d ∷ c))) (λ c h. past_longer admitted w bound b (p.size * d) (total_of ps c) x (chain_of m ps c) hx h) cs chains
      ∙ sym (S_map m (λ c. past admitted b (total_of (p ∷ ps) c) (chain_of m (p ∷ ps) c)) (λ c. d ∷ c) cs))
      ds low
      ∙ sym (S_joined m laws (λ d. d < 64) (λ c. m.has (chain_of m (p ∷ ps) c)) (λ c. past admitted b (total_of (p ∷ ps) c) (chain_of m (p ∷ ps) c))
      (λ c h. has_cond m laws (admitted (b + total_of (p ∷ ps) c)) (chain_of m (p ∷ ps) c) h)
      (λ d. map (λ c. d ∷ c) cs) (has_longer p cheap ps cs chains) ds low)

  pub back_is_tally : (admitted : ℕ → Bool) (w : ℕ) → ((t : ℕ) → admitted t ≡ true → t < w) → (ps : List Part) → AllByRecursion Cheap ps → (b : ℕ) → back_of m admitted w ps b ≡ tally_past m admitted ps b
  unfolding tally_by
  back_is_tally admitted w bound ps a b =
      let has = λ (c : List ℕ). m.has (chain_of m ps c) in
      let test = λ (c : List ℕ). admitted (b + total_of ps c) in
      let chains : AllByRecursion (λ c. m.has (chain_of m ps c)) (choices_of ps) = has_chains ps a in
      rows_back_lem admitted w bound ps a b
      ∙ sym (join_of_S m laws has (chain_of m ps) (λ c h. h) (filter test (choices_of ps)) (all_kept_by test has (choices_of ps) chains)
      ∙ S_kept m laws has test (chain_of m ps) (λ c h. h) (choices_of ps) chains)

  pub tallied_back : (admitted : ℕ → Bool) (w : ℕ) → ((t : ℕ) → admitted t ≡ true → t < w) → (ps : List Part) → AllByRecursion Cheap ps → (n : ℕ) (before after : List V) → 0 < w → length ps ≡ n → length after ≡ length before → (n + 1) * w ≤ length before → FilledFrom m admitted ps w 0 before after → after ≡ over (tallies_back m admitted ps w) before
  tallied_back admitted w bound ps a n before after pos e long room filled =
      let P : ℕ → Type 0 = λ k. (k + 1) * w ≤ length before in
      grid_over m.zero (length ps + 1) w (λ i b. tally_past m admitted (drop i ps) b) before after pos long (subst P (sym e) room)
      (λ i b h l. filled.needed i b (omega arith) (omega arith) l ∙ back_is_tally admitted w bound (drop i ps) (All-drop Cheap i ps a) b) filled.past

  -- a table that holds the backward tallies has the goal's answers in its last row
  pub still_asked : (admitted : ℕ → Bool) (w : ℕ) → ((t : ℕ) → admitted t ≡ true → t < w) → (ps : List Part) (n : ℕ) → length ps ≡ n → (cells : List V) → Holds (tallies_back m admitted ps w) cells → Asked m admitted n w cells
  unfolding back_of
  still_asked admitted w bound ps n e cells held b l =
      holds_at m.zero (length ps + 1) w (λ i b. tally_past m admitted (drop i ps) b) cells held n b (omega arith) l
      ∙ ap (λ qs. tally_past m admitted qs b) (drop_all n ps (omega arith)) ∙ sym (back_is_tally admitted w bound [] tt b)

  -- the tally at b, as a join over all choices, and as a value of the measure
  tally_S : (t : List ℕ → Bool) (ps : List Part) → AllByRecursion Cheap ps → tally_by m t ps ≡ S m (λ c. cond (t c) (chain_of m ps c) m.zero) (choices_of ps)
  unfolding tally_by
  tally_S t ps a =
      let has = λ (c : List ℕ). m.has (chain_of m ps c) in
      let chains : AllByRecursion (λ c. m.has (chain_of m ps c)) (choices_of ps) = has_chains ps a in
      join_of_S m laws has (chain_of m ps) (λ c h. h) (filter t (choices_of ps)) (all_kept_by t has (choices_of ps) chains)
      ∙ S_kept m laws has t (chain_of m ps) (λ c h. h) (choices_of ps) chains

  pub has_tally : (t : List ℕ → Bool) (ps : List Part) → AllByRecursion Cheap ps → m.has (tally_by m t ps)
  has_tally t ps a =
      let P : V → Type 0 = λ v. m.has v in
      subst P (sym (tally_S t ps a)) (has_S m laws (λ c. m.has (chain_of m ps c)) (λ c. cond (t c) (chain_of m ps c) m.zero) (λ c h. has_cond m laws (t c) (chain_of m ps c) h) (choices_of ps) (has_chains ps a))

  -- of the totals a to a + n - 1, only t itself counts
  abbrev at_total : (ℕ → Bool) → ℕ → V → ℕ → V
  at_total admitted t v b = cond (admitted b) (cond (eqb t b) v m.zero) m.zero

  other_total : (admitted : ℕ → Bool) (t : ℕ) (v : V) (b : ℕ) → ((t ≡ b) → ⊥) → at_total admitted t v b ≡ m.zero
  other_total admitted t v b ne = ap (λ u. cond (admitted b) u m.zero) (cond-false (eqb t b) v m.zero (ne_eqb t b ne)) ∙ cond_same (admitted b) m.zero

  pick_none : (admitted : ℕ → Bool) (t : ℕ) (v : V) (a n : ℕ) → (t < a) ⊎ (a + n ≤ t) → S m (at_total admitted t v) (range_with_len a n) ≡ m.zero
  pick_none admitted t v a zero h = refl
  pick_none admitted t v a (suc n) h =
      let ne : (t ≡ a) → ⊥ = λ e. elim h [ inl x ↦ omega arith | inr x ↦ omega arith ] in
      let h' : (t < a + 1) ⊎ (a + 1 + n ≤ t) = elim h [ inl x ↦ inl (omega arith) | inr x ↦ inr (omega arith) ] in
      ap (λ u. m.join u (S m (at_total admitted t v) (range_with_len (a + 1) n))) (other_total admitted t v a ne)
      ∙ ap (m.join m.zero) (pick_none admitted t v (a + 1) n h') ∙ laws.join_zero m.zero laws.has_zero

  pick_one : (admitted : ℕ → Bool) (t : ℕ) (v : V) → m.has v → (a n : ℕ) → a ≤ t → t < a + n → S m (at_total admitted t v) (range_with_len a n) ≡ cond (admitted t) v m.zero
  pick_one admitted t v hv a zero h l = absurd (omega arith)
  pick_one admitted t v hv a (suc n) h l =
      elim (cases_eq t a) [
        | inl e ↦
            ap (m.join (at_total admitted t v a)) (pick_none admitted t v (a + 1) n (inl (omega arith)))
            ∙ laws.join_zero (at_total admitted t v a) (has_cond m laws (admitted a) (cond (eqb t a) v m.zero) (has_cond m laws (eqb t a) v hv))
            ∙ ap (λ u. cond (admitted a) u m.zero) (cond-true (eqb t a) v m.zero (eq-eqb t a e)) ∙ ap (λ b. cond (admitted b) v m.zero) (sym e)
        | inr ne ↦
            ap (λ u. m.join u (S m (at_total admitted t v) (range_with_len (a + 1) n))) (other_total admitted t v a ne)
            ∙ ap (m.join m.zero) (pick_one admitted t v hv (a + 1) n (next a t h (λ e. ne (sym e))) (omega arith))
            ∙ zero_join m laws (cond (admitted t) v m.zero) (has_cond m laws (admitted t) v hv)
      ]

  pick : (admitted : ℕ → Bool) (w : ℕ) → ((t : ℕ) → admitted t ≡ true → t < w) → (t : ℕ) (v : V) → m.has v → S m (at_total admitted t v) (range_with_len 0 w) ≡ cond (admitted t) v m.zero
  pick admitted w bound t v hv =
      elim (cases_lt t w) [
        | inl low ↦ pick_one admitted t v hv 0 w (omega arith) (omega arith)
        | inr high ↦
            pick_none admitted t v 0 w (inr (omega arith))
            ∙ sym (elim (cases_Bool (admitted t)) [ inl y ↦ absurd (omega (arith, bound t y)) | inr n ↦ cond-false (admitted t) v m.zero n ])
      ]

  -- THE TALLY OF A PLAN: the admitted places of the last row, joined, are the join over all countsTo loads
  pub row_is_tally : (admitted : ℕ → Bool) (w : ℕ) → ((t : ℕ) → admitted t ≡ true → t < w) → (ps : List Part) → AllByRecursion Cheap ps → join_of m (map (tally_at m ps) (filter admitted (range_with_len 0 w))) ≡ tally_of m admitted ps
  row_is_tally admitted w bound ps a =
      let any = λ (b : ℕ). b < w in
      let cnt = range_with_len 0 w in
      let all : AllByRecursion (λ b. b < w) cnt = counting_below 0 w w (omega arith) in
      let chains : AllByRecursion (λ c. m.has (chain_of m ps c)) (choices_of ps) = has_chains ps a in
      let ht : (b : ℕ) → b < w → m.has (tally_at m ps b) = λ b l. has_tally (λ c. eqb (total_of ps c) b) ps a in
      join_of_S m laws any (tally_at m ps) ht (filter admitted cnt) (all_kept_by admitted any cnt all)
      ∙ S_kept m laws any admitted (tally_at m ps) ht cnt all
      ∙ S_same m any (λ b. cond (admitted b) (tally_at m ps b) m.zero) (λ b. S m (λ c. at_total admitted (total_of ps c) (chain_of m ps c) b) (choices_of ps))
      (λ b l. ap (λ u. cond (admitted b) u m.zero) (tally_S (λ c. eqb (total_of ps c) b) ps a) ∙ S_cond m laws (admitted b) (λ c. cond (eqb (total_of ps c) b) (chain_of m ps c) m.zero) (choices_of ps)) cnt all
      ∙ S_swap m laws any (λ c. m.has (chain_of m ps c)) (λ b c. at_total admitted (total_of ps c) (chain_of m ps c) b)
      (λ b c l h. has_cond m laws (admitted b) _ (has_cond m laws (eqb (total_of ps c) b) (chain_of m ps c) h)) cnt (choices_of ps) all chains
      ∙ S_same m (λ c. m.has (chain_of m ps c)) (λ c. S m (at_total admitted (total_of ps c) (chain_of m ps c)) cnt) (λ c. cond (admitted (total_of ps c)) (chain_of m ps c) m.zero)
      (λ c h. pick admitted w bound (total_of ps c) (chain_of m ps c) h) (choices_of ps) chains
      ∙ sym (tally_S (λ c. admitted (total_of ps c)) ps a)

  map_all : (P : ℕ → Type 0) (f g : ℕ → V) → ((x : ℕ) → P x → f x ≡ g x) → (xs : List ℕ) → AllByRecursion P xs → map f xs ≡ map g xs
  map_all P f g e [] a = refl
  map_all P f g e (x ∷ xs) a = ap (λ y. y ∷ map f xs) (e x a.0) ∙ ap (λ ys. g x ∷ ys) (map_all P f g e xs a.1)

  -- the answer of `tally`, from what the table holds
  -- the admitted places of the last row, joined
  pub row_answers : (admitted : ℕ → Bool) (w : ℕ) → ((t : ℕ) → admitted t ≡ true → t < w) → (ps : List Part) → AllByRecursion Cheap ps → (row : List V) → length row ≡ w → ((b : ℕ) → b < w → get_or row b m.zero ≡ tally_at m ps b) → join_of m (map (λ b. get_or row b m.zero) (filter admitted (range_with_len 0 (length row)))) ≡ tally_of m admitted ps
  row_answers admitted w bound ps a row long at =
      ap (λ v. join_of m (map (λ b. get_or row b m.zero) (filter admitted (range_with_len 0 v)))) long
      ∙ ap (join_of m) (map_all (λ b. b < w) (λ b. get_or row b m.zero) (tally_at m ps) at
      (filter admitted (range_with_len 0 w)) (all_kept_by admitted (λ b. b < w) (range_with_len 0 w) (counting_below 0 w w (omega arith))))
      ∙ row_is_tally admitted w bound ps a

pub cheap_parts : (ks : List Kind) (ss : List ℕ) → AllByRecursion Cheap (parts ks ss)
cheap_parts [] ss = tt
cheap_parts (k ∷ ks) [] = tt
cheap_parts (k ∷ ks) (s ∷ ss) = (omega (arith, k.cheap), cheap_parts ks ss)

pub true_T : (t : Bool) → t ≡ true → T t
true_T t y = let P : Bool → Type 0 = T in subst P (sym y) tt
