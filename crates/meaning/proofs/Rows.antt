-- A row that is filled from left to right, and a cell that is joined count by count.
use Rattle.std.proofs.Common.{◌≡◌, ℕ, zero, suc, ◌+◌, ◌-◌, ◌*◌, ◌<◌, ◌≤◌, Bool, true, false, cond, ltb, leb, ◌⊎◌, List, [], ◌∷◌, ◌++◌, map, length, get_or, take, drop, filter, sym, refl, ap, ◌∙◌, inl, inr, zero-add, arith}
use Rattle.std.specs.List.{range_with_len}
use Rattle.std.proofs.lemmas.List.{map-id, map-append, append-nil, drop_more, drop_all}
use Rattle.std.proofs.lemmas.Bool.{cases_eq, cases_Bool, ltb-true}
use Rattle.std.proofs.lemmas.List.Elements.{filter-append}
use Rattle.std.proofs.lemmas.List.FromFn.{map-range_with_len_more}
use Rattle.std.proofs.lemmas.List.Sums.{fold_push, fold_more as folded_more}
use Rattle.std.proofs.lemmas.Nat.{mul-le}
use Rattle.meaning.specs.Measures.{Means}
use Rattle.meaning.specs.Recurrence.{FilledFrom, FilledTo, back_of, cell_of, counts_to, first_row, last_row, row_after, row_before}
use Rattle.meaning.specs.Tallies.{join_of}
use Rattle.model.specs.declared.kind.Kind.{Kind}
use Rattle.model.specs.Parts.{Part, part, parts}
use Rattle.model.specs.Sets.{counts, has, members}
use Rattle.meaning.proofs.Same.{map_same}

pub cases_le : (k b : ℕ) → k ≤ b → (k ≡ b) ⊎ (k < b)
cases_le k b h = elim (cases_eq k b) [ inl e ↦ inl e | inr ne ↦ inr (omega arith) ]

counting_more : (n : ℕ) → range_with_len 0 (n + 1) ≡ range_with_len 0 n ++ n ∷ []
counting_more n =
    sym (map-id (range_with_len 0 (n + 1))) ∙ map-range_with_len_more (λ x. x) 0 n n (zero-add n) ∙ ap (λ xs. xs ++ n ∷ []) (map-id (range_with_len 0 n))

-- the counts below n
abbrev pub join_to : {V : Type 0} → Means V → (ℕ → V) → Part → ℕ → ℕ → V
join_to m f p b n = join_of m (map (λ d. m.chain (f (b - p.size * d)) (m.worth p.price d)) (filter (λ d. leb (p.size * d) b) (filter (has p.standing) (range_with_len 0 n))))

-- one element more of a join over the elements that pass two tests
fold_more : {V : Type 0} (m : Means V) (F : ℕ → V) (t u : ℕ → Bool) (xs : List ℕ) (n : ℕ) → join_of m (map F (filter t (filter u (xs ++ n ∷ [])))) ≡ cond (u n) (cond (t n) (m.join (join_of m (map F (filter t (filter u xs)))) (F n)) (join_of m (map F (filter t (filter u xs))))) (join_of m (map F (filter t (filter u xs))))
fold_more m F t u xs n =
    let S = join_of m (map F (filter t (filter u xs))) in
    ap (λ ys. join_of m (map F (filter t ys))) (filter-append u xs (n ∷ []))
    ∙ ap (λ ys. join_of m (map F ys)) (filter-append t (filter u xs) (cond (u n) (n ∷ []) []))
    ∙ ap (join_of m) (map-append F (filter t (filter u xs)) (filter t (cond (u n) (n ∷ []) [])))
    ∙ elim (u n) as (λ w. join_of m (map F (filter t (filter u xs)) ++ map F (filter t (cond w (n ∷ []) []))) ≡ cond w (cond (t n) (m.join S (F n)) S) S) [
      | true ↦ elim (t n) as (λ w. join_of m (map F (filter t (filter u xs)) ++ map F (cond w (n ∷ []) [])) ≡ cond w (m.join S (F n)) S) [
        | true ↦ fold_push m.join m.zero (map F (filter t (filter u xs))) (F n)
        | false ↦ ap (join_of m) (append-nil (map F (filter t (filter u xs))))
      ]
      | false ↦ ap (join_of m) (append-nil (map F (filter t (filter u xs))))
    ]

pub join_to_more : {V : Type 0} (m : Means V) (f : ℕ → V) (p : Part) (b n : ℕ) → join_to m f p b (n + 1) ≡ cond (has p.standing n) (cond (leb (p.size * n) b) (m.join (join_to m f p b n) (m.chain (f (b - p.size * n)) (m.worth p.price n))) (join_to m f p b n)) (join_to m f p b n)
join_to_more m f p b n =
    ap (λ xs. join_of m (map (λ d. m.chain (f (b - p.size * d)) (m.worth p.price d)) (filter (λ d. leb (p.size * d) b) (filter (has p.standing) xs)))) (counting_more n)
    ∙ fold_more m (λ d. m.chain (f (b - p.size * d)) (m.worth p.price d)) (λ d. leb (p.size * d) b) (has p.standing) (range_with_len 0 n) n

pub join_to_all : {V : Type 0} (m : Means V) (f : ℕ → V) (p : Part) (b : ℕ) → join_to m f p b 64 ≡ row_after m f p b
unfolding row_after counts
join_to_all m f p b = refl

-- a row depends on the row before only up to b
pub row_same : {V : Type 0} (m : Means V) (f g : ℕ → V) (p : Part) (b : ℕ) → ((c : ℕ) → c ≤ b → f c ≡ g c) → row_after m f p b ≡ row_after m g p b
unfolding row_after
row_same m f g p b e =
    ap (join_of m) (map_same _ _ (λ d. ap (λ x. m.chain x (m.worth p.price d)) (e (b - p.size * d) (omega arith))) (counts_to p b))

pub length_parts : (ks : List Kind) (ss : List ℕ) → length ss ≡ length ks → length (parts ks ss) ≡ length ks
length_parts [] ss e = refl
length_parts (k ∷ ks) [] e = e
length_parts (k ∷ ks) (s ∷ ss) e = ap suc (length_parts ks ss (omega arith))

-- what is read at i of the kinds and of the sets is the part at i
pub parts_at : (ks : List Kind) (ss : List ℕ) (i : ℕ) (k : Kind) (s : ℕ) (d : Part) → i < length ks → i < length ss → k ≡ get_or ks i k → s ≡ get_or ss i 0 → part k s ≡ get_or (parts ks ss) i d
parts_at [] ss i k s d h g e f = absurd (omega arith)
parts_at (k₀ ∷ ks) [] i k s d h g e f = absurd (omega arith)
parts_at (k₀ ∷ ks) (s₀ ∷ ss) zero k s d h g e f = ap (λ x. part x s) e ∙ ap (λ x. part k₀ x) f
parts_at (k₀ ∷ ks) (s₀ ∷ ss) (suc i) k s d h g e f = parts_at ks ss i k s d (omega arith) (omega arith) e f

-- row 0 alone
pub fill_none : {V : Type 0} (m : Means V) (ps : List Part) (w : ℕ) (before after : List V) → ((b : ℕ) → b < w → get_or after b m.zero ≡ first_row m b) → ((k : ℕ) → w ≤ k → get_or after k m.zero ≡ get_or before k m.zero) → FilledTo m ps w 0 before after
unfolding cell_of
fill_none m ps w before after row above = record {
  needed = λ i b h l.
      let i₀ : i ≡ 0 = omega arith in
      ap (λ j. get_or after j m.zero) (ap (λ j. j * w + b) i₀ ∙ omega arith) ∙ row b l ∙ sym (ap (λ j. cell_of m (take j ps) b) i₀);
  past = λ k h. above k (omega (arith, mul-le 1 w (length ps + 1) w (omega arith) (omega arith)));
}

-- one row more
pub fill_more : {V : Type 0} (m : Means V) (ps : List Part) (w i : ℕ) (p : Part) (before cells after : List V) → i < length ps → p ≡ get_or ps i p → FilledTo m ps w i before cells → ((b : ℕ) → b < w → get_or after (i * w + w + b) m.zero ≡ row_after m (λ c. get_or cells (i * w + c) m.zero) p b) → ((k : ℕ) → k < i * w + w → get_or after k m.zero ≡ get_or cells k m.zero) → ((k : ℕ) → i * w + w + w ≤ k → get_or after k m.zero ≡ get_or cells k m.zero) → FilledTo m ps w (i + 1) before after
unfolding cell_of
fill_more {V} m ps w i p before cells after within read filled row below above = record {
  needed = λ j b h l. elim (cases_le j (i + 1) h) [
    | inl e ↦
        ap (λ k. get_or after k m.zero) (ap (λ k. k * w + b) e ∙ omega arith) ∙ row b l
        ∙ row_same m (λ c. get_or cells (i * w + c) m.zero) (cell_of m (take i ps)) p b (λ c le. filled.needed i c (omega arith) (omega arith))
        ∙ ap (λ q. row_after m (cell_of m (take i ps)) q b) read
        ∙ sym (ap (λ (f : ℕ → V). f b) (folded_more (row_after m) (first_row m) ps i p within))
        ∙ sym (ap (λ k. cell_of m (take k ps) b) e)
    | inr less ↦
        below (j * w + b) (omega (arith, mul-le j w i w (omega arith) (omega arith))) ∙ filled.needed j b (omega arith) l
  ];
  past = λ k h. above k (omega (arith, mul-le (i + 2) w (length ps + 1) w (omega arith) (omega arith))) ∙ filled.past k h;
}

-- what row 0 left of the cells past it, the later rows leave of those past the table
pub fill_since : {V : Type 0} (m : Means V) (ps : List Part) (w i n : ℕ) (before mid after : List V) → i ≡ n → ((k : ℕ) → w ≤ k → get_or mid k m.zero ≡ get_or before k m.zero) → FilledTo m ps w i mid after → FilledTo m ps w n before after
fill_since m ps w i n before mid after e above filled = record {
  needed = λ j b h l. filled.needed j b (omega arith) l;
  past = λ k h. filled.past k h ∙ above k (omega (arith, mul-le 1 w (length ps + 1) w (omega arith) (omega arith)));
}

-- The same for the backward pass.
abbrev pub join_back_to : {V : Type 0} → Means V → ℕ → Part → (ℕ → V) → ℕ → ℕ → V
join_back_to m w p f b n = join_of m (map (λ d. m.chain (m.worth p.price d) (f (b + p.size * d))) (filter (λ d. ltb (b + p.size * d) w) (filter (has p.standing) (range_with_len 0 n))))

pub join_back_to_more : {V : Type 0} (m : Means V) (w : ℕ) (p : Part) (f : ℕ → V) (b n : ℕ) → join_back_to m w p f b (n + 1) ≡ cond (has p.standing n) (cond (ltb (b + p.size * n) w) (m.join (join_back_to m w p f b n) (m.chain (m.worth p.price n) (f (b + p.size * n)))) (join_back_to m w p f b n)) (join_back_to m w p f b n)
join_back_to_more m w p f b n =
    ap (λ xs. join_of m (map (λ d. m.chain (m.worth p.price d) (f (b + p.size * d))) (filter (λ d. ltb (b + p.size * d) w) (filter (has p.standing) xs)))) (counting_more n)
    ∙ fold_more m (λ d. m.chain (m.worth p.price d) (f (b + p.size * d))) (λ d. ltb (b + p.size * d) w) (has p.standing) (range_with_len 0 n) n

pub join_back_to_all : {V : Type 0} (m : Means V) (w : ℕ) (p : Part) (f : ℕ → V) (b : ℕ) → join_back_to m w p f b 64 ≡ row_before m w p f b
unfolding row_before counts
join_back_to_all m w p f b = refl

-- a map over a list that is kept by t depends on f only where t holds
map_kept : {X Y : Type 0} (t : X → Bool) (f g : X → Y) → ((x : X) → t x ≡ true → f x ≡ g x) → (xs : List X) → map f (filter t xs) ≡ map g (filter t xs)
map_kept t f g e [] = refl
map_kept t f g e (x ∷ xs) =
    elim (cases_Bool (t x)) [
      | inl y ↦ rw y (ap (λ v. v ∷ map f (filter t xs)) (e x y) ∙ ap (λ ys. g x ∷ ys) (map_kept t f g e xs))
      | inr n ↦ rw n (map_kept t f g e xs)
    ]

pub back_same : {V : Type 0} (m : Means V) (w : ℕ) (p : Part) (f g : ℕ → V) (b : ℕ) → ((c : ℕ) → c < w → f c ≡ g c) → row_before m w p f b ≡ row_before m w p g b
unfolding row_before
back_same m w p f g b e =
    ap (join_of m) (map_kept (λ d. ltb (b + p.size * d) w) (λ d. m.chain (m.worth p.price d) (f (b + p.size * d))) (λ d. m.chain (m.worth p.price d) (g (b + p.size * d)))
    (λ d y. ap (m.chain (m.worth p.price d)) (e (b + p.size * d) (ltb-true (b + p.size * d) w y))) (members p.standing))

-- the last row alone
pub back_none : {V : Type 0} (m : Means V) (admitted : ℕ → Bool) (ps : List Part) (w n : ℕ) (before after : List V) → length ps ≡ n → ((b : ℕ) → b < w → get_or after (n * w + b) m.zero ≡ last_row m admitted b) → ((k : ℕ) → n * w + w ≤ k → get_or after k m.zero ≡ get_or before k m.zero) → FilledFrom m admitted ps w n before after
unfolding back_of
back_none m admitted ps w n before after e row above = record {
  needed = λ i b from to l.
      let i₀ : i ≡ n = omega arith in
      ap (λ j. get_or after (j * w + b) m.zero) i₀ ∙ row b l
      ∙ sym (ap (λ xs. back_of m admitted w xs b) (drop_all i ps (omega arith)));
  past = λ k h. above k (omega (arith, ap (λ j. (j + 1) * w) e));
}

-- one row more, upwards
pub back_more : {V : Type 0} (m : Means V) (admitted : ℕ → Bool) (ps : List Part) (w i : ℕ) (p : Part) (before cells after : List V) → i < length ps → p ≡ get_or ps i p → FilledFrom m admitted ps w (i + 1) before cells → ((b : ℕ) → b < w → get_or after (i * w + b) m.zero ≡ row_before m w p (λ c. get_or cells (i * w + w + c) m.zero) b) → ((k : ℕ) → i * w + w ≤ k → get_or after k m.zero ≡ get_or cells k m.zero) → FilledFrom m admitted ps w i before after
unfolding back_of
back_more m admitted ps w i p before cells after within read filled row above = record {
  needed = λ j b from to l. elim (cases_le i j from) [
    | inl e ↦
        ap (λ k. get_or after (k * w + b) m.zero) (sym e) ∙ row b l
        ∙ back_same m w p (λ c. get_or cells (i * w + w + c) m.zero) (back_of m admitted w (drop (i + 1) ps)) b
        (λ c low. ap (λ k. get_or cells k m.zero) (omega arith) ∙ filled.needed (i + 1) c (omega arith) (omega arith) low)
        ∙ ap (λ q. row_before m w q (back_of m admitted w (drop (i + 1) ps)) b) read
        ∙ sym (ap (λ xs. back_of m admitted w xs b) (ap (λ k. drop k ps) (sym e) ∙ drop_more ps i p within))
    | inr less ↦
        above (j * w + b) (omega (arith, mul-le (i + 1) w j w (omega arith) (omega arith))) ∙ filled.needed j b (omega arith) to l
  ];
  past = λ k h. above k (omega (arith, mul-le (i + 1) w (length ps + 1) w (omega arith) (omega arith))) ∙ filled.past k h;
}

pub back_since : {V : Type 0} (m : Means V) (admitted : ℕ → Bool) (ps : List Part) (w i n : ℕ) (before mid after : List V) → i ≡ 0 → length ps ≡ n → ((k : ℕ) → n * w + w ≤ k → get_or mid k m.zero ≡ get_or before k m.zero) → FilledFrom m admitted ps w i mid after → FilledFrom m admitted ps w 0 before after
back_since m admitted ps w i n before mid after z e above filled = record {
  needed = λ j b from to l. filled.needed j b (omega arith) to l;
  past = λ k h. filled.past k h ∙ above k (omega (arith, ap (λ j. (j + 1) * w) e));
}

-- one total more of a join over the totals that pass a test
pub fold_one : {V : Type 0} (m : Means V) (F : ℕ → V) (t : ℕ → Bool) (n : ℕ) → join_of m (map F (filter t (range_with_len 0 (n + 1)))) ≡ cond (t n) (m.join (join_of m (map F (filter t (range_with_len 0 n)))) (F n)) (join_of m (map F (filter t (range_with_len 0 n))))
fold_one m F t n =
    let xs = filter t (range_with_len 0 n) in
    ap (λ ys. join_of m (map F (filter t ys))) (counting_more n)
    ∙ ap (λ ys. join_of m (map F ys)) (filter-append t (range_with_len 0 n) (n ∷ []))
    ∙ ap (join_of m) (map-append F xs (cond (t n) (n ∷ []) []))
    ∙ elim (t n) as (λ w. join_of m (map F xs ++ map F (cond w (n ∷ []) [])) ≡ cond w (m.join (join_of m (map F xs)) (F n)) (join_of m (map F xs))) [
      | true ↦ fold_push m.join m.zero (map F xs) (F n)
      | false ↦ ap (join_of m) (append-nil (map F xs))
    ]
