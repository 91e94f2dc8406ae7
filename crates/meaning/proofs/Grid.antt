-- The cells of a table, as one list and place by place.
use Rattle.std.proofs.Common.{◌≡◌, ℕ, ◌+◌, ◌-◌, ◌*◌, ◌/◌, ◌%◌, ◌<◌, ◌≤◌, List, [], ◌∷◌, ◌++◌, length, get_or, drop, replicate, sym, refl, ap, ◌∙◌, ap₂, inl, inr, zero-add, arith, length-append, length-drop}
use lib.ListN.{length-replicate, get_or-replicate}
use lib.Seq.{take-append_seam}
use Rattle.std.proofs.lemmas.List.{ext_get_or, get_or_append_left, get_or-append_right, get_or-take, get_or-drop}
use Rattle.std.proofs.lemmas.List.FromFn.{length-map-range_with_len, get_or-map-range_with_len}
use Rattle.std.proofs.lemmas.Nat.{div-mul-add, mod-mul-add, div_below, mod_below, div-add-mod', mul-le}
use Rattle.std.proofs.lemmas.Bool.{cases_lt}
use Rattle.meaning.specs.Cells.{Holds, grid, over}

place_row : (k r w : ℕ) → 0 < w → k < r * w → k / w < r
place_row k r w pos h = div_below k w r pos h

place_is : (k w : ℕ) → k / w * w + k % w ≡ k
place_is k w = div-add-mod' k w

module _ {V : Type 0} where
  pub grid_long : (r w : ℕ) (f : ℕ → ℕ → V) → length (grid r w f) ≡ r * w
  unfolding grid
  grid_long r w f = length-map-range_with_len (λ k. f (k / w) (k % w)) 0 (r * w)

  grid_place : (z : V) (r w : ℕ) (f : ℕ → ℕ → V) (k : ℕ) → k < r * w → get_or (grid r w f) k z ≡ f (k / w) (k % w)
  unfolding grid
  grid_place z r w f k h = get_or-map-range_with_len (λ k. f (k / w) (k % w)) 0 (r * w) k k z h (zero-add k)

  pub grid_at : (z : V) (r w : ℕ) (f : ℕ → ℕ → V) (i b : ℕ) → i < r → b < w → get_or (grid r w f) (i * w + b) z ≡ f i b
  grid_at z r w f i b h l =
      grid_place z r w f (i * w + b) (omega (arith, mul-le (i + 1) w r w (omega arith) (omega arith)))
      ∙ ap₂ (λ x y. f x y) (div-mul-add i w b l) (mod-mul-add i w b l)

  pub holds_at : (z : V) (r w : ℕ) (f : ℕ → ℕ → V) (cells : List V) → Holds (grid r w f) cells → (i b : ℕ) → i < r → b < w → get_or cells (i * w + b) z ≡ f i b
  holds_at z r w f cells held i b h l =
      let low : i * w + b < length (grid r w f) = omega (arith, grid_long r w f, mul-le (i + 1) w r w (omega arith) (omega arith)) in
      sym (get_or-take (length (grid r w f)) cells (i * w + b) z low) ∙ ap (λ xs. get_or xs (i * w + b) z) held ∙ grid_at z r w f i b h l

  pub over_holds : (xs ys : List V) → Holds xs (over xs ys)
  over_holds xs ys = take-append_seam xs (drop (length xs) ys)

  drop_seam : (xs ys : List V) → drop (length xs) (xs ++ ys) ≡ ys
  drop_seam [] ys = refl
  drop_seam (x ∷ xs) ys = drop_seam xs ys

  pub over_over : (xs ys zs : List V) → length xs ≡ length ys → over xs (over ys zs) ≡ over xs zs
  over_over xs ys zs e =
      ap (λ n. xs ++ drop n (ys ++ drop (length ys) zs)) e ∙ ap (λ t. xs ++ t) (drop_seam ys (drop (length ys) zs)) ∙ ap (λ n. xs ++ drop n zs) (sym e)

  pub over_long : (xs ys : List V) → length xs ≤ length ys → length (over xs ys) ≡ length ys
  over_long xs ys h = omega (arith, length-append xs (drop (length xs) ys), length-drop (length xs) ys)

  -- what holds place by place, and past the places nothing changed
  pub grid_over : (z : V) (r w : ℕ) (f : ℕ → ℕ → V) (before after : List V) → 0 < w → length after ≡ length before → r * w ≤ length before
      → ((i b : ℕ) → i < r → b < w → get_or after (i * w + b) z ≡ f i b) → ((k : ℕ) → r * w ≤ k → get_or after k z ≡ get_or before k z) → after ≡ over (grid r w f) before
  grid_over z r w f before after pos long room at past =
      let n : length (grid r w f) ≡ r * w = grid_long r w f in
      ext_get_or z after (over (grid r w f) before) (long ∙ sym (over_long (grid r w f) before (omega arith)))
      (λ k h. elim (cases_lt k (r * w)) [
        | inl low ↦
            ap (λ j. get_or after j z) (sym (place_is k w)) ∙ at (k / w) (k % w) (place_row k r w pos low) (mod_below k w pos)
            ∙ sym (get_or_append_left (grid r w f) (drop (length (grid r w f)) before) z k (omega arith) ∙ grid_place z r w f k low)
        | inr high ↦
            let place : r * w + (k - r * w) ≡ k = omega arith in
            past k high
            ∙ sym (get_or-append_right (grid r w f) (drop (length (grid r w f)) before) (r * w) k z n high
            ∙ get_or-drop (length (grid r w f)) before (k - r * w) z ∙ ap (λ j. get_or before j z) (ap (λ j. j + (k - r * w)) n ∙ place))
      ])

  -- two slices that agree from n on
  pub drop_same : (z : V) (n : ℕ) (before after : List V) → length after ≡ length before → ((k : ℕ) → n ≤ k → get_or after k z ≡ get_or before k z) → drop n after ≡ drop n before
  drop_same z n before after long past =
      ext_get_or z (drop n after) (drop n before) (omega (arith, length-drop n after, length-drop n before))
      (λ k h. get_or-drop n after k z ∙ past (n + k) (omega arith) ∙ sym (get_or-drop n before k z))

  pub over_same : (xs before after : List V) (n : ℕ) → length xs ≡ n → drop n after ≡ drop n before → over xs after ≡ over xs before
  over_same xs before after n e same = ap (λ k. xs ++ drop k after) e ∙ ap (λ t. xs ++ t) same ∙ ap (λ k. xs ++ drop k before) (sym e)

  pub zeros_over : (z : V) (n : ℕ) (before after : List V) → length after ≡ length before → n ≤ length before
      → ((k : ℕ) → k < n → get_or after k z ≡ z) → ((k : ℕ) → n ≤ k → get_or after k z ≡ get_or before k z) → after ≡ over (replicate n z) before
  zeros_over z n before after long room at past =
      let e : length (replicate n z) ≡ n = length-replicate n z in
      ext_get_or z after (over (replicate n z) before) (long ∙ sym (over_long (replicate n z) before (omega arith)))
      (λ k h. elim (cases_lt k n) [
        | inl low ↦ at k low ∙ sym (get_or_append_left (replicate n z) (drop (length (replicate n z)) before) z k (omega arith) ∙ get_or-replicate n k z z low)
        | inr high ↦
            let place : n + (k - n) ≡ k = omega arith in
            past k high
            ∙ sym (get_or-append_right (replicate n z) (drop (length (replicate n z)) before) n k z e high
            ∙ get_or-drop (length (replicate n z)) before (k - n) z ∙ ap (λ j. get_or before j z) (ap (λ j. j + (k - n)) e ∙ place))
      ])
