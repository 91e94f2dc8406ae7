-- A row written into a table that was cut in two: right after the cut in the forward pass, right before it in the backward pass.
use Rattle.std.proofs.Common.{◌≡◌, ℕ, ◌+◌, ◌-◌, ◌*◌, ◌<◌, ◌≤◌, Bool, List, ◌++◌, length, get_or, take, drop, ap, ◌∙◌, rules, arith, length-take}
use Rattle.std.proofs.lemmas.List.{places}
use Rattle.std.proofs.lemmas.Nat.{mul-le}
use Rattle.model.specs.Parts.{Part}
use Rattle.meaning.specs.Measures.{Means}
use Rattle.meaning.specs.Recurrence.{FilledFrom, FilledTo, row_after, row_before}
use Rattle.meaning.proofs.Rows.{fill_more, back_more, row_same, back_same}

module _ {V : Type 0} (z : V) (n w : ℕ) (cells front back row : List V) (long : length row ≡ w) (room : n + w ≤ length cells) (e : front ≡ take n cells) (f : back ≡ drop n cells) where
  after_row : (k b : ℕ) → k ≡ n + b → b < w → get_or (front ++ (row ++ drop w back)) k z ≡ get_or row b z
  after_row k b g h = rw (e, f, g) (search (rules, places))

  after_below : (k : ℕ) → k < n → get_or (front ++ (row ++ drop w back)) k z ≡ get_or cells k z
  after_below k h = rw (e, f) (search (rules, places))

  after_above : (k : ℕ) → n + w ≤ k → get_or (front ++ (row ++ drop w back)) k z ≡ get_or cells k z
  after_above k h = rw (e, f) (search (rules, places))

-- the row that is read
before_row : {V : Type 0} (z : V) (a n : ℕ) (cells front : List V) (k : ℕ) → front ≡ take n cells → a + k < n → n ≤ length cells → get_or (take (length front - a) (drop a front)) k z ≡ get_or cells (a + k) z
before_row z a n cells front k e h l = rw e (search (rules, places))

-- the row after row i written
pub row_filled : {V : Type 0} (m : Means V) (ps : List Part) (w i : ℕ) (p : Part) (before cells front back row : List V) → i < length ps → p ≡ get_or ps i p → length row ≡ w → (length ps + 1) * w ≤ length cells
    → front ≡ take ((i + 1) * w) cells → back ≡ drop ((i + 1) * w) cells → FilledTo m ps w i before cells
    → ((b : ℕ) → b < w → get_or row b m.zero ≡ row_after m (λ c. get_or (take (length front - i * w) (drop (i * w) front)) c m.zero) p b)
    → FilledTo m ps w (i + 1) before (front ++ (row ++ drop w back))
row_filled m ps w i p before cells front back row within read long room e f filled made =
    let n = (i + 1) * w in
    let two : n + w ≤ length cells = omega (arith, mul-le (i + 2) w (length ps + 1) w (omega arith) (omega arith)) in
    fill_more m ps w i p before cells (front ++ (row ++ drop w back)) within read filled
    (λ b h. after_row m.zero n w cells front back row long two e f (i * w + w + b) b (omega arith) h ∙ made b h
    ∙ row_same m (λ c. get_or (take (length front - i * w) (drop (i * w) front)) c m.zero) (λ c. get_or cells (i * w + c) m.zero) p b
    (λ c le. before_row m.zero (i * w) n cells front c e (omega arith) (omega arith)))
    (λ k h. after_below m.zero n w cells front back row long two e f k (omega arith))
    (λ k h. after_above m.zero n w cells front back row long two e f k (omega arith))

-- the first row written
pub first_at : {V : Type 0} (z : V) (w : ℕ) (cells row : List V) (b : ℕ) → length row ≡ w → b < w → get_or (row ++ drop w cells) b z ≡ get_or row b z
first_at z w cells row b long h = search (rules, places)

pub first_past : {V : Type 0} (z : V) (w : ℕ) (cells row : List V) (k : ℕ) → length row ≡ w → w ≤ length cells → w ≤ k → get_or (row ++ drop w cells) k z ≡ get_or cells k z
first_past z w cells row k long room h = search (rules, places)

module _ {V : Type 0} (z : V) (a w n : ℕ) (cells front back row : List V) (long : length row ≡ w) (end : n ≡ a + w) (room : n ≤ length cells) (e : front ≡ take n cells) (f : back ≡ drop n cells) where
  front_long : length front ≡ n
  front_long = omega (arith, ap length e, length-take n cells)

  last_row_at : (b : ℕ) → b < w → get_or ((take a front ++ (row ++ drop (length front - a) (drop a front))) ++ back) (a + b) z ≡ get_or row b z
  last_row_at b h = rw (front_long, e, f) (search (rules, places))

  last_above : (k : ℕ) → n ≤ k → get_or ((take a front ++ (row ++ drop (length front - a) (drop a front))) ++ back) k z ≡ get_or cells k z
  last_above k h = rw (front_long, e, f) (search (rules, places))

after_row_is : {V : Type 0} (z : V) (n w : ℕ) (cells back : List V) (k : ℕ) → back ≡ drop n cells → k < w → n + w ≤ length cells → get_or (take w back) k z ≡ get_or cells (n + k) z
after_row_is z n w cells back k f h l = rw f (search (rules, places))

-- row i written before the rows after it
pub row_filled_back : {V : Type 0} (m : Means V) (admitted : ℕ → Bool) (ps : List Part) (w v i : ℕ) (p : Part) (before cells front back row : List V) → i < length ps → p ≡ get_or ps i p → v ≡ w → length row ≡ w → (length ps + 1) * w ≤ length cells
    → front ≡ take ((i + 1) * w) cells → back ≡ drop ((i + 1) * w) cells → FilledFrom m admitted ps w (i + 1) before cells
    → ((b : ℕ) → b < v → get_or row b m.zero ≡ row_before m v p (λ c. get_or (take w back) c m.zero) b)
    → FilledFrom m admitted ps w i before ((take (i * w) front ++ (row ++ drop (length front - i * w) (drop (i * w) front))) ++ back)
row_filled_back m admitted ps w v i p before cells front back row within read wide long room e f filled made =
    let n = (i + 1) * w in
    let two : n + w ≤ length cells = omega (arith, mul-le (i + 2) w (length ps + 1) w (omega arith) (omega arith)) in
    let one : n ≡ i * w + w = omega arith in
    back_more m admitted ps w i p before cells ((take (i * w) front ++ (row ++ drop (length front - i * w) (drop (i * w) front))) ++ back) within read filled
    (λ b h. last_row_at m.zero (i * w) w n cells front back row long one (omega arith) e f b h
    ∙ (rw wide at made) b h
    ∙ back_same m w p (λ c. get_or (take w back) c m.zero) (λ c. get_or cells (i * w + w + c) m.zero) b
    (λ c low. after_row_is m.zero n w cells back c f low two ∙ ap (λ k. get_or cells k m.zero) (omega arith)))
    (λ k h. last_above m.zero (i * w) w n cells front back row long one (omega arith) e f k (omega arith))
