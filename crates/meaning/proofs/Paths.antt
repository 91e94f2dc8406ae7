-- Marks and loads correspond.
use Rattle.std.proofs.Common.{◌≡◌, ℕ, zero, suc, ◌+◌, ◌*◌, ◌<◌, ◌≤◌, Bool, true, ◌↔◌, List, [], ◌∷◌, length, get_or, take, drop, sym, refl, ap, ◌∙◌, add-zero, arith}
use Rattle.std.specs.List.{AllByRecursion}
use Rattle.std.proofs.ByRecursion.{All-take, All-drop}
use Rattle.std.proofs.lemmas.List.{length-map, take_all, drop_all, get_or_default}
use Rattle.model.specs.Loads.{fits, total_of, Within}
use Rattle.model.specs.Parts.{Part, sets_of}
use Rattle.model.specs.Sets.{has}
use Rattle.meaning.specs.Cells.{tallies, tallies_back}
use Rattle.meaning.specs.Marks.{Cheap, Closes, Reaches}
use Rattle.meaning.specs.Models.{yes_no}
use Rattle.meaning.specs.Paths.{Marked, cell, part_at, total_to}
use Rattle.meaning.specs.Problems.{uses}
use Rattle.meaning.specs.Tallies.{tally_at, tally_past}
use Rattle.meaning.proofs.Grid.{grid_at}
use Rattle.meaning.proofs.Marking.{close, closed, load_uses, meets_used, reach, reached, stands_drop, stands_take, used_meets, uses_load}

-- a total, cut at place i
total_cut : (i : ℕ) (ps : List Part) (load : List ℕ) → total_of ps load ≡ total_of (take i ps) (take i load) + total_of (drop i ps) (drop i load)
total_cut zero ps load = omega arith
total_cut (suc i) [] load = refl
total_cut (suc i) (p ∷ ps) [] = ends (drop i ps)
  where
    ends : (qs : List Part) → 0 ≡ 0 + total_of qs []
    ends [] = refl
    ends (q ∷ qs) = refl
total_cut (suc i) (p ∷ ps) (d ∷ load) = let e = total_cut i ps load in omega arith

within_long : (sets load : List ℕ) → Within sets load → length load ≡ length sets
within_long [] [] h = refl
within_long [] (d ∷ load) h = absurd h
within_long (s ∷ sets) [] h = absurd h
within_long (s ∷ sets) (d ∷ load) h = ap suc (within_long sets load h.2)

module _ (admits : ℕ → Bool) (ps : List Part) (w : ℕ) (cheap : AllByRecursion Cheap ps) (bound : (t : ℕ) → admits t ≡ true → t < w) where
  ahead_at : (i b : ℕ) → i ≤ length ps → b < w → cell (tallies yes_no ps w) w i b ≡ tally_at yes_no (take i ps) b
  ahead_at i b h l = grid_at 0 (length ps + 1) w (λ i b. tally_at yes_no (take i ps) b) i b (omega arith) l

  back_at : (i b : ℕ) → i ≤ length ps → b < w → cell (tallies_back yes_no admits ps w) w i b ≡ tally_past yes_no admits (drop i ps) b
  back_at i b h l = grid_at 0 (length ps + 1) w (λ i b. tally_past yes_no admits (drop i ps) b) i b (omega arith) l

  forward_is : (i b : ℕ) → i ≤ length ps → b < w → (cell (tallies yes_no ps w) w i b ≡ 1) ↔ Reaches (take i ps) b
  forward_is i b h l = (
    (λ e. reached (take i ps) (All-take Cheap i ps cheap) b (sym (ahead_at i b h l) ∙ e)),
    (λ r. ahead_at i b h l ∙ reach (take i ps) (All-take Cheap i ps cheap) b r),
  )

  backward_is : (i b : ℕ) → i ≤ length ps → b < w → (cell (tallies_back yes_no admits ps w) w i b ≡ 1) ↔ Closes admits (drop i ps) b
  backward_is i b h l = (
    (λ e. closed admits (drop i ps) (All-drop Cheap i ps cheap) b (sym (back_at i b h l) ∙ e)),
    (λ r. back_at i b h l ∙ close admits (drop i ps) (All-drop Cheap i ps cheap) b r),
  )

  -- the way of a load, and its end
  abbrev On : List ℕ → ℕ → Type 0
  On load i = (total_to ps load i < w) × (cell (tallies yes_no ps w) w i (total_to ps load i) ≡ 1) × (cell (tallies_back yes_no admits ps w) w i (total_to ps load i) ≡ 1)

  on_way : (load : List ℕ) → Within (sets_of ps) load → admits (total_of ps load) ≡ true → (i : ℕ) → i ≤ length ps → On load i
  on_way load h y i l =
      let cut = total_cut i ps load in
      let low : total_to ps load i < w = omega (arith, bound (total_of ps load) y) in (
        low,
        (forward_is i (total_to ps load i) l low).1 (take i load, (stands_take i ps load h, refl)),
        (backward_is i (total_to ps load i) l low).1 (drop i load, (stands_drop i ps load h, ap admits (sym cut) ∙ y)),
      )

  none_left : (qs : List Part) → qs ≡ [] → (b : ℕ) → Closes admits qs b → admits b ≡ true
  none_left [] e b k = go k.0 k.1.0 k.1.1
    where
      go : (c : List ℕ) → Within [] c → admits (b + total_of [] c) ≡ true → admits b ≡ true
      go [] h y = ap admits (sym (add-zero b)) ∙ y
      go (d ∷ c) h y = absurd h
  none_left (q ∷ qs) e b k = absurd (let z : ◌≡◌ {A = ℕ} 0 1 = cc in omega arith)

  at_end : (load : List ℕ) → Within (sets_of ps) load → ((i : ℕ) → i ≤ length ps → On load i) → admits (total_of ps load) ≡ true
  at_end load h on =
      let n = length ps in
      let last = on n (omega arith) in
      let long : length load ≡ n = within_long (sets_of ps) load h ∙ length-map ps (λ p. p.standing) in
      let whole : total_to ps load n ≡ total_of ps load = ap (λ qs. total_of qs (take n load)) (take_all n ps (omega arith)) ∙ ap (total_of ps) (take_all n load (omega arith)) in
      ap admits (sym whole) ∙ none_left (drop n ps) (drop_all n ps (omega arith)) (total_to ps load n) ((backward_is n (total_to ps load n) (omega arith) last.0).0 last.2)

  part_is : (i : ℕ) → i < length ps → part_at ps i ≡ get_or ps i (part_at ps i)
  part_is i h = get_or_default ps i (record { size = 0; price = 0; standing = 0 }) (part_at ps i) h

  to_meet : (i d : ℕ) → i < length ps → d < 64 → uses (fits admits ps) i d ≡ true
      → (has (part_at ps i).standing d ≡ true) × ((b : ℕ) × ((b + (part_at ps i).size * d < w) × (cell (tallies yes_no ps w) w i b ≡ 1) × (cell (tallies_back yes_no admits ps w) w (i + 1) (b + (part_at ps i).size * d) ≡ 1)))
  to_meet i d h l u =
      let x = used_meets admits ps i d (part_at ps i) h (part_is i h) (uses_load admits ps i d u) in
      let b = x.1.0 in
      let k = x.1.1.1 in
      let low : b + (part_at ps i).size * d + total_of (drop (i + 1) ps) k.0 < w = bound (b + (part_at ps i).size * d + total_of (drop (i + 1) ps) k.0) k.1.1 in
      let in_row : b + (part_at ps i).size * d < w = omega arith in (
        x.0,
        (b, (in_row, (forward_is i b (omega arith) (omega arith)).1 x.1.1.0, (backward_is (i + 1) (b + (part_at ps i).size * d) (omega arith) in_row).1 k)),
      )

  from_meet : (i d : ℕ) → i < length ps → d < 64
      → (has (part_at ps i).standing d ≡ true) × ((b : ℕ) × ((b + (part_at ps i).size * d < w) × (cell (tallies yes_no ps w) w i b ≡ 1) × (cell (tallies_back yes_no admits ps w) w (i + 1) (b + (part_at ps i).size * d) ≡ 1)))
      → uses (fits admits ps) i d ≡ true
  from_meet i d h l m =
      let b = m.1.0 in
      let low = m.1.1.0 in
      load_uses admits ps i d
      (meets_used admits ps i d (part_at ps i) h (part_is i h) l m.0 b ((forward_is i b (omega arith) (omega arith)).0 m.1.1.1)
      ((backward_is (i + 1) (b + (part_at ps i).size * d) (omega arith) low).0 m.1.1.2))

  pub marked : Marked admits ps w
  marked = record {
    forward = forward_is;
    backward = backward_is;
    paths = λ load h. (on_way load h, at_end load h);
    used = λ i d h l. (to_meet i d h l, from_meet i d h l);
  }
