-- The search: going down the marks with the least counts, and the kind to raise.
use Rattle.std.proofs.Common.{◌≡◌, ℕ, zero, suc, ◌+◌, ◌-◌, ◌*◌, ◌<◌, ◌≤◌, Bool, true, false, ◌&&◌, eqb, ltb, List, [], ◌∷◌, ◌++◌, length, get_or, take, drop, set, is_some, Some, Option, sym, refl, ap, ◌∙◌, subst, inl, inr, append_assoc, add_assoc, zero-add, add-one, arith}
use Rattle.std.specs.List.{AllByRecursion, slice_get}
use Rattle.std.proofs.lemmas.List.{take_all, take_more_set, drop_more, drop_all, append-nil}
use Rattle.std.proofs.lemmas.Bool.{cases_eq, cases_order, false≢true, both_ways, and_parts, and_from, lt-ltb, ltb-true, eq-eqb, eqb-true}
use Rattle.std.proofs.ByRecursion.{All-drop}
use Rattle.meaning.proofs.Choosing.{cheap_parts}
use Rattle.meaning.proofs.Marking.{close, closed}
use Rattle.meaning.proofs.Rising.{first_kept, first_of_loads, head_nth, next_nth, none_kept, none_of_loads}
use Rattle.meaning.proofs.Grid.{holds_at}
use Rattle.meaning.proofs.Rows.{length_parts}
use Rattle.meaning.specs.Finding.{Gives, IsFirst, IsNext, first_load, next_load, or_kept}
use Rattle.meaning.specs.Marks.{Cheap, Closes, Stands}
use Rattle.meaning.specs.Models.{yes_no}
use Rattle.meaning.specs.Paths.{total_to}
use Rattle.meaning.specs.Tallies.{tally_past}
use Rattle.model.proofs.Order.{before_cases, less_first, not_first, not_rest, same_first}
use Rattle.model.specs.Loads.{Fits, fits, total_of}
use Rattle.model.specs.Order.{before}
use Rattle.model.specs.Parts.{Part}
use Rattle.model.specs.Sets.{has}
use Rattle.search.specs.Search.{Highest, Least, NoneFrom, closes, is_closed_at, raises}
use Rattle.search.specs.Seen.{Right, kinds_in, no_part, part_in, parts_in}
use Rattle.search.specs.declared.marks.Marks.{Marks}

pub parts_long : (m : Marks) → length (parts_in m) ≡ kinds_in m
parts_long m = length_parts m.parts.kinds.now m.parts.sets.now m.parts.same

-- ---- the marks, in the subject's words

module _ (adm : ℕ → Bool) (m : Marks) (right : Right adm m) where
  cheap : (i : ℕ) → AllByRecursion Cheap (drop i (parts_in m))
  cheap i = All-drop Cheap i (parts_in m) (cheap_parts m.parts.kinds.now m.parts.sets.now)

  mark_at : (i b : ℕ) → i ≤ kinds_in m → b < m.width → get_or m.cells.now (i * m.width + b) 0 ≡ tally_past yes_no adm (drop i (parts_in m)) b
  mark_at i b h l = holds_at 0 (length (parts_in m) + 1) m.width (λ i b. tally_past yes_no adm (drop i (parts_in m)) b) m.cells.now right.marks i b (omega (arith, parts_long m)) l

  -- a mark says that the kinds from i on can close
  pub mark_means : (i b : ℕ) → i ≤ kinds_in m → is_closed_at m i b ≡ true → Closes adm (drop i (parts_in m)) b
  mark_means i b h y =
      let two = and_parts (ltb b m.width) (eqb (get_or m.cells.now (i * m.width + b) 0) 1) y in
      closed adm (drop i (parts_in m)) (cheap i) b (sym (mark_at i b h (ltb-true b m.width two.0)) ∙ eqb-true (get_or m.cells.now (i * m.width + b) 0) 1 two.1)

  pub means_mark : (i b : ℕ) → i ≤ kinds_in m → Closes adm (drop i (parts_in m)) b → is_closed_at m i b ≡ true
  means_mark i b h k =
      let low : b < m.width = omega (arith, right.bound (b + total_of (drop i (parts_in m)) k.0) k.1.1) in
      and_from (ltb b m.width) (eqb (get_or m.cells.now (i * m.width + b) 0) 1) (lt-ltb b m.width low)
      (eq-eqb (get_or m.cells.now (i * m.width + b) 0) 1 (mark_at i b h low ∙ close adm (drop i (parts_in m)) (cheap i) b k))

  pub closes_means : (i b d : ℕ) → i < kinds_in m → closes m i b d ≡ true → (has (part_in m i).standing d ≡ true) × Closes adm (drop (i + 1) (parts_in m)) (b + (part_in m i).size * d)
  closes_means i b d lt y =
      let one = and_parts (has (part_in m i).standing d) (is_closed_at m (i + 1) (b + (part_in m i).size * d)) y in
      (one.0, mark_means (i + 1) (b + (part_in m i).size * d) (omega arith) one.1)

  pub means_closes : (i b d : ℕ) → i < kinds_in m → has (part_in m i).standing d ≡ true → Closes adm (drop (i + 1) (parts_in m)) (b + (part_in m i).size * d) → closes m i b d ≡ true
  means_closes i b d lt y k =
      and_from (has (part_in m i).standing d) (is_closed_at m (i + 1) (b + (part_in m i).size * d)) y
      (means_mark (i + 1) (b + (part_in m i).size * d) (omega arith) k)

-- ---- going down with the least counts

before_nil : (y : List ℕ) → before y [] ≡ false
before_nil [] = refl
before_nil (d ∷ y) = refl

module _ (adm : ℕ → Bool) where
  pub least_none : (b : ℕ) → Closes adm [] b → Least adm [] b []
  least_none b k = record { stands = tt; closes = k.1.1; least = λ y h a. before_nil y }

  pub least_more : (p : Part) (ps : List Part) (b d : ℕ) (r : List ℕ) → d < 64 → has p.standing d ≡ true → ((e : ℕ) → e < d → has p.standing e ≡ true → Closes adm ps (b + p.size * e) → ⊥) → Least adm ps (b + p.size * d) r → Least adm (p ∷ ps) b (d ∷ r)
  least_more p ps b d r low y none l = record {
    stands = (low, y, l.stands);
    closes = sym (ap adm (add_assoc b (p.size * d) (total_of ps r))) ∙ l.closes;
    least = at;
  }
    where
      at : (c : List ℕ) → Stands (p ∷ ps) c → adm (b + total_of (p ∷ ps) c) ≡ true → before c (d ∷ r) ≡ false
      at [] h a = absurd h
      at (e ∷ c) h a =
          let a' : adm (b + p.size * e + total_of ps c) ≡ true = ap adm (add_assoc b (p.size * e) (total_of ps c)) ∙ a in
          elim (cases_order e d) [
            | inl same ↦ not_rest e d c r (omega arith) (l.least c h.2 (ap (λ n. adm (b + p.size * n + total_of ps c)) (sym same) ∙ a'))
            | inr o ↦ elim o [
              | inl less ↦ absurd (none e less h.1 (c, (h.2, a')))
              | inr more ↦ not_first e d c r more
            ]
          ]

  -- Of the counts for the places from `from` on the first i are filled: what is least after them is least with them.
  pub record Filling (ps : List Part) (from b₀ i b : ℕ) (counts : List ℕ) : Type 0 where
    pub closes : Closes adm (drop (from + i) ps) b
    pub rest : (r : List ℕ) → Least adm (drop (from + i) ps) b r → Least adm (drop from ps) b₀ (take i counts ++ r)

  pub fill_more : (ps : List Part) (from b₀ i b : ℕ) (counts : List ℕ) (p : Part) (d : ℕ) → from + i < length ps → i < length counts → p ≡ get_or ps (from + i) no_part → d < 64 → has p.standing d ≡ true → Closes adm (drop (from + i + 1) ps) (b + p.size * d) → ((e : ℕ) → e < d → has p.standing e ≡ true → Closes adm (drop (from + i + 1) ps) (b + p.size * e) → ⊥) → Filling ps from b₀ i b counts → Filling ps from b₀ (i + 1) (b + p.size * d) (set counts i d)
  fill_more ps from b₀ i b counts p d lt in' e low y k none f =
      let split : drop (from + i) ps ≡ p ∷ drop (from + i + 1) ps = drop_more ps (from + i) no_part lt ∙ ap (λ q. q ∷ drop (from + i + 1) ps) (sym e) in
      let next : from + (i + 1) ≡ from + i + 1 = omega arith in
      let C : ℕ → Type 0 = λ n. Closes adm (drop n ps) (b + p.size * d) in
      record {
        closes = subst C (sym next) k;
        rest = λ r l.
            let P : List Part → Type 0 = λ qs. Least adm qs b (d ∷ r) in
            let L : ℕ → Type 0 = λ n. Least adm (drop n ps) (b + p.size * d) r in
            let Q : List ℕ → Type 0 = λ xs. Least adm (drop from ps) b₀ xs in
            let same : take i counts ++ d ∷ r ≡ take (i + 1) (set counts i d) ++ r = sym (ap (λ xs. xs ++ r) (take_more_set counts i d in') ∙ append_assoc (take i counts) (d ∷ []) r) in
            subst Q same (f.rest (d ∷ r) (subst P (sym split) (least_more p (drop (from + i + 1) ps) b d r low y none (subst L next l))));
      }

  pub fill_all : (ps : List Part) (from b₀ i b : ℕ) (counts : List ℕ) → length ps ≤ from + i → length counts ≤ i → Filling ps from b₀ i b counts → Least adm (drop from ps) b₀ counts
  fill_all ps from b₀ i b counts le le' f =
      let none : drop (from + i) ps ≡ [] = drop_all (from + i) ps le in
      let C : List Part → Type 0 = λ qs. Closes adm qs b in
      let L : List Part → Type 0 = λ qs. Least adm qs b [] in
      let Q : List ℕ → Type 0 = λ xs. Least adm (drop from ps) b₀ xs in
      subst Q (append-nil (take i counts) ∙ take_all i counts le') (f.rest [] (subst L (sym none) (least_none b (subst C none f.closes))))

  -- ---- the kind to raise

  -- with standing counts before place i, the count d at i is above the one given and can be closed
  pub record RaisesAt (ps : List Part) (b : ℕ) (g : List ℕ) (i d : ℕ) : Type 0 where
    pub place : i < length ps
    pub stands : Stands (take i ps) (take i g)
    pub above : get_or g i 0 < d
    pub count : d < 64
    pub member : has (get_or ps i no_part).standing d ≡ true
    pub closes : Closes adm (drop (suc i) ps) (b + total_to ps g i + (get_or ps i no_part).size * d)

  raise_here : (p : Part) (ps : List Part) (b c : ℕ) (g : List ℕ) (e : ℕ) → c < e → e < 64 → has p.standing e ≡ true → Closes adm ps (b + p.size * e) → RaisesAt (p ∷ ps) b (c ∷ g) 0 e
  raise_here p ps b c g e lt low y k = record {
    place = omega arith;
    stands = tt;
    above = lt;
    count = low;
    member = y;
    closes = let C : ℕ → Type 0 = λ n. Closes adm ps n in let same : b + p.size * e ≡ b + 0 + p.size * e = omega arith in subst C same k;
  }

  raise_there : (p : Part) (ps : List Part) (b c : ℕ) (g : List ℕ) (i d : ℕ) → c < 64 → has p.standing c ≡ true → RaisesAt ps (b + p.size * c) g i d → RaisesAt (p ∷ ps) b (c ∷ g) (suc i) d
  raise_there p ps b c g i d low y r = record {
    place = omega (arith, r.place);
    stands = (low, y, r.stands);
    above = r.above;
    count = r.count;
    member = r.member;
    closes =
        let C : ℕ → Type 0 = λ n. Closes adm (drop (suc i) ps) n in
        let same : b + p.size * c + total_to ps g i + (get_or ps i no_part).size * d ≡ b + (p.size * c + total_to ps g i) + (get_or ps i no_part).size * d = omega arith in
        subst C same r.closes;
  }

  raise_below : (p : Part) (ps : List Part) (b c : ℕ) (g : List ℕ) (i d : ℕ) → RaisesAt (p ∷ ps) b (c ∷ g) (suc i) d → RaisesAt ps (b + p.size * c) g i d
  raise_below p ps b c g i d r = record {
    place = omega (arith, r.place);
    stands = r.stands.2;
    above = r.above;
    count = r.count;
    member = r.member;
    closes =
        let C : ℕ → Type 0 = λ n. Closes adm (drop (suc i) ps) n in
        let same : b + (p.size * c + total_to ps g i) + (get_or ps i no_part).size * d ≡ b + p.size * c + total_to ps g i + (get_or ps i no_part).size * d = omega arith in
        subst C same r.closes;
  }

  -- the total with the first count put aside
  pub shifted : (p : Part) (ps : List Part) (b c e : ℕ) (y : List ℕ) → c ≡ e → adm (b + (p.size * e + total_of ps y)) ≡ true → adm (b + p.size * c + total_of ps y) ≡ true
  shifted p ps b c e y same a = ap adm (add_assoc b (p.size * c) (total_of ps y) ∙ ap (λ n. b + (p.size * n + total_of ps y)) same) ∙ a

  -- where a fitting load comes after the bytes given, some place can be raised
  pub some_raise : (ps : List Part) (b : ℕ) (g y : List ℕ) → length g ≡ length ps → Stands ps y → adm (b + total_of ps y) ≡ true → before g y ≡ true → (i : ℕ) × (d : ℕ) × RaisesAt ps b g i d
  some_raise ps b [] y n h a l = absurd (false≢true l)
  some_raise [] b (c ∷ g) y n h a l = absurd (omega arith)
  some_raise (p ∷ ps) b (c ∷ g) [] n h a l = absurd h
  some_raise (p ∷ ps) b (c ∷ g) (e ∷ y) n h a l =
      elim (before_cases c e g y l) [
        | inl less ↦ (0, e, raise_here p ps b c g e less h.0 h.1 (y, (h.2, shifted p ps b e e y refl a)))
        | inr same ↦
            let t = some_raise ps (b + p.size * c) g y (omega arith) h.2 (shifted p ps b c e y same.0 a) same.1 in
            (suc t.0, t.1, raise_there p ps b c g t.0 t.1 (omega (arith, same.0, h.0)) (ap (has p.standing) same.0 ∙ h.1) t.2)
      ]

  -- c is, of the choices that come after the bytes g and that close from b, the first
  pub record After (ps : List Part) (b : ℕ) (g c : List ℕ) : Type 0 where
    pub stands : Stands ps c
    pub closes : adm (b + total_of ps c) ≡ true
    pub after : before g c ≡ true
    pub least : (y : List ℕ) → Stands ps y → adm (b + total_of ps y) ≡ true → before g y ≡ true → before y c ≡ false

  after_longer : (p : Part) (ps : List Part) (b c : ℕ) (g x : List ℕ) → c < 64 → has p.standing c ≡ true → After ps (b + p.size * c) g x → After (p ∷ ps) b (c ∷ g) (c ∷ x)
  after_longer p ps b c g x low y m = record {
    stands = (low, y, m.stands);
    closes = sym (ap adm (add_assoc b (p.size * c) (total_of ps x))) ∙ m.closes;
    after = same_first c g x m.after;
    least = at;
  }
    where
      at : (z : List ℕ) → Stands (p ∷ ps) z → adm (b + total_of (p ∷ ps) z) ≡ true → before (c ∷ g) z ≡ true → before z (c ∷ x) ≡ false
      at [] h a k = absurd h
      at (f ∷ z) h a k =
          elim (before_cases c f g z k) [
            | inl less ↦ not_first f c z x less
            | inr same ↦ not_rest f c z x (omega (arith, same.0)) (m.least z h.2 (shifted p ps b c f z same.0 a) same.1)
          ]

  -- THE NEXT LOAD: the last place that can be raised, its least count, and then the least rest
  pub raised_next : (ps : List Part) (b : ℕ) (g : List ℕ) (i d t : ℕ) (r : List ℕ) → length g ≡ length ps → RaisesAt ps b g i d → ((e : ℕ) → e < d → RaisesAt ps b g i e → ⊥) → ((j e : ℕ) → i < j → RaisesAt ps b g j e → ⊥) → t ≡ b + total_to ps g i + (get_or ps i no_part).size * d → Least adm (drop (suc i) ps) t r → After ps b g (take i g ++ d ∷ r)
  raised_next [] b g i d t r n up least last e l = absurd (omega (arith, up.place))
  raised_next (p ∷ ps) b [] i d t r n up least last e l = absurd (omega arith)
  raised_next (p ∷ ps) b (c ∷ g) zero d t r n up least last e l = record {
    stands = (up.count, up.member, l'.stands);
    closes = sym (ap adm (add_assoc b (p.size * d) (total_of ps r))) ∙ l'.closes;
    after = less_first c d g r up.above;
    least = at;
  }
    where
      l' : Least adm ps (b + p.size * d) r
      l' = let L : ℕ → Type 0 = λ n. Least adm ps n r in let same : t ≡ b + p.size * d = omega arith in subst L same l

      at : (y : List ℕ) → Stands (p ∷ ps) y → adm (b + total_of (p ∷ ps) y) ≡ true → before (c ∷ g) y ≡ true → before y (d ∷ r) ≡ false
      at [] h a k = absurd h
      at (f ∷ y) h a k =
          elim (before_cases c f g y k) [
            | inl less ↦ elim (cases_order f d) [
              | inl same ↦ not_rest f d y r (omega arith) (l'.least y h.2 (shifted p ps b d f y (sym same) a))
              | inr o ↦ elim o [
                | inl under ↦ absurd (least f under (raise_here p ps b c g f less h.0 h.1 (y, (h.2, shifted p ps b f f y refl a))))
                | inr over ↦ not_first f d y r over
              ]
            ]
            | inr same ↦
                let s = some_raise ps (b + p.size * c) g y (omega arith) h.2 (shifted p ps b c f y same.0 a) same.1 in
                absurd (last (suc s.0) s.1 (omega arith) (raise_there p ps b c g s.0 s.1 (omega (arith, same.0, h.0)) (ap (has p.standing) same.0 ∙ h.1) s.2))
          ]
  raised_next (p ∷ ps) b (c ∷ g) (suc i) d t r n up least last e l =
      after_longer p ps b c g (take i g ++ d ∷ r) up.stands.0 up.stands.1
      (raised_next ps (b + p.size * c) g i d t r (omega arith) (raise_below p ps b c g i d up)
      (λ f lt k. least f lt (raise_there p ps b c g i f up.stands.0 up.stands.1 k))
      (λ j f lt k. last (suc j) f (omega arith) (raise_there p ps b c g j f up.stands.0 up.stands.1 k))
      (omega arith) l)

-- ---- standing counts in front

pub total_more : (ps : List Part) (g : List ℕ) (i : ℕ) → i < length ps → i < length g → total_to ps g (suc i) ≡ total_to ps g i + (get_or ps i no_part).size * get_or g i 0
total_more [] g i h l = absurd (omega arith)
total_more (p ∷ ps) [] i h l = absurd (omega arith)
total_more (p ∷ ps) (c ∷ g) zero h l = omega arith
total_more (p ∷ ps) (c ∷ g) (suc i) h l = let t = total_more ps g i (omega arith) (omega arith) in omega arith

pub stands_more : (ps : List Part) (g : List ℕ) (i : ℕ) → i < length ps → i < length g → Stands (take i ps) (take i g) → get_or g i 0 < 64 → has (get_or ps i no_part).standing (get_or g i 0) ≡ true → Stands (take (suc i) ps) (take (suc i) g)
stands_more [] g i h l s low y = absurd (omega arith)
stands_more (p ∷ ps) [] i h l s low y = absurd (omega arith)
stands_more (p ∷ ps) (c ∷ g) zero h l s low y = (low, y, tt)
stands_more (p ∷ ps) (c ∷ g) (suc i) h l s low y = (s.0, s.1, stands_more ps g i (omega arith) (omega arith) s.2 low y)

pub stands_there : (ps : List Part) (g : List ℕ) (i j : ℕ) → i < j → i < length ps → i < length g → Stands (take j ps) (take j g) → (get_or g i 0 < 64) × (has (get_or ps i no_part).standing (get_or g i 0) ≡ true)
stands_there [] g i j lt h l s = absurd (omega arith)
stands_there (p ∷ ps) [] i j lt h l s = absurd (omega arith)
stands_there (p ∷ ps) (c ∷ g) i zero lt h l s = absurd (omega arith)
stands_there (p ∷ ps) (c ∷ g) zero (suc j) lt h l s = (s.0, s.1)
stands_there (p ∷ ps) (c ∷ g) (suc i) (suc j) lt h l s = stands_there ps g i j (omega arith) (omega arith) (omega arith) s.2

-- ---- the loops over the places

pub total_step : (ps : List Part) (g : List ℕ) (i t : ℕ) → i < length ps → i < length g → t ≡ total_to ps g i → t + (get_or ps i no_part).size * get_or g i 0 ≡ total_to ps g (i + 1)
total_step ps g i t lt lt' h =
    let m = total_more ps g i lt lt' in
    let n : t + (get_or ps i no_part).size * get_or g i 0 ≡ total_to ps g (suc i) = omega arith in
    n ∙ ap (total_to ps g) (sym (add-one i))

pub stands_step : (ps : List Part) (g : List ℕ) (i : ℕ) (b : Bool) → i < length ps → i < length g → ((j : ℕ) → j ≤ i → Stands (take j ps) (take j g)) → b ≡ (ltb (get_or g i 0) 64 && has (get_or ps i no_part).standing (get_or g i 0)) → b ≡ true → (j : ℕ) → j ≤ i + 1 → Stands (take j ps) (take j g)
stands_step ps g i b lt lt' old is y j le =
    let two = and_parts (ltb (get_or g i 0) 64) (has (get_or ps i no_part).standing (get_or g i 0)) (sym is ∙ y) in
    let P : ℕ → Type 0 = λ k. Stands (take k ps) (take k g) in
    elim (cases_eq j (i + 1)) [
      | inl same ↦ subst P (sym (same ∙ add-one i)) (stands_more ps g i lt lt' (old i (omega arith)) (ltb-true (get_or g i 0) 64 two.0) two.1)
      | inr other ↦ old j (omega arith)
    ]

pub stands_ends : (ps : List Part) (g : List ℕ) (i : ℕ) (b : Bool) → i < length ps → i < length g → b ≡ (ltb (get_or g i 0) 64 && has (get_or ps i no_part).standing (get_or g i 0)) → b ≡ false → (j : ℕ) → i + 1 ≤ j → Stands (take j ps) (take j g) → ⊥
stands_ends ps g i b lt lt' is n j le s =
    let t = stands_there ps g i j (omega arith) lt lt' s in
    both_ways b n (is ∙ and_from (ltb (get_or g i 0) 64) (has (get_or ps i no_part).standing (get_or g i 0)) (lt-ltb (get_or g i 0) 64 t.0) t.1)

-- of the total of the bytes up to and with place i, the part of the byte at i can be taken off
pub taken_off : (m : Marks) (g : List ℕ) (i j total v : ℕ) → i < kinds_in m → length g ≡ kinds_in m → i + 1 ≡ j → total ≡ total_to (parts_in m) g j → v ≡ (part_in m i).size * get_or g i 0 → (v ≤ total) × (total - v ≡ total_to (parts_in m) g i)
taken_off m g i j total v lt f next sum is =
    let step = total_step (parts_in m) g i (total_to (parts_in m) g i) (omega (arith, parts_long m)) (omega arith) refl ∙ ap (total_to (parts_in m) g) next in
    (omega arith, omega arith)

-- none from i + 1 on, and none at i
pub lower : (m : Marks) (g : List ℕ) (i : ℕ) → NoneFrom m g (i + 1) → ((d : ℕ) → d < 64 → raises m g i d ≡ false) → NoneFrom m g i
lower m g i above here j d a l low s =
    elim (cases_eq j i) [
      | inl e ↦ ap (λ k. raises m g k d) e ∙ here d low
      | inr ne ↦ above j d (omega arith) l low s
    ]

-- where the parts p and qs can close, some count of p can
pub closing : (adm : ℕ → Bool) (p : Part) (qs : List Part) (b : ℕ) (c : List ℕ) → Stands (p ∷ qs) c → adm (b + total_of (p ∷ qs) c) ≡ true → (d : ℕ) × ((d < 64) × (has p.standing d ≡ true) × Closes adm qs (b + p.size * d))
closing adm p qs b [] h a = absurd h
closing adm p qs b (d ∷ c) h a = (d, (h.0, h.1, (c, (h.2, shifted adm p qs b d d c refl a))))

-- ---- the answers

module _ (adm : ℕ → Bool) (m : Marks) (right : Right adm m) where
  pub some_closes : (i : ℕ) → i < kinds_in m → (b : ℕ) → Closes adm (drop i (parts_in m)) b → (d : ℕ) × ((d < 64) × (closes m i b d ≡ true))
  some_closes i lt b k =
      let C : List Part → Type 0 = λ qs. Closes adm qs b in
      let k' = subst C (drop_more (parts_in m) i no_part (omega (arith, parts_long m))) k in
      let t = closing adm (part_in m i) (drop (i + 1) (parts_in m)) b k'.0 k'.1.0 k'.1.1 in
      (t.0, (t.1.0, means_closes adm m right i b t.0 lt t.1.1 t.1.2))

  -- what can close is below the width
  pub closes_low : (qs : List Part) (b : ℕ) → Closes adm qs b → b < m.width
  closes_low qs b k = omega (arith, right.bound (b + total_of qs k.0) k.1.1)

  from_zero : (n : ℕ) → adm n ≡ true → adm (0 + n) ≡ true
  from_zero n a = ap adm (zero-add n) ∙ a

  to_zero : (n : ℕ) → adm (0 + n) ≡ true → adm n ≡ true
  to_zero n a = sym (ap adm (zero-add n)) ∙ a

  pub first_none : is_closed_at m 0 0 ≡ false → (y : List ℕ) → Fits adm (parts_in m) y → ⊥
  first_none unmarked y f = both_ways (is_closed_at m 0 0) unmarked (means_mark adm m right 0 0 (omega arith) (y, (f.0, from_zero (total_of (parts_in m) y) f.1)))

  pub least_first : (x : List ℕ) → Least adm (parts_in m) 0 x → IsFirst adm (parts_in m) x
  least_first x l = record {
    fits = (l.stands, to_zero (total_of (parts_in m) x) l.closes);
    none_before = λ y f. l.least y f.0 (from_zero (total_of (parts_in m) y) f.1);
  }

  pub first_gives : (x entry : List ℕ) → IsFirst adm (parts_in m) x → Gives (first_load adm (parts_in m)) entry true x
  first_gives x entry h =
      let e = first_of_loads adm (parts_in m) x h.fits h.none_before in
      record { answer = sym (ap is_some e); load = sym (ap (λ o. or_kept o entry) e) }

  pub none_gives : (entry : List ℕ) → ((y : List ℕ) → Fits adm (parts_in m) y → ⊥) → Gives (first_load adm (parts_in m)) entry false entry
  none_gives entry none =
      let e = none_of_loads adm (parts_in m) none in
      record { answer = sym (ap is_some e); load = sym (ap (λ o. or_kept o entry) e) }

  -- raising, by the marks and in the subject's words
  module _ (g : List ℕ) (long : length g ≡ kinds_in m) where
    pub raise_means : (i d : ℕ) → i < kinds_in m → Stands (take i (parts_in m)) (take i g) → d < 64 → raises m g i d ≡ true → RaisesAt adm (parts_in m) 0 g i d
    raise_means i d lt s low y =
        let p = part_in m i in
        let b = total_to (parts_in m) g i in
        let two = and_parts (ltb (get_or g i 0) d) (closes m i b d) y in
        let k = closes_means adm m right i b d lt two.1 in
        let C : ℕ → Type 0 = λ n. Closes adm (drop n (parts_in m)) (b + p.size * d) in
        let D : ℕ → Type 0 = λ n. Closes adm (drop (suc i) (parts_in m)) n in
        let same : b + p.size * d ≡ 0 + b + p.size * d = omega arith in
        record { place = omega (arith, parts_long m); stands = s; above = ltb-true (get_or g i 0) d two.0; count = low; member = k.0; closes = subst D same (subst C (add-one i) k.1) }

    pub means_raise : (i d : ℕ) → RaisesAt adm (parts_in m) 0 g i d → raises m g i d ≡ true
    means_raise i d r =
        let p = part_in m i in
        let b = total_to (parts_in m) g i in
        let C : ℕ → Type 0 = λ n. Closes adm (drop n (parts_in m)) (b + p.size * d) in
        let D : ℕ → Type 0 = λ n. Closes adm (drop (suc i) (parts_in m)) n in
        let same : 0 + b + p.size * d ≡ b + p.size * d = omega arith in
        and_from (ltb (get_or g i 0) d) (closes m i b d) (lt-ltb (get_or g i 0) d r.above)
        (means_closes adm m right i b d (omega (arith, parts_long m, r.place)) r.member (subst C (sym (add-one i)) (subst D same r.closes)))

    pub next_none : NoneFrom m g 0 → (y : List ℕ) → Fits adm (parts_in m) y → before g y ≡ true → ⊥
    next_none none y f l =
        let t = some_raise adm (parts_in m) 0 g y (long ∙ sym (parts_long m)) f.0 (from_zero (total_of (parts_in m) y) f.1) l in
        let r = t.2 in
        both_ways (raises m g t.0 t.1) (none t.0 t.1 (omega arith) (omega (arith, parts_long m, r.place)) r.count r.stands) (means_raise t.0 t.1 r)

    -- what can be closed after the raise
    pub raise_closes : (i d t : ℕ) → Highest m g i d t → Closes adm (drop (i + 1) (parts_in m)) t
    raise_closes i d t h =
        let b = total_to (parts_in m) g i in
        let two = and_parts (ltb (get_or g i 0) d) (closes m i b d) h.raised in
        let D : ℕ → Type 0 = λ n. Closes adm (drop (i + 1) (parts_in m)) n in
        subst D (sym h.total) (closes_means adm m right i b d h.place two.1).1

    pub raise_next : (i d t : ℕ) (r : List ℕ) → Highest m g i d t → Least adm (drop (i + 1) (parts_in m)) t r → IsNext adm (parts_in m) g (take i g ++ d ∷ r)
    raise_next i d t r h rest =
        let x = take i g ++ d ∷ r in
        let L : ℕ → Type 0 = λ n. Least adm (drop n (parts_in m)) t r in
        let total : t ≡ 0 + total_to (parts_in m) g i + (part_in m i).size * d = omega (arith, h.total) in
        let a = raised_next adm (parts_in m) 0 g i d t r (long ∙ sym (parts_long m)) (raise_means i d h.place h.stands h.count h.raised)
        (λ e low k. both_ways (raises m g i e) (h.least e low) (means_raise i e k))
        (λ j e later k. both_ways (raises m g j e) (h.last j e (omega arith) (omega (arith, parts_long m, k.place)) k.count k.stands) (means_raise j e k))
        total (subst L (add-one i) rest) in
        record {
          fits = (a.stands, to_zero (total_of (parts_in m) x) a.closes);
          after = a.after;
          none_between = λ y f l. a.least y f.0 (from_zero (total_of (parts_in m) y) f.1) l;
        }

    pub next_gives : (x : List ℕ) → IsNext adm (parts_in m) g x → Gives (next_load adm (parts_in m) g) g true x
    next_gives x h =
        let e = first_kept adm (parts_in m) (before g) x h.fits h.after h.none_between in
        record { answer = sym (ap is_some e); load = sym (ap (λ o. or_kept o g) e) }

    pub none_next_gives : ((y : List ℕ) → Fits adm (parts_in m) y → before g y ≡ true → ⊥) → Gives (next_load adm (parts_in m) g) g false g
    none_next_gives none =
        let e = none_kept adm (parts_in m) (before g) none in
        record { answer = sym (ap is_some e); load = sym (ap (λ o. or_kept o g) e) }

-- the same as an element of the list of fitting loads
pub gives_same : (o o' : Option (List ℕ)) (entry : List ℕ) (r : Bool) (x : List ℕ) → o ≡ o' → Gives o entry r x → Gives o' entry r x
gives_same o o' entry r x e h = let P : Option (List ℕ) → Type 0 = λ v. Gives v entry r x in subst P e h

pub first_in_run : (adm : ℕ → Bool) (ps : List Part) (g : List ℕ) (r : Bool) (x : List ℕ) → Gives (first_load adm ps) g r x → Gives (slice_get (fits adm ps) 0) g r x
first_in_run adm ps g r x h = gives_same (first_load adm ps) (slice_get (fits adm ps) 0) g r x (head_nth (fits adm ps)) h

pub next_in_run : (adm : ℕ → Bool) (ps : List Part) (g : List ℕ) (r : Bool) (x : List ℕ) → Gives (next_load adm ps g) g r x → (k : ℕ) → slice_get (fits adm ps) k ≡ Some g → Gives (slice_get (fits adm ps) (k + 1)) g r x
next_in_run adm ps g r x h k e = gives_same (next_load adm ps g) (slice_get (fits adm ps) (k + 1)) g r x (next_nth adm ps k g e ∙ ap (slice_get (fits adm ps)) (sym (add-one k))) h
