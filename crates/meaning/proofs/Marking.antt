-- A yes-no tally says whether there is a choice; and a count is used where a forward and a backward mark meet.
use Rattle.std.proofs.Common.{◌≡◌, ℕ, zero, suc, ◌+◌, ◌*◌, ◌<◌, ◌≤◌, Bool, true, false, not, eqb, ◌⊎◌, List, [], ◌∷◌, ◌++◌, length, get_or, take, drop, Decides, filter, sym, refl, ap, ◌∙◌, subst, inl, inr, zero-add, add-one, arith}
use lib.Bits.{bit_and, bit_or}
use Rattle.std.specs.List.{AllByRecursion}
use Rattle.std.proofs.ByRecursion.{all_kept_by, All-take, All-drop, kept_by_passes}
use Rattle.std.proofs.lemmas.Bool.{eqb-true, eq-eqb, false≢true}
use Rattle.meaning.specs.Cells.{Holds, tallies, tallies_back}
use Rattle.meaning.specs.Marks.{Cheap, Closes, Meets, Reaches, Stands}
use Rattle.meaning.specs.Models.{yes_no}
use Rattle.meaning.specs.Problems.{has_at, is_empty, uses}
use Rattle.meaning.specs.Tallies.{chain_of, choices_of, tally_at, tally_by, tally_past}
use Rattle.model.specs.Loads.{fits, total_of}
use Rattle.model.specs.declared.kind.Kind.{Kind}
use Rattle.model.specs.Parts.{Part, parts, sets_of}
use Rattle.model.specs.Sets.{has}
use Rattle.meaning.proofs.Lawful.{yes_no_laws}
use Rattle.model.proofs.Lists.{In, in_kept, all_in, all_both}
use Rattle.model.proofs.Listed.{choices_within, within_listed}
use Rattle.meaning.proofs.Lists.{kept_in, some_in, in_some, same_test}
use Rattle.meaning.proofs.Joins.{S, join_of_S}
use Rattle.meaning.proofs.Grid.{holds_at}
use Rattle.meaning.proofs.Choosing.{has_chains, has_tally}

-- some fitting load of standing counts has the count d for the kind at i
abbrev Uses : (ℕ → Bool) → List Part → ℕ → ℕ → Type 0
Uses admitted ps i d = (c : List ℕ) × (Stands ps c × (admitted (total_of ps c) ≡ true) × (get_or c i 0 ≡ d))

-- the chain of yes-no worths is yes
chain_yes : (ps : List Part) (c : List ℕ) → chain_of yes_no ps c ≡ 1
chain_yes [] c = refl
chain_yes (p ∷ ps) [] = refl
chain_yes (p ∷ ps) (d ∷ c) = ap (bit_and 1) (chain_yes ps c)

or_one : (v : ℕ) → v ≤ 1 → bit_or 1 v ≡ 1
or_one zero h = refl
or_one (suc zero) h = refl
or_one (suc (suc v)) h = absurd (omega arith)

-- a join of yeses is yes where there is one, and else no
join_yes : {X : Type 0} (f : X → ℕ) → ((x : X) → f x ≡ 1) → (xs : List X) → ((xs ≡ []) × (S yes_no f xs ≡ 0)) ⊎ (S yes_no f xs ≡ 1)
join_yes f e [] = inl (refl, refl)
join_yes f e (x ∷ xs) =
    inr (ap (λ v. bit_or v (S yes_no f xs)) (e x) ∙ or_one (S yes_no f xs) (elim (join_yes f e xs) [ inl z ↦ omega (arith, z.1) | inr y ↦ omega (arith, y) ]))

first_of : {X : Type 0} (P : X → Type 0) (f : X → ℕ) → ((x : X) → f x ≡ 1) → (xs : List X) → AllByRecursion P xs → S yes_no f xs ≡ 1 → (x : X) × P x
first_of P f e [] a y = absurd (omega arith)
first_of P f e (x ∷ xs) a y = (x, a.0)

yes_of : {X : Type 0} (f : X → ℕ) → ((x : X) → f x ≡ 1) → (x : X) (xs : List X) → In x xs → S yes_no f xs ≡ 1
yes_of f e x [] h = absurd h
yes_of f e x (y ∷ xs) h = elim (join_yes f e (y ∷ xs)) [ inl z ↦ absurd (let n : ◌≡◌ {A = ℕ} 0 1 = cc in omega arith) | inr y ↦ y ]

-- THE MARK: the yes-no tally over the choices that pass t is 1 exactly where some choice of standing counts passes t
by_S : (t : List ℕ → Bool) (ps : List Part) → AllByRecursion Cheap ps → tally_by yes_no t ps ≡ S yes_no (chain_of yes_no ps) (filter t (choices_of ps))
unfolding tally_by
by_S t ps a =
    join_of_S yes_no yes_no_laws (λ c. yes_no.has (chain_of yes_no ps c)) (chain_of yes_no ps) (λ c h. h) (filter t (choices_of ps)) (all_kept_by t (λ c. yes_no.has (chain_of yes_no ps c)) (choices_of ps) (has_chains yes_no yes_no_laws ps a))

pub mark_some : (t : List ℕ → Bool) (ps : List Part) → AllByRecursion Cheap ps → tally_by yes_no t ps ≡ 1 → (c : List ℕ) × (Stands ps c × (t c ≡ true))
mark_some t ps a y =
    first_of (λ c. Stands ps c × (t c ≡ true)) (chain_of yes_no ps) (chain_yes ps) (filter t (choices_of ps))
    (all_both (Stands ps) (λ c. t c ≡ true) (filter t (choices_of ps)) (all_kept_by t (Stands ps) (choices_of ps) (choices_within (sets_of ps))) (kept_by_passes t (choices_of ps)))
    (sym (by_S t ps a) ∙ y)

pub some_mark : (t : List ℕ → Bool) (ps : List Part) → AllByRecursion Cheap ps → (c : List ℕ) → Stands ps c → t c ≡ true → tally_by yes_no t ps ≡ 1
some_mark t ps a c h y =
    by_S t ps a ∙ yes_of (chain_of yes_no ps) (chain_yes ps) c (filter t (choices_of ps)) (in_kept t c (choices_of ps) (within_listed (sets_of ps) c h) y)

pub reached : (ps : List Part) → AllByRecursion Cheap ps → (b : ℕ) → tally_at yes_no ps b ≡ 1 → Reaches ps b
reached ps a b y = let r = mark_some (λ c. eqb (total_of ps c) b) ps a y in (r.0, (r.1.0, eqb-true (total_of ps r.0) b r.1.1))

pub reach : (ps : List Part) → AllByRecursion Cheap ps → (b : ℕ) → Reaches ps b → tally_at yes_no ps b ≡ 1
reach ps a b r = some_mark (λ c. eqb (total_of ps c) b) ps a r.0 r.1.0 (eq-eqb (total_of ps r.0) b r.1.1)

pub closed : (admitted : ℕ → Bool) (ps : List Part) → AllByRecursion Cheap ps → (b : ℕ) → tally_past yes_no admitted ps b ≡ 1 → Closes admitted ps b
closed admitted ps a b y = mark_some (λ c. admitted (b + total_of ps c)) ps a y

pub close : (admitted : ℕ → Bool) (ps : List Part) → AllByRecursion Cheap ps → (b : ℕ) → Closes admitted ps b → tally_past yes_no admitted ps b ≡ 1
close admitted ps a b r = some_mark (λ c. admitted (b + total_of ps c)) ps a r.0 r.1.0 r.1.1

-- marks are bits
pub forward_bit : (ps : List Part) → AllByRecursion Cheap ps → (w : ℕ) (cells : List ℕ) → Holds (tallies yes_no ps w) cells → (i b : ℕ) → i < length ps + 1 → b < w → get_or cells (i * w + b) 0 ≤ 1
forward_bit ps a w cells held i b h l =
    let P : ℕ → Type 0 = λ v. v ≤ 1 in
    subst P (sym (holds_at 0 (length ps + 1) w (λ i b. tally_at yes_no (take i ps) b) cells held i b h l)) (has_tally yes_no yes_no_laws (λ c. eqb (total_of (take i ps) c) b) (take i ps) (All-take Cheap i ps a))

pub backward_bit : (admitted : ℕ → Bool) (ps : List Part) → AllByRecursion Cheap ps → (w : ℕ) (cells : List ℕ) → Holds (tallies_back yes_no admitted ps w) cells → (i b : ℕ) → i < length ps + 1 → b < w → get_or cells (i * w + b) 0 ≤ 1
backward_bit admitted ps a w cells held i b h l =
    let P : ℕ → Type 0 = λ v. v ≤ 1 in
    subst P (sym (holds_at 0 (length ps + 1) w (λ i b. tally_past yes_no admitted (drop i ps) b) cells held i b h l)) (has_tally yes_no yes_no_laws (λ c. admitted (b + total_of (drop i ps) c)) (drop i ps) (All-drop Cheap i ps a))

-- a load, cut at the kind i
pub stands_take : (i : ℕ) (ps : List Part) (c : List ℕ) → Stands ps c → Stands (take i ps) (take i c)
stands_take zero ps c h = tt
stands_take (suc i) [] [] h = tt
stands_take (suc i) [] (d ∷ c) h = absurd h
stands_take (suc i) (p ∷ ps) [] h = absurd h
stands_take (suc i) (p ∷ ps) (d ∷ c) h = (h.0, h.1, stands_take i ps c h.2)

pub stands_drop : (i : ℕ) (ps : List Part) (c : List ℕ) → Stands ps c → Stands (drop i ps) (drop i c)
stands_drop zero ps c h = h
stands_drop (suc i) [] [] h = tt
stands_drop (suc i) [] (d ∷ c) h = absurd h
stands_drop (suc i) (p ∷ ps) [] h = absurd h
stands_drop (suc i) (p ∷ ps) (d ∷ c) h = stands_drop i ps c h.2

stands_at : (i : ℕ) (ps : List Part) (c : List ℕ) (p : Part) → i < length ps → p ≡ get_or ps i p → Stands ps c → (get_or c i 0 < 64) × (has p.standing (get_or c i 0) ≡ true)
stands_at i [] c p l e h = absurd (omega arith)
stands_at i (q ∷ ps) [] p l e h = absurd h
stands_at zero (q ∷ ps) (d ∷ c) p l e h = (h.0, ap (λ r. has r.standing d) e ∙ h.1)
stands_at (suc i) (q ∷ ps) (d ∷ c) p l e h = stands_at i ps c p (omega arith) e h.2

total_split : (i : ℕ) (ps : List Part) (c : List ℕ) (p : Part) → i < length ps → p ≡ get_or ps i p → Stands ps c → total_of ps c ≡ total_of (take i ps) (take i c) + p.size * get_or c i 0 + total_of (drop (suc i) ps) (drop (suc i) c)
total_split i [] c p l e h = absurd (omega arith)
total_split i (q ∷ ps) [] p l e h = absurd h
total_split zero (q ∷ ps) (d ∷ c) p l e h = let s : q.size * d ≡ p.size * d = ap (λ r. r.size * d) (sym e) in omega arith
total_split (suc i) (q ∷ ps) (d ∷ c) p l e h = let s = total_split i ps c p (omega arith) e h.2 in omega arith

stands_put : (i : ℕ) (ps : List Part) (p : Part) (c : List ℕ) (d : ℕ) (r : List ℕ) → i < length ps → p ≡ get_or ps i p → Stands (take i ps) c → d < 64 → has p.standing d ≡ true → Stands (drop (suc i) ps) r → Stands ps (c ++ d ∷ r) × (total_of ps (c ++ d ∷ r) ≡ total_of (take i ps) c + p.size * d + total_of (drop (suc i) ps) r) × (get_or (c ++ d ∷ r) i 0 ≡ d)
stands_put i [] p c d r l e h low y g = absurd (omega arith)
stands_put zero (q ∷ ps) p [] d r l e h low y g = let s : q.size * d ≡ p.size * d = ap (λ x. x.size * d) (sym e) in ((low, sym (ap (λ x. has x.standing d) e) ∙ y, g), omega arith, refl)
stands_put zero (q ∷ ps) p (f ∷ c) d r l e h low y g = absurd h
stands_put (suc i) (q ∷ ps) p [] d r l e h low y g = absurd h
stands_put (suc i) (q ∷ ps) p (f ∷ c) d r l e h low y g =
    let s = stands_put i ps p c d r (omega arith) e h.2 low y g in
    let t = s.1 in
    ((h.0, h.1, s.0), omega arith, s.2)

-- THE USED COUNTS: a standing count d of the kind at i is used by some fitting load exactly where a forward mark at some b meets a backward mark at b + size × d
pub used_meets : (admitted : ℕ → Bool) (ps : List Part) (i d : ℕ) (p : Part) → i < length ps → p ≡ get_or ps i p → Uses admitted ps i d → (has p.standing d ≡ true) × ((b : ℕ) × (Reaches (take i ps) b × Closes admitted (drop (i + 1) ps) (b + p.size * d)))
used_meets admitted ps i d p l e u =
    let c = u.0 in
    let h = u.1.0 in
    let at : get_or c i 0 ≡ d = u.1.2 in
    let b = total_of (take i ps) (take i c) in
    let split = total_split i ps c p l e h in
    let size-at : p.size * get_or c i 0 ≡ p.size * d = ap (λ x. p.size * x) at in
    let whole : total_of ps c ≡ b + p.size * d + total_of (drop (suc i) ps) (drop (suc i) c) = omega arith in
    let C : ℕ → Type 0 = λ j. Closes admitted (drop j ps) (b + p.size * d) in (
      sym (ap (has p.standing) at) ∙ (stands_at i ps c p l e h).1,
      (b, ((take i c, (stands_take i ps c h, refl)), subst C (sym (add-one i)) (drop (suc i) c, (stands_drop (suc i) ps c h, sym (ap admitted whole) ∙ u.1.1)))),
    )

pub meets_used : (admitted : ℕ → Bool) (ps : List Part) (i d : ℕ) (p : Part) → i < length ps → p ≡ get_or ps i p → d < 64 → has p.standing d ≡ true → (b : ℕ) → Reaches (take i ps) b → Closes admitted (drop (i + 1) ps) (b + p.size * d) → Uses admitted ps i d
meets_used admitted ps i d p l e low y b r k =
    let C : ℕ → Type 0 = λ j. Closes admitted (drop j ps) (b + p.size * d) in
    let k' = subst C (add-one i) k in
    let s = stands_put i ps p r.0 d k'.0 l e r.1.0 low y k'.1.0 in
    let at : total_of (take i ps) r.0 ≡ b = r.1.1 in
    let t = s.1 in
    let whole : total_of ps (r.0 ++ d ∷ k'.0) ≡ b + p.size * d + total_of (drop (suc i) ps) k'.0 = omega arith in
    (r.0 ++ d ∷ k'.0, (s.0, ap admitted whole ∙ k'.1.1, s.2))

pub uses_load : (admitted : ℕ → Bool) (ps : List Part) (i d : ℕ) → uses (fits admitted ps) i d ≡ true → Uses admitted ps i d
uses_load admitted ps i d y =
    let s = some_in (λ l. has_at l i d) (fits admitted ps) y in
    let k = kept_in (λ c. admitted (total_of ps c)) s.0 (choices_of ps) s.1 in
    (s.0, (all_in (Stands ps) (choices_of ps) (choices_within (sets_of ps)) s.0 k.0, k.1, eqb-true (get_or s.0 i 0) d s.2))

pub load_uses : (admitted : ℕ → Bool) (ps : List Part) (i d : ℕ) → Uses admitted ps i d → uses (fits admitted ps) i d ≡ true
load_uses admitted ps i d u =
    in_some (λ l. has_at l i d) u.0 (fits admitted ps)
    (in_kept (λ c. admitted (total_of ps c)) u.0 (choices_of ps) (within_listed (sets_of ps) u.0 u.1.0) u.1.1) (eq-eqb (get_or u.0 i 0) d u.1.2)

-- a place that is read as 1 is within
within : (xs : List ℕ) (k : ℕ) → get_or xs k 0 ≡ 1 → k < length xs
within [] k e = absurd (omega arith)
within (x ∷ xs) zero e = omega arith
within (x ∷ xs) (suc k) e = omega (arith, within xs k e)

-- the answer of `is_used` where the count stands, from what row i of the forward table and row i + 1 of the backward table hold
pub used_is : (admitted : ℕ → Bool) (ps : List Part) (w i d : ℕ) (p : Part) (ahead back : List ℕ) (r : Bool) → ((t : ℕ) → admitted t ≡ true → t < w) → AllByRecursion Cheap ps → i < length ps → p ≡ get_or ps i p → d < 64 → has p.standing d ≡ true
    → length ahead ≡ w → length back ≡ w → ((b : ℕ) → b < w → get_or ahead b 0 ≡ tally_at yes_no (take i ps) b) → ((b : ℕ) → b < w → get_or back b 0 ≡ tally_past yes_no admitted (drop (i + 1) ps) b)
    → Decides r ((b : ℕ) × Meets ahead back (p.size * d) b) → r ≡ uses (fits admitted ps) i d
used_is admitted ps w i d p ahead back r bound a l e low y long long_back at_ahead at_back dec =
    same_test r (uses (fits admitted ps) i d)
    (λ yes'.
    let x = dec.0 yes' in
    let b = x.0 in
    load_uses admitted ps i d (meets_used admitted ps i d p l e low y b
    (reached (take i ps) (All-take Cheap i ps a) b (sym (at_ahead b (omega (arith, within ahead b x.1.0))) ∙ x.1.0))
    (closed admitted (drop (i + 1) ps) (All-drop Cheap (i + 1) ps a) (b + p.size * d) (sym (at_back (b + p.size * d) (omega (arith, within back (b + p.size * d) x.1.1))) ∙ x.1.1))))
    (λ u.
    let x = used_meets admitted ps i d p l e (uses_load admitted ps i d u) in
    let b = x.1.0 in
    let k = x.1.1.1 in
    let top : b + p.size * d + total_of (drop (i + 1) ps) k.0 < w = bound (b + p.size * d + total_of (drop (i + 1) ps) k.0) k.1.1 in
    dec.1 (
      b,
      (
        at_ahead b (omega arith) ∙ reach (take i ps) (All-take Cheap i ps a) b x.1.1.0,
        at_back (b + p.size * d) (omega arith) ∙ close admitted (drop (i + 1) ps) (All-drop Cheap (i + 1) ps a) (b + p.size * d) k,
      ),
    ))

-- and where it does not stand
pub not_used : (admitted : ℕ → Bool) (ps : List Part) (i d : ℕ) (p : Part) → i < length ps → p ≡ get_or ps i p → has p.standing d ≡ false → false ≡ uses (fits admitted ps) i d
not_used admitted ps i d p l e n =
    same_test false (uses (fits admitted ps) i d) (λ y. absurd (false≢true y))
    (λ u. absurd (false≢true (sym n ∙ (used_meets admitted ps i d p l e (uses_load admitted ps i d u)).0)))

-- there is a fitting load exactly where the backward cell (0, 0) is marked
empty_test : {X : Type 0} (xs : List X) → is_empty xs ≡ true → (x : X) → In x xs → ⊥
empty_test [] e x i = i
empty_test (y ∷ ys) e x i = false≢true e

full_test : {X : Type 0} (xs : List X) (x : X) → In x xs → is_empty xs ≡ false
full_test [] x i = absurd i
full_test (y ∷ ys) x i = refl

first_one : {X : Type 0} (xs : List X) → not (is_empty xs) ≡ true → (x : X) × In x xs
first_one [] h = absurd (false≢true h)
first_one (x ∷ xs) h = (x, inl refl)

pub some_load : (admitted : ℕ → Bool) (ps : List Part) → AllByRecursion Cheap ps → (v : ℕ) → v ≡ tally_past yes_no admitted ps 0 → eqb v 1 ≡ not (is_empty (fits admitted ps))
some_load admitted ps a v e =
    same_test (eqb v 1) (not (is_empty (fits admitted ps)))
    (λ y.
    let k = closed admitted ps a 0 (sym e ∙ eqb-true v 1 y) in
    ap not (full_test (fits admitted ps) k.0 (in_kept (λ c. admitted (total_of ps c)) k.0 (choices_of ps) (within_listed (sets_of ps) k.0 k.1.0) (ap admitted (sym (zero-add (total_of ps k.0))) ∙ k.1.1))))
    (λ n.
    let f = first_one (fits admitted ps) n in
    let k = kept_in (λ c. admitted (total_of ps c)) f.0 (choices_of ps) f.1 in
    eq-eqb v 1 (e ∙ close admitted ps a 0 (f.0, (all_in (Stands ps) (choices_of ps) (choices_within (sets_of ps)) f.0 k.0, ap admitted (zero-add (total_of ps f.0)) ∙ k.1))))

-- a count that fitting loads use stands
stands_each : (ks : List Kind) (ss : List ℕ) → length ss ≡ length ks → (c : List ℕ) → Stands (parts ks ss) c → (i : ℕ) → i < length ks → has (get_or ss i 0) (get_or c i 0) ≡ true
stands_each [] ss e c h i l = absurd (omega arith)
stands_each (k ∷ ks) [] e c h i l = absurd (omega arith)
stands_each (k ∷ ks) (s ∷ ss) e [] h i l = absurd h
stands_each (k ∷ ks) (s ∷ ss) e (d ∷ c) h zero l = h.1
stands_each (k ∷ ks) (s ∷ ss) e (d ∷ c) h (suc i) l = stands_each ks ss (omega arith) c h.2 i (omega arith)

pub used_stands : (admitted : ℕ → Bool) (ks : List Kind) (ss : List ℕ) → length ss ≡ length ks → (i d : ℕ) → i < length ks → uses (fits admitted (parts ks ss)) i d ≡ true → has (get_or ss i 0) d ≡ true
used_stands admitted ks ss e i d l y =
    let u = uses_load admitted (parts ks ss) i d y in
    sym (ap (has (get_or ss i 0)) u.1.2) ∙ stands_each ks ss e u.0 u.1.0 i l
