-- The choices rise, so the first of those that pass a test is the one that no other comes before; and the runs.
use Rattle.std.proofs.Common.{◌≡◌, ℕ, zero, suc, ◌<◌, Bool, true, false, List, [], ◌∷◌, Some, None, filter, Option, sym, refl, ap, ◌∙◌, subst, inl, inr, arith}
use Rattle.std.specs.List.{AllByRecursion, slice_get}
use Rattle.std.proofs.lemmas.Bool.{both_ways, cond-true, cond-false}
use Rattle.std.proofs.ByRecursion.{all_kept_by, All-weaker, kept_by_passes}
use Rattle.std.proofs.lemmas.Option.{slice_get_past}
use Rattle.meaning.specs.Finding.{RunRight, call_of, first_load, head_of, next_load, onwards}
use Rattle.meaning.specs.Marks.{Stands}
use Rattle.meaning.specs.Tallies.{choices_of}
use Rattle.model.proofs.Listed.{Rising, choices_rise, choices_within, kept_rises, within_listed}
use Rattle.model.proofs.Lists.{In, all_both, all_in, in_kept}
use Rattle.model.proofs.Order.{before_asym, before_itself, order_told}
use Rattle.model.specs.Loads.{Fits, fits, total_of}
use Rattle.model.specs.Order.{before}
use Rattle.model.specs.Parts.{Part, sets_of}

pub loads_rise : (adm : ℕ → Bool) (ps : List Part) → Rising (fits adm ps)
loads_rise adm ps = kept_rises (λ c. adm (total_of ps c)) (choices_of ps) (choices_rise (sets_of ps))

pub loads_fit : (adm : ℕ → Bool) (ps : List Part) → AllByRecursion (Fits adm ps) (fits adm ps)
loads_fit adm ps =
    all_both (Stands ps) (λ c. adm (total_of ps c) ≡ true) (filter (λ c. adm (total_of ps c)) (choices_of ps))
    (all_kept_by (λ c. adm (total_of ps c)) (Stands ps) (choices_of ps) (choices_within (sets_of ps))) (kept_by_passes (λ c. adm (total_of ps c)) (choices_of ps))

pub fits_listed : (adm : ℕ → Bool) (ps : List Part) (c : List ℕ) → Fits adm ps c → In c (fits adm ps)
fits_listed adm ps c h = in_kept (λ c. adm (total_of ps c)) c (choices_of ps) (within_listed (sets_of ps) c h.0) h.1

-- the element that no other comes before is the first
pub head_is : (ls : List (List ℕ)) → Rising ls → (x : List ℕ) → In x ls → AllByRecursion (λ y. before y x ≡ false) ls → head_of ls ≡ Some x
head_is [] r x i a = absurd i
head_is (l ∷ ls) r x (inl e) a = ap Some (sym e)
head_is (l ∷ ls) r x (inr i) a = absurd (both_ways (before l x) a.0 (all_in (λ m. before l m ≡ true) ls r.0 x i))

pub head_none : {X : Type 0} (ls : List X) → AllByRecursion (λ y. ⊥) ls → head_of ls ≡ None
head_none [] a = refl
head_none (l ∷ ls) a = absurd a.0

-- the fitting loads that pass t: the first of them, or none
pub first_kept : (adm : ℕ → Bool) (ps : List Part) (t : List ℕ → Bool) (x : List ℕ) → Fits adm ps x → t x ≡ true → ((y : List ℕ) → Fits adm ps y → t y ≡ true → before y x ≡ false) → head_of (filter t (fits adm ps)) ≡ Some x
first_kept adm ps t x f y least =
    let ls = fits adm ps in
    head_is (filter t ls) (kept_rises t ls (loads_rise adm ps)) x (in_kept t x ls (fits_listed adm ps x f) y)
    (All-weaker (λ c. Fits adm ps c × (t c ≡ true)) (λ c. before c x ≡ false) (λ c h. least c h.0 h.1) (filter t ls)
    (all_both (Fits adm ps) (λ c. t c ≡ true) (filter t ls) (all_kept_by t (Fits adm ps) ls (loads_fit adm ps)) (kept_by_passes t ls)))

pub none_kept : (adm : ℕ → Bool) (ps : List Part) (t : List ℕ → Bool) → ((y : List ℕ) → Fits adm ps y → t y ≡ true → ⊥) → head_of (filter t (fits adm ps)) ≡ None
none_kept adm ps t none =
    let ls = fits adm ps in
    head_none (filter t ls)
    (All-weaker (λ c. Fits adm ps c × (t c ≡ true)) (λ c. ⊥) (λ c h. none c h.0 h.1) (filter t ls)
    (all_both (Fits adm ps) (λ c. t c ≡ true) (filter t ls) (all_kept_by t (Fits adm ps) ls (loads_fit adm ps)) (kept_by_passes t ls)))

pub first_of_loads : (adm : ℕ → Bool) (ps : List Part) (x : List ℕ) → Fits adm ps x → ((y : List ℕ) → Fits adm ps y → before y x ≡ false) → first_load adm ps ≡ Some x
first_of_loads adm ps x f least =
    head_is (fits adm ps) (loads_rise adm ps) x (fits_listed adm ps x f)
    (All-weaker (Fits adm ps) (λ c. before c x ≡ false) (λ c h. least c h) (fits adm ps) (loads_fit adm ps))

pub none_of_loads : (adm : ℕ → Bool) (ps : List Part) → ((y : List ℕ) → Fits adm ps y → ⊥) → first_load adm ps ≡ None
none_of_loads adm ps none = head_none (fits adm ps) (All-weaker (Fits adm ps) (λ c. ⊥) (λ c h. none c h) (fits adm ps) (loads_fit adm ps))

-- ---- runs

pub head_nth : {X : Type 0} (ls : List X) → head_of ls ≡ slice_get ls 0
head_nth [] = refl
head_nth (l ∷ ls) = refl

kept_all : {X : Type 0} (t : X → Bool) (ls : List X) → AllByRecursion (λ x. t x ≡ true) ls → filter t ls ≡ ls
kept_all t [] a = refl
kept_all t (l ∷ ls) a = cond-true (t l) (l ∷ filter t ls) (filter t ls) a.0 ∙ ap (λ xs. l ∷ xs) (kept_all t ls a.1)

all_nth : {X : Type 0} (P : X → Type 0) (ls : List X) → AllByRecursion P ls → (k : ℕ) (x : X) → slice_get ls k ≡ Some x → P x
all_nth P [] a k x e = absurd (let z : ◌≡◌ {A = ℕ} 0 1 = cc in omega arith)
all_nth {X} P (l ∷ ls) a zero x e = let s : l ≡ x = cc in let Q : X → Type 0 = P in subst Q s a.0
all_nth P (l ∷ ls) a (suc k) x e = all_nth P ls a.1 k x e

-- after the element at k of a rising list comes the one at k + 1
pub nth_next : (ls : List (List ℕ)) → Rising ls → (k : ℕ) (x : List ℕ) → slice_get ls k ≡ Some x → head_of (filter (before x) ls) ≡ slice_get ls (suc k)
nth_next [] r k x e = refl
nth_next (l ∷ ls) r zero x e =
    let s : l ≡ x = cc in
    ap head_of (cond-false (before x l) (l ∷ filter (before x) ls) (filter (before x) ls) (ap (λ y. before y l) (sym s) ∙ before_itself l))
    ∙ ap (λ y. head_of (filter (before y) ls)) (sym s) ∙ ap head_of (kept_all (before l) ls r.0) ∙ head_nth ls
nth_next (l ∷ ls) r (suc k) x e =
    let later : before l x ≡ true = all_nth (λ m. before l m ≡ true) ls r.0 k x e in
    ap head_of (cond-false (before x l) (l ∷ filter (before x) ls) (filter (before x) ls) (before_asym l x later)) ∙ nth_next ls r.1 k x e

pub next_nth : (adm : ℕ → Bool) (ps : List Part) (k : ℕ) (x : List ℕ) → slice_get (fits adm ps) k ≡ Some x → next_load adm ps x ≡ slice_get (fits adm ps) (suc k)
next_nth adm ps k x e = nth_next (fits adm ps) (loads_rise adm ps) k x e

nth_none : {X : Type 0} (ls : List X) (k : ℕ) → slice_get ls k ≡ None → slice_get ls (suc k) ≡ None
nth_none [] k e = refl
nth_none (l ∷ ls) zero e = absurd (let z : ◌≡◌ {A = ℕ} 0 1 = cc in omega arith)
nth_none (l ∷ ls) (suc k) e = nth_none ls k e

onwards_nth : (adm : ℕ → Bool) (ps : List Part) (k : ℕ) (o : Option (List ℕ)) → slice_get (fits adm ps) k ≡ o → onwards adm ps o ≡ slice_get (fits adm ps) (suc k)
onwards_nth adm ps k None e = sym (nth_none (fits adm ps) k e)
onwards_nth adm ps k (Some x) e = next_nth adm ps k x e

pub calls : (adm : ℕ → Bool) (ps : List Part) (k : ℕ) → call_of adm ps k ≡ slice_get (fits adm ps) k
calls adm ps zero = head_nth (fits adm ps)
calls adm ps (suc k) = ap (onwards adm ps) (calls adm ps k) ∙ onwards_nth adm ps k (slice_get (fits adm ps) k) refl

in_nth : {X : Type 0} (x : X) (ls : List X) → In x ls → (k : ℕ) × (slice_get ls k ≡ Some x)
in_nth x [] i = absurd i
in_nth x (l ∷ ls) (inl e) = (0, ap Some (sym e))
in_nth x (l ∷ ls) (inr i) = let t = in_nth x ls i in (suc t.0, t.1)

-- a later element of a rising list
later_nth : (ls : List (List ℕ)) → Rising ls → (j k : ℕ) (x y : List ℕ) → j < k → slice_get ls j ≡ Some x → slice_get ls k ≡ Some y → before x y ≡ true
later_nth [] r j k x y h e f = absurd (let z : ◌≡◌ {A = ℕ} 0 1 = cc in omega arith)
later_nth (l ∷ ls) r j zero x y h e f = absurd (omega arith)
later_nth (l ∷ ls) r zero (suc k) x y h e f = let s : l ≡ x = cc in ap (λ z. before z y) (sym s) ∙ all_nth (λ m. before l m ≡ true) ls r.0 k y f
later_nth (l ∷ ls) r (suc j) (suc k) x y h e f = later_nth ls r.1 j k x y (omega arith) e f

pub run_right : (adm : ℕ → Bool) (ps : List Part) → RunRight adm ps
run_right adm ps = record {
  each = calls adm ps;
  only = λ k load e. all_nth (Fits adm ps) (fits adm ps) (loads_fit adm ps) k load (sym (calls adm ps k) ∙ e);
  all = λ load f. let t = in_nth load (fits adm ps) (fits_listed adm ps load f) in (t.0, calls adm ps t.0 ∙ t.1);
  rises = λ j k x y h e f. (order_told x y).0 (later_nth (fits adm ps) (loads_rise adm ps) j k x y h (sym (calls adm ps j) ∙ e) (sym (calls adm ps k) ∙ f));
  ends = λ k h. calls adm ps k ∙ slice_get_past (fits adm ps) k h;
}
