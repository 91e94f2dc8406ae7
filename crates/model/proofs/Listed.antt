-- The choices from sets: those that pass a test are listed each once and in order.
use Rattle.std.proofs.Common.{◌≡◌, ℕ, zero, suc, ◌+◌, ◌<◌, ◌≤◌, Bool, true, false, cond, List, [], ◌∷◌, ◌++◌, map, length, get_or, filter, sym, refl, inl, inr, arith}
use Rattle.std.specs.List.{range_with_len, flat_map, AllByRecursion}
use Rattle.std.proofs.ByRecursion.{all_kept_by, All-get_or, All-map, All-append, All-weaker, kept_by_passes}
use Rattle.std.proofs.lemmas.Bool.{cases_order}
use Rattle.model.specs.Sets.{has, counts, members}
use Rattle.model.specs.Loads.{choices, passing, Within}
use Rattle.model.specs.Order.{before, Precedes}
use Rattle.model.specs.Claims.{Lists}
use Rattle.model.proofs.Lists.{In, in_kept, in_map, in_joined, in_counting, all_both, place_of}
use Rattle.model.proofs.Order.{same_first, less_first, order_told, never_itself}

-- each load of the list comes before all the later ones
abbrev pub Rising : List (List ℕ) → Type 0
Rising [] = Unit {0}
Rising (l ∷ ls) = AllByRecursion (λ m. before l m ≡ true) ls × Rising ls

pub all_joined : {X Y : Type 0} (P : X → Type 0) (Q : Y → Type 0) (g : X → List Y) → ((x : X) → P x → AllByRecursion Q (g x)) → (xs : List X) → AllByRecursion P xs → AllByRecursion Q (flat_map g xs)
all_joined P Q g q [] a = tt
all_joined P Q g q (x ∷ xs) a = All-append Q (g x) (flat_map g xs) (q x a.0) (all_joined P Q g q xs a.1)

all_always : {X : Type 0} (P : X → Type 0) → ((x : X) → P x) → (xs : List X) → AllByRecursion P xs
all_always P h [] = tt
all_always P h (x ∷ xs) = (h x, all_always P h xs)

abbrev Up : List ℕ → Type 0
Up [] = Unit {0}
Up (d ∷ ds) = AllByRecursion (λ e. d < e) ds × Up ds

counting_above : (a x n : ℕ) → a < x → AllByRecursion (λ e. a < e) (range_with_len x n)
counting_above a x zero h = tt
counting_above a x (suc n) h = (h, counting_above a (x + 1) n (omega arith))

counting_up : (a n : ℕ) → Up (range_with_len a n)
counting_up a zero = tt
counting_up a (suc n) = (counting_above a (a + 1) n (omega arith), counting_up (a + 1) n)

kept_up : (p : ℕ → Bool) (ds : List ℕ) → Up ds → Up (filter p ds)
kept_up p [] u = tt
kept_up p (d ∷ ds) u =
    elim (p d) as (λ b. Up (cond b (d ∷ filter p ds) (filter p ds))) [
      | true ↦ (all_kept_by p (λ e. d < e) ds u.0, kept_up p ds u.1)
      | false ↦ kept_up p ds u.1
    ]

members_up : (s : ℕ) → Up (members s)
unfolding counts
members_up s = kept_up (has s) (range_with_len 0 64) (counting_up 0 64)

rising_append : (ls ms : List (List ℕ)) → Rising ls → Rising ms → AllByRecursion (λ l. AllByRecursion (λ m. before l m ≡ true) ms) ls → Rising (ls ++ ms)
rising_append [] ms r s h = s
rising_append (l ∷ ls) ms r s h = (All-append (λ m. before l m ≡ true) ls ms r.0 h.0, rising_append ls ms r.1 s h.1)

rising_map : (d : ℕ) (ls : List (List ℕ)) → Rising ls → Rising (map (λ l. d ∷ l) ls)
rising_map d [] r = tt
rising_map d (l ∷ ls) r = (
  All-map (λ m. before (d ∷ l) m ≡ true) (λ m. d ∷ m) ls (All-weaker (λ m. before l m ≡ true) (λ m. before (d ∷ l) (d ∷ m) ≡ true) (λ m h. same_first d l m h) ls r.0),
  rising_map d ls r.1,
)

rising_joined : (ds : List ℕ) (cs : List (List ℕ)) → Up ds → Rising cs → Rising (flat_map (λ d. map (λ c. d ∷ c) cs) ds)
rising_joined [] cs u r = tt
rising_joined (d ∷ ds) cs u r =
    let rest = flat_map (λ d. map (λ c. d ∷ c) cs) ds in
    rising_append (map (λ c. d ∷ c) cs) rest (rising_map d cs r) (rising_joined ds cs u.1 r)
    (All-map (λ l. AllByRecursion (λ m. before l m ≡ true) rest) (λ c. d ∷ c) cs
    (all_always (λ c. AllByRecursion (λ m. before (d ∷ c) m ≡ true) rest)
    (λ c. all_joined (λ e. d < e) (λ m. before (d ∷ c) m ≡ true) (λ d. map (λ c. d ∷ c) cs)
    (λ e h. All-map (λ m. before (d ∷ c) m ≡ true) (λ m. e ∷ m) cs (all_always (λ m. before (d ∷ c) (e ∷ m) ≡ true) (λ m. less_first d e c m h) cs))
    ds u.0) cs))

pub choices_rise : (sets : List ℕ) → Rising (choices sets)
unfolding choices
choices_rise [] = (tt, tt)
choices_rise (s ∷ sets) = rising_joined (members s) (choices sets) (members_up s) (choices_rise sets)

pub kept_rises : (t : List ℕ → Bool) (ls : List (List ℕ)) → Rising ls → Rising (filter t ls)
kept_rises t [] r = tt
kept_rises t (l ∷ ls) r =
    elim (t l) as (λ b. Rising (cond b (l ∷ filter t ls) (filter t ls))) [
      | true ↦ (all_kept_by t (λ m. before l m ≡ true) ls r.0, kept_rises t ls r.1)
      | false ↦ kept_rises t ls r.1
    ]

-- what a choice is
pub counting_below : (a n m : ℕ) → a + n ≤ m → AllByRecursion (λ d. d < m) (range_with_len a n)
counting_below a zero m h = tt
counting_below a (suc n) m h = (omega arith, counting_below (a + 1) n m (omega arith))

pub members_below : (s : ℕ) → AllByRecursion (λ d. d < 64) (members s)
unfolding counts
members_below s = all_kept_by (has s) (λ d. d < 64) (range_with_len 0 64) (counting_below 0 64 64 (omega arith))

in_members : (s d : ℕ) → d < 64 → has s d ≡ true → In d (members s)
unfolding counts
in_members s d l h = in_kept (has s) d (range_with_len 0 64) (in_counting 0 64 d (omega arith) (omega arith)) h

pub choices_within : (sets : List ℕ) → AllByRecursion (Within sets) (choices sets)
unfolding choices
choices_within [] = (tt, tt)
choices_within (s ∷ sets) =
    all_joined (λ d. (d < 64) × (has s d ≡ true)) (Within (s ∷ sets)) (λ d. map (λ c. d ∷ c) (choices sets))
    (λ d h. All-map (Within (s ∷ sets)) (λ c. d ∷ c) (choices sets) (All-weaker (Within sets) (λ c. Within (s ∷ sets) (d ∷ c)) (λ c w. (h.0, h.1, w)) (choices sets) (choices_within sets)))
    (members s) (all_both (λ d. d < 64) (λ d. has s d ≡ true) (members s) (members_below s) (kept_by_passes (has s) counts))

pub within_listed : (sets load : List ℕ) → Within sets load → In load (choices sets)
unfolding choices
within_listed [] [] h = inl refl
within_listed [] (d ∷ load) h = absurd h
within_listed (s ∷ sets) [] h = absurd h
within_listed (s ∷ sets) (d ∷ load) h =
    in_joined (λ d. map (λ c. d ∷ c) (choices sets)) d (d ∷ load) (members s) (in_members s d h.0 h.1) (in_map (λ c. d ∷ c) load (choices sets) (within_listed sets load h.2))

-- places of a rising list
rises_at_lem : (ls : List (List ℕ)) → Rising ls → (j k : ℕ) → j < k → k < length ls → before (get_or ls j []) (get_or ls k []) ≡ true
rises_at_lem [] r j k h l = absurd (omega arith)
rises_at_lem (x ∷ ls) r j zero h l = absurd (omega arith)
rises_at_lem (x ∷ ls) r zero (suc k) h l = All-get_or (λ m. before x m ≡ true) ls k [] (omega arith) r.0
rises_at_lem (x ∷ ls) r (suc j) (suc k) h l = rises_at_lem ls r.1 j k (omega arith) (omega arith)

pub lists : (t : List ℕ → Bool) (sets : List ℕ) → Lists (λ load. Within sets load × (t load ≡ true)) (passing t sets)
lists t sets =
    let loads = passing t sets in
    let up : Rising loads = kept_rises t (choices sets) (choices_rise sets) in
    let fit : AllByRecursion (λ load. Within sets load × (t load ≡ true)) loads =
    all_both (Within sets) (λ load. t load ≡ true) loads (all_kept_by t (Within sets) (choices sets) (choices_within sets)) (kept_by_passes t (choices sets)) in
    let order : (j k : ℕ) → j < k → k < length loads → Precedes (get_or loads j []) (get_or loads k []) =
    λ j k h l. (order_told (get_or loads j []) (get_or loads k [])).0 (rises_at_lem loads up j k h l) in
    record {
      only = λ k h. All-get_or (λ load. Within sets load × (t load ≡ true)) loads k [] h fit;
      all = λ load p. place_of load loads [] (in_kept t load (choices sets) (within_listed sets load p.0) p.1);
      once = λ j k h l e. elim (cases_order j k) [
        | inl same ↦ same
        | inr w ↦ elim w [
          | inl less ↦ absurd (never_itself (get_or loads j []) (get_or loads k []) e (order j k less l))
          | inr more ↦ absurd (never_itself (get_or loads k []) (get_or loads j []) (sym e) (order k j more h))
        ]
      ];
      ordered = order;
    }
