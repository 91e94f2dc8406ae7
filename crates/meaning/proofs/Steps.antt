-- One call: the state after it shows the register after it, and the answers are the same.
use Rattle.std.proofs.Common.{◌≡◌, ℕ, suc, ◌+◌, ◌-◌, ◌<◌, ◌≤◌, Bool, true, false, not, ◌&&◌, eqb, leb, List, [], ◌∷◌, ◌++◌, length, get_or, take, drop, sym, refl, ap, ◌∙◌, subst, ap₂, le_refl, arith, length-append, take-append-drop}
use mathlib.Core.Bool.{and-true, and_assoc}
use lib.Seq.{take-append-le, take-length}
use Rattle.std.proofs.lemmas.Bool.{true≢false, false≢true, not-false, leb-true, leb-false}
use Rattle.meaning.specs.Plan.{Notes, Shows, State, Supports, close_keep, close_withdraw, does}
use Rattle.meaning.specs.Problems.{Problem, all_use, allowed_sets, fitting, has_at, in_range, is_empty, kinds_of, short, support, uses, without}
use Rattle.meaning.specs.Register.{Call, Register, RuleOut, branch, free, keep, kept, loads_of, rule_out, step, used, withdraw, withdrawn}
use Rattle.model.specs.Answers.{Answer, accepted, refuse}
use Rattle.model.specs.Sets.{has, held_in_all}
use Rattle.meaning.proofs.Lists.{and_left, and_right, kept_same, kept_kept, none_left}
use Rattle.meaning.proofs.Standing.{support_has, key}
use Rattle.meaning.proofs.Held.{held_support}

-- one more rule-out leaves the loads without that count
free_more : (xs : List RuleOut) (x : RuleOut) (l : List ℕ) → free (xs ++ x ∷ []) l ≡ (free xs l && not (has_at l (x.kind - 1) x.count))
free_more [] x l = and-true (not (has_at l (x.kind - 1) x.count))
free_more (y ∷ ys) x l =
    ap (λ (b : Bool). not (has_at l (y.kind - 1) y.count) && b) (free_more ys x l)
    ∙ sym (and_assoc (not (has_at l (y.kind - 1) y.count)) (free ys l) (not (has_at l (x.kind - 1) x.count)))

pub loads_more : (c : Problem) (xs : List RuleOut) (x : RuleOut) → loads_of c (xs ++ x ∷ []) ≡ without (x.kind - 1) x.count (loads_of c xs)
loads_more c xs x =
    kept_same (free (xs ++ x ∷ [])) (λ l. free xs l && not (has_at l (x.kind - 1) x.count)) (fitting c (allowed_sets c)) (λ l i. free_more xs x l)
    ∙ sym (kept_kept (λ l. not (has_at l (x.kind - 1) x.count)) (free xs) (fitting c (allowed_sets c)))

-- the fitting loads of the counts that stand are the register's loads
pub standing_loads_lem : (c : Problem) (sets : List ℕ) (xs : List RuleOut) → Supports c sets xs → fitting c sets ≡ loads_of c xs
standing_loads_lem c sets xs h = ap (fitting c) h.sets_are ∙ key c xs h.some_load

-- the counts that stand are as many as the register's loads use
pub held_used : (c : Problem) (sets : List ℕ) (xs : List RuleOut) → Supports c sets xs → held_in_all sets ≡ used c (loads_of c xs)
held_used c sets xs h = ap held_in_all h.sets_are ∙ held_support (kinds_of c) (loads_of c xs)

-- the notes stay right as rule-outs are added behind
notes_more : (c : Problem) (xs ys : List RuleOut) (ts : List (List ℕ)) (ms : List ℕ) → Notes c xs ts ms → Notes c (xs ++ ys) ts ms
notes_more c xs ys [] [] n = tt
notes_more c xs ys [] (m ∷ ms) n = n
notes_more c xs ys (t ∷ ts) [] n = n
notes_more c xs ys (t ∷ ts) (m ∷ ms) n =
    let e : take m (xs ++ ys) ≡ take m xs = take-append-le m xs ys n.0 in (
      omega (arith, n.0, length-append xs ys),
      subst (λ (z : List RuleOut). Supports c t z) (sym e) n.1,
      subst (λ (z : List RuleOut). Notes c z ts ms) (sym e) n.2,
    )

notes_back : (c : Problem) (xs : List RuleOut) (m : ℕ) (ts : List (List ℕ)) (ms : List ℕ) → Notes c (take m xs) ts ms → Notes c xs ts ms
notes_back c xs m ts ms n =
    subst (λ (z : List RuleOut). Notes c z ts ms) (take-append-drop m xs) (notes_more c (take m xs) (drop m xs) ts ms n)

pub notes_long : (c : Problem) (xs : List RuleOut) (ts : List (List ℕ)) (ms : List ℕ) → Notes c xs ts ms → length ts ≡ length ms
notes_long c xs [] [] n = refl
notes_long c xs [] (m ∷ ms) n = absurd n
notes_long c xs (t ∷ ts) [] n = absurd n
notes_long c xs (t ∷ ts) (m ∷ ms) n = ap suc (notes_long c (take m xs) ts ms n.2)

-- a call's two outcomes fit together
abbrev pub Good : Problem → State × Answer → Register × Answer → Type 0
Good c x y = Shows c x.0 y.0 × (x.1 ≡ y.1)

refuse_good : (c : Problem) (s : State) (r : Register) → Shows c s r → (t u : Bool) → t ≡ u → (k : ℕ) (x : State × Answer) (y : Register × Answer)
    → (u ≡ false → Good c x y) → Good c (refuse s t k x) (refuse r u k y)
refuse_good c s r sh true true e k x y g = (sh, refl)
refuse_good c s r sh true false e k x y g = absurd (true≢false e)
refuse_good c s r sh false true e k x y g = absurd (false≢true e)
refuse_good c s r sh false false e k x y g = g refl

-- what the range test says
pub record Ranged (c : Problem) (i d : ℕ) : Type 0 where
  pub place : i - 1 < kinds_of c
  pub count : d < 64

pub ranged : (c : Problem) (i d : ℕ) → in_range c i d ≡ true → Ranged c i d
ranged c i d h =
    let a : 1 ≤ i = leb-true 1 i (and_left (leb 1 i) (leb i (kinds_of c) && leb d 63) h) in
    let r : (leb i (kinds_of c) && leb d 63) ≡ true = and_right (leb 1 i) (leb i (kinds_of c) && leb d 63) h in
    let b : i ≤ kinds_of c = leb-true i (kinds_of c) (and_left (leb i (kinds_of c)) (leb d 63) r) in
    let e : d ≤ 63 = leb-true d 63 (and_right (leb i (kinds_of c)) (leb d 63) r) in
    record { place = omega arith; count = omega arith }

module _ (c : Problem) (s : State) (r : Register) (sh : Shows c s r) where
  same_open : length s.noted ≡ length r.beside
  same_open = notes_long c r.ruled s.noted r.beside sh.notes

  same_loads : fitting c s.standing ≡ loads_of c r.ruled
  same_loads = standing_loads_lem c s.standing r.ruled sh.now_stand

  -- no fitting load of standing counts without d is left exactly when every load of the register has d
  pub rest_empty : (i d : ℕ) → is_empty (without (i - 1) d (fitting c s.standing)) ≡ all_use (loads_of c r.ruled) (i - 1) d
  rest_empty i d = ap (λ (ls : List (List ℕ)). is_empty (without (i - 1) d ls)) same_loads ∙ none_left (λ l. has_at l (i - 1) d) (loads_of c r.ruled)

  rule_out_good : (i d forward backward : ℕ) → Good c (does c s (rule_out i d forward backward)) (step c r (rule_out i d forward backward))
  rule_out_good i d f b =
      refuse_good c s r sh (short c f b) (short c f b) refl 7 _ _ (λ long.
      refuse_good c s r sh (not (in_range c i d)) (not (in_range c i d)) refl 10 _ _ (λ in-range.
      refuse_good c s r sh (not (has (get_or s.standing (i - 1) 0) d)) (not (uses (loads_of c r.ruled) (i - 1) d))
      (ap not (stands (ranged c i d (not-false (in_range c i d) in-range)))) 11 _ _ (λ is-used.
      refuse_good c s r sh (is_empty rest) (all_use (loads_of c r.ruled) (i - 1) d) (rest_empty i d) 8 _ _ (λ left. (
        record {
          now_stand = record {
            sets_are = ap (support (kinds_of c)) rest_is;
            some_load = ap is_empty (sym rest_is) ∙ rest_empty i d ∙ left;
          };
          notes = notes_more c r.ruled (x ∷ []) s.noted r.beside sh.notes;
          at_most = sh.at_most;
        },
        ap₂ (λ (old new : ℕ). accepted (old - new)) (held_used c s.standing r.ruled sh.now_stand) (held_support (kinds_of c) rest ∙ ap (λ (ls : List (List ℕ)). used c ls) rest_is),
      )))))
    where
      x : RuleOut
      x = record { kind = i; count = d }

      rest : List (List ℕ)
      rest = without (i - 1) d (fitting c s.standing)

      stands : Ranged c i d → has (get_or s.standing (i - 1) 0) d ≡ uses (loads_of c r.ruled) (i - 1) d
      stands g =
          ap (λ (sets : List ℕ). has (get_or sets (i - 1) 0) d) sh.now_stand.sets_are
          ∙ support_has (kinds_of c) (loads_of c r.ruled) (i - 1) d g.place g.count

      rest_is : rest ≡ loads_of c (r.ruled ++ x ∷ [])
      rest_is = ap (without (i - 1) d) same_loads ∙ sym (loads_more c r.ruled x)

  branch_good : Good c (does c s branch) (step c r branch)
  branch_good =
      refuse_good c s r sh (leb 8 (length s.noted)) (leb 8 (length r.beside)) (ap (leb 8) same_open) 12 _ _ (λ room. (
        record {
          now_stand = sh.now_stand;
          notes = (
            le_refl (length r.ruled),
            subst (λ (z : List RuleOut). Supports c s.standing z) (sym (take-length r.ruled)) sh.now_stand,
            subst (λ (z : List RuleOut). Notes c z s.noted r.beside) (sym (take-length r.ruled)) sh.notes,
          );
          at_most = omega (arith, leb-false 8 (length r.beside) room);
        },
        ap (λ (n : ℕ). accepted (n + 1)) same_open,
      ))

  keep_closes : (ts : List (List ℕ)) (ms : List ℕ) → Notes c r.ruled ts ms → length ms ≤ 8 → Good c (close_keep s ts) (kept r ms)
  keep_closes [] [] n h = (sh, refl)
  keep_closes [] (m ∷ ms) n h = absurd n
  keep_closes (t ∷ ts) [] n h = absurd n
  keep_closes (t ∷ ts) (m ∷ ms) n h = (
    record { now_stand = sh.now_stand; notes = notes_back c r.ruled m ts ms n.2; at_most = omega arith },
    ap accepted (notes_long c (take m r.ruled) ts ms n.2),
  )

  keep_good : (number : ℕ) → Good c (does c s (keep number)) (step c r (keep number))
  keep_good k =
      refuse_good c s r sh (not (eqb k (length s.noted))) (not (eqb k (length r.beside))) (ap (λ (n : ℕ). not (eqb k n)) same_open) 13 _ _
      (λ latest. keep_closes s.noted r.beside sh.notes sh.at_most)

  withdraw_closes : (ts : List (List ℕ)) (ms : List ℕ) → Notes c r.ruled ts ms → length ms ≤ 8 → Good c (close_withdraw s ts) (withdrawn c r ms)
  withdraw_closes [] [] n h = (sh, refl)
  withdraw_closes [] (m ∷ ms) n h = absurd n
  withdraw_closes (t ∷ ts) [] n h = absurd n
  withdraw_closes (t ∷ ts) (m ∷ ms) n h = (
    record { now_stand = n.1; notes = n.2; at_most = omega arith },
    ap₂ (λ (new old : ℕ). accepted (new - old)) (held_used c t (take m r.ruled) n.1) (held_used c s.standing r.ruled sh.now_stand),
  )

  withdraw_good : (number forward backward : ℕ) → Good c (does c s (withdraw number forward backward)) (step c r (withdraw number forward backward))
  withdraw_good k f b =
      refuse_good c s r sh (short c f b) (short c f b) refl 7 _ _ (λ long.
      refuse_good c s r sh (not (eqb k (length s.noted))) (not (eqb k (length r.beside))) (ap (λ (n : ℕ). not (eqb k n)) same_open) 13 _ _
      (λ latest. withdraw_closes s.noted r.beside sh.notes sh.at_most))

-- every call
pub call_shows_lem : (c : Problem) (s : State) (r : Register) (x : Call) → Shows c s r → Good c (does c s x) (step c r x)
call_shows_lem c s r (rule_out i d f b) sh = rule_out_good c s r sh i d f b
call_shows_lem c s r branch sh = branch_good c s r sh
call_shows_lem c s r (keep k) sh = keep_good c s r sh k
call_shows_lem c s r (withdraw k f b) sh = withdraw_good c s r sh k f b
