-- What a call has when it begins: the kinds of a plan with the sets that stand, and room for its marks; or a refusal.
use Rattle.std.proofs.Common.{◌≡◌, ℕ, zero, suc, ◌<◌, ◌≤◌, Bool, true, false, cond, eqb, List, length, take, sym, refl, ap, ◌∙◌, subst, ap₂, arith}
use Rattle.std.proofs.lemmas.Bool.{cond-false}
use Rattle.fixed_list.specs.FixedLists.{in_use}
use Rattle.model.specs.Answers.{Answer, accepted, refused, refuse}
use Rattle.model.specs.Goals.{Target}
use Rattle.model.specs.Parts.{parts}
use Rattle.model.specs.declared.kind.Kind.{Kind}
use Rattle.model.specs.declared.parts.Parts.{Parts}
use Rattle.meaning.specs.Life.{Called, Life, blank, lives, marked}
use Rattle.meaning.specs.Plan.{State, does}
use Rattle.meaning.specs.Problems.{Problem, problem, short}
use Rattle.meaning.specs.Register.{Call, rule_out, withdraw}
use Rattle.meaning.specs.View.{life_of, rows_back}
use Rattle.meaning.proofs.Lists.{long_take}
use Rattle.meaning.proofs.PlanFields.{called, live_is}
use Rattle.plan.specs.Opening.{lent, ready, shown}
use Rattle.plan.specs.Seen.{life}
use Rattle.plan.specs.declared.plan.Plan.{Plan}

-- the kinds and sets of a plan that has n kinds
pub record Opened (n : ℕ) (kinds : List Kind) (standing : List ℕ) (ks : List Kind) (ss : List ℕ) : Type 0 where
  pub some : 0 < n
  pub long : length ks ≡ n
  pub kinds_are : ks ≡ take n kinds
  pub sets_are : ss ≡ take n standing

pub parts_are : (n : ℕ) (kinds : List Kind) (standing : List ℕ) (ks : List Kind) (ss : List ℕ) → Opened n kinds standing ks ss → parts ks ss ≡ parts (take n kinds) (take n standing)
parts_are n kinds standing ks ss o = ap₂ parts o.kinds_are o.sets_are

-- other sets that stand for these
pub with_sets : (n : ℕ) (kinds : List Kind) (standing next : List ℕ) (ks : List Kind) (ss : List ℕ) → Opened n kinds standing ks ss → Opened n kinds next ks (take (length ks) next)
with_sets n kinds standing next ks ss o =
    record { some = o.some; long = o.long; kinds_are = o.kinds_are; sets_are = ap (λ m. take m next) o.long }

pub live_at : (t : Target) (n : ℕ) (kinds : List Kind) (standing : List ℕ) (ks : List Kind) (ss : List ℕ) (noted : List (List ℕ)) (k : ℕ) → Opened n kinds standing ks ss
    → life_of t n kinds standing noted k ≡ lives (problem t ks) (record { standing = ss; noted = rows_back n noted k })
live_at t n kinds standing ks ss noted k o =
    live_is t n kinds standing noted k o.some
    ∙ ap₂ (λ xs ys. lives (problem t xs) (record { standing = ys; noted = rows_back n noted k })) (sym o.kinds_are) (sym o.sets_are)

-- a call that goes on, or is refused, as the definition has it over these kinds and sets
module _ (t : Target) (n : ℕ) (kinds : List Kind) (standing : List ℕ) (ks : List Kind) (ss : List ℕ) (noted : List (List ℕ)) (k : ℕ) (o : Opened n kinds standing ks ss) where
  abbrev s : State
  s = record { standing = ss; noted = rows_back n noted k }

  pub called_same : (x : Call) (m : ℕ) → does (problem t ks) s x ≡ (s, refused m) → Called (life_of t n kinds standing noted k) x (life_of t n kinds standing noted k) (refused m)
  called_same x m e =
      let C : Life → Type 0 = λ l. Called l x l (refused m) in
      subst C (sym (live_at t n kinds standing ks ss noted k o)) (called (problem t ks) s x s (refused m) e)

  pub called_next : (x : Call) (next : List ℕ) (j : ℕ) (a : Answer) → does (problem t ks) s x ≡ (record { standing = take (length ks) next; noted = rows_back n noted j }, a)
      → Called (life_of t n kinds standing noted k) x (life_of t n kinds next noted j) a
  called_next x next j a e =
      let u : State = record { standing = take (length ks) next; noted = rows_back n noted j } in
      let C : Life → Type 0 = λ l. Called l x (lives (problem t ks) u) a in
      let D : Life → Type 0 = λ l. Called (life_of t n kinds standing noted k) x l a in
      subst D (sym (live_at t n kinds next ks (take (length ks) next) noted j (with_sets n kinds standing next ks ss o)))
      (subst C (sym (live_at t n kinds standing ks ss noted k o)) (called (problem t ks) s x u a e))

opened_at : (t : Target) (n : ℕ) (kinds : List Kind) (standing : List ℕ) (noted : List (List ℕ)) (k : ℕ) (ks : List Kind) (ss : List ℕ) → n ≤ length kinds
    → accepted (ks, ss) ≡ shown (life_of t n kinds standing noted k) → Opened n kinds standing ks ss
opened_at t zero kinds standing noted k ks ss h e = absurd (cc)
opened_at t (suc n) kinds standing noted k ks ss h e =
    let some : 0 < suc n = omega arith in
    let two : (ks, ss) ≡ (take (suc n) kinds, take (suc n) standing) = cc in
    record {
      some = some;
      long = ap (λ (z : List Kind × List ℕ). length z.0) two ∙ long_take (suc n) kinds h;
      kinds_are = ap (λ (z : List Kind × List ℕ). z.0) two;
      sets_are = ap (λ (z : List Kind × List ℕ). z.1) two;
    }

-- tables that are not short, where the call goes on
room_at : (c : Problem) (f b : ℕ) (x z : List Kind × List ℕ) (is : Bool) → is ≡ short c f b → accepted x ≡ cond is (refused 7) (accepted z) → (accepted x ≡ accepted z) × (short c f b ≡ false)
room_at c f b x z true is e = absurd (cc)
room_at c f b x z false is e = (e, sym is)

ready_at : (l : Life) (f b : ℕ) (x : List Kind × List ℕ) → accepted x ≡ ready l f b → accepted x ≡ shown l
ready_at (blank t) f b x e = e
ready_at (lives c s) f b x e = (room_at c f b x (c.kinds, s.standing) (short c f b) refl e).0

pub opened : {G : Type 0} (means : G → Target) (p : Plan G) (ps : Parts) → accepted (lent ps) ≡ shown (life means p) → Opened p.case.kinds.many p.case.kinds.items p.standing ps.kinds.now ps.sets.now
opened means p ps e =
    opened_at (means p.goal) p.case.kinds.many p.case.kinds.items p.standing (in_use p.noted) (length (in_use p.noted)) ps.kinds.now ps.sets.now (omega (arith, p.case.kinds.few, p.case.kinds.long)) e

-- the same, with tables that are not short
pub record Readied (t : Target) (n : ℕ) (kinds : List Kind) (standing : List ℕ) (ks : List Kind) (ss : List ℕ) (forward backward : ℕ) : Type 0 where
  pub begun : Opened n kinds standing ks ss
  pub room : short (problem t ks) forward backward ≡ false
  pub room_of : short (problem t (take n kinds)) forward backward ≡ false

pub readied : {G : Type 0} (means : G → Target) (p : Plan G) (ps : Parts) (f b : ℕ) → accepted (lent ps) ≡ ready (life means p) f b
    → Readied (means p.goal) p.case.kinds.many p.case.kinds.items p.standing ps.kinds.now ps.sets.now f b
readied means p ps f b e =
    let t = means p.goal in
    let o = opened means p ps (ready_at (life means p) f b (lent ps) e) in
    let is = live_at t p.case.kinds.many p.case.kinds.items p.standing ps.kinds.now ps.sets.now (in_use p.noted) (length (in_use p.noted)) o in
    let room : short (problem t ps.kinds.now) f b ≡ false = (room_at (problem t ps.kinds.now) f b (lent ps) _ (short (problem t ps.kinds.now) f b) refl (e ∙ ap (λ l. ready l f b) is)).1 in
    let Room : List Kind → Type 0 = λ xs. short (problem t xs) f b ≡ false in
    record { begun = o; room = room; room_of = subst Room o.kinds_are room }

-- a call that is refused before it looks at anything else
closed_by : (c : Problem) (s : State) (x : Call) (z : List Kind × List ℕ) (y : State × Answer) (is : Bool) (m : ℕ) → does c s x ≡ refuse s is 7 y → refused m ≡ cond is (refused 7) (accepted z)
    → Called (lives c s) x (lives c s) (refused m)
closed_by c s x z y true m goes e =
    let seven : m ≡ 7 = cc in called c s x s (refused m) (goes ∙ ap (λ k. (s, refused k)) (sym seven))
closed_by c s x z y false m goes e = absurd (cc)

nine : (t : Target) (f b m : ℕ) → refused m ≡ ready (blank t) f b → m ≡ 9
nine t f b m e = cc

closed_blank : (t : Target) (x : Call) (m : ℕ) → m ≡ 9 → Called (blank t) x (blank t) (refused m)
closed_blank t x m e = record { life = refl; answer = ap refused e; follows = tt }

pub rule_closed : (l : Life) (i d f b m : ℕ) → refused m ≡ ready l f b → Called l (rule_out i d f b) l (refused m)
rule_closed (blank t) i d f b m e = closed_blank t (rule_out i d f b) m (nine t f b m e)
rule_closed (lives c s) i d f b m e = closed_by c s (rule_out i d f b) _ _ (short c f b) m refl e

pub withdraw_closed : (l : Life) (number f b m : ℕ) → refused m ≡ ready l f b → Called l (withdraw number f b) l (refused m)
withdraw_closed (blank t) number f b m e = closed_blank t (withdraw number f b) m (nine t f b m e)
withdraw_closed (lives c s) number f b m e = closed_by c s (withdraw number f b) _ _ (short c f b) m refl e

-- such a refusal is none of those under which the tables are written
unmarked_by : (z : List Kind × List ℕ) (is : Bool) (m : ℕ) → refused m ≡ cond is (refused 7) (accepted z) → eqb m 8 ≡ false
unmarked_by z true m e = let seven : m ≡ 7 = cc in ap (λ k. eqb k 8) seven
unmarked_by z false m e = absurd (cc)

unmarked : (l : Life) (f b m : ℕ) → refused m ≡ ready l f b → eqb m 8 ≡ false
unmarked (blank t) f b m e = ap (λ k. eqb k 8) (nine t f b m e)
unmarked (lives c s) f b m e = unmarked_by _ (short c f b) m e

pub kept_cells : (l : Life) (f b m : ℕ) (marks cells : List ℕ) → refused m ≡ ready l f b → cells ≡ marked marks (refused m) cells
kept_cells l f b m marks cells e = sym (cond-false (eqb m 8) _ cells (unmarked l f b m e))
