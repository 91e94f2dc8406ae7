-- The phases accept exactly the fields in order.
use Rattle.std.proofs.Common.{◌≡◌, ℕ, ◌+◌, ◌≤◌, true, List, [], ◌∷◌, ◌++◌, length, Some, None, Option, sym, refl, ap, ◌∙◌, subst, arith, length-append}
use Rattle.std.specs.List.{AllByRecursion}
use Rattle.fields.specs.Values.{Value, kind, band, list, stride, rule_out_field, end, field, write}
use Rattle.sequence.specs.declared.phase.Phase.{Phase}
use Rattle.sequence.specs.declared.phase.Phase.TheVariants.{Kinds, Goal, Strided, Rules, Done}
use Rattle.sequence.specs.Sequence.{follow, reach, reach_on, is_kind, is_goal, is_stride, is_rule, owes, InOrder}

pub done_nil : (vs : List Value) (p : ℕ) → reach Done p vs ≡ Some Done → vs ≡ []
done_nil [] p e = refl
done_nil (v ∷ vs) p e = cc

abbrev Ruling : List Value → Type 0
Ruling vs = (rules : List Value) × (vs ≡ rules ++ (end ∷ [])) × AllByRecursion (λ v. is_rule v ≡ true) rules

from_rules_lem : (vs : List Value) (p : ℕ) → reach Rules p vs ≡ Some Done → Ruling vs
from_rules_lem (rule_out_field k count ∷ vs) p e =
    let r = from_rules_lem vs (p + 5) e in
    (rule_out_field k count ∷ r.0, ap (λ (t : List Value). rule_out_field k count ∷ t) r.1, (refl, r.2))
from_rules_lem (end ∷ vs) p e = ([], ap (λ (t : List Value). end ∷ t) (done_nil vs (p + 3) e), tt)
from_rules_lem vs p e = cc

from_strided : (g : ℕ) (vs : List Value) (p : ℕ) → reach (Strided g) p vs ≡ Some Done → Ruling vs
from_strided g [] p e = cc
from_strided g (v ∷ vs) p e = from_rules_lem (v ∷ vs) p e

abbrev Settling : List Value → Type 0
Settling vs =
    (strides : List Value) × (rules : List Value) × (vs ≡ strides ++ (rules ++ (end ∷ []))) × AllByRecursion (λ v. is_stride v ≡ true) strides
    × (length strides ≤ 1) × AllByRecursion (λ v. is_rule v ≡ true) rules

from_goal_lem : (g : ℕ) (vs : List Value) (p : ℕ) → reach (Goal g) p vs ≡ Some Done → Settling vs
from_goal_lem g [] p e = cc
from_goal_lem g (stride modulus rest ∷ vs) p e =
    let r = from_strided g vs (p + 7) e in
    (stride modulus rest ∷ [], r.0, ap (λ (t : List Value). stride modulus rest ∷ t) r.1, (refl, tt), omega arith, r.2)
from_goal_lem g (v ∷ vs) p e = let r = from_rules_lem (v ∷ vs) p e in ([], r.0, r.1, tt, omega arith, r.2)

at_goal : (v : Value) (vs : List Value) → is_goal v ≡ true → Settling vs → InOrder (v ∷ vs)
at_goal v vs g r =
    record {
      kinds = [];
      goal = v;
      strides = r.0;
      rules = r.1;
      parts = ap (λ (t : List Value). v ∷ t) r.2;
      all_kinds = tt;
      one_goal = g;
      all_strides = r.3;
      one_stride = r.4;
      all_rules = r.5;
    }

after_kind : (v : Value) (vs : List Value) → is_kind v ≡ true → InOrder vs → InOrder (v ∷ vs)
after_kind v vs k r =
    record {
      kinds = v ∷ r.kinds;
      goal = r.goal;
      strides = r.strides;
      rules = r.rules;
      parts = ap (λ (t : List Value). v ∷ t) r.parts;
      all_kinds = (k, r.all_kinds);
      one_goal = r.one_goal;
      all_strides = r.all_strides;
      one_stride = r.one_stride;
      all_rules = r.all_rules;
    }

from_kinds_lem : (vs : List Value) (p : ℕ) → reach Kinds p vs ≡ Some Done → InOrder vs
from_kinds_lem (kind size price counts ∷ vs) p e = after_kind (kind size price counts) vs refl (from_kinds_lem vs (p + 15) e)
from_kinds_lem (band low high ∷ vs) p e = at_goal (band low high) vs refl (from_goal_lem p vs (p + 7) e)
from_kinds_lem (list totals ∷ vs) p e = at_goal (list totals) vs refl (from_goal_lem p vs (p + length (field (list totals))) e)
from_kinds_lem vs p e = cc

pub only : (vs : List Value) → reach Kinds 0 vs ≡ Some Done → InOrder vs
only vs e = from_kinds_lem vs 0 e

to_rules : (rules : List Value) (p : ℕ) → AllByRecursion (λ v. is_rule v ≡ true) rules → reach Rules p (rules ++ (end ∷ [])) ≡ Some Done
to_rules [] p h = refl
to_rules (rule_out_field k count ∷ vs) p h = to_rules vs (p + 5) h.1
to_rules (v ∷ vs) p h = cc

to_strided : (g : ℕ) (rules : List Value) (p : ℕ) → AllByRecursion (λ v. is_rule v ≡ true) rules → reach (Strided g) p (rules ++ (end ∷ [])) ≡ Some Done
to_strided g [] p h = refl
to_strided g (v ∷ vs) p h = to_rules (v ∷ vs) p h

to_unstrided : (g : ℕ) (rules : List Value) (p : ℕ) → AllByRecursion (λ v. is_rule v ≡ true) rules → reach (Goal g) p (rules ++ (end ∷ [])) ≡ Some Done
to_unstrided g [] p h = refl
to_unstrided g (stride modulus rest ∷ vs) p h = cc
to_unstrided g (v ∷ vs) p h = to_rules (v ∷ vs) p h

to_goal : (g : ℕ) (strides rules : List Value) (p : ℕ) → AllByRecursion (λ v. is_stride v ≡ true) strides → length strides ≤ 1 → AllByRecursion (λ v. is_rule v ≡ true) rules
    → reach (Goal g) p (strides ++ (rules ++ (end ∷ []))) ≡ Some Done
to_goal g [] rules p s o h = to_unstrided g rules p h
to_goal g (stride modulus rest ∷ []) rules p s o h = to_strided g rules (p + 7) h
to_goal g (stride modulus rest ∷ v ∷ vs) rules p s o h = absurd (omega arith)
to_goal g (v ∷ vs) rules p s o h = cc

to_kinds : (kinds : List Value) (goal : Value) (strides rules : List Value) (p : ℕ)
    → AllByRecursion (λ v. is_kind v ≡ true) kinds → is_goal goal ≡ true → AllByRecursion (λ v. is_stride v ≡ true) strides → length strides ≤ 1 → AllByRecursion (λ v. is_rule v ≡ true) rules
    → reach Kinds p (kinds ++ (goal ∷ (strides ++ (rules ++ (end ∷ []))))) ≡ Some Done
to_kinds [] (band low high) strides rules p k g s o h = to_goal p strides rules (p + 7) s o h
to_kinds [] (list totals) strides rules p k g s o h = to_goal p strides rules (p + length (field (list totals))) s o h
to_kinds (kind size price counts ∷ vs) goal strides rules p k g s o h = to_kinds vs goal strides rules (p + 15) k.1 g s o h
to_kinds vs goal strides rules p k g s o h = cc

pub all : (vs : List Value) → InOrder vs → reach Kinds 0 vs ≡ Some Done
all vs r =
    subst (λ (t : List Value). reach Kinds 0 t ≡ Some Done) (sym r.parts)
    (to_kinds r.kinds r.goal r.strides r.rules 0 r.all_kinds r.one_goal r.all_strides r.one_stride r.all_rules)

-- some fields that end what is begun
abbrev ending : Phase → List Value
ending Kinds = band 0 0 ∷ end ∷ []
ending Done = []
ending phase = end ∷ []

ending_ends : (phase : Phase) (p : ℕ) → reach phase p (ending phase) ≡ Some Done
ending_ends Kinds p = refl
ending_ends phase p = refl

-- fields that lead on have led to a phase first
pub on_reach : (o : Option Phase) (then : Phase → Option Phase) (to : Phase) → reach_on o then ≡ Some to → (from : Phase) × (o ≡ Some from) × (then from ≡ Some to)
on_reach None then to e = cc
on_reach (Some from) then to e = (from, refl, e)

reach_end : (vs : List Value) (from to : Phase) (p : ℕ) → reach from p vs ≡ Some to → reach from p (vs ++ ending to) ≡ Some Done
reach_end [] from to p e =
    let s : from ≡ to = cc in
    subst (λ (f : Phase). reach f p (ending to) ≡ Some Done) (sym s) (ending_ends to p)
reach_end (v ∷ vs) from to p e =
    let r = on_reach (follow from p v) (λ next. reach next (p + length (field v)) vs) to e in
    ap (λ o. reach_on o (λ next. reach next (p + length (field v)) (vs ++ ending to))) r.1 ∙ reach_end vs r.0 to (p + length (field v)) r.2

pub begun : (vs : List Value) (phase : Phase) → reach Kinds 0 vs ≡ Some phase → (ws : List Value) × InOrder (vs ++ ws)
begun vs phase e = (ending phase, only (vs ++ ending phase) (reach_end vs Kinds phase 0 e))

-- the goal's place that a phase keeps
abbrev kept : Phase → Option ℕ
kept (Goal g) = Some g
kept (Strided g) = Some g
kept phase = None

kept_at : (x y : Phase) → Some x ≡ Some y → kept x ≡ kept y
kept_at x y e = let s : x ≡ y = cc in ap kept s

kept_done : (vs : List Value) (p : ℕ) (to : Phase) → reach Done p vs ≡ Some to → kept to ≡ None
kept_done [] p to e = sym (kept_at Done to e)
kept_done (v ∷ vs) p to e = cc

kept_rules : (vs : List Value) (p : ℕ) (to : Phase) → reach Rules p vs ≡ Some to → kept to ≡ None
kept_rules [] p to e = sym (kept_at Rules to e)
kept_rules (rule_out_field k count ∷ vs) p to e = kept_rules vs (p + 5) to e
kept_rules (end ∷ vs) p to e = kept_done vs (p + 3) to e
kept_rules (v ∷ vs) p to e = cc

kept_strided : (g h : ℕ) (vs : List Value) (p : ℕ) (to : Phase) → reach (Strided g) p vs ≡ Some to → kept to ≡ Some h → h ≡ g
kept_strided g h [] p to e k = let a : Some g ≡ kept to = kept_at (Strided g) to e in cc
kept_strided g h (v ∷ vs) p to e k = let n = kept_rules (v ∷ vs) p to e in cc

kept_goal : (g h : ℕ) (vs : List Value) (p : ℕ) (to : Phase) → reach (Goal g) p vs ≡ Some to → kept to ≡ Some h → h ≡ g
kept_goal g h [] p to e k = let a : Some g ≡ kept to = kept_at (Goal g) to e in cc
kept_goal g h (stride modulus rest ∷ vs) p to e k = kept_strided g h vs (p + 7) to e k
kept_goal g h (v ∷ vs) p to e k = let n = kept_rules (v ∷ vs) p to e in cc

abbrev Standing : ℕ → ℕ → List Value → Type 0
Standing p h vs = (ks : List Value) × (goal : Value) × (ss : List Value) × (vs ≡ ks ++ (goal ∷ ss)) × (is_goal goal ≡ true) × (h ≡ p + length (write ks))

kept_kinds : (h : ℕ) (vs : List Value) (p : ℕ) (to : Phase) → reach Kinds p vs ≡ Some to → kept to ≡ Some h → Standing p h vs
kept_kinds h [] p to e k = let n = kept_at Kinds to e in cc
kept_kinds h (kind size price counts ∷ vs) p to e k =
    let r = kept_kinds h vs (p + 15) to e k in
    let v = kind size price counts in (
      kind size price counts ∷ r.0,
      r.1,
      r.2,
      ap (λ (t : List Value). kind size price counts ∷ t) r.3,
      r.4,
      omega (arith, r.5, length-append (field (kind size price counts)) (write r.0)),
    )
kept_kinds h (band low high ∷ vs) p to e k = ([], band low high, vs, refl, refl, omega (arith, kept_goal p h vs (p + 7) to e k))
kept_kinds h (list totals ∷ vs) p to e k = ([], list totals, vs, refl, refl, omega (arith, kept_goal p h vs (p + length (field (list totals))) to e k))
kept_kinds h (v ∷ vs) p to e k = cc

owes_kept : (phase : Phase) (v : Value) (g : ℕ) → owes phase v ≡ Some g → kept phase ≡ Some g
owes_kept (Goal h) (stride modulus rest) g e = cc
owes_kept (Goal h) v g e = e
owes_kept (Strided h) v g e = e
owes_kept phase v g e = cc

pub place_of_goal : (vs : List Value) (phase : Phase) (v : Value) (g : ℕ) → reach Kinds 0 vs ≡ Some phase → owes phase v ≡ Some g
    → (ks : List Value) × (goal : Value) × (ss : List Value) × (vs ≡ ks ++ (goal ∷ ss)) × (is_goal goal ≡ true) × (g ≡ length (write ks))
place_of_goal vs phase v g e o =
    let r = kept_kinds g vs 0 phase e (owes_kept phase v g o) in (r.0, r.1, r.2, r.3, r.4, omega (arith, r.5))
