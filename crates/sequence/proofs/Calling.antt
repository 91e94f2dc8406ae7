-- The calls of fields in order, and of a run without fault.
use Rattle.std.proofs.Common.{◌≡◌, ℕ, ◌+◌, ◌≤◌, true, false, List, [], ◌∷◌, ◌++◌, map, length, Some, refl, ap, ◌∙◌, subst, arith}
use Rattle.std.specs.List.{AllByRecursion}
use Rattle.fields.specs.Values.{Value, kind, band, list, stride, rule_out_field, end, field}
use Rattle.fields.specs.Reading.{Open}
use Rattle.sequence.specs.declared.phase.Phase.{Phase}
use Rattle.sequence.specs.declared.phase.Phase.TheVariants.{Kinds, Goal, Strided, Rules, Done}
use Rattle.sequence.specs.Machines.{Operation, of, settled}
use Rattle.sequence.specs.Sequence.{follow, reach, is_kind, is_goal, is_stride, is_rule, is_done, InOrder}
use Rattle.sequence.specs.Words.{calls, calls_in}
use Rattle.sequence.proofs.Ahead.{follow_end}
use Rattle.sequence.proofs.Order.{on_reach}

of_rules : (rules : List Value) (p : ℕ) → AllByRecursion (λ v. is_rule v ≡ true) rules → calls Rules p (rules ++ (end ∷ [])) ≡ map of rules
of_rules [] p h = refl
of_rules (rule_out_field k count ∷ vs) p h = ap (λ (t : List Operation). of (rule_out_field k count) ∷ t) (of_rules vs (p + 5) h.1)
of_rules (v ∷ vs) p h = cc

of_strided : (g : ℕ) (rules : List Value) (p : ℕ) → AllByRecursion (λ v. is_rule v ≡ true) rules → calls (Strided g) p (rules ++ (end ∷ [])) ≡ settled ∷ map of rules
of_strided g [] p h = refl
of_strided g (v ∷ vs) p h = ap (λ (t : List Operation). settled ∷ t) (of_rules (v ∷ vs) p h)

of_unstrided : (g : ℕ) (rules : List Value) (p : ℕ) → AllByRecursion (λ v. is_rule v ≡ true) rules → calls (Goal g) p (rules ++ (end ∷ [])) ≡ settled ∷ map of rules
of_unstrided g [] p h = refl
of_unstrided g (stride modulus rest ∷ vs) p h = cc
of_unstrided g (v ∷ vs) p h = ap (λ (t : List Operation). settled ∷ t) (of_rules (v ∷ vs) p h)

of_goal : (g : ℕ) (strides rules : List Value) (p : ℕ) → AllByRecursion (λ v. is_stride v ≡ true) strides → length strides ≤ 1 → AllByRecursion (λ v. is_rule v ≡ true) rules
    → calls (Goal g) p (strides ++ (rules ++ (end ∷ []))) ≡ map of strides ++ (settled ∷ map of rules)
of_goal g [] rules p s o h = of_unstrided g rules p h
of_goal g (stride modulus rest ∷ []) rules p s o h = ap (λ (t : List Operation). of (stride modulus rest) ∷ t) (of_strided g rules (p + 7) h)
of_goal g (stride modulus rest ∷ v ∷ vs) rules p s o h = absurd (omega arith)
of_goal g (v ∷ vs) rules p s o h = cc

of_kinds : (kinds : List Value) (goal : Value) (strides rules : List Value) (p : ℕ)
    → AllByRecursion (λ v. is_kind v ≡ true) kinds → is_goal goal ≡ true → AllByRecursion (λ v. is_stride v ≡ true) strides → length strides ≤ 1 → AllByRecursion (λ v. is_rule v ≡ true) rules
    → calls Kinds p (kinds ++ (goal ∷ (strides ++ (rules ++ (end ∷ []))))) ≡ map of kinds ++ (of goal ∷ (map of strides ++ (settled ∷ map of rules)))
of_kinds [] (band low high) strides rules p k g s o h = ap (λ (t : List Operation). of (band low high) ∷ t) (of_goal p strides rules (p + 7) s o h)
of_kinds [] (list totals) strides rules p k g s o h = ap (λ (t : List Operation). of (list totals) ∷ t) (of_goal p strides rules (p + length (field (list totals))) s o h)
of_kinds (kind size price counts ∷ vs) goal strides rules p k g s o h =
    ap (λ (t : List Operation). of (kind size price counts) ∷ t) (of_kinds vs goal strides rules (p + 15) k.1 g s o h)
of_kinds vs goal strides rules p k g s o h = cc

pub calls_in_lem : (vs : List Value) (o : InOrder vs) → calls Kinds 0 vs ≡ calls_in o
calls_in_lem vs r =
    ap (calls Kinds 0) r.parts
    ∙ of_kinds r.kinds r.goal r.strides r.rules 0 r.all_kinds r.one_goal r.all_strides r.one_stride r.all_rules

pub done_is : (n : Phase) → is_done n ≡ true → n ≡ Done
done_is Done e = refl
done_is n e = cc

-- an end field that is in sequence is the end
pub reach_last : (us : List Value) (from to : Phase) (p : ℕ) → reach from p (us ++ (end ∷ [])) ≡ Some to → is_done to ≡ true
reach_last [] from to p e = let r = on_reach (follow from p end) (λ next. Some next) to e in follow_end from p end to (r.1 ∙ r.2)
reach_last (u ∷ us) from to p e =
    let r = on_reach (follow from p u) (λ next. reach next (p + length (field u)) (us ++ (end ∷ []))) to e in
    reach_last us r.0 to (p + length (field u)) r.2

-- without the end field the end is not reached
pub reach_open : (us : List Value) (from to : Phase) (p : ℕ) → is_done from ≡ false → Open us → reach from p us ≡ Some to → is_done to ≡ false
reach_open [] from to p d o e = let s : from ≡ to = cc in subst (λ (x : Phase). is_done x ≡ false) s d
reach_open (u ∷ us) from to p d o e =
    let r = on_reach (follow from p u) (λ next. reach next (p + length (field u)) us) to e in
    reach_open us r.0 to (p + length (field u)) (follow_end from p u r.0 r.1 ∙ o.0) o.1 r.2
