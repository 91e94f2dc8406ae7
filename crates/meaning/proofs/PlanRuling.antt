-- A count that is ruled out.
use Rattle.std.proofs.Common.{◌≡◌, ℕ, ◌-◌, ◌<◌, ◌≤◌, true, false, not, ◌&&◌, leb, List, get_or, take, sym, ap, ◌∙◌, ap₂, arith}
use mathlib.Core.Logic.{∥∥₁_map}
use Rattle.std.proofs.lemmas.Bool.{leb-true}
use Rattle.model.specs.declared.kind.Kind.{Kind}
use Rattle.model.specs.Sets.{has, held_in_all}
use Rattle.model.specs.Goals.{Target}
use Rattle.meaning.specs.Problems.{Problem, kinds_of, fitting, is_empty, without, support, short, in_range}
use Rattle.model.specs.Answers.{accepted, refused}
use Rattle.meaning.specs.Register.{rule_out}
use Rattle.meaning.specs.Plan.{State, does, Lies}
use Rattle.meaning.proofs.Lists.{and_left, and_right}
use Rattle.meaning.specs.View.{state_of, problem_of, Inside}
use Rattle.meaning.proofs.PlanFields.{passed, refused_is}

pub inside_less : (n : ℕ) (standing next : List ℕ) (rows : List (List ℕ)) (k : ℕ) → Lies n next standing → ((j : ℕ) → j < n → 0 < get_or next j 0) → ∥ Inside n standing rows k ∥₁ → ∥ Inside n next rows k ∥₁
inside_less n standing next rows k h some t = ∥∥₁_map t (λ in'. (λ i l j d a b w. in'.0 i l j d a b (h j d a b w), in'.1, some, in'.3))

module _ (t : Target) (n : ℕ) (kinds : List Kind) (standing : List ℕ) (noted : List (List ℕ)) (k i d f b : ℕ) where
  abbrev c : Problem
  c = problem_of t n kinds

  abbrev s : State
  s = state_of n standing noted k

  abbrev rest : List (List ℕ)
  rest = without (i - 1) d (fitting c (take n standing))

  pub rule_range : short c f b ≡ false → in_range c i d ≡ false → does c s (rule_out i d f b) ≡ (s, refused 10)
  rule_range long ranged = passed s (short c f b) 7 _ long ∙ refused_is s (not (in_range c i d)) 10 _ (ap not ranged)

  pub rule_not : short c f b ≡ false → in_range c i d ≡ true → has (get_or (take n standing) (i - 1) 0) d ≡ false → does c s (rule_out i d f b) ≡ (s, refused 11)
  rule_not long ranged gone =
      passed s (short c f b) 7 _ long ∙ passed s (not (in_range c i d)) 10 _ (ap not ranged) ∙ refused_is s (not (has (get_or (take n standing) (i - 1) 0) d)) 11 _ (ap not gone)

  pub rule_last : short c f b ≡ false → in_range c i d ≡ true → has (get_or (take n standing) (i - 1) 0) d ≡ true → is_empty rest ≡ true → does c s (rule_out i d f b) ≡ (s, refused 8)
  rule_last long ranged there none =
      passed s (short c f b) 7 _ long ∙ passed s (not (in_range c i d)) 10 _ (ap not ranged) ∙ passed s (not (has (get_or (take n standing) (i - 1) 0) d)) 11 _ (ap not there)
      ∙ refused_is s (is_empty rest) 8 _ none

  pub rule_goes : short c f b ≡ false → in_range c i d ≡ true → has (get_or (take n standing) (i - 1) 0) d ≡ true → is_empty rest ≡ false
      → (next : List ℕ) (before later : ℕ) → take n next ≡ support (kinds_of c) rest → before ≡ held_in_all (take n standing) → later ≡ held_in_all (take n next)
      → does c s (rule_out i d f b) ≡ (state_of n next noted k, accepted (before - later))
  rule_goes long ranged there some next before later are p q =
      passed s (short c f b) 7 _ long ∙ passed s (not (in_range c i d)) 10 _ (ap not ranged) ∙ passed s (not (has (get_or (take n standing) (i - 1) 0) d)) 11 _ (ap not there)
      ∙ passed s (is_empty rest) 8 _ some
      ∙ ap₂ (λ (xs : List ℕ) (m : ℕ). (record { standing = xs; noted = s.noted }, accepted m)) (sym are)
      (ap₂ (λ (x y : ℕ). x - y) (sym p) (ap held_in_all (sym are) ∙ sym q))

pub range_low : (i n d : ℕ) → (leb 1 i && (leb i n && leb d 63)) ≡ true → (i - 1 < n) × (d < 64)
range_low i n d h =
    let a : 1 ≤ i = leb-true 1 i (and_left (leb 1 i) (leb i n && leb d 63) h) in
    let r : (leb i n && leb d 63) ≡ true = and_right (leb 1 i) (leb i n && leb d 63) h in
    let b : i ≤ n = leb-true i n (and_left (leb i n) (leb d 63) r) in
    let e : d ≤ 63 = leb-true d 63 (and_right (leb i n) (leb d 63) r) in
    (omega arith, omega arith)
