-- An accepted settle.
use Rattle.std.proofs.Common.{◌≡◌, ℕ, ◌<◌, false, List, [], map, length, take, Some, sym, ap, ◌∙◌, subst, arith}
use Rattle.model.specs.declared.kind.Kind.{Kind}
use Rattle.model.specs.Sets.{held_in_all}
use Rattle.model.specs.Parts.{parts}
use Rattle.model.specs.Loads.{fits}
use Rattle.model.specs.Goals.{Target}
use Rattle.meaning.specs.Problems.{Problem, problem, kinds_of, allowed_sets, fitting, is_empty, support, short}
use Rattle.meaning.specs.Register.{start}
use Rattle.model.specs.Answers.{Answer, accepted}
use Rattle.meaning.specs.Plan.{State, settled, Shows}
use Rattle.meaning.specs.Used.{Pruned}
use Rattle.meaning.specs.Life.{Life, blank, lives, settles, Settled}
use Rattle.meaning.proofs.Runs.{settled_shows}
use Rattle.meaning.specs.View.{state_of, life_of}
use Rattle.meaning.proofs.PlanFields.{passed, live_is, blank_is, not_empty}

module _ (t : Target) (ks : List Kind) (f b : ℕ) where
  abbrev c : Problem
  c = problem t ks

  settles_is : 0 < length ks → short c f b ≡ false → is_empty (fitting c (allowed_sets c)) ≡ false
      → settles (blank t) ks f b ≡ (lives c (settled c), accepted (held_in_all (settled c).standing))
  settles_is some long live =
      passed (blank t) (is_empty ks) 6 _ (not_empty ks some) ∙ passed (blank t) (short c f b) 7 _ long ∙ passed (blank t) (is_empty (fitting c (allowed_sets c))) 8 _ live

  settled_blank : (s : State) (count : ℕ) → 0 < length ks → short c f b ≡ false → is_empty (fitting c (allowed_sets c)) ≡ false → s ≡ settled c → count ≡ held_in_all s.standing
      → Settled (blank t) ks f b (lives c s) (accepted count)
  settled_blank s count some long live e m =
      let i = settles_is some long live in
      record {
        life = ap (lives c) e ∙ sym (ap (λ (y : Life × Answer). y.0) i);
        answer = ap accepted (m ∙ ap (λ (z : State). held_in_all z.standing) e) ∙ sym (ap (λ (y : Life × Answer). y.1) i);
        begins = subst (λ (z : State). Shows c z start) (sym e) (settled_shows c live);
      }

pub settled_now : (t : Target) (m n : ℕ) (kinds kinds₀ : List Kind) (next allowed standing₀ : List ℕ) (noted : List (List ℕ)) (opened₀ f b count : ℕ) → m ≡ 0 → 0 < n → length (take n kinds) ≡ n
    → short (problem t (take n kinds)) f b ≡ false → take n allowed ≡ map (λ k. k.allowed) (take n kinds)
    → Pruned (fits t.admits (parts (take n kinds) (take n allowed))) (length (take n kinds)) (Some next) → count ≡ held_in_all (take n next)
    → Settled (life_of t m kinds₀ standing₀ noted opened₀) (take n kinds) f b (life_of t n kinds next noted 0) (accepted count)
settled_now t m n kinds kinds₀ next allowed standing₀ noted opened₀ f b count z some long room sets found held =
    let ks = take n kinds in
    let c₀ = problem t ks in
    let live : is_empty (fitting c₀ (allowed_sets c₀)) ≡ false = ap (λ (ss : List ℕ). is_empty (fitting c₀ ss)) (sym sets) ∙ found.0 in
    let are : take n next ≡ support (kinds_of c₀) (fitting c₀ (allowed_sets c₀)) =
    ap (λ (k : ℕ). take k next) (sym long) ∙ found.1 ∙ ap (λ (ss : List ℕ). support (kinds_of c₀) (fitting c₀ ss)) sets in
    let S : Life → Type 0 = λ l. Settled l ks f b (life_of t n kinds next noted 0) (accepted count) in
    let S' : Life → Type 0 = λ l. Settled (blank t) ks f b l (accepted count) in
    subst S (sym (blank_is t m kinds₀ standing₀ noted opened₀ z))
    (subst S' (sym (live_is t n kinds next noted 0 some))
    (settled_blank t ks f b (state_of n next noted 0) count (omega arith) room live (ap (λ (ss : List ℕ). record { standing = ss; noted = [] }) are) held))
