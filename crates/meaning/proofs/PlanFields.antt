-- A plan's life, blank or not, and the tests of a call.
use Rattle.std.proofs.Common.{◌≡◌, ℕ, zero, suc, ◌+◌, ◌<◌, Bool, true, false, List, [], ◌∷◌, length, get_or, take, sym, refl, ap, ◌∙◌, subst, arith}
use Rattle.std.proofs.lemmas.Bool.{true≢false, false≢true}
use Rattle.model.specs.declared.kind.Kind.{Kind}
use Rattle.meaning.specs.Models.{yes_no}
use Rattle.model.specs.Parts.{parts}
use Rattle.meaning.specs.Cells.{tallies, tallies_back}
use Rattle.model.specs.Goals.{Target}
use Rattle.meaning.specs.Problems.{Problem, is_empty}
use Rattle.meaning.specs.Register.{Call, step}
use Rattle.model.specs.Answers.{Answer, refused, refuse}
use Rattle.meaning.specs.Plan.{State, does, Shows}
use Rattle.meaning.specs.Life.{blank, lives, Called, forward_marks, backward_marks}
use Rattle.meaning.proofs.Steps.{call_shows_lem}
use Rattle.meaning.specs.View.{state_of, problem_of, life_of, Inside}

pub refused_is : {S : Type 0} (s : S) (t : Bool) (k : ℕ) (x : S × Answer) → t ≡ true → refuse s t k x ≡ (s, refused k)
refused_is s true k x e = refl
refused_is s false k x e = absurd (false≢true e)

pub passed : {S : Type 0} (s : S) (t : Bool) (k : ℕ) (x : S × Answer) → t ≡ false → refuse s t k x ≡ x
passed s true k x e = absurd (true≢false e)
passed s false k x e = refl

pub not_empty : {X : Type 0} (xs : List X) → 0 < length xs → is_empty xs ≡ false
not_empty [] h = absurd (omega arith)
not_empty (x ∷ xs) h = refl

pub live_is : (t : Target) (n : ℕ) (kinds : List Kind) (standing : List ℕ) (noted : List (List ℕ)) (opened : ℕ) → 0 < n
    → life_of t n kinds standing noted opened ≡ lives (problem_of t n kinds) (state_of n standing noted opened)
live_is t zero kinds standing noted opened h = absurd (omega arith)
live_is t (suc n) kinds standing noted opened h = refl

pub blank_is : (t : Target) (n : ℕ) (kinds : List Kind) (standing : List ℕ) (noted : List (List ℕ)) (opened : ℕ) → n ≡ 0
    → life_of t n kinds standing noted opened ≡ blank t
blank_is t zero kinds standing noted opened h = refl
blank_is t (suc n) kinds standing noted opened h = absurd (omega arith)

-- no branch is open
pub inside_none : (n : ℕ) (standing : List ℕ) (noted : List (List ℕ)) → ((j : ℕ) → j < n → 0 < get_or standing j 0) → ∥ Inside n standing noted 0 ∥₁
inside_none n standing noted some = ∣ (λ k h. absurd (omega arith), λ k m h l. absurd (omega arith), some, λ k j h l. absurd (omega arith)) ∣₁

-- the marks of a plan that lives
pub ahead_marks : (t : Target) (n : ℕ) (kinds : List Kind) (standing : List ℕ) (noted : List (List ℕ)) (opened : ℕ) → 0 < n
    → forward_marks (life_of t n kinds standing noted opened) ≡ tallies yes_no (parts (take n kinds) (take n standing)) (t.top + 1)
ahead_marks t zero kinds standing noted opened h = absurd (omega arith)
ahead_marks t (suc n) kinds standing noted opened h = refl

pub back_marks : (t : Target) (n : ℕ) (kinds : List Kind) (standing : List ℕ) (noted : List (List ℕ)) (opened : ℕ) → 0 < n
    → backward_marks (life_of t n kinds standing noted opened) ≡ tallies_back yes_no t.admits (parts (take n kinds) (take n standing)) (t.top + 1)
back_marks t zero kinds standing noted opened h = absurd (omega arith)
back_marks t (suc n) kinds standing noted opened h = refl

-- a call that does what the definition has it do goes with every register that is shown
pub called : (c : Problem) (s : State) (x : Call) (t : State) (a : Answer) → does c s x ≡ (t, a) → Called (lives c s) x (lives c t) a
called c s x t a e =
    let e₀ : t ≡ (does c s x).0 = ap (λ (y : State × Answer). y.0) (sym e) in
    let e₁ : a ≡ (does c s x).1 = ap (λ (y : State × Answer). y.1) (sym e) in
    record {
      life = ap (lives c) e₀;
      answer = e₁;
      follows = λ r sh. (subst (λ (z : State). Shows c z (step c r x).0) (sym e₀) (call_shows_lem c s r x sh).0, e₁ ∙ (call_shows_lem c s r x sh).1);
    }

module _ (t : Target) (kinds : List Kind) where
  -- a call on a plan that lives
  pub called_live : (n : ℕ) (standing standing' : List ℕ) (noted noted' : List (List ℕ)) (k k' : ℕ) (x : Call) (a : Answer) → 0 < n
      → does (problem_of t n kinds) (state_of n standing noted k) x ≡ (state_of n standing' noted' k', a)
      → Called (life_of t n kinds standing noted k) x (life_of t n kinds standing' noted' k') a
  called_live zero standing standing' noted noted' k k' x a h e = absurd (omega arith)
  called_live (suc n) standing standing' noted noted' k k' x a h e = called (problem_of t (suc n) kinds) (state_of (suc n) standing noted k) x (state_of (suc n) standing' noted' k') a e

  -- a call on a blank plan
  pub called_blank : (n : ℕ) (standing : List ℕ) (noted : List (List ℕ)) (k : ℕ) (x : Call) → n ≡ 0 → Called (life_of t n kinds standing noted k) x (life_of t n kinds standing noted k) (refused 9)
  called_blank zero standing noted k x h = record { life = refl; answer = refl; follows = tt }
  called_blank (suc n) standing noted k x h = absurd (omega arith)
