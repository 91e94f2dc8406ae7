-- The operations of the desk.
use Rattle.std.proofs.Common.{◌≡◌, ℕ, Some, Ok, Err, Result, sym, refl, ap, ◌∙◌, subst}
use Rattle.model.specs.declared.refusal.Refusal.{Refusal}
use Rattle.model.specs.Answers.{Answer, answer_of}
use Rattle.fields.specs.Values.{Value, end}
use Rattle.fields.specs.declared.placed.Placed.{Placed}
use Rattle.reader.specs.Holding.{Holding, operate, settle_held}
use Rattle.sequence.specs.Machines.{acting, settled, settling}
use Rattle.outcomes.specs.Desk.{desk}
use Rattle.casefile.specs.Results.{At, Did, SettledAt, answer_at, placed}

acts : (h : Holding) (v : Value) → operate h v ≡ acting desk h v
unfolding desk
acts h end = refl
acts h v = refl

settles_held : (h : Holding) → settle_held h ≡ desk h settled
unfolding desk
settles_held h = refl

pub acted : (h after : Holding) (r : Result ℕ Refusal) (v : Value) → (after, answer_of r) ≡ operate h v → Did after r (acting desk h v)
acted h after r v e =
    let f = e ∙ acts h v in
    record { state = ap (λ (x : Holding × Answer). x.0) f; answer = ap (λ (x : Holding × Answer). x.1) f }

answer_at_lem : (p : ℕ) (r : Result ℕ Refusal) → answer_at (placed p r) ≡ answer_of r
answer_at_lem p (Ok n) = refl
answer_at_lem p (Err e) = refl

place_at : (p : ℕ) (r : Result ℕ Refusal) → At p (placed p r)
place_at p (Ok n) = tt
place_at p (Err e) = refl

pub settled_at : (p : ℕ) (h after : Holding) (r : Result ℕ Refusal) (q : Result ℕ (Placed Refusal)) → (after, answer_of r) ≡ settle_held h → q ≡ placed p r
    → SettledAt (Some p) after q (settling desk h (Some p))
settled_at p h after r q e f =
    let g = e ∙ settles_held h in
    record {
      state = ap (λ (x : Holding × Answer). x.0) g;
      answer = ap answer_at f ∙ (answer_at_lem p r ∙ ap (λ (x : Holding × Answer). x.1) g);
      place = subst (At p) (sym f) (place_at p r);
    }
