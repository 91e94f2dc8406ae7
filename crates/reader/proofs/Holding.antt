-- The goal of a plan.
use Rattle.std.proofs.Common.{◌≡◌, ℕ, zero, suc, List, refl}
use Rattle.model.specs.Goals.{Target}
use Rattle.model.specs.declared.kind.Kind.{Kind}
use Rattle.meaning.specs.View.{life_of}
use Rattle.reader.specs.Holding.{target_in}

pub life_target : (t : Target) (n : ℕ) (kinds : List Kind) (standing : List ℕ) (noted : List (List ℕ)) (opened : ℕ)
    → target_in (life_of t n kinds standing noted opened) ≡ t
life_target t zero kinds standing noted opened = refl
life_target t (suc n) kinds standing noted opened = refl
