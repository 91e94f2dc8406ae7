-- What the fields of a plan say of its stage.
use Rattle.std.proofs.Common.{◌≡◌, ℕ, ◌<◌, Bool, false, eqb, length, sym, ◌∙◌, arith}
use Rattle.std.proofs.lemmas.Bool.{eqb-false}
use Rattle.fixed_list.specs.FixedLists.{in_use}
use Rattle.model.specs.Goals.{Target}
use Rattle.meaning.proofs.Remarks.{Whole, whole_life}
use Rattle.plan.specs.declared.plan.Plan.{Plan}
use Rattle.plan.specs.Seen.{life}

-- a plan that is not blank has kinds
pub some_kinds : (n : ℕ) (b : Bool) → b ≡ eqb n 0 → b ≡ false → 0 < n
some_kinds n b e h = let ne : n ≡ 0 → ⊥ = eqb-false n 0 (sym e ∙ h) in omega arith

-- a plan has a standing set for each of its kinds
pub whole : {G : Type 0} (means : G → Target) (p : Plan G) → Whole (life means p)
whole means p =
    whole_life (means p.goal) p.case.kinds.many p.case.kinds.items p.standing (in_use p.noted) (length (in_use p.noted)) (omega (arith, p.full, p.case.kinds.few))
    (omega (arith, p.case.kinds.long, p.case.kinds.few))
