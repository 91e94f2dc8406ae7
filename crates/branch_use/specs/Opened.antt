-- A branch that was just opened.
use Rattle.std.specs.Prelude.{◌≡◌, ℕ, ◌+◌, ◌≤◌, Ok, Err, Result}
use Rattle.model.specs.declared.refusal.Refusal.{Refusal}
use Rattle.plan.specs.declared.branch.Branch.{Branch}

-- it is the latest of those that are then open, one more than before; a refusal opens none
abbrev pub IsOpened : ℕ → ℕ → Result Branch Refusal → Type 0
IsOpened before after (Ok b) = (1 ≤ b.number) × (after ≡ b.number) × (after ≡ before + 1)
IsOpened before after (Err e) = after ≡ before
