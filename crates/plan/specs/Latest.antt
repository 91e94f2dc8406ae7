-- Taking the latest of the open branches.
use Rattle.std.specs.Prelude.{◌≡◌, ℕ, ◌+◌, Some, None, Option}
use Rattle.plan.specs.declared.branch.Branch.{Branch}
use Rattle.plan.specs.declared.branch.OpenBranches.{OpenBranches}

-- none of none; else the branch whose number is how many there are, and one fewer
abbrev pub IsLatest : ℕ → Option (Branch × OpenBranches) → Type 0
IsLatest many None = many ≡ 0
IsLatest many (Some two) = (two.0.number ≡ many) × (two.1.many + 1 ≡ many)
