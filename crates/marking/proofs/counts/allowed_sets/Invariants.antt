use Rattle.std.proofs.Common.{◌≡◌, map, length, take}
use Rattle.marking.proofs.counts.allowed_sets.Given as goal

abbrev pub invariant-loop-i : goal.invariant-loop-i
invariant-loop-i l = (length l.sets ≡ 32) × (take l.i l.sets ≡ map (λ k. k.allowed) (take l.i l.kinds))
