use Rattle.std.proofs.Common.{◌≡◌, length}
use Rattle.bench.proofs.work.list_loads.Given as goal

-- the load keeps its 32 bytes
abbrev pub invariant-loop : goal.invariant-loop
invariant-loop l = length l.load ≡ 32
