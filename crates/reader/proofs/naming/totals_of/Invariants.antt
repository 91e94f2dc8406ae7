use Rattle.std.proofs.Common.{◌≡◌, length, take}
use Rattle.fields.specs.Reading.{totals as totalsIn}
use Rattle.reader.proofs.naming.totals_of.Given as goal

-- the first totals are written
abbrev pub invariant-loop-i : goal.invariant-loop-i
invariant-loop-i l = (length l.totals ≡ 16) × (take l.i l.totals ≡ take l.i (totalsIn l.part))
