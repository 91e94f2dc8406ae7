use Rattle.std.specs.List.{range_with_len}
use Rattle.std.proofs.Common.{filter}
use Rattle.std.specs.Fmt.{HasWritten, IsPlainFormatter}
use Rattle.model.specs.Sets.{has}
use Rattle.report.specs.Lines.{spaced}
use Rattle.report.proofs.counts.SetCountsDisplay.fmt.Given as goal

-- the counts passed are written where they are in the set
abbrev pub invariant-loop-member : goal.invariant-loop-member
invariant-loop-member g l =
    IsPlainFormatter l.initial.f → HasWritten g.W.Write.write_str_gives l.initial.f (spaced (filter (has l.set) (range_with_len 0 l.member-counter))) l.f
