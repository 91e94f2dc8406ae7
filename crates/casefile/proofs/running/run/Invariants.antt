use Rattle.std.proofs.Common.{◌≡◌, ◌-◌, ◌*◌, ◌≤◌, [], length, drop}
use Rattle.sequence.specs.declared.phase.Phase.TheVariants.{Kinds}
use Rattle.sequence.proofs.Ahead.{ahead}
use Rattle.reader.specs.Holding.{fresh}
use Rattle.reader.specs.Seen.{seen}
use Rattle.outcomes.specs.Desk.{desk}
use Rattle.casefile.specs.Listed.{listed}
use Rattle.casefile.proofs.running.run.Given as goal

-- what is still to run comes to the same as the whole file
abbrev pub invariant-loop-phase : goal.invariant-loop-phase
invariant-loop-phase l =
    (l.cursor.bytes.now ≡ l.file)
    × (length l.file ≤ 16384)
    × (5 * length (listed l.answers) ≤ l.cursor.place)
    × (ahead desk l.phase l.cursor.place (drop l.cursor.place l.file) (seen l.reader l.forward l.backward) (listed l.answers)
    ≡ ahead desk Kinds 0 l.file (fresh l.initial.forward l.initial.backward) [])

abbrev pub decreases-loop-phase : goal.decreases-loop-phase
decreases-loop-phase l = length l.file - l.cursor.place
