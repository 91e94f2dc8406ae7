use Rattle.tables.specs.Tables.{parts_of}
use Rattle.meaning.specs.Recurrence.{FilledTo}
use Rattle.tables.proofs.forward.fill.Given as goal

abbrev pub invariant-loop-i : goal.invariant-loop-i
invariant-loop-i g l =
    FilledTo g.M.Measure.means (parts_of l.fn.parts) l.width l.i l.initial.cells l.cells
