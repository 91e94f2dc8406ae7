use Rattle.std.proofs.Common.{◌≡◌, take, drop, map}
use Rattle.model.specs.Cases.{allowed_parts, kinds_in}
use Rattle.samples.specs.Rows.{first_refused, part_of}
use Rattle.samples.proofs.case_of.Given as goal

-- the kinds are those of the rows so far, of which none is refused
abbrev pub invariant-loop-row : goal.invariant-loop-row
invariant-loop-row l = record {
  kinds : allowed_parts (kinds_in l.case) ≡ map part_of (take l.row-index l.rows);
  none : first_refused 0 l.rows ≡ first_refused l.row-index (drop l.row-index l.rows);
}
