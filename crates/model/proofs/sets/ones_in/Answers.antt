-- The table's rule is one computed test: antt makes the list of the ones of 0 to 255 and compares it with the table, entry by entry.
use Rattle.std.proofs.Common.{◌∙◌, zero-add, arith}
use lib.Count.{ones, ones_in}
use Rattle.std.proofs.lemmas.List.FromFn.{get_or-map-range_with_len}
use Rattle.model.proofs.sets.ones_in.Goals as goal

pub returns : goal.returns
unfolding ones ones_in
returns c =
    get_or-map-range_with_len ones 0 256 c.from.result c.args.byte 0 (omega (arith, c.ranges.byte)) (zero-add c.from.result ∙ c.from.ensures)
