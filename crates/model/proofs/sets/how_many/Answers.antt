use Rattle.std.proofs.Common.{count_ones, sum_by, ap, ◌∙◌, arith}
use Rattle.model.proofs.Bits.{held_ones}
use Rattle.model.proofs.Bytes.{bytes_count, most_bits}
use Rattle.model.proofs.sets.how_many.Goals as goal

pub ones_among-requires : goal.ones_among-requires
ones_among-requires c =
    let all = ap (sum_by count_ones) c.to_le_bytes.ensures ∙ bytes_count c.args.set (omega (arith, c.ranges.set)) in
    omega (arith, all, c.ranges.set, most_bits c.args.set)

pub returns : goal.returns
returns c =
    let all = ap (sum_by count_ones) c.to_le_bytes.ensures ∙ bytes_count c.args.set (omega (arith, c.ranges.set)) in
    record {
      members = omega (arith, all, c.ones_among.ensures, c.ranges.set, held_ones c.args.set);
      few = omega (arith, all, c.ones_among.ensures, c.ranges.set, most_bits c.args.set);
    }
