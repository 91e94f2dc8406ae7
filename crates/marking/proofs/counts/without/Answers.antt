use Rattle.std.proofs.Common.{◌^◌, ◌<◌, not, ◌&&◌, eqb, ap, ◌∙◌, rules}
use lib.Bits.{bit_xor}
use Rattle.std.proofs.lemmas.Nat.{one_shl, xor_lt, pow_below}
use Rattle.model.specs.Sets.{has}
use Rattle.meaning.proofs.Sets.{has_without}
use Rattle.meaning.proofs.Bits.{is_set_of}
use Rattle.marking.proofs.counts.without.Goals as goal

pub returns : goal.returns
returns c =
    let s = c.args.set in
    let d = c.args.count in
    let fits : s < 2 ^ 64 = search rules in
    ap (bit_xor s) (one_shl d 64 c.requires.small)
    ∙ is_set_of (bit_xor s (2 ^ d)) (λ e. has s e && not (eqb e d)) (xor_lt 64 s (2 ^ d) fits (pow_below d 64 c.requires.small)) (λ k h. has_without s d k c.requires.stands)
