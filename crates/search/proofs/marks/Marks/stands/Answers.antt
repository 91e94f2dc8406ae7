use Rattle.std.proofs.Common.{◌≡◌, ◌&&◌, get_or, sym, ap, ◌∙◌, arith}
use Rattle.std.proofs.lemmas.Bool.{lt-ltb}
use Rattle.model.specs.Sets.{has}
use Rattle.search.proofs.Read.{standing_at}
use Rattle.search.specs.Seen.{part_in}
use Rattle.search.proofs.marks.Marks.stands.Goals as goal

pub returns-then-count-lt64 : goal.returns-then-count-lt64
returns-then-count-lt64 c =
    let p = c.args.self.now.parts in
    let d = c.args.count in
    let here : c.contains.result ≡ has (get_or p.sets.now c.args.i 0) d = cc in
    here ∙ ap (λ s. has s d) (standing_at p.kinds.now p.sets.now c.args.i c.requires (omega (arith, p.same)))
    ∙ sym (ap (λ t. t && has (part_in c.args.self.now c.args.i).standing d) (lt-ltb d 64 c.if-count-lt64.true))
