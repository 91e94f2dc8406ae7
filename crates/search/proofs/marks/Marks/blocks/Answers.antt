use Rattle.std.proofs.Common.{◌≡◌, ◌*◌, get_or, sym, refl, ap, ◌∙◌, arith}
use Rattle.meaning.proofs.Rows.{parts_at}
use Rattle.search.specs.Seen.{no_part}
use Rattle.search.proofs.marks.Marks.blocks.Goals as goal

pub returns-clause-value : goal.returns-clause-value
returns-clause-value c =
    let p = c.args.self.now.parts in
    let i = c.args.i in
    let k = c.index-self-i.result in
    let read = parts_at p.kinds.now p.sets.now i k (get_or p.sets.now i 0) no_part c.requires (omega (arith, p.same)) c.index-self-i.is refl in
    let size : c.size.result ≡ k.size = c.size.ensures ∙ sym (ap (λ x. x.size) c.index-self-i.is) in
    let is : c.from.result * c.from-2.result ≡ k.size * c.args.count = cc in
    is ∙ ap (λ q. q.size * c.args.count) read
