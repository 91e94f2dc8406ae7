use Rattle.std.proofs.Common.{◌≡◌, Ok, subst, rules}
use Rattle.fields.specs.Fields.{Heads, Reads}
use Rattle.fields.specs.Reading.{Bytes}
use Rattle.fields.proofs.Heading.{next_place}
use Rattle.fields.proofs.cursor.Cursor.next.Goals as goal

pub returns-clause-answer : goal.returns-clause-answer
returns-clause-answer c =
    let s = c.args.self.now in
    let head = c.in_ok-head.head in
    let b = c.split_at.ensures.back in
    let r : c.read_head.result ≡ Ok head = search rules in
    let h = subst (λ t. Heads t (Ok head)) b (subst (Heads c.split_at.result.1.now) r c.read_head.ensures.head) in
    next_place s.bytes.now s.place head.len c.read_value.result s.inside (subst Bytes b c.read_head.ensures.bytes) h.0
    (subst (λ t. Reads t c.read_value.result) b c.read_value.ensures) h.2
