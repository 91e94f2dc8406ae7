use Rattle.std.proofs.Common.{◌≡◌, ℕ, ◌+◌, Bool, true, List, length, drop, set, is_ok, sym, ap, ◌∙◌, subst, rules, arith, length-set, length-drop}
use Rattle.std.proofs.lemmas.List.{take_rest}
use Rattle.meaning.specs.Finding.{Gives, IsNext, next_load}
use Rattle.model.specs.declared.refusal.Refusal.TheVariants.{EndOfLoads}
use Rattle.search.proofs.Finding.{next_gives, next_in_run, next_none, none_next_gives, raise_closes, raise_next}
use Rattle.search.proofs.Read.{at_err, none_raised, on_err, raised_load, raised_to}
use Rattle.search.specs.Seen.{parts_in}
use Rattle.search.proofs.marks.Marks.next_load.Goals as goal

pub returns-in_err-up : goal.returns-in_err-up
returns-in_err-up g c =
    let adm = (g.G.Goal.means c.args.goal.now).admits in
    let m = c.args.self.now in
    let given = c.args.load.now in
    let r = c.from_residual.result in
    let none = next_none adm m c.requires.right given c.requires.long (none_raised m given c.raise.result EndOfLoads c.in_err-up.field-0.0 c.ok_or.result c.raise.ensures c.ok_or.ensures.value c.in_err-up.was) in
    let P : Bool → Type 0 = λ b. Gives (next_load adm (parts_in m) given) given b given in
    let gives = subst P (sym (at_err r c.from_residual.ensures.0)) (none_next_gives adm m c.requires.right given c.requires.long none) in
    record { next = gives; found = search rules; none = on_err r none; refusal = search rules; run = next_in_run adm (parts_in m) given (is_ok r) given gives }

pub fill_rest-requires : goal.fill_rest-requires
fill_rest-requires g c =
    let adm = (g.G.Goal.means c.args.goal.now).admits in
    let m = c.args.self.now in
    let given = c.args.load.now in
    let up = c.in_ok-up.up in
    let high = raised_to m given c.raise.result EndOfLoads c.ok_or.result up c.raise.ensures c.ok_or.ensures.value c.in_ok-up.was in
    let written = set given up.place up.count in
    let long : up.place + 1 + length (drop (up.place + 1) written) ≡ length m.parts.kinds.now = omega (arith, high.place, c.requires.long, length-set given up.place up.count, length-drop (up.place + 1) written) in
    record { right = c.requires.right; long = ap (λ rest. up.place + 1 + length rest) (take_rest written (up.place + 1)) ∙ long; closes = raise_closes adm m c.requires.right given c.requires.long up.place up.count up.total high }

pub returns : goal.returns
returns g c =
    let adm = (g.G.Goal.means c.args.goal.now).admits in
    let m = c.args.self.now in
    let given = c.args.load.now in
    let up = c.in_ok-up.up in
    let high = raised_to m given c.raise.result EndOfLoads c.ok_or.result up c.raise.ensures c.ok_or.ensures.value c.in_ok-up.was in
    let Next : List ℕ → Type 0 = λ x. IsNext adm (parts_in m) given x in
    let is = subst Next (sym (raised_load given c.fill_rest.new.rest up.place up.count (omega (arith, high.place, c.requires.long))))
    (raise_next adm m c.requires.right given c.requires.long up.place up.count up.total c.fill_rest.new.rest high c.fill_rest.ensures) in
    let gives = next_gives adm m c.requires.right given c.requires.long _ is in
    record { next = gives; found = is; none = search rules; refusal = search rules; run = next_in_run adm (parts_in m) given true _ gives }
