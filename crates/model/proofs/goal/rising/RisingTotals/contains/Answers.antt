use Rattle.std.proofs.Common.{◌≡◌, ◌<◌, length, drop, sym, ap, ◌∙◌, arith}
use Rattle.model.specs.Goals.{is_in, rising}
use Rattle.model.specs.ListGoals.{rising_in}
use Rattle.model.specs.Rises.{first_decides}
use Rattle.model.proofs.goal.rising.RisingTotals.contains.Goals as goal

pub returns-then-listed-total : goal.returns-then-listed-total
returns-then-listed-total g c =
    let ts = c.totals-listed-items.result.now in
    let same : ts ≡ rising_in c.args.self.now = c.totals-listed-items.ensures in
    let i = c.loop-listed.listed-index in
    let here : i < length ts = omega (arith, c.loop-listed.auto) in
    let decides = first_decides ts i here c.args.total (ap rising same ∙ c.args.self.now.rises) (omega arith) in
    sym decides ∙ ap (λ xs. is_in (drop i xs) c.args.total) same ∙ c.loop-listed.invariant
