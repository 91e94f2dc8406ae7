use Rattle.std.proofs.Common.{◌≡◌, ℕ, List, length, drop, replicate, ◌∙◌, arith, length-take}
use Rattle.std.proofs.lemmas.List.{take_at}
use Rattle.std.proofs.lemmas.List.FromFn.{fill_by_all}
use Rattle.model.specs.Sets.{set_of}
use Rattle.model.specs.Loads.{fits}
use Rattle.meaning.specs.Problems.{uses}
use Rattle.tables.specs.Tables.{parts_of}
use Rattle.tables.proofs.used.used_sets.Goals as goal

pub returns : goal.returns
returns g c =
    let U = λ (j : ℕ). set_of (uses (fits (g.G.Goal.means c.args.goal.now).admits (parts_of c.args.parts)) j) in
    let n = length c.args.parts.kinds.now in
    let xs = c.loop-i.set-items in
    let room : List ℕ = replicate 32 0 in
    let long : length xs ≡ n = omega (arith, c.loop-i.auto.set-items, length-take n room, c.requires.few) in
    take_at xs (drop n room) n long ∙ fill_by_all U xs n 0 long (λ k h. c.loop-i.invariant k (omega arith))
