use Rattle.std.proofs.Common.{ℕ, ◌+◌, ◌<◌, length, set, sym, refl, ap, subst, arith}
use Rattle.std.proofs.lemmas.Bool.{both_ways}
use Rattle.search.proofs.Finding.{Filling, closes_means, fill_all, fill_more, means_closes, parts_long, some_closes}
use Rattle.search.specs.Search.{closes}
use Rattle.search.specs.Seen.{part_in, parts_in}
use Rattle.search.proofs.marks.Marks.fill_rest.Goals as goal

pub least_count-least-requires-clause-some : goal.least_count-least-requires-clause-some
least_count-least-requires-clause-some g c =
    some_closes (g.G.Goal.means c.args.goal.now).admits c.args.self.now c.requires.right (c.args.from + c.loop-i.i) (omega arith) c.loop-i.b c.loop-i.invariant.closes

pub loop-i-preserved : goal.loop-i-preserved
loop-i-preserved g c =
    let adm = (g.G.Goal.means c.args.goal.now).admits in
    let m = c.args.self.now in
    let i = c.loop-i.i in
    let at = c.args.from + i in
    let b = c.loop-i.b in
    let d = c.least_count-least.result in
    let lt : at < length m.parts.kinds.now = omega arith in
    let means = closes_means adm m c.requires.right at b d lt c.least_count-least.ensures.closes in
    let F : ℕ → Type 0 = λ t. Filling adm (parts_in m) c.args.from c.args.total (i + 1) t (set c.loop-i.rest i d) in
    subst F (ap (λ v. b + v) (sym c.blocks-b.ensures.value))
    (fill_more adm (parts_in m) c.args.from c.args.total i b c.loop-i.rest (part_in m at) d (omega (arith, parts_long m)) (omega arith) refl c.least_count-least.ensures.small means.0 means.1
    (λ e h y k. both_ways (closes m at b e) (c.least_count-least.ensures.least e h) (means_closes adm m c.requires.right at b e lt y k))
    c.loop-i.invariant)

pub returns : goal.returns
returns g c =
    let adm = (g.G.Goal.means c.args.goal.now).admits in
    let m = c.args.self.now in
    fill_all adm (parts_in m) c.args.from c.args.total c.loop-i.i c.loop-i.b c.loop-i.rest (omega (arith, parts_long m)) (omega arith) c.loop-i.invariant
