use Rattle.std.proofs.Common.{◌≡◌, ◌+◌, ◌≤◌, List, length, take, sym, ap, ◌∙◌, subst, rules}
use Rattle.std.proofs.lemmas.Bool.{ltb-false}
use Rattle.fixed_list.specs.FixedLists.{in_use}
use Rattle.model.specs.declared.kind.Kind.{Kind}
use Rattle.model.specs.Parts.{parts}
use Rattle.meaning.specs.Cells.{over, tallies}
use Rattle.meaning.specs.Problems.{needed, problem}
use Rattle.meaning.specs.Tallies.{tally_of}
use Rattle.meaning.proofs.PlanTelling.{tally_live}
use Rattle.marking.proofs.Marked.{ends_once}
use Rattle.plan.proofs.Opening.{opened, parts_are}
use Rattle.plan.proofs.plan.Plan.tally.Goals as goal

pub returns-clause-tells : goal.returns-clause-tells
returns-clause-tells g c =
    let p = c.args.self.now in
    let m = g.M.Measure.means in
    let t = g.G.Goal.means p.goal in
    let n = p.case.kinds.many in
    let kinds = p.case.kinds.items in
    let ps = c.in_ok-parts.parts in
    let o = opened g.G.Goal.means p ps c.in_ok-parts.ensures.parts in
    let seen = parts_are n kinds p.standing ps.kinds.now ps.sets.now o in
    let ends : c.tally_loads.new.table.cells.now ≡ over (tallies m (parts (take n kinds) (take n p.standing)) (t.top + 1)) c.args.values.now =
    ends_once (tallies m (parts ps.kinds.now ps.sets.now)) c.new-table.result.width (t.top + 1) _ _ _ c.tally_loads.ensures.cells (c.new-table.ensures.width ∙ c.width_of.ensures.value) c.new-table.ensures.cells
    ∙ ap (λ qs. over (tallies m qs (t.top + 1)) c.args.values.now) seen in
    let told : c.tally_loads.result ≡ tally_of m t.admits (parts (take n kinds) (take n p.standing)) = c.tally_loads.ensures.answer ∙ ap (tally_of m t.admits) seen in
    let Room : List Kind → Type 0 = λ xs. needed (problem t xs) ≤ length c.args.values.now in
    let room : Room (take n kinds) = subst Room o.kinds_are (ltb-false (length c.args.values.now) (needed (problem t ps.kinds.now)) (sym c.if-is_short_of.ensures)) in
    let live = tally_live m t n kinds p.standing (in_use p.noted) (length (in_use p.noted)) c.args.values.now _ c.tally_loads.result o.some room told ends in
    search rules
