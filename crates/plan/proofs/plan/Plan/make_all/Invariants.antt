use Rattle.std.proofs.Common.{◌≡◌, map, length, take, Some}
use Rattle.meaning.specs.Life.{Remarks, backward_marks, forward_marks, life_after, replies}
use Rattle.plan.specs.Entries.{answers_in, calls_in, calls_of}
use Rattle.plan.specs.Seen.{life}
use Rattle.plan.proofs.plan.Plan.make_all.Given as goal

abbrev pub invariant-loop-entry : goal.invariant-loop-entry
invariant-loop-entry g l =
    let f = length l.initial.forward in
    let b = length l.initial.backward in
    let before = life g.G.Goal.means l.initial.self in
    let here = life g.G.Goal.means l.self in
    let made = calls_in f b (take l.entry-index l.initial.entries) in
    (here ≡ life_after before made)
    × (answers_in (take l.entry-index l.entries) ≡ map Some (replies before made))
    × (calls_of l.entries ≡ calls_of l.initial.entries)
    × (l.self.goal ≡ l.initial.self.goal)
    × Remarks (forward_marks before) (forward_marks here) l.initial.forward l.forward
    × Remarks (backward_marks before) (backward_marks here) l.initial.backward l.backward
