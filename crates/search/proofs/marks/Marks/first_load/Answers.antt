use Rattle.std.proofs.Common.{true, false, sym, ◌∙◌, arith}
use Rattle.search.proofs.Finding.{first_gives, first_in_run, first_none, least_first, mark_means, none_gives}
use Rattle.search.specs.Seen.{parts_in}
use Rattle.search.proofs.marks.Marks.first_load.Goals as goal

pub returns-then-not-is_closed-clause-first : goal.returns-then-not-is_closed-clause-first
returns-then-not-is_closed-clause-first g c =
    none_gives (g.G.Goal.means c.args.goal.now).admits c.args.self.now c.requires.right c.args.load.now (first_none (g.G.Goal.means c.args.goal.now).admits c.args.self.now c.requires.right (sym c.is_closed.ensures ∙ c.if-not-is_closed.true))

pub returns-then-not-is_closed-clause-none : goal.returns-then-not-is_closed-clause-none
returns-then-not-is_closed-clause-none g c = first_none (g.G.Goal.means c.args.goal.now).admits c.args.self.now c.requires.right (sym c.is_closed.ensures ∙ c.if-not-is_closed.true)

pub returns-then-not-is_closed-clause-run : goal.returns-then-not-is_closed-clause-run
returns-then-not-is_closed-clause-run g c =
    first_in_run (g.G.Goal.means c.args.goal.now).admits (parts_in c.args.self.now) c.args.load.now false c.args.load.now (returns-then-not-is_closed-clause-first g c)

pub fill_rest-requires-clause-closes : goal.fill_rest-requires-clause-closes
fill_rest-requires-clause-closes g c =
    mark_means (g.G.Goal.means c.args.goal.now).admits c.args.self.now c.requires.right 0 0 (omega arith) (sym c.is_closed.ensures ∙ c.if-not-is_closed.false)

pub returns-clause-first : goal.returns-clause-first
returns-clause-first g c =
    let x = c.fill_rest.new.rest in
    first_gives (g.G.Goal.means c.args.goal.now).admits c.args.self.now c.requires.right x c.args.load.now (least_first (g.G.Goal.means c.args.goal.now).admits c.args.self.now c.requires.right x c.fill_rest.ensures)

pub returns-clause-run : goal.returns-clause-run
returns-clause-run g c =
    first_in_run (g.G.Goal.means c.args.goal.now).admits (parts_in c.args.self.now) c.args.load.now true c.fill_rest.new.rest (returns-clause-first g c)
