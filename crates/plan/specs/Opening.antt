-- What the calls of a settled plan begin with.
use Rattle.std.specs.Prelude.{ℕ, cond, List}
use Rattle.meaning.specs.Life.{Life, blank, lives}
use Rattle.meaning.specs.Problems.{short}
use Rattle.model.specs.Answers.{Outcome, accepted, refused}
use Rattle.model.specs.declared.kind.Kind.{Kind}
use Rattle.model.specs.declared.parts.Parts.{Parts}

-- kinds with their sets, as lists
abbrev pub lent : Parts → List Kind × List ℕ
lent ps = (ps.kinds.now, ps.sets.now)

-- the kinds of a plan and the sets that stand: refused 9 while it is blank
abbrev pub shown : Life → Outcome (List Kind × List ℕ)
shown (blank t) = refused 9
shown (lives c s) = accepted (c.kinds, s.standing)

-- the same with tables of so many cells: refused 7 where one is short
abbrev pub ready : Life → ℕ → ℕ → Outcome (List Kind × List ℕ)
ready (blank t) forward backward = refused 9
ready (lives c s) forward backward = cond (short c forward backward) (refused 7) (accepted (c.kinds, s.standing))
