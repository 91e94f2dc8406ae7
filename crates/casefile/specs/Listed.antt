-- The answers of the rule-outs.
use Rattle.std.specs.Prelude.{List}
use Rattle.fixed_list.specs.FixedLists.{in_use}
use Rattle.sequence.specs.declared.ruled.Ruled.{Ruled}
use Rattle.casefile.specs.declared.answers.Answers.{Answers}

-- the answers so far, in file order
abbrev pub listed : Answers → List Ruled
listed a = in_use a.rows
