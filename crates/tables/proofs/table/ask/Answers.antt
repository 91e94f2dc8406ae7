use Rattle.std.proofs.Common.{rules}
use Rattle.std.proofs.lemmas.Slice.{overwrites}
use Rattle.tables.proofs.table.ask.Goals as goal

pub returns-clause-past : goal.returns-clause-past
returns-clause-past g c = search (rules, overwrites)
