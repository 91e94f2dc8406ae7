-- Cases made from rows.
use Rattle.std.specs.Prelude.{ℕ, ◌+◌, List, [], ◌∷◌, map, Some, None, Option}
use Rattle.model.specs.Answers.{Outcome, accepted, refused}
use Rattle.model.specs.Cases.{add_refused}
use Rattle.model.specs.Parts.{Part}
use Rattle.samples.specs.declared.Sample.{Sample}

-- the kind that a row asks for, with its allowed counts
abbrev pub part_of : Sample → Part
part_of row = record { size = row.size; price = row.price; standing = row.allowed }

-- the first that is there
abbrev pub first_of : Option ℕ → Option ℕ → Option ℕ
first_of (Some number) later = Some number
first_of None later = later

-- Why the first of the rows that may not be added is refused, where each row before it is one kind more than the n kinds that there are.
abbrev pub first_refused : ℕ → List Sample → Option ℕ
first_refused n [] = None
first_refused n (row ∷ rows) = first_of (add_refused n row.size row.price row.allowed) (first_refused (n + 1) rows)

-- the case, or the reason why there is none
abbrev pub made_or : Option ℕ → List Part → Outcome (List Part)
made_or (Some number) parts = refused number
made_or None parts = accepted parts

-- A case made from rows has just the kinds that they ask for, in order; where a row may not be added, there is no case, and the first such
-- row says why.
abbrev pub case_made : List Sample → Outcome (List Part)
case_made rows = made_or (first_refused 0 rows) (map part_of rows)
