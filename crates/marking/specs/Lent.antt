-- What the lent tables hold after a call.
use Rattle.std.specs.Prelude.{ℕ, ◌+◌, List, length, take, Some, None, Option}
use Rattle.model.specs.declared.kind.Kind.{Kind}
use Rattle.model.specs.Goals.{Target}
use Rattle.model.specs.Parts.{Part, parts}
use Rattle.meaning.specs.Cells.{tallies, tallies_back}
use Rattle.meaning.specs.Models.{yes_no}

-- the forward marks of the parts under the goal
abbrev pub marks_ahead : Target → List Part → List ℕ
marks_ahead t ps = tallies yes_no ps (t.top + 1)

-- the backward marks
abbrev pub marks_back : Target → List Part → List ℕ
marks_back t ps = tallies_back yes_no t.admits ps (t.top + 1)

-- the forward marks of the sets that a trial found, or else the cells given
abbrev pub ahead_of : Target → List Kind → List ℕ → Option (List ℕ) → List ℕ
ahead_of t ks cells None = cells
ahead_of t ks cells (Some next) = marks_ahead t (parts ks (take (length ks) next))

-- the same of the backward marks
abbrev pub back_of : Target → List Kind → List ℕ → Option (List ℕ) → List ℕ
back_of t ks cells None = cells
back_of t ks cells (Some next) = marks_back t (parts ks (take (length ks) next))
