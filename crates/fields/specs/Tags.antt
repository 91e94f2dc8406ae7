-- The tags of the fields, and their numbers.
use Rattle.std.specs.Prelude.{◌≡◌, ℕ, ◌<◌, Ok, Err, Result}
use Rattle.fields.specs.declared.field.Cause.{Cause}
use Rattle.fields.specs.declared.field.Cause.TheVariants.{UnknownTag}
use Rattle.fields.specs.declared.tag.Tag.{Tag}
use Rattle.fields.specs.declared.tag.Tag.TheVariants.{Kind, Band, List, Stride, RuleOut, End}

-- the number that stands in a file
abbrev pub code : Tag → ℕ
code End = 0
code Kind = 1
code Band = 2
code List = 3
code Stride = 4
code RuleOut = 5

-- the tag of a byte; none has a number above 5
abbrev pub Tagged : ℕ → Result Tag Cause → Type 0
Tagged n (Ok t) = code t ≡ n
Tagged n (Err e) = (e ≡ UnknownTag) × (5 < n)
