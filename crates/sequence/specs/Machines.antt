-- What the fields of a file call for: a state, and what each operation does to it and answers.
use Rattle.std.specs.Prelude.{ℕ, cond, Some, None, Option}
use Rattle.model.specs.Answers.{Answer, accepted}
use Rattle.fields.specs.Values.{Value}
use Rattle.fields.specs.Reading.{is_end}

-- the operation of a field, and settle
pub data Operation : Type 0 where
  of : Value → Operation
  settled : Operation

-- what an operation makes of a state, and its answer
abbrev pub Machine : Type 0 → Type 0
Machine S = S → Operation → S × Answer

-- the operation of a field; the end has none
abbrev pub acting : {S : Type 0} → (m : Machine S) → S → Value → S × Answer
acting m s v = cond (is_end v) (s, accepted 0) (m s (of v))

-- settle, where it is owed
abbrev pub settling : {S : Type 0} → (m : Machine S) → S → Option ℕ → S × Answer
settling m s None = (s, accepted 0)
settling m s (Some place) = m s settled
