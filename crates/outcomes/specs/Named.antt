-- What some fields of a file name.
use Rattle.std.specs.Prelude.{ℕ, List, [], ◌∷◌, ◌++◌, length, Some, None, Option}
use Rattle.model.specs.Answers.{Outcome, accepted, option_as, refused}
use Rattle.model.specs.Cases.{add_refused}
use Rattle.model.specs.Goals.{Target, band_made, between, list_made, one_of, stride_made, strided}
use Rattle.model.specs.Parts.{Part}
use Rattle.meaning.specs.Problems.{Problem}
use Rattle.meaning.specs.Register.{Call, rule_out}
use Rattle.fields.specs.Values.{Value, kind, band, list, stride, rule_out_field, end}
use Rattle.reader.specs.Numbers.{kinds_from}

-- the kinds, each with the set of its allowed counts
abbrev pub kind_in : Value → List Part
kind_in (kind size price counts) = record { size = size; price = price; standing = counts } ∷ []
kind_in (band low high) = []
kind_in (list totals) = []
kind_in (stride modulus remainder) = []
kind_in (rule_out_field k d) = []
kind_in end = []

-- of all the fields
abbrev pub kinds_named : List Value → List Part
kinds_named [] = []
kinds_named (v ∷ vs) = kind_in v ++ kinds_named vs

-- what the goal means: the band or the list, and under a stride the totals of it that the stride leaves
abbrev pub goal_after : Option Target → Value → Option Target
goal_after g (kind size price counts) = g
goal_after g (band low high) = Some (between low high)
goal_after g (list totals) = Some (one_of totals)
goal_after g (stride modulus remainder) = option_as (strided modulus remainder) g
goal_after g (rule_out_field k d) = g
goal_after g end = g

-- after all the fields
abbrev pub goal_from : Option Target → List Value → Option Target
goal_from g [] = g
goal_from g (v ∷ vs) = goal_from (goal_after g v) vs

-- from none on
abbrev pub goal_named : List Value → Option Target
goal_named vs = goal_from None vs

-- the kinds with a goal
abbrev pub problem_named : List Value → Target → Problem
problem_named vs t = record { kinds = kinds_from (kinds_named vs); goal = t }

-- the rule-outs, as calls with tables of these lengths
abbrev pub call_in : ℕ → ℕ → Value → List Call
call_in forward backward (kind size price counts) = []
call_in forward backward (band low high) = []
call_in forward backward (list totals) = []
call_in forward backward (stride modulus remainder) = []
call_in forward backward (rule_out_field k d) = rule_out k d forward backward ∷ []
call_in forward backward end = []

-- of all the fields
abbrev pub calls_named : ℕ → ℕ → List Value → List Call
calls_named forward backward [] = []
calls_named forward backward (v ∷ vs) = call_in forward backward v ++ calls_named forward backward vs

-- why what a field names cannot be made after some fields, if so
abbrev pub refusal_in : {V : Type 0} → Outcome V → Option ℕ
refusal_in (accepted v) = None
refusal_in (refused n) = Some n

-- a stride needs a goal below it
abbrev pub over_refused : Option Target → ℕ → ℕ → Option ℕ
over_refused None modulus remainder = Some 9
over_refused (Some t) modulus remainder = refusal_in (stride_made modulus remainder t)

-- the reason, for each field that makes something
abbrev pub making_refused : List Value → Value → Option ℕ
making_refused vs (kind size price counts) = add_refused (length (kinds_named vs)) size price counts
making_refused vs (band low high) = refusal_in (band_made low high)
making_refused vs (list totals) = refusal_in (list_made totals)
making_refused vs (stride modulus remainder) = over_refused (goal_named vs) modulus remainder
making_refused vs (rule_out_field k d) = None
making_refused vs end = None
