-- Calls as values, and their answers.
use Rattle.std.specs.Prelude.{◌≡◌, ℕ, min, List, map, Ok, Err, Option, Result}
use Rattle.model.specs.Answers.{Answer, answer_of, option_as, outcome_as}
use Rattle.model.specs.Refusals.{number_of}
use Rattle.model.specs.declared.refusal.Refusal.{Refusal}
use Rattle.meaning.specs.History.{Ending, lived, unsettled}
use Rattle.meaning.specs.Register.{branch, keep, rule_out, withdraw, Call as Asked}
use Rattle.entries.specs.declared.Call.{Call}
use Rattle.entries.specs.declared.Call.TheVariants.{RuleOut, Branch, Keep, Withdraw}
use Rattle.entries.specs.declared.Entry.{Entry}
use Rattle.plan.specs.declared.lived.Lived.{Lived}

-- the call, with tables as long as it gets of those that are lent
abbrev pub asked : ℕ → ℕ → Call → Asked
asked forward backward (RuleOut i d cells) = rule_out i d (min cells.forward forward) (min cells.backward backward)
asked forward backward Branch = branch
asked forward backward (Keep number) = keep number
asked forward backward (Withdraw number cells) = withdraw number (min cells.forward forward) (min cells.backward backward)

-- the answer in an entry, if its call was made
abbrev pub answer_in : Entry → Option Answer
answer_in e = option_as answer_of e.answer

-- the calls of some entries
abbrev pub calls_in : ℕ → ℕ → List Entry → List Asked
calls_in forward backward es = map (λ e. asked forward backward e.call) es

-- the answers in some entries
abbrev pub answers_in : List Entry → List (Option Answer)
answers_in es = map answer_in es

-- the calls that some entries are of
abbrev pub calls_of : List Entry → List Call
calls_of es = map (λ e. e.call) es

-- how a history ended
abbrev pub ending_of : {V : Type 0} → Result (Lived V) Refusal → Ending V
ending_of (Err e) = unsettled (number_of e)
ending_of (Ok l) = lived l.counts (outcome_as (λ v. v) l.tally) l.branches.many

-- after a history that settle refused the entries are as they were
abbrev pub Untried : {V : Type 0} → Ending V → List Entry → List Entry → Type 0
Untried (unsettled k) before after = after ≡ before
Untried (lived n tally opened) before after = calls_of after ≡ calls_of before
