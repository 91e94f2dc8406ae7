-- What a call answers: a value, or the number of a refusal.
use Rattle.std.specs.Prelude.{◌≡◌, ℕ, Bool, true, false, Some, None, Ok, Err, Option, Result}
use Rattle.model.specs.declared.refusal.Refusal.{Refusal}
use Rattle.model.specs.declared.refusal.HandedBack.{HandedBack}
use Rattle.model.specs.Refusals.{number_of}

-- accepted, with the value, or refused, under the number
pub data Outcome (V : Type 0) : Type 0 where
  accepted : V → Outcome V
  refused : ℕ → Outcome V

-- most calls answer a number
abbrev pub Answer : Type 0
Answer = Outcome ℕ

-- what a result says, its value seen as f has it
abbrev pub outcome_as : {X V : Type 0} → (X → V) → Result X Refusal → Outcome V
outcome_as f (Ok x) = accepted (f x)
outcome_as f (Err e) = refused (number_of e)

-- what a result with a number says
abbrev pub answer_of : Result ℕ Refusal → Answer
answer_of r = outcome_as (λ n. n) r

-- One test of a call: where it holds, the call is refused under that number and nothing changes; else the call goes on.
abbrev pub refuse : {S V : Type 0} → S → Bool → ℕ → S × Outcome V → S × Outcome V
refuse s true number goes_on = (s, refused number)
refuse s false number goes_on = goes_on

-- the same of a call whose refusal hands something back beside its number
abbrev pub outcome_back : {X Y V : Type 0} → (X → V) → Result X (HandedBack Y) → Outcome V
outcome_back f (Ok x) = accepted (f x)
outcome_back f (Err e) = refused (number_of e.refusal)

-- a refusal hands back just what was given
abbrev pub GivenBack : {X Y : Type 0} → Y → Result X (HandedBack Y) → Type 0
GivenBack given (Ok x) = Unit {0}
GivenBack given (Err e) = e.given ≡ given

-- what is there, if anything, its value seen as f has it
abbrev pub option_as : {X V : Type 0} → (X → V) → Option X → Option V
option_as f None = None
option_as f (Some x) = Some (f x)

-- the number of the refusal, where there is one
abbrev pub refusal_in : {X : Type 0} → Result X Refusal → Option ℕ
refusal_in (Ok x) = None
refusal_in (Err e) = Some (number_of e)
