-- The number of each refusal.
use Rattle.std.specs.Prelude.{ℕ}
use Rattle.model.specs.declared.refusal.Refusal.{Refusal}
use Rattle.model.specs.declared.refusal.Refusal.TheVariants.{CaseFull, OverLimit, EmptySet, BadTotals, BadStride, NoKind, TooShort, NoLoad, WrongStage, OutOfRange, NotStanding, BranchesFull, NotLatest, LoadLength, EndOfLoads}

abbrev pub number_of : Refusal → ℕ
number_of CaseFull = 1
number_of OverLimit = 2
number_of EmptySet = 3
number_of BadTotals = 4
number_of BadStride = 5
number_of NoKind = 6
number_of TooShort = 7
number_of NoLoad = 8
number_of WrongStage = 9
number_of OutOfRange = 10
number_of NotStanding = 11
number_of BranchesFull = 12
number_of NotLatest = 13
number_of LoadLength = 14
number_of EndOfLoads = 15
