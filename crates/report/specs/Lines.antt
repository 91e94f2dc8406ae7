-- The bytes of the lines that the program prints, without the end of the line.
use Rattle.std.specs.Prelude.{ℕ, List, ◌++◌, codes, decimal}
use Rattle.std.specs.List.{flat_map}
use Rattle.model.specs.Sets.{members}
use Rattle.sequence.specs.declared.ruled.Ruled.{Ruled}
use Rattle.report.specs.declared.lines.Tally.{Tally}
use Rattle.report.specs.declared.lines.Tally.TheVariants.{Loads, Lowest, Highest}

-- counts, each after a space
abbrev pub spaced : List ℕ → List ℕ
spaced ds = flat_map (λ d. codes " " ++ decimal d) ds

-- a rule-out: kind, count and answer
abbrev pub ruled_line : Ruled → List ℕ
ruled_line r = codes "ruled " ++ (decimal r.kind ++ (codes " " ++ (decimal r.count ++ (codes " gone " ++ decimal r.gone))))

-- the plan: how many kinds, and the goal's top
abbrev pub plan_line : ℕ → ℕ → List ℕ
plan_line kinds top = codes "plan " ++ (decimal kinds ++ (codes " " ++ decimal top))

-- a kind: its number and its standing counts, rising
abbrev pub kind_line : ℕ → ℕ → List ℕ
kind_line kind set = codes "kind " ++ (decimal kind ++ spaced (members set))

-- the word for what is tallied: the number of loads, the lowest price, the highest
abbrev pub tally_word : Tally → List ℕ
tally_word Loads = codes "loads"
tally_word Lowest = codes "lowest"
tally_word Highest = codes "highest"

-- what is tallied, and what it comes to
abbrev pub tally_line : Tally → ℕ → List ℕ
tally_line what n = tally_word what ++ (codes " " ++ decimal n)

-- the first load, count by count
abbrev pub first_line : List ℕ → List ℕ
first_line load = codes "first" ++ spaced load
