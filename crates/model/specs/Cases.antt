-- A case: its kinds, numbered from 1.
use Rattle.std.specs.Prelude.{ℕ, ◌+◌, cond, ◌||◌, List, [], ◌∷◌, ◌++◌, map, length, Some, None, Option, ◌==◌, nat_le, nat_lt}
use Rattle.model.specs.declared.case.Case.{Case}
use Rattle.model.specs.Answers.{Answer, accepted, refused}
use Rattle.fixed_list.specs.FixedLists.{in_use}
use Rattle.model.specs.Parts.{Kind, Part, part}

-- the kinds of a case, in order
abbrev pub kinds_in : Case → List Kind
kinds_in c = in_use c.kinds

-- each kind with its allowed counts
abbrev pub allowed_parts : List Kind → List Part
allowed_parts kinds = map (λ k. part k k.allowed) kinds

-- Why a kind may not be added to n others, the first reason being given: 1 where they are 32, 2 where the size or the price is over
-- its limit, 3 where the set is empty.
abbrev pub add_refused : ℕ → ℕ → ℕ → ℕ → Option ℕ
add_refused n size price set = cond (nat_le 32 n) (Some 1) (cond (nat_lt 4095 size || nat_lt 1000 price) (Some 2) (cond (set == 0) (Some 3) None))

-- Adding a kind: refused, it changes nothing; else it comes last, and the answer is its number.
abbrev pub adding : Option ℕ → List Part → Part → List Part × Answer
adding (Some number) ps p = (ps, refused number)
adding None ps p = (ps ++ p ∷ [], accepted (length ps + 1))

abbrev pub added : List Part → ℕ → ℕ → ℕ → List Part × Answer
added ps size price set = adding (add_refused (length ps) size price set) ps (record { size = size; price = price; standing = set })
