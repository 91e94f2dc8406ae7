-- A list of at most N items, in the value itself.
use Rattle.std.specs.Prelude.{◌≡◌, ℕ, List, [], ◌∷◌, ◌++◌, take, cond, length, nat_lt, Some, None, Option}
use Rattle.fixed_list.specs.declared.FixedList.{FixedList}

module _ {T : Type 0} {N : ℕ} where
  -- the items in use, in order
  abbrev pub in_use : FixedList T N → List T
  in_use l = take l.many l.items

-- the items, where they are at most n
abbrev pub at_most : {T : Type 0} → ℕ → List T → Option (List T)
at_most n xs = cond (nat_lt n (length xs)) None (Some xs)

-- what taking the last item out gives and leaves: the item that stood last and those before it, or nothing where there was none
abbrev pub IsLast : {T : Type 0} → List T → Option T → List T → Type 0
IsLast before None after = (before ≡ []) × (after ≡ [])
IsLast before (Some item) after = before ≡ after ++ item ∷ []
