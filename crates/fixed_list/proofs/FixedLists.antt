-- How many items are in use.
use Rattle.std.proofs.Common.{◌≡◌, ℕ, [], length, sym, ap, ◌∙◌, arith}
use Rattle.std.proofs.lemmas.List.{length-take-le}
use Rattle.fixed_list.specs.declared.FixedList.{FixedList}
use Rattle.fixed_list.specs.FixedLists.{in_use}

module _ {T : Type 0} {N : ℕ} where
  pub length-in_use : (l : FixedList T N) → length (in_use l) ≡ l.many
  length-in_use l = length-take-le l.many l.items (omega (arith, l.few, l.long))

  -- a list of no items has none in use
  pub none_in_use : (l : FixedList T N) → in_use l ≡ [] → l.many ≡ 0
  none_in_use l e = sym (length-in_use l) ∙ ap length e
