-- The last of the elements of a list that are left.
use Rattle.std.proofs.Common.{◌≡◌, ◌+◌, ◌≤◌, List, [], ◌∷◌, ◌++◌, length, get_or, take, sym, ap, ◌∙◌, arith, length-append}
use Rattle.std.proofs.lemmas.List.{get_or-take, take-take}
use Rattle.std.proofs.Math.Seq.{get_or-append_seam, take-append_seam}

module _ {A : Type 0} (all left rest : List A) (x : A) (last : left ≡ rest ++ (x ∷ [])) (here : left ≡ take (length left) all) (within : length left ≤ length all) where
  pub one_less : length left ≡ length rest + 1
  one_less = omega (arith, ap length last, length-append rest (x ∷ []))

  pub still_left : rest ≡ take (length rest) all
  still_left = sym (take-append_seam rest (x ∷ [])) ∙ sym (ap (take (length rest)) last) ∙ ap (take (length rest)) here ∙ take-take (length rest) (length left) all (omega (arith, one_less))

  pub last_is : (d : A) → x ≡ get_or all (length rest) d
  last_is d = sym (get_or-append_seam rest x [] d) ∙ sym (ap (λ l. get_or l (length rest) d) last) ∙ ap (λ l. get_or l (length rest) d) here ∙ get_or-take (length left) all (length rest) d (omega (arith, one_less))
