-- The sets of counts that some loads use are not empty.
use Rattle.std.proofs.Common.{◌≡◌, ℕ, zero, suc, ◌<◌, Bool, true, false, List, [], ◌∷◌, length, get_or, sym, refl, ap, ◌∙◌, inl, inr, arith}
use Rattle.std.proofs.lemmas.List.{length-map}
use Rattle.std.proofs.lemmas.Bool.{eq-eqb, false≢true, cases_eq}
use Rattle.model.specs.Loads.{choices, fits, total_of, Within}
use Rattle.model.specs.Parts.{Part, sets_of}
use Rattle.model.specs.Sets.{has}
use Rattle.model.proofs.Lists.{all_in}
use Rattle.model.proofs.Listed.{choices_within}
use Rattle.meaning.specs.Problems.{has_at, is_empty, support}
use Rattle.meaning.proofs.Lists.{kept_in, in_some, first_in}
use Rattle.meaning.proofs.Sets.{has_none}
use Rattle.meaning.proofs.Standing.{support_has}

within_small : (sets load : List ℕ) → Within sets load → (j : ℕ) → j < length sets → get_or load j 0 < 64
within_small [] load h j l = absurd (omega arith)
within_small (s ∷ sets) [] h j l = absurd h
within_small (s ∷ sets) (d ∷ load) h zero l = h.0
within_small (s ∷ sets) (d ∷ load) h (suc j) l = within_small sets load h.2 j (omega arith)

-- a set that has a count is not 0
has_some : (s d : ℕ) → has s d ≡ true → 0 < s
has_some s d h = elim (cases_eq s 0) [ inl e ↦ absurd (false≢true (sym (has_none d) ∙ ap (λ x. has x d) (sym e) ∙ h)) | inr ne ↦ omega arith ]

pub support_some : (admits : ℕ → Bool) (ps : List Part) (n : ℕ) → length ps ≡ n → is_empty (fits admits ps) ≡ false → (j : ℕ) → j < n → 0 < get_or (support n (fits admits ps)) j 0
support_some admits ps n e some j h =
    let first = first_in (fits admits ps) some in
    let load = first.0 in
    let d = get_or load j 0 in
    let inside = all_in (Within (sets_of ps)) (choices (sets_of ps)) (choices_within (sets_of ps)) load (kept_in (λ c. admits (total_of ps c)) load (choices (sets_of ps)) first.1).0 in
    let small : d < 64 = within_small (sets_of ps) load inside j (omega (arith, length-map ps (λ p. p.standing))) in
    has_some (get_or (support n (fits admits ps)) j 0) d
    (support_has n (fits admits ps) j d h small ∙ in_some (λ l. has_at l j d) load (fits admits ps) first.1 (eq-eqb d d refl))
