-- Sets found by a trial, and a trial with a count struck.
use Rattle.std.proofs.Common.{◌≡◌, ℕ, ◌<◌, Bool, true, not, ◌&&◌, eqb, List, length, get_or, take, Some, None, Option, sym, ap, ◌∙◌, inl, inr, arith, length-set, get_or-set_other, get_or-set_same}
use Rattle.std.proofs.lemmas.Bool.{cases_eq}
use Rattle.std.proofs.lemmas.List.{get_or-take}
use Rattle.model.specs.declared.kind.Kind.{Kind}
use Rattle.model.specs.Goals.{Target}
use Rattle.model.specs.Loads.{fits}
use Rattle.model.specs.Parts.{parts}
use Rattle.model.specs.Sets.{has}
use Rattle.meaning.specs.Plan.{Lies}
use Rattle.meaning.specs.Problems.{problem, support, uses, without}
use Rattle.meaning.specs.Strike.{struck, strike}
use Rattle.meaning.specs.Used.{Pruned}
use Rattle.meaning.proofs.Bits.{has_set_of}
use Rattle.meaning.proofs.Filled.{support_some}
use Rattle.meaning.proofs.Lists.{and_left}
use Rattle.meaning.proofs.Marking.{used_stands}
use Rattle.meaning.proofs.Rows.{length_parts}
use Rattle.meaning.proofs.Standing.{support_has}
use Rattle.meaning.proofs.Strike.{strike_tells_lem}
use Rattle.marking.specs.Striking.{Smaller}

-- the sets that a trial found are not empty
pub sets_some : (admits : ℕ → Bool) (ks : List Kind) (ss next : List ℕ) → length ss ≡ length ks → Pruned (fits admits (parts ks ss)) (length ks) (Some next) → (j : ℕ) → j < length ks → 0 < get_or next j 0
sets_some admits ks ss next e found j h =
    let same : get_or next j 0 ≡ get_or (support (length ks) (fits admits (parts ks ss))) j 0 = sym (get_or-take (length ks) next j 0 h) ∙ ap (λ xs. get_or xs j 0) found.1 in
    omega (arith, support_some admits (parts ks ss) (length ks) (length_parts ks ss e) found.0 j h)

-- what is struck lies in what there was
strike_lies : (xs : List ℕ) (j d : ℕ) → j < length xs → (i e : ℕ) → e < 64 → has (get_or (strike xs j d) i 0) e ≡ true → has (get_or xs i 0) e ≡ true
strike_lies xs j d h i e l y =
    elim (cases_eq i j) [
      | inl same ↦
          let at : get_or (strike xs j d) i 0 ≡ struck (get_or xs j 0) d = ap (λ k. get_or (strike xs j d) k 0) same ∙ get_or-set_same xs j (struck (get_or xs j 0) d) 0 h in
          ap (λ k. has (get_or xs k 0) e) same
          ∙ and_left (has (get_or xs j 0) e) (not (eqb e d)) (sym (has_set_of (λ z. has (get_or xs j 0) z && not (eqb z d)) e l) ∙ ap (λ s. has s e) (sym at) ∙ y)
      | inr ne ↦ ap (λ s. has s e) (sym (get_or-set_other xs j i (struck (get_or xs j 0) d) 0 ne)) ∙ y
    ]

-- and so does what some load of the struck sets uses
next_lies : (admitted : ℕ → Bool) (ks : List Kind) (ss next : List ℕ) (j d : ℕ) → length ss ≡ length ks → j < length ks
    → take (length ks) next ≡ support (length ks) (fits admitted (parts ks (strike ss j d))) → Lies (length ks) next ss
next_lies admitted ks ss next j d same h are i e l m y =
    let n = length ks in
    let loads = fits admitted (parts ks (strike ss j d)) in
    let same' : length (strike ss j d) ≡ n = length-set ss j (struck (get_or ss j 0) d) ∙ same in
    let used : uses loads i e ≡ true =
    sym (support_has n loads i e l m) ∙ ap (λ xs. has (get_or xs i 0) e) (sym are) ∙ ap (λ s. has s e) (get_or-take n next i 0 l) ∙ y in
    strike_lies ss j d (omega arith) i e m (used_stands admitted ks (strike ss j d) same' i e l used)

-- the fitting loads of the struck sets are those without the count
pub rest_is : (t : Target) (ks : List Kind) (ss tried : List ℕ) (j d : ℕ) → length ss ≡ length ks → j < length ks → tried ≡ strike ss j d
    → fits t.admits (parts ks tried) ≡ without j d (fits t.admits (parts ks ss))
rest_is t ks ss tried j d same h e =
    ap (λ (xs : List ℕ). fits t.admits (parts ks xs)) e ∙ sym (strike_tells_lem (problem t ks) ss j d same (omega arith))

-- the sets that a trial without the count found
pub smaller : (t : Target) (ks : List Kind) (ss tried : List ℕ) (j d : ℕ) (r : Option (List ℕ)) → length ss ≡ length ks → length tried ≡ length ks → j < length ks → tried ≡ strike ss j d
    → Pruned (fits t.admits (parts ks tried)) (length ks) r → Smaller (length ks) ss r
smaller t ks ss tried j d None same long h e found = tt
smaller t ks ss tried j d (Some next) same long h e found = (
  next_lies t.admits ks ss next j d same h (found.1 ∙ ap (λ xs. support (length ks) (fits t.admits (parts ks xs))) e),
  sets_some t.admits ks tried next long found,
)
