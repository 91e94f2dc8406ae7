-- What is read at a place, and what a slice holds once a part of it was written.
use Rattle.std.proofs.Common.{◌≡◌, ℕ, zero, suc, ◌+◌, ◌-◌, ◌<◌, List, [], ◌∷◌, ◌++◌, length, get_or, take, drop, set, None, Some, Option, MatchOption, MatchResult, Result, Ok, Err, OnErr, IsErr, false, is_ok, refl, sym, ap, ◌∙◌, subst, append_assoc, arith, length-drop}
use Rattle.std.proofs.lemmas.List.{append-nil, drop_all, take_more_set}
use Rattle.std.proofs.lemmas.Bool.{false≢true}
use Rattle.std.specs.Option.{ok_or}
use Rattle.model.specs.Parts.{parts}
use Rattle.model.specs.declared.kind.Kind.{Kind}
use Rattle.std.proofs.lemmas.Result.{MatchResult-at_err, MatchResult-at_ok}
use Rattle.model.specs.declared.refusal.Refusal.{Refusal}
use Rattle.search.specs.Search.{Highest, NoneFrom}
use Rattle.search.specs.Seen.{no_part}
use Rattle.search.specs.declared.marks.Marks.{Marks}
use Rattle.search.specs.declared.search.Raised.{Raised}

pub standing_at : (ks : List Kind) (ss : List ℕ) (i : ℕ) → i < length ks → i < length ss → get_or ss i 0 ≡ (get_or (parts ks ss) i no_part).standing
standing_at [] ss i h g = absurd (omega arith)
standing_at (k ∷ ks) [] i h g = absurd (omega arith)
standing_at (k ∷ ks) (s ∷ ss) zero h g = refl
standing_at (k ∷ ks) (s ∷ ss) (suc i) h g = standing_at ks ss i (omega arith) (omega arith)

-- the bytes with d at i and r after it
pub raised_load : (g r : List ℕ) (i d : ℕ) → i < length g → take (i + 1) (set g i d) ++ (r ++ drop (length (set g i d) - (i + 1)) (drop (i + 1) (set g i d))) ≡ take i g ++ d ∷ r
raised_load g r i d lt =
    let front = take (i + 1) (set g i d) in
    ap (λ z. front ++ z) (ap (λ z. r ++ z) (drop_all (length (set g i d) - (i + 1)) (drop (i + 1) (set g i d)) (omega (arith, length-drop (i + 1) (set g i d)))) ∙ append-nil r)
    ∙ ap (λ z. z ++ r) (take_more_set g i d lt) ∙ append_assoc (take i g) (d ∷ []) r

-- what the two ways on from a `?` after `ok_or` tell of the option
matched : {A E : Type 0} (o : Option A) (e : E) (r : Result A E) (P : Type 0) (Q : A → Type 0) → r ≡ ok_or o e → MatchOption o P Q → MatchResult r Q (λ e. P)
matched {A} {E} None e r P Q is h = let M : Result A E → Type 0 = λ s. MatchResult s Q (λ e. P) in subst M (sym is) h
matched {A} {E} (Some x) e r P Q is h = let M : Result A E → Type 0 = λ s. MatchResult s Q (λ e. P) in subst M (sym is) h

pub raised_to : (m : Marks) (given : List ℕ) (o : Option Raised) (e : Refusal) (r : Result Raised Refusal) (up : Raised) → MatchOption o (NoneFrom m given 0) (λ up. Highest m given up.place up.count up.total) → r ≡ ok_or o e → r ≡ Ok up → Highest m given up.place up.count up.total
raised_to m given o e r up h is was =
    let Q : Raised → Type 0 = λ up. Highest m given up.place up.count up.total in
    MatchResult-at_ok Q (λ e. NoneFrom m given 0) up was (matched o e r (NoneFrom m given 0) Q is h)

pub none_raised : (m : Marks) (given : List ℕ) (o : Option Raised) (e f : Refusal) (r : Result Raised Refusal) → MatchOption o (NoneFrom m given 0) (λ up. Highest m given up.place up.count up.total) → r ≡ ok_or o e → r ≡ Err f → NoneFrom m given 0
none_raised m given o e f r h is was =
    let Q : Raised → Type 0 = λ up. Highest m given up.place up.count up.total in
    MatchResult-at_err Q (λ e. NoneFrom m given 0) f was (matched o e r (NoneFrom m given 0) Q is h)

pub at_err : {A E : Type 0} (r : Result A E) → IsErr r → is_ok r ≡ false
at_err (Ok x) h = absurd (false≢true h)
at_err (Err e) h = refl

pub on_err : {A E P : Type 0} (r : Result A E) → P → OnErr r P
on_err (Ok x) p = tt
on_err (Err e) p = p
