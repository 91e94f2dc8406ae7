-- The kinds of a case are those that have its numbers.
use Rattle.std.proofs.Common.{◌≡◌, ℕ, ◌<◌, ◌≤◌, Bool, true, false, T, leb, List, [], ◌∷◌, Some, refl, ap, ◌∙◌, subst, le→leb}
use native.Mathlib.Bridge.{le_prop}
use Rattle.model.specs.declared.kind.Kind.{Kind}
use Rattle.model.specs.Cases.{allowed_parts}
use Rattle.model.specs.Parts.{Part, part}
use Rattle.reader.specs.Numbers.{at_most, at_most_by, kind_by, kind_of, kinds_from, pushed}

at_most_lem : (m n : ℕ) (h : m ≤ n) → at_most m n ≡ Some h
at_most_lem m n h = go (leb m n) refl
  where
    go : (b : Bool) (e : leb m n ≡ b) → at_most_by m n b e ≡ Some h
    go true e = ap Some (le_prop _ h)
    go false e = absurd (subst T e (le→leb m n h))

-- numbers within the limits make a kind
pub kind_of_lem : (p : Part) (x : p.size ≤ 4095) (y : p.price ≤ 1000) (z : 0 < p.standing)
    → kind_of p ≡ Some (record { size = p.size; price = p.price; allowed = p.standing; small = x; cheap = y; some = z })
kind_of_lem p x y z =
    ap (λ u. kind_by p u (at_most p.price 1000) (at_most 1 p.standing)) (at_most_lem p.size 4095 x)
    ∙ (ap (λ u. kind_by p (Some x) u (at_most 1 p.standing)) (at_most_lem p.price 1000 y)
    ∙ ap (λ u. kind_by p (Some x) (Some y) u) (at_most_lem 1 p.standing z))

kind_back : (k : Kind) → kind_of (part k k.allowed) ≡ Some k
kind_back k = kind_of_lem (part k k.allowed) k.small k.cheap k.some

pub kinds_back : (ks : List Kind) → kinds_from (allowed_parts ks) ≡ ks
kinds_back [] = refl
kinds_back (k ∷ ks) =
    ap (λ o. pushed o (kinds_from (allowed_parts ks))) (kind_back k) ∙ ap (λ (rest : List Kind). k ∷ rest) (kinds_back ks)
