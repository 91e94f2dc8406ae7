-- The kinds that have given numbers.
use Rattle.std.specs.Prelude.{◌≡◌, ℕ, ◌<◌, ◌≤◌, Bool, true, false, T, List, [], ◌∷◌, Some, None, Option, nat_le, refl}
use Rattle.std.proofs.Common.{sym, subst, leb→le}
use Rattle.model.specs.declared.kind.Kind.{Kind}
use Rattle.model.specs.Parts.{Part}

-- why m is at most n, if it is
abbrev pub at_most_by : (m n : ℕ) (b : Bool) → nat_le m n ≡ b → Option (m ≤ n)
at_most_by m n true e = Some (leb→le m n (subst T (sym e) tt))
at_most_by m n false e = None

-- the same by the test
abbrev pub at_most : (m n : ℕ) → Option (m ≤ n)
at_most m n = at_most_by m n (nat_le m n) refl

-- the kind with these numbers, where they are within the limits
abbrev pub kind_by : (p : Part) → Option (p.size ≤ 4095) → Option (p.price ≤ 1000) → Option (0 < p.standing) → Option Kind
kind_by p None cheap some = None
kind_by p (Some x) None some = None
kind_by p (Some x) (Some y) None = None
kind_by p (Some x) (Some y) (Some z) = Some (record { size = p.size; price = p.price; allowed = p.standing; small = x; cheap = y; some = z })

-- the limits are tested
abbrev pub kind_of : Part → Option Kind
kind_of p = kind_by p (at_most p.size 4095) (at_most p.price 1000) (at_most 1 p.standing)

-- one more, if there is one
abbrev pub pushed : Option Kind → List Kind → List Kind
pushed None ks = ks
pushed (Some k) ks = k ∷ ks

-- the kinds with these numbers; all numbers of a case are within the limits
abbrev pub kinds_from : List Part → List Kind
kinds_from [] = []
kinds_from (p ∷ ps) = pushed (kind_of p) (kinds_from ps)
