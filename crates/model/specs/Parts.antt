-- A kind with one set of counts, be it those allowed or those that stand.
use Rattle.std.specs.Prelude.{ℕ, List, [], ◌∷◌, map}
pub use Rattle.model.specs.declared.kind.Kind.{Kind}

pub record Part : Type 0 where
  pub size : ℕ
  pub price : ℕ
  pub standing : ℕ

-- the kind k with the set s
abbrev pub part : Kind → ℕ → Part
part k s = record { size = k.size; price = k.price; standing = s }

-- kind by kind, the kind with its set
abbrev pub parts : List Kind → List ℕ → List Part
parts [] ss = []
parts (k ∷ ks) [] = []
parts (k ∷ ks) (s ∷ ss) = part k s ∷ parts ks ss

-- the sets of the parts
abbrev pub sets_of : List Part → List ℕ
sets_of ps = map (λ p. p.standing) ps
