-- Totals and chains of worths do not depend on the standing sets.
use Rattle.std.proofs.Common.{◌≡◌, ℕ, ◌+◌, ◌*◌, List, [], ◌∷◌, map, length, refl, ap, ap₂, arith}
use Rattle.meaning.specs.Measures.{Means}
use Rattle.meaning.specs.Tallies.{chain_of}
use Rattle.model.specs.Loads.{total_of}
use Rattle.model.specs.declared.kind.Kind.{Kind}
use Rattle.model.specs.Parts.{parts}

pub total_same : (ks : List Kind) (ss ts : List ℕ) → length ss ≡ length ks → length ts ≡ length ks → (c : List ℕ) → total_of (parts ks ss) c ≡ total_of (parts ks ts) c
total_same [] ss ts e f c = refl
total_same (k ∷ ks) [] ts e f c = absurd (omega arith)
total_same (k ∷ ks) (s ∷ ss) [] e f c = absurd (omega arith)
total_same (k ∷ ks) (s ∷ ss) (t ∷ ts) e f [] = refl
total_same (k ∷ ks) (s ∷ ss) (t ∷ ts) e f (d ∷ c) = ap (λ n. k.size * d + n) (total_same ks ss ts (omega arith) (omega arith) c)

pub chain_same : {V : Type 0} (m : Means V) (ks : List Kind) (ss ts : List ℕ) → length ss ≡ length ks → length ts ≡ length ks → (c : List ℕ) → chain_of m (parts ks ss) c ≡ chain_of m (parts ks ts) c
chain_same m [] ss ts e f c = refl
chain_same m (k ∷ ks) [] ts e f c = absurd (omega arith)
chain_same m (k ∷ ks) (s ∷ ss) [] e f c = absurd (omega arith)
chain_same m (k ∷ ks) (s ∷ ss) (t ∷ ts) e f [] = refl
chain_same m (k ∷ ks) (s ∷ ss) (t ∷ ts) e f (d ∷ c) = ap (λ v. m.chain (m.worth k.price d) v) (chain_same m ks ss ts (omega arith) (omega arith) c)

pub map_same : {X Y : Type 0} (f g : X → Y) → ((x : X) → f x ≡ g x) → (xs : List X) → map f xs ≡ map g xs
map_same f g e [] = refl
map_same f g e (x ∷ xs) = ap₂ (λ y ys. y ∷ ys) (e x) (map_same f g e xs)
