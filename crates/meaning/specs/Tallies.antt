-- Tallies: over choices of counts, the join of the chains of their worths.
use Rattle.std.specs.Prelude.{ℕ, ◌+◌, Bool, List, [], ◌∷◌, map, fold, filter, nat_eq}
use Rattle.model.specs.Loads.{choices, total_of}
use Rattle.model.specs.Parts.{Part, sets_of}
use Rattle.meaning.specs.Measures.{Means}

-- the choices of one count from each part's set, in order
abbrev pub choices_of : List Part → List (List ℕ)
choices_of ps = choices (sets_of ps)

-- the chain of the worths in kind order
abbrev pub chain_of : {V : Type 0} → Means V → List Part → List ℕ → V
chain_of m [] c = m.one
chain_of m (p ∷ ps) [] = m.one
chain_of m (p ∷ ps) (d ∷ c) = m.chain (m.worth p.price d) (chain_of m ps c)

-- the values joined one by one, from zero
abbrev pub join_of : {V : Type 0} → Means V → List V → V
join_of m vs = fold m.join m.zero vs

-- the join, over the loads given, of the chains of their worths
abbrev pub tally_over : {V : Type 0} → Means V → List Part → List (List ℕ) → V
tally_over m ps loads = join_of m (map (chain_of m ps) loads)

-- over the choices that pass the test t
unfoldable pub tally_by : {V : Type 0} → Means V → (List ℕ → Bool) → List Part → V
tally_by m t ps = tally_over m ps (filter t (choices_of ps))

-- over the choices totalling b
abbrev pub tally_at : {V : Type 0} → Means V → List Part → ℕ → V
tally_at m ps b = tally_by m (λ c. nat_eq (total_of ps c) b) ps

-- over the choices that, added to b, give an admitted total
abbrev pub tally_past : {V : Type 0} → Means V → (ℕ → Bool) → List Part → ℕ → V
tally_past m admitted ps b = tally_by m (λ c. admitted (b + total_of ps c)) ps

-- over the fitting loads
abbrev pub tally_of : {V : Type 0} → Means V → (ℕ → Bool) → List Part → V
tally_of m admitted ps = tally_by m (λ c. admitted (total_of ps c)) ps
