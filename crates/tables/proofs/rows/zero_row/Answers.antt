use Rattle.std.proofs.Common.{◌≡◌, ℕ, ◌<◌, List, [], ◌∷◌, ◌++◌, length, get_or, rules, arith}
use Rattle.std.proofs.lemmas.List.{places}
use Rattle.std.proofs.lemmas.Fn.{chained_keeps}
use Rattle.tables.proofs.rows.zero_row.Goals as goal

abbrev AllAre : {V : Type 0} → V → List V → Type 0
AllAre z xs = (b : ℕ) → b < length xs → get_or xs b z ≡ z

one_more : {V : Type 0} (z : V) (xs : List V) (x : V) → AllAre z xs → x ≡ z → AllAre z (xs ++ (x ∷ []))
one_more z xs x all e b h = rw e (search (rules, places))

pub returns : goal.returns
returns g c =
    let z = g.M.Measure.means.zero in
    let all = chained_keeps _ (λ xs q. AllAre z xs) (λ xs q x v all step. one_more z xs x all (search rules)) _ _ _ (λ b h. absurd (omega arith)) c.fill_with.ensures.ran.1 in
    λ b h. all b (omega arith)
