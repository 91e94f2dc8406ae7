use Rattle.std.proofs.Common.{◌≡◌, ℕ, ◌<◌, ◌≤◌, Bool, true, false, None, Some, Option, MatchOption, refl, rules, arith}
use Rattle.std.proofs.lemmas.Bool.{both_ways}
use Rattle.std.proofs.lemmas.Iterator.{first_from_Range}
use Rattle.std.proofs.lemmas.Option.{MatchOption-at_some}
use Rattle.std.specs.Option.{IsSome}
use Rattle.search.specs.Search.{closes}
use Rattle.search.proofs.marks.Marks.least_count.Goals as goal

abbrev First : (ℕ → Bool) → Option ℕ → Type 0
First test o = MatchOption o ((k : ℕ) → 0 ≤ k → k < 64 → test k ≡ false) (λ d. (0 ≤ d) × (d < 64) × (test d ≡ true) × ((k : ℕ) → 0 ≤ k → k < d → test k ≡ false))

some_first : (test : ℕ → Bool) (o : Option ℕ) → First test o → (d : ℕ) × ((d < 64) × (test d ≡ true)) → IsSome o
some_first test None none some = absurd (both_ways (test some.0) (none some.0 (omega arith) some.1.0) some.1.1)
some_first test (Some d) first some = refl

least_first : (test : ℕ → Bool) (o : Option ℕ) (d : ℕ) → o ≡ Some d → First test o → (e : ℕ) → e < d → test e ≡ false
least_first test o d is first e less =
    (MatchOption-at_some ((k : ℕ) → 0 ≤ k → k < 64 → test k ≡ false) (λ d. (0 ≤ d) × (d < 64) × (test d ≡ true) × ((k : ℕ) → 0 ≤ k → k < d → test k ≡ false)) d is first).3 e (omega arith) less

pub unwrap-requires : goal.unwrap-requires
unwrap-requires c =
    let test : ℕ → Bool = closes c.args.self.now c.args.i c.args.b in
    some_first test c.find.result
    (first_from_Range _ _ _ c.find.result (λ d. test d ≡ true) (λ d. test d ≡ false) c.find.ensures.ran (λ x q k. search rules) (λ x q k. search rules)) c.requires.some

pub returns-clause-least : goal.returns-clause-least
returns-clause-least c =
    let test : ℕ → Bool = closes c.args.self.now c.args.i c.args.b in
    least_first test c.find.result c.unwrap.result c.unwrap.ensures
    (first_from_Range _ _ _ c.find.result (λ d. test d ≡ true) (λ d. test d ≡ false) c.find.ensures.ran (λ x q k. search rules) (λ x q k. search rules))
