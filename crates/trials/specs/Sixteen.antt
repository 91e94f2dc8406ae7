-- What holds of sixteen values, by one computed test.
use Rattle.std.specs.Prelude.{◌≡◌, ℕ, ◌%◌, ◌<◌, Bool, true, false, cond, List, ◌==◌, bit_or, nat_eq, nat_lt, refl}
use Rattle.std.proofs.Common.{arith}
use Rattle.std.specs.List.{range_with_len}
use Rattle.std.proofs.lemmas.Bool.{eqb-true, ltb-true}
use Rattle.model.proofs.Lists.{In, all_in, in_counting}
use Rattle.meaning.specs.Measures.{Laws}
use Rattle.meaning.specs.Problems.{every}
use Rattle.meaning.proofs.Lists.{every_all}
use Rattle.trials.specs.Matrices.{matrices, product}

abbrev values : List ℕ
values = range_with_len 0 16

at : (t : ℕ → Bool) → every t values ≡ true → (v : ℕ) → v < 16 → t v ≡ true
at t e v h = all_in (λ x. t x ≡ true) values (every_all t values e) v (in_counting 0 16 v (omega arith) (omega arith))

at_two : (t : ℕ → ℕ → Bool) → every (λ a. every (t a) values) values ≡ true → (a b : ℕ) → a < 16 → b < 16 → t a b ≡ true
at_two t e a b h k = at (t a) (at (λ x. every (t x) values) e a h) b k

at_three : (t : ℕ → ℕ → ℕ → Bool) → every (λ a. every (λ b. every (t a b) values) values) values ≡ true → (a b c : ℕ) → a < 16 → b < 16 → c < 16 → t a b c ≡ true
at_three t e a b c h k l = at (t a b) (at_two (λ x y. every (t x y) values) e a b h k) c l

pub matrices_laws : Laws matrices
matrices_laws = record {
  has_zero = omega arith;
  has_one = omega arith;
  has_join = λ a b h k. ltb-true (bit_or a b) 16 (at_two (λ a b. nat_lt (bit_or a b) 16) refl a b h k);
  has_chain = λ a b h k. ltb-true (product a b) 16 (at_two (λ a b. nat_lt (product a b) 16) refl a b h k);
  has_worth = λ price count h k. small (count == 0) (price % 2 == 1);
  join_assoc = λ a b c h k l. eqb-true (bit_or (bit_or a b) c) (bit_or a (bit_or b c)) (at_three (λ a b c. nat_eq (bit_or (bit_or a b) c) (bit_or a (bit_or b c))) refl a b c h k l);
  join_comm = λ a b h k. eqb-true (bit_or a b) (bit_or b a) (at_two (λ a b. nat_eq (bit_or a b) (bit_or b a)) refl a b h k);
  join_zero = λ a h. eqb-true (bit_or a 0) a (at (λ a. nat_eq (bit_or a 0) a) refl a h);
  chain_assoc = λ a b c h k l. eqb-true (product (product a b) c) (product a (product b c)) (at_three (λ a b c. nat_eq (product (product a b) c) (product a (product b c))) refl a b c h k l);
  one_chain = λ a h. eqb-true (product 9 a) a (at (λ a. nat_eq (product 9 a) a) refl a h);
  chain_one = λ a h. eqb-true (product a 9) a (at (λ a. nat_eq (product a 9) a) refl a h);
  zero_chain = λ a h. eqb-true (product 0 a) 0 (at (λ a. nat_eq (product 0 a) 0) refl a h);
  chain_zero = λ a h. eqb-true (product a 0) 0 (at (λ a. nat_eq (product a 0) 0) refl a h);
  chain_join = λ a b c h k l. eqb-true (product a (bit_or b c)) (bit_or (product a b) (product a c)) (at_three (λ a b c. nat_eq (product a (bit_or b c)) (bit_or (product a b) (product a c))) refl a b c h k l);
  join_chain = λ a b c h k l. eqb-true (product (bit_or a b) c) (bit_or (product a c) (product b c)) (at_three (λ a b c. nat_eq (product (bit_or a b) c) (bit_or (product a c) (product b c))) refl a b c h k l);
}
  where
    small : (t u : Bool) → cond t 9 (cond u 3 1) < 16
    small true u = omega arith
    small false true = omega arith
    small false false = omega arith
