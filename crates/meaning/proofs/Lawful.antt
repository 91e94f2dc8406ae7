-- The four measures keep the laws.
use Rattle.std.proofs.Common.{◌≡◌, ℕ, zero, suc, ◌+◌, ◌*◌, ◌<◌, ◌≤◌, Bool, true, false, cond, min, max, Some, None, Option, sym, refl, ap, ◌∙◌, inl, inr, mul_assoc, mul_comm, add-mul, one-mul, mul-zero, zero-mul, mul-one, mul-add, arith}
use lib.Bits.{bit_and, bit_or}
use Rattle.std.proofs.lemmas.Nat.{mul-le}
use Rattle.std.proofs.lemmas.Bool.{cases_lt}
use Rattle.meaning.specs.Measures.{Laws}
use Rattle.meaning.specs.Models.{Price, added, cut, highest, loads, lowest, price_by, taken, yes_no}

-- what holds of 0 and of 1 holds of each v ≤ 1
bits : (P : ℕ → Type 0) → P 0 → P 1 → (v : ℕ) → v ≤ 1 → P v
bits P no' yes' zero h = no'
bits P no' yes' (suc zero) h = yes'
bits P no' yes' (suc (suc v)) h = absurd (omega arith)

bits2 : (P : ℕ → ℕ → Type 0) → P 0 0 → P 0 1 → P 1 0 → P 1 1 → (a b : ℕ) → a ≤ 1 → b ≤ 1 → P a b
bits2 P p q r s a b ha hb = bits (λ a. P a b) (bits (P 0) p q b hb) (bits (P 1) r s b hb) a ha

-- an equation of three bits is computed at all eight
bits3 : (P : ℕ → ℕ → ℕ → Type 0) → P 0 0 0 → P 0 0 1 → P 0 1 0 → P 0 1 1 → P 1 0 0 → P 1 0 1 → P 1 1 0 → P 1 1 1 → (a b c : ℕ) → a ≤ 1 → b ≤ 1 → c ≤ 1 → P a b c
bits3 P p q r s t u v w a b c ha hb hc =
    bits (λ a. P a b c) (bits2 (P 0) p q r s b c hb hc) (bits2 (P 1) t u v w b c hb hc) a ha

pub yes_no_laws : Laws yes_no
yes_no_laws = record {
  has_zero = omega arith;
  has_one = omega arith;
  has_join = bits2 (λ a b. bit_or a b ≤ 1) (omega arith) (omega arith) (omega arith) (omega arith);
  has_chain = bits2 (λ a b. bit_and a b ≤ 1) (omega arith) (omega arith) (omega arith) (omega arith);
  has_worth = λ p c hp hc. omega arith;
  join_assoc = bits3 (λ a b c. bit_or (bit_or a b) c ≡ bit_or a (bit_or b c)) refl refl refl refl refl refl refl refl;
  join_comm = bits2 (λ a b. bit_or a b ≡ bit_or b a) refl refl refl refl;
  join_zero = bits (λ a. bit_or a 0 ≡ a) refl refl;
  chain_assoc = bits3 (λ a b c. bit_and (bit_and a b) c ≡ bit_and a (bit_and b c)) refl refl refl refl refl refl refl refl;
  one_chain = bits (λ a. bit_and 1 a ≡ a) refl refl;
  chain_one = bits (λ a. bit_and a 1 ≡ a) refl refl;
  zero_chain = bits (λ a. bit_and 0 a ≡ 0) refl refl;
  chain_zero = bits (λ a. bit_and a 0 ≡ 0) refl refl;
  chain_join = bits3 (λ a b c. bit_and a (bit_or b c) ≡ bit_or (bit_and a b) (bit_and a c)) refl refl refl refl refl refl refl refl;
  join_chain = bits3 (λ a b c. bit_and (bit_or a b) c ≡ bit_or (bit_and a c) (bit_and b c)) refl refl refl refl refl refl refl refl;
}

-- a product may be cut off inside or not
cut_mul : (a b : ℕ) → cut (a * cut b) ≡ cut (a * b)
cut_mul zero b = ap cut (zero-mul (cut b) ∙ sym (zero-mul b))
cut_mul (suc a) b =
    let l : suc a * cut b ≡ a * cut b + cut b = omega arith in
    let r : suc a * b ≡ a * b + b = omega arith in
    let le : a * cut b ≤ a * b = mul-le a (cut b) a b (omega arith) (omega arith) in
    elim (cases_lt 4294967295 b) [
      | inl big ↦ let p : suc a * cut b ≡ a * cut b + 4294967295 = omega arith in omega arith
      | inr small ↦ let e : cut b ≡ b = omega arith in ap (λ x. cut (suc a * x)) e
    ]

cut_mul_l : (a b : ℕ) → cut (cut a * b) ≡ cut (a * b)
cut_mul_l a b = ap cut (mul_comm (cut a) b) ∙ cut_mul b a ∙ ap cut (mul_comm b a)

cut_add : (a b : ℕ) → cut (cut a + cut b) ≡ cut (a + b)
cut_add a b = omega arith

pub loads_laws : Laws loads
loads_laws = record {
  has_zero = omega arith;
  has_one = omega arith;
  has_join = λ a b ha hb. omega arith;
  has_chain = λ a b ha hb. omega arith;
  has_worth = λ p c hp hc. omega arith;
  join_assoc = λ a b c ha hb hc. omega arith;
  join_comm = λ a b ha hb. omega arith;
  join_zero = λ a ha. omega arith;
  chain_assoc = λ a b c ha hb hc. cut_mul_l (a * b) c ∙ ap cut (mul_assoc a b c) ∙ sym (cut_mul a (b * c));
  one_chain = λ a ha. ap cut (one-mul a) ∙ omega arith;
  chain_one = λ a ha. ap cut (mul-one a) ∙ omega arith;
  zero_chain = λ a ha. ap cut (zero-mul a);
  chain_zero = λ a ha. ap cut (mul-zero a);
  chain_join = λ a b c ha hb hc. cut_mul a (b + c) ∙ ap cut (mul-add a b c) ∙ sym (cut_add (a * b) (a * c));
  join_chain = λ a b c ha hb hc. cut_mul_l (a + b) c ∙ ap cut (add-mul a b c) ∙ sym (cut_add (a * c) (b * c));
}

-- A law on prices: where one is none it computes, and at three numbers it is a law on numbers.
worth_small : (p c : ℕ) → p ≤ 1000 → c < 64 → p * c ≤ 4294967295
worth_small p c hp hc = omega (arith, mul-le p c 65536 64 (omega arith) (omega arith))

has_added : (a b : Option ℕ) → Price a → Price b → Price (added a b)
has_added None b ha hb = tt
has_added (Some x) None ha hb = tt
has_added (Some x) (Some y) ha hb = omega arith

added_assoc : (a b c : Option ℕ) → Price a → Price b → Price c → added (added a b) c ≡ added a (added b c)
added_assoc None b c ha hb hc = refl
added_assoc (Some x) None c ha hb hc = refl
added_assoc (Some x) (Some y) None ha hb hc = refl
added_assoc (Some x) (Some y) (Some z) ha hb hc = ap Some (omega arith)

zero_added : (a : Option ℕ) → Price a → added (Some 0) a ≡ a
zero_added None h = refl
zero_added (Some x) h = ap Some (omega arith)

added_zero : (a : Option ℕ) → Price a → added a (Some 0) ≡ a
added_zero None h = refl
added_zero (Some x) h = ap Some (omega arith)

added_none : (a : Option ℕ) → Price a → added a None ≡ None
added_none None h = refl
added_none (Some x) h = refl

-- What is asked of the choice between two prices: it keeps within the cut, it is associative and commutative, and a sum of a chosen price
-- is the chosen sum.
pub record Picks (pick : ℕ → ℕ → ℕ) : Type 0 where
  pub within : (x y : ℕ) → x ≤ 4294967295 → y ≤ 4294967295 → pick x y ≤ 4294967295
  pub assoc : (x y z : ℕ) → pick (pick x y) z ≡ pick x (pick y z)
  pub comm : (x y : ℕ) → pick x y ≡ pick y x
  pub add_pick : (x y z : ℕ) → cut (x + pick y z) ≡ pick (cut (x + y)) (cut (x + z))
  pub pick_add : (x y z : ℕ) → cut (pick x y + z) ≡ pick (cut (x + z)) (cut (y + z))

module _ (pick : ℕ → ℕ → ℕ) (p : Picks pick) where
  has_taken : (a b : Option ℕ) → Price a → Price b → Price (taken pick a b)
  has_taken None b ha hb = hb
  has_taken (Some x) None ha hb = ha
  has_taken (Some x) (Some y) ha hb = p.within x y ha hb

  taken_assoc : (a b c : Option ℕ) → Price a → Price b → Price c → taken pick (taken pick a b) c ≡ taken pick a (taken pick b c)
  taken_assoc None b c ha hb hc = refl
  taken_assoc (Some x) None c ha hb hc = refl
  taken_assoc (Some x) (Some y) None ha hb hc = refl
  taken_assoc (Some x) (Some y) (Some z) ha hb hc = ap Some (p.assoc x y z)

  taken_comm : (a b : Option ℕ) → Price a → Price b → taken pick a b ≡ taken pick b a
  taken_comm None None ha hb = refl
  taken_comm None (Some y) ha hb = refl
  taken_comm (Some x) None ha hb = refl
  taken_comm (Some x) (Some y) ha hb = ap Some (p.comm x y)

  taken_none : (a : Option ℕ) → Price a → taken pick a None ≡ a
  taken_none None h = refl
  taken_none (Some x) h = refl

  added_taken : (a b c : Option ℕ) → Price a → Price b → Price c → added a (taken pick b c) ≡ taken pick (added a b) (added a c)
  added_taken None b c ha hb hc = refl
  added_taken (Some x) None c ha hb hc = refl
  added_taken (Some x) (Some y) None ha hb hc = refl
  added_taken (Some x) (Some y) (Some z) ha hb hc = ap Some (p.add_pick x y z)

  taken_added : (a b c : Option ℕ) → Price a → Price b → Price c → added (taken pick a b) c ≡ taken pick (added a c) (added b c)
  taken_added None b c ha hb hc = refl
  taken_added (Some x) None None ha hb hc = refl
  taken_added (Some x) None (Some z) ha hb hc = refl
  taken_added (Some x) (Some y) None ha hb hc = refl
  taken_added (Some x) (Some y) (Some z) ha hb hc = ap Some (p.pick_add x y z)

  pub price_laws : Laws (price_by pick)
  price_laws = record {
    has_zero = tt;
    has_one = omega arith;
    has_join = has_taken;
    has_chain = has_added;
    has_worth = worth_small;
    join_assoc = taken_assoc;
    join_comm = taken_comm;
    join_zero = taken_none;
    chain_assoc = added_assoc;
    one_chain = zero_added;
    chain_one = added_zero;
    zero_chain = λ a h. refl;
    chain_zero = added_none;
    chain_join = added_taken;
    join_chain = taken_added;
  }

min_picks : Picks min
min_picks = record {
  within = λ x y hx hy. omega arith;
  assoc = λ x y z. omega arith;
  comm = λ x y. omega arith;
  add_pick = λ x y z. omega arith;
  pick_add = λ x y z. omega arith;
}

max_picks : Picks max
max_picks = record {
  within = λ x y hx hy. omega arith;
  assoc = λ x y z. omega arith;
  comm = λ x y. omega arith;
  add_pick = λ x y z. omega arith;
  pick_add = λ x y z. omega arith;
}

pub picked_laws : (highest : Bool) → Laws (price_by (cond highest max min))
picked_laws true = price_laws max max_picks
picked_laws false = price_laws min min_picks

pub lowest_laws : Laws lowest
lowest_laws = picked_laws false

pub highest_laws : Laws highest
highest_laws = picked_laws true
