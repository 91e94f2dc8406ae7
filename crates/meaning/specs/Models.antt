-- The four measures.
use Rattle.std.specs.Prelude.{ℕ, ◌+◌, ◌*◌, ◌≤◌, min, max, Some, None, Option}
use Rattle.std.specs.Int.Bits.{bit_and, bit_or}
use Rattle.meaning.specs.Measures.{Means}

-- a number cut off at 4294967295
abbrev pub cut : ℕ → ℕ
cut n = min n 4294967295

-- yes is 1 and no is 0
abbrev pub yes_no : Means ℕ
yes_no = record { has = λ v. v ≤ 1; zero = 0; one = 1; join = bit_or; chain = bit_and; worth = λ price count. 1 }

abbrev pub loads : Means ℕ
loads = record {
  has = λ v. v ≤ 4294967295;
  zero = 0;
  one = 1;
  join = λ a b. cut (a + b);
  chain = λ a b. cut (a * b);
  worth = λ price count. 1;
}

-- a price is none, or a number that is not cut off
abbrev pub Price : Option ℕ → Type 0
Price None = Unit {0}
Price (Some v) = v ≤ 4294967295

-- of two prices the one that pick takes; where one is none, the other
abbrev pub taken : (ℕ → ℕ → ℕ) → Option ℕ → Option ℕ → Option ℕ
taken pick None b = b
taken pick (Some x) None = Some x
taken pick (Some x) (Some y) = Some (pick x y)

-- the sum, cut off; none where either is none
abbrev pub added : Option ℕ → Option ℕ → Option ℕ
added None b = None
added (Some x) None = None
added (Some x) (Some y) = Some (cut (x + y))

-- the price of a load that pick takes
abbrev pub price_by : (ℕ → ℕ → ℕ) → Means (Option ℕ)
price_by pick = record { has = Price; zero = None; one = Some 0; join = taken pick; chain = added; worth = λ price count. Some (price * count) }

abbrev pub lowest : Means (Option ℕ)
lowest = price_by min

abbrev pub highest : Means (Option ℕ)
highest = price_by max
