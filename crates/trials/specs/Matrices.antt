-- Two-by-two matrices of bits, four bits of a number: 1 and 2 are the first row, 4 and 8 the second.
use Rattle.std.specs.Prelude.{ℕ, ◌+◌, ◌*◌, ◌/◌, ◌%◌, ◌<◌, cond, ◌&&◌, ◌||◌, ◌==◌}
use Rattle.std.specs.Int.Bits.{bit_or}
use Rattle.meaning.specs.Measures.{Means}

-- one entry of a product: whether a row meets a column
abbrev pub entry_of : ℕ → ℕ → ℕ → ℕ → ℕ
entry_of p q r s = cond ((p == 1 && q == 1) || (r == 1 && s == 1)) 1 0

-- the product of two matrices
abbrev pub product : ℕ → ℕ → ℕ
product a b =
    entry_of (a % 2) (b % 2) (a / 2 % 2) (b / 4 % 2) + 2 * entry_of (a % 2) (b / 2 % 2) (a / 2 % 2) (b / 8 % 2)
    + 4 * entry_of (a / 4 % 2) (b % 2) (a / 8 % 2) (b / 4 % 2)
    + 8 * entry_of (a / 4 % 2) (b / 2 % 2) (a / 8 % 2) (b / 8 % 2)

-- join is entry by entry, chain is the product, one is the unit matrix
abbrev pub matrices : Means ℕ
matrices = record {
  has = λ v. v < 16;
  zero = 0;
  one = 9;
  join = bit_or;
  chain = product;
  worth = λ price count. cond (count == 0) 9 (cond (price % 2 == 1) 3 1);
}
