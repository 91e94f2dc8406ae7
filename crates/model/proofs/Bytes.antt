-- The ones of a number are those of its bytes.
use Rattle.std.proofs.Common.{◌≡◌, ℕ, zero, suc, ◌+◌, ◌/◌, ◌%◌, ◌^◌, ◌<◌, ◌≤◌, sum_by, count_ones, sym, refl, ap, ap₂, ◌∙◌, mod-lt, div-add-mod', pow-suc, arith, lit<}
use Rattle.std.specs.Int.{byte_at, bytes_low_first}
use Rattle.std.proofs.Math.Nat.{div-div-eq-div-mul}
use Rattle.std.proofs.lemmas.List.Sums.{sum_by-cons}
use lib.Count.{ones, ones_cat, ones-le}

low_byte : (n : ℕ) → count_ones n ≡ count_ones (n % 256) + count_ones (n / 256)
low_byte n = omega (arith, ap count_ones (sym (div-add-mod' n 256)) ∙ ones_cat 8 (n / 256) (n % 256) (mod-lt n (lit< tt)))

byte_is : (i n : ℕ) → byte_at i n ≡ n / 256 ^ i % 256
byte_is zero n = let e : n ≡ n / 1 = omega arith in ap (λ m. m % 256) e
byte_is (suc i) n = refl

bytes_from : (k i n : ℕ) → n / 256 ^ i < 256 ^ k → sum_by count_ones (bytes_low_first i k n) ≡ count_ones (n / 256 ^ i)
unfolding ones
bytes_from zero i n h = let none : 0 ≡ n / 256 ^ i = omega arith in ap count_ones none
bytes_from (suc k) i n h =
    let up : n / 256 ^ i / 256 ≡ n / 256 ^ suc i = div-div-eq-div-mul n (256 ^ i) 256 ∙ ap (λ m. n / m) (sym (pow-suc 256 i)) in
    let less : n / 256 ^ i / 256 < 256 ^ k = omega (arith, pow-suc 256 k) in
    sum_by-cons count_ones (byte_at i n) (bytes_low_first (suc i) k n)
    ∙ ap₂ (λ (a b : ℕ). a + b) (ap count_ones (byte_is i n)) (bytes_from k (suc i) n (rw up at less) ∙ ap count_ones (sym up))
    ∙ sym (low_byte (n / 256 ^ i))

pub bytes_count : (n : ℕ) → n < 2 ^ 64 → sum_by count_ones (bytes_low_first 0 8 n) ≡ count_ones n
bytes_count n h = let e : n / 1 ≡ n = omega arith in bytes_from 8 0 n (omega arith) ∙ ap count_ones e

pub most_bits : (n : ℕ) → n < 2 ^ 64 → count_ones n ≤ 64
most_bits n h = ones-le 64 n h

pub most_in_byte : (n : ℕ) → n < 2 ^ 8 → count_ones n ≤ 8
most_in_byte n h = ones-le 8 n h
