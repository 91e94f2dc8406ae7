-- Numbers as bytes.
use Rattle.std.proofs.Common.{◌≡◌, ℕ, zero, suc, ◌+◌, ◌*◌, ◌/◌, ◌%◌, ◌<◌, ◌≤◌, List, [], ◌∷◌, ◌++◌, length, get_or, take, drop, sym, refl, ap, ◌∙◌, div-add-mod', arith, take-append-drop, drop-cons}
use lib.Arith.{digits_div, digits_mod}
use Rattle.std.specs.List.{AllByRecursion}
use Rattle.fields.specs.Values.{bytes2, bytes4, bytes8, pairs}
use Rattle.fields.specs.Reading.{totals, Bytes}

-- the n elements from `at` on, each by its own read
abbrev pub firsts : ℕ → ℕ → List ℕ → List ℕ
firsts zero at xs = []
firsts (suc n) at xs = get_or xs at 0 ∷ firsts n (suc at) xs

pub firsts_is : (n at : ℕ) (xs : List ℕ) → at + n ≤ length xs → firsts n at xs ≡ take n (drop at xs)
firsts_is zero at xs h = refl
firsts_is (suc n) at xs h =
    let l : at < length xs = omega arith in
    rw (drop-cons xs at 0 l) (ap (λ r. get_or xs at 0 ∷ r) (firsts_is n (suc at) xs (omega arith)))

pub parted : (n : ℕ) (xs : List ℕ) → n ≤ length xs → xs ≡ firsts n 0 xs ++ drop n xs
parted n xs h = sym (take-append-drop n xs) ∙ ap (λ (t : List ℕ). t ++ drop n xs) (sym (firsts_is n 0 xs (omega arith)))

pub bytes2_two : (a b : ℕ) → b < 256 → bytes2 (a * 256 + b) ≡ a ∷ b ∷ []
bytes2_two a b h = rw (digits_div a h, digits_mod a h)

pub bytes4_two : (a b : ℕ) → b < 65536 → bytes4 (a * 65536 + b) ≡ bytes2 a ++ bytes2 b
bytes4_two a b h = rw (digits_div a h, digits_mod a h)

pub bytes8_two : (a b : ℕ) → b < 4294967296 → bytes8 (a * 4294967296 + b) ≡ bytes4 a ++ bytes4 b
bytes8_two a b h = rw (digits_div a h, digits_mod a h)

pub bytes4_four : (a b c d : ℕ) → (b < 256) × (c < 256) × (d < 256) → bytes4 ((a * 256 + b) * 65536 + (c * 256 + d)) ≡ a ∷ b ∷ c ∷ d ∷ []
bytes4_four a b c d p =
    let s = bytes4_two (a * 256 + b) (c * 256 + d) (omega arith) in
    let u = bytes2_two a b p.0 in
    let v = bytes2_two c d p.2 in
    cc

pub bytes8_eight : (a b c d e f g h : ℕ) → (b < 256) × (c < 256) × (d < 256) × (e < 256) × (f < 256) × (g < 256) × (h < 256)
    → bytes8 (((a * 256 + b) * 65536 + (c * 256 + d)) * 4294967296 + ((e * 256 + f) * 65536 + (g * 256 + h))) ≡ a ∷ b ∷ c ∷ d ∷ e ∷ f ∷ g ∷ h ∷ []
bytes8_eight a b c d e f g h p =
    let s = bytes8_two ((a * 256 + b) * 65536 + (c * 256 + d)) ((e * 256 + f) * 65536 + (g * 256 + h)) (omega arith) in
    let u = bytes4_four a b c d (p.0, p.1, p.2) in
    let v = bytes4_four e f g h (p.4, p.5, p.6) in
    cc

-- the parts of a number of eight bytes make it again
pub eight_again : (n : ℕ)
    → ((n / 4294967296 / 65536 / 256 * 256 + n / 4294967296 / 65536 % 256) * 65536 + (n / 4294967296 % 65536 / 256 * 256 + n / 4294967296 % 65536 % 256)) * 4294967296
    + ((n % 4294967296 / 65536 / 256 * 256 + n % 4294967296 / 65536 % 256) * 65536 + (n % 4294967296 % 65536 / 256 * 256 + n % 4294967296 % 65536 % 256))
    ≡ n
eight_again n = simp div-add-mod'

pub totals_pairs : (ns : List ℕ) → totals (pairs ns) ≡ ns
totals_pairs [] = refl
totals_pairs (n ∷ ns) = let a = div-add-mod' n 256 in let b = totals_pairs ns in cc

pub length_pairs : (ns : List ℕ) → length (pairs ns) ≡ length ns * 2
length_pairs [] = refl
length_pairs (n ∷ ns) = omega (arith, length_pairs ns)

pub pairs_totals : (bs : List ℕ) → length bs % 2 ≡ 0 → Bytes bs → pairs (totals bs) ≡ bs
pairs_totals [] h by = refl
pairs_totals (a ∷ []) h by = let z : ◌≡◌ {A = ℕ} 1 0 = h in absurd (omega (arith, z))
pairs_totals (a ∷ b ∷ bs) h by =
    let low : b < 256 = by 1 in
    let again : pairs (totals bs) ≡ bs = pairs_totals bs (omega arith) (λ k. by (suc (suc k))) in
    rw (digits_div a low, digits_mod a low, again)

pub totals_fine : (bs : List ℕ) → Bytes bs → AllByRecursion (λ n. n < 65536) (totals bs)
totals_fine [] by = tt
totals_fine (a ∷ []) by = tt
totals_fine (a ∷ b ∷ bs) by = (omega (arith, by 0, by 1), totals_fine bs (λ k. by (suc (suc k))))
