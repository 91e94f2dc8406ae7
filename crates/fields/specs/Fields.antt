-- What one field of a case file is, over the list of the file's bytes.
use Rattle.std.specs.Prelude.{◌≡◌, ℕ, ◌+◌, ◌*◌, ◌%◌, Bool, cond, ◌&&◌, List, length, take, drop, Some, None, Ok, Err, Option, Result, ◌==◌, nat_le, nat_lt, slice_index}
use Rattle.fields.specs.declared.field.Cause.{Cause}
use Rattle.fields.specs.declared.field.Cause.TheVariants.{Short, UnknownTag, WrongLength}
use Rattle.fields.specs.declared.head.Head.{Head}
use Rattle.fields.specs.Tags.{code}
use Rattle.fields.specs.declared.field.Field.{Field}
use Rattle.fields.specs.declared.field.Field.TheVariants.{Kind, Band, List as Totals, Stride, RuleOut, End}

-- a number of two bytes, the high byte first
abbrev pub two : List ℕ → ℕ → ℕ
two file at = slice_index file at * 256 + slice_index file (at + 1)

-- a number of eight bytes
abbrev pub eight : List ℕ → ℕ → ℕ
eight file at = (two file at * 65536 + two file (at + 2)) * 4294967296 + (two file (at + 4) * 65536 + two file (at + 6))

-- the lengths that a known tag may have
abbrev pub right_length : ℕ → ℕ → Bool
right_length tag n =
    cond (tag == 0) (n == 0)
    (cond (tag == 1) (n == 12)
    (cond (tag == 2) (n == 4)
    (cond (tag == 3) (nat_le 2 n && (nat_le n 32 && n % 2 == 0))
    (cond (tag == 4) (n == 4) (n == 2)))))

-- the first fault of the field that begins `rest`, if it has one, in the order of the tests
abbrev pub fault : List ℕ → Option Cause
fault rest =
    cond (nat_lt (length rest) 3) (Some Short)
    (cond (nat_lt 5 (slice_index rest 0)) (Some UnknownTag)
    (cond (right_length (slice_index rest 0) (two rest 1))
    (cond (nat_lt (length rest) (3 + two rest 1)) (Some Short) None)
    (Some WrongLength)))

-- the value of the field that begins `rest`
abbrev pub Reads : List ℕ → Field → Type 0
Reads rest (Kind size price set) = (slice_index rest 0 ≡ 1) × (size ≡ two rest 3) × (price ≡ two rest 5) × (set ≡ eight rest 7)
Reads rest (Band low high) = (slice_index rest 0 ≡ 2) × (low ≡ two rest 3) × (high ≡ two rest 5)
Reads rest (Totals part) = (slice_index rest 0 ≡ 3) × (part.now ≡ take (two rest 1) (drop 3 rest))
Reads rest (Stride modulus remainder) = (slice_index rest 0 ≡ 4) × (modulus ≡ two rest 3) × (remainder ≡ two rest 5)
Reads rest (RuleOut kind count) = (slice_index rest 0 ≡ 5) × (kind ≡ slice_index rest 3) × (count ≡ slice_index rest 4)
Reads rest End = slice_index rest 0 ≡ 0

-- what the head of a field answers: its tag and the length of its value, or the first fault
abbrev pub Heads : List ℕ → Result Head Cause → Type 0
Heads rest (Ok h) = (fault rest ≡ None) × (code h.tag ≡ slice_index rest 0) × (h.len ≡ two rest 1)
Heads rest (Err e) = fault rest ≡ Some e
