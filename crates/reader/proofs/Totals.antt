-- The totals in the bytes of a field.
use Rattle.std.proofs.Common.{◌≡◌, ℕ, zero, suc, ◌+◌, ◌*◌, ◌/◌, ◌<◌, ◌≤◌, ◌||◌, ◌==◌, nat_lt, List, [], ◌∷◌, length, get_or, refl, arith}
use Rattle.std.specs.Int.{from_be_bytes, w16}
use Rattle.std.specs.Simd.{first_chunks}
use Rattle.std.proofs.lemmas.Bool.{lt-ltb, or_left, or_right}
use Rattle.model.specs.Answers.{refused}
use Rattle.model.specs.Goals.{list_made}
use Rattle.fields.specs.Reading.{totals}

-- two bytes make a total
pub many_totals : (bs : List ℕ) → (length (totals bs) * 2 ≤ length bs) × (length bs < length (totals bs) * 2 + 2)
many_totals (a ∷ b ∷ rest) = let m = many_totals rest in (omega (arith, m.0), omega (arith, m.1))
many_totals bs = (omega arith, omega arith)

pub halved : (bs : List ℕ) → length bs / 2 ≡ length (totals bs)
halved bs = let m = many_totals bs in omega (arith, m.0, m.1)

-- each two bytes are a total
pub chunk_total : (bs : List ℕ) (k i : ℕ) → i < k → k * 2 ≤ length bs
    → from_be_bytes w16 (get_or (first_chunks 2 k bs) i []) ≡ get_or (totals bs) i 0
chunk_total (a ∷ b ∷ rest) (suc k) zero h l = refl
chunk_total (a ∷ b ∷ rest) (suc k) (suc i) h l = chunk_total rest k i (omega arith) (omega arith)
chunk_total bs k i h l = absurd (omega arith)

-- more than 16 totals make no list
pub too_many : (ts : List ℕ) → 16 < length ts → refused 4 ≡ list_made ts
too_many ts h = rw (or_right (length ts == 0) (nat_lt 16 (length ts) || _) (or_left (nat_lt 16 (length ts)) _ (lt-ltb 16 (length ts) h)))
