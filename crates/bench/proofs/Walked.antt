-- Lemmas of the loops that made masks and seals, which nothing cites any more.
use Rattle.std.proofs.Common.{◌≡◌, ℕ, ◌+◌, ◌*◌, ◌%◌, ◌^◌, ◌<◌, ap, ◌∙◌, arith}
use lib.Bits.{bit_or}
use Rattle.std.proofs.lemmas.Nat.{or_comm, or_shifted, one_shl}
use Rattle.tags.specs.Numbers.{prime}

-- one more bit, above those so far
pub bit_more : (m i : ℕ) → m < 2 ^ i → i < 64 → bit_or m ((1 * 2 ^ i) % 2 ^ 64) ≡ m + 2 ^ i
bit_more m i h k =
    ap (λ x. bit_or m x) (one_shl i 64 k)
    ∙ or_comm m (2 ^ i)
    ∙ ap (λ x. bit_or x m) (omega arith)
    ∙ or_shifted 1 i m h
    ∙ omega arith

pub signature_mod : (s x : ℕ) → (31 * s + x % prime) % prime ≡ (31 * s + x) % prime
signature_mod s x = omega arith
