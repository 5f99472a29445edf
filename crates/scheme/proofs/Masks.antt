-- The bits of a mask.
use Rattle.std.proofs.Common.{◌≡◌, ℕ, ◌^◌, ◌<◌, false, arith}
use Rattle.std.proofs.lemmas.Nat.Bits.{bit_at_above}
use Rattle.std.proofs.lemmas.Bool.{ne_eqb}
use Rattle.std.specs.Int.{bit_at}
use Rattle.scheme.specs.Layers.{bit}

pub bit_none : (m n : ℕ) → m < 2 ^ n → bit m n ≡ false
bit_none m n h = ne_eqb (bit_at m n) 1 (λ e. omega (arith, bit_at_above m n n h (omega arith), e))
