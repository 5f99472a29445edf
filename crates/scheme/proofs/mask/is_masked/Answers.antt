use Rattle.std.proofs.Common.{arith}
use Rattle.std.proofs.lemmas.Bool.Decides.{nat_tests}
use Rattle.std.proofs.lemmas.Nat.Bits.{bit_at_above}
use Rattle.scheme.proofs.mask.is_masked.Goals as goal

pub returns-else-signer-lt64 : goal.returns-else-signer-lt64
returns-else-signer-lt64 c =
    let z = bit_at_above c.args.mask 64 c.args.signer c.ranges.mask.fits c.if-signer-lt64.false in
    grind (arith, nat_tests)
