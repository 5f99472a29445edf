use Rattle.std.proofs.Common.{◌*◌, ◌%◌, ◌^◌, ◌∙◌, arith, rules, length}
use lib.Bits.{bit_or}
use Rattle.bench.specs.Slates.{seen_of, signatures_of}
use Rattle.bench.proofs.Folds.{mask_or}
use Rattle.bench.proofs.slate.Slate.certificate.Goals as goal

pub returns-clause-mask : goal.returns-clause-mask
returns-clause-mask g c =
    c.fold.ensures bit_or (λ i. 1 * 2 ^ i % 2 ^ 64) (λ total signer r h e. search rules)
    ∙ mask_or (length c.args.self.now.signatures) (seen_of c.args.self.now) (omega (arith, c.args.self.now.table))

pub returns-clause-seal : goal.returns-clause-seal
returns-clause-seal g c = λ f h.
    c.fold-2.ensures f (signatures_of c.args.self.now) (λ total signer r k e. search rules)
