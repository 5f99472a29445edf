use Rattle.std.proofs.Common.{◌≡◌, ℕ, ◌<◌}
use Rattle.bench.specs.Sealed.{fold_up_to}
use Rattle.bench.specs.Slates.{seen_of, signatures_of}
use Rattle.bench.proofs.slate.Slate.fold.Given as goal

abbrev pub invariant-loop-signer : goal.invariant-loop-signer
invariant-loop-signer g l =
    (f : ℕ → ℕ → ℕ) (v : ℕ → ℕ) → ((total signer r : ℕ) → signer < 64 → goal.F-post g l.next total signer (signatures_of l.self signer) r → r ≡ f total (v signer))
    → l.total ≡ fold_up_to f l.signer (seen_of l.self) v
