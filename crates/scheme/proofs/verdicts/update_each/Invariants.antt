use Rattle.std.proofs.Common.{◌≡◌, Bool, take}
use Rattle.values.specs.declared.types.Attestation.{Attestation}
use Rattle.scheme.specs.Meaning.{beside}
use Rattle.scheme.proofs.verdicts.update_each.Given as goal

abbrev pub invariant-loop-i : goal.invariant-loop-i
invariant-loop-i g l =
    (f : Attestation → Bool → Bool) → ((a : Attestation) (x r : Bool) → goal.F-post g l.change a x r → r ≡ f a x)
    → l.verdicts ≡ beside f (take l.i l.attestations) l.initial.verdicts
