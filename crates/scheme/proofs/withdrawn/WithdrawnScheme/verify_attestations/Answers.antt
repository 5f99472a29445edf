use Rattle.std.proofs.Common.{not, ◌&&◌, ap, ◌∙◌}
use Rattle.scheme.specs.Layers.{bit, withdrawn_meaning}
use Rattle.scheme.specs.Meaning.{beside}
use Rattle.scheme.proofs.Beside.{beside_beside}
use Rattle.scheme.proofs.withdrawn.WithdrawnScheme.verify_attestations.Goals as goal

pub returns : goal.returns
returns g c =
    let mask = c.args.self.now.mask in
    let l = c.args.attestations.now in
    record {
      answer =
          c.strike.ensures
          ∙ ap (beside (λ a x. x && not (bit mask a.signer)) l) c.verify_attestations.ensures.answer
          ∙ beside_beside _ _ l _;
      same = ap (withdrawn_meaning mask) c.verify_attestations.ensures.same;
    }
