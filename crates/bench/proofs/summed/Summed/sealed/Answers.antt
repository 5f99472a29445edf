use Rattle.std.proofs.Common.{Some, ◌+◌, ◌%◌, ap}
use Rattle.tags.specs.Numbers.{prime}
use Rattle.bench.specs.Sealed.{summed_seal}
use Rattle.bench.proofs.Folds.{certified, sum_mod}
use Rattle.bench.proofs.summed.Summed.sealed.Goals as goal

pub returns : goal.returns
returns c =
    let q = c.in_ok-slate.ensures in
    let e = c.certificate.ensures in
    let s = certified c.args.self.now.directory c.args.attestations.now c.in_ok-slate.slate q.0 q.1 summed_seal (λ a x. (a + x) % prime) sum_mod
    c.certificate.result e.mask (e.seal (λ a x. (a + x) % prime) (λ a x r h. h)) in
    rw q.0 (ap Some s)
