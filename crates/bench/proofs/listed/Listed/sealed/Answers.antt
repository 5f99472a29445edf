use Rattle.std.proofs.Common.{Some, ◌+◌, ◌*◌, ◌%◌, refl, sym, ap}
use Rattle.tags.specs.Numbers.{prime}
use Rattle.bench.specs.Sealed.{listed_seal}
use Rattle.bench.proofs.Folds.{certified}
use Rattle.bench.proofs.listed.Listed.sealed.Goals as goal

pub returns : goal.returns
returns c =
    let q = c.in_ok-slate.ensures in
    let e = c.certificate.ensures in
    let s = certified c.args.self.now.directory c.args.attestations.now c.in_ok-slate.slate q.0 q.1 listed_seal (λ a x. (31 * a + x) % prime) (λ n p v. refl)
    c.certificate.result e.mask (e.seal (λ a x. (31 * a + x) % prime) (λ a x r h. h)) in
    let a = sym c.if-not-all_tagged.ensures in
    rw q.0 (rw a (ap Some s))
