use Rattle.std.proofs.Common.{◌≡◌, ◌≢◌, ℕ, ◌+◌, ◌%◌, true, List, None, Some, length, refl, sym, ap, ◌∙◌, rules}
use Rattle.std.proofs.lemmas.Bool.{eq-eqb, ne_eqb}
use Rattle.directory.specs.Directories.{keys_of}
use Rattle.directory.specs.declared.directory.Directory.{Directory}
use Rattle.scheme.specs.Meaning.{signed_by, quorate}
use Rattle.tags.specs.Numbers.{prime, tag_at}
use Rattle.values.specs.declared.types.Attestation.{Attestation}
use Rattle.bench.specs.declared.masked.Masked.{Masked}
use Rattle.bench.specs.declared.slate.Slate.{Slate}
use Rattle.bench.specs.Sealed.{fold_up_to, mask_of, summed_seal, sealed_by, summed_optimistic}
use Rattle.bench.specs.Slates.{Holds, seen_of, signatures_of}
use Rattle.bench.specs.Sealings.{valid_is, summed_picky}
use Rattle.bench.proofs.Folds.{slate_fold, certified, sum_mod}
use Rattle.bench.proofs.summed.Summed.sealed_if_valid.Goals as goal

-- a certificate c of the list, and the sum y of its signers' tags
module _ (d : Directory) (number : ℕ) (l : List Attestation) (t : Slate) (q : quorate (length (keys_of d)) l ≡ true) (o : Holds t l) (c : Masked)
    (a : c.mask ≡ mask_of (length t.signatures) (seen_of t))
    (b : c.seal ≡ fold_up_to (λ a x. (a + x) % prime) (length t.signatures) (seen_of t) (signatures_of t)) (y : ℕ)
    (e : y ≡ fold_up_to (λ a x. (a + x) % prime) (length t.signatures) (seen_of t) (tag_at (keys_of d) number)) where
  sealed : c ≡ sealed_by summed_seal (keys_of d) l
  sealed = certified d l t q o summed_seal (λ a x. (a + x) % prime) sum_mod c a b

  tags : y ≡ summed_seal (length (keys_of d)) (λ s. signed_by s l) (tag_at (keys_of d) number)
  tags =
      e
      ∙ slate_fold d l t q o (λ a x. (a + x) % prime) (tag_at (keys_of d) number) (tag_at (keys_of d) number) (λ i k. refl)
      ∙ sum_mod (length (keys_of d)) (λ s. signed_by s l) (tag_at (keys_of d) number)

  refused : (c.seal ≢ y) → None ≡ summed_optimistic (keys_of d) number l
  refused k =
      let v = valid_is summed_seal summed_picky (keys_of d) number l q ∙ ne_eqb _ _ (λ z. k (ap (λ (m : Masked). m.seal) sealed ∙ z ∙ sym tags)) in
      rw q (rw v refl)

  given : c.seal ≡ y → Some c ≡ summed_optimistic (keys_of d) number l
  given k =
      let v = valid_is summed_seal summed_picky (keys_of d) number l q ∙ eq-eqb _ _ (sym (ap (λ (m : Masked). m.seal) sealed) ∙ k ∙ tags) in
      rw q (rw v (ap Some sealed))

pub returns-then-certificate-tags : goal.returns-then-certificate-tags
returns-then-certificate-tags c =
    let q = c.in_ok-slate.ensures in
    let e = c.certificate-certificate.ensures in
    let t = c.fold-tags.ensures (λ a x. (a + x) % prime) (tag_at (keys_of c.args.self.now.directory) c.args.number) (λ a i r h k. search rules) in
    refused c.args.self.now.directory c.args.number c.args.attestations.now c.in_ok-slate.slate q.0 q.1 c.certificate-certificate.result e.mask
    (e.seal (λ a x. (a + x) % prime) (λ a x r h. h)) c.fold-tags.result t c.if-certificate-tags.true

pub returns : goal.returns
returns c =
    let q = c.in_ok-slate.ensures in
    let e = c.certificate-certificate.ensures in
    let t = c.fold-tags.ensures (λ a x. (a + x) % prime) (tag_at (keys_of c.args.self.now.directory) c.args.number) (λ a i r h k. search rules) in
    given c.args.self.now.directory c.args.number c.args.attestations.now c.in_ok-slate.slate q.0 q.1 c.certificate-certificate.result e.mask
    (e.seal (λ a x. (a + x) % prime) (λ a x r h. h)) c.fold-tags.result t c.if-certificate-tags.false
