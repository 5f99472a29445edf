-- Lemmas, no definitions that a contract cites: what is sealed of good attestations is valid, and that Listed and
-- Summed keep the laws.
use Rattle.std.specs.Prelude.{◌≡◌, ℕ, ◌+◌, ◌*◌, ◌%◌, ◌<◌, Bool, true, List, [], ◌∷◌, length, ◌==◌, nat_le, refl}
use Rattle.std.proofs.Common.{◌∙◌, ap, arith}
use Rattle.std.proofs.lemmas.Bool.{and_parts}
use Rattle.std.proofs.lemmas.Bool.Decides.{nat_tests}
use Rattle.directory.specs.Directories.{quorum, keys_of}
use Rattle.scheme.specs.Meaning.{Lawful, signed_by, different, quorate, every}
use Rattle.scheme.specs.Layers.{bit}
use Rattle.bench.specs.Sealed.{signature_of, mask_of, valid_by, sealed_by, listed_seal, summed_seal, listed_meaning, summed_meaning, Seal}
use Rattle.tags.specs.Numbers.{tag_at, tagged, prime, number_of}
use Rattle.values.specs.declared.payload.Words.{Words}
use Rattle.values.specs.declared.types.Attestation.{Attestation}
use Rattle.values.specs.declared.types.Subject.{Subject}
use Rattle.bench.specs.declared.listed.Listed.{Listed}
use Rattle.bench.specs.declared.summed.Summed.{Summed}
use Rattle.bench.specs.Picks.{fold_same, mask_below, bit_mask}
use Rattle.bench.specs.Signers.{different_count}

-- a seal depends on what is picked alone
abbrev pub Picky : Seal → Type 0
Picky seal =
    (n : ℕ) (p q : ℕ → Bool) (v w : ℕ → ℕ) → ((i : ℕ) → i < n → p i ≡ q i) → ((i : ℕ) → i < n → q i ≡ true → v i ≡ w i) → seal n p v ≡ seal n q w

pub listed_picky : Picky listed_seal
listed_picky = fold_same (λ x y. (31 * x + y) % prime)

pub summed_picky : Picky summed_seal
summed_picky n p q v w a b = ap (λ x. x % prime) (fold_same (λ x y. x + y) n p q v w a b)

pub tagged_signature : (keys : List ℕ) (number : ℕ) (l : List Attestation) (s : ℕ) → every (tagged keys number) l ≡ true → signed_by s l ≡ true → signature_of s l ≡ tag_at keys number s
tagged_signature keys number [] s e m = absurd (grind arith)
tagged_signature keys number (a ∷ l) s e m =
    let r = tagged_signature keys number l s in
    grind (arith, nat_tests)

module _ (seal : Seal) (picky : Picky seal) (keys : List ℕ) (number : ℕ) (l : List Attestation) (q : quorate (length keys) l ≡ true) where
  -- of a list with a quorum, the mask is right and the seal decides
  pub valid_is : valid_by seal keys number (sealed_by seal keys l)
      ≡ (seal (length keys) (λ s. signed_by s l) (λ s. signature_of s l) == seal (length keys) (λ s. signed_by s l) (tag_at keys number))
  valid_is =
      let n = length keys in
      let p = and_parts (nat_le (quorum n) (length l)) (different n l) q in
      let b : (i : ℕ) → i < n → bit (mask_of n (λ s. signed_by s l)) i ≡ signed_by i l = bit_mask n (λ s. signed_by s l) in
      let count = fold_same (λ x y. x + y) n (bit (mask_of n (λ s. signed_by s l))) (λ s. signed_by s l) (λ i. 1) (λ i. 1) b (λ i h t. refl) ∙ different_count n l p.1 in
      let low = mask_below n (λ s. signed_by s l) in
      let same = picky n (bit (mask_of n (λ s. signed_by s l))) (λ s. signed_by s l) (tag_at keys number) (tag_at keys number) b (λ i h t. refl) in
      grind (arith, nat_tests)

  pub sealed_valid : every (tagged keys number) l ≡ true → valid_by seal keys number (sealed_by seal keys l) ≡ true
  sealed_valid e =
      let same = picky (length keys) (λ s. signed_by s l) (λ s. signed_by s l) (λ s. signature_of s l) (tag_at keys number) (λ i h. refl) (λ i h t. tagged_signature keys number l i e t) in
      valid_is ∙ grind (arith, nat_tests)

-- the laws

pub listed_lawful : {P : Type 0} (words : P → Words) (s : Listed) → Lawful (listed_meaning words s)
listed_lawful {P} words s =
    let v = λ (b : Subject P) (l : List Attestation). sealed_valid listed_seal listed_picky (keys_of s.directory) (number_of words b) l in
    record {
      optimistic_none = λ b l q. grind arith;
      assembled_none = λ b l q. grind arith;
      optimistic_good = λ b l q e. let h = v b l q e in grind arith;
      assembled_good = λ b l q e. let h = v b l q e in grind arith;
      optimistic_valid = λ b l. let h = v b l in grind arith;
    }

pub summed_lawful : {P : Type 0} (words : P → Words) (s : Summed) → Lawful (summed_meaning words s)
summed_lawful {P} words s =
    let v = λ (b : Subject P) (l : List Attestation). sealed_valid summed_seal summed_picky (keys_of s.directory) (number_of words b) l in
    record {
      optimistic_none = λ b l q. grind arith;
      assembled_none = λ b l q. grind arith;
      optimistic_good = λ b l q e. let h = v b l q e in grind arith;
      assembled_good = λ b l q e. let h = v b l q e in grind arith;
      optimistic_valid = λ b l. grind arith;
    }
