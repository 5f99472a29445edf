-- Certificates that are a mask of signers and a seal: what Listed and Summed answer, and what they mean. Assumes nothing.
use Rattle.std.specs.Prelude.{ℕ, zero, suc, ◌+◌, ◌*◌, ◌%◌, ◌^◌, Bool, true, false, cond, ◌&&◌, List, length, Some, None, Option, ◌==◌, nat_le, nat_lt}
use Rattle.std.specs.List.{find}
use Rattle.std.specs.Option.{option_map, unwrap_or}
use Rattle.directory.specs.Directories.{quorum, keys_of}
use Rattle.scheme.specs.Layers.{bit}
use Rattle.scheme.specs.Meaning.{Meaning, signed_by, quorate, every}
use Rattle.tags.specs.Numbers.{prime, number_of, tag_at, tagged}
use Rattle.values.specs.declared.payload.Words.{Words}
use Rattle.values.specs.declared.types.Attestation.{Attestation}
use Rattle.values.specs.declared.types.Subject.{Subject}
use Rattle.bench.specs.declared.masked.Masked.{Masked}
use Rattle.bench.specs.declared.listed.Listed.{Listed}
use Rattle.bench.specs.declared.summed.Summed.{Summed}

-- the signature that participant s gave, if it did
abbrev pub signature_by : ℕ → List Attestation → Option ℕ
signature_by s l = option_map (λ a. a.signature) (find (λ a. a.signer == s) l)

-- that signature, or 0
abbrev pub signature_of : ℕ → List Attestation → ℕ
signature_of s l = unwrap_or (signature_by s l) 0

-- from 0, over the participants below n that p picks, ascending
abbrev pub fold_up_to : (ℕ → ℕ → ℕ) → ℕ → (ℕ → Bool) → (ℕ → ℕ) → ℕ
fold_up_to f zero p v = 0
fold_up_to f (suc n) p v = cond (p n) (f (fold_up_to f n p v) (v n)) (fold_up_to f n p v)

-- the sum of what those that p picks have
abbrev pub sum_of : ℕ → (ℕ → Bool) → (ℕ → ℕ) → ℕ
sum_of n p v = fold_up_to (λ a x. a + x) n p v

-- the mask of those that p picks: participant i is bit i
abbrev pub mask_of : ℕ → (ℕ → Bool) → ℕ
mask_of n p = sum_of n p (λ i. 2 ^ i)

-- how many p picks
abbrev pub count_of : ℕ → (ℕ → Bool) → ℕ
count_of n p = sum_of n p (λ i. 1)

-- what a seal makes of the values of those that are picked, below n
abbrev pub Seal : Type 0
Seal = ℕ → (ℕ → Bool) → (ℕ → ℕ) → ℕ

abbrev pub listed_seal : Seal
listed_seal n p v = fold_up_to (λ a x. (31 * a + x) % prime) n p v

abbrev pub summed_seal : Seal
summed_seal n p v = sum_of n p v % prime

-- at least a quorum in the mask, none outside the directory, and the seal of their tags
abbrev pub valid_by : Seal → List ℕ → ℕ → Masked → Bool
valid_by seal keys number c =
    (nat_lt c.mask (2 ^ length keys) && nat_le (quorum (length keys)) (count_of (length keys) (bit c.mask)))
    && c.seal == seal (length keys) (bit c.mask) (tag_at keys number)

-- the signers, and the seal of their signatures
abbrev pub sealed_by : Seal → List ℕ → List Attestation → Masked
sealed_by seal keys l =
    record {
      mask = mask_of (length keys) (λ s. signed_by s l);
      seal = seal (length keys) (λ s. signed_by s l) (λ s. signature_of s l);
    }

-- both ways of assembling: a quorum's seal, if all are good
abbrev pub listed_answer : List ℕ → ℕ → List Attestation → Option Masked
listed_answer keys number l =
    cond (quorate (length keys) l) (cond (every (tagged keys number) l) (Some (sealed_by listed_seal keys l)) None) None

-- assembling: a quorum's seal, whatever the signatures are
abbrev pub summed_answer : List ℕ → List Attestation → Option Masked
summed_answer keys l = cond (quorate (length keys) l) (Some (sealed_by summed_seal keys l)) None

-- optimistic assembling: a quorum's seal, if the certificate is valid
abbrev pub summed_optimistic : List ℕ → ℕ → List Attestation → Option Masked
summed_optimistic keys number l =
    cond (quorate (length keys) l)
    (cond (valid_by summed_seal keys number (sealed_by summed_seal keys l)) (Some (sealed_by summed_seal keys l)) None)
    None

abbrev pub listed_meaning : {P : Type 0} → (P → Words) → Listed → Meaning (Subject P) Masked
listed_meaning words s =
    record {
      keys = keys_of s.directory;
      batchable = false;
      good = λ b a. tagged (keys_of s.directory) (number_of words b) a;
      valid = λ b c. valid_by listed_seal (keys_of s.directory) (number_of words b) c;
      optimistic = λ b l. listed_answer (keys_of s.directory) (number_of words b) l;
      assembled = λ b l. listed_answer (keys_of s.directory) (number_of words b) l;
    }

abbrev pub summed_meaning : {P : Type 0} → (P → Words) → Summed → Meaning (Subject P) Masked
summed_meaning words s =
    record {
      keys = keys_of s.directory;
      batchable = true;
      good = λ b a. tagged (keys_of s.directory) (number_of words b) a;
      valid = λ b c. valid_by summed_seal (keys_of s.directory) (number_of words b) c;
      optimistic = λ b l. summed_optimistic (keys_of s.directory) (number_of words b) l;
      assembled = λ b l. summed_answer (keys_of s.directory) l;
    }
