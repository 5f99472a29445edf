-- What a scheme means, and what its meaning owes. Assumes nothing.
use Rattle.std.specs.Prelude.{◌≡◌, ℕ, Bool, true, false, not, ◌&&◌, List, [], ◌∷◌, length, IsSomeAnd, IfSome, None, Option, ◌==◌, nat_le, nat_lt}
use Rattle.std.specs.List.{list_all, list_any}
use Rattle.directory.specs.Directories.{quorum}
use Rattle.values.specs.declared.types.Attestation.{Attestation}

-- for subjects B and certificates C: the participants' keys, whether judging many attestations at once is cheaper,
-- which attestations are good and which certificates valid for a subject, and what the two ways of assembling answer
pub record Meaning (B C : Type 0) : Type 0 where
  pub keys : List ℕ
  pub batchable : Bool
  pub good : B → Attestation → Bool
  pub valid : B → C → Bool
  pub optimistic : B → List Attestation → Option C
  pub assembled : B → List Attestation → Option C

-- participant s signed one of these
abbrev pub signed_by : ℕ → List Attestation → Bool
signed_by s l = list_any (λ a. a.signer == s) l

-- different signers, each one of n participants
abbrev pub different : ℕ → List Attestation → Bool
different n [] = true
different n (a ∷ l) = (nat_lt a.signer n && not (signed_by a.signer l)) && different n l

-- at least a quorum of n participants, each once
abbrev pub quorate : ℕ → List Attestation → Bool
quorate n l = nat_le (quorum n) (length l) && different n l

-- p holds of all of these
abbrev pub every : (Attestation → Bool) → List Attestation → Bool
every p l = list_all p l

-- a list without a quorum gets nothing; one of good attestations gets a valid certificate; and what is assembled
-- optimistically is valid
pub record Lawful {B C : Type 0} (m : Meaning B C) : Type 0 where
  pub optimistic_none : (b : B) (l : List Attestation) → quorate (length m.keys) l ≡ false → m.optimistic b l ≡ None
  pub assembled_none : (b : B) (l : List Attestation) → quorate (length m.keys) l ≡ false → m.assembled b l ≡ None
  pub optimistic_good : (b : B) (l : List Attestation) → quorate (length m.keys) l ≡ true → every (m.good b) l ≡ true → IsSomeAnd (m.optimistic b l) (λ c. m.valid b c ≡ true)
  pub assembled_good : (b : B) (l : List Attestation) → quorate (length m.keys) l ≡ true → every (m.good b) l ≡ true → IsSomeAnd (m.assembled b l) (λ c. m.valid b c ≡ true)
  pub optimistic_valid : (b : B) (l : List Attestation) → IfSome (m.optimistic b l) (λ c. m.valid b c ≡ true)

-- places for verdicts, of which each is changed by the attestation beside it, as far as both go
abbrev pub beside : {V : Type 0} → (Attestation → V → V) → List Attestation → List V → List V
beside f [] v = v
beside f (a ∷ l) [] = []
beside f (a ∷ l) (x ∷ v) = f a x ∷ beside f l v

-- the places after a question: a verdict for each attestation that has a place, and the other places as they were
abbrev pub answered : {V : Type 0} → (Attestation → V) → List Attestation → List V → List V
answered verdict l v = beside (λ a _. verdict a) l v
