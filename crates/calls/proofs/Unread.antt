-- A call's fields read as the call.
use Rattle.std.proofs.Common.{◌≡◌, ℕ, IfSome, Some, None, Ok, Option, refl, ap, ◌∙◌, sym}
use Rattle.std.specs.Option.{MatchOption, option_map_or}
use Rattle.values.specs.declared.payload.Words.{Words}
use Rattle.values.specs.declared.types.Proposal.{Proposal}
use Rattle.values.specs.declared.types.Subject.{Subject}
use Rattle.values.specs.declared.types.Subject.TheVariants as subject
use Rattle.values.specs.declared.types.Attestation.{Attestation}
use Rattle.calls.specs.declared.call.Call.{Call}
use Rattle.calls.specs.declared.call.Call.TheVariants as call
use Rattle.calls.specs.Calls.{proposal_in}
use Rattle.calls.specs.Records.{read_fields, fields_of}

-- what `map_or` gives
pub mapped : {A B : Type 0} (o : Option A) (F : A → B) (d r : B) → MatchOption o (r ≡ d) (λ x. r ≡ F x) → r ≡ option_map_or F o d
mapped None F d r h = h
mapped (Some x) F d r h = h

module _ {P : Type 0} (words : P → Words) (named : Words → Option P) where
  -- the payload, where there is one, is named by its words
  abbrev pub Told : Option (Proposal P) → Type 0
  Told o = IfSome o (λ p. named (words p.payload) ≡ Some p.payload)

  pub told : (o : Option (Proposal P)) (d r : Words) → MatchOption o (r ≡ d) (λ p. (r ≡ words p.payload) × (named r ≡ Some p.payload)) → Told o
  told None d r h = tt
  told (Some p) d r h = ap named (sym h.0) ∙ h.1

  network_back : (k : ℕ) (s : Subject P) (a : Attestation) → let c : Call P = call.NetworkVote k (record { subject = s; attestation = a }) in
      Told (proposal_in c) → read_fields named (fields_of words c) ≡ Ok c
  network_back k (subject.Notarize p) a h = rw h
  network_back k (subject.Nullify r) a h = refl
  network_back k (subject.Finalize p) a h = rw h

  constructed_back : (s : Subject P) (a : Attestation) → let c : Call P = call.ConstructedVote (record { subject = s; attestation = a }) in
      Told (proposal_in c) → read_fields named (fields_of words c) ≡ Ok c
  constructed_back (subject.Notarize p) a h = rw h
  constructed_back (subject.Nullify r) a h = refl
  constructed_back (subject.Finalize p) a h = rw h

  pub fields_back : (c : Call P) → Told (proposal_in c) → read_fields named (fields_of words c) ≡ Ok c
  fields_back (call.NetworkVote k v) h = network_back k v.subject v.attestation h
  fields_back (call.ConstructedVote v) h = constructed_back v.subject v.attestation h
  fields_back (call.Certificate (subject.Notarize p)) h = rw h
  fields_back (call.Certificate (subject.Nullify r)) h = refl
  fields_back (call.Certificate (subject.Finalize p)) h = rw h
  fields_back (call.Leader l) h = refl
  fields_back (call.Forward i) h = refl
  fields_back call.Attempt h = refl
  fields_back (call.MissingVoters p) h = rw h
