-- What a call holds that its record has a field for. Assumes nothing.
use Rattle.std.specs.Prelude.{ℕ, Some, None, Option}
use Rattle.values.specs.declared.types.Rnd.{Rnd}
use Rattle.values.specs.declared.types.Proposal.{Proposal}
use Rattle.values.specs.declared.types.Subject.{Subject}
use Rattle.values.specs.Kinds.{round_of, proposal_of}
use Rattle.calls.specs.declared.call.Call.{Call}
use Rattle.calls.specs.declared.call.Call.TheVariants.{NetworkVote, ConstructedVote, Certificate, Leader, Forward, Attempt, MissingVoters}

module _ {P : Type 0} where
  -- the call's number in a record
  abbrev pub call_number : Call P → ℕ
  call_number (NetworkVote k v) = 1
  call_number (ConstructedVote v) = 2
  call_number (Certificate s) = 3
  call_number (Leader l) = 4
  call_number (Forward i) = 5
  call_number Attempt = 6
  call_number (MissingVoters p) = 7

  -- what a vote or a certificate is for
  abbrev pub subject_in : Call P → Option (Subject P)
  subject_in (NetworkVote k v) = Some v.subject
  subject_in (ConstructedVote v) = Some v.subject
  subject_in (Certificate s) = Some s
  subject_in (Leader l) = None
  subject_in (Forward i) = None
  subject_in Attempt = None
  subject_in (MissingVoters p) = None

  -- the proposal that a call names
  abbrev pub proposal_in : Call P → Option (Proposal P)
  proposal_in (NetworkVote k v) = proposal_of v.subject
  proposal_in (ConstructedVote v) = proposal_of v.subject
  proposal_in (Certificate s) = proposal_of s
  proposal_in (Leader l) = None
  proposal_in (Forward i) = None
  proposal_in Attempt = None
  proposal_in (MissingVoters p) = Some p

  -- the round that a call names, or epoch 0 and view 0
  abbrev pub round_in : Call P → Rnd
  round_in (NetworkVote k v) = round_of v.subject
  round_in (ConstructedVote v) = round_of v.subject
  round_in (Certificate s) = round_of s
  round_in (Leader l) = record { epoch = 0; view = 0 }
  round_in (Forward i) = record { epoch = 0; view = 0 }
  round_in Attempt = record { epoch = 0; view = 0 }
  round_in (MissingVoters p) = p.round

  -- the sender's key, or 0
  abbrev pub key_in : Call P → ℕ
  key_in (NetworkVote k v) = k
  key_in (ConstructedVote v) = 0
  key_in (Certificate s) = 0
  key_in (Leader l) = 0
  key_in (Forward i) = 0
  key_in Attempt = 0
  key_in (MissingVoters p) = 0

  -- the signer, the leader or the station's own number, or 0
  abbrev pub participant_in : Call P → ℕ
  participant_in (NetworkVote k v) = v.attestation.signer
  participant_in (ConstructedVote v) = v.attestation.signer
  participant_in (Certificate s) = 0
  participant_in (Leader l) = l
  participant_in (Forward i) = i
  participant_in Attempt = 0
  participant_in (MissingVoters p) = 0

  -- the signature, or 0
  abbrev pub signature_in : Call P → ℕ
  signature_in (NetworkVote k v) = v.attestation.signature
  signature_in (ConstructedVote v) = v.attestation.signature
  signature_in (Certificate s) = 0
  signature_in (Leader l) = 0
  signature_in (Forward i) = 0
  signature_in Attempt = 0
  signature_in (MissingVoters p) = 0
