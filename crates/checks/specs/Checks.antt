-- The votes in calls: whether their signatures are good, and calls with good ones. Assumes nothing.
use Rattle.std.specs.Prelude.{ℕ, Bool, List, Some, None, Option, Result}
use Rattle.std.specs.Option.{option_map}
use Rattle.std.specs.Result as results
use Rattle.calls.specs.declared.call.Call.{Call}
use Rattle.calls.specs.declared.call.Call.TheVariants.{NetworkVote, ConstructedVote, Certificate, Leader, Forward, Attempt, MissingVoters}
use Rattle.scheme.specs.Meaning.{Meaning}
use Rattle.tags.specs.Numbers.{number_of, signed_of}
use Rattle.values.specs.declared.payload.Words.{Words}
use Rattle.values.specs.declared.refusal.Refusal.{Refusal}
use Rattle.values.specs.declared.types.Subject.{Subject}
use Rattle.values.specs.declared.types.Vote.{Vote}

-- the vote that a call brings
abbrev pub vote_in : {P : Type 0} → Call P → Option (Vote P)
vote_in (NetworkVote k v) = Some v
vote_in (ConstructedVote v) = Some v
vote_in (Certificate b) = None
vote_in (Leader i) = None
vote_in (Forward i) = None
vote_in Attempt = None
vote_in (MissingVoters p) = None

-- of what a record reads as: why it is refused, or whether its vote is good, if it has one
abbrev pub judged : {P C : Type 0} → Meaning (Subject P) C → Result (Call P) Refusal → Result (Option Bool) Refusal
judged m r = results.result_map_both (λ c. option_map (λ v. m.good v.subject v.attestation) (vote_in c)) (λ e. e) r

-- the vote with its signer's tag, if the signer is a participant
abbrev pub signed_vote : {P : Type 0} → (P → Words) → List ℕ → Vote P → Option (Vote P)
signed_vote words keys v =
    option_map (λ a. record { subject = v.subject; attestation = a }) (signed_of keys (number_of words v.subject) v.attestation.signer)

-- the call with its vote so signed
abbrev pub signed_call : {P : Type 0} → (P → Words) → List ℕ → Call P → Option (Call P)
signed_call words keys (NetworkVote k v) = option_map (λ w. NetworkVote k w) (signed_vote words keys v)
signed_call words keys (ConstructedVote v) = option_map (λ w. ConstructedVote w) (signed_vote words keys v)
signed_call words keys (Certificate b) = Some (Certificate b)
signed_call words keys (Leader i) = Some (Leader i)
signed_call words keys (Forward i) = Some (Forward i)
signed_call words keys Attempt = Some Attempt
signed_call words keys (MissingVoters p) = Some (MissingVoters p)
