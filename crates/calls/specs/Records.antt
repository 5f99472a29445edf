-- What a record reads as, and what a call is written as. Assumes nothing.
use Rattle.std.specs.Prelude.{ℕ, Bool, true, false, if◌then◌else◌, ◌&&◌, ◌||◌, List, length, Some, None, Ok, Err, Option, Result, ◌==◌, nat_lt}
use Rattle.std.specs.Option.{option_map, option_map_or, ok_or}
use Rattle.std.specs.Result.{result_map_both}
use Rattle.values.specs.declared.payload.Words.{Words}
use Rattle.values.specs.declared.types.Kind.{Kind}
use Rattle.values.specs.declared.types.Kind.TheVariants as kind
use Rattle.values.specs.declared.types.Proposal.{Proposal}
use Rattle.values.specs.declared.types.Subject.{Subject}
use Rattle.values.specs.declared.types.Subject.TheVariants as subject
use Rattle.values.specs.declared.types.Vote.{Vote}
use Rattle.values.specs.declared.refusal.Refusal.{Refusal}
use Rattle.values.specs.declared.refusal.Refusal.TheVariants.{ShortRecord, UnknownCall, UnusedByte, NotPayload}
use Rattle.values.specs.Kinds.{kind_number, kind_named, kind_of}
use Rattle.values.specs.Payloads.{no_words}
use Rattle.calls.specs.declared.call.Call.{Call}
use Rattle.calls.specs.declared.call.Call.TheVariants as call
use Rattle.calls.specs.declared.fields.Fields.{Fields}
use Rattle.calls.specs.declared.shape.Shape.{Shape}
use Rattle.calls.specs.declared.shape.Shape.TheVariants.{NetworkVote, ConstructedVote, Certificate, Leader, Forward, Attempt, MissingVoters}
use Rattle.calls.specs.declared.shape.Used.{Used}
use Rattle.calls.specs.Calls.{call_number, subject_in, proposal_in, round_in, key_in, participant_in, signature_in}
use Rattle.calls.specs.Layout.{fields_in, layout}

-- the shape of a call's number with a kind's number, which only calls 1 to 3 have
abbrev pub shape_named : ℕ → ℕ → Option Shape
shape_named c k =
    if c == 1 then option_map NetworkVote (kind_named k)
    else (if c == 2 then option_map ConstructedVote (kind_named k)
    else (if c == 3 then option_map Certificate (kind_named k)
    else (if c == 4 then Some Leader
    else (if c == 5 then Some Forward
    else (if c == 6 then Some Attempt
    else (if c == 7 then Some MissingVoters else None))))))

-- notarize and finalize carry a proposal
abbrev pub carries : Kind → Bool
carries kind.Notarize = true
carries kind.Nullify = false
carries kind.Finalize = true

-- the fields that a record of each shape uses
abbrev pub used_by : Shape → Used
used_by (NetworkVote k) = record { kind = true; key = true; participant = true; round = true; proposal = carries k; signature = true }
used_by (ConstructedVote k) = record { kind = true; key = false; participant = true; round = true; proposal = carries k; signature = true }
used_by (Certificate k) = record { kind = true; key = false; participant = false; round = true; proposal = carries k; signature = false }
used_by Leader = record { kind = false; key = false; participant = true; round = false; proposal = false; signature = false }
used_by Forward = record { kind = false; key = false; participant = true; round = false; proposal = false; signature = false }
used_by Attempt = record { kind = false; key = false; participant = false; round = false; proposal = false; signature = false }
used_by MissingVoters = record { kind = false; key = false; participant = false; round = true; proposal = true; signature = false }

-- zero, unless it is used
abbrev pub blank : Bool → ℕ → Bool
blank used n = used || n == 0

abbrev pub zero_words : Words → Bool
zero_words w = w.w1 == 0 && (w.w2 == 0 && (w.w3 == 0 && w.w4 == 0))

-- bytes 1 to 23
abbrev pub clear_in_front : Used → Fields → Bool
clear_in_front u f =
    blank u.kind f.kind && (f.gap == 0 && (blank u.key f.key && (blank u.participant f.participant && f.space == 0)))

-- bytes 24 to 87
abbrev pub clear_behind : Used → Fields → Bool
clear_behind u f =
    blank u.round f.round.epoch && (blank u.round f.round.view && (blank u.proposal f.parent
    && ((u.proposal || zero_words f.words) && blank u.signature f.signature)))

-- every byte that is not used is zero
abbrev pub clear : Used → Fields → Bool
clear u f = clear_in_front u f && clear_behind u f

-- the value mapped, where there is one
abbrev pub map_ok : {A B : Type 0} → (A → B) → Result A Refusal → Result B Refusal
map_ok F r = result_map_both F (λ e. e) r

module _ {P : Type 0} (named : Words → Option P) where
  -- the proposal that the fields hold
  abbrev pub proposal_from : Fields → Result (Proposal P) Refusal
  proposal_from f = ok_or (option_map (λ p. record { round = f.round; parent = f.parent; payload = p }) (named f.words)) NotPayload

  -- the subject of a kind that the fields hold
  abbrev pub subject_from : Kind → Fields → Result (Subject P) Refusal
  subject_from kind.Notarize f = map_ok subject.Notarize (proposal_from f)
  subject_from kind.Nullify f = Ok (subject.Nullify f.round)
  subject_from kind.Finalize f = map_ok subject.Finalize (proposal_from f)

  -- the vote of a kind that the fields hold
  abbrev pub vote_from : Kind → Fields → Result (Vote P) Refusal
  vote_from k f =
      map_ok (λ s. record { subject = s; attestation = record { signer = f.participant; signature = f.signature } }) (subject_from k f)

  -- the call of a shape that the fields hold
  abbrev pub call_from : Shape → Fields → Result (Call P) Refusal
  call_from (NetworkVote k) f = map_ok (λ v. call.NetworkVote f.key v) (vote_from k f)
  call_from (ConstructedVote k) f = map_ok call.ConstructedVote (vote_from k f)
  call_from (Certificate k) f = map_ok call.Certificate (subject_from k f)
  call_from Leader f = Ok (call.Leader f.participant)
  call_from Forward f = Ok (call.Forward f.participant)
  call_from Attempt f = Ok call.Attempt
  call_from MissingVoters f = map_ok call.MissingVoters (proposal_from f)

  -- what fields of a known shape read as: unused bytes are looked at before the payload
  abbrev pub read_shape : Option Shape → Fields → Result (Call P) Refusal
  read_shape None f = Err UnknownCall
  read_shape (Some s) f = if clear (used_by s) f then call_from s f else Err UnusedByte

  -- what fields read as
  abbrev pub read_fields : Fields → Result (Call P) Refusal
  read_fields f = read_shape (shape_named f.call f.kind) f

  -- what bytes read as
  abbrev pub read_of : List ℕ → Result (Call P) Refusal
  read_of b = if nat_lt (length b) 88 then Err ShortRecord else read_fields (fields_in b)

module _ {P : Type 0} (words : P → Words) where
  -- the fields that a call is written as: zero where it has nothing to say
  abbrev pub fields_of : Call P → Fields
  fields_of c =
      record {
        call = call_number c;
        kind = option_map_or (λ s. kind_number (kind_of s)) (subject_in c) 0;
        gap = 0;
        key = key_in c;
        participant = participant_in c;
        space = 0;
        round = round_in c;
        parent = option_map_or (λ p. p.parent) (proposal_in c) 0;
        words = option_map_or (λ p. words p.payload) (proposal_in c) no_words;
        signature = signature_in c;
      }

  -- the 88 bytes that a call is written as
  abbrev pub written_of : Call P → List ℕ
  written_of c = layout (fields_of c)
