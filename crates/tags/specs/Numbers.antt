-- A subject's number, the tag that a key gives it, and which attestations carry their signer's tag. Assumes nothing.
use Rattle.std.specs.Prelude.{ℕ, ◌+◌, ◌*◌, ◌%◌, Bool, cond, ◌&&◌, List, length, Some, None, Option, ◌==◌, nat_lt, slice_index}
use Rattle.values.specs.Kinds.{kind_number}
use Rattle.values.specs.Payloads.{no_words}
use Rattle.values.specs.declared.payload.Words.{Words}
use Rattle.values.specs.declared.types.Attestation.{Attestation}
use Rattle.values.specs.declared.types.Kind.{Kind}
use Rattle.values.specs.declared.types.Kind.TheVariants as kind
use Rattle.values.specs.declared.types.Rnd.{Rnd}
use Rattle.values.specs.declared.types.Subject.{Subject}
use Rattle.values.specs.declared.types.Subject.TheVariants.{Notarize, Nullify, Finalize}

abbrev pub prime : ℕ
prime = 2147483647

-- the number of a subject by its parts
abbrev pub mixed : Kind → Rnd → ℕ → Words → ℕ
mixed k r parent w =
    (kind_number k + 5 * r.epoch + 7 * r.view + 11 * parent + 13 * w.w1 + 17 * w.w2 + 19 * w.w3 + 23 * w.w4) % prime

-- a nullify has no parent and no words
abbrev pub number_of : {P : Type 0} → (P → Words) → Subject P → ℕ
number_of words (Notarize p) = mixed kind.Notarize p.round p.parent (words p.payload)
number_of words (Nullify r) = mixed kind.Nullify r 0 no_words
number_of words (Finalize p) = mixed kind.Finalize p.round p.parent (words p.payload)

-- the tag that a key gives a number
abbrev pub tag_of : ℕ → ℕ → ℕ
tag_of key number = key * number % prime

-- a participant's tag for a subject's number
abbrev pub tag_at : List ℕ → ℕ → ℕ → ℕ
tag_at keys number i = tag_of (slice_index keys i) number

-- signed by a participant, with its tag
abbrev pub tagged : List ℕ → ℕ → Attestation → Bool
tagged keys number a = nat_lt a.signer (length keys) && a.signature == tag_at keys number a.signer

-- the attestation of participant i, if there is one, with its tag
abbrev pub signed_of : List ℕ → ℕ → ℕ → Option Attestation
signed_of keys number i = cond (nat_lt i (length keys)) (Some (record { signer = i; signature = tag_at keys number i })) None
