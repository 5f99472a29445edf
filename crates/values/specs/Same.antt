-- Tests of equality, part by part; a payload is told by its words. Assumes nothing.
use Rattle.std.specs.Prelude.{Bool, false, ◌&&◌, ◌==◌}
use Rattle.values.specs.declared.payload.Words.{Words}
use Rattle.values.specs.declared.types.Rnd.{Rnd}
use Rattle.values.specs.declared.types.Proposal.{Proposal}
use Rattle.values.specs.declared.types.Subject.{Subject}
use Rattle.values.specs.declared.types.Subject.TheVariants.{Notarize, Nullify, Finalize}
use Rattle.values.specs.declared.types.Attestation.{Attestation}
use Rattle.values.specs.declared.types.Vote.{Vote}

abbrev pub same_round : Rnd → Rnd → Bool
same_round a b = a.epoch == b.epoch && a.view == b.view

abbrev pub same_words : Words → Words → Bool
same_words a b = a.w1 == b.w1 && (a.w2 == b.w2 && (a.w3 == b.w3 && a.w4 == b.w4))

abbrev pub same_attestation : Attestation → Attestation → Bool
same_attestation a b = a.signer == b.signer && a.signature == b.signature

module _ {P : Type 0} (words : P → Words) where
  abbrev pub same_proposal : Proposal P → Proposal P → Bool
  same_proposal a b = same_round a.round b.round && (a.parent == b.parent && same_words (words a.payload) (words b.payload))

  abbrev pub same_subject : Subject P → Subject P → Bool
  same_subject (Notarize p) (Notarize q) = same_proposal p q
  same_subject (Notarize p) (Nullify s) = false
  same_subject (Notarize p) (Finalize q) = false
  same_subject (Nullify r) (Notarize q) = false
  same_subject (Nullify r) (Nullify s) = same_round r s
  same_subject (Nullify r) (Finalize q) = false
  same_subject (Finalize p) (Notarize q) = false
  same_subject (Finalize p) (Nullify s) = false
  same_subject (Finalize p) (Finalize q) = same_proposal p q

  abbrev pub same_vote : Vote P → Vote P → Bool
  same_vote a b = same_subject a.subject b.subject && same_attestation a.attestation b.attestation
