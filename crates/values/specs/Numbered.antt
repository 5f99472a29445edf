-- The numbers that users see of refusals, causes and activities. Assumes nothing.
use Rattle.std.specs.Prelude.{ℕ}
use Rattle.values.specs.declared.types.Kind.TheVariants as kind
use Rattle.values.specs.declared.refusal.Refusal.{Refusal}
use Rattle.values.specs.declared.refusal.Refusal.TheVariants.{DirectorySize, DirectoryOrder, WrongSize, OtherRound, UnknownSigner, AlreadyVoted, ReleasedConflict, OtherLeader, NotAssembled, ShortRecord, UnknownCall, UnusedByte, NotPayload}
use Rattle.values.specs.declared.cause.Cause.{Cause}
use Rattle.values.specs.declared.cause.Cause.TheVariants.{UnknownParticipant, SignerMismatch, Conflict, InvalidSignature, NullifyAfterFinalize, FinalizeAfterNullify}
use Rattle.values.specs.declared.activity.Activity.{Activity}
use Rattle.values.specs.declared.activity.Activity.TheVariants.{Notarize, Nullify, Finalize, ConflictingNotarize, ConflictingFinalize, NullifyFinalize}

abbrev pub refusal_number : Refusal → ℕ
refusal_number DirectorySize = 1
refusal_number DirectoryOrder = 2
refusal_number WrongSize = 3
refusal_number OtherRound = 4
refusal_number UnknownSigner = 5
refusal_number AlreadyVoted = 6
refusal_number ReleasedConflict = 7
refusal_number OtherLeader = 8
refusal_number NotAssembled = 9
refusal_number ShortRecord = 10
refusal_number UnknownCall = 11
refusal_number UnusedByte = 12
refusal_number NotPayload = 13

abbrev pub cause_number : Cause → ℕ
cause_number UnknownParticipant = 1
cause_number (SignerMismatch kind.Notarize) = 2
cause_number (Conflict kind.Notarize) = 3
cause_number InvalidSignature = 4
cause_number (SignerMismatch kind.Nullify) = 5
cause_number NullifyAfterFinalize = 6
cause_number (Conflict kind.Nullify) = 7
cause_number (SignerMismatch kind.Finalize) = 8
cause_number FinalizeAfterNullify = 9
cause_number (Conflict kind.Finalize) = 10

abbrev pub activity_number : Activity → ℕ
activity_number Notarize = 1
activity_number Nullify = 4
activity_number Finalize = 6
activity_number ConflictingNotarize = 8
activity_number ConflictingFinalize = 9
activity_number NullifyFinalize = 10
