-- The kinds of votes: their numbers, and what a subject is about. Assumes nothing.
use Rattle.std.specs.Prelude.{ℕ, cond, ◌==◌, Some, None, Option}
use Rattle.values.specs.declared.types.Kind.{Kind}
use Rattle.values.specs.declared.types.Kind.TheVariants as kind
use Rattle.values.specs.declared.types.Rnd.{Rnd}
use Rattle.values.specs.declared.types.Proposal.{Proposal}
use Rattle.values.specs.declared.types.Subject.{Subject}
use Rattle.values.specs.declared.types.Subject.TheVariants.{Notarize, Nullify, Finalize}

abbrev pub kind_number : Kind → ℕ
kind_number kind.Notarize = 1
kind_number kind.Nullify = 2
kind_number kind.Finalize = 3

-- the kind that a number names
abbrev pub kind_named : ℕ → Option Kind
kind_named n =
    cond (n == kind_number kind.Notarize) (Some kind.Notarize)
    (cond (n == kind_number kind.Nullify) (Some kind.Nullify)
    (cond (n == kind_number kind.Finalize) (Some kind.Finalize) None))

abbrev pub kind_of : {P : Type 0} → Subject P → Kind
kind_of (Notarize p) = kind.Notarize
kind_of (Nullify r) = kind.Nullify
kind_of (Finalize p) = kind.Finalize

abbrev pub round_of : {P : Type 0} → Subject P → Rnd
round_of (Notarize p) = p.round
round_of (Nullify r) = r
round_of (Finalize p) = p.round

-- the proposal that a subject carries
abbrev pub proposal_of : {P : Type 0} → Subject P → Option (Proposal P)
proposal_of (Notarize p) = Some p
proposal_of (Nullify r) = None
proposal_of (Finalize p) = Some p
