-- Worked cases: keys 11, 22, 33 and 44; epoch 1, view 7; a proposal with parent 6 and digest 9, 0, 0, 0. Assumes nothing.
use Rattle.std.specs.Prelude.{◌≡◌, ℕ, true, false, List, [], ◌∷◌, map, Some, None, Option}
use Rattle.values.specs.Payloads.{digest_words}
use Rattle.values.specs.declared.payload.Digest.{Digest}
use Rattle.values.specs.declared.types.Attestation.{Attestation}
use Rattle.values.specs.declared.types.Proposal.{Proposal}
use Rattle.values.specs.declared.types.Rnd.{Rnd}
use Rattle.values.specs.declared.types.Subject.{Subject}
use Rattle.values.specs.declared.types.Subject.TheVariants.{Notarize, Nullify, Finalize}
use Rattle.tags.specs.Numbers.{number_of, tag_of, tagged}
use Rattle.bench.specs.Sealed.{valid_by, summed_seal, listed_answer, summed_optimistic}
use Rattle.bench.specs.declared.masked.Masked.{Masked}

abbrev pub four : List ℕ
four = 11 ∷ 22 ∷ 33 ∷ 44 ∷ []

abbrev pub view_seven : Rnd
view_seven = record { epoch = 1; view = 7 }

abbrev pub proposal_a : Proposal Digest
proposal_a = record { round = view_seven; parent = 6; payload = record { w1 = 9; w2 = 0; w3 = 0; w4 = 0 } }

-- the tag of key 11
abbrev pub tag_of_eleven : Subject Digest → ℕ
tag_of_eleven b = tag_of 11 (number_of digest_words b)

abbrev pub nullify : ℕ
nullify = number_of digest_words (Nullify view_seven)

abbrev pub by : ℕ → ℕ → Attestation
by s v = record { signer = s; signature = v }

abbrev pub certificate : ℕ → ℕ → Option Masked
certificate m s = Some (record { mask = m; seal = s })

-- the six orders of three attestations
abbrev pub orders : Attestation → Attestation → Attestation → List (List Attestation)
orders a b c =
    (a ∷ b ∷ c ∷ []) ∷ (a ∷ c ∷ b ∷ []) ∷ (b ∷ a ∷ c ∷ []) ∷ (b ∷ c ∷ a ∷ []) ∷ (c ∷ a ∷ b ∷ []) ∷ (c ∷ b ∷ a ∷ []) ∷ []

-- nullifies of 0, 1 and 2 whose sum is right, although the first two are not
abbrev pub shifted : List Attestation
shifted = by 0 617 ∷ by 1 1231 ∷ by 2 1848 ∷ []

pub record Worked : Type 0 where
  pub tags : map tag_of_eleven (Nullify view_seven ∷ Notarize proposal_a ∷ Finalize proposal_a ∷ []) ≡ 616 ∷ 2618 ∷ 2640 ∷ []
  pub listed_seals : map (λ l. listed_answer four nullify l) (orders (by 0 616) (by 1 1232) (by 2 1848)) ≡ map (λ _. certificate 7 632016) (orders (by 0 616) (by 1 1232) (by 2 1848))
  pub shifted_verdicts : map (λ a. tagged four nullify a) shifted ≡ false ∷ false ∷ true ∷ []
  pub shifted_listed : listed_answer four nullify shifted ≡ None
  pub shifted_summed : summed_optimistic four nullify shifted ≡ certificate 7 3696
  pub shifted_valid : valid_by summed_seal four nullify (record { mask = 7; seal = 3696 }) ≡ true
