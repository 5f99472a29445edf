-- What a slate holds. Assumes nothing.
use Rattle.std.specs.Prelude.{◌≡◌, ℕ, ◌<◌, Bool, List, None, slice_index_or}
use Rattle.std.specs.Option.{is_some, unwrap_or}
use Rattle.values.specs.declared.types.Attestation.{Attestation}
use Rattle.bench.specs.Sealed.{signature_by}
use Rattle.bench.specs.declared.slate.Slate.{Slate}

-- the attestations of l by signer: what each participant signed, if it did
pub record Holds (t : Slate) (l : List Attestation) : Type 0 where
  pub place_is : (s : ℕ) → s < 64 → slice_index_or t.signatures s None ≡ signature_by s l

abbrev pub seen_of : Slate → ℕ → Bool
seen_of t s = is_some (slice_index_or t.signatures s None)

abbrev pub signatures_of : Slate → ℕ → ℕ
signatures_of t s = unwrap_or (slice_index_or t.signatures s None) 0
