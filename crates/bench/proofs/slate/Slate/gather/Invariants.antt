use Rattle.std.proofs.Common.{◌≡◌, ℕ, ◌<◌, ◌&&◌, None, length, drop, slice_index_or}
use Rattle.std.specs.List.{list_all}
use Rattle.std.specs.Option.{is_none, option_or}
use Rattle.scheme.specs.Meaning.{different}
use Rattle.bench.specs.Sealed.{signature_by}
use Rattle.bench.proofs.slate.Slate.gather.Given as goal

-- the attestations that are left are by different participants whose places are free, if all are by different ones;
-- and each signature is in its place, or left
abbrev pub invariant-loop-attestation : goal.invariant-loop-attestation
invariant-loop-attestation l =
    record {
      places : length l.signatures ≡ 64;
      rest : different l.n l.attestations ≡ (different l.n (drop l.attestation-index l.attestations)
          && list_all (λ a. is_none (slice_index_or l.signatures a.signer None)) (drop l.attestation-index l.attestations));
      place_is : (s : ℕ) → s < 64 → signature_by s l.attestations
          ≡ option_or (slice_index_or l.signatures s None) (signature_by s (drop l.attestation-index l.attestations));
    }
