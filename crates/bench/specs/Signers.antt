-- Lemmas for the proofs of the laws, no definitions: who signed a list of attestations, and how many.
use Rattle.std.specs.Prelude.{◌≡◌, ℕ, ◌<◌, true, not, ◌&&◌, List, [], ◌∷◌, length, nat_lt}
use Rattle.std.specs.Option.{is_some}
use Rattle.std.proofs.Common.{◌∙◌, refl, arith}
use Rattle.std.proofs.lemmas.Bool.{and_parts, not-true, ltb-true}
use Rattle.std.proofs.lemmas.Bool.Decides.{nat_tests}
use Rattle.scheme.specs.Meaning.{signed_by, different}
use Rattle.bench.specs.Sealed.{signature_by, count_of}
use Rattle.values.specs.declared.types.Attestation.{Attestation}
use Rattle.bench.specs.Picks.{count_none, count_add}

pub signed_is : (s : ℕ) (l : List Attestation) → signed_by s l ≡ is_some (signature_by s l)
signed_is s [] = refl
signed_is s (a ∷ l) =
    let r = signed_is s l in
    grind arith

pub signed_below : (n s : ℕ) (l : List Attestation) → different n l ≡ true → signed_by s l ≡ true → s < n
signed_below n s [] d h = absurd (grind arith)
signed_below n s (a ∷ l) d h =
    let r = signed_below n s l in
    grind (arith, nat_tests)

pub different_count : (n : ℕ) (l : List Attestation) → different n l ≡ true → count_of n (λ s. signed_by s l) ≡ length l
different_count n [] d = count_none n
different_count n (a ∷ l) d =
    let p = and_parts (nat_lt a.signer n && not (signed_by a.signer l)) (different n l) d in
    let q = and_parts (nat_lt a.signer n) (not (signed_by a.signer l)) p.0 in
    let r = different_count n l p.1 in
    count_add n a.signer (λ s. signed_by s l) (ltb-true a.signer n q.0) (not-true (signed_by a.signer l) q.1) ∙ omega arith
