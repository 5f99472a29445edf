use Rattle.std.proofs.Common.{◌≡◌, ℕ, zero, suc, slice_index_or, ◌+◌, ◌<◌, ◌≤◌, Bool, true, false, not, ◌&&◌, List, [], ◌∷◌, Option, None, Some, length, drop, set, get_or, replicate, refl, sym, ap, ◌∙◌, inl, inr, arith, get_or-set_same, get_or-set_other, length-set}
use Rattle.std.specs.List.{list_all}
use Rattle.std.specs.Option.{is_none, is_some, option_or}
use Rattle.std.proofs.lemmas.Bool.{cases_Bool, cases_eq, cases_lt}
use Rattle.std.proofs.lemmas.Bool.Decides.{nat_tests}
use Rattle.std.proofs.lemmas.List.{drop_more, drop_all, get_or_past}
use Rattle.std.proofs.lemmas.List.Sums.{list_all-from_AllPass}
use Rattle.scheme.specs.Meaning.{signed_by, different}
use Rattle.values.specs.declared.types.Attestation.{Attestation}
use Rattle.bench.specs.Sealed.{signature_by}
use Rattle.bench.specs.Signers.{signed_is, signed_below}
use Rattle.bench.proofs.slate.Slate.gather.Goals as goal

-- the place of an attestation's signer is free
abbrev free : List (Option ℕ) → Attestation → Bool
free u a = is_none (get_or u a.signer None)

none_at : (m s : ℕ) → get_or {A = Option ℕ} (replicate m None) s None ≡ None
none_at zero s = refl
none_at (suc m) zero = refl
none_at (suc m) (suc s) = none_at m s

-- all places are free
free_start : (n m : ℕ) (l : List Attestation) → different n l ≡ (different n l && list_all (free (replicate m None)) l)
free_start n m l =
    let e = list_all-from_AllPass (free (replicate m None)) l (λ k d h. ap is_none (none_at m (get_or l k d).signer)) in
    grind arith

free_set : (u : List (Option ℕ)) (s x : ℕ) (r : List Attestation) → s < length u → list_all (free (set u s (Some x))) r ≡ (not (signed_by s r) && list_all (free u) r)
free_set u s x [] h = refl
free_set u s x (a ∷ r) h =
    let e = free_set u s x r h in
    let same = get_or-set_same u s (Some x) None h in
    let other = get_or-set_other u s a.signer (Some x) None in
    elim (cases_eq a.signer s) [
      | inl d ↦ grind (arith, nat_tests)
      | inr d ↦ grind (arith, nat_tests)
    ]

-- one more place is taken
free_more : (n : ℕ) (u : List (Option ℕ)) (a : Attestation) (r : List Attestation) → a.signer < n → a.signer < length u → get_or u a.signer None ≡ None
    → (different n (a ∷ r) && list_all (free u) (a ∷ r)) ≡ (different n r && list_all (free (set u a.signer (Some a.signature))) r)
free_more n u a r h k e =
    let s = free_set u a.signer a.signature r k in
    grind (arith, nat_tests)

place_more : (u : List (Option ℕ)) (a : Attestation) (r : List Attestation) (s : ℕ) → a.signer < length u → get_or u a.signer None ≡ None
    → option_or (get_or u s None) (signature_by s (a ∷ r)) ≡ option_or (get_or (set u a.signer (Some a.signature)) s None) (signature_by s r)
place_more u a r s k e =
    let same = get_or-set_same u a.signer (Some a.signature) None k in
    let other = get_or-set_other u a.signer s (Some a.signature) None in
    elim (cases_eq s a.signer) [
      | inl d ↦ grind (arith, nat_tests)
      | inr d ↦ grind (arith, nat_tests)
    ]

pub loop-attestation-init : goal.loop-attestation-init
loop-attestation-init c =
    record {
      places = refl;
      rest = free_start c.size-n.result 64 c.args.attestations.now;
      place_is = λ s h. ap (λ o. option_or o (signature_by s c.args.attestations.now)) (sym (none_at 64 s));
    }

taken_not : (o : Option ℕ) → false ≡ is_some o → o ≡ None
taken_not None e = refl
taken_not (Some x) e = absurd (grind arith)

pub loop-attestation-preserved : goal.loop-attestation-preserved
loop-attestation-preserved c =
    let l = c.args.attestations.now in
    let i = c.loop-attestation.attestation-index in
    let u = c.loop-attestation.signatures in
    let a = get_or l i (record { signer = 0; signature = 0 }) in
    let r = drop (i + 1) l in
    let e : drop i l ≡ a ∷ r = drop_more l i (record { signer = 0; signature = 0 }) c.loop-attestation-test.true in
    let k : a.signer < length u = omega (arith, c.loop-attestation.invariant.places, c.size-n.ensures.most, c.if-attestation-n.false) in
    let z = taken_not (get_or u a.signer None) c.if-is_some.ensures in
    record {
      places = length-set u a.signer (Some a.signature) ∙ c.loop-attestation.invariant.places;
      rest = c.loop-attestation.invariant.rest
          ∙ ap (λ w. different c.size-n.result w && list_all (free u) w) e
          ∙ free_more c.size-n.result u a r c.if-attestation-n.false k z;
      place_is = λ s h. c.loop-attestation.invariant.place_is s h
          ∙ ap (λ w. option_or (get_or u s None) (signature_by s w)) e
          ∙ place_more u a r s k z;
    }

-- no place behind the participants' is taken, as no signer is behind them
free_behind : (n s : ℕ) (l : List Attestation) → different n l ≡ true → n ≤ s → signature_by s l ≡ None
free_behind n s l d h =
    elim (cases_Bool (is_some (signature_by s l))) [
      | inl t ↦ let b = signed_below n s l d (signed_is s l ∙ t) in absurd (omega arith)
      | inr e ↦ taken_not (signature_by s l) (sym e)
    ]

or_none : (o : Option ℕ) → option_or o None ≡ o
or_none None = refl
or_none (Some x) = refl

pub invariant_of-result : goal.invariant_of-result
invariant_of-result c =
    let l = c.args.attestations.now in
    let u = c.loop-attestation.signatures in
    let v = c.loop-attestation.invariant in
    let e : drop c.loop-attestation.attestation-index l ≡ [] = drop_all c.loop-attestation.attestation-index l c.loop-attestation-test.false in
    let d : different c.size-n.result l ≡ true =
    v.rest ∙ ap (λ r. different c.size-n.result r && list_all (λ a. is_none (slice_index_or u a.signer None)) r) e in
    record {
      table = v.places;
      most = c.size-n.ensures.most;
      free = λ i h. elim (cases_lt i 64) [
        | inl b ↦ sym (or_none (get_or u i None))
            ∙ ap (λ r. option_or (get_or u i None) (signature_by i r)) (sym e)
            ∙ sym (v.place_is i b)
            ∙ free_behind c.size-n.result i l d h
        | inr b ↦ get_or_past u i None (omega (arith, v.places))
      ];
    }
