-- What a slate's folds are, by the list that it holds.
use Rattle.std.proofs.Common.{◌≡◌, ℕ, zero, suc, ◌+◌, ◌*◌, ◌%◌, ◌^◌, ◌<◌, ◌≤◌, Bool, true, false, List, length, sym, refl, ap, ◌∙◌, inl, inr, arith, length-take, nat_le}
use Rattle.std.specs.Option.{is_some, unwrap_or}
use Rattle.std.proofs.lemmas.Bool.{cases_Bool, cases_eq, and_parts}
use Rattle.std.proofs.lemmas.Nat.{one_shl}
use Rattle.std.specs.Int.Bits.{or_shifted_r}
use lib.Bits.{bit_or}
use Rattle.directory.specs.Directories.{keys_of, quorum}
use Rattle.directory.specs.declared.directory.Directory.{Directory}
use Rattle.tags.specs.Numbers.{prime}
use Rattle.scheme.specs.Meaning.{signed_by, different, quorate}
use Rattle.values.specs.declared.types.Attestation.{Attestation}
use Rattle.bench.specs.declared.masked.Masked.{Masked}
use Rattle.bench.specs.declared.slate.Slate.{Slate}
use Rattle.bench.specs.Sealed.{fold_up_to, mask_of, sum_of, signature_of, sealed_by, Seal}
use Rattle.bench.specs.Slates.{Holds, seen_of, signatures_of}
use Rattle.bench.specs.Picks.{fold_same, mask_below}
use Rattle.bench.specs.Signers.{signed_is, signed_below}

-- where none from n on is picked
pub fold_past : (f : ℕ → ℕ → ℕ) (n m : ℕ) (p : ℕ → Bool) (v : ℕ → ℕ) → n ≤ m → ((i : ℕ) → n ≤ i → p i ≡ false) → fold_up_to f m p v ≡ fold_up_to f n p v
fold_past f zero zero p v h k = refl
fold_past f (suc n) zero p v h k = absurd (omega arith)
fold_past f n (suc m) p v h k =
    elim (cases_eq n (suc m)) [
      | inl e ↦ ap (λ x. fold_up_to f x p v) (sym e)
      | inr d ↦
          let q = k m (omega arith) in
          let r = fold_past f n m p v (omega arith) k in
          grind arith
    ]

-- a sum that is kept modulo the prime
pub sum_mod : (n : ℕ) (p : ℕ → Bool) (v : ℕ → ℕ) → fold_up_to (λ a x. (a + x) % prime) n p v ≡ sum_of n p v % prime
sum_mod zero p v = refl
sum_mod (suc n) p v =
    let r = sum_mod n p v in
    elim (cases_Bool (p n)) [
      | inl t ↦ rw t (omega arith)
      | inr t ↦ rw t r
    ]

-- a mask that is made of bits
pub mask_or : (n : ℕ) (p : ℕ → Bool) → n ≤ 64 → fold_up_to bit_or n p (λ i. 1 * 2 ^ i % 2 ^ 64) ≡ mask_of n p
mask_or zero p h = refl
mask_or (suc n) p h =
    let r = mask_or n p (omega arith) in
    let s = one_shl n 64 (omega arith) in
    let o = or_shifted_r 1 n (mask_of n p) (mask_below n p) in
    let u : 2 ^ n ≡ 1 * 2 ^ n = omega arith in
    let w : 1 * 2 ^ n + mask_of n p ≡ mask_of n p + 2 ^ n = omega arith in
    elim (cases_Bool (p n)) [
      | inl t ↦ rw t (rw r (rw s (ap (bit_or (mask_of n p)) u ∙ o ∙ w)))
      | inr t ↦ rw t r
    ]

module _ (d : Directory) (l : List Attestation) (t : Slate) (q : quorate (length (keys_of d)) l ≡ true) (o : Holds t l) where
  -- the fold over all places is one over the participants who signed
  pub slate_fold : (f : ℕ → ℕ → ℕ) (v w : ℕ → ℕ) → ((i : ℕ) → i < 64 → v i ≡ w i)
      → fold_up_to f (length t.signatures) (seen_of t) v ≡ fold_up_to f (length (keys_of d)) (λ s. signed_by s l) w
  slate_fold f v w k =
      let e : different (length (keys_of d)) l ≡ true = (and_parts (nat_le (quorum (length (keys_of d))) (length l)) (different (length (keys_of d)) l) q).1 in
      let h : length (keys_of d) ≤ length t.signatures = omega (arith, length-take d.count d.keys, d.table, d.most, t.table) in
      fold_same f (length t.signatures) (seen_of t) (λ s. signed_by s l) v w
      (λ i j. ap is_some (o.place_is i (omega (arith, t.table))) ∙ sym (signed_is i l))
      (λ i j _. k i (omega (arith, t.table)))
      ∙ fold_past f (length (keys_of d)) (length t.signatures) (λ s. signed_by s l) w h (λ i j. elim (cases_Bool (signed_by i l)) [
        | inl z ↦ let b = signed_below (length (keys_of d)) i l e z in absurd (omega arith)
        | inr z ↦ z
      ])

  -- its certificate is that of the list
  pub certified : (seal : Seal) (f : ℕ → ℕ → ℕ) → ((n : ℕ) (p : ℕ → Bool) (v : ℕ → ℕ) → fold_up_to f n p v ≡ seal n p v) → (c : Masked)
      → c.mask ≡ mask_of (length t.signatures) (seen_of t)
      → c.seal ≡ fold_up_to f (length t.signatures) (seen_of t) (signatures_of t) → c ≡ sealed_by seal (keys_of d) l
  certified seal f e c a b =
      let x = a ∙ slate_fold (λ y z. y + z) (λ i. 2 ^ i) (λ i. 2 ^ i) (λ i k. refl) in
      let y = b ∙ slate_fold f (signatures_of t) (λ s. signature_of s l) (λ i k. ap (λ z. unwrap_or z 0) (o.place_is i k))
      ∙ e (length (keys_of d)) (λ s. signed_by s l) (λ s. signature_of s l) in
      λ i. record { mask = x i; seal = y i }
