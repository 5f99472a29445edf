-- Lemmas for the proofs of the laws, no definitions: folds over the participants below n that a test picks; the mask
-- of such a test, and its bits.
use Rattle.std.specs.Prelude.{◌≡◌, ℕ, zero, suc, ◌+◌, ◌-◌, ◌*◌, ◌^◌, ◌<◌, Bool, true, false, ◌||◌, ◌==◌, refl}
use Rattle.std.specs.Int.{bit_at}
use Rattle.std.proofs.Common.{sym, ◌∙◌, ap, inl, inr, arith, pow-suc}
use Rattle.std.proofs.lemmas.Bool.{cases_Bool, cases_eq, ne_eqb}
use Rattle.std.proofs.lemmas.Bool.Decides.{nat_tests}
use Rattle.std.proofs.lemmas.Nat.Bits.{bit_at_above, bit_at_cat_low, bit_at_cat_high}
use Rattle.scheme.specs.Layers.{bit}
use Rattle.bench.specs.Sealed.{fold_up_to, mask_of, count_of}

pub fold_same : (f : ℕ → ℕ → ℕ) (n : ℕ) (p q : ℕ → Bool) (v w : ℕ → ℕ) → ((i : ℕ) → i < n → p i ≡ q i) → ((i : ℕ) → i < n → q i ≡ true → v i ≡ w i)
    → fold_up_to f n p v ≡ fold_up_to f n q w
fold_same f zero p q v w a b = refl
fold_same f (suc n) p q v w a b =
    let e : fold_up_to f n p v ≡ fold_up_to f n q w = fold_same f n p q v w (λ i h. a i (omega arith)) (λ i h t. b i (omega arith) t) in
    let h : p n ≡ q n = a n (omega arith) in
    let k = b n (omega arith) in
    grind arith

pub mask_below : (n : ℕ) (p : ℕ → Bool) → mask_of n p < 2 ^ n
mask_below zero p = omega arith
mask_below (suc n) p =
    let h : mask_of n p < 2 ^ n = mask_below n p in
    let k = pow-suc 2 n in
    elim (cases_Bool (p n)) [
      | inl t ↦ rw t (omega arith)
      | inr t ↦ rw t (omega arith)
    ]

-- a bit of m + 2 ^ n
bit_low : (m n i : ℕ) → i < n → bit_at (m + 2 ^ n) i ≡ bit_at m i
bit_low m n i h =
    let e : m + 2 ^ n ≡ 1 * 2 ^ n + m = omega arith in
    rw e (bit_at_cat_low 1 n m i h)

bit_high : (m n : ℕ) → m < 2 ^ n → bit_at (m + 2 ^ n) n ≡ 1
bit_high m n h =
    let e : m + 2 ^ n ≡ 1 * 2 ^ n + m = omega arith in
    let z : n - n ≡ 0 = omega arith in
    rw e (bit_at_cat_high 1 n m n h (omega arith) ∙ ap (bit_at 1) z)

pub bit_mask : (n : ℕ) (p : ℕ → Bool) (i : ℕ) → i < n → bit (mask_of n p) i ≡ p i
bit_mask zero p i h = absurd (omega arith)
bit_mask (suc n) p i h =
    let m : ℕ = mask_of n p in
    let b : mask_of n p < 2 ^ n = mask_below n p in
    let low = bit_low (mask_of n p) n i in
    let high = bit_high (mask_of n p) n b in
    let above = bit_at_above (mask_of n p) n n b (omega arith) in
    let r = bit_mask n p i in
    elim (cases_eq i n) [
      | inl e ↦ grind (arith, nat_tests)
      | inr d ↦ let k : i < n = omega arith in grind (arith, nat_tests)
    ]

pub count_none : (n : ℕ) → count_of n (λ s. false) ≡ 0
count_none zero = refl
count_none (suc n) = count_none n

pub count_add : (n x : ℕ) (p : ℕ → Bool) → x < n → p x ≡ false → count_of n (λ s. (x == s) || p s) ≡ count_of n p + 1
count_add zero x p h e = absurd (omega arith)
count_add (suc n) x p h e =
    let r = count_add n x p in
    elim (cases_eq x n) [
      | inl d ↦
          let u : p n ≡ false = ap p (sym d) ∙ e in
          let s = fold_same (λ a y. a + y) n (λ s. (x == s) || p s) p (λ i. 1) (λ i. 1)
          (λ i l. ap (λ y. y || p i) (ne_eqb x i (λ f. omega arith))) (λ i l t. refl) in
          grind (arith, nat_tests)
      | inr d ↦ grind (arith, nat_tests)
    ]
