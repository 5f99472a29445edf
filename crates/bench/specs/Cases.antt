-- Theorems, no definitions: lists of attestations that grow by one, folds that take one more, and what the two
-- schemes answer, case by case.
use Rattle.std.specs.Prelude.{◌≡◌, ℕ, ◌+◌, ◌%◌, ◌^◌, ◌<◌, ◌≤◌, Bool, true, false, cond, not, ◌&&◌, ◌||◌, List, [], ◌∷◌, ◌++◌, length, take, drop, IsSomeAnd, IfSome, Some, None, ◌==◌, ◌≢◌, nat_le, nat_lt, slice_index_or, slice_set, refl}
use Rattle.std.specs.Option.{is_some, unwrap_or}
use Rattle.std.proofs.Common.{sym, ◌∙◌, ap, subst, inl, inr, arith, add-one, get_or-set_same, get_or-set_other}
use Rattle.std.proofs.lemmas.Bool.{eq-eqb, ne_eqb, eqb-true, eqb-false, cond-true, cond-false, cases_Bool, cases_eq, and_parts, and_from, and_left, and_right, or_left, or_right, or_parts, or_cases, or_from, not_from_true, lt-ltb, le-ltb, le-leb, both_ways}
use Rattle.std.proofs.lemmas.List.{drop_more, take-append-drop, at_drop_more}
use Rattle.directory.specs.Directories.{quorum}
use Rattle.scheme.specs.Meaning.{signed_by, different, quorate, every}
use Rattle.tags.specs.Numbers.{tag_at, tagged, prime}
use Rattle.values.specs.declared.types.Attestation.{Attestation}
use Rattle.bench.specs.Sealed.{signature_by, signature_of, fold_up_to, sum_of, mask_of, valid_by, sealed_by, listed_seal, summed_seal, listed_answer, summed_answer, summed_optimistic, Seal}
use Rattle.bench.specs.Slates.{Holds, seen_of, signatures_of}
use Rattle.bench.specs.declared.masked.Masked.{Masked}
use Rattle.bench.specs.declared.slate.Slate.{Slate}
use Rattle.bench.specs.Picks.{fold_same}
use Rattle.bench.specs.Signers.{signed_is}
use Rattle.bench.specs.Sealings.{Picky, listed_picky, summed_picky, valid_is, sealed_valid}

pub signed_by_push_same : (s : ℕ) (l : List Attestation) (a : Attestation) → a.signer ≡ s → signed_by s (l ++ a ∷ []) ≡ true
signed_by_push_same s [] a e = or_left (a.signer == s) false (eq-eqb a.signer s e)
signed_by_push_same s (x ∷ l) a e = or_right (x.signer == s) (signed_by s (l ++ a ∷ [])) (signed_by_push_same s l a e)

pub signed_by_push_other : (s : ℕ) (l : List Attestation) (a : Attestation) → (a.signer ≢ s) → signed_by s (l ++ a ∷ []) ≡ signed_by s l
signed_by_push_other s [] a e = or_from (a.signer == s) false (ne_eqb a.signer s e) refl
signed_by_push_other s (x ∷ l) a e = ap (λ t. (x.signer == s) || t) (signed_by_push_other s l a e)

signed_by_in : (p q : List Attestation) (a : Attestation) (s : ℕ) → a.signer ≡ s → signed_by s (p ++ a ∷ q) ≡ true
signed_by_in [] q a s e = or_left (a.signer == s) (signed_by s q) (eq-eqb a.signer s e)
signed_by_in (x ∷ p) q a s e = or_right (x.signer == s) (signed_by s (p ++ a ∷ q)) (signed_by_in p q a s e)

pub different_push : (n : ℕ) (l : List Attestation) (a : Attestation) → different n l ≡ true → a.signer < n → signed_by a.signer l ≡ false → different n (l ++ a ∷ []) ≡ true
different_push n [] a d h m =
    and_from (nat_lt a.signer n && true) true (and_from (nat_lt a.signer n) true (lt-ltb a.signer n h) refl) refl
different_push n (x ∷ l) a d h m =
    let p = and_parts (nat_lt x.signer n && not (signed_by x.signer l)) (different n l) d in
    let q = and_parts (nat_lt x.signer n) (not (signed_by x.signer l)) p.0 in
    let o = or_parts (x.signer == a.signer) (signed_by a.signer l) m in
    let e : signed_by x.signer (l ++ a ∷ []) ≡ signed_by x.signer l = signed_by_push_other x.signer l a (λ e. eqb-false x.signer a.signer o.0 (sym e)) in
    and_from (nat_lt x.signer n && not (signed_by x.signer (l ++ a ∷ []))) (different n (l ++ a ∷ []))
    (and_from (nat_lt x.signer n) (not (signed_by x.signer (l ++ a ∷ []))) q.0 (ap not e ∙ q.1))
    (different_push n l a p.1 h o.1)

pub different_repeat : (n : ℕ) (p q : List Attestation) (a : Attestation) → signed_by a.signer p ≡ true → different n (p ++ a ∷ q) ≡ false
different_repeat n [] q a m = absurd (both_ways false refl m)
different_repeat n (x ∷ p) q a m =
    elim (or_cases (x.signer == a.signer) (signed_by a.signer p) m) [
      | inl e ↦
          let i : signed_by x.signer (p ++ a ∷ q) ≡ true = signed_by_in p q a x.signer (sym (eqb-true x.signer a.signer e)) in
          and_left (nat_lt x.signer n && not (signed_by x.signer (p ++ a ∷ q))) (different n (p ++ a ∷ q))
          (and_right (nat_lt x.signer n) (not (signed_by x.signer (p ++ a ∷ q))) (not_from_true (signed_by x.signer (p ++ a ∷ q)) i))
      | inr e ↦ and_right (nat_lt x.signer n && not (signed_by x.signer (p ++ a ∷ q))) (different n (p ++ a ∷ q)) (different_repeat n p q a e)
    ]

pub different_outside : (n : ℕ) (p q : List Attestation) (a : Attestation) → n ≤ a.signer → different n (p ++ a ∷ q) ≡ false
different_outside n [] q a h =
    and_left (nat_lt a.signer n && not (signed_by a.signer q)) (different n q) (and_left (nat_lt a.signer n) (not (signed_by a.signer q)) (le-ltb a.signer n h))
different_outside n (x ∷ p) q a h =
    and_right (nat_lt x.signer n && not (signed_by x.signer (p ++ a ∷ q))) (different n (p ++ a ∷ q)) (different_outside n p q a h)

pub split_at : (l : List Attestation) (i : ℕ) (d : Attestation) → i < length l → l ≡ take i l ++ slice_index_or l i d ∷ drop (i + 1) l
split_at l i d h = sym (take-append-drop i l) ∙ ap (λ r. take i l ++ r) (drop_more l i d h)

pub quorate_not : (n : ℕ) (l : List Attestation) → different n l ≡ false → quorate n l ≡ false
quorate_not n l h = and_right (nat_le (quorum n) (length l)) (different n l) h

pub quorate_from : (n : ℕ) (l : List Attestation) → quorum n ≤ length l → different n l ≡ true → quorate n l ≡ true
quorate_from n l h d = and_from (nat_le (quorum n) (length l)) (different n l) (le-leb (quorum n) (length l) h) d

pub every_on : (p : Attestation → Bool) (l : List Attestation) (i : ℕ) (d : Attestation) → i < length l → p (slice_index_or l i d) ≡ true → every p (drop i l) ≡ every p (drop (i + 1) l)
every_on p l i d h e = at_drop_more (every p) l i d h ∙ ap (λ t. t && every p (drop (i + 1) l)) e

pub every_not : (p : Attestation → Bool) (l : List Attestation) (i : ℕ) (d : Attestation) → i < length l → p (slice_index_or l i d) ≡ false → every p (drop i l) ≡ false
every_not p l i d h e = at_drop_more (every p) l i d h ∙ ap (λ t. t && every p (drop (i + 1) l)) e

place_push_same : (s : ℕ) (l : List Attestation) (a : Attestation) → a.signer ≡ s → signed_by s l ≡ false → signature_by s (l ++ a ∷ []) ≡ Some a.signature
place_push_same s [] a e h = let t = eq-eqb a.signer s e in grind arith
place_push_same s (x ∷ l) a e h = let r = place_push_same s l a e in grind arith

place_push_other : (s : ℕ) (l : List Attestation) (a : Attestation) → (a.signer ≢ s) → signature_by s (l ++ a ∷ []) ≡ signature_by s l
place_push_other s [] a e = let t = ne_eqb a.signer s e in grind arith
place_push_other s (x ∷ l) a e = let r = place_push_other s l a e in grind arith

pub signature_push_same : (s : ℕ) (l : List Attestation) (a : Attestation) → a.signer ≡ s → signed_by s l ≡ false → signature_of s (l ++ a ∷ []) ≡ a.signature
signature_push_same s l a e h = ap (λ o. unwrap_or o 0) (place_push_same s l a e h)

pub signature_push_other : (s : ℕ) (l : List Attestation) (a : Attestation) → (a.signer ≢ s) → signature_of s (l ++ a ∷ []) ≡ signature_of s l
signature_push_other s l a e = ap (λ o. unwrap_or o 0) (place_push_other s l a e)

-- a slate t, and u with one attestation more
pub holds_push : (t u : Slate) (l : List Attestation) (a : Attestation) → length t.signatures ≡ 64 → a.signer < 64 → signed_by a.signer l ≡ false
    → u.signatures ≡ slice_set t.signatures a.signer (Some a.signature) → Holds t l → Holds u (l ++ a ∷ [])
holds_push t u l a n h m e o =
    let k : a.signer < length t.signatures = omega arith in
    record {
      place_is = λ s b. ap (λ (v : List _). slice_index_or v s None) e ∙ elim (cases_eq s a.signer) [
        | inl d ↦ subst (λ z. slice_index_or (slice_set t.signatures a.signer (Some a.signature)) z None ≡ signature_by z (l ++ a ∷ [])) (sym d)
            (get_or-set_same t.signatures a.signer (Some a.signature) None k ∙ sym (place_push_same a.signer l a refl m))
        | inr d ↦ get_or-set_other t.signatures a.signer s (Some a.signature) None d ∙ o.place_is s b ∙ sym (place_push_other s l a (λ f. d (sym f)))
      ];
    }

pub fold_more_yes : (f : ℕ → ℕ → ℕ) (n : ℕ) (p : ℕ → Bool) (v : ℕ → ℕ) → p n ≡ true → fold_up_to f (n + 1) p v ≡ f (fold_up_to f n p v) (v n)
fold_more_yes f n p v h =
    ap (λ k. fold_up_to f k p v) (add-one n) ∙ cond-true (p n) (f (fold_up_to f n p v) (v n)) (fold_up_to f n p v) h

pub fold_more_no : (f : ℕ → ℕ → ℕ) (n : ℕ) (p : ℕ → Bool) (v : ℕ → ℕ) → p n ≡ false → fold_up_to f (n + 1) p v ≡ fold_up_to f n p v
fold_more_no f n p v h =
    ap (λ k. fold_up_to f k p v) (add-one n) ∙ cond-false (p n) (f (fold_up_to f n p v) (v n)) (fold_up_to f n p v) h

-- a sum that is kept modulo the prime
pub sum_more_yes : (n s x : ℕ) (p : ℕ → Bool) (v : ℕ → ℕ) → s ≡ sum_of n p v % prime → x % prime ≡ v n % prime → p n ≡ true → (s + x) % prime ≡ sum_of (n + 1) p v % prime
sum_more_yes n s x p v e k h =
    let m : sum_of (n + 1) p v ≡ sum_of n p v + v n = fold_more_yes (λ a y. a + y) n p v h in
    omega (arith, m)

pub sum_more_no : (n s : ℕ) (p : ℕ → Bool) (v : ℕ → ℕ) → s ≡ sum_of n p v % prime → p n ≡ false → s ≡ sum_of (n + 1) p v % prime
sum_more_no n s p v e h = e ∙ ap (λ y. y % prime) (sym (fold_more_no (λ a y. a + y) n p v h))

-- what a slate of n participants gives is what its list gives
module _ (seal : Seal) (picky : Picky seal) (keys : List ℕ) (l : List Attestation) (t : Slate) (n : ℕ) (e : n ≡ length keys) (h : n ≤ 64)
    (o : Holds t l) where
  pub seen_is : (i : ℕ) → i < n → seen_of t i ≡ signed_by i l
  seen_is i k = ap is_some (o.place_is i (omega arith)) ∙ sym (signed_is i l)

  pub signature_is : (i : ℕ) → i < n → signatures_of t i ≡ signature_of i l
  signature_is i k = ap (λ p. unwrap_or p 0) (o.place_is i (omega arith))

  pub slate_seal : (x : ℕ) → x ≡ seal n (seen_of t) (signatures_of t) → x ≡ seal (length keys) (λ s. signed_by s l) (λ s. signature_of s l)
  slate_seal x ex =
      ex
      ∙ picky n (seen_of t) (λ s. signed_by s l) (signatures_of t) (λ s. signature_of s l) seen_is (λ i k z. signature_is i k)
      ∙ ap (λ k. seal k (λ s. signed_by s l) (λ s. signature_of s l)) e

  pub slate_tags : (number y : ℕ) → y ≡ seal (length keys) (seen_of t) (tag_at keys number) → y ≡ seal (length keys) (λ s. signed_by s l) (tag_at keys number)
  slate_tags number y ey =
      ey
      ∙ ap (λ k. seal k (seen_of t) (tag_at keys number)) (sym e)
      ∙ picky n (seen_of t) (λ s. signed_by s l) (tag_at keys number) (tag_at keys number) seen_is (λ i k z. refl)
      ∙ ap (λ k. seal k (λ s. signed_by s l) (tag_at keys number)) e

  pub slate_sealed : (m x : ℕ) → m ≡ mask_of n (seen_of t) → x ≡ seal n (seen_of t) (signatures_of t) → Some (record { mask = m; seal = x }) ≡ Some (sealed_by seal keys l)
  slate_sealed m x em ex =
      let f : m ≡ mask_of (length keys) (λ s. signed_by s l) =
      em
      ∙ fold_same (λ y z. y + z) n (seen_of t) (λ s. signed_by s l) (λ i. 2 ^ i) (λ i. 2 ^ i) seen_is (λ i k z. refl)
      ∙ ap (λ k. mask_of k (λ s. signed_by s l)) e in
      let g = slate_seal x ex in
      let r : ◌≡◌ {A = Masked} (record { mask = m; seal = x }) (sealed_by seal keys l) = cc in
      ap (λ (c : Masked). Some c) r

-- the laws

pub listed_none : (keys : List ℕ) (number : ℕ) (l : List Attestation) → quorate (length keys) l ≡ false → listed_answer keys number l ≡ None
listed_none keys number l q =
    cond-false (quorate (length keys) l) (cond (every (tagged keys number) l) (Some (sealed_by listed_seal keys l)) None) None q

pub listed_some : (keys : List ℕ) (number : ℕ) (l : List Attestation) → quorate (length keys) l ≡ true → every (tagged keys number) l ≡ true → listed_answer keys number l ≡ Some (sealed_by listed_seal keys l)
listed_some keys number l q e =
    cond-true (quorate (length keys) l) (cond (every (tagged keys number) l) (Some (sealed_by listed_seal keys l)) None) None q
    ∙ cond-true (every (tagged keys number) l) (Some (sealed_by listed_seal keys l)) None e

pub listed_bad : (keys : List ℕ) (number : ℕ) (l : List Attestation) → every (tagged keys number) l ≡ false → listed_answer keys number l ≡ None
listed_bad keys number l e =
    elim (cases_Bool (quorate (length keys) l)) [
      | inl q ↦ cond-true (quorate (length keys) l) (cond (every (tagged keys number) l) (Some (sealed_by listed_seal keys l)) None) None q
          ∙ cond-false (every (tagged keys number) l) (Some (sealed_by listed_seal keys l)) None e
      | inr q ↦ listed_none keys number l q
    ]

listed_good : (keys : List ℕ) (number : ℕ) (l : List Attestation) → quorate (length keys) l ≡ true → every (tagged keys number) l ≡ true
    → IsSomeAnd (listed_answer keys number l) (λ c. valid_by listed_seal keys number c ≡ true)
listed_good keys number l q e =
    subst (λ o. IsSomeAnd o (λ c. valid_by listed_seal keys number c ≡ true)) (sym (listed_some keys number l q e)) (sealed_valid listed_seal listed_picky keys number l q e)

listed_valid : (keys : List ℕ) (number : ℕ) (l : List Attestation) → IfSome (listed_answer keys number l) (λ c. valid_by listed_seal keys number c ≡ true)
listed_valid keys number l =
    elim (cases_Bool (quorate (length keys) l)) [
      | inr q ↦ subst (λ o. IfSome o (λ c. valid_by listed_seal keys number c ≡ true)) (sym (listed_none keys number l q)) tt
      | inl q ↦ elim (cases_Bool (every (tagged keys number) l)) [
        | inl e ↦ subst (λ o. IfSome o (λ c. valid_by listed_seal keys number c ≡ true)) (sym (listed_some keys number l q e)) (sealed_valid listed_seal listed_picky keys number l q e)
        | inr e ↦ subst (λ o. IfSome o (λ c. valid_by listed_seal keys number c ≡ true)) (sym (listed_bad keys number l e)) tt
      ]
    ]

pub summed_none : (keys : List ℕ) (l : List Attestation) → quorate (length keys) l ≡ false → summed_answer keys l ≡ None
summed_none keys l q = cond-false (quorate (length keys) l) (Some (sealed_by summed_seal keys l)) None q

pub summed_some : (keys : List ℕ) (l : List Attestation) → quorate (length keys) l ≡ true → summed_answer keys l ≡ Some (sealed_by summed_seal keys l)
summed_some keys l q = cond-true (quorate (length keys) l) (Some (sealed_by summed_seal keys l)) None q

pub hoped_none : (keys : List ℕ) (number : ℕ) (l : List Attestation) → quorate (length keys) l ≡ false → summed_optimistic keys number l ≡ None
hoped_none keys number l q =
    cond-false (quorate (length keys) l) (cond (valid_by summed_seal keys number (sealed_by summed_seal keys l)) (Some (sealed_by summed_seal keys l)) None) None q

pub hoped_some : (keys : List ℕ) (number : ℕ) (l : List Attestation) → quorate (length keys) l ≡ true → valid_by summed_seal keys number (sealed_by summed_seal keys l) ≡ true
    → summed_optimistic keys number l ≡ Some (sealed_by summed_seal keys l)
hoped_some keys number l q e =
    cond-true (quorate (length keys) l) (cond (valid_by summed_seal keys number (sealed_by summed_seal keys l)) (Some (sealed_by summed_seal keys l)) None) None q
    ∙ cond-true (valid_by summed_seal keys number (sealed_by summed_seal keys l)) (Some (sealed_by summed_seal keys l)) None e

pub hoped_bad : (keys : List ℕ) (number : ℕ) (l : List Attestation) → quorate (length keys) l ≡ true → valid_by summed_seal keys number (sealed_by summed_seal keys l) ≡ false
    → summed_optimistic keys number l ≡ None
hoped_bad keys number l q e =
    cond-true (quorate (length keys) l) (cond (valid_by summed_seal keys number (sealed_by summed_seal keys l)) (Some (sealed_by summed_seal keys l)) None) None q
    ∙ cond-false (valid_by summed_seal keys number (sealed_by summed_seal keys l)) (Some (sealed_by summed_seal keys l)) None e

-- Summed's optimistic answer, by the sum x of the signatures and the sum y of the tags
module _ (keys : List ℕ) (number : ℕ) (l : List Attestation) (t : Slate) (n : ℕ) (e : n ≡ length keys) (h : n ≤ 64)
    (o : Holds t l) (q : quorate (length keys) l ≡ true) (x y : ℕ) (ex : x ≡ summed_seal n (seen_of t) (signatures_of t))
    (ey : y ≡ summed_seal (length keys) (seen_of t) (tag_at keys number)) where
  pub hoped_refused : (x ≢ y) → None ≡ summed_optimistic keys number l
  hoped_refused d =
      let a = slate_seal summed_seal summed_picky keys l t n e h o x ex in
      let b = slate_tags summed_seal summed_picky keys l t n e h o number y ey in
      sym (hoped_bad keys number l q (valid_is summed_seal summed_picky keys number l q ∙ ne_eqb _ _ (λ z. d (a ∙ z ∙ sym b))))

  pub hoped_given : (m : ℕ) → m ≡ mask_of n (seen_of t) → x ≡ y → Some (record { mask = m; seal = x }) ≡ summed_optimistic keys number l
  hoped_given m em d =
      let a = slate_seal summed_seal summed_picky keys l t n e h o x ex in
      let b = slate_tags summed_seal summed_picky keys l t n e h o number y ey in
      slate_sealed summed_seal summed_picky keys l t n e h o m x em ex
      ∙ sym (hoped_some keys number l q (valid_is summed_seal summed_picky keys number l q ∙ eq-eqb _ _ (sym a ∙ d ∙ b)))
