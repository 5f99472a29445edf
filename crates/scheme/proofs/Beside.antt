-- A loop that changes each place by the attestation beside it.
use Rattle.std.proofs.Common.{◌≡◌, ℕ, zero, suc, ◌+◌, ◌<◌, List, [], ◌∷◌, length, get_or, take, set, sym, refl, ap, ◌∙◌, add-one, arith}
use Rattle.scheme.specs.Meaning.{beside}
use Rattle.values.specs.declared.types.Attestation.{Attestation}

-- an attestation, where one is asked for that does not matter
abbrev pub nobody : Attestation
nobody = record { signer = 0; signature = 0 }

module _ {V : Type 0} (f : Attestation → V → V) (d : Attestation) (e : V) where
  beside_suc : (l : List Attestation) (v : List V) (i : ℕ) → i < length l → i < length v
      → set (beside f (take i l) v) i (f (get_or l i d) (get_or (beside f (take i l) v) i e)) ≡ beside f (take (suc i) l) v
  beside_suc [] v i h k = absurd (omega arith)
  beside_suc (a ∷ l) [] i h k = absurd (omega arith)
  beside_suc (a ∷ l) (x ∷ v) zero h k = refl
  beside_suc (a ∷ l) (x ∷ v) (suc i) h k = ap (λ z. f a x ∷ z) (beside_suc l v i (omega arith) (omega arith))

  -- one more place, in a list u that is changed up to i
  pub beside_more : (l : List Attestation) (v u : List V) (i : ℕ) → i < length l → i < length v → u ≡ beside f (take i l) v
      → set u i (f (get_or l i d) (get_or u i e)) ≡ beside f (take (i + 1) l) v
  beside_more l v u i h k q =
      ap (λ w. set w i (f (get_or l i d) (get_or w i e))) q ∙ beside_suc l v i h k ∙ ap (λ j. beside f (take j l) v) (sym (add-one i))

pub beside_all : {V : Type 0} (f : Attestation → V → V) (l : List Attestation) (v : List V) (i : ℕ) → (i < length l → i < length v → ⊥)
    → beside f (take i l) v ≡ beside f l v
beside_all f [] v zero h = refl
beside_all f [] v (suc i) h = refl
beside_all f (a ∷ l) [] zero h = refl
beside_all f (a ∷ l) [] (suc i) h = refl
beside_all f (a ∷ l) (x ∷ v) zero h = absurd (h (omega arith) (omega arith))
beside_all f (a ∷ l) (x ∷ v) (suc i) h = ap (λ z. f a x ∷ z) (beside_all f l v i (λ p q. h (omega arith) (omega arith)))

-- one change after another
pub beside_beside : {V : Type 0} (f g : Attestation → V → V) (l : List Attestation) (v : List V)
    → beside g l (beside f l v) ≡ beside (λ a x. g a (f a x)) l v
beside_beside f g [] v = refl
beside_beside f g (a ∷ l) [] = refl
beside_beside f g (a ∷ l) (x ∷ v) = ap (λ z. g a (f a x) ∷ z) (beside_beside f g l v)
