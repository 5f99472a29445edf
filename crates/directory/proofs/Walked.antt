-- Lemmas of loops that walk keys by places, which nothing cites any more.
use Rattle.std.proofs.Common.{◌≡◌, ℕ, ◌+◌, ◌-◌, ◌<◌, ◌≤◌, true, false, cond, ◌&&◌, ◌||◌, eqb, ltb, ◌≢◌, List, ◌∷◌, Bool, Option, length, get_or, drop, set, Some, None, Ok, Err, sym, ap, ◌∙◌, subst, inl, inr, arith, get_or-set_other, get_or-set_same}
use Rattle.std.proofs.lemmas.List.{at_drop_more, at_drop_all}
use Rattle.std.proofs.lemmas.Bool.{eq-eqb, ne_eqb, cond-true, cond-false, and_left, lt-ltb, le-ltb, or_from, cases_eq}
use Rattle.std.specs.Prelude.{nat_lt, zip, ◌==◌}
use Rattle.std.specs.List.{list_all, position_from}
use Rattle.directory.specs.Directories.{ascending, directory_of}
use Rattle.values.specs.declared.refusal.Refusal.TheVariants.{DirectorySize, DirectoryOrder}

-- the place of a key in a list that begins at place i, as the library walks it
abbrev pub place_from : ℕ → ℕ → List ℕ → Option ℕ
place_from i k l = position_from (λ x. x == k) i l

-- the keys of a list ascend, above x
abbrev pub ascends_from : ℕ → List ℕ → Bool
ascends_from x l = list_all (λ p. nat_lt p.0 p.1) (zip (x ∷ l) l)

pub place_here : (L : List ℕ) (i k : ℕ) → i < length L → get_or L i 0 ≡ k → place_from i k (drop i L) ≡ Some i
place_here L i k h e =
    at_drop_more (place_from i k) L i 0 h ∙ cond-true (eqb (get_or L i 0) k) (Some i) (place_from (i + 1) k (drop (i + 1) L)) (eq-eqb (get_or L i 0) k e)

pub place_on : (L : List ℕ) (i k : ℕ) → i < length L → (get_or L i 0 ≡ k → ⊥) → place_from i k (drop i L) ≡ place_from (i + 1) k (drop (i + 1) L)
place_on L i k h e =
    at_drop_more (place_from i k) L i 0 h ∙ cond-false (eqb (get_or L i 0) k) (Some i) (place_from (i + 1) k (drop (i + 1) L)) (ne_eqb (get_or L i 0) k e)

pub place_none : (L : List ℕ) (i k : ℕ) → length L ≤ i → place_from i k (drop i L) ≡ None
place_none L i k h = at_drop_all (place_from i k) L i h

pub ascends_on : (L : List ℕ) (i x : ℕ) → i < length L → x < get_or L i 0 → ascends_from x (drop i L) ≡ ascends_from (get_or L i 0) (drop (i + 1) L)
ascends_on L i x h e =
    at_drop_more (ascends_from x) L i 0 h ∙ ap (λ t. t && ascends_from (get_or L i 0) (drop (i + 1) L)) (lt-ltb x (get_or L i 0) e)

pub ascends_not : (L : List ℕ) (i x : ℕ) → i < length L → get_or L i 0 ≤ x → ascends_from x (drop i L) ≡ false
ascends_not L i x h e =
    at_drop_more (ascends_from x) L i 0 h ∙ and_left (ltb x (get_or L i 0)) (ascends_from (get_or L i 0) (drop (i + 1) L)) (le-ltb x (get_or L i 0) e)

pub ascends_all : (L : List ℕ) (i x : ℕ) → length L ≤ i → ascends_from x (drop i L) ≡ true
ascends_all L i x h = at_drop_all (ascends_from x) L i h

fit : (l : List ℕ) → (length l ≡ 0 → ⊥) → length l ≤ 64 → (eqb (length l) 0 || ltb 64 (length l)) ≡ false
fit l h k = or_from (eqb (length l) 0) (ltb 64 (length l)) (ne_eqb (length l) 0 h) (le-ltb 64 (length l) k)

pub directory_order : (l : List ℕ) → (length l ≡ 0 → ⊥) → length l ≤ 64 → ascending l ≡ false → Err DirectoryOrder ≡ directory_of l
directory_order l h k e =
    sym (cond-false (eqb (length l) 0 || ltb 64 (length l)) (Err DirectorySize) (cond (ascending l) (Ok l) (Err DirectoryOrder)) (fit l h k)
    ∙ cond-false (ascending l) (Ok l) (Err DirectoryOrder) e)

pub directory_made : (l m : List ℕ) → (length l ≡ 0 → ⊥) → length l ≤ 64 → ascending l ≡ true → m ≡ l → Ok m ≡ directory_of l
directory_made l m h k e s =
    ap (λ (x : List ℕ). Ok x) s
    ∙ sym (cond-false (eqb (length l) 0 || ltb 64 (length l)) (Err DirectorySize) (cond (ascending l) (Ok l) (Err DirectoryOrder)) (fit l h k)
    ∙ cond-true (ascending l) (Ok l) (Err DirectoryOrder) e)

-- a table in which the keys so far ascend, and one more key
pub ascends_more : (t : List ℕ) (i x : ℕ) → 0 < i → i < length t → ((k : ℕ) → k + 1 < i → get_or t k 0 < get_or t (k + 1) 0) → get_or t (i - 1) 0 < x
    → (k : ℕ) → k + 1 < i + 1 → get_or (set t i x) k 0 < get_or (set t i x) (k + 1) 0
ascends_more t i x p h a b k l =
    let n : k ≢ i = omega arith in
    rw (get_or-set_other t i k x 0 n)
    (elim (cases_eq (k + 1) i) [
      | inl e ↦ subst (λ j. get_or t k 0 < get_or (set t i x) j 0) (sym e) (rw (get_or-set_same t i x 0 h) (subst (λ j. get_or t j 0 < x) (omega arith) b))
      | inr d ↦ rw (get_or-set_other t i (k + 1) x 0 d) (a k (omega arith))
    ])
