-- Lemmas of loops that walk bytes by places, and of cases of calls, which nothing cites any more.
use Rattle.std.proofs.Common.{◌≡◌, ℕ, suc, ◌+◌, ◌-◌, ◌*◌, ◌/◌, ◌%◌, ◌^◌, ◌<◌, ◌≤◌, List, [], ◌∷◌, ◌++◌, length, get_or, take, drop, set, sym, refl, ap, pow-suc, arith}
use native.Mathlib.Nat.{pow-le-pow_right}
use lib.Arith.{digits_lt}
use Rattle.std.proofs.lemmas.List.{drop_more, take_more_set, append_assoc, append-nil}
use Rattle.calls.specs.Layout.{number_in, bytes_of}
use Rattle.std.proofs.Common.{IfSome, Some, None, Ok, Err, Option, Result, ◌∙◌, subst}
use Rattle.std.specs.Result as results
use Rattle.values.specs.declared.payload.Words.{Words}
use Rattle.values.specs.declared.types.Proposal.{Proposal}
use Rattle.values.specs.declared.refusal.Refusal.{Refusal}
use Rattle.calls.specs.declared.call.Call.{Call}
use Rattle.calls.specs.Calls.{proposal_in}
use Rattle.calls.proofs.Unread.{Told}

-- one byte more in front
pub part_more : (xs : List ℕ) (at w i : ℕ) → 0 < i → i ≤ w → at + w ≤ length xs →
    take (w - (i - 1)) (drop (at + (i - 1)) xs) ≡ get_or xs (at + (i - 1)) 0 ∷ take (w - i) (drop (at + i) xs)
part_more xs at w i p q h =
    let e : w - (i - 1) ≡ suc (w - i) = omega arith in
    let f : at + (i - 1) + 1 ≡ at + i = omega arith in
    let d : drop (at + (i - 1)) xs ≡ get_or xs (at + (i - 1)) 0 ∷ drop (at + (i - 1) + 1) xs = drop_more xs (at + (i - 1)) 0 (omega arith) in
    rw (e, d, f) refl

pub value_more : (xs : List ℕ) (at w i n x : ℕ) → 0 < i → i ≤ w → at + w ≤ length xs →
    n ≡ number_in (take (w - i) (drop (at + i) xs)) → x ≡ get_or xs (at + (i - 1)) 0 →
    n * 256 + x ≡ number_in (take (w - (i - 1)) (drop (at + (i - 1)) xs))
value_more xs at w i n x p q h e f =
    let d = ap number_in (part_more xs at w i p q h) in omega (arith, d)

pub small_more : (w i n x : ℕ) → 0 < i → i ≤ w → n < 256 ^ (w - i) → x < 256 → n * 256 + x < 256 ^ (w - (i - 1))
small_more w i n x p q h l = let e : w - (i - 1) ≡ suc (w - i) = omega arith in rw (e, pow-suc 256 (w - i)) (digits_lt h l)

-- what at most eight bytes hold fits 64 bits
pub small_fits : (w i n x : ℕ) → 0 < i → i ≤ w → w ≤ 8 → n < 256 ^ (w - i) → x < 256 → n * 256 + x < 2 ^ 64
small_fits w i n x p q e h l =
    let s : n * 256 + x < 256 ^ (w - (i - 1)) = small_more w i n x p q h l in
    let m : 256 ^ (w - (i - 1)) ≤ 256 ^ 8 =
    let a : 0 < 256 = omega arith in let b : w - (i - 1) ≤ 8 = omega arith in pow-le-pow_right a b in
    omega arith

-- one byte more behind
pub put_more : (xs : List ℕ) (at w i n : ℕ) → i < w → at + w ≤ length xs →
    take (at + (i + 1)) (set xs (at + i) (n % 256)) ++ bytes_of (w - (i + 1)) (n / 256) ≡ take (at + i) xs ++ bytes_of (w - i) n
put_more xs at w i n p h =
    let e : w - i ≡ suc (w - (i + 1)) = omega arith in
    let f : at + (i + 1) ≡ at + i + 1 = omega arith in
    let t : take (at + i + 1) (set xs (at + i) (n % 256)) ≡ take (at + i) xs ++ n % 256 ∷ [] = take_more_set xs (at + i) (n % 256) (omega arith) in
    rw (e, f, t) (append_assoc (take (at + i) xs) (n % 256 ∷ []) (bytes_of (w - (i + 1)) (n / 256)))

pub put_all : (xs : List ℕ) (at w i n : ℕ) → i ≤ w → w ≤ i → take (at + w) xs ≡ take (at + i) xs ++ bytes_of (w - i) n
put_all xs at w i n p q =
    let e : w ≡ i = omega arith in
    let z : i - i ≡ 0 = omega arith in
    rw (e, z) (sym (append-nil (take (at + i) xs)))

-- what was mapped, where the outcome is Ok
pub from_mapped : {A B : Type 0} (F : A → B) (r : Result A Refusal) (b : B) → results.result_map_both F (λ e. e) r ≡ Ok b → (a : A) × (r ≡ Ok a) × (F a ≡ b)
from_mapped F (Ok a) b h = (a, refl, cc)
from_mapped F (Err e) b h = absurd (let z : ◌≡◌ {A = ℕ} 0 1 = cc in omega arith)

module _ {P : Type 0} (words : P → Words) (named : Words → Option P) where
  pub told_some : (c : Call P) (p : Proposal P) (w : Words) → proposal_in c ≡ Some p → w ≡ words p.payload → named w ≡ Some p.payload → Told words named (proposal_in c)
  told_some c p w e v h =
      subst (λ o. IfSome o (λ p. named (words p.payload) ≡ Some p.payload)) (sym e) (ap named (sym v) ∙ h)

  pub told_none : (c : Call P) → proposal_in c ≡ None → Told words named (proposal_in c)
  told_none c e = subst (λ o. IfSome o (λ p. named (words p.payload) ≡ Some p.payload)) (sym e) tt

-- one part more behind a front
pub longer : {x y front : List ℕ} (part : List ℕ) → x ≡ y ++ part → y ≡ front → x ≡ front ++ part
longer part e f = e ∙ ap (λ z. z ++ part) f
