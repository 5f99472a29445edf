-- Numbers in bytes: as the library reads and writes them, and that the two are inverse.
use Rattle.std.proofs.Common.{◌≡◌, ℕ, zero, suc, ◌+◌, ◌*◌, ◌/◌, ◌%◌, ◌^◌, ◌<◌, ◌≤◌, List, [], ◌∷◌, ◌++◌, length, get_or, drop, replicate, refl, w32, w64, div-lt_iff_lt-mul, pow-suc, arith}
use native.Mathlib.Nat.{div-add-mod, div-div-eq-div-mul}
use lib.Arith.{digits_lt, digits_div, digits_mod}
use Rattle.std.specs.Int.{to_le_bytes, from_le_bytes}
use Rattle.calls.specs.Layout.{number_in, bytes_of}

-- each number is a byte
abbrev pub Bytes : List ℕ → Type 0
Bytes b = (k : ℕ) → get_or b k 0 < 256

-- at most eight bytes, with zeros behind them
pub padded : (b : List ℕ) → length b ≤ 8 → from_le_bytes w64 (b ++ drop (length b) (replicate 8 0)) ≡ number_in b
padded [] l = omega arith
padded (p ∷ []) l = omega arith
padded (p ∷ q ∷ []) l = omega arith
padded (p ∷ q ∷ r ∷ []) l = omega arith
padded (p ∷ q ∷ r ∷ s ∷ []) l = omega arith
padded (p ∷ q ∷ r ∷ s ∷ t ∷ []) l = omega arith
padded (p ∷ q ∷ r ∷ s ∷ t ∷ u ∷ []) l = omega arith
padded (p ∷ q ∷ r ∷ s ∷ t ∷ u ∷ v ∷ []) l = omega arith
padded (p ∷ q ∷ r ∷ s ∷ t ∷ u ∷ v ∷ w ∷ []) l = omega arith
padded (p ∷ q ∷ r ∷ s ∷ t ∷ u ∷ v ∷ w ∷ x ∷ b) l = absurd (omega arith)

-- so many bytes hold no larger number
pub small : (b : List ℕ) → Bytes b → number_in b < 256 ^ length b
small [] h = omega arith
small (x ∷ b) h =
    let e : x + 256 * number_in b ≡ number_in b * 256 + x = omega arith in
    rw (e, pow-suc 256 (length b)) (digits_lt (small b (λ k. h (suc k))) (h 0))

-- the library's words, as a record has them
pub word_bytes : (n : ℕ) → to_le_bytes w64 n ≡ bytes_of 8 n
word_bytes n = simp div-div-eq-div-mul

pub half_bytes : (n : ℕ) → to_le_bytes w32 n ≡ bytes_of 4 n
half_bytes n = simp div-div-eq-div-mul

pub number_of_bytes : (k n : ℕ) → n < 256 ^ k → number_in (bytes_of k n) ≡ n
number_of_bytes zero n h = omega arith
number_of_bytes (suc k) n h =
    let p : 0 < 256 = omega arith in
    let l : n < 256 ^ k * 256 = rw pow-suc at h in
    let i : number_in (bytes_of k (n / 256)) ≡ n / 256 = number_of_bytes k (n / 256) ((div-lt_iff_lt-mul p).1 l) in
    omega (arith, i, div-add-mod n 256)

pub bytes_of_number : (bs : List ℕ) → Bytes bs → bytes_of (length bs) (number_in bs) ≡ bs
bytes_of_number [] h = refl
bytes_of_number (b ∷ bs) h =
    let e : b + 256 * number_in bs ≡ number_in bs * 256 + b = omega arith in
    let m : (number_in bs * 256 + b) % 256 ≡ b = digits_mod (number_in bs) (h 0) in
    let d : (number_in bs * 256 + b) / 256 ≡ number_in bs = digits_div (number_in bs) (h 0) in
    let i : bytes_of (length bs) (number_in bs) ≡ bs = bytes_of_number bs (λ k. h (suc k)) in
    rw (e, m, d, i) refl
