-- Two words written into bytes, one behind the other: lemmas that nothing cites any more.
use Rattle.std.proofs.Common.{◌≡◌, ℕ, ◌+◌, ◌-◌, ◌/◌, ◌%◌, ◌≤◌, List, [], ◌∷◌, ◌++◌, length, take, drop, ap, ◌∙◌, arith, length-append, length-drop}
use native.Mathlib.Nat.{div-div-eq-div-mul}
use borrow.Rule.Slice.PartMut.{put_mid, post_of, Post-is}
use lib.Lanes.{digits_l}
use Rattle.std.proofs.lemmas.List.{append_assoc, length-take-le}
use Rattle.std.proofs.lemmas.Slice.{take-put_mid, drop-put_mid}

-- a number's eight bytes, as the library writes them
abbrev pub word : ℕ → List ℕ
word n =
    n % 256 ∷ n / 256 % 256 ∷ n / 65536 % 256 ∷ n / 16777216 % 256 ∷ n / 4294967296 % 256
    ∷ n / 1099511627776 % 256 ∷ n / 281474976710656 % 256 ∷ n / 72057594037927936 % 256 ∷ []

pub word_digits : (n : ℕ) → word n ≡ digits_l 256 8 n
word_digits n = simp div-div-eq-div-mul

pub two_words : (b x y : List ℕ) (at : ℕ) → at + 16 ≤ length b → length x ≡ 8 → length y ≡ 8 →
    put_mid (at + 8) (at + 16 - (at + 8)) (put_mid at (at + 8 - at) b x) y ≡ take at b ++ (x ++ y) ++ drop (at + 16) b
two_words b x y at h p q =
    let m = put_mid at (at + 8 - at) b x in
    let front : take (at + 8) m ≡ take at b ++ x = take-put_mid at (at + 8 - at) b x (at + 8) (omega arith) (omega arith) in
    let back : post_of (at + 8) (at + 16 - (at + 8)) m ≡ drop (at + 16) b =
    Post-is (at + 8) (at + 16) m (omega arith) ∙ drop-put_mid at (at + 8 - at) b x (at + 16) (omega arith) (omega arith) (omega arith) in
    rw (front, back) (simp append_assoc)

pub same_length : (b x y : List ℕ) (at : ℕ) → at + 16 ≤ length b → length x ≡ 8 → length y ≡ 8 →
    length (put_mid (at + 8) (at + 16 - (at + 8)) (put_mid at (at + 8 - at) b x) y) ≡ length b
same_length b x y at h p q =
    ap length (two_words b x y at h p q)
    ∙ simp (length-append, length-drop) (omega (arith, length-take-le at b (omega arith)))
