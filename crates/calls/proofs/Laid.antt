-- A record's bytes and its fields: each gives the other back.
use Rattle.std.proofs.Common.{◌≡◌, ℕ, ◌+◌, ◌≤◌, List, ◌++◌, length, take, drop, sym, ap, ◌∙◌, subst, inl, inr, arith, get_or-drop, get_or-take, take-add}
use Rattle.std.proofs.lemmas.List.{length-take, length-drop, get_or_past, take-append-drop}
use Rattle.std.proofs.lemmas.Bool.{cases_lt}
use Rattle.values.specs.declared.payload.Words.{Words}
use Rattle.values.specs.declared.types.Rnd.{Rnd}
use Rattle.calls.specs.declared.fields.Fields.{Fields}
use Rattle.calls.specs.Layout.{number_in, number_at, bytes_of, fields_in, layout}
use Rattle.calls.proofs.Digits.{Bytes, bytes_of_number}

part_bytes : (b : List ℕ) → Bytes b → (at w : ℕ) → Bytes (take w (drop at b))
part_bytes b h at w k =
    elim (cases_lt k w) [
      | inl l ↦ rw (get_or-take w (drop at b) k 0 l, get_or-drop at b k 0) (h (at + k))
      | inr l ↦ rw (get_or_past (take w (drop at b)) k 0 (omega (arith, length-take w (drop at b)))) (omega arith)
    ]

-- what is read of a part is written as that part
piece : (b : List ℕ) → Bytes b → (at w : ℕ) → at + w ≤ length b → bytes_of w (number_at at w b) ≡ take w (drop at b)
piece b h at w l =
    let e : length (take w (drop at b)) ≡ w = omega (arith, length-take w (drop at b), length-drop at b) in
    subst (λ k. bytes_of k (number_at at w b) ≡ take w (drop at b)) e (bytes_of_number (take w (drop at b)) (part_bytes b h at w))

join : (b : List ℕ) → Bytes b → (at w : ℕ) (front : List ℕ) → at + w ≤ length b → front ≡ take at b →
    front ++ bytes_of w (number_at at w b) ≡ take (at + w) b
join b h at w front l e = rw (e, piece b h at w l) (sym (take-add at w b))

pub layout_of_fields : (b : List ℕ) → Bytes b → 88 ≤ length b → layout (fields_in b) ≡ take 88 b
layout_of_fields b h l =
    join b h 80 8 _ (omega arith) (join b h 72 8 _ (omega arith) (join b h 64 8 _ (omega arith) (join b h 56 8 _ (omega arith)
    (join b h 48 8 _ (omega arith) (join b h 40 8 _ (omega arith) (join b h 32 8 _ (omega arith) (join b h 24 8 _ (omega arith)
    (join b h 20 4 _ (omega arith) (join b h 16 4 _ (omega arith) (join b h 8 8 _ (omega arith) (join b h 2 6 _ (omega arith)
    (join b h 1 1 _ (omega arith) (piece b h 0 1 (omega arith))))))))))))))

-- fields lie in the first 88 bytes
pub fields_in_front : (f : Fields) (b : List ℕ) → layout f ≡ take 88 b → fields_in (take 88 b) ≡ fields_in b
fields_in_front f b e =
    ap fields_in (sym e) ∙ ap (λ x. fields_in (x ++ drop 88 b)) e ∙ ap fields_in (take-append-drop 88 b)

-- records are equal when their fields are
pub rounds_are : (r s : Rnd) → r.epoch ≡ s.epoch → r.view ≡ s.view → r ≡ s
rounds_are r s a b = λ i. record { epoch = a i; view = b i }

pub words_are : (v w : Words) → v.w1 ≡ w.w1 → v.w2 ≡ w.w2 → v.w3 ≡ w.w3 → v.w4 ≡ w.w4 → v ≡ w
words_are v w a b c d = λ i. record { w1 = a i; w2 = b i; w3 = c i; w4 = d i }

pub fields_are : (f g : Fields) → f.call ≡ g.call → f.kind ≡ g.kind → f.gap ≡ g.gap → f.key ≡ g.key →
    f.participant ≡ g.participant → f.space ≡ g.space → f.round ≡ g.round → f.parent ≡ g.parent →
    f.words ≡ g.words → f.signature ≡ g.signature → f ≡ g
fields_are f g a b c d e h j k l m = λ i. record {
  call = a i;
  kind = b i;
  gap = c i;
  key = d i;
  participant = e i;
  space = h i;
  round = j i;
  parent = k i;
  words = l i;
  signature = m i;
}

-- each field is read back from the bytes that hold it
pub fields_of_layout : (f : Fields) (rest : List ℕ) →
    number_in (bytes_of 1 f.call) ≡ f.call → number_in (bytes_of 1 f.kind) ≡ f.kind →
    number_in (bytes_of 6 f.gap) ≡ f.gap → number_in (bytes_of 8 f.key) ≡ f.key →
    number_in (bytes_of 4 f.participant) ≡ f.participant → number_in (bytes_of 4 f.space) ≡ f.space →
    number_in (bytes_of 8 f.round.epoch) ≡ f.round.epoch → number_in (bytes_of 8 f.round.view) ≡ f.round.view →
    number_in (bytes_of 8 f.parent) ≡ f.parent → number_in (bytes_of 8 f.words.w1) ≡ f.words.w1 →
    number_in (bytes_of 8 f.words.w2) ≡ f.words.w2 → number_in (bytes_of 8 f.words.w3) ≡ f.words.w3 →
    number_in (bytes_of 8 f.words.w4) ≡ f.words.w4 → number_in (bytes_of 8 f.signature) ≡ f.signature →
    fields_in (layout f ++ rest) ≡ f
fields_of_layout f rest a b c d e h i j k l m n o p = rw (a, b, c, d, e, h, i, j, k, l, m, n, o, p)
