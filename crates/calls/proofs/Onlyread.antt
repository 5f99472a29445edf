-- What reads as a call has that call's fields.
use Rattle.std.proofs.Common.{◌≡◌, ℕ, Bool, true, false, ◌||◌, if◌then◌else◌, IfOk, Some, None, Ok, Err, Option, Result, List, refl, sym, ap, ◌∙◌, arith}
use Rattle.std.specs.Option.{option_map, option_map_or, ok_or}
use Rattle.std.proofs.lemmas.Bool.{and_parts}
use Rattle.std.proofs.lemmas.Bool.Decides.{nat_tests}
use Rattle.std.proofs.lemmas.Result.{IfOk-weaker}
use Rattle.values.specs.declared.payload.Words.{Words}
use Rattle.values.specs.declared.types.Rnd.{Rnd}
use Rattle.values.specs.declared.types.Kind.{Kind}
use Rattle.values.specs.declared.types.Kind.TheVariants as kind
use Rattle.values.specs.declared.types.Proposal.{Proposal}
use Rattle.values.specs.declared.types.Subject.{Subject}
use Rattle.values.specs.declared.types.Subject.TheVariants as subject
use Rattle.values.specs.declared.refusal.Refusal.{Refusal}
use Rattle.values.specs.declared.refusal.Refusal.TheVariants.{UnusedByte, NotPayload}
use Rattle.values.specs.Kinds.{kind_number, kind_named, kind_of, round_of, proposal_of}
use Rattle.calls.specs.declared.call.Call.{Call}
use Rattle.calls.specs.declared.fields.Fields.{Fields}
use Rattle.calls.specs.declared.shape.Shape.{Shape}
use Rattle.calls.specs.declared.shape.Shape.TheVariants.{NetworkVote, ConstructedVote, Certificate, Leader, Forward, Attempt, MissingVoters}
use Rattle.calls.specs.declared.shape.Used.{Used}
use Rattle.values.specs.Payloads.{no_words}
use Rattle.calls.specs.Records.{map_ok, shape_named, carries, used_by, blank, zero_words, clear, clear_in_front, clear_behind, proposal_from, subject_from, vote_from, call_from, read_shape, read_fields, fields_of, written_of}
use Rattle.calls.specs.Layout.{layout}
use Rattle.calls.proofs.Laid.{fields_are, rounds_are, words_are}

kind_named_lem : (n : ℕ) (k : Kind) → kind_named n ≡ Some k → n ≡ kind_number k
kind_named_lem n kind.Notarize h = grind (arith, nat_tests)
kind_named_lem n kind.Nullify h = grind (arith, nat_tests)
kind_named_lem n kind.Finalize h = grind (arith, nat_tests)

-- the first two bytes of a record of this shape
abbrev call_byte : Shape → ℕ
call_byte (NetworkVote k) = 1
call_byte (ConstructedVote k) = 2
call_byte (Certificate k) = 3
call_byte Leader = 4
call_byte Forward = 5
call_byte Attempt = 6
call_byte MissingVoters = 7

abbrev KindByte : Shape → ℕ → Type 0
KindByte (NetworkVote k) n = n ≡ kind_number k
KindByte (ConstructedVote k) n = n ≡ kind_number k
KindByte (Certificate k) n = n ≡ kind_number k
KindByte Leader n = Unit {0}
KindByte Forward n = Unit {0}
KindByte Attempt n = Unit {0}
KindByte MissingVoters n = Unit {0}

shape_named_lem : (c n : ℕ) (s : Shape) → shape_named c n ≡ Some s → c ≡ call_byte s
shape_named_lem c n (NetworkVote k) h = grind (arith, nat_tests)
shape_named_lem c n (ConstructedVote k) h = grind (arith, nat_tests)
shape_named_lem c n (Certificate k) h = grind (arith, nat_tests)
shape_named_lem c n Leader h = grind (arith, nat_tests)
shape_named_lem c n Forward h = grind (arith, nat_tests)
shape_named_lem c n Attempt h = grind (arith, nat_tests)
shape_named_lem c n MissingVoters h = grind (arith, nat_tests)

kind_byte : (c n : ℕ) (s : Shape) → shape_named c n ≡ Some s → KindByte s n
kind_byte c n (NetworkVote k) h = kind_named_lem n k (grind (arith, nat_tests))
kind_byte c n (ConstructedVote k) h = kind_named_lem n k (grind (arith, nat_tests))
kind_byte c n (Certificate k) h = kind_named_lem n k (grind (arith, nat_tests))
kind_byte c n Leader h = tt
kind_byte c n Forward h = tt
kind_byte c n Attempt h = tt
kind_byte c n MissingVoters h = tt

-- the fields that are not used are zero
record Cleared (u : Used) (f : Fields) : Type 0 where
  kind : u.kind ≡ false → 0 ≡ f.kind
  gap : 0 ≡ f.gap
  key : u.key ≡ false → 0 ≡ f.key
  participant : u.participant ≡ false → 0 ≡ f.participant
  space : 0 ≡ f.space
  round : u.round ≡ false → ◌≡◌ {A = Rnd} (record { epoch = 0; view = 0 }) f.round
  parent : u.proposal ≡ false → 0 ≡ f.parent
  words : u.proposal ≡ false → no_words ≡ f.words
  signature : u.signature ≡ false → 0 ≡ f.signature

unused : (used : Bool) (n : ℕ) → blank used n ≡ true → used ≡ false → 0 ≡ n
unused used n h e = grind (arith, nat_tests)

zero_words_lem : (w : Words) → zero_words w ≡ true → no_words ≡ w
zero_words_lem w h =
    let z : (0 ≡ w.w1) × (0 ≡ w.w2) × (0 ≡ w.w3) × (0 ≡ w.w4) = grind (arith, nat_tests) in
    words_are no_words w z.0 z.1 z.2 z.3

cleared : (u : Used) (f : Fields) → clear u f ≡ true → Cleared u f
cleared u f h =
    let a = and_parts (clear_in_front u f) (clear_behind u f) h in
    let b = and_parts _ _ a.0 in let c = and_parts _ _ b.1 in let d = and_parts _ _ c.1 in let e = and_parts _ _ d.1 in
    let i = and_parts _ _ a.1 in let j = and_parts _ _ i.1 in let k = and_parts _ _ j.1 in let l = and_parts _ _ k.1 in
    record {
      kind = unused u.kind f.kind b.0;
      gap = unused false f.gap c.0 refl;
      key = unused u.key f.key d.0;
      participant = unused u.participant f.participant e.0;
      space = unused false f.space e.1 refl;
      round = λ z. rounds_are _ f.round (unused u.round f.round.epoch i.0 z) (unused u.round f.round.view j.0 z);
      parent = unused u.proposal f.parent k.0;
      words = λ z. let p : (u.proposal || zero_words f.words) ≡ true = l.0 in zero_words_lem f.words (rw z at p);
      signature = unused u.signature f.signature l.1;
    }

map_if : {A B : Type 0} (F : A → B) (r : Result A Refusal) (G : A → Type 0) (Q : B → Type 0) → ((x : A) → G x → Q (F x)) →
    IfOk r G → IfOk (map_ok F r) Q
map_if F (Ok x) G Q w h = w x h
map_if F (Err e) G Q w h = tt

module _ {P : Type 0} (words : P → Words) (named : Words → Option P) (sound : (w : Words) (p : P) → named w ≡ Some p → words p ≡ w) where
  proposed_of : (f : Fields) (o : Option P) (Q : Proposal P → Type 0) → named f.words ≡ o →
      ((x : P) → words x ≡ f.words → Q (record { round = f.round; parent = f.parent; payload = x })) →
      IfOk (ok_or (option_map (λ x. record { round = f.round; parent = f.parent; payload = x }) o) NotPayload) Q
  proposed_of f None Q e h = tt
  proposed_of f (Some x) Q e h = h x (sound f.words x e)

  -- what holds of the proposal that the fields hold, as its payload has their words
  proposed : (f : Fields) (Q : Proposal P → Type 0) →
      ((x : P) → words x ≡ f.words → Q (record { round = f.round; parent = f.parent; payload = x })) → IfOk (proposal_from named f) Q
  proposed f Q h = proposed_of f (named f.words) Q refl h

  -- what a subject puts into a record's fields
  record Subjected (k : Kind) (f : Fields) (s : Subject P) : Type 0 where
    kind : kind_number (kind_of s) ≡ kind_number k
    round : round_of s ≡ f.round
    parent : option_map_or (λ p. p.parent) (proposal_of s) 0 ≡ f.parent
    payload : option_map_or (λ p. words p.payload) (proposal_of s) no_words ≡ f.words

  subjected : (k : Kind) (f : Fields) → (carries k ≡ false → 0 ≡ f.parent) → (carries k ≡ false → no_words ≡ f.words) →
      IfOk (subject_from named k f) (Subjected k f)
  subjected kind.Notarize f a b =
      map_if subject.Notarize (proposal_from named f) _ _ (λ p q. q)
      (proposed f _ (λ x e. record { kind = refl; round = refl; parent = refl; payload = e }))
  subjected kind.Nullify f a b = record { kind = refl; round = refl; parent = a refl; payload = b refl }
  subjected kind.Finalize f a b =
      map_if subject.Finalize (proposal_from named f) _ _ (λ p q. q)
      (proposed f _ (λ x e. record { kind = refl; round = refl; parent = refl; payload = e }))

  number : (s : Shape) (f : Fields) → shape_named f.call f.kind ≡ Some s → call_byte s ≡ f.call
  number s f a = sym (shape_named_lem f.call f.kind s a)

  shaped : (s : Shape) (f : Fields) → shape_named f.call f.kind ≡ Some s → Cleared (used_by s) f →
      IfOk (call_from named s f) (λ c. fields_of words c ≡ f)
  shaped (NetworkVote k) f a u =
      map_if _ (vote_from named k f) _ _ (λ v q. q) (map_if _ (subject_from named k f) _ _
      (λ s q. fields_are _ f (number (NetworkVote k) f a) (q.kind ∙ sym (kind_byte f.call f.kind (NetworkVote k) a)) u.gap refl refl u.space q.round q.parent q.payload refl)
      (subjected k f u.parent u.words))
  shaped (ConstructedVote k) f a u =
      map_if _ (vote_from named k f) _ _ (λ v q. q) (map_if _ (subject_from named k f) _ _
      (λ s q. fields_are _ f (number (ConstructedVote k) f a) (q.kind ∙ sym (kind_byte f.call f.kind (ConstructedVote k) a)) u.gap (u.key refl) refl u.space q.round q.parent q.payload refl)
      (subjected k f u.parent u.words))
  shaped (Certificate k) f a u =
      map_if _ (subject_from named k f) _ _
      (λ s q. fields_are _ f (number (Certificate k) f a) (q.kind ∙ sym (kind_byte f.call f.kind (Certificate k) a)) u.gap (u.key refl) (u.participant refl) u.space q.round q.parent q.payload (u.signature refl))
      (subjected k f u.parent u.words)
  shaped Leader f a u =
      fields_are _ f (number Leader f a) (u.kind refl) u.gap (u.key refl) refl u.space (u.round refl) (u.parent refl) (u.words refl) (u.signature refl)
  shaped Forward f a u =
      fields_are _ f (number Forward f a) (u.kind refl) u.gap (u.key refl) refl u.space (u.round refl) (u.parent refl) (u.words refl) (u.signature refl)
  shaped Attempt f a u =
      fields_are _ f (number Attempt f a) (u.kind refl) u.gap (u.key refl) (u.participant refl) u.space (u.round refl) (u.parent refl) (u.words refl) (u.signature refl)
  shaped MissingVoters f a u =
      map_if _ (proposal_from named f) _ _ (λ p q. q)
      (proposed f _ (λ x e. fields_are _ f (number MissingVoters f a) (u.kind refl) u.gap (u.key refl) (u.participant refl) u.space refl refl e (u.signature refl)))

  checked : (s : Shape) (f : Fields) (b : Bool) → shape_named f.call f.kind ≡ Some s → clear (used_by s) f ≡ b →
      IfOk (if b then call_from named s f else Err UnusedByte) (λ c. fields_of words c ≡ f)
  checked s f true e u = shaped s f e (cleared (used_by s) f u)
  checked s f false e u = tt

  known : (o : Option Shape) (f : Fields) → shape_named f.call f.kind ≡ o → IfOk (read_shape named o f) (λ c. fields_of words c ≡ f)
  known None f e = tt
  known (Some s) f e = checked s f (clear (used_by s) f) e refl

  pub fields_only : (f : Fields) → IfOk (read_fields named f) (λ c. fields_of words c ≡ f)
  fields_only f = known (shape_named f.call f.kind) f refl

  pub only_writing : (r : Result (Call P) Refusal) (f : Fields) (b : List ℕ) → r ≡ read_fields named f → layout f ≡ b →
      IfOk r (λ c. written_of words c ≡ b)
  only_writing r f b e l = rw e (IfOk-weaker (read_fields named f) _ _ (λ c q. ap layout q ∙ l) (fields_only f))
