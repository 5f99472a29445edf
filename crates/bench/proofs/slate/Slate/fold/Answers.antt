use Rattle.std.proofs.Common.{◌≡◌, ℕ, ◌+◌, ◌<◌, ◌≤◌, Bool, true, false, None, refl, arith, ap, add-one, length, length-take, ◌∙◌, sym}
use Rattle.std.specs.Option.{is_some}
use Rattle.std.proofs.lemmas.List.{get_or-take}
use Rattle.bench.specs.Sealed.{fold_up_to}
use Rattle.bench.specs.Slates.{seen_of}
use Rattle.bench.proofs.Folds.{fold_past}
use Rattle.bench.proofs.slate.Slate.fold.Goals as goal
use Rattle.bench.proofs.slate.Slate.fold.Goals.{in-Some, in_default}

-- one more participant, who signed or did not
module _ (f : ℕ → ℕ → ℕ) (n : ℕ) (p : ℕ → Bool) (v : ℕ → ℕ) where
  more_yes : p n ≡ true → fold_up_to f (n + 1) p v ≡ f (fold_up_to f n p v) (v n)
  more_yes h = ap (λ k. fold_up_to f k p v) (add-one n) ∙ rw h refl

  more_no : p n ≡ false → fold_up_to f (n + 1) p v ≡ fold_up_to f n p v
  more_no h = ap (λ k. fold_up_to f k p v) (add-one n) ∙ rw h refl

pub loop-signer-preserved : goal.loop-signer-preserved
loop-signer-preserved g c = λ f v h.
    let t = c.args.self.now in
    let i = c.loop-signer.signer in
    let e = c.loop-signer.invariant f v h in
    let b : i < t.size = omega (arith, length-take t.size t.signatures, c.loop-signer-test.true) in
    let s : i < 64 = omega (arith, t.most) in
    let k = sym (get_or-take t.size t.signatures i None b) in
    elim c.match-place.branch [
      | in-Some w ↦ w.total-is
          ∙ h c.loop-signer.total i w.next-total.result s (rw (k ∙ w.in-Some.is) w.next-total.ensures)
          ∙ ap (λ a. f a (v i)) e
          ∙ sym (more_yes f i (seen_of t) v (ap is_some (k ∙ w.in-Some.is)))
      | in_default w ↦ w.total-is ∙ e ∙ sym (more_no f i (seen_of t) v (ap is_some (k ∙ w.in_default.is)))
    ]

-- behind the participants' places none is taken
pub returns : goal.returns
returns g c = λ f v h.
    let t = c.args.self.now in
    let e : c.loop-signer.signer ≡ t.size = omega (arith, length-take t.size t.signatures, t.table, t.most) in
    let m : t.size ≤ length t.signatures = omega (arith, t.table, t.most) in
    c.loop-signer.invariant f v h
    ∙ ap (λ n. fold_up_to f n (seen_of t) v) e
    ∙ sym (fold_past f t.size (length t.signatures) (seen_of t) v m (λ i j. ap is_some (t.free i j)))
