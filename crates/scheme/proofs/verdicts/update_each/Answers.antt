use Rattle.std.proofs.Common.{◌≡◌, ℕ, zero, suc, ◌<◌, false, List, [], ◌∷◌, length, get_or, take, set, ap, ◌∙◌, add-one, arith}
use Rattle.std.proofs.lemmas.List.{set-get_or}
use Rattle.scheme.specs.Meaning.{beside}
use Rattle.scheme.proofs.Beside.{beside_all}
use Rattle.values.specs.declared.types.Attestation.{Attestation}
use Rattle.scheme.proofs.verdicts.update_each.Goals as goal
use Rattle.scheme.proofs.verdicts.update_each.Goals.{else-loop-i-test, then-loop-i-test+in_default}

module _ {V : Type 0} (f : Attestation → V → V) where
  -- the place i is changed by the attestation a beside it
  beside_one : (l : List Attestation) (v : List V) (i : ℕ) (a : Attestation) (e : V) → i < length l → i < length v → a ≡ get_or l i a
      → set (beside f (take i l) v) i (f a (get_or (beside f (take i l) v) i e)) ≡ beside f (take (suc i) l) v
  beside_one [] v i a e h k q = absurd (omega arith)
  beside_one (b ∷ l) [] i a e h k q = absurd (omega arith)
  beside_one (b ∷ l) (x ∷ v) zero a e h k q = ap (λ z. f z x ∷ v) q
  beside_one (b ∷ l) (x ∷ v) (suc i) a e h k q = ap (λ z. f b x ∷ z) (beside_one l v i a e (omega arith) (omega arith) q)

pub loop-i-preserved : goal.loop-i-preserved
loop-i-preserved g c = λ f h.
    let l = c.args.attestations.now in
    let v = c.args.verdicts.now in
    let i = c.loop-i.i in
    let a = c.in-Some.attestation.now in
    let k : i < length v = c.loop-i-test.true in
    let p = c.in-Some.ensures.lookup in
    let j = c.loop-i.invariant f h in
    let e = beside_one f l v i a false p.3.0 k p.1 in
    let n = add-one i in
    let r = h a (get_or c.loop-i.verdicts i false) c.change.result c.change.ensures in
    cc

-- where the attestations or the places end, all is as it is beside the whole lists
pub returns : goal.returns
returns g c = λ f h.
    let all = beside_all f c.args.attestations.now c.args.verdicts.now c.loop-i.i in
    elim c.loop-i-test.branch [
      | else-loop-i-test w ↦ w.verdicts-is ∙ c.loop-i.invariant f h ∙ all (λ p q. omega arith)
      | then-loop-i-test+in_default w ↦
          let o = w.in_default.ensures.lookup in
          w.verdicts-is ∙ set-get_or c.loop-i.verdicts c.loop-i.i false ∙ c.loop-i.invariant f h ∙ all (λ p q. omega arith)
    ]
