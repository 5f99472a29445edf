-- Lemmas, no definitions: a layer with a mask keeps the laws.
use Rattle.std.specs.Prelude.{◌≡◌, ℕ, Bool, true, false, cond, not, ◌&&◌, List, [], ◌∷◌, None, Option, refl}
use Rattle.std.proofs.Common.{arith}
use Rattle.scheme.specs.Meaning.{Meaning, Lawful, every}
use Rattle.scheme.specs.Layers.{bit, any_masked, withdrawn_meaning}
use Rattle.values.specs.declared.types.Attestation.{Attestation}

every_below : (p : Attestation → Bool) (mask : ℕ) (l : List Attestation) → every (λ a. p a && not (bit mask a.signer)) l ≡ true → (every p l ≡ true) × (any_masked mask l ≡ false)
every_below p mask [] e = (refl, refl)
every_below p mask (a ∷ l) e =
    let s = every_below p mask l in
    grind arith

module _ {B C : Type 0} (mask : ℕ) (m : Meaning B C) (w : Lawful m) where
  none : (f : B → List Attestation → Option C) (b : B) (l : List Attestation) → f b l ≡ None → cond (any_masked mask l) None (f b l) ≡ None
  none f b l e = grind arith

  pub withdrawn_lawful : Lawful (withdrawn_meaning mask m)
  withdrawn_lawful =
      record {
        optimistic_none = λ b l q. none m.optimistic b l (w.optimistic_none b l q);
        assembled_none = λ b l q. none m.assembled b l (w.assembled_none b l q);
        optimistic_good = λ b l q e.
            let s = every_below (m.good b) mask l e in
            rw s.1 (w.optimistic_good b l q s.0);
        assembled_good = λ b l q e.
            let s = every_below (m.good b) mask l e in
            let v = w.assembled_good b l q s.0 in
            grind arith;
        optimistic_valid = λ b l.
            let v = w.optimistic_valid b l in
            grind arith;
      }
