-- What a layer makes of the meaning below it. Assumes nothing.
use Rattle.std.specs.Prelude.{ℕ, Bool, cond, not, ◌&&◌, List, None, ◌==◌}
use Rattle.std.specs.Int.{bit_at}
use Rattle.std.specs.List.{list_any}
use Rattle.scheme.specs.Meaning.{Meaning}
use Rattle.scheme.specs.declared.withdrawn.Withdrawn.{Withdrawn}
use Rattle.values.specs.declared.types.Attestation.{Attestation}

-- participant i is in the mask
abbrev pub bit : ℕ → ℕ → Bool
bit mask i = bit_at mask i == 1

-- a signer of one of these is in the mask
abbrev pub any_masked : ℕ → List Attestation → Bool
any_masked mask l = list_any (λ a. bit mask a.signer) l

-- the participants in the mask are withdrawn: nothing that they sign is good, and no list with one of them is
-- assembled
abbrev pub withdrawn_meaning : {B C : Type 0} → ℕ → Meaning B C → Meaning B C
withdrawn_meaning mask m =
    record {
      keys = m.keys;
      batchable = m.batchable;
      good = λ b a. m.good b a && not (bit mask a.signer);
      valid = m.valid;
      optimistic = λ b l. cond (any_masked mask l) None (m.optimistic b l);
      assembled = λ b l. cond (any_masked mask l) None (m.assembled b l);
    }

-- what a scheme with a mask over it means, by what the scheme does
abbrev pub layered : {S B C : Type 0} → (S → Meaning B C) → Withdrawn S → Meaning B C
layered meaning s = withdrawn_meaning s.mask (meaning s.below)
