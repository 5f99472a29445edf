-- Products modulo the prime: lemmas that nothing cites any more, as the library has one for every modulus.
use Rattle.std.proofs.Common.{◌≡◌, ℕ, ◌+◌, ◌*◌, ◌/◌, ◌%◌, sym, ap, ◌∙◌, mul_assoc, mul_comm, add_comm, mul-add}
use native.Mathlib.Nat.{add-mul-mod_self_left, div-add-mod}
use Rattle.tags.specs.Numbers.{prime}

-- a factor, by its quotient and remainder
factor_parts : (c a : ℕ) → c * a ≡ c * (a % prime) + prime * (c * (a / prime))
factor_parts c a =
    ap (λ x. c * x) (sym (div-add-mod a prime))
    ∙ mul-add c (prime * (a / prime)) (a % prime)
    ∙ ap (λ x. x + c * (a % prime)) (sym (mul_assoc c prime (a / prime)) ∙ ap (λ x. x * (a / prime)) (mul_comm c prime) ∙ mul_assoc prime c (a / prime))
    ∙ add_comm (prime * (c * (a / prime))) (c * (a % prime))

pub factor_mod : (c a : ℕ) → c * a % prime ≡ c * (a % prime) % prime
factor_mod c a = ap (λ x. x % prime) (factor_parts c a) ∙ add-mul-mod_self_left (c * (a % prime)) prime (c * (a / prime))

pub factors_mod : (a b : ℕ) → (a % prime) * (b % prime) % prime ≡ a * b % prime
factors_mod a b =
    sym (factor_mod (a % prime) b)
    ∙ ap (λ x. x % prime) (mul_comm (a % prime) b)
    ∙ sym (factor_mod b a)
    ∙ ap (λ x. x % prime) (mul_comm b a)
