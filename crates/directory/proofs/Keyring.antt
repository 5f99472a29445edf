-- Keys that ascend, at the front of a table.
use Rattle.std.proofs.Common.{◌≡◌, ℕ, zero, suc, ◌+◌, ◌<◌, true, List, [], ◌∷◌, ◌++◌, length, get_or, arith, add-one}
use Rattle.std.specs.Prelude.{nat_lt, zip}
use Rattle.std.specs.List.{list_all}
use Rattle.std.proofs.lemmas.Bool.{and_parts, ltb-true}
use Rattle.std.proofs.lemmas.List.{get_or_append_left}
use Rattle.directory.specs.Directories.{ascending}

climbs : (x : ℕ) (ys : List ℕ) → list_all (λ p. nat_lt p.0 p.1) (zip (x ∷ ys) ys) ≡ true → (k : ℕ) → k < length ys → get_or (x ∷ ys) k 0 < get_or (x ∷ ys) (suc k) 0
climbs x [] e k l = absurd (omega arith)
climbs x (y ∷ ys) e zero l = ltb-true x y (and_parts (nat_lt x y) (list_all (λ p. nat_lt p.0 p.1) (zip (y ∷ ys) ys)) e).0
climbs x (y ∷ ys) e (suc k) l = climbs y ys (and_parts (nat_lt x y) (list_all (λ p. nat_lt p.0 p.1) (zip (y ∷ ys) ys)) e).1 k (omega arith)

pub table_ascends : (l rest : List ℕ) → ascending l ≡ true → (k : ℕ) → k + 1 < length l → get_or (l ++ rest) k 0 < get_or (l ++ rest) (k + 1) 0
table_ascends [] rest e k h = absurd (omega arith)
table_ascends (x ∷ ys) rest e k h =
    rw (get_or_append_left (x ∷ ys) rest 0 k (omega arith), get_or_append_left (x ∷ ys) rest 0 (k + 1) h, add-one k) (climbs x ys e k (omega arith))
