-- What a directory holds, which keys make one, and how many participants make a quorum. Assumes nothing.
use Rattle.std.specs.Prelude.{ℕ, ◌-◌, ◌/◌, Bool, cond, ◌||◌, List, length, take, drop, zip, position, Ok, Err, Option, Result, ◌==◌, nat_lt}
use Rattle.std.specs.List.{list_all}
use Rattle.values.specs.declared.refusal.Refusal.{Refusal}
use Rattle.values.specs.declared.refusal.Refusal.TheVariants.{DirectorySize, DirectoryOrder}
use Rattle.directory.specs.declared.directory.Directory.{Directory}

-- the participants' keys, in the order of their numbers
abbrev pub keys_of : Directory → List ℕ
keys_of d = take d.count d.keys

-- of n participants, how many may be faulty
abbrev pub faults : ℕ → ℕ
faults n = (n - 1) / 3

-- of n participants, how many make a quorum
abbrev pub quorum : ℕ → ℕ
quorum n = n - faults n

-- each key is below the next
abbrev pub ascending : List ℕ → Bool
ascending l = list_all (λ p. nat_lt p.0 p.1) (zip l (drop 1 l))

-- what making a directory of these keys answers: the keys it then holds, or why not
abbrev pub directory_of : List ℕ → Result (List ℕ) Refusal
directory_of l =
    cond (length l == 0 || nat_lt 64 (length l)) (Err DirectorySize) (cond (ascending l) (Ok l) (Err DirectoryOrder))

-- the place of a key, from 0
abbrev pub place_of : ℕ → List ℕ → Option ℕ
place_of k l = position (λ x. x == k) l
