-- What is known of a sink, and what telling it a pair does to that. Assumes nothing.
use Rattle.std.specs.Prelude.{ℕ, ◌+◌, ◌-◌, cond, ◌==◌}
use Rattle.sinks.specs.declared.pair.Pair.{Pair}

-- how many pairs a sink was told, the latest of them, and for how many more it has room
pub record Account : Type 0 where
  pub count : ℕ
  pub latest : Pair
  pub capacity : ℕ

-- one more pair, or nothing where there is no room
abbrev pub told : Account → Pair → Account
told a p = cond (a.capacity == 0) a (record { count = a.count + 1; latest = p; capacity = a.capacity - 1 })

abbrev pub no_pair : Pair
no_pair = record { first = 0; second = 0 }

-- a sink that was told nothing, with room for so many pairs
abbrev pub empty : ℕ → Account
empty room = record { count = 0; latest = no_pair; capacity = room }
