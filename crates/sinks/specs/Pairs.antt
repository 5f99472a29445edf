-- The bytes of a pair. Assumes nothing.
use Rattle.std.specs.Prelude.{ℕ, List, ◌++◌}
use Rattle.std.specs.Int.{to_le_bytes, w64}
use Rattle.sinks.specs.declared.pair.Pair.{Pair}

-- 16 bytes: two numbers, the lowest byte first
abbrev pub pair_bytes : Pair → List ℕ
pair_bytes p = to_le_bytes w64 p.first ++ to_le_bytes w64 p.second
