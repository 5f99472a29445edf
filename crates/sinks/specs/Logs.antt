-- What a log holds, and what it writes. Assumes nothing.
use Rattle.std.specs.Prelude.{ℕ, ◌+◌, ◌-◌, ◌*◌, ◌/◌, cond, List, ◌++◌, length, take, drop, nat_le}
use Rattle.sinks.specs.declared.log.Log.{Log}
use Rattle.sinks.specs.declared.pair.Pair.{Pair}
use Rattle.sinks.specs.Pairs.{pair_bytes}
use Rattle.sinks.specs.Sinks.{Account}

-- a log has room for a pair in each 16 bytes
abbrev pub log_account : Log → Account
log_account l =
    record {
      count = l.written.count;
      latest = l.written.latest;
      capacity = length l.bytes.now / 16 - l.written.count;
    }

-- bytes with a pair written behind so many others, or as they were without room for it
abbrev pub logged_bytes : Pair → ℕ → List ℕ → List ℕ
logged_bytes p count b =
    cond (nat_le (16 * count + 16) (length b)) (take (16 * count) b ++ pair_bytes p ++ drop (16 * count + 16) b) b
