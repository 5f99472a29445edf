-- The accounts of the sinks that are given here. Assumes nothing.
use Rattle.std.specs.Prelude.{◌-◌, ◌^◌, Some, None, Option}
use Rattle.sinks.specs.declared.counter.Counter.{Counter}
use Rattle.sinks.specs.Sinks.{Account, empty}

-- a counter has room up to 2^64 - 1 pairs
abbrev pub counter_account : Counter → Account
counter_account c = record { count = c.count; latest = c.latest; capacity = 2 ^ 64 - 1 - c.count }

-- an absent sink has no room
abbrev pub option_account : {S : Type 0} → (S → Account) → Option S → Account
option_account account None = empty 0
option_account account (Some s) = account s
