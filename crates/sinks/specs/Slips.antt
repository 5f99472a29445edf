-- What settling a ruling tells a sink. Assumes nothing.
use Rattle.std.specs.Option.{option_map, unwrap_or}
use Rattle.values.specs.Numbered.{cause_number}
use Rattle.sinks.specs.declared.slip.Ruling.{Ruling}
use Rattle.sinks.specs.Sinks.{Account, told}

-- the sender's key and the cause's number, or nothing without a cause
abbrev pub settled : Ruling → Account → Account
settled v a = unwrap_or (option_map (λ c. told a (record { first = v.key; second = cause_number c })) v.cause) a
