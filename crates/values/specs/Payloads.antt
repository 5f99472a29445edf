-- The words of the two payload kinds, and which words name a payload. Assumes nothing.
use Rattle.std.specs.Prelude.{◌^◌, cond, ◌&&◌, Some, None, Option, ◌==◌, nat_lt}
use Rattle.values.specs.declared.payload.Words.{Words}
use Rattle.values.specs.declared.payload.Digest.{Digest}
use Rattle.values.specs.declared.payload.BlockName.{BlockName}

-- the words of no payload in particular, where there is none to name
abbrev pub no_words : Words
no_words = record { w1 = 0; w2 = 0; w3 = 0; w4 = 0 }

abbrev pub digest_words : Digest → Words
digest_words d = record { w1 = d.w1; w2 = d.w2; w3 = d.w3; w4 = d.w4 }

-- any four words are a digest
abbrev pub digest_of : Words → Option Digest
digest_of w = Some (record { w1 = w.w1; w2 = w.w2; w3 = w.w3; w4 = w.w4 })

abbrev pub block_words : BlockName → Words
block_words b = record { w1 = b.sledge; w2 = b.second; w3 = b.ordinal; w4 = 0 }

-- a sledge of 16 bits, a second of 64, an ordinal of 32, and 0
abbrev pub block_of : Words → Option BlockName
block_of w =
    cond (nat_lt w.w1 (2 ^ 16) && (nat_lt w.w3 (2 ^ 32) && w.w4 == 0))
    (Some (record { sledge = w.w1; second = w.w2; ordinal = w.w3 }))
    None
