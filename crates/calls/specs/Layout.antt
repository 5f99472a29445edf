-- The bytes of a record: numbers, the lowest byte first, and where each field lies. Assumes nothing.
use Rattle.std.specs.Prelude.{ℕ, List, ◌++◌, take, drop}
use Rattle.std.specs.Simd.Lanes.{number_l, digits_l}
use Rattle.calls.specs.declared.fields.Fields.{Fields}

-- the number that these bytes hold
abbrev pub number_in : List ℕ → ℕ
number_in b = number_l 256 b

-- the number that so many bytes from a place on hold
abbrev pub number_at : ℕ → ℕ → List ℕ → ℕ
number_at at width b = number_in (take width (drop at b))

-- a number in so many bytes
abbrev pub bytes_of : ℕ → ℕ → List ℕ
bytes_of width n = digits_l 256 width n

-- the fields that a record's bytes hold
abbrev pub fields_in : List ℕ → Fields
fields_in b =
    record {
      call = number_at 0 1 b;
      kind = number_at 1 1 b;
      gap = number_at 2 6 b;
      key = number_at 8 8 b;
      participant = number_at 16 4 b;
      space = number_at 20 4 b;
      round = record { epoch = number_at 24 8 b; view = number_at 32 8 b };
      parent = number_at 40 8 b;
      words = record { w1 = number_at 48 8 b; w2 = number_at 56 8 b; w3 = number_at 64 8 b; w4 = number_at 72 8 b };
      signature = number_at 80 8 b;
    }

-- the 88 bytes that hold these fields
abbrev pub layout : Fields → List ℕ
layout f =
    bytes_of 1 f.call ++ bytes_of 1 f.kind ++ bytes_of 6 f.gap ++ bytes_of 8 f.key
    ++ bytes_of 4 f.participant ++ bytes_of 4 f.space
    ++ bytes_of 8 f.round.epoch ++ bytes_of 8 f.round.view
    ++ bytes_of 8 f.parent
    ++ bytes_of 8 f.words.w1 ++ bytes_of 8 f.words.w2 ++ bytes_of 8 f.words.w3 ++ bytes_of 8 f.words.w4
    ++ bytes_of 8 f.signature
