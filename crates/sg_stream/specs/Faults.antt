-- What a fault of a reader says of the bytes.
use Rattle.std.specs.Prelude.{ℕ, List}
use Rattle.sg_stream.specs.Framed.{BeginsBad}
use Rattle.sg_stream.specs.declared.reader.StreamFault.{StreamFault}
use Rattle.sg_stream.specs.declared.reader.StreamFault.TheVariants.{BadLength, OutOfMemory}

-- a bad length that the bytes begin with, and nothing else
abbrev pub IsBad : List ℕ → StreamFault → Type 0
IsBad bytes (BadLength len) = BeginsBad bytes len
IsBad bytes OutOfMemory = ⊥
