-- What a connection brought.
use Rattle.std.specs.Prelude.{◌≤◌, length}
use Rattle.sg_model.specs.Limits.{most_frame_bytes}
use Rattle.sg_port.specs.declared.parcel.Brought.{Brought}
use Rattle.sg_port.specs.declared.parcel.Brought.TheVariants.{Frame, Nothing, End, OutOfMemory}

-- a frame that came has at most 60,000 bytes
abbrev pub Fits : Brought → Type 0
Fits (Frame bytes) = length bytes.items ≤ most_frame_bytes
Fits Nothing = Unit {0}
Fits End = Unit {0}
Fits OutOfMemory = Unit {0}
