-- A frame beside the bytes that spell it.
use Rattle.std.specs.Prelude.{◌≡◌, ℕ, List, Ok}
use Rattle.sg_protocol.specs.Frame.{Frame}
use Rattle.sg_protocol.specs.Reading.{read}
use Rattle.sg_protocol.specs.Spelling.{SpellsFrame}

-- a frame, and the bytes that it was read from
pub record ReadFrame : Type 0 where
  pub frame : Frame
  pub bytes : List ℕ

-- the bytes are the frame's spelling, and the frame is what is read of them
pub record IsReading (r : ReadFrame) : Type 0 where
  pub spelled : SpellsFrame r.bytes r.frame
  pub read : read r.bytes ≡ Ok r.frame
