-- Frames in a list of bytes.
use Rattle.std.specs.Prelude.{◌≡◌, ◌⊎◌, ℕ, ◌<◌, ◌≤◌, List, ◌++◌, All, length, map, take}
use Rattle.std.specs.List.{concat}
use Rattle.std.specs.Int.{w32, to_be_bytes, from_be_bytes}
use Rattle.sg_model.specs.Limits.{most_frame_bytes}

-- a frame: 1 to 60,000 bytes
pub record IsFrame (frame : List ℕ) : Type 0 where
  pub some : 0 < length frame
  pub fits : length frame ≤ most_frame_bytes

-- the message of a frame: its length in four bytes, the high byte first, and the frame
abbrev pub message : List ℕ → List ℕ
message frame = to_be_bytes w32 (length frame) ++ frame

-- the messages of frames, one after the other
abbrev pub messages : List (List ℕ) → List ℕ
messages frames = concat (map message frames)

-- some prefix of the bytes is a message
abbrev pub BeginsMessage : List ℕ → Type 0
BeginsMessage bytes = (frame : List ℕ) × (rest : List ℕ) × IsFrame frame × (bytes ≡ message frame ++ rest)

-- the bytes are the messages of the frames in order, and then the rest, of which no prefix is a message
pub record Framed (bytes : List ℕ) (frames : List (List ℕ)) (rest : List ℕ) : Type 0 where
  pub each : All IsFrame frames
  pub whole : bytes ≡ messages frames ++ rest
  pub no_more : ¬ BeginsMessage rest

-- the bytes begin with a length that no frame has
pub record BeginsBad (bytes : List ℕ) (len : ℕ) : Type 0 where
  pub whole : 4 ≤ length bytes
  pub spelled : from_be_bytes w32 (take 4 bytes) ≡ len
  pub bad : (len ≡ 0) ⊎ (most_frame_bytes < len)
