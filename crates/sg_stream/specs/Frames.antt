-- The frames of a list of bytes, computed. That they are the frames of `Framed` is a law.
use Rattle.std.specs.Prelude.{ℕ, ◌+◌, Bool, ◌&&◌, nat_lt, nat_le, if◌then◌else◌, zero, suc, List, [], ◌∷◌, length, take, drop}
use Rattle.std.specs.Str.{bytes_eq}
use Rattle.std.specs.Int.{w32, to_be_bytes, from_be_bytes}
use Rattle.sg_model.specs.Limits.{most_frame_bytes}

-- the number that the first four bytes spell
abbrev pub first_length : List ℕ → ℕ
first_length bytes = from_be_bytes w32 (take 4 bytes)

-- the bytes begin with a message
unfoldable pub begins_message : List ℕ → Bool
begins_message bytes =
    bytes_eq (to_be_bytes w32 (first_length bytes)) (take 4 bytes) && (nat_lt 0 (first_length bytes) && (nat_le (first_length bytes) most_frame_bytes && nat_le (4 + first_length bytes) (length bytes)))

-- the bytes after the first message
abbrev pub behind_first : List ℕ → List ℕ
behind_first bytes = drop (4 + first_length bytes) bytes

-- the frames of the first messages, at most n of them, and the bytes after these
abbrev pub frames_within : ℕ → List ℕ → List (List ℕ)
frames_within zero bytes = []
frames_within (suc most) bytes =
    if begins_message bytes then take (first_length bytes) (drop 4 bytes) ∷ frames_within most (behind_first bytes) else []

abbrev pub rest_within : ℕ → List ℕ → List ℕ
rest_within zero bytes = bytes
rest_within (suc most) bytes = if begins_message bytes then rest_within most (behind_first bytes) else bytes

-- the frames whose messages the bytes begin with, and the rest
unfoldable pub frames_of : List ℕ → List (List ℕ)
frames_of bytes = frames_within (length bytes) bytes

unfoldable pub rest_of : List ℕ → List ℕ
rest_of bytes = rest_within (length bytes) bytes
