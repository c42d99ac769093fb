-- The texts that are hashed or tagged, and the tag. What hashes is sha; the program has SHA-256 for it.
use Rattle.std.specs.Prelude.{ℕ, ◌-◌, ◌==◌, nat_lt, if◌then◌else◌, List, [], ◌∷◌, ◌++◌, map, length, take, replicate, codes, flat_map, bit_xor, Option, Some, None}
use Rattle.std.specs.List.{concat}
use Rattle.sha2.specs.Sha256.{sha256}
use Rattle.sg_protocol.specs.Graph.{Graph, canonical}
use Rattle.sg_protocol.specs.Frame.{Cast}
use Rattle.sg_model.specs.Values.{Opening}
use Rattle.sg_protocol.specs.Spelling.{u8, u16, u32, short_text, opening_bytes}
use Rattle.sg_model.specs.Bytes.{AreBytes}

-- what makes a digest of a text
abbrev pub Hash : Type 0
Hash = List ℕ → List ℕ

-- a digest is 32 bytes, as that of SHA-256 is
abbrev pub IsHash : Hash → Type 0
IsHash sha = (text : List ℕ) → AreBytes 32 (sha text)

-- SHA-256
abbrev pub real : Hash
real = sha256

-- ---- the tag of RFC 2104

-- a key as a block of 64 bytes: a longer one hashed, and zeros after it
abbrev pub key_block : Hash → List ℕ → List ℕ
key_block sha key = let short = if nat_lt 64 (length key) then sha key else key in short ++ replicate (64 - length short) 0

-- each byte, XORed with the pad
abbrev pub padded : ℕ → List ℕ → List ℕ
padded pad block = map (λ b. bit_xor pad b) block

-- HMAC
abbrev pub hmac : Hash → List ℕ → List ℕ → List ℕ
hmac sha key text = sha (padded 0x5C (key_block sha key) ++ sha (padded 0x36 (key_block sha key) ++ text))

-- version 2 keeps the first sixteen bytes of a tag, and zeros for the others
abbrev pub cut : ℕ → List ℕ → List ℕ
cut version tag = if version == 2 then take 16 tag ++ replicate 16 0 else tag

-- ---- the texts

-- the text under a graph's digest
abbrev pub graph_text_of : Graph → List ℕ
graph_text_of g = codes "sg-graph-1" ++ canonical g

-- the text under a session's identifier
abbrev pub session_text_of : Cast → List ℕ
session_text_of c = concat ((if c.version == 2 then codes "sg-session-2" else codes "sg-session-1") ∷ c.graph ∷ c.nonce ∷ u8 (length c.names) ∷ flat_map short_text c.names ∷ [])

-- the text under a commitment
abbrev pub commitment_text_of : List ℕ → Opening → List ℕ
commitment_text_of sid o = concat (codes "sg-commit-1" ∷ sid ∷ opening_bytes o ∷ [])

-- the byte 0, or the byte 1 and the commitment
abbrev pub maybe_commitment : Option (List ℕ) → List ℕ
maybe_commitment None = u8 0
maybe_commitment (Some c) = u8 1 ++ c

-- what the sender's tag for the target says: the step, and every current commitment
abbrev pub item_text_of : ℕ → List ℕ → ℕ → ℕ → ℕ → ℕ → List (Option (List ℕ)) → List ℕ
item_text_of version sid sender target label time commitments =
    concat ((if version == 2 then codes "sg-item-2" else codes "sg-item-1") ∷ sid ∷ u8 sender ∷ u8 target ∷ u16 label ∷ u32 time ∷ flat_map maybe_commitment commitments ∷ [])

-- the text under a frame's tag
abbrev pub frame_text_of : ℕ → List ℕ → List ℕ
frame_text_of version body = (if version == 2 then codes "sg-frame-2" else codes "sg-frame-1") ++ body

-- ---- what is hashed

-- the digest of a graph
abbrev pub graph_digest : Hash → Graph → List ℕ
graph_digest sha g = sha (graph_text_of g)

-- the identifier of a session
abbrev pub session_id : Hash → Cast → List ℕ
session_id sha c = sha (session_text_of c)

-- the commitment that an opening opens
abbrev pub commitment : Hash → List ℕ → Opening → List ℕ
commitment sha sid o = sha (commitment_text_of sid o)
