use Rattle.std.specs.Prelude.{ℕ, ◌+◌, ◌*◌, List, ◌++◌, map}
use Rattle.std.specs.Int.{w32, to_le_bytes}
use Rattle.rand_chacha.specs.ChaCha.{word_at, key_of}
use Rattle.sg_model.specs.Lists.{below}

-- the four bytes of one position of a key stream of ChaCha20 (RFC 8439, section 2.4), low byte first
abbrev pub stream_bytes : List ℕ → ℕ → ℕ → List ℕ
stream_bytes key stream position = to_le_bytes w32 (word_at 10 key stream position)

-- the sixteen bytes of four positions
abbrev pub stream_draw : List ℕ → ℕ → ℕ → List ℕ
stream_draw key stream position =
    stream_bytes key stream position ++ stream_bytes key stream (position + 1)
    ++ stream_bytes key stream (position + 2) ++ stream_bytes key stream (position + 3)

-- the first bytes of a seed, sixteen at a time, one after the other in the key stream
abbrev pub seeded_random : List ℕ → ℕ → List (List ℕ)
seeded_random seed count = map (λ i. stream_draw (key_of seed) 0 (4 * i)) (below count)
