-- What a link over connections holds, the frames that it is still to give, and those that went out.
use Rattle.std.specs.Prelude.{◌≡◌, ◌⊎◌, ◌<◌, ◌≤◌, ℕ, ◌+◌, List, [], ◌∷◌, ◌++◌, map, length, reverse, take, slice_index_or, Option, Some}
use Rattle.std.specs.Option.{option_map}
use Rattle.std.specs.List.{flat_map}
use Rattle.sg_base.specs.declared.address.Addr.{Addr}
use Rattle.sg_stream.specs.Framed.{BeginsMessage, BeginsBad}
use Rattle.sg_stream.specs.Traffic.{Writer, Traffic, after_give, IfHeld}
use Rattle.sg_stream.specs.Frames.{frames_of}
use Rattle.sg_stream.specs.Arrivals.{arrivals}

-- what a link took and did not give yet: what each connection has left, by its number, and a piece that found no memory
pub record Unread : Type 0 where
  pub lefts : List (List ℕ)
  pub kept : List (ℕ × List ℕ)

-- a link: its connections, what it took and did not give yet, and its own count of faults
pub record StreamHeld (C : Type 0) : Type 0 where
  pub conns : C
  pub unread : Unread
  pub faults : ℕ

-- the piece that was kept, if there is one
abbrev pub kept_piece : ℕ → List ℕ → List (ℕ × List ℕ)
kept_piece conn [] = []
kept_piece conn (b ∷ bytes) = (conn, b ∷ bytes) ∷ []

-- lists of bytes as pieces, with numbers from this one on
abbrev pub numbered : ℕ → List (List ℕ) → List (ℕ × List ℕ)
numbered conn [] = []
numbered conn (bytes ∷ lefts) = (conn, bytes) ∷ numbered (conn + 1) lefts

-- what a link took and did not give yet, as the pieces of its connections
abbrev pub pieces_of : Unread → List (ℕ × List ℕ)
pieces_of u = numbered 0 u.lefts ++ u.kept

-- the bytes hold no whole message and no bad length
pub record IsPart (bytes : List ℕ) : Type 0 where
  pub no_message : ¬ BeginsMessage bytes
  pub no_bad : (len : ℕ) → ¬ BeginsBad bytes len

-- no connection has a whole message or a bad length left, and no piece is kept
pub record IsIdle (u : Unread) : Type 0 where
  pub parts : (conn : ℕ) → IsPart (slice_index_or u.lefts conn [])
  pub none_kept : u.kept ≡ []

-- the frames to come, if the traffic is known: those of what was not given yet, followed by the pieces to come
abbrev pub to_come : Unread → Option Traffic → Option (List (List ℕ))
to_come u held = option_map (λ t. arrivals (pieces_of u ++ t.coming)) held

-- the frames that went out: those of the bytes that each connection was given
abbrev pub gone_out : List Writer → List (Addr × List ℕ)
gone_out given = flat_map (λ w. map (λ f. (w.to, f)) (frames_of w.bytes)) (reverse given)

-- the frames that went out, if the traffic is known
abbrev pub sent_of : Option Traffic → Option (List (Addr × List ℕ))
sent_of held = option_map (λ t. gone_out t.given) held

-- at least `count` pieces were taken, if the traffic is known
abbrev pub TakenOff : ℕ → Option Traffic → Option Traffic → Type 0
TakenOff count old new = (t : Traffic) → old ≡ Some t → (after : Traffic) × (new ≡ Some after) × (count + length after.coming ≤ length t.coming)

-- a prefix of the bytes, and not all of them, was given to a connection
abbrev pub GavePrefix : ℕ → List ℕ → Option Traffic → Option Traffic → Type 0
GavePrefix conn bytes old new = (count : ℕ) × (count < length bytes) × (new ≡ option_map (after_give conn (take count bytes)) old)

-- one more connection was made for writing, was given these bytes, and was closed
pub record Wrote (to : Addr) (bytes : List ℕ) (old new : Traffic) : Type 0 where
  pub given : (conn : ℕ) × (new.given ≡ record { conn = conn; to = to; bytes = bytes } ∷ old.given)
  pub coming : new.coming ≡ old.coming
  pub open_ones : new.open_ones ≡ old.open_ones

-- the same, if the traffic is known
abbrev pub WroteIfHeld : Addr → List ℕ → Option Traffic → Option Traffic → Type 0
WroteIfHeld to bytes old new = IfHeld old (λ t. (after : Traffic) × (new ≡ Some after) × Wrote to bytes t after)

-- a prefix of the bytes, and not all of them, was written so, or no connection was made
abbrev pub WrotePrefix : Addr → List ℕ → Option Traffic → Option Traffic → Type 0
WrotePrefix to bytes old new = (new ≡ old) ⊎ ((count : ℕ) × (count < length bytes) × WroteIfHeld to (take count bytes) old new)
