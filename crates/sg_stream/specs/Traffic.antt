-- What connections hold, and what a call does to it.
use Rattle.std.specs.Prelude.{◌≡◌, ℕ, ◌==◌, not, if◌then◌else◌, List, [], ◌∷◌, ◌++◌, length, drop, filter, Option, Some}
use Rattle.sg_base.specs.declared.address.Addr.{Addr}

-- a connection that was made for writing: its number, where it leads, and the bytes that were given
pub record Writer : Type 0 where
  pub conn : ℕ
  pub to : Addr
  pub bytes : List ℕ

-- the pieces to come, each with its connection's number, an empty one where the connection ends; the connections that were made for
-- writing, the latest first; and the numbers of those that are open
pub record Traffic : Type 0 where
  pub coming : List (ℕ × List ℕ)
  pub given : List Writer
  pub open_ones : List ℕ

-- the pieces to come without those of one connection, up to its end
abbrev pub without : ℕ → List (ℕ × List ℕ) → List (ℕ × List ℕ)
without conn [] = []
without conn (p ∷ ps) = if p.0 == conn then (if length p.1 == 0 then ps else without conn ps) else p ∷ without conn ps

-- a piece was given to the latest connection with this number
abbrev pub with_piece_for : ℕ → List ℕ → List Writer → List Writer
with_piece_for conn piece [] = []
with_piece_for conn piece (w ∷ ws) = if w.conn == conn then record w { bytes = w.bytes ++ piece } ∷ ws else w ∷ with_piece_for conn piece ws

-- the first piece was taken
abbrev pub after_take : Traffic → Traffic
after_take t = record t { coming = drop 1 t.coming }

-- a connection for writing was made
abbrev pub after_connect : ℕ → Addr → Traffic → Traffic
after_connect conn to t = record t { given = record { conn = conn; to = to; bytes = [] } ∷ t.given; open_ones = conn ∷ t.open_ones }

-- a piece was given
abbrev pub after_give : ℕ → List ℕ → Traffic → Traffic
after_give conn piece t = record t { given = with_piece_for conn piece t.given }

-- a connection was closed: no more of its pieces come, and nothing more is given to it
abbrev pub after_close : ℕ → Traffic → Traffic
after_close conn t = record t { coming = without conn t.coming; open_ones = filter (λ c. not (c == conn)) t.open_ones }

-- if the traffic is known, it has this
abbrev pub IfHeld : Option Traffic → (Traffic → Type 0) → Type 0
IfHeld held P = (t : Traffic) → held ≡ Some t → P t
