-- A position in a list of bytes, and the field that begins there.
use Rattle.std.specs.Prelude.{◌≡◌, ℕ, ◌+◌, ◌≤◌, ◌↔◌, List, length, take, drop, Result, IsOk, IfErr, OnOk, OnErr}
use Rattle.sg_base.specs.declared.byte_in.Short.{Short}

-- bytes, and a position in them
pub record Cursor : Type 0 where
  pub bytes : List ℕ
  pub at : ℕ

-- the n bytes at the position
abbrev pub field : Cursor → ℕ → List ℕ
field p n = take n (drop p.at p.bytes)

-- the position after the next n bytes
abbrev pub past : Cursor → ℕ → Cursor
past p n = record { bytes = p.bytes; at = p.at + n }

-- n bytes are there and the position moves past them, or it stays and is the error
pub record Moves {A : Type 0} (n : ℕ) (old new : Cursor) (result : Result A Short) : Type 0 where
  pub found : IsOk result ↔ (old.at + n ≤ length old.bytes)
  pub moved : OnOk result (new ≡ past old n)
  pub stays : OnErr result (new ≡ old)
  pub offset : IfErr result (λ e. e.at ≡ old.at)
