-- Which accepted connection gives way.
use Rattle.std.specs.Prelude.{ℕ, ◌<◌, ◌≤◌, List, length, if◌then◌else◌, Option, None, Some, IfSome, IsSomeAnd}
use Rattle.std.specs.List.{All, HoldsAt}
use Rattle.std.specs.Time.{instant_nanos}
use Rattle.sg_port.specs.declared.accepted.Accepted.{Accepted}
use Rattle.mio.specs.declared.net.stream.TcpStream.{TcpStream}

-- when a connection that has nothing to read was heard last, in nanoseconds of the clock
abbrev pub silent_since : Option Accepted → Option ℕ
silent_since None = None
silent_since (Some accepted) = if accepted.ready then None else Some (instant_nanos accepted.heard)

-- the connection in a slot has nothing to read, and none of those that have nothing to read was heard earlier
abbrev pub IsQuietest : List (Option Accepted) → ℕ → Type 0
IsQuietest slots at =
    (at < length slots) × HoldsAt (λ quiet. IsSomeAnd (silent_since quiet) (λ first. All (λ slot. IfSome (silent_since slot) (λ time. first ≤ time)) slots)) slots at

-- the connection in a slot, if there is one
abbrev pub stream_at : Option Accepted → Option TcpStream
stream_at None = None
stream_at (Some accepted) = Some accepted.stream
