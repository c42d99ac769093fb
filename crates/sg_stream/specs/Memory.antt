-- What connections in memory hold.
use Rattle.std.specs.Prelude.{ℕ, List, Option, Some, None, [], ◌∷◌, map, reverse}
use Rattle.sg_base.specs.Memory.{FaultPlan, SinkHeld}
use Rattle.sg_base.specs.declared.address.Addr.{Addr}
use Rattle.sg_stream.specs.declared.conns.ConnFaults.{ConnFaults}
use Rattle.sg_stream.specs.Traffic.{Writer, Traffic}

-- the address at which they wait, the traffic, for how many more connections there is room, which calls fail, and how often each did
pub record ConnsHeld : Type 0 where
  pub bound : Option Addr
  pub traffic : Traffic
  pub room : ℕ
  pub plan : FaultPlan
  pub faults : ConnFaults

-- the one connection that may be open for writing, which has the number 255
abbrev pub writer_of : Addr × SinkHeld → Writer
writer_of w = record { conn = 255; to = w.0; bytes = w.1.bytes }

-- the connections that were made, the latest first
abbrev pub all_given : Option (Addr × SinkHeld) → List (Addr × SinkHeld) → List Writer
all_given None closed = reverse (map writer_of closed)
all_given (Some w) closed = writer_of w ∷ reverse (map writer_of closed)

-- the number of the one that is open
abbrev pub number_of : Option (Addr × SinkHeld) → List ℕ
number_of None = []
number_of (Some w) = 255 ∷ []
