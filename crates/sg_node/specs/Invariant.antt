-- What a node keeps true.
use Rattle.std.specs.Prelude.{◌≡◌, ℕ, List, Option, None, Some, Contains, ⊤}
use Rattle.std.specs.List.{AllByRecursion}
use Rattle.sg_protocol.specs.Keyring.{Program}
use Rattle.sg_protocol.specs.Node.{program_for}
use Rattle.sg_protocol.specs.NodeStates.{NodeState}
use Rattle.sg_protocol.specs.IsSchedule.{IsProgram}
use Rattle.sg_protocol.specs.Texts.{real}
use Rattle.sg_protocol.specs.Reachable.{IsReachableAtTurn, IsReachableWaiting}
use Rattle.sg_node.specs.declared.node.Node.TheInside.{Inside}
use Rattle.sg_node.specs.declared.sessions.Live.{Live}
use Rattle.sg_node.specs.declared.sessions.Live.TheVariants.{AtTurn, Waiting}
use Rattle.sg_node.specs.Slots.{Slot, state_in, held_in}

-- the state represents some sound session
abbrev pub IsReachable : Live → Type 0
IsReachable (AtTurn s) = IsReachableAtTurn real s.program s.held
IsReachable (Waiting s) = IsReachableWaiting real s.program s.held

-- a live session stands in the slot of its join, under the program for its graph and role
pub record IsLiveAt (programs : List Program) (id : List ℕ) (r : ℕ) (l : Live) : Type 0 where
  pub sid : (state_in l).held.sid ≡ id
  pub role : (state_in l).held.role ≡ r
  pub program : program_for programs (state_in l).held.cast.graph (state_in l).held.role ≡ Some (state_in l).program
  pub reachable : IsReachable l

-- none is there, or one that is live
abbrev pub IfLive : List Program → List ℕ → ℕ → Option Live → Type 0
IfLive programs sid r None = ⊤
IfLive programs sid r (Some l) = IsLiveAt programs sid r l

-- the pair was joined
abbrev pub IsSlot : List Program → List (List ℕ × ℕ) → Slot → Type 0
IsSlot programs joins s = Contains joins s.0 × IfLive programs (s.0).0 (s.0).1 s.1

-- the programs are programs, and each session stands in the slot of its join
pub record HoldsNode (n : Inside) : Type 0 where
  pub programs : AllByRecursion (IsProgram real) n.programs.now
  pub slots : AllByRecursion (IsSlot n.programs.now n.joins.pairs) n.sessions.slots

-- the state of the node
abbrev pub node_state : Inside → NodeState
node_state n = record { keys = n.keys; programs = n.programs.now; joins = n.joins.pairs; live = held_in n.sessions.slots }
