-- What each state of a role keeps true.
use Rattle.std.specs.Prelude.{◌≡◌, length}
use Rattle.sg_protocol.specs.Reachable.{IsReachableBefore, IsReachableWaiting, IsReachableAtTurn}
use Rattle.sg_protocol.specs.Texts.{real}
use Rattle.sg_role.specs.Model.{RoleState}

-- the cast has a principal for each role of the graph
abbrev pub IsCounted : RoleState → Type 0
IsCounted s = length s.held.cast.names ≡ length s.program.graph.roles

-- the state represents some sound session, which is new or ends with an own item
pub record HoldsBefore (s : RoleState) : Type 0 where
  pub counted : IsCounted s
  pub reachable : IsReachableBefore real s.program s.held

-- the state represents some sound session, at whose place another role has the turn
pub record HoldsWaiting (s : RoleState) : Type 0 where
  pub counted : IsCounted s
  pub reachable : IsReachableWaiting real s.program s.held

-- the state represents some sound session, at whose place the role has the turn
pub record HoldsTurn (s : RoleState) : Type 0 where
  pub counted : IsCounted s
  pub reachable : IsReachableAtTurn real s.program s.held
