-- What an acceptance holds, and what becomes of a state that takes it.
use Rattle.std.specs.Prelude.{ℕ, ◌==◌, Bool}
use Rattle.std.specs.List.{list_any}
use Rattle.sg_protocol.specs.Graph.{Graph}
use Rattle.sg_protocol.specs.Keyring.{Program}
use Rattle.sg_protocol.specs.Calls.{Event}
use Rattle.sg_protocol.specs.Representation.{Held}
use Rattle.sg_walk.specs.Model.{event_of}
use Rattle.sg_role.specs.declared.accepted.Accepted.TheInside.{Inside}
use Rattle.sg_role.specs.Model.{RoleState, state_of}

-- a frame that was accepted: the program, what the role held when the frame was looked at, what it holds with the frame, what it received, and the number of the view that it was shown
pub record Acceptance : Type 0 where
  pub program : Program
  pub before : Held
  pub after : Held
  pub event : Event
  pub view : ℕ

-- the acceptance that is kept
abbrev pub acceptance_of : Inside → Acceptance
acceptance_of a = record {
  program = (state_of a.after.value).program;
  before = (state_of a.before.value).held;
  after = (state_of a.after.value).held;
  event = event_of a.event;
  view = a.view;
}

-- the state with the frame
abbrev pub state_after : Acceptance → RoleState
state_after a = record { program = a.program; held = a.after }

-- an edge leaves the node
abbrev pub goes_on : Graph → ℕ → Bool
goes_on g n = list_any (λ e. e.source == n) g.edges
