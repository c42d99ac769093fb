-- What the states of a role hold.
use Rattle.sg_vis.specs.Model.{origin_of}
use Rattle.sg_protocol.specs.Keyring.{Program}
use Rattle.sg_protocol.specs.Representation.{Held}
use Rattle.sg_role.specs.declared.kept_state.KeptState.{KeptState}

-- the program of a role, and what the role holds of a session
pub record RoleState : Type 0 where
  pub program : Program
  pub held : Held

-- the state whose parts are kept
abbrev pub state_of : KeptState → RoleState
state_of k = record {
  program = k.program.now;
  held = record {
    sid = k.sid;
    cast = k.cast;
    role = k.program.now.role;
    kept = record {
      origin = origin_of k.from;
      own_time = k.own_time;
      time = k.time;
      place = k.place;
      items = k.items.items;
      commitments = k.commitments.items;
      openings = k.openings.items;
    };
  };
}
