use Rattle.std.proofs.Common.{◌≡◌}
use Rattle.sg_node.specs.Slots.{first_index}
use Rattle.sg_node.proofs.Keys.{is_below}
use Rattle.sg_node.proofs.sessions.Sessions.first.Given as goal

-- the first slot of a role before this one
abbrev pub invariant-loop-role : goal.invariant-loop-role
invariant-loop-role l = l.first ≡ first_index (is_below l.only_turns l.sid l.role) l.self.slots
