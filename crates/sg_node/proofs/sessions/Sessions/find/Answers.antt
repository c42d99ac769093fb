use Rattle.std.proofs.Common.{◌≡◌, ◌∙◌, subst, Some, None, if◌then◌else◌, option_and_then}
use Rattle.sg_node.specs.Slots.{Table, first_index, is_live, is_of_role}
use Rattle.sg_node.proofs.Indices.{live_at}
use Rattle.sg_node.proofs.Keys.{looked_up}
use Rattle.sg_node.proofs.sessions.Sessions.find.Goals as goal

pub returns : goal.returns
returns c = c.if_live.ensures ∙ subst (λ (t : Table). option_and_then (λ i. if is_live c.args.only_turns (live_at t.slots i) then Some i else None) c.get_index_of-index.result ≡ first_index (is_of_role c.args.only_turns c.args.sid.now c.args.role) t.slots) c.self.view_is
    (looked_up (is_live c.args.only_turns) c.args.sid.now c.args.role c.self.inside.slots.entries c.get_index_of-index.result c.get_index_of-index.ensures.unique c.get_index_of-index.ensures.index)
