use Rattle.std.proofs.Common.{◌≡◌, ◌∙◌, subst, Some, None, if◌then◌else◌, option_and_then}
use Rattle.sg_protocol.specs.Frame.{Frame}
use Rattle.sg_node.specs.Slots.{Table, first_index, has_version, is_of_version, is_for}
use Rattle.sg_node.proofs.Indices.{live_at}
use Rattle.sg_node.proofs.Keys.{looked_up}
use Rattle.sg_node.proofs.sessions.Sessions.find_for.Goals as goal

pub returns : goal.returns
returns c = subst (λ (f : Frame). c.if_of_version.result ≡ first_index (is_for f) c.args.self.now.slots) c.frame.view_is
    (c.if_of_version.ensures ∙ subst (λ (t : Table). option_and_then (λ i. if has_version c.frame.inside.version (live_at t.slots i) then Some i else None) c.get_index_of-index.result ≡ first_index (λ s. is_of_version c.frame.inside.version c.frame.inside.sid c.frame.inside.receiver s) t.slots) c.self.view_is
    (looked_up (has_version c.frame.inside.version) c.frame.inside.sid c.frame.inside.receiver c.self.inside.slots.entries c.get_index_of-index.result c.get_index_of-index.ensures.unique c.get_index_of-index.ensures.index))
