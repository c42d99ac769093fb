use Rattle.std.proofs.Common.{Some, sym, ◌∙◌, ap}
use Rattle.sg_protocol.specs.Frame.{Frame}
use Rattle.sg_node.proofs.node.Node.take_frame.Goals as goal

pub join-requires : goal.join-requires
join-requires c = record { joins = sym (ap (λ (f : Frame). f.join) (c.frame.view_is ∙ c.frame-frame.ensures.frame)) ∙ c.in-Some.is ∙ ap (λ z. Some z) (sym c.get.ensures) }

pub continue_session-requires : goal.continue_session-requires
continue_session-requires c = record { continues = sym (ap (λ (f : Frame). f.join) (c.frame.view_is ∙ c.frame-frame.ensures.frame)) ∙ c.in-None.is }
