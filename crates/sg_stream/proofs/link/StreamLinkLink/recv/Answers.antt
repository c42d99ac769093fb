use Rattle.std.proofs.Common.{◌∙◌}
use Rattle.sg_stream.proofs.Steps.{none_to_come}
use Rattle.sg_stream.proofs.link.StreamLinkLink.recv.Goals as goal

pub returns-in-Ok-None-clause-none : goal.returns-in-Ok-None-clause-none
returns-in-Ok-None-clause-none g c =
    let idle = rw c.in-Ok-None.field-0-is at c.in-Ok-None.ensures.idle_at_end in
    let done = rw c.in-Ok-None.field-0-is at c.in-Ok-None.ensures.at_end in
    let same = rw c.in-Ok-None.field-0-is at c.in-Ok-None.ensures.kept_at_end in
    rw (← c.self.view_is) (λ all is_known. none_to_come _ _ idle done all (same ∙ is_known))
