use Rattle.std.proofs.Common.{◌∙◌, ap}
use Rattle.sg_again.specs.LastFrames.{LastFrames, sent}
use Rattle.sg_again.proofs.Kept.{sent_is}
use Rattle.sg_again.proofs.frames.LastFrames.sent.Goals as goal

pub returns-clause-ok : goal.returns-clause-ok
returns-clause-ok c =
    sent_is c.self.inside.frames.entries c.put_frame.new.frames.entries c.self.inside.over.items c.args.sid c.args.frame c.new.result c.is_over-live.result c.is_over-live.ensures c.new.ensures c.in_ok-put_frame.ensures.ok
    ∙ ap (λ (l : LastFrames). sent l c.args.sid c.args.frame) c.self.view_is
