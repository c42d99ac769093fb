use Rattle.sg_protocol.specs.Calls.{Act}
use Rattle.sg_walk.specs.Model.{values_of}
use Rattle.sg_play.proofs.Called.{results_made}
use Rattle.sg_play.proofs.ask.ask_act.Goals as goal

pub returns-in-Ok-clause-is_asked : goal.returns-in-Ok-clause-is_asked
returns-in-Ok-clause-is_asked c = λ past represents. results_made c.args.keys.now c.args.frames.now c.with_made.result c.args.node.now c.ask_numbered.new.node past (Act c.args.sid c.args.label (values_of c.args.values.now) c.args.confounders.now) c.next_frame-number.result
    c.in-Ok.outcome c.in-Ok.sealed c.addressed-frame.result c.next_frame-number.ensures (c.in-Ok.ensures.is_asked past represents)
    c.addressed-frame.ensures c.with_made.ensures
