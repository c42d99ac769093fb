use Rattle.std.proofs.Common.{map, arith}
use Rattle.sg_walk.specs.Model.{step_of}
use Rattle.sg_certify.specs.Filling.{value_in}
use Rattle.sg_certify.proofs.Unknown.{step_back}
use Rattle.sg_certify.proofs.pass.add_hidden.Goals as goal

pub loop-back-preserved : goal.loop-back-preserved
loop-back-preserved c =
    let both = step_back c.args.graph.now (value_in c.args.kept.now) (value_in c.loop-back.kept) (value_in c.add_step.new.kept) (map step_of c.args.steps.now.items) (map step_of c.loop-back.steps.items) (map step_of c.add_step.new.steps.items)
    c.args.labels.now c.loop-back.back c.index-labels-labels.result c.requires.graph (omega arith) c.index-labels-labels.is c.loop-back.invariant.added c.loop-back.invariant.left c.in_ok-add_step.ensures.step c.in_ok-add_step.ensures.kept in
    record { added = both.0; left = both.1 }
