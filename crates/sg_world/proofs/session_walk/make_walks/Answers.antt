use Rattle.std.proofs.Common.{arith, map}
use Rattle.sg_world.specs.Walked.{sid_and_steps}
use Rattle.sg_world.proofs.WalkLaws.{all_made, more_made}
use Rattle.sg_world.proofs.session_walk.make_walks.Goals as goal

pub loop-index-preserved : goal.loop-index-preserved
loop-index-preserved c = more_made c.args.traces.now c.loop-index.index (map sid_and_steps c.loop-index.walks.items) (map sid_and_steps c.add_walk.new.walks.items) c.loop-index.invariant c.in_ok-add_walk.ensures

pub returns : goal.returns
returns c =
    let last = c.loop-index-test.false in
    let end = c.loop-index.auto.index-end in
    let many = c.len-index-end.ensures in
    all_made c.args.traces.now c.loop-index.index (map sid_and_steps c.loop-index.walks.items) c.loop-index.invariant (omega (arith, last, end, many))
