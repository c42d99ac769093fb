use Rattle.sg_world.proofs.WalkLaws.{trace_path}
use Rattle.sg_world.proofs.world.World.walk_explaining.Goals as goal

pub returns : goal.returns
returns c =
    trace_path c.args.self.now c.in_ok-traces.traces c.args.sid.now c.in_ok-walk.field-0 c.in-Some.walk c.in_ok-traces.ensures.unbroken c.in_ok-traces.ensures.traces c.in_ok-walk.ensures c.in-Some.is
