use Rattle.std.proofs.Common.{slice_get}
use Rattle.sg_world.proofs.WalkLaws.{walk_added}
use Rattle.sg_world.proofs.session_walk.add_walk.Goals as goal

pub returns-in_ok-push-in-Some : goal.returns-in_ok-push-in-Some
returns-in_ok-push-in-Some c =
    walk_added c.args.walks.now.items c.push.new.self.items (slice_get c.args.traces.now c.args.index) c.in-Some.entry.0 c.in_ok-walk-in-Some.walk c.in-Some.entry.1.now c.in_ok-push-in-Some.ensures.items c.in_ok-walk-in-Some.ensures c.in-Some.ensures
