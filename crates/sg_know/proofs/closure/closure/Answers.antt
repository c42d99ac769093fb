use Rattle.std.proofs.Common.{◌≡◌, ℕ, ◌<◌, length, subst, arith}
use Rattle.sg_know.specs.States.{begin}
use Rattle.sg_know.proofs.Reaching.{AreFollowed, AreFollowed-more, Extends-length, Has-extends, followed_whole}
use Rattle.sg_know.proofs.closure.closure.Goals as goal

pub loop-at-preserved : goal.loop-at-preserved
loop-at-preserved c =
    let old = c.loop-at.states in
    let new = c.follow.new.states in
    let held = c.loop-at.invariant in
    let f = c.in_ok-follow.ensures in
    let within : c.loop-at.at < length old = omega arith in
    record {
      reached = f.reached;
      nodes = f.nodes;
      start = Has-extends old new begin.state f.grows held.start;
      followed = AreFollowed-more c.args.graph.now c.args.role c.args.var c.loop-at.at old new f.grows within held.followed f.followed;
      within = omega (arith, Extends-length old new f.grows);
    }

pub returns : goal.returns
returns c =
    let held = c.loop-at.invariant in
    let end : c.loop-at.at ≡ length c.loop-at.states = omega arith in
    record {
      reached = held.reached;
      whole = followed_whole c.args.graph.now c.args.role c.args.var c.loop-at.states held.start
          (subst (λ (n : ℕ). AreFollowed c.args.graph.now c.args.role c.args.var n c.loop-at.states) end held.followed);
    }
