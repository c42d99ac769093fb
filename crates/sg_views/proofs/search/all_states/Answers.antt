use Rattle.std.proofs.Common.{◌<◌, length, arith}
use Rattle.sg_views.proofs.Growing.{followed-next}
use Rattle.sg_views.proofs.Reached.{no_state}
use Rattle.sg_views.proofs.search.all_states.Goals as goal

pub loop-at-preserved : goal.loop-at-preserved
loop-at-preserved c =
    let done = c.in_ok-follow.ensures in
    let l : c.loop-at.at < length c.loop-at.states = omega (arith, c.loop-at-test.true, c.len.ensures.len) in
    record {
      searched = done.searched;
      followed = followed-next c.args.graph.now c.args.role c.loop-at.states c.follow.new.states c.loop-at.at no_state done.extends l done.followed c.loop-at.invariant.followed;
      few = done.few;
    }

pub loop-at-init : goal.loop-at-init
loop-at-init c = record {
  searched = c.in_ok-states.ensures.searched c.args.role;
  followed = λ i d l m e n s. absurd (omega arith);
  few = c.in_ok-states.ensures.few;
}

pub returns-clause-found : goal.returns-clause-found
returns-clause-found c = record {
  searched = c.loop-at.invariant.searched;
  followed = λ i d l m. c.loop-at.invariant.followed i d (omega (arith, m, c.loop-at-test.false, c.len.ensures.len)) m;
  few = c.loop-at.invariant.few;
}
