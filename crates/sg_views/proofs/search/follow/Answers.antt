use Rattle.sg_views.proofs.Growing.{extends-trans, followed-all, leads-more}
use Rattle.sg_views.proofs.search.follow.Goals as goal

pub loop-label-preserved : goal.loop-label-preserved
loop-label-preserved c =
    let done = c.in_ok-follow_edge.ensures in
    record {
      searched = done.searched;
      few = done.few;
      extends = extends-trans c.args.states.now c.loop-label.states c.follow_edge.new.states c.loop-label.invariant.extends done.extends;
      followed = leads-more c.args.graph.now c.args.role c.args.states.now c.loop-label.states c.follow_edge.new.states c.args.at c.loop-label.label-index c.edges_from-label-items.result.now c.label-item.result
          c.requires.there c.loop-label.invariant.extends done.extends c.loop-label-test.true c.label-item.is done.leads c.loop-label.invariant.followed;
    }

pub returns-clause-followed : goal.returns-clause-followed
returns-clause-followed c =
    followed-all c.args.graph.now c.args.role c.args.states.now c.loop-label.states c.args.at c.loop-label.label-index c.get.result.now c.edges_from-label-items.result.now
    c.get.ensures c.edges_from-label-items.ensures.all c.loop-label-test.false c.loop-label.invariant.followed
