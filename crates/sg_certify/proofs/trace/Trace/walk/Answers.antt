use Rattle.std.proofs.Common.{map, IfOk, ◌≡◌, [], ap, subst}
use Rattle.sg_certify.specs.Events.{explaining_walk, pair_of}
use Rattle.sg_model.specs.Lists.{is_in}
use Rattle.sg_walk.specs.Model.{steps_of}
use Rattle.sg_certify.specs.Traces.{Trace}
use Rattle.sg_certify.proofs.trace.Trace.walk.Goals as goal

pub returns : goal.returns
returns c =
    subst (λ (x : Trace). IfOk c.explain.result (λ w. steps_of w ≡ explaining_walk x.graph (λ r. is_in r x.honest) [] x.shown)) c.self.view_is
    (subst (λ ps. IfOk c.explain.result (λ w. steps_of w ≡ explaining_walk c.self.inside.graph.now (λ r. is_in r c.self.inside.honest) [] ps)) (ap (map pair_of) c.as_slice.ensures.value) c.explain.ensures)
