use Rattle.std.proofs.Common.{◌∙◌, refl, ap}
use Rattle.sg_certify.specs.Adding.{with_shown}
use Rattle.sg_certify.specs.Traces.{Trace}
use Rattle.sg_walk.specs.Model.{event_of}
use Rattle.sg_certify.proofs.Taking.{shown_more}
use Rattle.sg_certify.proofs.trace.Trace.add.Goals as goal

pub returns-clause-ok : goal.returns-clause-ok
returns-clause-ok c =
    ap (λ l. record { graph = c.self.inside.graph.now; honest = c.self.inside.honest; shown = l })
    (shown_more _ c.self.inside.shown.items c.push.new.self.items (record { event = c.args.event; walk = c.args.walk }) refl c.in_ok-push.ensures.items)
    ∙ ap (λ (x : Trace). with_shown x (event_of c.args.event.now) c.args.walk.now) c.self.view_is
