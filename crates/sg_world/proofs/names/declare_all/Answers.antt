use Rattle.std.proofs.Common.{[], take, refl, ap, ◌∙◌}
use Rattle.sg_text.specs.Sessions.{naming, with_declared}
use Rattle.sg_protocol.specs.Schedule.{NamedSession}
use Rattle.sg_world.specs.KeptLines.{known_in}
use Rattle.sg_world.proofs.NamesMore.{declared_step}
use Rattle.sg_world.proofs.names.declare_all.Goals as goal

pub loop-index-preserved : goal.loop-index-preserved
loop-index-preserved c = λ start.
    let m = known_in (take c.loop-index.index c.args.sessions.now) [] in
    c.in_ok-declare.ensures.ok 120 m refl (c.loop-index.invariant start)
    ∙ ap (naming 120) (ap (λ (d : NamedSession). with_declared m d.name c.index-sids-index.result) c.session.view_is
    ∙ declared_step c.args.sessions.now c.args.sids.now c.loop-index.index c.index-sessions-index.result c.index-sids-index.result c.requires c.loop-index-test.true c.index-sessions-index.is c.index-sids-index.is)
