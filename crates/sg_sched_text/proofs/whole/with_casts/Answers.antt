use Rattle.std.proofs.Common.{◌∙◌, ap, length, ◌++◌, ◌∷◌, []}
use Rattle.sg_protocol.specs.Schedule.{NamedSession}
use Rattle.sg_sched_text.specs.Holding.{HasCast}
use Rattle.sg_sched_text.specs.Sessions.{session_of}
use Rattle.sg_sched_text.specs.Whole.{declared_by}
use Rattle.sg_sched_text.proofs.WholeLaws.{held_at, made_more}
use Rattle.sg_sched_text.proofs.whole.with_casts.Goals as goal

pub with_cast-requires : goal.with_cast-requires
with_cast-requires c = held_at (HasCast (length c.args.digests.now)) c.args.sessions.now c.loop-index.index (session_of c.at-name.result.0 c.at-name.result.1.now) c.requires c.at-name.ensures

pub loop-index-preserved : goal.loop-index-preserved
loop-index-preserved c =
    c.in_ok-push.ensures.ok ∙ ap (λ (d : NamedSession). c.loop-index.found ++ d ∷ []) c.with_cast.ensures
    ∙ made_more (declared_by c.args.digests.now) c.args.sessions.now c.loop-index.index (session_of c.at-name.result.0 c.at-name.result.1.now) c.loop-index.found c.at-name.ensures c.loop-index.invariant
