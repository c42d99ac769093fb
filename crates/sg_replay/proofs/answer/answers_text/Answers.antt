use Rattle.std.proofs.Common.{[], sym, subst}
use Rattle.sg_replay.specs.Audited.{AllAnswered, Done}
use Rattle.sg_replay.proofs.Answered.{one_more}
use Rattle.sg_replay.proofs.answer.answers_text.Goals as goal

pub sessions-init : goal.sessions-init
sessions-init c = subst (AllAnswered c.args.graph.now []) (sym c.new-text.ensures) Done

pub sessions-preserved : goal.sessions-preserved
sessions-preserved c =
    one_more c.args.graph.now c.args.sessions.now c.sessions.session-index c.session-item.result c.sessions.text c.put_session.new.out
    c.sessions-test.true c.session-item.is c.sessions.invariant c.in_ok-put_session.ensures
