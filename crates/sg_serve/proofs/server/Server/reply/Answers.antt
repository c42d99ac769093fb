use Rattle.std.proofs.Common.{◌≡◌, ◌∙◌, List, Some, is_some, IfOk, sym, ap, subst}
use Rattle.sg_answers.specs.Answers.{id_text}
use Rattle.sg_play.specs.Steps.{Step}
use Rattle.sg_protocol.specs.Calls.{Abandon}
use Rattle.std.specs.Prelude.{IsTrue}
use Rattle.std.specs.List.{list_all}
use Rattle.sg_request.specs.Request.{is_request}
use Rattle.sg_request.specs.declared.request.Request.{Request}
use Rattle.sg_sched.specs.Format.Forms.{is_assignment}
use Rattle.sg_sched.specs.Format.LineContents.{Assignment}
use Rattle.sg_serve.specs.Served.{images_if}
use Rattle.sg_serve.specs.Serving.{acts_by, calls, graph_at, of_session, replies, says, sends_again, turn_line}
use Rattle.sg_serve.specs.Representation.{HasReplied, Replied}
use Rattle.sg_serve.proofs.Lining.{of_again, of_says, on_ok, replied_plain}
use Rattle.sg_serve.proofs.Results.{applied}
use Rattle.sg_serve.proofs.Requests.{are_assigned}
use Rattle.sg_serve.proofs.Keeping.{unasked, unasked_by}
use Rattle.sg_serve.proofs.server.Server.reply.Goals as goal

pub start-requires : goal.start-requires
start-requires g c = record { holds = c.requires.holds; asked = subst (λ (q : Request). IsTrue (is_request q)) c.in-Start.is c.requires.asked }

pub act-requires : goal.act-requires
act-requires g c = record { assigned = subst (λ (vs : List Assignment). IsTrue (list_all is_assignment vs)) (sym c.as_slice.ensures) (are_assigned c.in-Act.session c.in-Act.label c.in-Act.values (subst (λ (q : Request). IsTrue (is_request q)) c.in-Act.is c.requires.asked)) }

pub returns-in-Act-clause-replied : goal.returns-in-Act-clause-replied
returns-in-Act-clause-replied g c = λ s st w.
    let sv = c.args.self.now in
    let n = c.in-Act.session in
    let a = of_session s n (λ sid. acts_by s sid (graph_at s n) c.in-Act.label c.in-Act.values) in
    subst (λ (q : Request). Replied (images_if (is_some sv.ledger) (g.D.Disk.may_leave c.args.disk.now)) s c.act.new.self (replies s q) c.act.result) (sym c.in-Act.is)
    (replied_plain sv c.act.new.self (g.D.Disk.may_leave c.args.disk.now) s a c.act.result c.requires.holds st
    (subst (λ (vs : List Assignment). IfOk c.act.result (λ step. HasReplied c.act.new.self step (of_session s n (λ sid. acts_by s sid (graph_at s n) c.in-Act.label vs)))) c.as_slice.ensures
    (applied c.act.result _ (λ (step : Step). HasReplied c.act.new.self step (of_session s n (λ sid. acts_by s sid (graph_at s n) c.in-Act.label c.as_slice.result.now))) (λ step h. h s st w) c.act.ensures.replied)))

pub returns-in-Abandon-clause-replied : goal.returns-in-Abandon-clause-replied
returns-in-Abandon-clause-replied g c = λ s st w.
    let sv = c.args.self.now in
    let a = of_session s c.in-Abandon.number (λ sid. calls s (Abandon sid)) in
    subst (λ (q : Request). Replied (images_if (is_some sv.ledger) (g.D.Disk.may_leave c.args.disk.now)) s c.abandon.new.self (replies s q) c.abandon.result) (sym c.in-Abandon.is)
    (replied_plain sv c.abandon.new.self (g.D.Disk.may_leave c.args.disk.now) s a c.abandon.result c.requires.holds st
    (applied c.abandon.result _ (λ (step : Step). HasReplied c.abandon.new.self step a) (λ step h. h s st) c.abandon.ensures.replied))

pub returns-in-Again-clause-random : goal.returns-in-Again-clause-random
returns-in-Again-clause-random g c = on_ok c.again.result _ (λ s st w.
    let n = c.in-Again.number in
    subst (λ (q : Request). g.R.Fresh.random c.args.fresh.now ≡ Some (replies s q).0.play.random) (sym c.in-Again.is) (w ∙ ap Some (of_again s n)))

pub returns-in-Again-clause-replied : goal.returns-in-Again-clause-replied
returns-in-Again-clause-replied g c = λ s st w.
    let sv = c.args.self.now in
    let n = c.in-Again.number in
    let a = of_session s n (sends_again s n) in
    subst (λ (q : Request). Replied (images_if (is_some sv.ledger) (g.D.Disk.may_leave c.args.disk.now)) s sv (replies s q) c.again.result) (sym c.in-Again.is)
    (replied_plain sv sv (g.D.Disk.may_leave c.args.disk.now) s a c.again.result c.requires.holds st
    (applied c.again.result _ (λ (step : Step). HasReplied sv step a) (λ step h. h s st) c.again.ensures.replied))

pub returns-in-Turn-clause-random : goal.returns-in-Turn-clause-random
returns-in-Turn-clause-random g c = on_ok c.turn.result _ (λ s st w.
    let n = c.in-Turn.number in
    subst (λ (q : Request). g.R.Fresh.random c.args.fresh.now ≡ Some (replies s q).0.play.random) (sym c.in-Turn.is) (w ∙ ap Some (of_says s n (turn_line s n))))

pub returns-in-Turn-clause-replied : goal.returns-in-Turn-clause-replied
returns-in-Turn-clause-replied g c = λ s st w.
    let sv = c.args.self.now in
    let n = c.in-Turn.number in
    let a = of_session s n (λ sid. says s (turn_line s n sid)) in
    subst (λ (q : Request). Replied (images_if (is_some sv.ledger) (g.D.Disk.may_leave c.args.disk.now)) s sv (replies s q) c.turn.result) (sym c.in-Turn.is)
    (replied_plain sv sv (g.D.Disk.may_leave c.args.disk.now) s a c.turn.result c.requires.holds st
    (applied c.turn.result _ (λ (step : Step). HasReplied sv step a) (λ step h. h s st) c.turn.ensures.replied))

pub returns-in-Id-clause-random : goal.returns-in-Id-clause-random
returns-in-Id-clause-random g c = on_ok c.id.result _ (λ s st w.
    let n = c.in-Id.number in
    subst (λ (q : Request). g.R.Fresh.random c.args.fresh.now ≡ Some (replies s q).0.play.random) (sym c.in-Id.is) (w ∙ ap Some (of_says s n (id_text n))))

pub returns-in-Id-clause-replied : goal.returns-in-Id-clause-replied
returns-in-Id-clause-replied g c = λ s st w.
    let sv = c.args.self.now in
    let n = c.in-Id.number in
    let a = of_session s n (λ sid. says s (id_text n sid)) in
    subst (λ (q : Request). Replied (images_if (is_some sv.ledger) (g.D.Disk.may_leave c.args.disk.now)) s sv (replies s q) c.id.result) (sym c.in-Id.is)
    (replied_plain sv sv (g.D.Disk.may_leave c.args.disk.now) s a c.id.result c.requires.holds st
    (applied c.id.result _ (λ (step : Step). HasReplied sv step a) (λ step h. h s st) c.id.ensures.replied))

pub returns-in-Act-clause-kept : goal.returns-in-Act-clause-kept
returns-in-Act-clause-kept g c = unasked_by c.args.self.now c.act.new.self c.act.result c.act.ensures.memory c.requires.holds c.act.ensures.joins c.act.ensures.ledger

pub returns-in-Abandon-clause-kept : goal.returns-in-Abandon-clause-kept
returns-in-Abandon-clause-kept g c = unasked_by c.args.self.now c.abandon.new.self c.abandon.result c.abandon.ensures.memory c.requires.holds c.abandon.ensures.joins c.abandon.ensures.ledger

pub returns-in-Again-clause-kept : goal.returns-in-Again-clause-kept
returns-in-Again-clause-kept g c = unasked c.again.result c.again.ensures.memory c.requires.holds

pub returns-in-Turn-clause-kept : goal.returns-in-Turn-clause-kept
returns-in-Turn-clause-kept g c = unasked c.turn.result c.turn.ensures.memory c.requires.holds

pub returns-in-Id-clause-kept : goal.returns-in-Id-clause-kept
returns-in-Id-clause-kept g c = unasked c.id.result c.id.ensures.memory c.requires.holds

pub returns-in-Receive-clause-kept : goal.returns-in-Receive-clause-kept
returns-in-Receive-clause-kept g c = unasked _ tt c.requires.holds

pub returns-in-Quit-clause-kept : goal.returns-in-Quit-clause-kept
returns-in-Quit-clause-kept g c = unasked _ tt c.requires.holds
