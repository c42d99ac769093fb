use Rattle.std.proofs.Common.{refl, sym, ap, ◌∙◌}
use Rattle.std.specs.Prelude.{is_some, option_map}
use Rattle.sg_answers.specs.Answers.{quiet_text}
use Rattle.sg_protocol.specs.Calls.{Deliver}
use Rattle.sg_serve.specs.Served.{images_if}
use Rattle.sg_serve.specs.Serving.{calls, takes}
use Rattle.sg_serve.proofs.Asking.{asked_node, has_called, holds_all, ledger_has}
use Rattle.sg_serve.proofs.Replying.{none_called, replied_as, replied_so, said_as}
use Rattle.sg_serve.proofs.Keeping.{ran_out, unasked}
use Rattle.sg_serve.proofs.server.Server.take.Goals as goal

pub returns-in_default-clause-replied : goal.returns-in_default-clause-replied
returns-in_default-clause-replied g c = λ s st.
    let sv = c.args.self.now in
    let leaves = g.D.Disk.may_leave c.args.disk.now in
    let images = images_if (is_some sv.ledger) leaves in
    let reply = takes s (option_map (λ bytes. bytes.items) c.args.found) in
    replied_so images s sv reply c.say.result (said_as sv s quiet_text reply c.say.result st (ap (λ f. takes s (option_map (λ bytes. bytes.items) f)) (sym c.in_default.is)) c.say.ensures.text)
    (none_called images s reply (holds_all sv sv leaves s refl c.requires.holds st))

pub join-reply-requires : goal.join-reply-requires
join-reply-requires g c =
    let sv = c.args.self.now in
    record { asked = asked_node sv c.ask_deliver.new.self (g.D.Disk.may_leave c.args.disk.now) (Deliver c.as_slice.result.now) c.in-Ok.outcome c.requires.holds (c.in-Ok.ensures.is_asked 0 c.requires.holds.past c.requires.holds.represents) }

pub returns-in-Ok-clause-replied : goal.returns-in-Ok-clause-replied
returns-in-Ok-clause-replied g c = λ s st.
    let sv = c.args.self.now in
    let images = images_if (is_some sv.ledger) (g.D.Disk.may_leave c.join-reply.new.disk) in
    let k = Deliver c.as_slice.result.now in
    let called = has_called sv c.ask_deliver.new.self s k c.in-Ok.outcome st c.in-Ok.ensures.rest (λ number. c.in-Ok.ensures.is_asked number s.play.past st.player.node) in
    replied_as images s s c.join-reply.new.self (calls s k) (takes s (option_map (λ bytes. bytes.items) c.args.found)) c.join-reply.result refl
    (ap (λ bytes. calls s (Deliver bytes)) c.as_slice.ensures.value ∙ ap (λ f. takes s (option_map (λ bytes. bytes.items) f)) (sym c.in-Some.is))
    (c.join-reply.ensures.replied s k called (ledger_has sv (g.D.Disk.may_leave c.args.disk.now) s c.requires.holds st) refl)

pub returns-clause-replied : goal.returns-clause-replied
returns-clause-replied g c = λ s st.
    let sv = c.args.self.now in
    let leaves = g.D.Disk.may_leave c.args.disk.now in
    none_called (images_if (is_some sv.ledger) leaves) s (takes s (option_map (λ bytes. bytes.items) c.args.found)) (holds_all sv sv leaves s refl c.requires.holds st)

pub returns-in_default-clause-kept : goal.returns-in_default-clause-kept
returns-in_default-clause-kept g c = unasked c.say.result c.say.ensures.memory c.requires.holds

pub returns-clause-kept : goal.returns-clause-kept
returns-clause-kept g c = ran_out
