use Rattle.std.proofs.Common.{find, refl, ap, ◌∙◌}
use Rattle.std.specs.Prelude.{is_some, not}
use Rattle.sg_answers.specs.Answers.{wrong_text}
use Rattle.sg_answers.specs.declared.line.Wrong.TheVariants.{Unknown}
use Rattle.sg_play.specs.Played.{cast_of_start}
use Rattle.sg_program.specs.Together.{is_named}
use Rattle.sg_protocol.specs.Calls.{Start}
use Rattle.sg_script.specs.Script.{Start as ScriptStart}
use Rattle.sg_serve.specs.Served.{images_if}
use Rattle.sg_serve.specs.Serving.{calls, less, starts}
use Rattle.sg_serve.proofs.Asking.{asked_node, has_called, holds_all, ledger_has}
use Rattle.sg_serve.proofs.Calling.{less_represents, no_start, starts_is}
use Rattle.sg_serve.proofs.Replying.{none_called, replied_as, replied_so, said_as}
use Rattle.sg_serve.proofs.Keeping.{ran_out, unasked}
use Rattle.sg_serve.proofs.Requests.{is_start}
use Rattle.sg_serve.proofs.server.Server.start.Goals as goal

pub returns-then-is_none-clause-replied : goal.returns-then-is_none-clause-replied
returns-then-is_none-clause-replied g c = λ s st w.
    let sv = c.args.self.now in
    let leaves = g.D.Disk.may_leave c.args.disk.now in
    let images = images_if (is_some sv.ledger) leaves in
    let reply = starts s c.args.start_of.now in
    replied_so images s sv reply c.say.result (said_as sv s (wrong_text Unknown) reply c.say.result st (no_start s c.args.start_of.now sv.player.programs.now c.by_name.result (c.by_name.ensures ∙ ap (λ (x : ScriptStart). find (is_named x.graph) c.programs.result.now) c.start_of.view_is ∙ ap (find (is_named c.args.start_of.now.graph)) c.programs.ensures) (c.is_none.ensures ∙ ap not c.if-is_none.true) st.player.programs) c.say.ensures.text)
    (none_called images s reply (holds_all sv sv leaves s refl c.requires.holds st))

pub ask_start-requires : goal.ask_start-requires
ask_start-requires g c =
    is_start c.args.self.now.player.programs.now c.args.start_of.now c.by_name.result (c.by_name.ensures ∙ ap (λ (x : ScriptStart). find (is_named x.graph) c.programs.result.now) c.start_of.view_is ∙ ap (find (is_named c.args.start_of.now.graph)) c.programs.ensures) (c.is_none.ensures ∙ ap not c.if-is_none.false) c.requires.asked

pub join-reply-requires : goal.join-reply-requires
join-reply-requires g c =
    let sv = c.args.self.now in
    record {
      asked = asked_node sv c.ask_start.new.self (g.D.Disk.may_leave c.args.disk.now) (Start (cast_of_start sv.player.programs.now c.args.start_of.now c.next-nonce.result)) c.in-Ok.outcome c.requires.holds
          (c.in-Ok.ensures.is_asked 0 c.requires.holds.past c.requires.holds.represents);
    }

pub returns-in-Ok-clause-replied : goal.returns-in-Ok-clause-replied
returns-in-Ok-clause-replied g c = λ s st w.
    let sv = c.args.self.now in
    let images = images_if (is_some sv.ledger) (g.D.Disk.may_leave c.join-reply.new.disk) in
    let start = c.args.start_of.now in
    let k = Start (cast_of_start sv.player.programs.now start c.next-nonce.result) in
    let lst = less_represents sv 1 s st in
    let called = has_called sv c.ask_start.new.self (less 1 s) k c.in-Ok.outcome lst c.in-Ok.ensures.rest (λ number. c.in-Ok.ensures.is_asked number s.play.past st.player.node) in
    replied_as images (less 1 s) s c.join-reply.new.self (calls (less 1 s) k) (starts s start) c.join-reply.result refl
    (starts_is s start sv.player.programs.now c.next-nonce.result c.by_name.result (c.by_name.ensures ∙ ap (λ (x : ScriptStart). find (is_named x.graph) c.programs.result.now) c.start_of.view_is ∙ ap (find (is_named c.args.start_of.now.graph)) c.programs.ensures) (c.is_none.ensures ∙ ap not c.if-is_none.false) st.player.programs (c.next-nonce.ensures.drawn s.play.random w))
    (c.join-reply.ensures.replied (less 1 s) k called (ledger_has sv (g.D.Disk.may_leave c.args.disk.now) (less 1 s) c.requires.holds lst) refl)

pub returns-in-Err-clause-replied : goal.returns-in-Err-clause-replied
returns-in-Err-clause-replied g c = λ s st w.
    let sv = c.args.self.now in
    let leaves = g.D.Disk.may_leave c.args.disk.now in
    none_called (images_if (is_some sv.ledger) leaves) s (starts s c.args.start_of.now) (holds_all sv sv leaves s refl c.requires.holds st)

pub returns-then-is_none-clause-kept : goal.returns-then-is_none-clause-kept
returns-then-is_none-clause-kept g c = unasked c.say.result c.say.ensures.memory c.requires.holds

pub returns-in-Err-clause-kept : goal.returns-in-Err-clause-kept
returns-in-Err-clause-kept g c = ran_out
