use Rattle.std.proofs.Common.{◌∙◌, [], Some, ap, sym}
use Rattle.std.specs.Option.{option_copied}
use Rattle.sg_again.specs.LastFrames.{LastFrames, frame_of}
use Rattle.sg_answers.specs.Answers.{again_text, nothing_text, unknown_text}
use Rattle.sg_serve.proofs.Saying.{frame_again, nothing_again, of_none, replied_each}
use Rattle.sg_serve.specs.Posted.{posted}
use Rattle.sg_serve.specs.Serving.{of_session, sends_again}
use Rattle.sg_serve.proofs.server.Server.again.Goals as goal

pub returns-in_default-clause-replied : goal.returns-in_default-clause-replied
returns-in_default-clause-replied c =
    let n = c.args.number in
    replied_each c.args.self.now (record { line = unknown_text n; frames = [] }) (λ s. of_session s n (sends_again s n)) c.say.result
    (λ s st. of_none s n (sends_again s n) (sym (c.sid.ensures s.play st.player) ∙ c.in_default.is)) c.say.ensures.text

pub returns-in-Some-of-clause-replied : goal.returns-in-Some-of-clause-replied
returns-in-Some-of-clause-replied c =
    let n = c.args.number in
    let sid = c.in-Some.sid in
    let f = c.in-Some-of.frame.now in
    replied_each c.args.self.now (record { line = again_text f.number f.to; frames = posted (Some f) }) (λ s. of_session s n (sends_again s n)) c.repeated.result
    (λ s st. frame_again s n sid f (sym (c.sid.ensures s.play st.player) ∙ c.in-Some.is) (ap (λ (l : LastFrames). frame_of l sid) (sym st.last) ∙ sym c.of.ensures ∙ ap option_copied c.in-Some-of.is)) c.repeated.ensures.frame

pub returns-in-None-clause-replied : goal.returns-in-None-clause-replied
returns-in-None-clause-replied c =
    let n = c.args.number in
    let sid = c.in-Some.sid in
    replied_each c.args.self.now (record { line = nothing_text n; frames = [] }) (λ s. of_session s n (sends_again s n)) c.say-in-None.result
    (λ s st. nothing_again s n sid (sym (c.sid.ensures s.play st.player) ∙ c.in-Some.is) (ap (λ (l : LastFrames). frame_of l sid) (sym st.last) ∙ sym c.of.ensures ∙ ap option_copied c.in-None.is)) c.say-in-None.ensures.text
