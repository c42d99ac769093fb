use Rattle.std.proofs.Common.{◌∙◌, [], sym}
use Rattle.sg_answers.specs.Answers.{unknown_text}
use Rattle.sg_serve.proofs.Saying.{of_none, of_some, replied_each, replied_line}
use Rattle.sg_serve.specs.Serving.{of_session, says, turn_line}
use Rattle.sg_serve.proofs.server.Server.turn.Goals as goal

pub returns-in-Some-clause-replied : goal.returns-in-Some-clause-replied
returns-in-Some-clause-replied c =
    let n = c.args.number in
    let sid = c.in-Some.sid in
    replied_line c.args.self.now (λ s. turn_line s n sid) (λ s. of_session s n (λ x. says s (turn_line s n x))) c.turn_of.result
    (λ s st. of_some s n sid (λ x. says s (turn_line s n x)) (sym (c.sid.ensures s.play st.player) ∙ c.in-Some.is)) c.turn_of.ensures.text

pub returns-in-None-clause-replied : goal.returns-in-None-clause-replied
returns-in-None-clause-replied c =
    let n = c.args.number in
    replied_each c.args.self.now (record { line = unknown_text n; frames = [] }) (λ s. of_session s n (λ x. says s (turn_line s n x))) c.say.result
    (λ s st. of_none s n (λ x. says s (turn_line s n x)) (sym (c.sid.ensures s.play st.player) ∙ c.in-None.is)) c.say.ensures.text
