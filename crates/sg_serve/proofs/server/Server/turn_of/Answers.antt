use Rattle.std.proofs.Common.{◌∙◌, ap, sym}
use Rattle.std.specs.Option.{option_copied}
use Rattle.sg_answers.specs.Answers.{over_text, turn_text, waits_text}
use Rattle.sg_serve.proofs.Saying.{at_turn, is_over, text_each, waits}
use Rattle.sg_serve.specs.Serving.{turn_line}
use Rattle.sg_serve.proofs.server.Server.turn_of.Goals as goal

pub returns-in_default-clause-text : goal.returns-in_default-clause-text
returns-in_default-clause-text c =
    let n = c.args.number in
    let sid = c.args.sid in
    text_each c.args.self.now (over_text n) (λ s. turn_line s n sid) c.say.result
    (λ s st. is_over s n sid (option_copied c.graph_of.result) (c.graph_of.ensures s.play st.player) (ap option_copied c.in_default.is)) c.say.ensures.text

pub returns-in-Some-turn-clause-text : goal.returns-in-Some-turn-clause-text
returns-in-Some-turn-clause-text c =
    let n = c.args.number in
    let sid = c.args.sid in
    let node = c.in-Some-turn.node in
    text_each c.args.self.now (turn_text n c.in-Some.graph.now node) (λ s. turn_line s n sid) c.say_turn.result
    (λ s st. at_turn s n sid (option_copied c.graph_of.result) (c.graph_of.ensures s.play st.player) c.in-Some.graph.now node (ap option_copied c.in-Some.is) (sym (c.turn.ensures s.play st.player) ∙ c.in-Some-turn.is)) c.say_turn.ensures.text

pub returns-in-None-clause-text : goal.returns-in-None-clause-text
returns-in-None-clause-text c =
    let n = c.args.number in
    let sid = c.args.sid in
    text_each c.args.self.now (waits_text n) (λ s. turn_line s n sid) c.say-in-None.result
    (λ s st. waits s n sid (option_copied c.graph_of.result) (c.graph_of.ensures s.play st.player) c.in-Some.graph.now (ap option_copied c.in-Some.is) (sym (c.turn.ensures s.play st.player) ∙ c.in-None.is)) c.say-in-None.ensures.text
