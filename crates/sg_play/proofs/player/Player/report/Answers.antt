use Rattle.std.proofs.Common.{◌≡◌, ◌∙◌, ◌+◌, [], ap}
use Rattle.std.specs.Option.{option_map_or}
use Rattle.sg_text.specs.Sessions.{naming, session_name}
use Rattle.sg_report.specs.Lines.{graph_or_none, line_text}
use Rattle.sg_report.specs.Outcome.{graph_in}
use Rattle.sg_report.specs.Reported.{session_reported}
use Rattle.sg_play.specs.declared.player.Player.{Player}
use Rattle.sg_play.specs.Meeting.{known_more}
use Rattle.sg_play.specs.Steps.{counted, known_in}
use Rattle.sg_play.proofs.Reporting.{line_is, represents_reported, reported_in, reported_rest}
use Rattle.sg_play.proofs.player.Player.report.Goals as goal

pub returns-clause-rest : goal.returns-clause-rest
returns-clause-rest c = reported_rest c.args.self.now c.meet.new.self c.next_step-number.result c.in_ok-meet.ensures.rest c.next_step-number.ensures

pub returns-clause-reported : goal.returns-clause-reported
returns-clause-reported c = λ p k made asked left.
    let old = c.args.self.now in
    let t = reported_in p k in
    let known = known_more (known_in p.past.calls) t in
    let rest = reported_rest old c.meet.new.self c.next_step-number.result c.in_ok-meet.ensures.rest c.next_step-number.ensures in
    let named = c.in_ok-meet.ensures.names (known_in p.past.calls) asked.names ∙ ap (λ x. naming 115 (known_more (known_in p.past.calls) x)) asked.is_reported in
    let session : c.session_of.result ≡ session_reported c.args.left t = c.session_of.ensures ∙ ap (session_reported c.args.left) asked.is_reported in
    let number : c.next_step-number.result ≡ counted (old.steps + 1) = c.next_step-number.ensures ∙ ap (λ (pl : Player). counted (pl.steps + 1)) c.in_ok-meet.ensures.rest in
    let me : c.meet.new.self.keys.now.me ≡ old.keys.now.me = ap (λ (pl : Player). pl.keys.now.me) c.in_ok-meet.ensures.rest in
    let text = c.in_ok-line.ensures.text known named ∙ (λ i. line_text (option_map_or (session_name 115 known) (session i) []) (graph_or_none (graph_in c.args.outcome.now)) (number i) (me i) (asked.is_reported i)) in (
      line_is old p k c.args.outcome.now c.args.left made c.in_ok-line.line.items asked left text,
      represents_reported old (record c.meet.new.self { steps = c.next_step-number.result }) p k c.args.outcome.now made asked rest named,
    )
