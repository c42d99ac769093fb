use Rattle.std.proofs.Common.{◌∙◌}
use Rattle.sg_report.specs.Lines.{graph_or_none, line_text}
use Rattle.sg_report.specs.Outcome.{graph_in, outcome_of}
use Rattle.sg_play.proofs.player.Player.line.Goals as goal

pub returns-in-Ok-clause-text : goal.returns-in-Ok-clause-text
returns-in-Ok-clause-text c = λ m named.
    c.in-Ok.ensures ∙ (λ i. line_text ((c.bytes_of.ensures ∙ c.name-name.ensures m named) i) (graph_or_none (graph_in c.args.outcome.now)) c.args.number (c.me-who.ensures.me i) (outcome_of c.args.outcome.now))
