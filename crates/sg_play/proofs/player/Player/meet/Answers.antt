use Rattle.std.proofs.Common.{◌≡◌, ◌∙◌, ℕ, List, Option, Some, None, ap, sym}
use Rattle.std.specs.Option.{option_map_or}
use Rattle.sg_report.specs.Outcome.{outcome_of}
use Rattle.sg_text.specs.Sessions.{naming, with_event}
use Rattle.sg_play.proofs.player.Player.meet.Goals as goal
use Rattle.sg_report.specs.Reported.{sid_reported}

pub returns-in-Ok-clause-names : goal.returns-in-Ok-clause-names
returns-in-Ok-clause-names c = λ m named.
    let reported : sid_reported (outcome_of c.args.outcome.now) ≡ Some c.in-Some.sid = sym c.sid_reported.ensures.reported ∙ c.in-Some.is in
    c.in-Ok.ensures.ok 115 m named ∙ ap (λ (o : Option (List ℕ)). naming 115 (option_map_or (with_event m) o m)) (sym reported)

pub returns-in-None-clause-names : goal.returns-in-None-clause-names
returns-in-None-clause-names c = λ m named.
    let reported : sid_reported (outcome_of c.args.outcome.now) ≡ None = sym c.sid_reported.ensures.reported ∙ c.in-None.is in
    named ∙ ap (λ (o : Option (List ℕ)). naming 115 (option_map_or (with_event m) o m)) (sym reported)
