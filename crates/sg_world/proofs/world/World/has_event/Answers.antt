use Rattle.std.proofs.Common.{◌≡◌, ◌≢◌, [], ap, ◌∙◌, subst, MatchBool}
use Rattle.std.specs.Prelude.{filter_map, flat_map}
use Rattle.sg_model.specs.Lists.{has_text}
use Rattle.sg_protocol.specs.Run.{run, events_of, events_of_outcome}
use Rattle.sg_protocol.specs.Texts.{real}
use Rattle.sg_world.specs.Holds.{schedule_of}
use Rattle.sg_world.specs.KeptLines.{sid_kept}
use Rattle.sg_setting.specs.Replay.{Replay, run_of}
use Rattle.sg_world.proofs.KeptLines.{events_alike}
use Rattle.sg_world.proofs.ReportText.{event_there}
use Rattle.sg_world.proofs.world.World.has_event.Goals as goal

pub returns : goal.returns
returns c =
    let log = (run real c.self.inside.setting.programs (schedule_of c.self.inside.setting c.self.inside.nodes.entries c.self.inside.history.done)).log in
    subst (λ (z : Replay). MatchBool c.had_event.result (events_of c.args.sid.now (run_of z).log ≢ []) (events_of c.args.sid.now (run_of z).log ≡ [])) c.self.view_is
    (event_there c.had_event.result (flat_map (λ l. events_of_outcome l.outcome) log) c.args.sid.now
    (c.had_event.ensures ∙ ap (λ es. has_text c.args.sid.now (filter_map sid_kept es)) c.entries.ensures ∙ ap (has_text c.args.sid.now) (events_alike c.self.inside.history.done.entries [] log c.self.invariant.run.reported)))
