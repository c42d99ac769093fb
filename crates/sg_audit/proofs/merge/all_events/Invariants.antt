use Rattle.std.proofs.Common.{◌≡◌, take, map}
use Rattle.std.specs.Prelude.{flat_map}
use Rattle.sg_walk.specs.Model.{event_of}
use Rattle.sg_audit.specs.Model.{log_of}
use Rattle.sg_audit.proofs.merge.all_events.Given as goal

abbrev pub invariant-loop-log : goal.invariant-loop-log
invariant-loop-log l = map event_of l.events.items ≡ flat_map (λ l. l.1) (map log_of (take l.log-index l.logs))
