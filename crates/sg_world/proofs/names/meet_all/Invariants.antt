use Rattle.std.proofs.Common.{◌≡◌, take}
use Rattle.std.specs.Prelude.{filter_map}
use Rattle.sg_text.specs.Sessions.{KnownSessions, naming}
use Rattle.sg_world.specs.KeptLines.{sid_kept}
use Rattle.sg_world.proofs.NamesMore.{known_with}
use Rattle.sg_world.proofs.names.meet_all.Given as goal

-- the events so far are met
abbrev pub invariant-loop-entry : goal.invariant-loop-entry
invariant-loop-entry l = (m : KnownSessions) → l.initial.names ≡ naming 120 m → l.names ≡ naming 120 (known_with m (filter_map sid_kept (take l.entry-index l.entries)))
