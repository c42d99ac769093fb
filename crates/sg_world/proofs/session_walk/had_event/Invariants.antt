use Rattle.std.proofs.Common.{◌≡◌, false, take}
use Rattle.std.specs.Prelude.{filter_map}
use Rattle.sg_model.specs.Lists.{has_text}
use Rattle.sg_world.specs.KeptLines.{sid_kept}
use Rattle.sg_world.proofs.session_walk.had_event.Given as goal

-- no event so far has the sid
abbrev pub invariant-loop-entry : goal.invariant-loop-entry
invariant-loop-entry l = has_text l.sid (filter_map sid_kept (take l.entry-index l.entries)) ≡ false
