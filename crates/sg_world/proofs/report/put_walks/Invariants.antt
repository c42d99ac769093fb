use Rattle.std.proofs.Common.{◌≡◌, ◌++◌, take}
use Rattle.std.specs.Prelude.{filter_map, flat_map}
use Rattle.sg_text.specs.Sessions.{KnownSessions, all_sids, naming}
use Rattle.sg_world.specs.Walked.{path_at, path_line}
use Rattle.sg_world.proofs.report.put_walks.Given as goal

-- the walks so far are written
abbrev pub invariant-loop-index : goal.invariant-loop-index
invariant-loop-index l = (m : KnownSessions) → l.names ≡ naming 120 m → l.out ≡ l.initial.out ++ flat_map (path_line m) (filter_map (path_at l.traces) (take l.index (all_sids m)))
