-- The sessions that are met by what is reported of a step.
use Rattle.std.specs.Option.{option_map_or}
use Rattle.sg_text.specs.Sessions.{KnownSessions, with_event}
use Rattle.sg_report.specs.Reported.{Reported, sid_reported}

-- it is met
abbrev pub known_more : KnownSessions → Reported → KnownSessions
known_more m t = option_map_or (with_event m) (sid_reported t) m
