-- The line of a step.
use Rattle.std.specs.Prelude.{ℕ, List, [], ◌∷◌, ◌++◌, codes, Option, unwrap_or}
use Rattle.std.specs.Fmt.{decimal}
use Rattle.sg_model.specs.Names.{Name}
use Rattle.sg_protocol.specs.Graph.{Graph}
use Rattle.sg_text.specs.Events.{event_text, event_values, sent_to}
use Rattle.sg_report.specs.Reasons.{refusal_text, start_text, act_text}
use Rattle.sg_report.specs.Reported.{Reported, Happened, Sends, Abandoned, Crafted, NotStarted, NotActed, NotAbandoned, NotDelivered, NoFrame}

-- the graph, or one without parts
abbrev pub graph_or_none : Option Graph → Graph
graph_or_none graph = unwrap_or graph (record { name = []; roles = []; variables = []; nodes = []; edges = [] })

-- the outcome of a step, in a session of this name. Numbers have their names by the graph
abbrev pub reported_text : (session : List ℕ) → Graph → Reported → List ℕ
reported_text session g (Happened e) = event_text session g e ++ event_values g e
reported_text session g (Sends e to frame) = event_text session g e ++ sent_to to frame ++ event_values g e
reported_text session g Abandoned = session ++ codes " abandoned"
reported_text session g (Crafted frame) = codes "crafted f" ++ decimal frame
reported_text session g (NotStarted fault) = codes "refused " ++ start_text fault
reported_text session g (NotActed fault) = codes "refused " ++ act_text g fault
reported_text session g NotAbandoned = codes "refused unknown-session"
reported_text session g (NotDelivered why) = codes "refused " ++ refusal_text g why
reported_text session g NoFrame = codes "refused no-frame"

-- the principal whose step it was, and a space. A craft is nobody's
abbrev pub by_whom : Name → Reported → List ℕ
by_whom who (Crafted frame) = []
by_whom who reported = who ++ 32 ∷ []

-- the line of step k of a principal
abbrev pub line_text : (session : List ℕ) → Graph → ℕ → (who : Name) → Reported → List ℕ
line_text session g k who reported = decimal k ++ 32 ∷ by_whom who reported ++ reported_text session g reported ++ 10 ∷ []
