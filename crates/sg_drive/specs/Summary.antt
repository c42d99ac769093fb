-- The summary of a generated run.
use Rattle.std.specs.Prelude.{◌≡◌, ◌==◌, ℕ, Bool, true, false, if◌then◌else◌, List, [], ◌∷◌, ◌++◌, filter, filter_map, length, codes, Option, Some, None}
use Rattle.std.specs.Fmt.{decimal}
use Rattle.sg_graph.specs.Edges.{leaving_from}
use Rattle.sg_text.specs.Sessions.{firsts}
use Rattle.sg_model.specs.Shape.{target}
use Rattle.sg_protocol.specs.Calls.{Event, Sent, Received}
use Rattle.sg_protocol.specs.Graph.{Graph, shape}
use Rattle.sg_protocol.specs.Walk.{StoredStep}
use Rattle.sg_report.specs.Report.{Account, premise_lines, premises_hold}
use Rattle.sg_report.specs.Reported.{Reported, Happened, Sends, Abandoned, NotDelivered, reported_log}
use Rattle.sg_world.specs.Account.{account}
use Rattle.sg_setting.specs.Replay.{Replay, run_of}
use Rattle.sg_world.specs.Walked.{WalksAreMade}

-- ---- the outcome of a step

-- a frame was sent
abbrev pub is_sent : Reported → Bool
is_sent (Sends e to frame) = true
is_sent other = false

-- the event is a receipt
abbrev pub is_receipt : Event → Bool
is_receipt (Received sid r label time values joins) = true
is_receipt other = false

-- a delivery was accepted
abbrev pub is_received : Reported → Bool
is_received (Happened e) = is_receipt e
is_received other = false

-- a delivery was refused
abbrev pub is_refused : Reported → Bool
is_refused (NotDelivered why) = true
is_refused other = false

-- a session was abandoned
abbrev pub is_abandoned : Reported → Bool
is_abandoned Abandoned = true
is_abandoned other = false

-- the session of an event that sends along a label that leads to a node without edges
abbrev pub completed_by : Graph → Event → Option (List ℕ)
completed_by g (Sent sid r label time values) = if length (leaving_from g (target (shape g) label)) == 0 then Some sid else None
completed_by g other = None

-- the session of a frame that was sent so
abbrev pub completed : Graph → Reported → Option (List ℕ)
completed g (Sends e to frame) = completed_by g e
completed g other = None

-- ---- the counts

-- how many there are of these
abbrev pub count : (Reported → Bool) → List Reported → ℕ
count which reported = length (filter which reported)

-- how many frames were sent, deliveries accepted and refused and sessions abandoned, and the sessions that were completed, in the order of their last frames
pub record Counts : Type 0 where
  pub sent : ℕ
  pub received : ℕ
  pub refused : ℕ
  pub abandoned : ℕ
  pub complete : List (List ℕ)

-- the counts of what is reported
abbrev pub counts : Graph → List Reported → Counts
counts g reported = record {
  sent = count is_sent reported;
  received = count is_received reported;
  refused = count is_refused reported;
  abandoned = count is_abandoned reported;
  complete = firsts (filter_map (completed g) reported);
}

-- the counts of a replay's run
abbrev pub counts_of : Graph → Replay → Counts
counts_of g r = counts g (reported_log (run_of r).log)

-- ---- the text

-- a word and a number
abbrev pub number_line : List ℕ → ℕ → List ℕ
number_line word n = word ++ 32 ∷ decimal n ++ 10 ∷ []

-- the lines of the counts
abbrev pub count_lines : (sessions lost : ℕ) → Counts → List ℕ
count_lines sessions lost c =
    number_line (codes "sessions") sessions
    ++ number_line (codes "sent") c.sent
    ++ number_line (codes "received") c.received
    ++ number_line (codes "refused") c.refused
    ++ number_line (codes "lost") lost
    ++ number_line (codes "abandoned") c.abandoned
    ++ number_line (codes "complete") (length c.complete)

-- the text with the number of walks, which stands there if both assumptions hold
abbrev pub summary_text : (sessions lost : ℕ) → Counts → Account → (walks : ℕ) → List ℕ
summary_text sessions lost c a walks = count_lines sessions lost c ++ premise_lines a.forged a.collision_free ++ (if premises_hold a then number_line (codes "walks") walks else [])

-- the text is the summary of the replay: the counts of its run, and, if both assumptions hold, how many sessions have an event, each with a walk that explains what happened in it
pub record IsSummary (sessions lost : ℕ) (g : Graph) (r : Replay) (text : List ℕ) : Type 0 where
  pub walks : List (List ℕ × List StoredStep)
  pub made : premises_hold (account r) ≡ true → WalksAreMade r walks
  pub spelled : text ≡ summary_text sessions lost (counts_of g r) (account r) (length walks)
