-- The lines, the names and the events of an account, by what is kept.
use Rattle.std.specs.Fmt.{decimal}
use Rattle.std.specs.Prelude.{◌≡◌, ℕ, ◌+◌, List, [], ◌∷◌, ◌++◌, length, map, flat_map, filter_map, zip, refl, Option, Some, None, option_map, option_and_then, slice_get, get_or, unwrap_or}
use Rattle.std.specs.List.{AllByRecursion, AllZip, cons_option}
use Rattle.std.specs.Option.{option_map_or, option_to_list}
use Rattle.std.proofs.Common.{sym, ◌∙◌, ap}
use Rattle.std.proofs.lemmas.Option.{slice_get-get_or}
use Rattle.sg_protocol.specs.Calls.{Happened, Sends, Start, Deliver, Event, sid_of, Answer, ActFault, SendFault, Refusal}
use Rattle.sg_protocol.specs.Frame.{Cast}
use Rattle.sg_protocol.specs.Run.{events_of_outcome}
use Rattle.sg_protocol.specs.Schedule.{NamedSession, Schedule, Step, StartStep, ActStep, AbandonStep, DeliverStep, CraftStep, cast_of}
use Rattle.sg_protocol.specs.Steps.{frame_number}
use Rattle.sg_protocol.specs.Texts.{real, session_id}
use Rattle.sg_protocol.specs.World.{World, Logged, Outcome, Answered, bytes_of, call_of}
use Rattle.sg_protocol.specs.Graph.{Graph}
use Rattle.sg_node.specs.Answers.{graph_named}
use Rattle.sg_report.specs.Lines.{by_whom, graph_or_none, line_text, reported_text}
use Rattle.sg_report.specs.Outcome.{outcome_of}
use Rattle.sg_report.specs.Report.{line, lines_from, name_in}
use Rattle.sg_text.specs.Sessions.{KnownSessions}
use Rattle.sg_report.specs.Reported.{Reported, reported_outcome, reported_after, event_reported, session_reported, sid_left}
use Rattle.sg_world.specs.Account.{graph_reported, line_of_entry}
use Rattle.sg_world.specs.Entries.{answer_in, graph_of_entry}
use Rattle.sg_world.specs.RecordModel.{IsLearnt, TakenStep}
use Rattle.sg_world.specs.KeptLines.{sid_kept, left_by, line_kept}
use Rattle.sg_setting.specs.Replay.{Replay}
use Rattle.sg_setting.specs.Setting.{Setting}
use Rattle.sg_world.specs.StepResults.{IsNamed}
use Rattle.sg_world.proofs.RunEntries.{EntryOf}

-- ---- the session that is left

no_start : (o : Option Cast) → option_and_then sid_left (option_map Start o) ≡ None
no_start None = refl
no_start (Some c) = refl

no_delivery : (o : Option (List ℕ)) → option_and_then sid_left (option_map Deliver o) ≡ None
no_delivery None = refl
no_delivery (Some bs) = refl

-- a step's call gives up the session that the step gives up
left_is : (s : Schedule) (w : World) (k : ℕ) (x : Step) → IsNamed (length s.sessions) x → option_and_then sid_left (call_of real s w k x) ≡ left_by s.sessions x
left_is s w k (StartStep who n) h = no_start (cast_of s n)
left_is s w k (ActStep who n label values) h = refl
left_is s w k (AbandonStep who n) h = by (slice_get s.sessions n) (get_or s.sessions n _) (slice_get-get_or s.sessions n (record { name = []; cast = record { version = 0; graph = []; nonce = []; names = [] } }) h)
  where
    by : (o : Option NamedSession) (d : NamedSession) → o ≡ Some d → Some (option_map_or (session_id real) (option_map (λ (d : NamedSession). d.cast) o) []) ≡ option_map (λ (d : NamedSession). session_id real d.cast) o
    by None d e = absurd (cc)
    by (Some c) d e = refl
left_is s w k (DeliverStep who what) h = no_delivery (bytes_of w what)
left_is s w k (CraftStep c) h = refl

-- ---- lines

-- the graph beside the numbers of an entry's answer
abbrev beside_numbers : Option Graph → Outcome → Option Graph
beside_numbers graph o = option_and_then (λ a. graph_named a graph) (answer_in o)

-- the text of an entry is the same by it as by the graph of its call
same_text : (gs : List Graph) (session : List ℕ) (graph : Option Graph) (n : ℕ) (o : Outcome) →
    reported_text session (graph_or_none (graph_reported gs (beside_numbers graph o) (reported_outcome n o))) (reported_outcome n o) ≡ reported_text session (graph_or_none (graph_reported gs graph (reported_outcome n o))) (reported_outcome n o)
same_text gs session graph n (Answered (Answer.Happened e)) = refl
same_text gs session graph n (Answered (Answer.Sends e to f)) = refl
same_text gs session graph n (Answered Answer.Abandoned) = refl
same_text gs session graph n (Answered (Answer.NotStarted fault)) = refl
same_text gs session graph n (Answered Answer.NotAbandoned) = refl
same_text gs session graph n (Answered (Answer.NotActed ActFault.UnknownSession)) = refl
same_text gs session graph n (Answered (Answer.NotActed ActFault.NotYourTurn)) = refl
same_text gs session graph n (Answered (Answer.NotActed (ActFault.Send SendFault.NoSuchLabel))) = refl
same_text gs session graph n (Answered (Answer.NotActed (ActFault.Send (SendFault.BadValues x)))) = refl
same_text gs session graph n (Answered (Answer.NotActed (ActFault.Send SendFault.TimeSpent))) = refl
same_text gs session graph n (Answered (Answer.NotDelivered (Refusal.Malformed at))) = refl
same_text gs session graph n (Answered (Answer.NotDelivered Refusal.UnknownGraph)) = refl
same_text gs session graph n (Answered (Answer.NotDelivered Refusal.BadCast)) = refl
same_text gs session graph n (Answered (Answer.NotDelivered (Refusal.UnknownPeer name))) = refl
same_text gs session graph n (Answered (Answer.NotDelivered Refusal.BadSession)) = refl
same_text gs session graph n (Answered (Answer.NotDelivered Refusal.Joined)) = refl
same_text gs session graph n (Answered (Answer.NotDelivered Refusal.CacheFull)) = refl
same_text gs session graph n (Answered (Answer.NotDelivered Refusal.SessionsFull)) = refl
same_text gs session graph n (Answered (Answer.NotDelivered Refusal.UnknownSession)) = refl
same_text gs session graph n (Answered (Answer.NotDelivered Refusal.NotWaiting)) = refl
same_text gs session graph n (Answered (Answer.NotDelivered Refusal.BadFrameTag)) = refl
same_text gs session graph n (Answered (Answer.NotDelivered Refusal.NoSuchView)) = refl
same_text gs session graph n (Answered (Answer.NotDelivered (Refusal.BadTime item got least))) = refl
same_text gs session graph n (Answered (Answer.NotDelivered (Refusal.BadEvidence item))) = refl
same_text gs session graph n (Answered (Answer.NotDelivered (Refusal.BadOpening x))) = refl
same_text gs session graph n Outcome.Crafted = refl
same_text gs session graph n Outcome.NoFrame = refl

module _ (r : Replay) (d : Setting) (sessions : d.sessions ≡ r.schedule.sessions) (graphs : d.graphs ≡ r.schedule.graphs) where
  module _ (e : TakenStep) (l : Logged) (n : ℕ) (reported : outcome_of e.outcome ≡ reported_outcome n l.outcome) (learnt : IsLearnt r.programs r.schedule e l) (of : EntryOf r.schedule e.step l) where
    -- the graph by which the kept line names its numbers
    graph_is : (line_kept d e).graph ≡ graph_reported r.schedule.graphs (beside_numbers (graph_of_entry r.programs r.schedule l) l.outcome) (reported_outcome n l.outcome)
    graph_is = λ i. graph_reported (graphs i) (learnt.graph i) (reported i)

    line_is : IsNamed (length r.schedule.sessions) e.step → (m : KnownSessions) (k : ℕ) → line m k (line_kept d e) ≡ line m k (line_of_entry r (l, reported_outcome n l.outcome))
    line_is named m k =
        let t : Reported = reported_outcome n l.outcome in
        let graph : Option Graph = graph_of_entry r.programs r.schedule l in
        let session : List ℕ = option_map_or (name_in m) (session_reported (option_and_then sid_left l.call) t) [] in
        (λ i. line_text (option_map_or (name_in m) (session_reported (left i) (reported i)) []) (graph_or_none (graph_is i)) k (unwrap_or (sym of.who i) []) (reported i))
        ∙ ap (λ x. decimal k ++ 32 ∷ by_whom (unwrap_or l.who []) t ++ x ++ 10 ∷ []) (same_text r.schedule.graphs session graph n l.outcome)
      where
        left : left_by d.sessions e.step ≡ option_and_then sid_left l.call
        left = ap (λ (ss : List NamedSession). left_by ss e.step) sessions ∙ sym (left_is r.schedule of.world of.number e.step named) ∙ ap (option_and_then sid_left) (sym of.call)

  -- the lines that are kept are written as those of the account
  pub lines_alike : (m : KnownSessions) (k : ℕ) (es : List TakenStep) (before ls : List Logged) → map (λ (e : TakenStep). outcome_of e.outcome) es ≡ reported_after before ls → AllZip (IsLearnt r.programs r.schedule) es ls
      → AllZip (EntryOf r.schedule) (map (λ (e : TakenStep). e.step) es) ls → AllByRecursion (λ (e : TakenStep). IsNamed (length r.schedule.sessions) e.step) es → lines_from m k (map (line_kept d) es) ≡ lines_from m k (map (line_of_entry r) (zip ls (reported_after before ls)))
  lines_alike m k [] before [] reported learnt are named = refl
  lines_alike m k [] before (l ∷ ls) reported learnt are named = absurd are
  lines_alike m k (e ∷ es) before [] reported learnt are named = absurd are
  lines_alike m k (e ∷ es) before (l ∷ ls) reported learnt are named =
      let here : outcome_of e.outcome ≡ reported_outcome (frame_number before) l.outcome = cc in
      let later : map (λ (e : TakenStep). outcome_of e.outcome) es ≡ reported_after (before ++ l ∷ []) ls = cc in
      λ i. line_is e l (frame_number before) here learnt.0 are.0 named.0 m k i ++ lines_alike m (k + 1) es (before ++ l ∷ []) ls later learnt.1 are.1 named.1 i

-- ---- events

event_is : (n : ℕ) (o : Outcome) → option_to_list (event_reported (reported_outcome n o)) ≡ events_of_outcome o
event_is n (Answered (Happened e)) = refl
event_is n (Answered (Sends e to f)) = refl
event_is n (Answered other) = refl
event_is n Outcome.Crafted = refl
event_is n Outcome.NoFrame = refl

kept_first : (o : Option Event) (es : List Event) (sids : List (List ℕ)) → sids ≡ map sid_of es → cons_option (option_map sid_of o) sids ≡ map sid_of (option_to_list o ++ es)
kept_first None es sids h = h
kept_first (Some e) es sids h = ap (λ (z : List (List ℕ)). sid_of e ∷ z) h

-- the sids of the events that are kept are those of the events of the run
pub events_alike : (es : List TakenStep) (before ls : List Logged) → map (λ (e : TakenStep). outcome_of e.outcome) es ≡ reported_after before ls → filter_map sid_kept es ≡ map sid_of (flat_map (λ (l : Logged). events_of_outcome l.outcome) ls)
events_alike [] before [] h = refl
events_alike [] before (l ∷ ls) h = absurd (cc)
events_alike (e ∷ es) before [] h = absurd (cc)
events_alike (e ∷ es) before (l ∷ ls) h =
    let t : Reported = reported_outcome (frame_number before) l.outcome in
    let here : outcome_of e.outcome ≡ t = cc in
    let later : map (λ (e : TakenStep). outcome_of e.outcome) es ≡ reported_after (before ++ l ∷ []) ls = cc in
    let rest : filter_map sid_kept es ≡ map sid_of (flat_map (λ (l : Logged). events_of_outcome l.outcome) ls) = events_alike es (before ++ l ∷ []) ls later in
    ap (λ (t : Reported). cons_option (option_map sid_of (event_reported t)) (filter_map sid_kept es)) here
    ∙ kept_first (event_reported t) (flat_map (λ (l : Logged). events_of_outcome l.outcome) ls) (filter_map sid_kept es) rest
    ∙ ap (λ (z : List Event). map sid_of (z ++ flat_map (λ (l : Logged). events_of_outcome l.outcome) ls)) (event_is (frame_number before) l.outcome)
