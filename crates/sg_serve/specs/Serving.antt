-- What one principal does that serves an application: what each request does to its state, and what is answered.
use Rattle.std.specs.Prelude.{ℕ, ◌+◌, ◌-◌, nat_lt, Bool, if◌then◌else◌, List, [], ◌∷◌, ◌++◌, length, find, position, bytes_eq, slice_get, unwrap_or, Option, None, is_some, option_map}
use Rattle.std.specs.Option.{option_map_or}
use Rattle.sg_again.specs.LastFrames.{LastFrames, SentFrame, sent, ended, frame_of}
use Rattle.sg_base.specs.declared.address.Addr.{Addr}
use Rattle.sg_answers.specs.Answers.{unknown_text, wrong_text, quiet_text, again_text, nothing_text, turn_text, waits_text, over_text, id_text}
use Rattle.sg_answers.specs.declared.line.Wrong.TheVariants.{Unknown, Twice}
use Rattle.sg_text.specs.Sessions.{sids_known}
use Rattle.sg_model.specs.Last.{Map}
use Rattle.sg_model.specs.Names.{Name}
use Rattle.sg_model.specs.Values.{Value}
use Rattle.sg_play.specs.Asking.{addressed, sealed_in}
use Rattle.sg_play.specs.Played.{Play, answer_in, called, cast_of_start, next_confounders, step_in, without, next_random}
use Rattle.sg_play.specs.Steps.{Step, counted, frames_of, known_in}
use Rattle.sg_program.specs.Together.{is_named}
use Rattle.sg_protocol.specs.Calls.{Call, Start, Act, Abandon, Deliver}
use Rattle.sg_protocol.specs.Graph.{Graph}
use Rattle.sg_protocol.specs.Past.{node_of}
use Rattle.sg_protocol.specs.Texts.{real}
use Rattle.sg_protocol.specs.Named.{graph_of_call, live_with}
use Rattle.sg_protocol.specs.Turn.{turn_of}
use Rattle.sg_sched_text.specs.Adding.{known_values, is_twice}
use Rattle.sg_report.specs.Reported.{session_reported, sid_left, reported_answer}
use Rattle.sg_request.specs.declared.request.Request.{Request}
use Rattle.sg_request.specs.declared.request.Request.TheVariants as request
use Rattle.sg_sched.specs.Format.Items.{labels_of}
use Rattle.sg_sched.specs.Format.LineContents.{Assignment}
use Rattle.sg_script.specs.Script.{Start as ScriptStart}

-- how far it has come: its node's past with the random bytes that are left, which is a play without choices; the graph of each session, in the order of their first events; and the last frames
pub record Serving : Type 0 where
  pub play : Play
  pub graphs : List (Option Graph)
  pub last : LastFrames

-- ---- what a request comes to

-- the state after it, and what is answered, with the frame that is to go out, if one is
abbrev pub Reply : Type 0
Reply = Serving × Step

-- an answer alone
abbrev pub says : Serving → (text : List ℕ) → Reply
says s text = (s, record { line = text; frames = [] })

-- an answer with a frame that was sent before
abbrev pub repeats : Serving → SentFrame → Reply
repeats s f = (s, record { line = again_text f.number f.to; frames = (f.at, f.bytes) ∷ [] })

-- ---- sessions

-- the sids of the sessions that had an event here: s1, s2 and so on
abbrev pub sids_of : Play → List (List ℕ)
sids_of p = sids_known (known_in p.past.calls)

-- of session n by its sid, if there is one
abbrev pub of_session : Serving → (n : ℕ) → (List ℕ → Reply) → Reply
of_session s n reply = option_map_or reply (slice_get (sids_of s.play) (n - 1)) (says s (unknown_text n))

-- the graph of session n
abbrev pub graph_at : Serving → (n : ℕ) → Option Graph
graph_at s n = unwrap_or (slice_get s.graphs (n - 1)) None

-- a session is live
abbrev pub is_live : Play → (sid : List ℕ) → Bool
is_live p sid = is_some (live_with (node_of p.past) sid)

-- ---- calls

-- the graphs of sessions, with this one if a session more has begun
abbrev pub graphs_with : Play → Option Graph → List (Option Graph) → List (Option Graph)
graphs_with p graph graphs = if nat_lt (length graphs) (length (sids_of p)) then graphs ++ graph ∷ [] else graphs

-- so after a call, whose graph that of the session is
abbrev pub graphs_after : Play → Call → List (Option Graph) → List (Option Graph)
graphs_after p c graphs = graphs_with (called p c) (graph_of_call real (node_of p.past) c) graphs

-- a made frame of this number
abbrev pub as_sent : (number : ℕ) → Addr × (Name × List ℕ) → SentFrame
as_sent number x = record { number = number; to = x.1.0; at = x.0; bytes = x.1.1 }

-- the frame that a call makes, which has the next number
abbrev pub frame_made : Play → Call → Option SentFrame
frame_made p c = option_map (as_sent (counted (length (frames_of p.steps) + 1))) (addressed p.past.keys (sealed_in (answer_in p c)))

-- the session that the line of a call names
abbrev pub session_in : Play → Call → Option (List ℕ)
session_in p c = session_reported (sid_left c) (reported_answer (counted (length (frames_of p.steps) + 1)) (answer_in p c))

-- the last frames after a session may have sent one: it is the session's last frame, and a session that is not live any more has ended
abbrev pub last_with : (live : Bool) → (sid : List ℕ) → Option SentFrame → LastFrames → LastFrames
last_with live sid frame last = let after = option_map_or (sent last sid) frame last in if live then after else ended after sid

-- so of the session of a line, if there is one, in the play after it
abbrev pub last_of : Play → Option (List ℕ) → Option SentFrame → LastFrames → LastFrames
last_of p session frame last = option_map_or (λ sid. last_with (is_live p sid) sid frame last) session last

-- so after a call
abbrev pub last_after : Play → Call → LastFrames → LastFrames
last_after p c last = last_of (called p c) (session_in p c) (frame_made p c) last

-- the node is asked a call: the step's line is the answer, and its frame is to go out
abbrev pub calls : Serving → Call → Reply
calls s c = (record { play = called s.play c; graphs = graphs_after s.play c s.graphs; last = last_after s.play c s.last }, step_in s.play c)

-- without so many random bytes
abbrev pub less : ℕ → Serving → Serving
less n s = record s { play = without n s.play }

-- ---- each request

-- a start, with the next sixteen random bytes as its nonce, if there is a program of its graph's name
abbrev pub starts : Serving → ScriptStart → Reply
starts s start = option_map_or (λ p. calls (less 1 s) (Start (cast_of_start s.play.past.programs start (next_random s.play.random)))) (find (is_named start.graph) s.play.past.programs) (says s (wrong_text Unknown))

-- an act of these values, with a confounder to hide each of them
abbrev pub acts : Serving → (sid : List ℕ) → (label : ℕ) → Map Value → Reply
acts s sid label values = calls (less (length values) s) (Act sid label values (next_confounders (length values) s.play.random))

-- an act as it is given, by the graph of its session: with variables of the graph alone, each of them once
abbrev pub acts_if : Serving → (sid : List ℕ) → Option Graph → List Assignment → (label : ℕ) → Reply
acts_if s sid graph given label = option_map_or (λ values. if is_twice given then says s (wrong_text Twice) else acts s sid label values) (known_values graph given) (says s (wrong_text Unknown))

-- and with a label of the graph
abbrev pub acts_by : Serving → (sid : List ℕ) → Option Graph → (label : Name) → List Assignment → Reply
acts_by s sid graph label given = option_map_or (acts_if s sid graph given) (position (bytes_eq label) (labels_of graph)) (says s (wrong_text Unknown))

-- a delivery, if one came
abbrev pub takes : Serving → Option (List ℕ) → Reply
takes s found = option_map_or (λ bytes. calls s (Deliver bytes)) found (says s quiet_text)

-- the last frame of session n once more
abbrev pub sends_again : Serving → (n : ℕ) → (sid : List ℕ) → Reply
sends_again s n sid = option_map_or (repeats s) (frame_of s.last sid) (says s (nothing_text n))

-- where session n is: at its turn at a node of its graph, waiting, or live no more
abbrev pub turn_line : Serving → (n : ℕ) → (sid : List ℕ) → List ℕ
turn_line s n sid = option_map_or (λ x. option_map_or (turn_text n x.0.graph) (turn_of (node_of s.play.past) sid) (waits_text n)) (live_with (node_of s.play.past) sid) (over_text n)

-- ---- a request

-- what a request comes to that asks nothing of the link but to take a frame. An end is not answered
abbrev pub replies : Serving → Request → Reply
replies s (request.Start graph version names) = starts s (record { graph = graph; version = version; cast = names })
replies s (request.Act n label given) = of_session s n (λ sid. acts_by s sid (graph_at s n) label given)
replies s (request.Abandon n) = of_session s n (λ sid. calls s (Abandon sid))
replies s (request.Receive within) = says s []
replies s (request.Again n) = of_session s n (sends_again s n)
replies s (request.Turn n) = of_session s n (λ sid. says s (turn_line s n sid))
replies s (request.Id n) = of_session s n (λ sid. says s (id_text n sid))
replies s request.Quit = says s []
