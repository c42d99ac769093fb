-- What a server represents: how far it has come, and the joins that it keeps.
use Rattle.std.specs.Prelude.{◌≡◌, ◌⊎◌, ◌≤◌, ℕ, Bool, true, false, List, [], ◌∷◌, ◌++◌, map, length, Option, Some, None, is_some, Result, Ok, Err, IfErr, IsNone, OnOk, OnErr}
use Rattle.sg_base.specs.declared.address.Addr.{Addr}
use Rattle.sg_base.specs.Outside.{Appends, AppendsPrefix, HasRisen}
use Rattle.sg_input.specs.Lines.{Line, Whole, TooLong}
use Rattle.sg_input.specs.declared.reader.LineFound.{LineFound}
use Rattle.sg_input.specs.declared.reader.LineFound.TheVariants as Found
use Rattle.sg_joins.specs.Images.{AllRepresent}
use Rattle.sg_joins.specs.Asked.{AskedOnce}
use Rattle.sg_ledger.specs.Format.{Join, OpenLedger, Represents}
use Rattle.sg_ledger.specs.declared.disk.Disk as Disk
use Rattle.sg_model.specs.Names.{Name}
use Rattle.sg_node.specs.Answers.{IsAnsweredPast}
use Rattle.sg_play.specs.Asking.{addressed, sealed_in}
use Rattle.sg_play.specs.Played.{answer_in}
use Rattle.sg_play.specs.Faults.{CountsFaultAlone}
use Rattle.sg_play.specs.Posting.{frames_made}
use Rattle.sg_play.specs.Representation.{HasAsked, RepresentsPlay}
use Rattle.sg_play.specs.Steps.{Step}
use Rattle.sg_protocol.specs.Calls.{Call}
use Rattle.sg_protocol.specs.NodeStates.{RepresentsPast}
use Rattle.sg_protocol.specs.Past.{Past, node_of}
use Rattle.sg_report.specs.declared.outcome.Outcome.{Outcome}
use Rattle.sg_serve.specs.declared.fault.ServeFault.{ServeFault}
use Rattle.sg_serve.specs.declared.fault.ServeFault.TheVariants.{DiskFailed, OutOfMemory}
use Rattle.sg_serve.specs.declared.server.Server.{Server}
use Rattle.sg_serve.specs.Lines.{Run, asks_quit, before_quit, given, gives, receipt, until_quit, with_line, with_lines}
use Rattle.sg_serve.specs.Served.{Outside, Agrees, EndedAt, RepresentBetween, images_if, joins_of}
use Rattle.sg_wait.specs.declared.coming.Coming.{Coming}
use Rattle.sg_serve.specs.Serving.{Serving, Reply, sids_of}

-- the server has the player of the state, its graphs and its last frames
pub record RepresentsServing (sv : Server) (s : Serving) : Type 0 where
  pub player : RepresentsPlay sv.player s.play
  pub graphs : sv.graphs ≡ s.graphs
  -- each session that had an event has one
  pub enough : length (sids_of s.play) ≤ length sv.graphs
  pub last : sv.last ≡ s.last

-- the node represents a valid past; and the ledger, if there is one, works and has the node's joins, which each image represents
pub record HoldsJoins (sv : Server) (may_leave : List ℕ → Type 0) : Type 0 where
  pub past : Past
  pub represents : RepresentsPast sv.player.node past
  pub answered : IsAnsweredPast past
  pub ledger : (l : OpenLedger) → sv.ledger ≡ Some l → l ≡ record { joins = sv.player.node.joins; failed = false }
  pub images : AllRepresent (images_if (is_some sv.ledger) may_leave) sv.player.node.joins

-- what a request leaves of the disk, and of the ledger that the server had, if it had one: without one nothing is asked of the disk, whose faults are counted; and the server holds its joins, unless the disk failed or memory ran out
pub record KeepsLedger {D A : Type 0} (disk : Disk.Ghosts D) (had : Option OpenLedger) (old new : D) (sv : Server) (result : Result A ServeFault) : Type 0 where
  pub disk_bound : disk.bound new ≡ disk.bound old
  pub faults : CountsFaultAlone DiskFailed (disk.faults old) (disk.faults new) result
  pub untouched : IsNone had → new ≡ old
  pub causes : IfErr result (λ e. (e ≡ DiskFailed) ⊎ (e ≡ OutOfMemory))
  pub same : OnOk result (is_some sv.ledger ≡ is_some had)
  pub holds : OnOk result (HoldsJoins sv (disk.may_leave new))

-- the node has been asked one more call, and this is the outcome; the ledger, if there is one, has the joins from before
pub record HasAskedNode (sv : Server) (may_leave : List ℕ → Type 0) (outcome : Outcome) : Type 0 where
  pub asked : AskedOnce sv.player.node outcome
  pub ledger : (l : OpenLedger) → sv.ledger ≡ Some l → l ≡ record { joins = (node_of asked.past).joins; failed = false }
  pub images : AllRepresent (images_if (is_some sv.ledger) may_leave) (node_of asked.past).joins

-- the ledger, if there is one, has these joins
abbrev pub LedgerHas : Server → List Join → Type 0
LedgerHas sv joins = (l : OpenLedger) → sv.ledger ≡ Some l → l.joins ≡ joins

-- the player has asked its node this call, and this is the outcome, which is not reported yet
pub record HasCalled (sv : Server) (s : Serving) (c : Call) (outcome : Outcome) (frame : Option (Addr × (Name × List ℕ))) : Type 0 where
  pub asked : HasAsked sv.player s.play c outcome (frames_made frame)
  pub answered_before : IsAnsweredPast s.play.past
  pub is_frame : frame ≡ addressed s.play.past.keys (sealed_in (answer_in s.play c))
  pub graphs : sv.graphs ≡ s.graphs
  -- each session that had an event has one
  pub enough : length (sids_of s.play) ≤ length sv.graphs
  pub last : sv.last ≡ s.last

-- the server represents the state of a reply, and this is its answer
pub record HasReplied (sv : Server) (step : Step) (reply : Reply) : Type 0 where
  pub represents : RepresentsServing sv reply.0
  pub is_step : step ≡ reply.1

-- each image represents the joins before a reply, or those after it
abbrev pub RepresentEither : (images : List ℕ → Type 0) → Serving → Reply → Type 0
RepresentEither images s reply = (image : List ℕ) → images image → Represents image (joins_of s) ⊎ Represents image (joins_of reply.0)

-- a request in a state came to a reply; or it failed
abbrev pub Replied : (images : List ℕ → Type 0) → Serving → Server → Reply → Result Step ServeFault → Type 0
Replied images s sv reply (Ok step) = HasReplied sv step reply
Replied images s sv reply (Err fault) = RepresentEither images s reply

-- an answer was given to the outside, whose link took its frame or didn't; or a prefix of it was written
pub record AnswerIsOut (old new : Outside) (step : Step) (result : Result (Unit {0}) ServeFault) : Type 0 where
  pub took : Bool
  pub quiet : step.frames ≡ [] → took ≡ true
  pub falls : old.failed ≤ new.failed
  pub risen : took ≡ false → HasRisen old.failed new.failed
  pub coming : new.coming ≡ old.coming
  pub frames : Appends old.sent new.sent (given took step).frames
  pub whole : OnOk result (Appends old.written new.written (given took step).line)
  pub prefix : OnErr result (AppendsPrefix old.written new.written (given took step).line)

-- ---- a line

-- a line that was found, or one that is too long
abbrev pub found_line : Option (List ℕ) → Line
found_line None = TooLong
found_line (Some bytes) = Whole bytes

-- the line that a reader has found, whose bytes these are if it isn't too long
abbrev pub line_read : LineFound → (bytes : List ℕ) → Line
line_read Found.Line bytes = Whole bytes
line_read Found.TooLong bytes = TooLong

-- whatever the link does with the frame of an answer, there is a way in which the line is answered that gives the same
abbrev pub Fits : Run → Line → (run : Run) → Reply → (old new : ℕ) → Type 0
Fits r line run reply old new = (took : Bool) → (reply.1.frames ≡ [] → took ≡ true)
    → (t : Bool) × (with_line t r line ≡ gives t run reply) × (given t reply.1 ≡ given took reply.1) × (t ≡ false → (took ≡ false) ⊎ HasRisen old new)

-- the server represents the state after a line, and this is its answer, which is to be given. Counts of the link's faults from before and after
pub record HasAnswer (sv : Server) (random : Option (List (List ℕ))) (coming : Option (List Coming)) (old new : ℕ) (r : Run) (line : Line) (step : Step) : Type 0 where
  pub run : Run
  pub reply : Reply
  pub goes_on : asks_quit line ≡ false
  pub replied : HasReplied sv step reply
  pub random_left : random ≡ Some (reply.0).play.random
  pub coming_left : coming ≡ Some run.coming
  pub answers : run.answers ≡ r.answers
  pub failures : run.failures ≡ r.failures
  pub fits : Fits r line run reply old new

-- the line asks for the end, and nothing has changed
pub record HasEnded (sv : Server) (random : Option (List (List ℕ))) (coming : Option (List Coming)) (r : Run) (line : Line) : Type 0 where
  pub ends : asks_quit line ≡ true
  pub represents : RepresentsServing sv r.serving
  pub random_left : random ≡ Some (r.serving).play.random
  pub coming_left : coming ≡ Some r.coming

-- a wait came to a reply: the link gave a delivery, or nothing, or failed; or the wait or the call of the delivery failed
pub record HasReceived (sv : Server) (coming : Option (List Coming)) (old new : ℕ) (r : Run) (limited : Bool) (step : Step) : Type 0 where
  pub got : Bool
  pub replied : HasReplied sv step (receipt got limited r).1
  pub quiet : step.frames ≡ []
  pub risen : got ≡ false → HasRisen old new
  pub coming_left : coming ≡ Some ((receipt got limited r).0).coming

abbrev pub Received : (images : List ℕ → Type 0) → Server → (coming : Option (List Coming)) → (old new : ℕ) → Run → (limited : Bool) → Result Step ServeFault → Type 0
Received images sv coming old new r limited (Ok step) = HasReceived sv coming old new r limited step
Received images sv coming old new r limited (Err fault) = RepresentEither images r.serving (receipt true limited r).1

-- an answer that there is, or why there is none
abbrev pub some_ok : Result Step ServeFault → Result (Option Step) ServeFault
some_ok (Ok step) = Ok (Some step)
some_ok (Err fault) = Err fault

-- a line came to an answer, or to the end; or it failed
abbrev pub ProgressedToAnswer : (images : List ℕ → Type 0) → Server → (random : Option (List (List ℕ))) → (coming : Option (List Coming)) → (old new : ℕ) → Run → Line → Result (Option Step) ServeFault → Type 0
ProgressedToAnswer images sv random coming old new r line (Ok (Some step)) = HasAnswer sv random coming old new r line step
ProgressedToAnswer images sv random coming old new r line (Ok None) = HasEnded sv random coming r line
ProgressedToAnswer images sv random coming old new r line (Err fault) = (later : List Line) → RepresentBetween images r (before_quit (line ∷ later))

-- a line was answered, or it asks for the end; or the run ended at it, whatever lines were to follow
abbrev pub Answered : (start now : Outside) → (random : Option (List (List ℕ))) → (images : List ℕ → Type 0) → Server → Run → Line → Result Bool ServeFault → Type 0
Answered start now random images sv r line (Ok true) = (asks_quit line ≡ false) × ((t : Bool) × RepresentsServing sv (with_line t r line).serving × Agrees start now random (with_line t r line))
Answered start now random images sv r line (Ok false) = (asks_quit line ≡ true) × RepresentsServing sv r.serving × Agrees start now random r
Answered start now random images sv r line (Err fault) = (later : List Line) → EndedAt start now random images r (before_quit (line ∷ later)) (Err fault)

-- the server has answered the first of these lines, and these are left of those that it may answer
pub record Serves (start now : Outside) (random : Option (List (List ℕ))) (sv : Server) (first : Run) (all left : List Line) : Type 0 where
  pub prefix : List (Line × Bool)
  pub is : until_quit all ≡ map (λ x. x.0) prefix ++ before_quit left
  pub represents : RepresentsServing sv (with_lines first prefix).serving
  pub agrees : Agrees start now random (with_lines first prefix)
