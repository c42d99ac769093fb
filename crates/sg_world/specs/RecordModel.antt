-- The record of a replay: each step that was taken with the outcome, what was noted, and the recorded frames.
use Rattle.std.specs.Prelude.{◌≡◌, ◌≢◌, ⊤, ℕ, ◌+◌, List, [], ◌∷◌, ◌++◌, length, map, sum_by, Option, Some, None, Ok, option_map, option_and_then, slice_get, IfSome}
use Rattle.std.specs.List.{AllZip}
use Rattle.std.specs.Option.{option_map_or, option_to_list}
use Rattle.sg_model.specs.Names.{Name}
use Rattle.sg_protocol.specs.Calls.{Deliver}
use Rattle.sg_protocol.specs.Frame.{Cast, Frame}
use Rattle.sg_protocol.specs.Keyring.{Program}
use Rattle.sg_protocol.specs.NodeStates.{NodeState}
use Rattle.sg_protocol.specs.Notes.{Notes, no_notes}
use Rattle.sg_protocol.specs.Past.{Past, node_of}
use Rattle.sg_protocol.specs.Reading.{read}
use Rattle.sg_protocol.specs.Run.{cast_in, events_of_outcome}
use Rattle.sg_protocol.specs.Schedule.{NamedSession, Schedule, Step, StartStep}
use Rattle.sg_protocol.specs.Steps.{record_size}
use Rattle.sg_protocol.specs.World.{World, Logged, frames}
use Rattle.sg_node.specs.Receipts.{Receipt, IsReceiptAt}
use Rattle.sg_certify.specs.Adding.{AreHonestIn}
use Rattle.sg_world.specs.Entries.{graph_of_numbers, past_before}
use Rattle.sg_world.specs.Representation.{RepresentPasts}
use Rattle.sg_report.specs.Outcome.{graph_in, outcome_of}
use Rattle.sg_report.specs.Reported.{reported_log}
use Rattle.sg_report.specs.declared.outcome.Outcome.{Outcome}
use Rattle.sg_report.specs.declared.outcome.Outcome.TheVariants.{Started, Sent, Received, NoFrame}

-- the outcome of a step, the cast of a frame that joined, the frame that the step records, and what was noted
pub record StepResult : Type 0 where
  pub outcome : Outcome
  pub cast : Option Cast
  pub frame : Option (List ℕ)
  pub notes : Notes

-- what comes of a delivery of a frame that isn't there
abbrev pub no_frame : StepResult
no_frame = record { outcome = NoFrame; cast = None; frame = None; notes = no_notes }

-- a step that was taken, the outcome, and the honest roles of the cast of the session that it started or joined
pub record TakenStep : Type 0 where
  pub step : Step
  pub outcome : Outcome
  pub honest : List ℕ

-- the cast of the session that a step starts, or that its frame joined with this cast
abbrev pub cast_begun : List NamedSession → Step → Option Cast → Option Cast
cast_begun sessions (StartStep who n) joined = option_map (λ d. d.cast) (slice_get sessions n)
cast_begun sessions other joined = joined

-- the roles are those of this cast that have a principal among these names, if there is a cast
abbrev pub IsHonestIn : List NamedSession → List Name → Step → Option Cast → List ℕ → Type 0
IsHonestIn sessions names x joined honest = IfSome (cast_begun sessions x joined) (λ c. AreHonestIn names c honest)

-- the steps, what was noted at each, the frames, and the size in bytes
pub record Recorded : Type 0 where
  pub entries : List TakenStep
  pub notes : List Notes
  pub frames : List (List ℕ)
  pub size : ℕ

-- the bytes that a step adds
abbrev pub added_size : StepResult → ℕ
added_size c = option_map_or (λ bs. length bs) c.frame 0
    + sum_by (λ n. length n.text) c.notes.made
    + sum_by (λ n. length n.text) c.notes.found
    + sum_by (λ t. length t) c.notes.hashed

-- the record with one more step
abbrev pub with_result : Recorded → Step → List ℕ → StepResult → Recorded
with_result r x honest c = record {
  entries = r.entries ++ record { step = x; outcome = c.outcome; honest = honest } ∷ [];
  notes = r.notes ++ c.notes ∷ [];
  frames = r.frames ++ option_to_list c.frame;
  size = r.size + added_size c;
}

-- if the outcome is an event, it is a receipt, of which this holds
abbrev pub IfReceived : Outcome → (Receipt → Type 0) → Type 0
IfReceived (Received r) Holds = Holds r
IfReceived (Started h) Holds = ⊥
IfReceived (Sent h to frame) Holds = ⊥
IfReceived other Holds = ⊤

-- what an entry has learnt beside what is reported: the graph by which its numbers have names, the view that a frame showed in its session, and the honest roles of the cast that the call started or joined
pub record IsLearnt (programs : List Program) (s : Schedule) (e : TakenStep) (l : Logged) : Type 0 where
  pub graph : graph_in e.outcome ≡ graph_of_numbers programs s l
  pub shown : (past : Past) (bs : List ℕ) (f : Frame) → past_before programs s l ≡ Some past → l.call ≡ Some (Deliver bs) → read bs ≡ Ok f → IfReceived e.outcome (IsReceiptAt (node_of past) f)
  pub honest : events_of_outcome l.outcome ≢ [] → IfSome (option_and_then cast_in l.call) (λ c. AreHonestIn s.honest c e.honest)

-- the nodes and the record are those of a run of these programs
pub record HoldsRun (programs : List Program) (s : Schedule) (w : World) (nodes : List (Name × NodeState)) (r : Recorded) : Type 0 where
  pub represent : RepresentPasts nodes w.pasts
  pub reported : map (λ e. outcome_of e.outcome) r.entries ≡ reported_log w.log
  pub learnt : AllZip (IsLearnt programs s) r.entries w.log
  pub notes : r.notes ≡ map (λ l. l.notes) w.log
  pub frames : r.frames ≡ frames w
  pub size : r.size ≡ record_size s w
