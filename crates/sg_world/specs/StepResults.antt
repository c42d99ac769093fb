-- The outcome of a step at a principal's node.
use Rattle.std.specs.Prelude.{◌≡◌, ℕ, ◌+◌, ◌<◌, ⊤, List, length, take, Option, Some, None, Ok, slice_get}
use Rattle.std.specs.List.{AllByRecursion}
use Rattle.indexmap.specs.IndexMap.{set_value_at}
use Rattle.sg_model.specs.Names.{Name}
use Rattle.sg_model.specs.Values.{Value}
use Rattle.sg_protocol.specs.Acting.{answer}
use Rattle.sg_protocol.specs.Calls.{Call, Deliver}
use Rattle.sg_protocol.specs.Frame.{Frame, IsValue}
use Rattle.sg_protocol.specs.NodeStates.{NodeState, RepresentsPast}
use Rattle.sg_protocol.specs.Notes.{notes as noted_of}
use Rattle.sg_protocol.specs.Past.{Past, node_of}
use Rattle.sg_protocol.specs.Ranges.{IsCallInRange}
use Rattle.sg_protocol.specs.Reading.{read}
use Rattle.sg_protocol.specs.Run.{frame_in}
use Rattle.sg_protocol.specs.Schedule.{NamedSession, Schedule, Step, StartStep, ActStep, AbandonStep, DeliverStep, CraftStep}
use Rattle.sg_protocol.specs.Texts.{real}
use Rattle.sg_protocol.specs.Named.{graph_of_call}
use Rattle.sg_protocol.specs.World.{World, frames, call_of, flipped}
use Rattle.sg_sched.specs.declared.step.Change.{Change}
use Rattle.sg_sched.specs.declared.step.Change.TheVariants.{Whole, Flip, Cut}
use Rattle.sg_node.specs.Answers.{GoesOn, graph_named}
use Rattle.sg_node.specs.Receipts.{IsReceiptAt}
use Rattle.sg_report.specs.Outcome.{graph_in, outcome_of}
use Rattle.sg_report.specs.Reported.{reported_answer}
use Rattle.sg_world.specs.RecordModel.{IfReceived, StepResult, no_frame}

-- the outcome of a call is what the node of the past answers, if its frame has this number, with the graph of the call beside its numbers; a receipt has the view that the frame showed, and its cast; and the new state goes on for the past
pub record IsResultOfCall (number : ℕ) (old new : NodeState) (past : Past) (call : Call) (c : StepResult) : Type 0 where
  pub range : IsCallInRange call
  pub reported : outcome_of c.outcome ≡ reported_answer number (answer real (node_of past) call)
  pub graph : graph_in c.outcome ≡ graph_named (answer real (node_of past) call) (graph_of_call real (node_of past) call)
  pub shown : (bs : List ℕ) (f : Frame) → call ≡ Deliver bs → read bs ≡ Ok f → IfReceived c.outcome (λ r. IsReceiptAt (node_of past) f r × (c.cast ≡ f.join))
  pub frame : c.frame ≡ frame_in (answer real (node_of past) call)
  pub notes : c.notes ≡ noted_of real (node_of past) call
  pub goes_on : GoesOn old new call past

-- the outcome of a step that makes this call; if there is no frame to deliver, it makes none, and the state is as before
abbrev pub IsResult : ℕ → NodeState → NodeState → Past → Option Call → StepResult → Type 0
IsResult number old new past None c = (c ≡ no_frame) × (new ≡ old)
IsResult number old new past (Some call) c = IsResultOfCall number old new past call c

-- ---- the call of a step

-- the principal's step names one of `sessions` declared sessions, and its values are values of variables below 256
abbrev pub IsNamed : ℕ → Step → Type 0
IsNamed sessions (StartStep who n) = n < sessions
IsNamed sessions (ActStep who n label values) = (n < sessions) × AllByRecursion (λ (w : ℕ × Value). (w.0 < 256) × IsValue w.1) values
IsNamed sessions (AbandonStep who n) = n < sessions
IsNamed sessions (DeliverStep who what) = ⊤
IsNamed sessions (CraftStep c) = ⊤

-- a recorded frame as it is delivered
abbrev pub changed_to : Change → List ℕ → List ℕ
changed_to Whole bs = bs
changed_to (Flip at) bs = flipped at bs
changed_to (Cut len) bs = take len bs

-- for each schedule of these sessions and each run that recorded these frames, this comes of the call of step k
abbrev pub IsResultOfStep : List NamedSession → List (List ℕ) → ℕ → Step → NodeState → NodeState → StepResult → Type 0
IsResultOfStep sessions recorded k x old new c =
    (s : Schedule) (w : World) (past : Past) → sessions ≡ s.sessions → frames w ≡ recorded → RepresentsPast old past
    → IsResult (length recorded + 1) old new past (call_of real s w k x) c

-- so it does at the node of the principal, and the others are as before
pub record IsResultAt (sessions : List NamedSession) (recorded : List (List ℕ)) (k : ℕ) (x : Step) (index : ℕ) (nodes now : List (Name × NodeState)) (c : StepResult) : Type 0 where
  pub who : Name
  pub old : NodeState
  pub new : NodeState
  pub is_old : slice_get nodes index ≡ Some (who, old)
  pub is_new : now ≡ set_value_at nodes index new
  pub is_result : IsResultOfStep sessions recorded k x old new c
