-- What a node answers to a call, as what comes of it.
use Rattle.std.proofs.Common.{◌≡◌, ℕ, ◌+◌, List, [], ◌∷◌, length, Option, Some, None, option_map, refl, sym, ◌∙◌, ap}
use Rattle.std.specs.Option.{option_map_or}
use Rattle.sg_base.specs.declared.address.Addr.{Addr}
use Rattle.sg_keys.specs.Names.{addr_of}
use Rattle.sg_model.specs.Last.{Map}
use Rattle.sg_model.specs.Names.{Name}
use Rattle.sg_model.specs.Values.{Value}
use Rattle.sg_protocol.specs.Acting.{answer}
use Rattle.sg_protocol.specs.Calls as Protocol
use Rattle.sg_protocol.specs.Calls.{Call, Answer, Act}
use Rattle.sg_protocol.specs.Frame.{Frame}
use Rattle.sg_protocol.specs.Keyring.{Keyring}
use Rattle.sg_protocol.specs.NodeStates.{NodeState}
use Rattle.sg_protocol.specs.Past.{Past, node_of}
use Rattle.sg_protocol.specs.Ranges.{IsCallInRange, AreValues}
use Rattle.sg_protocol.specs.Spelling.{spelling}
use Rattle.sg_protocol.specs.Texts.{real}
use Rattle.sg_protocol.specs.Named.{graph_of_call}
use Rattle.sg_node.specs.Answers.{GoesOn, graph_named}
use Rattle.sg_receipt.specs.declared.answer.Happened.{Happened as Begun}
use Rattle.sg_report.specs.Outcome.{graph_in, outcome_of}
use Rattle.sg_report.specs.Reported.{Sends, reported_answer}
use Rattle.sg_report.specs.declared.outcome.Outcome.{Outcome}
use Rattle.sg_report.specs.declared.outcome.Outcome.TheVariants as OfStep
use Rattle.sg_walk.specs.Model.{event_of}
use Rattle.sg_protocol.specs.Run.{frame_in}
use Rattle.sg_play.specs.Asking.{IsAsked, IsAskedWithFrames, addressed, sealed_in}
use Rattle.sg_play.specs.Posting.{frames_made}
use Rattle.sg_play.specs.Steps.{counted, frames_in}

-- an answer that sends no frame has none that is sealed
none_sealed : (a : Answer) → None ≡ frame_in a → None ≡ sealed_in a
none_sealed (Protocol.Sends e to f) h = absurd (cc)
none_sealed other h = refl

-- the outcome of a call that sends nothing
pub results_quiet : (number : ℕ) (old new : NodeState) (past : Past) (call : Call) (o : Outcome) → IsCallInRange call → outcome_of o ≡ reported_answer number (answer real (node_of past) call) → None ≡ frame_in (answer real (node_of past) call)
    → graph_in o ≡ graph_named (answer real (node_of past) call) (graph_of_call real (node_of past) call) → GoesOn old new call past → IsAsked number old new past call o None
results_quiet number old new past call o range reported sends graphed goes = record { range = range; is_reported = reported; is_graph = graphed; is_sealed = none_sealed (answer real (node_of past) call) sends; goes_on = goes }

-- the outcome of a step that was sent
pub results_sent : (number : ℕ) (old new : NodeState) (past : Past) (sid : List ℕ) (label : ℕ) (values : Map Value) (random : List (List ℕ)) (h : Begun) (to : Name) (sealed : Name × List ℕ) (f : Frame)
    → to ≡ sealed.0 → answer real (node_of past) (Act sid label values random) ≡ Protocol.Sends (event_of h.event) sealed.0 f → sealed.1 ≡ spelling f → AreValues values random
    → Some h.graph.now ≡ graph_named (answer real (node_of past) (Act sid label values random)) (graph_of_call real (node_of past) (Act sid label values random))
    → GoesOn old new (Act sid label values random) past → IsAsked number old new past (Act sid label values random) (OfStep.Sent h to number) (Some sealed)
results_sent number old new past sid label values random h to sealed f is_to given spelled range graphed goes = record {
  range = range;
  is_reported = (λ i. Sends (event_of h.event) (is_to i) number) ∙ ap (reported_answer number) (sym given);
  is_graph = graphed;
  is_sealed = (λ i. Some (sealed.0, spelled i)) ∙ ap sealed_in (sym given);
  goes_on = goes;
}

-- ---- the frame of an act

-- at its address it is the answer's
one_frame : (f : Frame) (to : Name) (o : Option Addr) → frames_made (option_map (λ (at : Addr). (at, (to, spelling f))) o) ≡ option_map_or (λ at. (at, spelling f) ∷ []) o []
one_frame f to None = refl
one_frame f to (Some at) = refl

pub is_addressed : (keys : Keyring) (a : Answer) → frames_made (addressed keys (sealed_in a)) ≡ frames_in keys a
is_addressed keys (Protocol.Sends e to f) = one_frame f to (addr_of keys to)
is_addressed keys other = refl

-- what comes of an act, with its frame
pub results_made : (keys : Keyring) (frames frames' : ℕ) (old new : NodeState) (past : Past) (call : Call) (number : ℕ) (o : Outcome) (sealed : Option (Name × List ℕ)) (frame : Option (Addr × (Name × List ℕ)))
    → number ≡ counted (frames + 1) → IsAsked number old new past call o sealed → frame ≡ addressed keys sealed → frames' ≡ counted (frames + length (frames_made frame)) → IsAskedWithFrames keys frames frames' old new past call o frame
results_made keys frames frames' old new past call number o sealed frame is_number h is_frame counted_so = record {
  is_asked = record {
    range = h.range;
    is_reported = h.is_reported ∙ ap (λ k. reported_answer k (answer real (node_of past) call)) is_number;
    is_graph = h.is_graph;
    is_sealed = refl;
    goes_on = h.goes_on;
  };
  is_frame = is_frame ∙ ap (addressed keys) h.is_sealed;
  is_counted = counted_so;
}
