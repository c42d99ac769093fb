-- The outcome of a call of the node, as the program holds it.
use Rattle.std.specs.Prelude.{◌≡◌, ℕ, ◌+◌, List, length, Option, Some, None, option_and_then, option_map}
use Rattle.sg_base.specs.declared.address.Addr.{Addr}
use Rattle.sg_keys.specs.Names.{addr_of}
use Rattle.sg_model.specs.Names.{Name}
use Rattle.sg_protocol.specs.Acting.{answer}
use Rattle.sg_protocol.specs.Calls.{Answer, Call, Sends}
use Rattle.sg_protocol.specs.Keyring.{Keyring}
use Rattle.sg_protocol.specs.NodeStates.{NodeState}
use Rattle.sg_protocol.specs.Past.{Past, node_of}
use Rattle.sg_protocol.specs.Ranges.{IsCallInRange}
use Rattle.sg_protocol.specs.Spelling.{spelling}
use Rattle.sg_protocol.specs.Texts.{real}
use Rattle.sg_protocol.specs.Named.{graph_of_call}
use Rattle.sg_node.specs.Answers.{GoesOn, graph_named}
use Rattle.sg_report.specs.Outcome.{graph_in, outcome_of}
use Rattle.sg_report.specs.Reported.{reported_answer}
use Rattle.sg_report.specs.declared.outcome.Outcome.{Outcome}
use Rattle.sg_play.specs.Posting.{frames_made}
use Rattle.sg_play.specs.Steps.{counted}

-- the frame that an answer sends: its receiver, and its bytes
abbrev pub sealed_in : Answer → Option (Name × List ℕ)
sealed_in (Sends e to f) = Some (to, spelling f)
sealed_in other = None

-- the outcome of a call is what the node of the past answers, if its frame has this number, with the graph of the call beside its numbers; and the new state goes on for the past
pub record IsAsked (number : ℕ) (old new : NodeState) (past : Past) (call : Call) (outcome : Outcome) (sealed : Option (Name × List ℕ)) : Type 0 where
  pub range : IsCallInRange call
  pub is_reported : outcome_of outcome ≡ reported_answer number (answer real (node_of past) call)
  pub is_graph : graph_in outcome ≡ graph_named (answer real (node_of past) call) (graph_of_call real (node_of past) call)
  pub is_sealed : sealed ≡ sealed_in (answer real (node_of past) call)
  pub goes_on : GoesOn old new call past

-- a made frame for the address that the keyring has for its receiver
abbrev pub addressed : Keyring → Option (Name × List ℕ) → Option (Addr × (Name × List ℕ))
addressed keys sealed = option_and_then (λ s. option_map (λ at. (at, s)) (addr_of keys s.0)) sealed

-- so with the frame that is made, at its address: it has the next number after these, and is counted
pub record IsAskedWithFrames (keys : Keyring) (frames frames' : ℕ) (old new : NodeState) (past : Past) (call : Call) (outcome : Outcome) (frame : Option (Addr × (Name × List ℕ))) : Type 0 where
  pub is_asked : IsAsked (counted (frames + 1)) old new past call outcome (sealed_in (answer real (node_of past) call))
  pub is_frame : frame ≡ addressed keys (sealed_in (answer real (node_of past) call))
  pub is_counted : frames' ≡ counted (frames + length (frames_made frame))
