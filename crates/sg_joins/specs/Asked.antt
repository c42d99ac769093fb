-- A node that was asked a call, whose join is not kept yet.
use Rattle.std.specs.Prelude.{◌≡◌, ℕ}
use Rattle.sg_node.specs.Answers.{IsAnsweredPast}
use Rattle.sg_protocol.specs.Acting.{answer}
use Rattle.sg_protocol.specs.Calls.{Call}
use Rattle.sg_protocol.specs.NodeStates.{NodeState, RepresentsPast}
use Rattle.sg_protocol.specs.Past.{Past, node_of, past_after}
use Rattle.sg_protocol.specs.Ranges.{IsCallInRange}
use Rattle.sg_protocol.specs.Texts.{real}
use Rattle.sg_report.specs.Outcome.{outcome_of}
use Rattle.sg_report.specs.Reported.{reported_answer}
use Rattle.sg_report.specs.declared.outcome.Outcome.{Outcome}

-- a node has been asked one more call after a valid past, and this is the outcome
pub record AskedOnce (node : NodeState) (outcome : Outcome) : Type 0 where
  pub past : Past
  pub call : Call
  pub number : ℕ
  pub range : IsCallInRange call
  pub answered_before : IsAnsweredPast past
  pub represents : RepresentsPast node (past_after real past call)
  pub is_reported : outcome_of outcome ≡ reported_answer number (answer real (node_of past) call)
