-- How a node takes a frame that was read.
use Rattle.std.specs.Prelude.{◌≡◌, Result, Ok, IfOk, OnErr, OnOk, option_map}
use Rattle.sg_protocol.specs.Frame.{Frame}
use Rattle.sg_protocol.specs.Node.{Node}
use Rattle.sg_protocol.specs.NodeStates.{NodeState, RepresentsNode, state_taking}
use Rattle.sg_protocol.specs.Notes.{Notes, notes_of_read, session_of_frame}
use Rattle.sg_protocol.specs.Texts.{real}
use Rattle.sg_protocol.specs.Verdict.{verdict_on}
use Rattle.sg_role.specs.Sending.{with_notes}
use Rattle.sg_receipt.specs.Answers.{answer_of_delivery, graph_named, graph_of_delivery}
use Rattle.sg_receipt.specs.Receipts.{IsReceiptAt, Receipt}
use Rattle.sg_receipt.specs.declared.refusal.DeliveryRefusal.{DeliveryRefusal}

-- a node takes a frame: what it answers and leaves, and the notes after it, which were `first` before it and `before` in the call
pub record TakesFrame {E : Type 0} (old new : NodeState) (first before after : Notes) (f : Frame) (result : Result (Result Receipt DeliveryRefusal) E) : Type 0 where
  -- the definition's answer, by the graph of the frame's session
  pub answer : (n : Node) → RepresentsNode old n → IfOk result (λ r. verdict_on real n (Ok f) ≡ answer_of_delivery r)
  pub graph : (n : Node) → RepresentsNode old n → IfOk result (λ r. graph_of_delivery r ≡ graph_named (answer_of_delivery r) (option_map (λ x. x.0.graph) (session_of_frame n f)))
  -- what was received is the view that the frame shows
  pub shown : (n : Node) → RepresentsNode old n → IfOk result (λ r. IfOk r (λ x. IsReceiptAt n f x × (x.cast ≡ f.join)))
  pub taken : IfOk result (λ r. OnOk r (new ≡ state_taking old (Ok f)))
  -- a refusal leaves the node, and want of memory the notes too
  pub refused : IfOk result (λ r. OnErr r (new ≡ old))
  pub notes : (n : Node) → RepresentsNode old n → OnOk result (after ≡ with_notes first (notes_of_read real n (Ok f)))
  pub memory : OnErr result ((new ≡ old) × (after ≡ before))
