-- How a node goes on by a delivery.
use Rattle.std.specs.Prelude.{◌≡◌, ℕ, List, refl, Option, Some, None, Result, Ok, Err, IfOk, OnOk, OnErr}
use Rattle.std.specs.List.{AllByRecursion}
use Rattle.std.proofs.Common.{sym, ◌∙◌, ap}
use Rattle.sg_model.specs.Bytes.{IsBytes}
use Rattle.sg_model.specs.Lists.{first_some}
use Rattle.sg_protocol.specs.Acting.{answer}
use Rattle.sg_protocol.specs.Calls as Protocol
use Rattle.sg_protocol.specs.Calls.{Event, Deliver, Happened, NotDelivered}
use Rattle.sg_protocol.specs.Frame.{Frame}
use Rattle.sg_protocol.specs.IsSchedule.{IsProgram}
use Rattle.sg_protocol.specs.NodeStates.{NodeState, IsReachableLive, RepresentsPast, state_taking, state_after}
use Rattle.sg_protocol.specs.Past.{Past, node_of}
use Rattle.sg_protocol.specs.Reading.{read}
use Rattle.sg_protocol.specs.Texts.{real}
use Rattle.sg_protocol.specs.Verdict.{rows, receipt, decided, verdict_on}
use Rattle.sg_receipt.specs.declared.refusal.DeliveryRefusal.{DeliveryRefusal}
use Rattle.sg_receipt.specs.Answers.{answer_of_delivery}
use Rattle.sg_node.specs.Answers.{GoesOn}
use Rattle.sg_receipt.specs.Refusals.{delivery_refusal}
use Rattle.sg_receipt.specs.Receipts.{Receipt}
use Rattle.sg_node.proofs.Going.{goes_on}

module _ (old new : NodeState) (past : Past) (bytes : List ℕ) (programs : AllByRecursion (IsProgram real) old.programs) (reachable : AllByRecursion (IsReachableLive real old.programs) old.live) (good : IsBytes bytes) (st : RepresentsPast old past) where
  -- by bytes that are no frame
  pub stays_by : (r : Protocol.Refusal) → answer real (node_of past) (Deliver bytes) ≡ NotDelivered r → new ≡ old → GoesOn old new (Deliver bytes) past
  stays_by r a e = goes_on old new (Deliver bytes) past programs reachable good st (e ∙ ap (state_after old (Deliver bytes)) (sym a))

  module _ (f : Frame) (q : read bytes ≡ Ok f) where
    read_answer : answer real (node_of past) (Deliver bytes) ≡ verdict_on real (node_of past) (Ok f)
    read_answer = ap (verdict_on real (node_of past)) q

    accepted : (x : Option Protocol.Refusal) → first_some (rows real (node_of past) f) ≡ x → (e : Event) → decided (receipt f) x ≡ Happened e → new ≡ state_taking old (Ok f) → GoesOn old new (Deliver bytes) past
    accepted None r e a t = goes_on old new (Deliver bytes) past programs reachable good st
        (t ∙ ap (state_taking old) (sym q) ∙ ap (λ x. state_after old (Deliver bytes) (decided (receipt f) x)) (sym r) ∙ ap (state_after old (Deliver bytes)) (sym read_answer))
    accepted (Some x) r e a t = absurd (cc)

    -- by a frame
    pub goes_by : {E : Type 0} (result : Result (Result Receipt DeliveryRefusal) E) → IfOk result (λ r. verdict_on real (node_of past) (Ok f) ≡ answer_of_delivery r) → IfOk result (λ r. OnOk r (new ≡ state_taking old (Ok f))) → IfOk result (λ r. OnErr r (new ≡ old)) → OnOk result (GoesOn old new (Deliver bytes) past)
    goes_by (Ok (Ok r)) a t b = accepted (first_some (rows real (node_of past) f)) refl r.event a t
    goes_by (Ok (Err why)) a t b = stays_by (delivery_refusal why) (read_answer ∙ a) b
    goes_by (Err e) a t b = tt
