-- What a node answers, and errors.
use Rattle.std.proofs.Common.{◌≡◌, Result, Ok, Err, None, refl}
use Rattle.sg_protocol.specs.Run.{frame_in}
use Rattle.sg_receipt.specs.Answers.{answer_of_delivery, answer_of_start}
use Rattle.sg_receipt.specs.Receipts.{Receipt}
use Rattle.sg_receipt.specs.declared.answer.Happened.{Happened as Begun}
use Rattle.sg_receipt.specs.declared.refusal.DeliveryRefusal.{DeliveryRefusal}
use Rattle.sg_receipt.specs.declared.refusal.StartRefusal.{StartRefusal}

-- what failed so failed by one error
pub err_same : {A E : Type 0} (r : Result A E) (d e : E) → r ≡ Err d → r ≡ Err e → d ≡ e
err_same r d e a b = cc

-- a start and a delivery send nothing
pub start_is_quiet : (r : Result Begun StartRefusal) → None ≡ frame_in (answer_of_start r)
start_is_quiet (Ok h) = refl
start_is_quiet (Err why) = refl

pub delivery_is_quiet : (r : Result Receipt DeliveryRefusal) → None ≡ frame_in (answer_of_delivery r)
delivery_is_quiet (Ok x) = refl
delivery_is_quiet (Err why) = refl
