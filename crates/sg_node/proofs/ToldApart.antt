-- A refusal is told apart from want of memory.
use Rattle.std.specs.Prelude.{◌≡◌, Some, None, Err, Result}
use Rattle.std.proofs.Common.{ap, sym, ◌∙◌}
use Rattle.sg_role.specs.declared.fault.SendFault.TheVariants as sending
use Rattle.sg_receipt.specs.declared.fault.StartFault.{StartFault}
use Rattle.sg_receipt.specs.declared.fault.StartFault.TheVariants as starting
use Rattle.sg_node.specs.declared.fault.ActFault.{ActFault}
use Rattle.sg_node.specs.declared.fault.ActFault.TheVariants as acting
use Rattle.sg_receipt.specs.declared.fault.Refusal.{Refusal}
use Rattle.sg_receipt.specs.declared.fault.Refusal.TheVariants as refusals
use Rattle.sg_receipt.specs.declared.refusal.StartRefusal.{StartRefusal}
use Rattle.sg_receipt.specs.declared.refusal.ActRefusal.{ActRefusal}
use Rattle.sg_receipt.specs.declared.refusal.DeliveryRefusal.{DeliveryRefusal}
use Rattle.sg_receipt.specs.Refusals.{start_refusal, act_refusal, delivery_refusal}
use Rattle.sg_receipt.specs.Faults.{start_fault, refusal}
use Rattle.sg_node.specs.Faults.{act_fault}

module _ {T : Type 0} where
  -- of a start
  pub start_told : (why : StartRefusal) (x : StartFault) → start_fault x ≡ Some (start_refusal why) → ◌≡◌ {A = Result T StartFault} (Err x) (Err starting.OutOfMemory) → ⊥
  start_told why x e q = let same : x ≡ starting.OutOfMemory = cc in let z : None ≡ Some (start_refusal why) = ap start_fault (sym same) ∙ e in cc

  -- of an act, also if it is in the role's fault
  pub act_told : (why : ActRefusal) (x : ActFault) → act_fault x ≡ Some (act_refusal why) → ◌≡◌ {A = Result T ActFault} (Err x) (Err acting.OutOfMemory) → ⊥
  act_told why x e q = let same : x ≡ acting.OutOfMemory = cc in let z : None ≡ Some (act_refusal why) = ap act_fault (sym same) ∙ e in cc

  pub act_whole : (why : ActRefusal) (x : ActFault) → act_fault x ≡ Some (act_refusal why) → ◌≡◌ {A = Result T ActFault} (Err x) (Err (acting.Send sending.OutOfMemory)) → ⊥
  act_whole why x e q = let same : x ≡ acting.Send sending.OutOfMemory = cc in let z : None ≡ Some (act_refusal why) = ap act_fault (sym same) ∙ e in cc

  -- of a delivery
  pub delivery_told : (why : DeliveryRefusal) (x : Refusal) → refusal x ≡ Some (delivery_refusal why) → ◌≡◌ {A = Result T Refusal} (Err x) (Err refusals.OutOfMemory) → ⊥
  delivery_told why x e q = let same : x ≡ refusals.OutOfMemory = cc in let z : None ≡ Some (delivery_refusal why) = ap refusal (sym same) ∙ e in cc
