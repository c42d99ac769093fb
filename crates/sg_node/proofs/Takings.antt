-- How a node takes a frame that it refuses, or for which memory runs out.
use Rattle.std.specs.Prelude.{◌≡◌, ◌≢◌, true, false, refl, Option, Some, None, option_map, Result, Ok, Err, is_ok, IsErr, IsErrAnd, IfOk, IfErr, MatchResult}
use Rattle.std.proofs.Common.{sym, ◌∙◌, ap, subst}
use Rattle.sg_model.proofs.Small.{clash}
use Rattle.sg_protocol.specs.Calls.{NotDelivered, Refusal}
use Rattle.sg_protocol.specs.Frame.{Frame}
use Rattle.sg_protocol.specs.Graph.{Graph}
use Rattle.sg_protocol.specs.Keyring.{Program}
use Rattle.sg_protocol.specs.Node.{Node}
use Rattle.sg_protocol.specs.NodeStates.{NodeState, RepresentsNode}
use Rattle.sg_protocol.specs.Notes.{Notes, notes_of_read, session_of_frame}
use Rattle.sg_protocol.specs.Session.{Session}
use Rattle.sg_protocol.specs.Texts.{real}
use Rattle.sg_protocol.specs.Verdict.{verdict_on}
use Rattle.sg_role.specs.Sending.{with_notes}
use Rattle.sg_role.specs.declared.fault.Refusal.{Refusal as RoleRefusal}
use Rattle.sg_role.specs.declared.fault.Refusal.TheVariants as role
use Rattle.sg_receipt.specs.declared.refusal.DeliveryRefusal.{DeliveryRefusal}
use Rattle.sg_receipt.specs.Answers.{answer_of_delivery, graph_named, graph_of_delivery}
use Rattle.sg_receipt.specs.Refusals.{delivery_refusal}
use Rattle.sg_node.specs.Faults.{role_refusal}
use Rattle.sg_receipt.specs.Receipts.{Receipt}
use Rattle.sg_node.specs.Taking.{TakesFrame}
use Rattle.sg_node.proofs.Receipts.{err_gives, in_err, no_err, no_ok}

-- the node itself refuses it, by a refusal that names no number
pub refused_at_once : {E : Type 0} {here st : NodeState} {first before : Notes} {f : Frame} (why : DeliveryRefusal) (its : Notes) → here ≡ st
    → ((g : Option Graph) → graph_of_delivery (Err why) ≡ graph_named (answer_of_delivery (Err why)) g) → before ≡ with_notes first its
    → ((m : Node) → RepresentsNode here m → (verdict_on real m (Ok f) ≡ NotDelivered (delivery_refusal why)) × (notes_of_read real m (Ok f) ≡ its))
    → TakesFrame {E = E} st st first before before f (Ok (Err why))
refused_at_once {first = first} {f = f} why its is g e h = record {
  answer = λ m st. (h m (subst (λ (z : NodeState). RepresentsNode z m) (sym is) st)).0;
  graph = λ m st. g (option_map (λ (x : Program × Session). x.0.graph) (session_of_frame m f));
  shown = λ m st. tt;
  taken = tt;
  refused = refl;
  notes = λ m st. e ∙ ap (with_notes first) (sym (h m (subst (λ (z : NodeState). RepresentsNode z m) (sym is) st)).1);
  memory = tt;
}

-- the role of its session refuses it, or memory ran out
pub refused_by_role : {E : Type 0} {here st new : NodeState} {first before after : Notes} {f : Frame} {g : Graph} (q : RoleRefusal) (res : Result (Result Receipt DeliveryRefusal) E) → here ≡ st → new ≡ st
    → IfOk res (λ r. IsErr r) → MatchResult res (λ r. IfErr r (λ why. role_refusal q ≡ Some (delivery_refusal why))) (λ e. q ≡ role.OutOfMemory)
    → IfOk res (λ r. graph_of_delivery r ≡ graph_named (answer_of_delivery r) (Some g))
    → ((m : Node) → RepresentsNode here m → (o : Refusal) → role_refusal q ≡ Some o → verdict_on real m (Ok f) ≡ NotDelivered o)
    → ((m : Node) → RepresentsNode here m → Some g ≡ option_map (λ (x : Program × Session). x.0.graph) (session_of_frame m f))
    → ((m : Node) → RepresentsNode here m → q ≢ role.OutOfMemory → after ≡ with_notes first (notes_of_read real m (Ok f)))
    → (q ≡ role.OutOfMemory → after ≡ before)
    → TakesFrame st new first before after f res
refused_by_role q (Ok (Err why)) is same e w k a s n l = record {
  answer = λ m st. a m (subst (λ (z : NodeState). RepresentsNode z m) (sym is) st) (delivery_refusal why) w;
  graph = λ m st. k ∙ ap (graph_named (NotDelivered (delivery_refusal why))) (s m (subst (λ (z : NodeState). RepresentsNode z m) (sym is) st));
  shown = λ m st. tt;
  taken = tt;
  refused = same;
  notes = λ m st. n m (subst (λ (z : NodeState). RepresentsNode z m) (sym is) st) (λ x. let z : None ≡ Some (delivery_refusal why) = ap role_refusal (sym x) ∙ w in cc);
  memory = tt;
}
refused_by_role q (Ok (Ok x)) is same e w k a s n l = clash true refl (sym e)
refused_by_role q (Err y) is same e w k a s n l = record { answer = λ m st. tt; graph = λ m st. tt; shown = λ m st. tt; taken = tt; refused = tt; notes = λ m st. tt; memory = (same, l w) }

-- memory ran out
pub out_of_memory : {E : Type 0} {old new : NodeState} {first before after : Notes} {f : Frame} (Q : E → Type 0) (res : Result (Result Receipt DeliveryRefusal) E) → IsErrAnd res Q → new ≡ old → after ≡ before
    → TakesFrame old new first before after f res
out_of_memory Q (Ok r) h same e = absurd h
out_of_memory Q (Err y) h same e = record { answer = λ m st. tt; graph = λ m st. tt; shown = λ m st. tt; taken = tt; refused = tt; notes = λ m st. tt; memory = (same, e) }

-- ---- a frame that is taken after more was noted

module _ {E : Type 0} {old new : NodeState} {first noted after : Notes} {f : Frame} (res : Result (Result Receipt DeliveryRefusal) E) (t : TakesFrame old new first noted after f res) where
  pub more_noted : {before : Notes} → is_ok res ≡ true → TakesFrame old new first before after f res
  more_noted k = record { answer = t.answer; graph = t.graph; shown = t.shown; taken = t.taken; refused = t.refused; notes = t.notes; memory = no_err _ res k }

  -- if memory ran out it is taken back
  pub taken_back : {before back : Notes} → is_ok res ≡ false → (after ≡ noted → back ≡ before) → TakesFrame old new first before back f res
  taken_back k g = record {
    answer = t.answer;
    graph = t.graph;
    shown = t.shown;
    taken = t.taken;
    refused = t.refused;
    notes = λ m st. no_ok _ res k;
    memory = let same = err_gives _ res k t.memory in in_err _ res (same.0, g same.1);
  }
