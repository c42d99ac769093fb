-- What a node answers if a step is not sent.
use Rattle.std.specs.Prelude.{◌≡◌, true, List, ℕ, refl, Option, Some, None, option_map, Result, Ok, Err, IsErr, IfOk, IfErr, MatchResult, OnOk, OnErr}
use Rattle.std.proofs.Common.{sym, ◌∙◌, ap}
use Rattle.sg_model.proofs.Small.{clash}
use Rattle.sg_protocol.specs.Calls.{Answer, ActFault, NotActed, Send, SendFault}
use Rattle.sg_protocol.specs.Graph.{Graph}
use Rattle.sg_role.specs.declared.fault.SendFault.{SendFault as RoleFault}
use Rattle.sg_role.specs.declared.fault.SendFault.TheVariants as sending
use Rattle.sg_receipt.specs.declared.answer.Happened.{Happened}
use Rattle.sg_receipt.specs.declared.refusal.ActRefusal.{ActRefusal}
use Rattle.sg_receipt.specs.Answers.{IsAnswerOfAct, graph_named, graph_of_act}
use Rattle.sg_receipt.specs.Refusals.{act_refusal, graph_of_act_refusal}
use Rattle.sg_node.specs.Faults.{send_fault}

module _ {E : Type 0} (res : Result (Result (Happened × (List ℕ × List ℕ)) ActRefusal) E) (refused : IfOk res (λ r. IsErr r)) where
  -- whatever follows from any refusal
  pub by_refusal : (P : Type 0) (a : Answer) → IfOk res (IsAnswerOfAct a) → ((fault : ActFault) → a ≡ NotActed fault → P) → OnOk res P
  by_refusal P a = go res refused
    where
      go : (res : Result (Result (Happened × (List ℕ × List ℕ)) ActRefusal) E) → IfOk res (λ r. IsErr r) → IfOk res (IsAnswerOfAct a) → ((fault : ActFault) → a ≡ NotActed fault → P) → OnOk res P
      go (Ok (Err why)) e is f = f (act_refusal why) is
      go (Ok (Ok r)) e is f = clash true refl (sym e)
      go (Err y) e is f = tt

  -- the graph beside it is that of the session, if it names a variable
  pub graph_beside : (a : Answer) (g h : Option Graph) → IfOk res (IsAnswerOfAct a) → IfOk res (λ r. IfErr r (λ why. graph_of_act_refusal why ≡ graph_named (NotActed (act_refusal why)) g)) → g ≡ h → IfOk res (λ r. graph_of_act r ≡ graph_named a h)
  graph_beside a g h = go res refused
    where
      go : (res : Result (Result (Happened × (List ℕ × List ℕ)) ActRefusal) E) → IfOk res (λ r. IsErr r) → IfOk res (IsAnswerOfAct a) → IfOk res (λ r. IfErr r (λ why. graph_of_act_refusal why ≡ graph_named (NotActed (act_refusal why)) g)) → g ≡ h
          → IfOk res (λ r. graph_of_act r ≡ graph_named a h)
      go (Ok (Err why)) e is k same = k ∙ (λ i. graph_named (sym is i) (same i))
      go (Ok (Ok r)) e is k same = clash true refl (sym e)
      go (Err y) e is k same = tt

  module _ (x : RoleFault) (m : MatchResult res (λ r. IfErr r (λ why. option_map Send (send_fault x) ≡ Some (act_refusal why))) (λ e. x ≡ sending.OutOfMemory)) where
    -- the role's refusal is what the node answers
    pub refused_act : (a : Answer) → ((o : SendFault) → send_fault x ≡ Some o → a ≡ NotActed (Send o)) → IfOk res (IsAnswerOfAct a)
    refused_act a = go res refused m
      where
        by : (why : ActRefusal) (o : Option SendFault) → send_fault x ≡ o → option_map Send o ≡ Some (act_refusal why) → ((o : SendFault) → send_fault x ≡ Some o → a ≡ NotActed (Send o)) → a ≡ NotActed (act_refusal why)
        by why None q h g = absurd (cc)
        by why (Some o) q h g = let same : Send o ≡ act_refusal why = cc in g o q ∙ ap NotActed same

        go : (res : Result (Result (Happened × (List ℕ × List ℕ)) ActRefusal) E) → IfOk res (λ r. IsErr r) → MatchResult res (λ r. IfErr r (λ why. option_map Send (send_fault x) ≡ Some (act_refusal why))) (λ e. x ≡ sending.OutOfMemory)
            → ((o : SendFault) → send_fault x ≡ Some o → a ≡ NotActed (Send o)) → IfOk res (IsAnswerOfAct a)
        go (Ok (Err why)) e m g = by why (send_fault x) refl m g
        go (Ok (Ok r)) e m g = clash true refl (sym e)
        go (Err y) e m g = tt

    -- want of memory was the role's
    pub if_memory : (P : Type 0) → (x ≡ sending.OutOfMemory → P) → OnErr res P
    if_memory P = go res m
      where
        go : (res : Result (Result (Happened × (List ℕ × List ℕ)) ActRefusal) E) → MatchResult res (λ r. IfErr r (λ why. option_map Send (send_fault x) ≡ Some (act_refusal why))) (λ e. x ≡ sending.OutOfMemory) → (x ≡ sending.OutOfMemory → P) → OnErr res P
        go (Ok r) m f = tt
        go (Err y) m f = f m
