-- What a request came to, by what came of its parts.
use Rattle.std.proofs.Common.{◌≡◌, ◌⊎◌, ⊎_elim, inl, inr, ℕ, true, List, [], Option, Some, None, is_some, IfOk, Result, Ok, Err, refl, sym, ap, ◌∙◌, subst}
use Rattle.sg_joins.proofs.NewJoins.{joins_of_node}
use Rattle.sg_joins.specs.Images.{AllRepresent}
use Rattle.sg_ledger.specs.Format.{Join, OpenLedger, Represents}
use Rattle.sg_base.specs.declared.address.Addr.{Addr}
use Rattle.sg_model.specs.Names.{Name}
use Rattle.sg_play.specs.Steps.{Step}
use Rattle.sg_protocol.specs.Calls.{Call}
use Rattle.sg_protocol.specs.Past.{node_of, past_after}
use Rattle.sg_protocol.specs.Texts.{real}
use Rattle.sg_report.specs.declared.outcome.Outcome.{Outcome}
use Rattle.sg_serve.specs.declared.fault.ServeFault.{ServeFault}
use Rattle.sg_serve.specs.declared.server.Server.{Server}
use Rattle.sg_serve.specs.Served.{images_if, joins_kept, joins_of}
use Rattle.sg_serve.specs.Serving.{Reply, Serving, calls, says}
use Rattle.sg_serve.specs.Representation.{HasCalled, HasReplied, HoldsJoins, LedgerHas, Replied, RepresentEither, RepresentsServing}

-- by another name
pub replied_as : (images : List ℕ → Type 0) (s t : Serving) (sv : Server) (a b : Reply) (r : Result Step ServeFault) → joins_of s ≡ joins_of t → a ≡ b → Replied images s sv a r → Replied images t sv b r
replied_as images s t sv a b (Ok step) j e h = subst (λ (x : Reply). HasReplied sv step x) e h
replied_as images s t sv a b (Err fault) j e h = λ image left. ⊎_elim (λ x. inl (subst (Represents image) j x)) (λ x. inr (subst (λ (y : Reply). Represents image (joins_of y.0)) e x)) (h image left)

-- on Ok, and if it failed
pub replied_so : (images : List ℕ → Type 0) (s : Serving) (sv : Server) (a : Reply) (r : Result Step ServeFault) → IfOk r (λ step. HasReplied sv step a) → RepresentEither images s a → Replied images s sv a r
replied_so images s sv a (Ok step) h all = h
replied_so images s sv a (Err fault) h all = all

-- nothing was called
pub none_called : (images : List ℕ → Type 0) (s : Serving) (a : Reply) → AllRepresent images (joins_of s) → RepresentEither images s a
none_called images s a all image left = inl (all image left)

-- an answer alone
pub said : (sv : Server) (s : Serving) (text : List ℕ) (r : Result Step ServeFault) → RepresentsServing sv s → IfOk r (λ x. x ≡ record { line = text; frames = [] }) → IfOk r (λ step. HasReplied sv step (says s text))
said sv s text (Ok step) st h = record { represents = st; is_step = h }
said sv s text (Err fault) st h = tt

-- so by another name
pub said_as : (sv : Server) (s : Serving) (text : List ℕ) (a : Reply) (r : Result Step ServeFault) → RepresentsServing sv s → says s text ≡ a → IfOk r (λ x. x ≡ record { line = text; frames = [] }) → IfOk r (λ step. HasReplied sv step a)
said_as sv s text a r st e h = subst (λ (x : Reply). IfOk r (λ step. HasReplied sv step x)) e (said sv s text r st h)

-- ---- joins

-- the ledger has the joins so far
kept_is : (o : Option OpenLedger) (joins : List Join) → ((l : OpenLedger) → o ≡ Some l → l.joins ≡ joins) → is_some o ≡ true → joins_kept o ≡ joins
kept_is None joins h e = absurd (cc)
kept_is (Some l) joins h e = h l refl

module _ (sv : Server) (may_leave : List ℕ → Type 0) (s : Serving) (c : Call) (o : Outcome) (frame : Option (Addr × (Name × List ℕ))) (h : HasCalled sv s c o frame) where
  -- the joins of the node with the call
  pub node_has : sv.player.node.joins ≡ joins_of (calls s c).0
  node_has = h.asked.node.joins ∙ joins_of_node (past_after real s.play.past c) h.asked.answered_past

  -- its join may be kept or not
  pub join_unkept : LedgerHas sv (node_of s.play.past).joins → ((image : List ℕ) → images_if (is_some sv.ledger) may_leave image → Represents image (joins_kept sv.ledger) ⊎ Represents image sv.player.node.joins)
      → RepresentEither (images_if (is_some sv.ledger) may_leave) s (calls s c)
  join_unkept has between image left =
      ⊎_elim (λ x. inl (subst (Represents image) (kept_is sv.ledger (node_of s.play.past).joins has left.0 ∙ joins_of_node s.play.past h.answered_before) x)) (λ x. inr (subst (Represents image) node_has x)) (between image left)

  -- it is kept
  pub join_kept : (m : Server) → m ≡ record sv { ledger = m.ledger } → is_some m.ledger ≡ is_some sv.ledger → HoldsJoins m may_leave → RepresentEither (images_if (is_some sv.ledger) may_leave) s (calls s c)
  join_kept m rest same holds image left = inr (subst (Represents image) (ap (λ (x : Server). x.player.node.joins) rest ∙ node_has) (holds.images image (same ∙ left.0, left.1)))

  -- the server with another ledger has called the same
  pub called_with : (m : Server) → m ≡ record sv { ledger = m.ledger } → HasCalled m s c o frame
  called_with m rest = subst (λ (x : Server). HasCalled x s c o frame) (sym rest) (record { asked = h.asked; answered_before = h.answered_before; is_frame = h.is_frame; graphs = h.graphs; enough = h.enough; last = h.last })
