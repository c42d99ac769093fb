-- What a server holds before a call, once its node was asked, and once the join is kept.
use Rattle.std.proofs.Common.{◌≡◌, ◌⊎◌, ⊎_elim, inl, inr, ℕ, List, false, Option, Some, None, is_some, IfSome, sym, ap, ◌∙◌, subst}
use Rattle.sg_joins.proofs.Adding.{working}
use Rattle.sg_joins.proofs.Asked.{answered_after, joins_after, new_join}
use Rattle.sg_joins.proofs.NewJoins.{joins_of_node}
use Rattle.sg_joins.specs.Joins.{IsNew, join_reported, with_join}
use Rattle.sg_joins.specs.Images.{AllRepresent}
use Rattle.sg_ledger.specs.Format.{Join, OpenLedger, Represents}
use Rattle.sg_play.proofs.Reporting.{asked_by}
use Rattle.sg_play.specs.Asking.{IsAsked, addressed}
use Rattle.sg_play.specs.Representation.{KeepsJoins}
use Rattle.sg_play.specs.declared.player.Player.{Player}
use Rattle.sg_protocol.specs.Calls.{Call}
use Rattle.sg_protocol.specs.Past.{node_of, past_after}
use Rattle.sg_protocol.specs.Texts.{real}
use Rattle.sg_report.specs.Outcome.{outcome_of}
use Rattle.sg_report.specs.declared.outcome.Outcome.{Outcome}
use Rattle.sg_serve.specs.declared.server.Server.{Server}
use Rattle.sg_serve.specs.Served.{images_if, joins_kept, joins_of}
use Rattle.sg_serve.specs.Serving.{Serving}
use Rattle.sg_serve.specs.Representation.{HasAskedNode, HasCalled, HoldsJoins, LedgerHas, RepresentsServing}

-- ---- the node was asked

pub asked_node : (sv : Server) (pl : Player) (may_leave : List ℕ → Type 0) (c : Call) (o : Outcome) (h : HoldsJoins sv may_leave) → IsAsked 0 sv.player.node pl.node h.past c o None → HasAskedNode (record sv { player = pl }) may_leave o
asked_node sv pl may_leave c o h came = record {
  asked = record { past = h.past; call = c; number = 0; range = came.range; answered_before = h.answered; represents = came.goes_on.represents; is_reported = came.is_reported };
  ledger = λ l e. h.ledger l e ∙ ap working h.represents.joins;
  images = subst (AllRepresent (images_if (is_some sv.ledger) may_leave)) h.represents.joins h.images;
}

pub has_called : (sv : Server) (pl : Player) (s : Serving) (c : Call) (o : Outcome) → RepresentsServing sv s → pl ≡ record sv.player { node = pl.node } → ((number : ℕ) → IsAsked number sv.player.node pl.node s.play.past c o None)
    → HasCalled (record sv { player = pl }) s c o None
has_called sv pl s c o h is is_asked = record {
  asked = asked_by sv.player pl s.play c o h.player is is_asked;
  answered_before = h.player.answered;
  is_frame = ap (addressed s.play.past.keys) (is_asked 0).is_sealed;
  graphs = h.graphs;
  enough = h.enough;
  last = h.last;
}

-- the ledger has the joins from before
pub ledger_has : (sv : Server) (may_leave : List ℕ → Type 0) (s : Serving) → HoldsJoins sv may_leave → RepresentsServing sv s → LedgerHas sv (node_of s.play.past).joins
ledger_has sv may_leave s h st l e = ap (λ (o : OpenLedger). o.joins) (h.ledger l e) ∙ st.player.node.joins

-- all joins so far are kept
pub holds_all : (sv : Server) (has : Server) (may_leave : List ℕ → Type 0) (s : Serving) → is_some sv.ledger ≡ is_some has.ledger → HoldsJoins sv may_leave → RepresentsServing sv s → AllRepresent (images_if (is_some has.ledger) may_leave) (joins_of s)
holds_all sv has may_leave s same h st image left =
    subst (Represents image) (st.player.node.joins ∙ joins_of_node s.play.past st.player.answered) (h.images image (same ∙ left.0, left.1))

-- the node goes on without a join
pub holds_on : (old new : Server) (may_leave : List ℕ → Type 0) → HoldsJoins old may_leave → new.ledger ≡ old.ledger → KeepsJoins old.player.node new.player.node → HoldsJoins new may_leave
holds_on old new may_leave h same keeps =
    let later = keeps h.past h.represents h.answered in
    record {
      past = later.0;
      represents = later.1;
      answered = later.2;
      ledger = λ l e. h.ledger l (sym same ∙ e) ∙ ap working (sym later.3);
      images = λ image left. subst (Represents image) (sym later.3) (h.images image (ap is_some (sym same) ∙ left.0, left.1));
    }

-- ---- the join of the outcome

module _ (sv : Server) (may_leave : List ℕ → Type 0) (o : Outcome) (h : HasAskedNode sv may_leave o) where
  -- the pair that it joins, if it joins one
  abbrev joined : Option Join
  joined = join_reported (outcome_of o)

  -- if there is no ledger
  pub holds_none : sv.ledger ≡ None → HoldsJoins sv may_leave
  holds_none e = record {
    past = past_after real h.asked.past h.asked.call;
    represents = h.asked.represents;
    answered = answered_after h.asked;
    ledger = λ l is. absurd (let z = sym e ∙ is in cc);
    images = λ image left. absurd (let z = ap is_some (sym e) ∙ left.0 in cc);
  }

  -- if there is one
  module _ (l : OpenLedger) (e : sv.ledger ≡ Some l) where
    has : l ≡ working (node_of h.asked.past).joins
    has = h.ledger l e

    -- a pair that joins is new to it
    pub is_new : IfSome joined (IsNew l.joins)
    is_new = subst (λ (x : OpenLedger). IfSome joined (IsNew x.joins)) (sym has) (new_join h.asked)

    pub not_failed : l.failed ≡ false
    not_failed = ap (λ (o : OpenLedger). o.failed) has

    pub represent_now : AllRepresent may_leave l.joins
    represent_now image left = subst (λ (o : OpenLedger). Represents image o.joins) (sym has) (h.images image (ap is_some e, left))

    -- the node's joins are the ledger's with it
    pub node_joins : sv.player.node.joins ≡ with_join l.joins joined
    node_joins = joins_after h.asked ∙ ap (λ (o : OpenLedger). with_join o.joins joined) (sym has)

    -- it has the pair
    pub holds_after : (m : OpenLedger) (now_leaves : List ℕ → Type 0) → m ≡ working (with_join l.joins joined) → AllRepresent now_leaves m.joins → HoldsJoins (record sv { ledger = Some m }) now_leaves
    holds_after m now_leaves is all = record {
      past = past_after real h.asked.past h.asked.call;
      represents = h.asked.represents;
      answered = answered_after h.asked;
      ledger = λ k q. (let z : k ≡ m = (cc) in z) ∙ is ∙ ap working (sym node_joins);
      images = λ image left. subst (Represents image) (ap (λ (o : OpenLedger). o.joins) is ∙ sym node_joins) (all image left.1);
    }

    -- it has the pair or not
    pub unkept : (now_leaves : List ℕ → Type 0) → ((image : List ℕ) → now_leaves image → Represents image l.joins ⊎ Represents image (with_join l.joins joined))
        → (image : List ℕ) → images_if (is_some sv.ledger) now_leaves image → Represents image (joins_kept sv.ledger) ⊎ Represents image sv.player.node.joins
    unkept now_leaves between image left =
        ⊎_elim (λ x. inl (subst (Represents image) (sym (ap joins_kept e)) x)) (λ x. inr (subst (Represents image) (sym node_joins) x)) (between image left.1)
