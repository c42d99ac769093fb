-- What a keeper holds before a call, once its node was asked, once the join is kept, and once the turn was played.
use Rattle.std.proofs.Common.{◌≡◌, ◌≤◌, ◌⊎◌, inl, inr, ⊎_elim, ℕ, List, [], ◌++◌, false, length, take, Option, None, IfSome, Result, Ok, Err, OnOk, refl, sym, ap, ◌∙◌, subst}
use Rattle.std.proofs.lemmas.List.{append-nil}
use Rattle.sg_base.specs.declared.address.Addr.{Addr}
use Rattle.sg_report.specs.Outcome.{outcome_of}
use Rattle.sg_report.specs.declared.outcome.Outcome.{Outcome}
use Rattle.sg_ledger.specs.Format.{Join, OpenLedger, Represents}
use Rattle.sg_protocol.specs.Calls.{Call}
use Rattle.sg_protocol.specs.Keyring.{Keyring, Program}
use Rattle.sg_protocol.specs.Past.{Past, past_after}
use Rattle.sg_protocol.specs.Texts.{real}
use Rattle.sg_report.specs.Reported.{sid_left}
use Rattle.sg_script.specs.Script.{Choice, Script}
use Rattle.sg_play.specs.declared.fault.PlayFault.{PlayFault}
use Rattle.sg_play.specs.declared.fault.PlayFault.TheVariants.{LinkFailed, WriteFailed, OutOfMemory}
use Rattle.sg_play.specs.declared.player.Player.{Player}
use Rattle.sg_play.specs.Asking.{IsAsked as IsAskedOfNode}
use Rattle.sg_play.specs.Ends.{Outside, Whole, Ended}
use Rattle.sg_play.specs.Played.{Play, all_deliveries, all_starts, beginning, called, played, with_turn}
use Rattle.sg_play.specs.Representation.{HasAsked, KeepsJoins, RepresentsPlay}
use Rattle.sg_play.specs.Steps.{Step, frames_of}
use Rattle.sg_play.proofs.Endings.{whole_none}
use Rattle.sg_play.proofs.Reporting.{asked_by}
use Rattle.sg_play.proofs.Running.{nothing_sent}
use Rattle.sg_keep.specs.declared.fault.KeepFault.{KeepFault}
use Rattle.sg_keep.specs.declared.fault.KeepFault.TheVariants.{Played, DiskFailed}
use Rattle.sg_keep.specs.declared.keeper.Keeper.{Keeper}
use Rattle.sg_joins.specs.Images.{AllRepresent}
use Rattle.sg_joins.specs.Joins.{IsNew, join_reported, joins_made, with_join}
use Rattle.sg_joins.proofs.Adding.{working}
use Rattle.sg_joins.proofs.Asked.{answered_after, joins_after, new_join}
use Rattle.sg_joins.proofs.NewJoins.{joins_of_node}
use Rattle.sg_keep.specs.KeptRuns.{AreOfJoins, HasKept}
use Rattle.sg_keep.specs.Representation.{Progressed, HasAskedNode, HoldsJoins, IsAsked, RepresentsKept}
use Rattle.sg_keep.proofs.Ending.{IsBetween, end_on, not_kept, played_end, stopped}
use Rattle.sg_keep.proofs.Going.{Goes, after_call, by_call, by_deliveries, by_starts, deliveries_on, in_step_on, joined, quiet_joins, with_call}
use Rattle.sg_keep.proofs.Owning.{OwnsAll, none_sent, owned_past, sent_more}

-- ---- the node was asked

pub asked_node : (k : Keeper) (pl : Player) (may_leave : List ℕ → Type 0) (c : Call) (o : Outcome) (h : HoldsJoins k may_leave) → IsAskedOfNode 0 k.player.node pl.node h.past c o None → HasAskedNode (record k { player = pl }) may_leave o
asked_node k pl may_leave c o h came = record {
  asked = record { past = h.past; call = c; number = 0; range = came.range; answered_before = h.answered; represents = came.goes_on.represents; is_reported = came.is_reported };
  ledger = h.ledger ∙ ap working h.represents.joins;
  images = subst (AllRepresent may_leave) h.represents.joins h.images;
}

pub is_asked : (k : Keeper) (pl : Player) (may_leave : List ℕ → Type 0) (p : Play) (c : Call) (o : Outcome) → HoldsJoins k may_leave → RepresentsKept k p → pl ≡ record k.player { node = pl.node }
    → ((number : ℕ) → IsAskedOfNode number k.player.node pl.node p.past c o None) → None ≡ sid_left c → IsAsked (record k { player = pl }) p c o
is_asked k pl may_leave p c o h s is its_asked stays = record {
  asked = asked_by k.player pl p c o s.player is its_asked;
  stays = stays;
  answered_before = s.player.answered;
  in_step = s.in_step;
  sent = s.sent;
  ledger = ap (λ (o : OpenLedger). o.joins) h.ledger ∙ s.player.node.joins;
}

-- ---- the join of the outcome

module _ (k : Keeper) (may_leave : List ℕ → Type 0) (o : Outcome) (h : HasAskedNode k may_leave o) where
  pub is_new : IfSome (join_reported (outcome_of o)) (IsNew k.ledger.joins)
  is_new = subst (λ (l : OpenLedger). IfSome (join_reported (outcome_of o)) (IsNew l.joins)) (sym h.ledger) (new_join h.asked)

  pub not_failed : k.ledger.failed ≡ false
  not_failed = ap (λ (o : OpenLedger). o.failed) h.ledger

  pub represent_now : AllRepresent may_leave k.ledger.joins
  represent_now = subst (λ (o : OpenLedger). AllRepresent may_leave o.joins) (sym h.ledger) h.images

  -- the node's joins are the ledger's with the pair
  pub node_joins : (r : Option Join) → r ≡ join_reported (outcome_of o) → k.player.node.joins ≡ with_join k.ledger.joins r
  node_joins r e = joins_after h.asked ∙ (λ i. with_join (sym (ap (λ (o : OpenLedger). o.joins) h.ledger) i) (sym e i))

  -- it was not kept: the images have it or not
  pub kept_or_not : (now_leaves : List ℕ → Type 0) → ((image : List ℕ) → now_leaves image → Represents image k.ledger.joins ⊎ Represents image (with_join k.ledger.joins (join_reported (outcome_of o))))
      → (image : List ℕ) → now_leaves image → Represents image k.ledger.joins ⊎ Represents image k.player.node.joins
  kept_or_not now_leaves between image left = ⊎_elim (λ s. inl s) (λ s. inr (subst (Represents image) (sym (node_joins (join_reported (outcome_of o)) refl)) s)) (between image left)

  -- the ledger has it
  pub holds_after : (l : OpenLedger) (now_leaves : List ℕ → Type 0) (r : Option Join) → r ≡ join_reported (outcome_of o) → l ≡ working (with_join k.ledger.joins r) → AllRepresent now_leaves l.joins → HoldsJoins (record k { ledger = l }) now_leaves
  holds_after l now_leaves r e is all = record {
    past = past_after real h.asked.past h.asked.call;
    represents = h.asked.represents;
    answered = answered_after h.asked;
    ledger = is ∙ ap working (sym (node_joins r e));
    images = subst (AllRepresent now_leaves) (ap (λ (o : OpenLedger). o.joins) is ∙ sym (node_joins r e)) all;
  }

-- ---- the call is reported

module _ (k : Keeper) (p : Play) (c : Call) (o : Outcome) (a : IsAsked k p c o) where
  -- the joins of the ledger, and those of the node with the call
  pub ledger_has : k.ledger.joins ≡ p.past.first ++ joins_made p.past.calls
  ledger_has = a.ledger ∙ joins_of_node p.past a.answered_before

  pub node_has : k.player.node.joins ≡ (called p c).past.first ++ joins_made (called p c).past.calls
  node_has = a.asked.node.joins ∙ joins_of_node (past_after real p.past c) a.asked.answered_past

module _ (start now : Outside) (may_leave : List ℕ → Type 0) (k : Keeper) (p : Play) (c : Call) (o : Outcome) (a : IsAsked k p c o) where
  -- its join was not kept
  pub unkept : (f : KeepFault) → IsBetween f → ((image : List ℕ) → may_leave image → Represents image k.ledger.joins ⊎ Represents image k.player.node.joins) → Whole start now p.steps → HasKept start now may_leave (with_turn p c) (Err f)
  unkept f causes images w =
      end_on start now may_leave (called p c) (with_turn p c) f (after_call p c).0
      (not_kept start now may_leave p c f k.ledger.joins k.player.node.joins causes a.in_step a.sent (ledger_has k p c o a) (node_has k p c o a) images w)

  -- its join is kept
  module _ (m : Keeper) (same : m.player ≡ k.player) (h : HoldsJoins m may_leave) where
    all : AllRepresent may_leave ((called p c).past.first ++ joins_made (called p c).past.calls)
    all = subst (AllRepresent may_leave) (ap (λ (pl : Player). pl.node.joins) same ∙ node_has k p c o a) h.images

    owns : OwnsAll (called p c)
    owns = record { live = owned_past (past_after real p.past c) a.asked.answered_past; sent = sent_more p c (record { live = owned_past p.past a.answered_before; sent = a.sent }) }

    owns_then : OwnsAll (with_turn p c)
    owns_then = (after_call p c).2 owns

    steps_so : length (called p c).steps ≡ length (called p c).past.calls
    steps_so = in_step_on p (called p c) (by_call p c) a.in_step

    pub asked_then : HasAsked m.player p c o []
    asked_then = subst (λ (pl : Player). HasAsked pl p c o []) (sym same) a.asked

    -- it ended early
    pub unplayed : (f : PlayFault) → Ended start now (with_turn p c).steps (Err f) → HasKept start now may_leave (with_turn p c) (Err (Played f))
    unplayed f e =
        played_end start now may_leave (with_turn p c) (in_step_on (called p c) (with_turn p c) (after_call p c).0 steps_so) owns_then.sent
        (subst (AllRepresent may_leave) (sym (quiet_joins (called p c) (with_turn p c) (after_call p c))) all) f e

    -- it was played
    pub represents_kept : (k' : Keeper) → RepresentsPlay k'.player (with_turn p c) → RepresentsKept k' (with_turn p c)
    represents_kept k' s = record { player = s; in_step = in_step_on p (with_turn p c) (with_call p c) a.in_step; sent = owns_then.sent }

-- ---- the turn was played

-- the node goes on without a join
pub holds_on : (k m : Keeper) (may_leave : List ℕ → Type 0) → HoldsJoins k may_leave → m.ledger ≡ k.ledger → KeepsJoins k.player.node m.player.node → HoldsJoins m may_leave
holds_on k m may_leave h same keeps =
    let later = keeps h.past h.represents h.answered in
    record {
      past = later.0;
      represents = later.1;
      answered = later.2;
      ledger = same ∙ h.ledger ∙ ap working (sym later.3);
      images = subst (AllRepresent may_leave) (sym later.3) h.images;
    }

-- ---- sixteen random bytes less, or the outside by another name

pub kept_without : (k : Keeper) (p q : Play) → q.past ≡ p.past → q.steps ≡ p.steps → RepresentsPlay k.player q → RepresentsKept k p → RepresentsKept k q
kept_without k p q past steps s h = record {
  player = s;
  in_step = (λ i. length (steps i)) ∙ h.in_step ∙ (λ i. length (sym past i).calls);
  sent = subst (λ (z : Past). AreOfJoins (joins_made z.calls) (frames_of q.steps)) (sym past) (subst (λ (ss : List Step). AreOfJoins (joins_made p.past.calls) (frames_of ss)) (sym steps) h.sent);
}

-- ---- before a call

-- all joins of the play are kept
pub holds_all : (k : Keeper) (may_leave : List ℕ → Type 0) (p : Play) → HoldsJoins k may_leave → RepresentsKept k p → AllRepresent may_leave (p.past.first ++ joins_made p.past.calls)
holds_all k may_leave p h s = subst (AllRepresent may_leave) (s.player.node.joins ∙ joins_of_node p.past s.player.answered) h.images

module _ (start now : Outside) (may_leave : List ℕ → Type 0) (k : Keeper) (p q : Play) (h : HoldsJoins k may_leave) (s : RepresentsKept k p) (g : Goes p q) (w : Whole start now p.steps) where
  -- memory ran out between steps
  pub memory_end : (f : PlayFault) → f ≡ OutOfMemory → HasKept start now may_leave q (Err (Played f))
  memory_end f e = subst (λ (z : PlayFault). HasKept start now may_leave q (Err (Played z))) (sym e) (end_on start now may_leave p q (Played OutOfMemory) g (stopped start now may_leave p s.in_step s.sent (holds_all k may_leave p h s) w))

  -- the link gave no delivery
  pub link_end : HasKept start now may_leave q (Err (Played LinkFailed))
  link_end = end_on start now may_leave p q (Played LinkFailed) g (stopped start now may_leave p s.in_step s.sent (holds_all k may_leave p h s) w)

-- no delivery came after the first n: a link sends nothing in a call that gives none
module _ (start : Outside) (written : Option (List ℕ)) (old new : Option (List (Addr × List ℕ))) (same : new ≡ old) (may_leave : List ℕ → Type 0) (k : Keeper)
    (p : Play) (ds : List (List ℕ)) (n m : ℕ) (within : n ≤ m) (h : HoldsJoins k may_leave) (s : RepresentsKept k (all_deliveries p (take n ds)))
    (w : Whole start (record { written = written; sent = old }) (all_deliveries p (take n ds)).steps) where
  -- the link failed
  pub link_failed : HasKept start (record { written = written; sent = new }) may_leave (all_deliveries p (take m ds)) (Err (Played LinkFailed))
  link_failed =
      let so_far : Play = all_deliveries p (take n ds) in
      link_end start (record { written = written; sent = new }) may_leave k so_far (all_deliveries p (take m ds)) h s (deliveries_on p n m ds within)
      (nothing_sent start so_far written old new same w)

  -- memory ran out for it
  pub link_full : HasKept start (record { written = written; sent = new }) may_leave (all_deliveries p (take m ds)) (Err (Played OutOfMemory))
  link_full =
      let so_far : Play = all_deliveries p (take n ds) in
      memory_end start (record { written = written; sent = new }) may_leave k so_far (all_deliveries p (take m ds)) h s (deliveries_on p n m ds within)
      (nothing_sent start so_far written old new same w) OutOfMemory refl

-- ---- a play begins

pub holds_first : (k : Keeper) (may_leave : List ℕ → Type 0) (keys : Keyring) (programs : List Program) (first : List Join) (choices : List Choice) → RepresentsPlay k.player (beginning keys programs first choices []) → k.ledger ≡ working first → AllRepresent may_leave first → HoldsJoins k may_leave
holds_first k may_leave keys programs first choices s is all = record {
  past = record { keys = keys; programs = programs; first = first; calls = [] };
  represents = s.node;
  answered = s.answered;
  ledger = is ∙ ap working (sym s.node.joins);
  images = subst (AllRepresent may_leave) (sym s.node.joins) all;
}

pub represents_first : (k : Keeper) (keys : Keyring) (programs : List Program) (first : List Join) (choices : List Choice) (random : List (List ℕ)) → RepresentsPlay k.player (beginning keys programs first choices random) → RepresentsKept k (beginning keys programs first choices random)
represents_first k keys programs first choices random s = record { player = s; in_step = refl; sent = none_sent [] }

-- memory ran out before its first step
pub not_begun : (start : Outside) (may_leave : List ℕ → Type 0) (keys : Keyring) (programs : List Program) (first : List Join) (script : Script) (deliveries random : List (List ℕ)) → AllRepresent may_leave first
    → (f : PlayFault) → f ≡ OutOfMemory → HasKept start start may_leave (played keys programs first script deliveries random) (Err (Played f))
not_begun start may_leave keys programs first script deliveries random all f e =
    let begun = beginning keys programs first script.choices random in
    let started = all_starts begun script.starts in
    let whole = all_deliveries started deliveries in
    subst (λ (z : PlayFault). HasKept start start may_leave whole (Err (Played z))) (sym e)
    (end_on start start may_leave begun whole (Played OutOfMemory) (joined begun started whole (by_starts begun script.starts) (by_deliveries started deliveries))
    (stopped start start may_leave begun refl (none_sent []) (subst (AllRepresent may_leave) (sym (append-nil first)) all) (whole_none start)))

-- ---- a play ends

-- what was given and kept at its end
pub came_kept : (start now : Outside) (may_leave : List ℕ → Type 0) (k : Keeper) (random : Option (List (List ℕ))) (p : Play) (r : Result (Unit {0}) KeepFault) → OnOk r (HoldsJoins k may_leave) → Progressed start now may_leave k random p r → HasKept start now may_leave p r
came_kept start now may_leave k random p (Ok u) holds h = (h.1, holds_all k may_leave p holds h.0, h.0.sent)
came_kept start now may_leave k random p (Err (Played LinkFailed)) holds h = h
came_kept start now may_leave k random p (Err (Played WriteFailed)) holds h = h
came_kept start now may_leave k random p (Err (Played OutOfMemory)) holds h = h
came_kept start now may_leave k random p (Err DiskFailed) holds h = h
