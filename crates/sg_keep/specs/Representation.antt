-- What a keeper represents: a play, and a ledger with the joins of its node.
use Rattle.std.specs.Prelude.{◌≡◌, ◌≤◌, ℕ, List, [], ◌++◌, false, length, Option, Some, None, Result, Ok, Err}
use Rattle.sg_ledger.specs.Format.{Join}
use Rattle.sg_node.specs.Answers.{IsAnsweredPast}
use Rattle.sg_play.specs.Ends.{Outside, Whole}
use Rattle.sg_play.specs.Played.{Play}
use Rattle.sg_play.specs.Representation.{HasAsked, RepresentsPlay}
use Rattle.sg_play.specs.Steps.{frames_of}
use Rattle.sg_protocol.specs.Calls.{Call}
use Rattle.sg_protocol.specs.NodeStates.{RepresentsPast}
use Rattle.sg_protocol.specs.Past.{Past, node_of}
use Rattle.sg_report.specs.Reported.{sid_left}
use Rattle.sg_report.specs.declared.outcome.Outcome.{Outcome}
use Rattle.sg_joins.specs.Asked.{AskedOnce}
use Rattle.sg_joins.specs.Images.{AllRepresent}
use Rattle.sg_joins.specs.Joins.{joins_made}
use Rattle.sg_keep.specs.KeptRuns.{AreOfJoins, HasKept, KeptThroughout}
use Rattle.sg_keep.specs.declared.fault.KeepFault.{KeepFault}
use Rattle.sg_keep.specs.declared.keeper.Keeper.{Keeper}

-- the node represents a valid past; the ledger works and has the node's joins, and each image represents them
pub record HoldsJoins (k : Keeper) (may_leave : List ℕ → Type 0) : Type 0 where
  pub past : Past
  pub represents : RepresentsPast k.player.node past
  pub answered : IsAnsweredPast past
  pub ledger : k.ledger ≡ record { joins = k.player.node.joins; failed = false }
  pub images : AllRepresent may_leave k.player.node.joins

-- the keeper's node has been asked one more call, and this is the outcome; the ledger has the joins from before
pub record HasAskedNode (k : Keeper) (may_leave : List ℕ → Type 0) (outcome : Outcome) : Type 0 where
  pub asked : AskedOnce k.player.node outcome
  pub ledger : k.ledger ≡ record { joins = (node_of asked.past).joins; failed = false }
  pub images : AllRepresent may_leave (node_of asked.past).joins

-- joins are these, and then others
abbrev pub HasMore : (before now : List Join) → Type 0
HasMore before now = (more : List Join) × (now ≡ before ++ more)

-- the player represents the play, which has as many steps as calls, and whose frames are of the joins that the calls made
pub record RepresentsKept (k : Keeper) (p : Play) : Type 0 where
  pub player : RepresentsPlay k.player p
  pub in_step : length p.steps ≡ length p.past.calls
  pub sent : AreOfJoins (joins_made p.past.calls) (frames_of p.steps)

-- the player has asked a call that leaves no session, and this is the outcome, which is not reported yet
pub record IsAsked (k : Keeper) (p : Play) (c : Call) (outcome : Outcome) : Type 0 where
  pub asked : HasAsked k.player p c outcome []
  pub stays : None ≡ sid_left c
  pub answered_before : IsAnsweredPast p.past
  pub in_step : length p.steps ≡ length p.past.calls
  pub sent : AreOfJoins (joins_made p.past.calls) (frames_of p.steps)
  pub ledger : k.ledger.joins ≡ (node_of p.past).joins

-- a play came to this one, all that it gave the outside since the start being whole, and the random bytes that are left are the source's; or it ended early on the way
abbrev pub Progressed : (start now : Outside) → (may_leave : List ℕ → Type 0) → Keeper → (random : Option (List (List ℕ))) → Play → Result (Unit {0}) KeepFault → Type 0
Progressed start now may_leave k random p (Ok u) = RepresentsKept k p × Whole start now p.steps × (random ≡ Some p.random)
Progressed start now may_leave k random p (Err f) = HasKept start now may_leave p (Err f)

-- a part of a play, from one to another, was kept throughout, and the lines of the first of these were written before
abbrev pub KeptFrom : {D : Type 0} (moment : D → ℕ) (left_since : D → ℕ → List ℕ → Type 0) (old new : D) (start now : Option (List ℕ)) (p q : Play) → Type 0
KeptFrom moment left_since old new start now p q = (kept : KeptThroughout moment left_since old new start now q) × (length p.steps ≤ kept.count)
