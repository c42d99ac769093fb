-- What a player represents: a play.
use Rattle.std.specs.Prelude.{◌≡◌, ℕ, ◌+◌, List, length, drop, Bool, Option, Some, Result, Ok, Err}
use Rattle.sg_base.specs.declared.address.Addr.{Addr}
use Rattle.sg_text.specs.Sessions.{naming}
use Rattle.sg_model.specs.Names.{Name}
use Rattle.sg_node.specs.Answers.{IsAnsweredPast, graph_named}
use Rattle.sg_protocol.specs.Calls.{Call}
use Rattle.sg_protocol.specs.NodeStates.{NodeState, RepresentsPast}
use Rattle.sg_protocol.specs.Past.{Past, node_of, past_after}
use Rattle.sg_protocol.specs.Texts.{real}
use Rattle.sg_protocol.specs.Named.{graph_of_call}
use Rattle.sg_report.specs.Outcome.{graph_in, outcome_of}
use Rattle.sg_report.specs.Reported.{reported_answer}
use Rattle.sg_report.specs.declared.outcome.Outcome.{Outcome}
use Rattle.sg_script.specs.Script.{Choice}
use Rattle.sg_play.specs.declared.fault.PlayFault.{PlayFault}
use Rattle.sg_play.specs.declared.player.Player.{Player}
use Rattle.sg_play.specs.Ends.{Outside, Whole, Ended}
use Rattle.sg_play.specs.Played.{Play, answer_in, act_by, chosen}
use Rattle.sg_play.specs.Queues.{HoldsChoices}
use Rattle.sg_play.specs.Steps.{counted, known_in, frames_in, frames_of}
use Rattle.sg_play.specs.Turns.{acted, acted_by}

-- the player has the play's node, keys and programs, its choices, and what its lines are written by
pub record RepresentsPlay (pl : Player) (p : Play) : Type 0 where
  pub node : RepresentsPast pl.node p.past
  pub answered : IsAnsweredPast p.past
  pub keys : p.past.keys ≡ pl.keys.now
  pub programs : p.past.programs ≡ pl.programs.now
  pub choices : HoldsChoices pl.choices p.choices
  pub names : pl.names ≡ naming 115 (known_in p.past.calls)
  pub steps : pl.steps ≡ counted (length p.past.calls)
  pub frames : pl.frames ≡ counted (length (frames_of p.steps))

-- the player has asked its node this call, and this is the outcome, which is not reported yet. These frames are counted
pub record HasAsked (pl : Player) (p : Play) (c : Call) (outcome : Outcome) (made : List (Addr × List ℕ)) : Type 0 where
  pub node : RepresentsPast pl.node (past_after real p.past c)
  pub answered_past : IsAnsweredPast (past_after real p.past c)
  pub keys : p.past.keys ≡ pl.keys.now
  pub programs : p.past.programs ≡ pl.programs.now
  pub choices : HoldsChoices pl.choices p.choices
  pub names : pl.names ≡ naming 115 (known_in p.past.calls)
  pub steps : pl.steps ≡ counted (length p.past.calls)
  pub frames : pl.frames ≡ counted (length (frames_of p.steps) + length made)
  pub is_reported : outcome_of outcome ≡ reported_answer (counted (length (frames_of p.steps) + 1)) (answer_in p c)
  pub is_graph : graph_in outcome ≡ graph_named (answer_in p c) (graph_of_call real (node_of p.past) c)
  pub is_made : made ≡ frames_in p.past.keys (answer_in p c)

-- a play came to this one, all that it gave the outside since the start being whole; or it ended early on the way
abbrev pub ProgressedOnItsWay : (start now : Outside) → Player → Play → Result (Unit {0}) PlayFault → Type 0
ProgressedOnItsWay start now pl p (Ok u) = RepresentsPlay pl p × Whole start now p.steps
ProgressedOnItsWay start now pl p (Err fault) = Ended start now p.steps (Err fault)

-- and the random bytes that are left are the source's
abbrev pub Progressed : (start now : Outside) → Player → (random : Option (List (List ℕ))) → Play → Result (Unit {0}) PlayFault → Type 0
Progressed start now pl random p (Ok u) = ProgressedOnItsWay start now pl p (Ok u) × (random ≡ Some p.random)
Progressed start now pl random p (Err fault) = ProgressedOnItsWay start now pl p (Err fault)

-- whatever play the player represents, with these random bytes to come, and whatever it has given the outside: the play came to where it goes, or ended early on the way
abbrev pub Progresses : (goes : Play → Play) → (old new : Player) → (random left : Option (List (List ℕ))) → (before now : Outside) → Result (Unit {0}) PlayFault → Type 0
Progresses goes old new random left before now r = (p : Play) (start : Outside) → RepresentsPlay old p → random ≡ Some p.random → Whole start before p.steps → Progressed start now new left (goes p) r

-- so with the answer whether a frame was sent
abbrev pub ProgressedActing : (start now : Outside) → Player → (random : Option (List (List ℕ))) → Play × Bool → Result Bool PlayFault → Type 0
ProgressedActing start now pl random x (Ok sent) = Progressed start now pl random x.0 (Ok tt) × (sent ≡ x.1)
ProgressedActing start now pl random x (Err fault) = Progressed start now pl random x.0 (Err fault)

-- the player has asked for the act of a session at a node, by a choice for this node of a graph, and this is the outcome
pub record HasActed (pl : Player) (random : Option (List (List ℕ))) (sid : List ℕ) (node : ℕ) (p : Play) (outcome : Outcome) (made : List (Addr × List ℕ)) : Type 0 where
  pub graph : Name
  pub choice : Choice
  pub is_act : acted sid node p ≡ acted_by sid graph node p choice
  pub asked : HasAsked pl (chosen graph node choice p) (act_by sid choice p.random) outcome made
  pub random_left : random ≡ Some (drop (length choice.values) p.random)

-- if the old state of a node represented a valid past, the new one represents such a past too, and has the same joins
abbrev pub KeepsJoins : (old new : NodeState) → Type 0
KeepsJoins old new = (past : Past) → RepresentsPast old past → IsAnsweredPast past → (later : Past) × RepresentsPast new later × IsAnsweredPast later × (new.joins ≡ old.joins)
