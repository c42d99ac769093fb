-- What comes of an act by a choice, and of a turn.
use Rattle.std.proofs.Common.{◌≡◌, ℕ, List, [], ◌∷◌, length, drop, find, Bool, true, false, Option, Some, None, Result, Ok, Err, refl, sym, ap, ◌∙◌, subst}
use Rattle.std.specs.Option.{option_map_or}
use Rattle.std.proofs.lemmas.List.{length-map}
use Rattle.sg_base.specs.declared.address.Addr.{Addr}
use Rattle.sg_base.specs.declared.value.Value.{Value as Held}
use Rattle.sg_base.specs.Model.{value_of}
use Rattle.sg_model.specs.Last.{Map}
use Rattle.sg_model.specs.Names.{Name}
use Rattle.sg_model.specs.Values.{Value}
use Rattle.sg_protocol.specs.Calls.{Call, Act}
use Rattle.sg_protocol.specs.Keyring.{Program}
use Rattle.sg_protocol.specs.Named.{live_with}
use Rattle.sg_protocol.specs.NodeStates.{NodeState}
use Rattle.sg_protocol.specs.Past.{node_of}
use Rattle.sg_protocol.specs.Session.{Session}
use Rattle.sg_protocol.specs.Turn.{turn_of}
use Rattle.sg_report.specs.declared.outcome.Outcome.{Outcome}
use Rattle.sg_script.specs.Script.{Choice}
use Rattle.sg_walk.specs.Model.{values_of}
use Rattle.sg_play.specs.declared.fault.PlayFault.{PlayFault}
use Rattle.sg_play.specs.declared.player.Player.{Player}
use Rattle.sg_play.specs.Asking.{IsAskedWithFrames}
use Rattle.sg_play.specs.Choosing.{is_ready, used}
use Rattle.sg_play.specs.Ends.{Outside, Whole, Ended}
use Rattle.sg_play.specs.Played.{Play, abandons, act_by, answer_in, called, chosen, next_confounders, plays_on, step_in}
use Rattle.sg_play.specs.Posting.{frames_made}
use Rattle.sg_play.specs.Queues.{Spot, HoldsChoices}
use Rattle.sg_play.specs.Representation.{ProgressedOnItsWay, ProgressedActing, Progressed, HasActed, RepresentsPlay}
use Rattle.sg_play.specs.Turns.{acted, acted_by, acted_in, is_sent, or_leaves}
use Rattle.sg_play.proofs.Coming.{ended_on}
use Rattle.sg_play.proofs.Extends.{Extends, nothing}
use Rattle.sg_play.proofs.Reporting.{asked_made}
use Rattle.sg_play.proofs.Turning.{acted_first, leaves, leaving_adds, no_turn, stays, turn_is}

-- ---- asking for the act

-- a player with other choices represents the play with these
by_choice : (old : Player) (table : List (Spot × List Choice)) (p : Play) (graph : Name) (node : ℕ) (c : Choice) → HoldsChoices table (used graph node p.choices) → RepresentsPlay old p → RepresentsPlay (record old { choices = table }) (chosen graph node c p)
by_choice old table p graph node c holds s = record { node = s.node; answered = s.answered; keys = s.keys; programs = s.programs; choices = holds; names = s.names; steps = s.steps; frames = s.frames }

-- how many values a choice has
pub count_is : (c : Choice) (held : List (ℕ × Held)) (n : ℕ) → n ≡ length held → values_of held ≡ c.values → n ≡ length c.values
count_is c held n e v = e ∙ sym (length-map held (λ (w : ℕ × Held). (w.0, value_of w.1))) ∙ ap (λ (l : Map Value). length l) v

-- the act by a choice, of what was read of the choice
pub act_is : (sid : List ℕ) (c : Choice) (label : ℕ) (values : Map Value) (count : ℕ) (drawn random : List (List ℕ)) → label ≡ c.label → values ≡ c.values → count ≡ length c.values → drawn ≡ next_confounders count random
    → Act sid label values drawn ≡ act_by sid c random
act_is sid c label values count drawn random l v n w = let d = w ∙ ap (λ k. next_confounders k random) n in λ i. Act sid (l i) (v i) (d i)

-- the player has acted
pub has_acted : (old : Player) (n : NodeState) (table : List (Spot × List Choice)) (frames : ℕ) (p : Play) (sid : List ℕ) (graph : Name) (node : ℕ) (c : Choice) (call : Call) (o : Outcome) (frame : Option (Addr × (Name × List ℕ)))
    (left : Option (List (List ℕ))) → RepresentsPlay old p → acted sid node p ≡ acted_in sid graph node p → find (is_ready graph node) p.choices ≡ Some c → call ≡ act_by sid c p.random → IsAskedWithFrames old.keys.now old.frames frames old.node n p.past call o frame
    → HoldsChoices table (used graph node p.choices) → left ≡ Some (drop (length c.values) p.random) → HasActed (record old { node = n; choices = table; frames = frames }) left sid node p o (frames_made frame)
has_acted old n table frames p sid graph node c call o frame left s in_graph first is_call is_asked holds random =
    let came = subst (λ (k : Call). IsAskedWithFrames old.keys.now old.frames frames old.node n p.past k o frame) is_call is_asked in
    record {
      graph = graph;
      choice = c;
      is_act = in_graph ∙ acted_first sid node p graph c first;
      asked = asked_made (record old { choices = table }) n frames (chosen graph node c p) (act_by sid c p.random) o frame (by_choice old table p graph node c holds s) came;
      random_left = random;
    }

-- ---- the act

-- it only adds steps
pub acting_adds : (sid : List ℕ) (node : ℕ) (p : Play) → Extends p (acted sid node p).0
acting_adds sid node p = by_session (live_with (node_of p.past) sid)
  where
    by_first : (graph : Name) (o : Option Choice) → Extends p (option_map_or (acted_by sid graph node p) o (p, false)).0
    by_first graph None = nothing p
    by_first graph (Some c) = (step_in (chosen graph node c p) (act_by sid c p.random) ∷ [], refl)

    by_session : (o : Option (Program × Session)) → Extends p (option_map_or (λ (x : Program × Session). acted_in sid x.0.graph.name node p) o (p, false)).0
    by_session None = nothing p
    by_session (Some x) = by_first x.0.graph.name (find (is_ready x.0.graph.name node) p.choices)

module _ (start now : Outside) (pl : Player) (random : Option (List (List ℕ))) where
  -- an early end
  pub act_failed : (x : Play × Bool) (r : Result Bool PlayFault) (f : PlayFault) → r ≡ Err f → Ended start now x.0.steps (Err f) → ProgressedActing start now pl random x r
  act_failed x r f e h = subst (λ (z : Result Bool PlayFault). ProgressedActing start now pl random x z) (sym e) h

  -- the state that is come to, by another name
  pub act_same : (x y : Play × Bool) (r : Result Bool PlayFault) → y ≡ x → ProgressedActing start now pl random x r → ProgressedActing start now pl random y r
  act_same x y r e h = subst (λ (z : Play × Bool). ProgressedActing start now pl random z r) (sym e) h

  -- no choice, or no session
  pub act_none : (old : Player) (before : Option (List (List ℕ))) (x : Play × Bool) (p : Play) → x ≡ (p, false) → pl ≡ old → random ≡ before → RepresentsPlay old p → before ≡ Some p.random → Whole start now p.steps → ProgressedActing start now pl random x (Ok false)
  act_none old before x p e same kept s w h = act_same (p, false) x (Ok false) e (((subst (λ (z : Player). RepresentsPlay z p) (sym same) s, h), kept ∙ w), refl)

-- by the first choice
module _ (start now : Outside) (old pl : Player) (random : Option (List (List ℕ))) (sid : List ℕ) (node : ℕ) (p : Play) (o : Outcome) (made : List (Addr × List ℕ)) (h : HasActed old random sid node p o made) where
  pub act_given : (sent : Bool) → ProgressedOnItsWay start now pl (called (chosen h.graph node h.choice p) (act_by sid h.choice p.random)) (Ok tt) → sent ≡ is_sent (answer_in p (act_by sid h.choice p.random)) → ProgressedActing start now pl random (acted sid node p) (Ok sent)
  act_given sent came is = act_same start now pl random (acted_by sid h.graph node p h.choice) (acted sid node p) (Ok sent) h.is_act ((came, h.random_left), is)

  pub act_stopped : (r : Result Bool PlayFault) (f : PlayFault) → r ≡ Err f → ProgressedOnItsWay start now pl (called (chosen h.graph node h.choice p) (act_by sid h.choice p.random)) (Err f) → ProgressedActing start now pl random (acted sid node p) r
  act_stopped r f e came = act_failed start now pl random (acted sid node p) r f e (subst (λ (x : Play × Bool). Ended start now x.0.steps (Err f)) (sym h.is_act) came)

-- ---- the turn

module _ (start now : Outside) (pl : Player) (random : Option (List (List ℕ))) (sid : List ℕ) (p : Play) where
  -- none
  pub turn_none : turn_of (node_of p.past) sid ≡ None → RepresentsPlay pl p → random ≡ Some p.random → Whole start now p.steps → Progressed start now pl random (plays_on sid p) (Ok tt)
  turn_none e s w h = subst (λ (q : Play). Progressed start now pl random q (Ok tt)) (sym (no_turn sid p e)) ((s, h), w)

  -- a step was sent
  pub turn_sent : (node : ℕ) (b : Bool) → turn_of (node_of p.past) sid ≡ Some node → b ≡ true → ProgressedActing start now pl random (acted sid node p) (Ok b) → Progressed start now pl random (plays_on sid p) (Ok tt)
  turn_sent node b e sent h = subst (λ (q : Play). Progressed start now pl random q (Ok tt)) (sym (turn_is sid node p e ∙ stays sid (acted sid node p) (sym h.1 ∙ sent))) h.0

  -- none was sent: the session is left
  pub turn_left : (node : ℕ) (r : Result (Unit {0}) PlayFault) → turn_of (node_of p.past) sid ≡ Some node → (acted sid node p).1 ≡ false → Progressed start now pl random (abandons sid (acted sid node p).0) r → Progressed start now pl random (plays_on sid p) r
  turn_left node r e unsent h = subst (λ (q : Play). Progressed start now pl random q r) (sym (turn_is sid node p e ∙ leaves sid (acted sid node p) unsent)) h

  -- it ended early
  pub turn_failed : (node : ℕ) (r : Result (Unit {0}) PlayFault) (f : PlayFault) → turn_of (node_of p.past) sid ≡ Some node → r ≡ Err f → ProgressedActing start now pl random (acted sid node p) (Err f) → Progressed start now pl random (plays_on sid p) r
  turn_failed node r f e is h =
      let ended : Ended start now (plays_on sid p).steps (Err f) = subst (λ (q : Play). Ended start now q.steps (Err f)) (sym (turn_is sid node p e)) (ended_on start now (acted sid node p).0 (or_leaves sid (acted sid node p)) f (leaving_adds sid (acted sid node p)) h) in
      subst (λ (z : Result (Unit {0}) PlayFault). Progressed start now pl random (plays_on sid p) z) (sym is) ended
