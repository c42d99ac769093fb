-- A step on which no row holds: what it sends is short, and what is held afterwards waits.
use Rattle.std.proofs.Common.{◌≡◌, ℕ, List, [], ◌∷◌, map, refl, sym, ◌∙◌, ap, subst, Option, Some, None, option_map}
use Rattle.sg_model.specs.Last.{Map, last}
use Rattle.sg_model.specs.Lists.{first_some}
use Rattle.sg_model.specs.Values.{Value, Opening}
use Rattle.sg_protocol.specs.Acting.{openings_for, rows_of_send, rows_of_act}
use Rattle.sg_protocol.specs.Reachable.{IsReachableAtTurn, IsReachableWaiting}
use Rattle.sg_protocol.specs.Bounds.{IsShortFrame}
use Rattle.sg_protocol.specs.Calls.{SendFault, Send}
use Rattle.sg_protocol.specs.IsSchedule.{IsProgram}
use Rattle.sg_protocol.specs.Keyring.{Keyring, Program}
use Rattle.sg_protocol.specs.Ranges.{AreValues}
use Rattle.sg_protocol.specs.Sending.{own_item, frame_sent}
use Rattle.sg_protocol.specs.Session.{Session, Gave}
use Rattle.sg_protocol.specs.Representation.{Held, RepresentsAtTurn, held_after}
use Rattle.sg_protocol.specs.Texts.{real}
use Rattle.sg_protocol.proofs.Reachable.{states_are_reachable}
use Rattle.sg_protocol.proofs.RealHash.{real_hash}
use Rattle.sg_role.specs.Stepping.{send_rows, step_item, step_frame}
use Rattle.sg_role.proofs.StepLaws.{rows_held, item_held, frame_held}

-- ---- no row

none_mapped : (os : List (Option SendFault)) → first_some os ≡ None → first_some (map (option_map Send) os) ≡ None
none_mapped [] e = refl
none_mapped (None ∷ os) e = none_mapped os e
none_mapped (Some f ∷ os) e = absurd (cc)

-- ---- by the session behind the state

module _ (keys : Keyring) (p : Program) (h : Held) (label : ℕ) (values : Map Value) (confounders : List (List ℕ)) (ip : IsProgram real p) (turn : IsReachableAtTurn real p h)
    (none : first_some (send_rows p h label values) ≡ None) (are : AreValues values confounders) where
  abbrev written : List Opening
  written = openings_for values confounders

  module _ (s : Session) (represents : RepresentsAtTurn p.graph h s) where
    rows : first_some (rows_of_send p s label values) ≡ None
    rows = ap first_some (sym (rows_held keys p h s represents.holds label values)) ∙ none

    acts : first_some (rows_of_act p s label values) ≡ None
    acts = rw represents.turn (none_mapped (rows_of_send p s label values) rows)

    given : (last (frame_sent real keys p s label written).items ≡ Some (own_item real keys p s label written)) × IsShortFrame (frame_sent real keys p s label written) × IsReachableWaiting real p (held_after p.graph h (Gave (own_item real keys p s label written) written))
    given = (states_are_reachable real real_hash).gives keys p h s label values confounders ip turn represents acts are

    pub shows_own : last (frame_sent real keys p s label written).items ≡ Some (own_item real keys p s label written)
    shows_own = given.0

  pub sends_short : IsShortFrame (step_frame keys p h label written)
  sends_short = subst IsShortFrame (sym (frame_held keys p h turn.session turn.represents.holds label written ip.is_graph)) (given turn.session turn.represents).1

  pub waits_after : IsReachableWaiting real p (held_after p.graph h (Gave (step_item keys p h label written) written))
  waits_after = subst (λ i. IsReachableWaiting real p (held_after p.graph h (Gave i written))) (sym (item_held keys p h turn.session turn.represents.holds label written)) (given turn.session turn.represents).2
