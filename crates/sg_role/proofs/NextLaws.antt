-- What is held after a step is what the state goes on with.
use Rattle.std.proofs.Common.{◌≡◌, ℕ, ◌+◌, ◌<◌, ◌==◌, ◌&&◌, not, nat_lt, nat_le, Bool, true, false, List, [], ◌∷◌, length, refl, sym, ◌∙◌, ap, subst, Option, Some, None, option_map, unwrap_or}
use Rattle.std.specs.Option.{option_or}
use Rattle.std.proofs.lemmas.Bool.{leb-false}
use Rattle.sg_model.proofs.LastOf.{eqb_same}
use Rattle.sg_model.specs.Limits.{most_time}
use Rattle.sg_model.specs.Lists.{below, first_some}
use Rattle.sg_model.specs.Last.{Map, last, up_to_last}
use Rattle.sg_model.specs.Shape.{source, target}
use Rattle.sg_model.specs.Values.{Value, Opening}
use Rattle.sg_model.proofs.Small.{length_map}
use Rattle.sg_model.proofs.Numbers.{length-range_from}
use Rattle.sg_protocol.specs.Acting.{openings_for}
use Rattle.sg_protocol.specs.Reachable.{IsReachableAtTurn, IsReachableWaiting}
use Rattle.sg_protocol.specs.Calls.{SendFault, NoSuchLabel, BadValues, TimeSpent}
use Rattle.sg_protocol.specs.Frame.{Item}
use Rattle.sg_protocol.specs.Graph.{shape}
use Rattle.sg_protocol.specs.IsSchedule.{IsProgram}
use Rattle.sg_protocol.specs.Keyring.{Keyring, Program, may_return}
use Rattle.sg_protocol.specs.Ranges.{AreValues}
use Rattle.sg_protocol.specs.Sending.{own_item}
use Rattle.sg_protocol.specs.Session.{Session, Gave, known}
use Rattle.sg_protocol.specs.Representation.{Held, RepresentsAtTurn, held_after}
use Rattle.sg_protocol.specs.Texts.{real}
use Rattle.sg_protocol.specs.Verdict.{row}
use Rattle.sg_role.specs.Sending.{WaitsOrEnds}
use Rattle.sg_role.specs.Stepping.{first_bad, send_rows, step_item, step_commitments, step_held, items_after, openings_after}
use Rattle.sg_role.specs.declared.sent.Sent.{Sent}
use Rattle.sg_role.proofs.SendLaws.{waits_after}
use Rattle.sg_role.proofs.StepLaws.{item_held}

-- the kept openings are of all variables
pub openings_counted : (p : Program) (h : Held) → IsReachableAtTurn real p h → length h.kept.openings ≡ length p.graph.variables
openings_counted p h b =
    ap (λ (z : Held). length z.kept.openings) b.represents.holds
    ∙ length_map (known b.session) (below (length p.graph.variables))
    ∙ length-range_from 0 (length p.graph.variables)

-- a step on which no row holds has time left
pub time_left : (p : Program) (h : Held) (label : ℕ) (values : Map Value) → first_some (send_rows p h label values) ≡ None → h.kept.time < most_time
time_left p h label values none = leb-false most_time h.kept.time (not_spent (not (nat_lt label (length p.graph.edges) && (source (shape p.graph) label == h.kept.place))) (option_map BadValues (first_bad p.graph label values)) (nat_le most_time h.kept.time) none)
  where
    not_spent : (a : Bool) (o : Option SendFault) (b : Bool) → first_some (row a NoSuchLabel ∷ o ∷ row b TimeSpent ∷ []) ≡ None → b ≡ false
    not_spent true o b e = cc
    not_spent false (Some f) b e = cc
    not_spent false None true e = cc
    not_spent false None false e = refl

module _ (keys : Keyring) (p : Program) (h : Held) (label : ℕ) (written : List Opening) where
  abbrev own : Item
  own = step_item keys p h label written

  mine : up_to_last (λ (i : Item). i.role) h.role (own ∷ []) ≡ own ∷ []
  mine = rw (eqb_same h.role) refl

  -- what is held after the step is what the state goes on with
  next_held : length h.kept.openings ≡ length p.graph.variables → step_held keys p h label written ≡ held_after p.graph h (Gave own written)
  next_held e = λ j. record h {
    kept = record {
      origin = sym (ap (λ (l : List Item). option_or (option_map (λ (i : Item). i.label) (last l)) h.kept.origin) mine) j;
      own_time = sym (ap (λ (l : List Item). unwrap_or (option_map (λ (i : Item). i.time) (last l)) h.kept.own_time) mine) j;
      time = h.kept.time + 1;
      place = target (shape p.graph) label;
      items = items_after p.graph h own;
      commitments = step_commitments p h written;
      openings = ap (λ n. openings_after n h.kept.openings written) e j;
    };
  }

module _ (keys : Keyring) (p : Program) (h : Held) (label : ℕ) (values : Map Value) (confounders : List (List ℕ)) (ip : IsProgram real p) (turn : IsReachableAtTurn real p h) where
  abbrev written : List Opening
  written = openings_for values confounders

  -- the state goes on, waiting
  pub next_waits : first_some (send_rows p h label values) ≡ None → AreValues values confounders → IsReachableWaiting real p (step_held keys p h label written)
  next_waits none are = subst (IsReachableWaiting real p) (sym (next_held keys p h label written (openings_counted p h turn))) (waits_after keys p h label values confounders ip turn none are)

  -- it is what is held after the step, in each session that the turn represents
  pub next_represents : (s : Session) → RepresentsAtTurn p.graph h s → (sent : Sent) → WaitsOrEnds (may_return p label) (record { program = p; held = step_held keys p h label written }) sent →
      WaitsOrEnds (may_return p label) (record { program = p; held = held_after p.graph h (Gave (own_item real keys p s label written) written) }) sent
  next_represents s represents sent = subst (λ (z : Held). WaitsOrEnds (may_return p label) (record { program = p; held = z }) sent)
      (next_held keys p h label written (openings_counted p h turn) ∙ ap (λ (i : Item). held_after p.graph h (Gave i written)) (item_held keys p h s represents.holds label written))
