-- What a state of a role represents: sessions of which the role keeps what the state holds.
use Rattle.std.specs.Prelude.{◌≡◌, ◌≢◌, ℕ, true, false, List, [], ◌++◌, map, length, get_or, None, option_map, unwrap_or, IfSome}
use Rattle.std.specs.Option.{option_or}
use Rattle.sg_model.specs.Last.{last, up_to_last}
use Rattle.sg_model.specs.Lists.{below, first_some}
use Rattle.sg_model.specs.Shape.{role_at, target}
use Rattle.sg_model.specs.Values.{Opening}
use Rattle.sg_protocol.specs.Graph.{Graph, shape}
use Rattle.sg_protocol.specs.Accepted.{Accepted}
use Rattle.sg_protocol.specs.Frame.{Cast, Item, Frame}
use Rattle.sg_protocol.specs.Texts.{Hash}
use Rattle.sg_protocol.specs.Keyring.{Keyring, Program}
use Rattle.sg_protocol.specs.Session.{Session, Exchange, new_session, extended, items_of, openings_of, transcript, own_part, origin, own_time, time, place, at_turn, last_label, committed, opening_in, Took, Gave}
use Rattle.sg_protocol.specs.Sending.{own_item}
use Rattle.sg_protocol.specs.Kept.{KeptState, kept, kept_items}
use Rattle.sg_protocol.specs.Verdict.{rows_of_session}
use Rattle.sg_protocol.specs.Acting.{leaves}
use Rattle.sg_protocol.specs.IsSchedule.{IsProgram}
use Rattle.sg_protocol.specs.Enough.{KeepsSame}

-- what a role holds of a session: the sid, the cast, the role, and what it keeps
pub record Held : Type 0 where
  pub sid : List ℕ
  pub cast : Cast
  pub role : ℕ
  pub kept : KeptState

-- what the role of a session holds of it
abbrev pub held : Graph → Session → Held
held g s = record { sid = s.sid; cast = s.cast; role = s.role; kept = kept g s }

-- the session is new or ends with an own item: its transcript is its own part
abbrev pub EndsWithOwn : Session → Type 0
EndsWithOwn s = own_part s ≡ transcript s

-- the session is new or ends with an accepted frame: the last item of the transcript is another role's
abbrev pub EndsWithOther : Session → Type 0
EndsWithOther s = IfSome (last (transcript s)) (λ i. i.role ≢ s.role)

-- ---- representing a session

-- a state before what comes next represents a session that is new or ends with an own item
pub record RepresentsBefore (g : Graph) (h : Held) (s : Session) : Type 0 where
  pub holds : h ≡ held g s
  pub ends : EndsWithOwn s

-- a state that waits represents such a session, at whose place another role has the turn
pub record RepresentsWaiting (g : Graph) (h : Held) (s : Session) : Type 0 where
  pub before : RepresentsBefore g h s
  pub waits : at_turn g s ≡ false

-- a state at its turn represents a session that is new or ends with a frame, at whose place the role has the turn
pub record RepresentsAtTurn (g : Graph) (h : Held) (s : Session) : Type 0 where
  pub holds : h ≡ held g s
  pub ends : EndsWithOther s
  pub turn : at_turn g s ≡ true

-- ---- what is kept after more

-- what is kept of a new session
abbrev pub nothing_kept : Graph → KeptState
nothing_kept g = record {
  origin = None;
  own_time = 0;
  time = 0;
  place = 0;
  items = [];
  commitments = map (λ x. None) (below (length g.variables));
  openings = map (λ x. None) (below (length g.variables));
}

-- what role r keeps after these further items and openings
abbrev pub kept_with : Graph → ℕ → KeptState → List Item → List Opening → KeptState
kept_with g r k items os =
    let mine = up_to_last (λ i. i.role) r items in
    record {
      origin = option_or (last_label mine) k.origin;
      own_time = unwrap_or (option_map (λ i. i.time) (last mine)) k.own_time;
      time = unwrap_or (option_map (λ i. i.time) (last items)) k.time;
      place = unwrap_or (option_map (target (shape g)) (last_label items)) k.place;
      items = kept_items g (k.items ++ items);
      commitments = map (λ x. option_or (committed x items) (get_or k.commitments x None)) (below (length g.variables));
      openings = map (λ x. option_or (opening_in os x) (get_or k.openings x None)) (below (length g.variables));
    }

-- what is held after an exchange
abbrev pub held_after : Graph → Held → Exchange → Held
held_after g h e = record h { kept = kept_with g h.role h.kept (items_of e) (openings_of e) }

-- ---- the laws

-- A new state represents a new session, and what is held after a step or an accepted frame represents each session that the state represented, with this exchange
pub record StatesRepresent (sha : Hash) : Type 0 where
  -- of the sessions that one state represents the role keeps the same
  pub keeps_same : (g : Graph) (h : Held) (s t : Session) → h ≡ held g s → h ≡ held g t → KeepsSame g s t
  -- while the transcript ends with an own item, there is one time, and the place is the end of the role's own last step
  pub one_time : (s : Session) → EndsWithOwn s → time s ≡ own_time s
  pub own_place : (g : Graph) (s : Session) → EndsWithOwn s → place g s ≡ unwrap_or (option_map (target (shape g)) (origin s)) 0
  pub is_new : (g : Graph) (sid : List ℕ) (c : Cast) (r : ℕ) → RepresentsBefore g (record { sid = sid; cast = c; role = r; kept = nothing_kept g }) (new_session sid c r)
  pub goes_on : (g : Graph) (s : Session) (e : Exchange) → held g (extended s e) ≡ held_after g (held g s) e
  -- the start node's role begins, and each other waits to join
  pub begins : (g : Graph) (h : Held) (s : Session) → RepresentsBefore g h s → (h.kept).origin ≡ None → role_at (shape g) 0 ≡ h.role → RepresentsAtTurn g h s
  pub joins : (g : Graph) (h : Held) (s : Session) → RepresentsBefore g h s → (h.kept).origin ≡ None → role_at (shape g) 0 ≢ h.role → RepresentsWaiting g h s
  -- a step of the role along an edge of an accepted graph from the place
  pub gives : (keys : Keyring) (p : Program) (h : Held) (s : Session) (label : ℕ) (written : List Opening) → Accepted p.graph → RepresentsAtTurn p.graph h s → leaves p.graph s label ≡ true →
      let e = Gave (own_item sha keys p s label written) written in
      RepresentsWaiting p.graph (held_after p.graph h e) (extended s e)
  -- a frame on which no row holds
  pub takes : (keys : Keyring) (p : Program) (h : Held) (s : Session) (f : Frame) → IsProgram sha p → p.role ≡ s.role → RepresentsBefore p.graph h s → first_some (rows_of_session sha keys p s f) ≡ None →
      RepresentsAtTurn p.graph (held_after p.graph h (Took f)) (extended s (Took f))
