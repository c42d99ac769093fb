-- A role's states keep their invariants.
use Rattle.std.specs.Prelude.{◌≡◌, ℕ, ◌<◌, ◌⊎◌, true, false, List, length, refl, Some, None}
use Rattle.std.proofs.Common.{sym, ◌∙◌, ap, subst, arith}
use Rattle.std.proofs.lemmas.Bool.{eqb-true, eq-eqb, lt-ltb}
use Rattle.sg_model.specs.Bytes.{AreBytes}
use Rattle.sg_model.specs.Last.{Map, last}
use Rattle.sg_model.specs.Lists.{is_in, first_some}
use Rattle.sg_model.specs.Shape.{role_at, source}
use Rattle.sg_model.specs.Values.{Value, Opening}
use Rattle.sg_protocol.specs.Graph.{shape, writes, reads}
use Rattle.sg_protocol.specs.Frame.{Cast, Frame}
use Rattle.sg_protocol.specs.Spelling.{HasSpelling}
use Rattle.sg_protocol.specs.Texts.{Hash, IsHash}
use Rattle.sg_protocol.specs.Keyring.{Keyring, Program}
use Rattle.sg_protocol.specs.Session.{Session, Took, Gave, new_session, extended, place}
use Rattle.sg_protocol.specs.Sending.{own_item, frame_sent}
use Rattle.sg_protocol.specs.Kept.{kept}
use Rattle.sg_protocol.specs.Enough.{KeepsSame}
use Rattle.sg_protocol.specs.Verdict.{rows_of_session}
use Rattle.sg_protocol.specs.Acting.{openings_for, rows_of_act, leaves}
use Rattle.sg_protocol.specs.IsSchedule.{IsProgram}
use Rattle.sg_protocol.specs.Bounds.{IsShortFrame}
use Rattle.sg_protocol.specs.Following.{IsOpened, FollowsWalk}
use Rattle.sg_protocol.specs.Ranges.{IsCast, AreValues}
use Rattle.sg_protocol.specs.Representation.{Held, held, RepresentsBefore, RepresentsWaiting, RepresentsAtTurn, held_after}
use Rattle.sg_protocol.specs.Reachable.{IsReachableBefore, IsReachableWaiting, IsReachableAtTurn, StatesAreReachable}
use Rattle.sg_protocol.proofs.Enough.{kept_is_enough, same_own}
use Rattle.sg_protocol.proofs.Following as Following'
use Rattle.sg_protocol.proofs.Live.{new_sound, GivesSound, gives_sound, taken_sound}
use Rattle.sg_protocol.proofs.Ranges.{new_in_range}
use Rattle.sg_protocol.proofs.Representation.{states_represent, after}

module _ (sha : Hash) (hash : IsHash sha) (p : Program) where
  -- what is said of what is held of a session is said of the state that represents it
  at_held : (P : Held → Type 0) (h : Held) (s : Session) → h ≡ held p.graph s → P (held p.graph s) → P h
  at_held P h s e k = subst P (sym e) k

  keeps_same : (h : Held) (s t : Session) → h ≡ held p.graph s → h ≡ held p.graph t → KeepsSame p.graph s t
  keeps_same h s t a b = (states_represent sha).keeps_same p.graph h s t a b

  waiting_before : (h : Held) → IsReachableWaiting sha p h → IsReachableBefore sha p h
  waiting_before h b = record {
    session = b.session;
    represents = b.represents.before;
    sound = b.sound;
    follows = at_held (λ z. FollowsWalk sha p.graph z.sid z.role false z.kept) h b.session b.represents.before.holds
        (subst (λ t. FollowsWalk sha p.graph (b.session).sid (b.session).role t (kept p.graph b.session)) b.represents.waits b.sound.follows);
  }

  at_place : (h : Held) → IsReachableAtTurn sha p h → FollowsWalk sha p.graph h.sid h.role true h.kept × (role_at (shape p.graph) (h.kept).place ≡ h.role)
  at_place h b = at_held (λ z. FollowsWalk sha p.graph z.sid z.role true z.kept × (role_at (shape p.graph) (z.kept).place ≡ z.role)) h b.session b.represents.holds (
    subst (λ t. FollowsWalk sha p.graph (b.session).sid (b.session).role t (kept p.graph b.session)) b.represents.turn b.sound.follows,
    eqb-true (role_at (shape p.graph) (place p.graph b.session)) (b.session).role b.represents.turn,
  )

  module _ (ip : IsProgram sha p) where
    is_new : (sid : List ℕ) (c : Cast) → AreBytes 32 sid → IsCast c → c.graph ≡ p.digest → IsReachableBefore sha p (held p.graph (new_session sid c p.role))
    is_new sid c b h g = record {
      session = new_session sid c p.role;
      represents = record { holds = refl; ends = refl };
      sound = new_sound sha p (new_session sid c p.role) refl (new_in_range sid c p.role b h (let a = ip.role in let b = ip.is_graph.sizes.0 in omega (arith, a, b))) g refl;
      follows = Following'.new_follows sha p.graph sid c p.role false;
    }

    keeps_reads : (h : Held) (label x : ℕ) → IsReachableAtTurn sha p h → label < length p.graph.edges → source (shape p.graph) label ≡ (h.kept).place → is_in x (reads p.graph label) ≡ true → (is_in x (writes p.graph label) ≡ true) ⊎ IsOpened sha h.sid h.kept x
    keeps_reads h label x b l e r =
        let s : Session = b.session in
        let at : source (shape p.graph) label ≡ place p.graph s = e ∙ ap (λ (z : Held). (z.kept).place) b.represents.holds in
        let leave : leaves p.graph s label ≡ true = rw (lt-ltb label (length p.graph.edges) l) (eq-eqb (source (shape p.graph) label) (place p.graph s) at) in
        at_held (λ z. (is_in x (writes p.graph label) ≡ true) ⊎ IsOpened sha z.sid z.kept x) h s b.represents.holds (Following'.keeps_reads sha p.graph ip.accepted s label b.represents.turn leave ip.is_graph b.sound.follows x r)

    gives : (keys : Keyring) (h : Held) (s : Session) (label : ℕ) (values : Map Value) (confounders : List (List ℕ)) → IsReachableAtTurn sha p h → RepresentsAtTurn p.graph h s → first_some (rows_of_act p s label values) ≡ None → AreValues values confounders →
        (last (frame_sent sha keys p s label (openings_for values confounders)).items ≡ Some (own_item sha keys p s label (openings_for values confounders)))
        × IsShortFrame (frame_sent sha keys p s label (openings_for values confounders))
        × IsReachableWaiting sha p (held_after p.graph h (Gave (own_item sha keys p s label (openings_for values confounders)) (openings_for values confounders)))
    gives keys h s label values confounders b st none good =
        let written : List Opening = openings_for values confounders in
        let t : Session = b.session in
        let k : KeepsSame p.graph t s = keeps_same h t s b.represents.holds st.holds in
        let r : GivesSound sha keys p t label written = gives_sound sha hash keys p t label values confounders ip b.sound (ap first_some ((kept_is_enough sha).refuses p t s label values k) ∙ none) good in
        let frames : frame_sent sha keys p t label written ≡ frame_sent sha keys p s label written = (kept_is_enough sha).sends keys p t s label written ip.is_graph k in
        let items : own_item sha keys p t label written ≡ own_item sha keys p s label written = same_own p.graph t s k sha keys p refl ip.is_graph label written in
        let its : RepresentsWaiting p.graph (held_after p.graph h (Gave (own_item sha keys p t label written) written)) (extended t (Gave (own_item sha keys p t label written) written)) = record {
          before = record { holds = after p.graph h t (Gave (own_item sha keys p t label written) written) b.represents.holds; ends = r.sound.ends_waiting r.waits };
          waits = r.waits;
        } in
        let reachable : IsReachableWaiting sha p (held_after p.graph h (Gave (own_item sha keys p t label written) written)) = record { session = extended t (Gave (own_item sha keys p t label written) written); represents = its; sound = r.sound } in (
          ap (λ (f : Frame). last f.items) (sym frames) ∙ r.own_last ∙ ap (λ i. Some i) items,
          subst IsShortFrame frames r.short,
          subst (λ i. IsReachableWaiting sha p (held_after p.graph h (Gave i written))) items reachable,
        )

    takes : (keys : Keyring) (h : Held) (s : Session) (f : Frame) → IsReachableBefore sha p h → RepresentsBefore p.graph h s → HasSpelling f → f.version ≡ (h.cast).version → first_some (rows_of_session sha keys p s f) ≡ None → IsReachableAtTurn sha p (held_after p.graph h (Took f))
    takes keys h s f b st sp v none =
        let t : Session = b.session in
        let k : KeepsSame p.graph t s = keeps_same h t s b.represents.holds st.holds in
        let rows : first_some (rows_of_session sha keys p t f) ≡ None = (kept_is_enough sha).judges keys p t s f ip.is_graph k b.represents.ends st.ends ∙ none in
        let fo : FollowsWalk sha p.graph t.sid t.role false (kept p.graph t) = subst (λ (z : Held). FollowsWalk sha p.graph z.sid z.role false z.kept) b.represents.holds b.follows in
        let version : f.version ≡ t.cast.version = v ∙ ap (λ (z : Held). (z.cast).version) b.represents.holds in
        let r = taken_sound sha keys p t f ip b.sound.graph b.sound.role b.sound.in_range fo b.represents.ends sp version rows in
        record {
          session = extended t (Took f);
          represents = record { holds = after p.graph h t (Took f) b.represents.holds; ends = r.0.ends_at_turn r.1; turn = r.1 };
          sound = r.0;
        }

pub states_are_reachable : (sha : Hash) → IsHash sha → StatesAreReachable sha
states_are_reachable sha hash = record {
  is_new = λ p sid c ip b h g. is_new sha hash p ip sid c b h g;
  begins = λ p h b o r. record { session = b.session; represents = (states_represent sha).begins p.graph h b.session b.represents o r; sound = b.sound };
  joins = λ p h b o r. record { session = b.session; represents = (states_represent sha).joins p.graph h b.session b.represents o r; sound = b.sound };
  before = waiting_before sha hash;
  gives = λ keys p h s label values confounders ip. gives sha hash p ip keys h s label values confounders;
  takes = λ keys p h s f ip. takes sha hash p ip keys h s f;
  at_place = at_place sha hash;
  keeps_reads = λ p h label x ip. keeps_reads sha hash p ip h label x;
}
