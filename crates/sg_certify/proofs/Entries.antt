-- What an entry of an unbroken run says of its event: the session's cast.
use Rattle.std.proofs.Common.{◌≡◌, inl, true, List, [], ◌∷◌, refl, sym, ◌∙◌, ap, subst}
use Rattle.std.specs.Prelude.{Some, Contains}
use Rattle.sg_model.proofs.Members.{contains_from_in}
use Rattle.sg_protocol.specs.Acting.{answer}
use Rattle.sg_protocol.specs.Calls.{Event, sid_of, Answer, Happened, Sends, Abandoned, NotStarted, NotActed, NotAbandoned, NotDelivered, events_of_answer, Call}
use Rattle.sg_protocol.specs.Frame.{Cast}
use Rattle.sg_protocol.specs.Keyring.{Program}
use Rattle.sg_protocol.specs.Past.{node_of}
use Rattle.sg_protocol.specs.Run.{run, events_of_outcome, cast_of_session}
use Rattle.sg_protocol.specs.Schedule.{Schedule}
use Rattle.sg_protocol.specs.Texts.{real}
use Rattle.sg_protocol.specs.Named.{IsNamed, IsAnswered, IsOfOneGraph, names_numbers}
use Rattle.sg_protocol.specs.World.{Logged, World}
use Rattle.sg_protocol.proofs.RealHash.{real_hash}
use Rattle.sg_protocol.proofs.NamedRuns.{steps_are_named}
use Rattle.sg_certify.specs.Runs.{IsUnbroken}

-- an answer with an event names numbers
named_by : (a : Answer) (e : Event) → events_of_answer a ≡ e ∷ [] → names_numbers a ≡ true
named_by (Happened x) e h = refl
named_by (Sends x to f) e h = refl
named_by Abandoned e h = absurd (cc)
named_by (NotStarted f) e h = absurd (cc)
named_by (NotActed f) e h = absurd (cc)
named_by NotAbandoned e h = absurd (cc)
named_by (NotDelivered r) e h = absurd (cc)

-- a session's cast in the whole run, by an event of it
pub record IsEntry (programs : List Program) (s : Schedule) (e : Event) : Type 0 where
  pub cast : Cast
  pub is_cast : cast_of_session (sid_of e) (run real programs s).log ≡ Some cast

module _ (programs : List Program) (s : Schedule) (u : IsUnbroken programs s) where
  abbrev w : World
  w = run real programs s

  -- an entry's event is of the one cast of its session
  pub entry : (l : Logged) (c : Call) (e : Event) → Contains w.log l → l.call ≡ Some c → events_of_outcome l.outcome ≡ e ∷ [] → IsEntry programs s e
  entry l c e there call one =
      let steps_named = steps_are_named real real_hash in
      let a : IsAnswered real programs s l c = steps_named.answered programs s l c there call in
      let event : events_of_answer (answer real (node_of a.past) c) ≡ e ∷ [] = ap events_of_outcome (sym a.outcome) ∙ one in
      let named : names_numbers (answer real (node_of a.past) c) ≡ true = named_by (answer real (node_of a.past) c) e event in
      let t : IsNamed real (node_of a.past) c (answer real (node_of a.past) c) = steps_named.entries programs s u.compiled u.schedule l c there call a named in
      let g : IsOfOneGraph real s w (node_of a.past) (answer real (node_of a.past) c) t.program t.session = steps_named.one_graph programs s u.compiled u.schedule u.premises.collision_free l c there call a named t in
      let had : Contains (events_of_answer (answer real (node_of a.past) c)) e = subst (λ es. Contains es e) (sym event) (contains_from_in (e ∷ []) e (inl refl)) in
      record { cast = t.session.cast; is_cast = ap (λ sid. cast_of_session sid w.log) (t.event e had).0 ∙ g.event e had }
