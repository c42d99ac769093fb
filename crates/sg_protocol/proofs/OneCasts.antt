-- All events of a session of a run are of one cast, and so a principal has one role in it.
use Rattle.std.specs.Prelude.{◌≡◌, ◌≢◌, ◌<◌, ◌⊎◌, List, [], flat_map, map, length, bytes_eq, refl, Some, option_and_then}
use Rattle.std.proofs.Common.{sym, ◌∙◌, ap, subst, inl, inr}
use Rattle.std.proofs.lemmas.Slice.Eq.{bytes_eq-Decides}
use Rattle.sg_model.specs.Names.{Name}
use Rattle.sg_protocol.specs.Graph.{Graph}
use Rattle.sg_protocol.specs.Frame.{Cast}
use Rattle.sg_protocol.specs.Texts.{Hash, IsHash, session_text_of, graph_text_of, graph_digest}
use Rattle.sg_protocol.specs.Keyring.{Program}
use Rattle.sg_protocol.specs.Session.{principal}
use Rattle.sg_protocol.specs.Calls.{Event, role_of, sid_of}
use Rattle.sg_protocol.specs.Schedule.{Schedule, graph_with}
use Rattle.sg_protocol.specs.World.{Logged, World}
use Rattle.sg_protocol.specs.Run.{cast_in, cast_of_session, events_of, events_of_outcome}
use Rattle.sg_protocol.specs.Past.{Past}
use Rattle.sg_protocol.specs.Premises.{CollisionFree, hashed}
use Rattle.sg_protocol.specs.IsSchedule.{IsProgram}
use Rattle.sg_protocol.proofs.Finding.{one_index}
use Rattle.sg_protocol.proofs.GraphText.{one_graph}
use Rattle.sg_protocol.proofs.TextLaws.{one_cast}
use Rattle.sg_protocol.proofs.Happenings.{Happening, IsCourse, run_of}
use Rattle.sg_protocol.proofs.OneWalk.{FirstCast, first_cast}
use Rattle.sg_protocol.specs.Headline.{HadEvent, IsOfCast}
use Rattle.sg_protocol.proofs.KnownLogs.{Origin, Silent, logs_known}
use Rattle.sg_protocol.proofs.EventCasts.{EventCast, event_cast}
use Rattle.sg_model.proofs.Members.{In, in_from_Contains, contains_from_in, in_left, in_map, in_flat, rec_in, filter_in}
use Rattle.sg_model.proofs.Finding.{find_some}

-- a session that has an event has events
pub has_events : (log : List Logged) (l : Logged) (e : Event) → In log l → In (events_of_outcome l.outcome) e → events_of (sid_of e) log ≢ []
has_events log l e i j none = subst (λ es. In es e) none (filter_in (λ v. bytes_eq (sid_of v) (sid_of e)) (flat_map (λ (l : Logged). events_of_outcome l.outcome) log) e (in_flat (λ (l : Logged). events_of_outcome l.outcome) log l e i j) ((bytes_eq-Decides (sid_of e) (sid_of e)).1 refl))

pub event_of_cast : (sha : Hash) (hash : IsHash sha) (s : Schedule) (ps : List Past) (course : List Happening) (is_course : IsCourse sha s ps course) → CollisionFree sha (hashed s (run_of sha ps course)) → (l : Logged) (who : Name) (e : Event) → HadEvent (run_of sha ps course) l who e → IsOfCast sha s (run_of sha ps course) l who e
event_of_cast sha hash s ps course is_course free l who e had =
    let wf : World = run_of sha ps course in
    let l_in : In wf.log l = in_from_Contains wf.log l had.0 in
    let e_in : In (events_of_outcome l.outcome) e = in_from_Contains (events_of_outcome l.outcome) e had.2 in
    let o : Origin sha hash s ps course is_course l = its_origin l e e_in ((logs_known sha hash s ps course is_course).logs l l_in) in
    let ec : EventCast sha hash s wf o.who o.n o.known o.c o.in_range o.hashes e = event_cast sha hash s wf o.who o.n o.known o.c o.in_range o.hashes e (subst (λ z. In (events_of_outcome z) e) o.is_outcome e_in) in
    let first : FirstCast sha hash s ps course is_course (sid_of e) = first_cast sha hash s ps course is_course (sid_of e) (has_events wf.log l e l_in e_in) in
    let text : In (hashed s wf) (session_text_of ec.cast) = ec.is_hashed in
    let same : ec.cast ≡ first.cast = one_cast ec.cast first.cast ec.fits first.fits (free (session_text_of ec.cast) (session_text_of first.cast) (contains_from_in (hashed s wf) (session_text_of ec.cast) text) (contains_from_in (hashed s wf) (session_text_of first.cast) first.is_hashed) (ec.id ∙ sym first.sid_is)) in
    let its = rec_in (λ (q : Program). IsProgram sha q × In s.graphs q.graph) (o.n).programs ec.program (o.known).programs ec.there in
    let there : (g : Graph) → In s.graphs g → In (hashed s wf) (graph_text_of g) = λ g i. in_left (map graph_text_of s.graphs) (flat_map (λ (l : Logged). l.notes.hashed) wf.log) (graph_text_of g) (in_map graph_text_of s.graphs g i) in
    let graphs : (ec.program).graph ≡ (first.program).graph = one_graph (ec.program).graph (first.program).graph (its.0).is_graph ((first.own).0).is_graph
    (free (graph_text_of (ec.program).graph) (graph_text_of (first.program).graph) (contains_from_in (hashed s wf) (graph_text_of (ec.program).graph) (there (ec.program).graph its.1)) (contains_from_in (hashed s wf) (graph_text_of (first.program).graph) (there (first.program).graph (first.own).1))
    (sym (its.0).digest ∙ sym ec.digest ∙ ap (λ (c : Cast). c.graph) same ∙ sym first.digest ∙ ((first.own).0).digest)) in
    let found : (y : Graph) × (graph_with sha s.graphs first.cast.graph ≡ Some y) =
    find_some (λ z. bytes_eq (graph_digest sha z) first.cast.graph) s.graphs (first.program).graph (first.own).1 ((bytes_eq-Decides (graph_digest sha (first.program).graph) first.cast.graph).1 (sym ((first.own).0).digest ∙ first.digest)) in
    let two : Some o.who ≡ Some who = sym o.is_who ∙ had.1 in
    let who_is : o.who ≡ who = cc in
    record {
      cast = first.cast;
      is_cast = first.is_cast;
      graph = found.0;
      is_graph = found.1;
      sid = first.sid_is;
      differ = first.differ;
      role = subst (λ n. role_of e < n) (ap (λ (g : Graph). length g.roles) graphs ∙ sym first.lengths) ec.role;
      principal = ap (λ c. principal c (role_of e)) (sym same) ∙ ec.me ∙ who_is;
      joins = λ h. ap (option_and_then cast_in) o.is_call ∙ ec.joins h ∙ ap (λ z. Some z) same;
    }
  where
    -- an entry with an event is a call's
    its_origin : (l : Logged) (e : Event) → In (events_of_outcome l.outcome) e → Silent sha hash s ps course is_course l ⊎ Origin sha hash s ps course is_course l → Origin sha hash s ps course is_course l
    its_origin l e i (inl none) = absurd (subst (λ es. In es e) none.events i)
    its_origin l e i (inr o) = o

pub one_role : (sha : Hash) (s : Schedule) (w : World) → ((l : Logged) (who : Name) (e : Event) → HadEvent w l who e → IsOfCast sha s w l who e) → (l l' : Logged) (who : Name) (e e' : Event) → HadEvent w l who e → HadEvent w l' who e' → sid_of e ≡ sid_of e' → role_of e ≡ role_of e'
one_role sha s w of_cast l l' who e e' had had' same =
    let a = of_cast l who e had in
    let b = of_cast l' who e' had' in
    let two : Some a.cast ≡ Some b.cast = sym a.is_cast ∙ ap (λ z. cast_of_session z w.log) same ∙ b.is_cast in
    let one : a.cast ≡ b.cast = cc in
    one_index (a.cast).names (role_of e) (role_of e') a.differ a.role (subst (λ c. role_of e' < length c.names) (sym one) b.role) (a.principal ∙ sym b.principal ∙ ap (λ c. principal c (role_of e')) (sym one))
