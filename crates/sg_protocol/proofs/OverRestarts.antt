-- What holds of runs holds of runs with restarts.
use Rattle.std.specs.Prelude.{◌≡◌, ℕ, ◌⊎◌, Bool, false, List, [], ◌∷◌, ◌++◌, map, filter, flat_map, find, bytes_eq, refl, Some, None, option_and_then, Contains}
use Rattle.std.specs.List.{list_any}
use Rattle.std.proofs.Common.{sym, ◌∙◌, ap, subst, inl, inr}
use Rattle.std.proofs.lemmas.Bool.{cases_Bool}
use Rattle.sg_model.specs.Names.{Name}
use Rattle.sg_protocol.specs.Frame.{Frame}
use Rattle.sg_protocol.specs.Texts.{Hash, IsHash, graph_text_of}
use Rattle.sg_protocol.specs.Session.{principal}
use Rattle.sg_protocol.specs.Calls.{Event, sid_of}
use Rattle.sg_protocol.specs.Notes.{Notes}
use Rattle.sg_protocol.specs.Schedule.{Schedule, NamedSession, Step, honest_role}
use Rattle.sg_protocol.specs.World.{Logged, World, new_world}
use Rattle.sg_protocol.specs.Run.{run, events_of_outcome, events_of, cast_in, cast_of_session}
use Rattle.sg_protocol.specs.Premises.{Unforged, hashed, CollisionFree, Premises}
use Rattle.sg_protocol.specs.Headline.{IsExplained, HadEvent, IsOfCast}
use Rattle.sg_protocol.specs.Receipts.{IsTaken, WasSent}
use Rattle.sg_protocol.specs.Walk.{OnePath}
use Rattle.sg_protocol.specs.Restarts.{run_with_restarts, dropped, without_restarts, IsAbandonment, HasMoreAbandonments, SessionsFollowWalksOverRestarts, ReceiptsHaveSendsOverRestarts, SessionsHaveOneCastOverRestarts, NoneTakesTwoRolesOverRestarts, HeadlineOverRestarts}
use Rattle.sg_protocol.proofs.ExplainingWalks.{sessions_follow_walks}
use Rattle.sg_protocol.proofs.Lives.{none_joins_twice_over_restarts}
use Rattle.sg_protocol.proofs.Restarts.{Same, plain, same_runs, is_plain}
use Rattle.sg_protocol.proofs.Moved.{more}
use Rattle.sg_protocol.proofs.Roles.{sessions_have_one_cast, none_takes_two_roles}
use Rattle.sg_protocol.proofs.Sendings.{receipts_have_sends}
use Rattle.sg_model.proofs.Members.{In, in_from_Contains, contains_from_in}

-- ---- a log with more abandonments

abbrev evs : Logged → List Event
evs l = events_of_outcome l.outcome

no_events : (l : Logged) → IsAbandonment l → evs l ≡ []
no_events l a = ap events_of_outcome a.outcome

pub hashed_more : (ls log : List Logged) → HasMoreAbandonments ls log → flat_map (λ (l : Logged). l.notes.hashed) log ≡ flat_map (λ (l : Logged). l.notes.hashed) ls
hashed_more [] log e = ap (flat_map (λ (l : Logged). l.notes.hashed)) e
hashed_more (l ∷ ls) log (inl h) = hashed_more ls log h.1 ∙ sym (ap (λ (n : Notes). n.hashed ++ flat_map (λ (l : Logged). l.notes.hashed) ls) (h.0).notes)
hashed_more (l ∷ ls) log (inr h) = ap (flat_map (λ (l : Logged). l.notes.hashed)) h.1 ∙ ap (λ z. l.notes.hashed ++ z) (hashed_more ls h.0 h.2)

events_more : (ls log : List Logged) → HasMoreAbandonments ls log → flat_map evs log ≡ flat_map evs ls
events_more [] log e = ap (flat_map evs) e
events_more (l ∷ ls) log (inl h) = events_more ls log h.1 ∙ sym (ap (λ z. z ++ flat_map evs ls) (no_events l h.0))
events_more (l ∷ ls) log (inr h) = ap (flat_map evs) h.1 ∙ ap (λ z. evs l ++ z) (events_more ls h.0 h.2)

-- an entry of the session
abbrev of_session : List ℕ → Logged → Bool
of_session sid l = list_any (λ e. bytes_eq (sid_of e) sid) (evs l)

skip : (sid : List ℕ) (l : Logged) (ls : List Logged) → of_session sid l ≡ false → find (of_session sid) (l ∷ ls) ≡ find (of_session sid) ls
skip sid l ls h = rw h refl

first_more : (sid : List ℕ) (ls log : List Logged) → HasMoreAbandonments ls log → find (of_session sid) log ≡ find (of_session sid) ls
first_more sid [] log e = ap (find (of_session sid)) e
first_more sid (l ∷ ls) log (inl h) = first_more sid ls log h.1 ∙ sym (skip sid l ls (ap (list_any (λ e. bytes_eq (sid_of e) sid)) (no_events l h.0)))
first_more sid (l ∷ ls) log (inr h) = ap (find (of_session sid)) h.1 ∙ again (first_more sid ls h.0 h.2)
  where
    again : find (of_session sid) h.0 ≡ find (of_session sid) ls → find (of_session sid) (l ∷ h.0) ≡ find (of_session sid) (l ∷ ls)
    again q = elim (cases_Bool (of_session sid l)) [ inl b ↦ rw b refl | inr b ↦ rw b q ]

-- each entry is one of the longer log, and each of these is an abandonment or one
pub is_in_more : (ls log : List Logged) → HasMoreAbandonments ls log → (l : Logged) → In log l → In ls l
is_in_more [] log e l i = subst (λ z. In z l) e i
is_in_more (x ∷ ls) log (inl h) l i = inr (is_in_more ls log h.1 l i)
is_in_more (x ∷ ls) log (inr h) l i = elim (let z : In (x ∷ h.0) l = subst (λ z. In z l) h.1 i in z) [ inl e ↦ inl e | inr j ↦ inr (is_in_more ls h.0 h.2 l j) ]

pub was_there : (ls log : List Logged) → HasMoreAbandonments ls log → (l : Logged) → In ls l → IsAbandonment l ⊎ In log l
was_there [] log e l i = absurd i
was_there (x ∷ ls) log (inl h) l (inl e) = inl (subst IsAbandonment (sym e) h.0)
was_there (x ∷ ls) log (inl h) l (inr i) = was_there ls log h.1 l i
was_there (x ∷ ls) log (inr h) l (inl e) = inr (subst (λ z. In z l) (sym h.1) (inl e))
was_there (x ∷ ls) log (inr h) l (inr i) = elim (was_there ls h.0 h.2 l i) [ inl a ↦ inl a | inr j ↦ inr (subst (λ z. In z l) (sym h.1) (inr j)) ]

-- ---- what is the same of two such worlds

module _ (w w' : World) (same : Same w w') where
  events_same : (sid : List ℕ) → events_of sid w.log ≡ events_of sid w'.log
  events_same sid = ap (filter (λ e. bytes_eq (sid_of e) sid)) (events_more w'.log w.log same.log)

  pub cast_same : (sid : List ℕ) → cast_of_session sid w.log ≡ cast_of_session sid w'.log
  cast_same sid = ap (option_and_then (λ (l : Logged). option_and_then cast_in l.call)) (first_more sid w'.log w.log same.log)

  hashed_same : (s : Schedule) → hashed s w ≡ hashed s w'
  hashed_same s = ap (λ l. map graph_text_of s.graphs ++ l) (hashed_more w'.log w.log same.log)

  pub entry_there : (l : Logged) → Contains w.log l → Contains w'.log l
  entry_there l c = contains_from_in w'.log l (is_in_more w'.log w.log same.log l (in_from_Contains w.log l c))

  pub entry_back : (l : Logged) → (IsAbandonment l → ⊥) → Contains w'.log l → Contains w.log l
  entry_back l f c = elim (was_there w'.log w.log same.log l (in_from_Contains w'.log l c)) [ inl a ↦ absurd (f a) | inr i ↦ contains_from_in w.log l i ]

  unforged_same : (s : Schedule) → Unforged s w → Unforged s w'
  unforged_same s u l n c f one two =
      let back : Contains w.log l = entry_back l (λ a. subst (λ (z : Notes). In z.found n) a.notes (in_from_Contains l.notes.found n f)) c in
      let m = u l n back f one two in
      (m.0, entry_there m.0 m.1, m.2, m.3)

  pub premises_same : (sha : Hash) (s : Schedule) (es : List NamedSession) (ys : List Step) → Premises sha s w → Premises sha (more sha s es ys) w'
  premises_same sha s es ys p = record { unforged = unforged_same s p.unforged; collision_free = subst (CollisionFree sha) (hashed_same s) p.collision_free }

  explained_back : (sha : Hash) (s : Schedule) (es : List NamedSession) (ys : List Step) (sid : List ℕ) → IsExplained sha (more sha s es ys) w' sid → IsExplained sha s w sid
  explained_back sha s es ys sid x = record {
    cast = x.cast;
    is_cast = cast_same sid ∙ x.is_cast;
    graph = x.graph;
    is_graph = x.is_graph;
    steps = x.steps;
    path = subst (λ es. OnePath x.graph (honest_role s x.cast) es x.steps) (sym (events_same sid)) x.path;
  }

  pub taken_there : (l : Logged) (who : Name) (bs : List ℕ) (f : Frame) → IsTaken w l who bs f → IsTaken w' l who bs f
  taken_there l who bs f t = (entry_there l t.0, t.1, t.2, t.3, t.4)

  sent_back : (k : ℕ) (who : Name) (bs : List ℕ) (f : Frame) → WasSent w' k who bs f → WasSent w k who bs f
  sent_back k who bs f t =
      let (l, e, to, there, before, is_who, frame, outcome, sid, role) = t in
      (l, e, to, entry_back l (λ a. has_frame l a bs frame) there, before, is_who, frame, outcome, sid, role)
    where
      has_frame : (l : Logged) → IsAbandonment l → (bs : List ℕ) → l.frame ≡ Some bs → ⊥
      has_frame l a bs e = (let z : None ≡ Some bs = sym a.frame ∙ e in cc)

  had_there : (l : Logged) (who : Name) (e : Event) → HadEvent w l who e → HadEvent w' l who e
  had_there l who e h = (entry_there l h.0, h.1, h.2)

  of_cast_back : (sha : Hash) (s : Schedule) (es : List NamedSession) (ys : List Step) (l : Logged) (who : Name) (e : Event) → IsOfCast sha (more sha s es ys) w' l who e → IsOfCast sha s w l who e
  of_cast_back sha s es ys l who e x = record {
    cast = x.cast;
    is_cast = cast_same (sid_of e) ∙ x.is_cast;
    graph = x.graph;
    is_graph = x.is_graph;
    sid = x.sid;
    differ = x.differ;
    role = x.role;
    principal = x.principal;
    joins = x.joins;
  }

-- ---- the laws

pub sessions_follow_walks_over_restarts : (sha : Hash) → IsHash sha → SessionsFollowWalksOverRestarts sha
sessions_follow_walks_over_restarts sha hash programs s xs compiled sched good premises sid some =
    let w = run_with_restarts sha programs s xs in
    let its : List Step = (without_restarts sha programs s xs).steps in
    let t : Schedule = plain sha hash programs s compiled sched xs good in
    let w' = run sha programs t in
    let same : Same w w' = same_runs sha hash programs s compiled sched xs good in
    explained_back w w' same sha s (dropped sha s (new_world programs s) 1 xs) its sid (sessions_follow_walks sha hash programs t compiled (is_plain sha hash programs s compiled sched xs good) (premises_same w w' same sha s (dropped sha s (new_world programs s) 1 xs) its premises) sid (λ e. some (events_same w w' same sid ∙ e)))

pub receipts_have_sends_over_restarts : (sha : Hash) → IsHash sha → ReceiptsHaveSendsOverRestarts sha
receipts_have_sends_over_restarts sha hash programs s xs compiled sched good premises l who bs f cast t is_cast honest =
    let w = run_with_restarts sha programs s xs in
    let its : List Step = (without_restarts sha programs s xs).steps in
    let p : Schedule = plain sha hash programs s compiled sched xs good in
    let w' = run sha programs p in
    let same : Same w w' = same_runs sha hash programs s compiled sched xs good in
    sent_back w w' same l.number (principal cast f.sender) bs f (receipts_have_sends sha hash programs p compiled (is_plain sha hash programs s compiled sched xs good) (premises_same w w' same sha s (dropped sha s (new_world programs s) 1 xs) its premises) l who bs f cast (taken_there w w' same l who bs f t) (sym (cast_same w w' same f.sid) ∙ is_cast) honest)

pub none_takes_two_roles_over_restarts : (sha : Hash) → IsHash sha → NoneTakesTwoRolesOverRestarts sha
none_takes_two_roles_over_restarts sha hash programs s xs compiled sched good free l l' who e e' h h' sid =
    let w = run_with_restarts sha programs s xs in
    let p = plain sha hash programs s compiled sched xs good in
    let w' = run sha programs p in
    let same : Same w w' = same_runs sha hash programs s compiled sched xs good in
    none_takes_two_roles sha hash programs p compiled (is_plain sha hash programs s compiled sched xs good) (subst (CollisionFree sha) (hashed_same w w' same s) free) l l' who e e' (had_there w w' same l who e h) (had_there w w' same l' who e' h') sid

pub sessions_have_one_cast_over_restarts : (sha : Hash) → IsHash sha → SessionsHaveOneCastOverRestarts sha
sessions_have_one_cast_over_restarts sha hash programs s xs compiled sched good free l who e h =
    let w = run_with_restarts sha programs s xs in
    let its : List Step = (without_restarts sha programs s xs).steps in
    let p : Schedule = plain sha hash programs s compiled sched xs good in
    let w' = run sha programs p in
    let same : Same w w' = same_runs sha hash programs s compiled sched xs good in
    of_cast_back w w' same sha s (dropped sha s (new_world programs s) 1 xs) its l who e (sessions_have_one_cast sha hash programs p compiled (is_plain sha hash programs s compiled sched xs good) (subst (CollisionFree sha) (hashed_same w w' same s) free) l who e (had_there w w' same l who e h))

pub headline_over_restarts : (sha : Hash) → IsHash sha → HeadlineOverRestarts sha
headline_over_restarts sha hash = (sessions_follow_walks_over_restarts sha hash, none_joins_twice_over_restarts sha)
