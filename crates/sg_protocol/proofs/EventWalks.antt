-- The walk of a session of a run, made event by event.
use Rattle.std.specs.Prelude.{◌≡◌, ◌≢◌, ℕ, Bool, List, [], ◌∷◌, ◌++◌, map, flat_map, refl, Ok, Some, None, option_and_then, ◌+◌, length, filter_map}
use Rattle.std.specs.List.{AllByRecursion}
use Rattle.std.proofs.Common.{sym, ◌∙◌, ap, subst, inl}
use Rattle.sg_model.specs.Values.{Opening}
use Rattle.sg_law.specs.Explaining.{IsFollowedAsMade, moves_of}
use Rattle.sg_law.specs.Values as V
use Rattle.sg_law.specs.Values.{AllMay, Binding, Commit, Move, all_openings, deed_of}
use Rattle.sg_law.proofs.Follow.{made_follows}
use Rattle.sg_law.proofs.Lists.{nil_from_map}
use Rattle.sg_protocol.specs.Graph.{Graph, shape}
use Rattle.sg_protocol.specs.Evidence.{IsView}
use Rattle.sg_protocol.specs.Frame.{Cast, Frame}
use Rattle.sg_protocol.specs.Reading.{read}
use Rattle.sg_protocol.specs.Calls.{Deliver, Happened, events_of_answer}
use Rattle.sg_protocol.specs.Verdict.{receipt}
use Rattle.sg_protocol.specs.Texts.{Hash, IsHash, commitment, commitment_text_of}
use Rattle.sg_protocol.specs.TextLaws.{OpeningFits}
use Rattle.sg_protocol.specs.Past.{Past, node_of}
use Rattle.sg_protocol.specs.Walk.{OnePath}
use Rattle.sg_protocol.specs.Schedule.{Schedule, graph_with, honest_role}
use Rattle.sg_protocol.specs.World.{Answered, Logged, World, past_of}
use Rattle.sg_protocol.specs.Run.{cast_in, cast_of_session, events_of, called}
use Rattle.sg_protocol.specs.Premises.{Premises, hashed}
use Rattle.sg_protocol.specs.IsSchedule.{IsProgram}
use Rattle.sg_protocol.specs.Explaining.{AllShown, view_in, walk_after_steps, label_sent}
use Rattle.sg_protocol.proofs.Paths.{TypedDeed, acts_of, one_path, steps_of}
use Rattle.sg_protocol.proofs.LiveSessions.{no_entry}
use Rattle.sg_protocol.proofs.Going.{Progress, SessionInRun, moves_before, out_of}
use Rattle.sg_protocol.proofs.OneWalk.{FirstCast, begins, first_moves, binding, first_cast, graph_is, known, the_program}
use Rattle.sg_protocol.proofs.Agreeing.{with_all}
use Rattle.sg_protocol.proofs.MadeWalks.{Explains, Made, Shown, explains_called, explains_idle, shown_called, shown_idle, origin_took}
use Rattle.sg_protocol.proofs.Happenings.{Happening, IsCourse, Own, run_of, Asked, IsRight, suffix_asked}
use Rattle.sg_model.specs.Last.{last}
use Rattle.sg_model.specs.Names.{Name}
use Rattle.sg_model.proofs.Small.{all-parts, not_empty}
use Rattle.sg_model.proofs.Members.{In, in_last}
use Rattle.sg_protocol.specs.Keyring.{Program}
use Rattle.sg_protocol.specs.Session.{Session, origin}
use Rattle.sg_protocol.specs.Acting.{answer}
use Rattle.sg_protocol.specs.Notes.{session_of_frame}
use Rattle.sg_protocol.proofs.Answered.{entry_of}
use Rattle.sg_protocol.proofs.OneCasts.{has_events}
use Rattle.sg_protocol.proofs.Progressing.{Suffix, in_after}

-- ---- under the graph of the session's first event

module _ (sha : Hash) (hash : IsHash sha) (s : Schedule) (ps : List Past) (course : List Happening) (is_course : IsCourse sha s ps course) (sid : List ℕ) (premises : Premises sha s (run_of sha ps course)) (first : FirstCast sha hash s ps course is_course sid) where
  abbrev w0 : World
  w0 = record { pasts = ps; log = [] }

  abbrev wf : World
  wf = run_of sha ps course

  abbrev g : Graph
  g = (first.program).graph

  abbrev h : ℕ → Bool
  h k = honest_role s first.cast k

  abbrev commit : Commit
  commit o = commitment sha sid o

  its : IsProgram sha first.program
  its = the_program sha hash s ps course is_course sid premises first

  abbrev session : SessionInRun sha s sid first.cast (first.program).graph (run_of sha ps course) (Own sha s)
  session = known sha hash s ps course is_course sid premises first

  bound : (ms : List Move) → AllByRecursion (λ (o : Opening). In (hashed s wf) (commitment_text_of sid o) × OpeningFits o) (all_openings ms) → Binding (λ o. commitment sha sid o) (all_openings ms)
  bound = binding sha hash s ps course is_course sid premises first

  abbrev begun : Progress session w0
  begun = begins sha hash s ps course is_course sid premises first

  -- nothing is made at first
  nothing_made : Explains session its.is_graph its.accepted bound w0 begun
  nothing_made log e a = subst (λ ms. Made session its.is_graph its.accepted bound ms log) (sym (first_moves sha hash s ps course is_course sid premises first))
      (record { ms = []; are = refl; shown = tt; same = ap (walk_after_steps g h sid []) (nil_from_map (λ (x : Logged × List ℕ). x.0) log e) })

  -- what the law makes of the moves is one path of the events
  made_path : (p : Progress session wf) (log : List (Logged × List ℕ)) → Made session its.is_graph its.accepted bound p.moves log → OnePath g h (events_of sid wf.log) (walk_after_steps g h sid [] log)
  made_path p log m =
      let f : IsFollowedAsMade (shape g) h commit m.ms = made_follows (shape g) h commit m.ms (its.accepted).sighted (subst (λ l. Binding commit (all_openings l)) (sym m.are) (bound p.moves p.used)) (subst (AllMay (shape g) h commit (V.at_first (shape g))) (sym m.are) p.may) m.shown in
      subst (OnePath g h (events_of sid wf.log)) (ap steps_of f.1 ∙ sym m.same)
      (one_path g h commit (moves_of m.ms) (events_of sid wf.log) its.is_graph f.0 (p.events ∙ ap (λ l. flat_map (acts_of g) (map deed_of l)) (sym m.are)) (subst (λ l. AllByRecursion (TypedDeed g h) (map deed_of l)) (sym m.are) p.typed))

  path_explaining : (log : List (Logged × List ℕ)) → map (λ (x : Logged × List ℕ). x.0) log ≡ wf.log → AllShown g sid [] log → OnePath g h (events_of sid wf.log) (walk_after_steps g h sid [] log)
  path_explaining log e a =
      let q = with_all session (Explains session its.is_graph its.accepted bound)
      (λ w k p old who o fr e. explains_idle session its.is_graph its.accepted bound w k p old who o fr e)
      (λ w k p old who past its_past c good after out. explains_called session its.is_graph its.accepted bound w k p who past its_past c good after out old)
      w0 1 (begun, nothing_made) course is_course.right refl in
      made_path q.0 log (q.1 log e a)

  -- each frame that was taken shows its receiver a view
  all_shown : Shown session its.is_graph its.accepted bound wf
  all_shown = (with_all session (λ w p. Shown session its.is_graph its.accepted bound w)
      (λ w k p old who o fr e. shown_idle session its.is_graph its.accepted bound w k old who o fr)
      (λ w k p old who past its_past c good after out. shown_called session its.is_graph its.accepted bound w k p who past its_past c good after out old)
      w0 1 (begun, λ before l after bs f e. absurd (not_empty before l after (sym e))) course is_course.right refl).1

  -- the origin of the session in which a frame is taken is the last label that its receiver sent before
  origin_before : (hs gs : List Happening) (who : Name) (bs : List ℕ) (past : Past) (f : Frame) (q : Program) (x : Session) → course ≡ hs ++ Asked who (Deliver bs) ∷ gs → past_of (run_of sha ps hs) who ≡ Some past → read bs ≡ Ok f → answer sha (node_of past) (Deliver bs) ≡ Happened (receipt f) → f.sid ≡ sid
      → session_of_frame (node_of past) f ≡ Some (q, x) → origin x ≡ last (filter_map (label_sent f.receiver) (events_of sid (run_of sha ps hs).log))
  origin_before hs gs who bs past f q x e its_past reads ans is_sid is =
      let w : World = run_of sha ps hs in
      let k : ℕ = 1 + length hs in
      let right = all-parts IsRight hs (Asked who (Deliver bs) ∷ gs) (subst (AllByRecursion IsRight) e is_course.right) in
      let p : Progress session w = moves_before session w0 1 begun hs (Asked who (Deliver bs) ∷ gs) right.0 (ap (run_of sha ps) (sym e)) in
      let after : Suffix (k + 1) (called sha w k who (Deliver bs) past).log wf.log = suffix_asked sha ps course hs gs who (Deliver bs) past e its_past in
      origin_took session its.is_graph its.accepted bound w k p who past its_past (Deliver bs) right.1.0 after (out_of session w k p who past its_past (Deliver bs) right.1.0 after) f (record { bs = bs; is_call = refl; is_read = reads; is_answer = ans; is_sid = is_sid }) q x is

-- ---- under the graph of its cast

module _ (sha : Hash) (hash : IsHash sha) (s : Schedule) (ps : List Past) (course : List Happening) (is_course : IsCourse sha s ps course) (sid : List ℕ) (premises : Premises sha s (run_of sha ps course)) (cast : Cast) (y : Graph)
    (is : cast_of_session sid (run_of sha ps course).log ≡ Some cast) (gr : graph_with sha s.graphs cast.graph ≡ Some y) where
  some : events_of sid (run_of sha ps course).log ≢ []
  some none = (let n : cast_of_session sid (run_of sha ps course).log ≡ None = ap (option_and_then (λ (l : Logged). option_and_then cast_in l.call)) (no_entry sid (run_of sha ps course).log none) in absurd (cc))

  its_first : FirstCast sha hash s ps course is_course sid
  its_first = first_cast sha hash s ps course is_course sid some

  same_cast : its_first.cast ≡ cast
  same_cast = (let two : Some its_first.cast ≡ Some cast = sym its_first.is_cast ∙ is in cc)

  same_graph : (its_first.program).graph ≡ y
  same_graph =
      let two : Some (its_first.program).graph ≡ Some y = sym (graph_is sha hash s ps course is_course sid premises its_first) ∙ ap (λ (c : Cast). graph_with sha s.graphs c.graph) same_cast ∙ gr in
      cc

  pub path_explained : (log : List (Logged × List ℕ)) → map (λ (l : Logged × List ℕ). l.0) log ≡ (run_of sha ps course).log → AllShown y sid [] log → OnePath y (honest_role s cast) (events_of sid (run_of sha ps course).log) (walk_after_steps y (honest_role s cast) sid [] log)
  path_explained log e a =
      subst (λ c. OnePath y (honest_role s c) (events_of sid (run_of sha ps course).log) (walk_after_steps y (honest_role s c) sid [] log)) same_cast
      (subst (λ z. AllShown z sid [] log → OnePath z (honest_role s its_first.cast) (events_of sid (run_of sha ps course).log) (walk_after_steps z (honest_role s its_first.cast) sid [] log)) same_graph
      (path_explaining sha hash s ps course is_course sid premises its_first log e) a)

  pub frames_shown : (before : List Logged) (l : Logged) (after : List Logged) (bs : List ℕ) (f : Frame) → (run_of sha ps course).log ≡ before ++ l ∷ after → l.call ≡ Some (Deliver bs) → read bs ≡ Ok f → l.outcome ≡ Answered (Happened (receipt f)) → f.sid ≡ sid → IsView y f.receiver (view_in (events_of sid before) f)
  frames_shown before l after bs f e q r o i = subst (λ z. IsView z f.receiver (view_in (events_of sid before) f)) same_graph (all_shown sha hash s ps course is_course sid premises its_first before l after bs f e q r o i)

-- the origin of the session in which a principal that is asked takes a frame is the last label that the frame's receiver sent in the session before
pub origin_is_last : (sha : Hash) (hash : IsHash sha) (s : Schedule) (ps : List Past) (course : List Happening) (is_course : IsCourse sha s ps course) → Premises sha s (run_of sha ps course)
    → (hs gs : List Happening) (who : Name) (bs : List ℕ) (past : Past) (f : Frame) (q : Program) (x : Session) → course ≡ hs ++ Asked who (Deliver bs) ∷ gs → past_of (run_of sha ps hs) who ≡ Some past → read bs ≡ Ok f → answer sha (node_of past) (Deliver bs) ≡ Happened (receipt f)
    → session_of_frame (node_of past) f ≡ Some (q, x) → origin x ≡ last (filter_map (label_sent f.receiver) (events_of f.sid (run_of sha ps hs).log))
origin_is_last sha hash s ps course is_course premises hs gs who bs past f q x e its_past reads ans is =
    let k : ℕ = 1 + length hs in
    let entry : Logged = entry_of sha k who past (Deliver bs) in
    let there : In (run_of sha ps course).log entry = in_after (k + 1) (called sha (run_of sha ps hs) k who (Deliver bs) past).log (run_of sha ps course).log (suffix_asked sha ps course hs gs who (Deliver bs) past e its_past) entry (in_last (run_of sha ps hs).log entry) in
    let some : events_of f.sid (run_of sha ps course).log ≢ [] = has_events (run_of sha ps course).log entry (receipt f) there (subst (λ a. In (events_of_answer a) (receipt f)) (sym ans) (inl refl)) in
    origin_before sha hash s ps course is_course f.sid premises (first_cast sha hash s ps course is_course f.sid some) hs gs who bs past f q x e its_past reads ans refl is
