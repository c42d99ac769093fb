-- In a schedule's run one walk explains each session, as does the one that is made event by event.
use Rattle.std.specs.Prelude.{◌≡◌, ◌≢◌, ℕ, List, [], ◌∷◌, ◌++◌, map, Some, Ok, filter_map}
use Rattle.std.proofs.Common.{subst, sym, ◌∙◌, ap}
use Rattle.sg_protocol.specs.Graph.{Graph}
use Rattle.sg_protocol.specs.Evidence.{IsView}
use Rattle.sg_protocol.specs.Frame.{Cast, Frame}
use Rattle.sg_protocol.specs.Reading.{read}
use Rattle.sg_protocol.specs.Texts.{Hash, IsHash}
use Rattle.sg_protocol.specs.Calls.{Deliver, Happened}
use Rattle.sg_protocol.specs.Verdict.{receipt}
use Rattle.sg_protocol.specs.Schedule.{Schedule, graph_with, honest_role}
use Rattle.sg_protocol.specs.World.{Answered, Logged, World, new_world}
use Rattle.sg_protocol.specs.Run.{cast_of_session, events_of}
use Rattle.sg_protocol.specs.Premises.{Premises}
use Rattle.sg_protocol.specs.Walk.{OnePath}
use Rattle.sg_protocol.specs.Headline.{IsExplained, SessionsFollowWalks}
use Rattle.sg_protocol.specs.Explaining.{AllShown, FramesShowViews, WalksExplain, view_in, walk_after_steps, OriginsAreLastLabels, label_sent}
use Rattle.sg_protocol.proofs.Courses.{course, is_course, same_run}
use Rattle.sg_protocol.proofs.EventWalks.{frames_shown, path_explained, origin_is_last}
use Rattle.sg_protocol.proofs.OneWalk.{explained, first_cast}
use Rattle.sg_model.specs.Last.{last}
use Rattle.sg_protocol.specs.Acting.{answer}
use Rattle.sg_protocol.specs.Notes.{session_of_frame}
use Rattle.sg_protocol.specs.Past.{Past, node_of}
use Rattle.sg_protocol.specs.Session.{origin}
use Rattle.sg_protocol.proofs.NamedRuns.{AskedInRun, asked_in_run, same_past}

pub sessions_follow_walks : (sha : Hash) → IsHash sha → SessionsFollowWalks sha
sessions_follow_walks sha hash programs s compiled sched =
    subst (λ (w : World). Premises sha s w → (sid : List ℕ) → events_of sid w.log ≢ [] → IsExplained sha s w sid) (same_run sha hash programs s compiled sched)
    (λ premises sid some. explained sha hash s (new_world programs s).pasts (course sha hash programs s compiled sched) (is_course sha hash programs s compiled sched) sid premises
    (first_cast sha hash s (new_world programs s).pasts (course sha hash programs s compiled sched) (is_course sha hash programs s compiled sched) sid some))

abbrev pub Explain : Hash → Schedule → World → Type 0
Explain sha s w = (sid : List ℕ) (cast : Cast) (g : Graph) → Premises sha s w → cast_of_session sid w.log ≡ Some cast → graph_with sha s.graphs cast.graph ≡ Some g
    → (log : List (Logged × List ℕ)) → map (λ (l : Logged × List ℕ). l.0) log ≡ w.log → AllShown g sid [] log → OnePath g (honest_role s cast) (events_of sid w.log) (walk_after_steps g (honest_role s cast) sid [] log)

pub walks_explain : (sha : Hash) → IsHash sha → WalksExplain sha
walks_explain sha hash programs s sid cast g log compiled sched premises is gr e a =
    subst (Explain sha s) (same_run sha hash programs s compiled sched)
    (λ sid cast g premises is gr. path_explained sha hash s (new_world programs s).pasts (course sha hash programs s compiled sched) (is_course sha hash programs s compiled sched) sid premises cast g is gr) sid cast g premises is gr log e a

abbrev pub ShowViews : Hash → Schedule → World → Type 0
ShowViews sha s w = (sid : List ℕ) (cast : Cast) (g : Graph) → Premises sha s w → cast_of_session sid w.log ≡ Some cast → graph_with sha s.graphs cast.graph ≡ Some g
    → (before : List Logged) (l : Logged) (after : List Logged) (bs : List ℕ) (f : Frame) → w.log ≡ before ++ l ∷ after → l.call ≡ Some (Deliver bs) → read bs ≡ Ok f → l.outcome ≡ Answered (Happened (receipt f)) → f.sid ≡ sid → IsView g f.receiver (view_in (events_of sid before) f)

pub frames_show_views : (sha : Hash) → IsHash sha → FramesShowViews sha
frames_show_views sha hash programs s sid cast g before l after bs f compiled sched premises is gr e q r o i =
    subst (ShowViews sha s) (same_run sha hash programs s compiled sched)
    (λ sid cast g premises is gr. frames_shown sha hash s (new_world programs s).pasts (course sha hash programs s compiled sched) (is_course sha hash programs s compiled sched) sid premises cast g is gr) sid cast g premises is gr before l after bs f e q r o i

pub origins_are_last_labels : (sha : Hash) → IsHash sha → OriginsAreLastLabels sha
origins_are_last_labels sha hash programs s before l after bs f p x compiled sched premises e call reads outcome a is =
    let r : AskedInRun sha programs s before l (Deliver bs) = asked_in_run sha programs s before l after (Deliver bs) e call in
    let its_answer : Answered (answer sha (node_of r.past) (Deliver bs)) ≡ Answered (Happened (receipt f)) = sym (ap (λ (z : Logged). z.outcome) r.is) ∙ outcome in
    subst (λ z. origin x ≡ last (filter_map (label_sent f.receiver) (events_of f.sid z))) r.log
    (origin_is_last sha hash s (new_world programs s).pasts (course sha hash programs s compiled sched) (is_course sha hash programs s compiled sched) (subst (Premises sha s) (sym (same_run sha hash programs s compiled sched)) premises)
    r.first r.rest r.who bs r.past f p x r.parts r.is_past reads (cc) (subst (λ (z : Past). session_of_frame (node_of z) f ≡ Some (p, x)) (sym (same_past sha programs s before l (Deliver bs) r a)) is))
