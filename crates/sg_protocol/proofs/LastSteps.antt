-- In a schedule's run what an accepted frame shows is what honest senders last did.
use Rattle.std.specs.Prelude.{◌≡◌, ℕ, List, [], ◌∷◌, flat_map, Some}
use Rattle.std.proofs.Common.{sym, subst, inl, inr}
use Rattle.sg_model.specs.Last.{last, up_to_last}
use Rattle.sg_model.specs.Names.{Name}
use Rattle.sg_protocol.specs.Graph.{Graph}
use Rattle.sg_protocol.specs.Frame.{Cast, Frame, Item}
use Rattle.sg_protocol.specs.Texts.{Hash, IsHash}
use Rattle.sg_protocol.specs.Keyring.{Program}
use Rattle.sg_protocol.specs.Session.{items_of}
use Rattle.sg_protocol.specs.Past.{Past}
use Rattle.sg_protocol.specs.Schedule.{Schedule, graph_with}
use Rattle.sg_protocol.specs.World.{Logged, World, new_world, past_of}
use Rattle.sg_protocol.specs.Run.{run, cast_of_session}
use Rattle.sg_protocol.specs.Premises.{Premises}
use Rattle.sg_protocol.specs.Receipts.{IsTaken}
use Rattle.sg_protocol.specs.IsSchedule.{AreCompiled, IsSchedule}
use Rattle.sg_protocol.specs.Beginnings.{first_steps}
use Rattle.sg_protocol.specs.LastSteps.{FramesShowLastSteps, ShowsLastSteps, exchanges_of}
use Rattle.sg_protocol.proofs.Courses.{course, is_course, same_run}
use Rattle.sg_protocol.proofs.FirstSteps.{is_last, first_sched, premises_before}
use Rattle.sg_protocol.proofs.Showing as G
use Rattle.sg_model.proofs.Members.{In, in_from_Contains, contains_from_in}

-- where the acceptance ends the run
abbrev pub ShowsAtEnd : Hash → Schedule → Name → List ℕ → Frame → Logged → Cast → Graph → Past → World → Type 0
ShowsAtEnd sha s who bs f l cast g past w = Premises sha s w → last w.log ≡ Some l → IsTaken w l who bs f → cast_of_session f.sid w.log ≡ Some cast → graph_with sha s.graphs cast.graph ≡ Some g → past_of w who ≡ Some past
    → ShowsLastSteps s w g cast f (up_to_last (λ (i : Item). i.role) f.receiver (flat_map items_of (exchanges_of f.sid f.receiver past.calls)))

pub shows_at_end : (sha : Hash) → IsHash sha → (programs : List Program) (s : Schedule) (who : Name) (bs : List ℕ) (f : Frame) (l : Logged) (cast : Cast) (g : Graph) (past : Past) → AreCompiled sha s.graphs programs → IsSchedule sha s → ShowsAtEnd sha s who bs f l cast g past (run sha programs s)
shows_at_end sha hash programs s who bs f l cast g past compiled sched = subst (ShowsAtEnd sha s who bs f l cast g past) (same_run sha hash programs s compiled sched)
    (G.shows_at_end sha hash s (new_world programs s).pasts (course sha hash programs s compiled sched) (is_course sha hash programs s compiled sched) who bs f l cast g past)

pub in_last_of : (xs : List Logged) (l : Logged) → last xs ≡ Some l → In xs l
in_last_of [] l e = absurd (cc)
in_last_of (x ∷ []) l e = inl (let q : x ≡ l = cc in sym q)
in_last_of (x ∷ y ∷ ys) l e = inr (in_last_of (y ∷ ys) l e)

pub frames_show_last_steps : (sha : Hash) → IsHash sha → FramesShowLastSteps sha
frames_show_last_steps sha hash programs s who bs f l cast g past compiled sched premises t is gr its =
    let at_end : last (run sha programs (first_steps l.number s)).log ≡ Some l = is_last sha programs s l (in_from_Contains (run sha programs s).log l t.0) in
    let r = shows_at_end sha hash programs (first_steps l.number s) who bs f l cast g past compiled (first_sched sha s l.number sched) (premises_before sha programs s l.number premises) at_end
    (contains_from_in (run sha programs (first_steps l.number s)).log l (in_last_of (run sha programs (first_steps l.number s)).log l at_end), t.1, t.2, t.3, t.4) is gr its in
    record { items = r.items; held = r.held }
