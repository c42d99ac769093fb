-- What an accepted frame shows is what honest principals apart last did.
use Rattle.std.specs.Prelude.{◌≡◌, ℕ, List, All, Some, map, take}
use Rattle.std.proofs.lemmas.List.Elements.{All-take}
use Rattle.sg_model.specs.Last.{last}
use Rattle.sg_model.specs.Names.{Name}
use Rattle.sg_protocol.specs.Graph.{Graph}
use Rattle.sg_protocol.specs.Frame.{Cast, Frame}
use Rattle.sg_protocol.specs.Texts.{Hash, IsHash}
use Rattle.sg_protocol.specs.Past.{Past}
use Rattle.sg_protocol.specs.World.{Logged}
use Rattle.sg_protocol.specs.Ranges.{IsCallInRange}
use Rattle.sg_protocol.proofs.LastSteps.{ShowsAtEnd, in_last_of}
use Rattle.sg_protocol.proofs.Showing.{shows_at_end}
use Rattle.sg_apart.specs.Apart.{Begins, CallAt, AreCallsInRange, honest_are, run_apart}
use Rattle.sg_apart.proofs.Whole.{asks, is_course, of_course}
use Rattle.sg_apart_frames.specs.LastSteps.{FramesShowLastStepsApart}
use Rattle.sg_apart_frames.proofs.Beginnings.{premises_before, is_last}
use Rattle.sg_model.proofs.Members.{in_from_Contains, contains_from_in}

-- where the acceptance ends the run
apart_at_end : (sha : Hash) → IsHash sha → (ps : List Past) (calls : List CallAt) → All (Begins sha) ps → AreCallsInRange calls → (who : Name) (bs : List ℕ) (f : Frame) (l : Logged) (cast : Cast) (g : Graph) (past : Past) → ShowsAtEnd sha (honest_are ps) who bs f l cast g past (run_apart sha ps calls)
apart_at_end sha hash ps calls are range who bs f l cast g past = of_course sha ps calls (ShowsAtEnd sha (honest_are ps) who bs f l cast g past) (shows_at_end sha hash (honest_are ps) ps (map asks calls) (is_course sha ps are calls range) who bs f l cast g past)

pub frames_show_last_steps_apart : (sha : Hash) → IsHash sha → FramesShowLastStepsApart sha
frames_show_last_steps_apart sha hash ps calls are range premises who bs f l cast g past t is gr its =
    let at_end : last (run_apart sha ps (take l.number calls)).log ≡ Some l = is_last sha ps calls l (in_from_Contains (run_apart sha ps calls).log l t.0) in
    apart_at_end sha hash ps (take l.number calls) are (All-take (λ (c : CallAt). IsCallInRange c.call) l.number calls range) who bs f l cast g past (premises_before sha ps calls l.number (honest_are ps) premises) at_end
    (contains_from_in (run_apart sha ps (take l.number calls)).log l (in_last_of (run_apart sha ps (take l.number calls)).log l at_end), t.1, t.2, t.3, t.4) is gr its
