-- What an accepted frame shows, of principals that run apart.
use Rattle.std.specs.Prelude.{◌≡◌, ℕ, List, All, Some, map, flat_map, take}
use Rattle.sg_model.specs.Last.{up_to_last}
use Rattle.sg_model.specs.Names.{Name}
use Rattle.sg_protocol.specs.Graph.{Graph}
use Rattle.sg_protocol.specs.Frame.{Cast, Frame}
use Rattle.sg_protocol.specs.Texts.{Hash}
use Rattle.sg_protocol.specs.Session.{items_of}
use Rattle.sg_protocol.specs.Past.{Past}
use Rattle.sg_protocol.specs.Schedule.{Schedule, graph_with}
use Rattle.sg_protocol.specs.World.{Logged, past_of}
use Rattle.sg_protocol.specs.Run.{cast_of_session}
use Rattle.sg_protocol.specs.Premises.{Premises}
use Rattle.sg_protocol.specs.Receipts.{IsTaken}
use Rattle.sg_protocol.specs.LastSteps.{ShowsLastSteps, exchanges_of}
use Rattle.sg_apart.specs.Apart.{Begins, CallAt, AreCallsInRange, honest_are, run_apart}
use Rattle.sg_apart.specs.Laws.{AnsweredAt, IsHonest, IsOrder, as_begun, asked}

-- what each frame that is accepted in the run of these calls shows of honest senders is what they last did up to that call, and the receiver holds what they held
abbrev pub AcceptedShowLastSteps : Hash → Schedule → List Past → List CallAt → Type 0
AcceptedShowLastSteps sha s ps calls = (who : Name) (bs : List ℕ) (f : Frame) (l : Logged) (cast : Cast) (g : Graph) (past : Past) → IsTaken (run_apart sha ps calls) l who bs f →
    -- the run up to the acceptance
    let w = run_apart sha ps (take l.number calls) in
    cast_of_session f.sid w.log ≡ Some cast → graph_with sha s.graphs cast.graph ≡ Some g → past_of w who ≡ Some past →
    ShowsLastSteps s w g cast f (up_to_last (λ i. i.role) f.receiver (flat_map items_of (exchanges_of f.sid f.receiver past.calls)))

-- If the assumptions hold, what an accepted frame shows of honest senders is what they last did up to that call, and the receiver holds what they held
abbrev pub FramesShowLastStepsApart : Hash → Type 0
FramesShowLastStepsApart sha = (ps : List Past) (calls : List CallAt) → All (Begins sha) ps → AreCallsInRange calls →
    Premises sha (honest_are ps) (run_apart sha ps calls) → AcceptedShowLastSteps sha (honest_are ps) ps calls

-- So it is of honest principals' pasts, in the order in which their calls happened
abbrev pub HonestFramesShowLastSteps : Hash → Type 0
HonestFramesShowLastSteps sha = (ps : List Past) (calls : List AnsweredAt) → All (IsHonest sha) ps → IsOrder ps calls →
    Premises sha (honest_are ps) (run_apart sha (map as_begun ps) (map asked calls)) → AcceptedShowLastSteps sha (honest_are ps) (map as_begun ps) (map asked calls)
