-- A session of honest principals that run apart is never stuck.
use Rattle.std.specs.Prelude.{◌≡◌, ◌⊎◌, ℕ, ◌<◌, List, true, false, length, map, All, Some, None, IsTrue, is_some}
use Rattle.sg_model.specs.Last.{last}
use Rattle.sg_model.specs.Names.{Name}
use Rattle.sg_model.specs.Limits.{most_joins, most_live}
use Rattle.sg_protocol.specs.Graph.{Graph}
use Rattle.sg_protocol.specs.Frame.{Cast, Frame}
use Rattle.sg_protocol.specs.Spelling.{spelling}
use Rattle.sg_protocol.specs.Texts.{Hash}
use Rattle.sg_protocol.specs.Keyring.{Program}
use Rattle.sg_protocol.specs.Session.{principal}
use Rattle.sg_protocol.specs.Calls.{Event, Deliver, Happened}
use Rattle.sg_protocol.specs.Node.{has_joined, program_for, stranger}
use Rattle.sg_protocol.specs.Past.{Past, node_of}
use Rattle.sg_protocol.specs.Schedule.{Schedule, graph_with, is_honest}
use Rattle.sg_protocol.specs.World.{World, past_of}
use Rattle.sg_protocol.specs.Run.{cast_of_session}
use Rattle.sg_protocol.specs.Premises.{Premises}
use Rattle.sg_protocol.specs.LastSteps.{honest_items}
use Rattle.sg_protocol.specs.Completeness.{IsSentTo, HadAnswer}
use Rattle.sg_protocol.specs.GoesOn.{IsAtEnd, WasAbandoned, CanAct}
use Rattle.sg_apart.specs.Apart.{Begins, CallAt, AreCallsInRange, honest_are, run_apart}
use Rattle.sg_apart.specs.Laws.{AnsweredAt, IsHonest, IsOrder, as_begun, asked}
use Rattle.sg_apart_frames.specs.Delivery.{HoldOneKeyEach, IsAwaitedApart}

-- The frame that was sent last in the session was not taken, and is awaited if its receiver has its role's program and shares keys with the cast and,
-- if it joins, did not begin with this join and has room
pub record IsUnderWayApart (s : Schedule) (w : World) (cast : Cast) (sid : List ℕ) : Type 0 where
  pub who : Name
  pub frame : Frame
  pub is_sent : IsSentTo w.log (spelling frame) who frame
  pub of_session : frame.sid ≡ sid
  pub receiver : principal cast frame.receiver ≡ who
  pub newest : last frame.items ≡ last (honest_items sid w.log)
  pub not_taken : (e : Event) → HadAnswer w.log who (Deliver (spelling frame)) (Happened e) → ⊥
  pub awaited : (past : Past) (p : Program) → past_of w who ≡ Some past → program_for past.programs cast.graph frame.receiver ≡ Some p → stranger past.keys cast ≡ None →
      (IsTrue (is_some frame.join) → (has_joined past.first sid frame.receiver ≡ false) × (length (node_of past).joins < most_joins) × (length (node_of past).live < most_live)) → IsAwaitedApart s w (spelling frame) who past frame

-- each session whose principals are all honest, of whom each two hold one key, is at its end, or was abandoned by one of them, or the one at its turn
-- can act, or the newest frame is under way
abbrev pub AreNotStuck : Hash → Schedule → World → Type 0
AreNotStuck sha s w = (sid : List ℕ) (cast : Cast) (g : Graph) → cast_of_session sid w.log ≡ Some cast → graph_with sha s.graphs cast.graph ≡ Some g → All (λ n. is_honest s n ≡ true) cast.names → HoldOneKeyEach w cast →
    IsAtEnd g sid w.log ⊎ (WasAbandoned cast sid w.log ⊎ (CanAct sha w cast g sid ⊎ IsUnderWayApart s w cast sid))

-- If the assumptions hold, such sessions are not stuck
abbrev pub SessionsGoOnApart : Hash → Type 0
SessionsGoOnApart sha = (ps : List Past) (calls : List CallAt) → All (Begins sha) ps → AreCallsInRange calls →
    let w = run_apart sha ps calls in
    Premises sha (honest_are ps) w → AreNotStuck sha (honest_are ps) w

-- So it is of honest principals' pasts, in the order in which their calls happened
abbrev pub HonestSessionsGoOn : Hash → Type 0
HonestSessionsGoOn sha = (ps : List Past) (calls : List AnsweredAt) → All (IsHonest sha) ps → IsOrder ps calls →
    let w = run_apart sha (map as_begun ps) (map asked calls) in
    Premises sha (honest_are ps) w → AreNotStuck sha (honest_are ps) w
