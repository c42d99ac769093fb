-- What holds of honest principals that run apart.
use Rattle.std.specs.Prelude.{◌≡◌, ◌≢◌, ℕ, List, [], All, IsTrue, map, filter, filter_map, bytes_eq, is_some, Option, Some, if◌then◌else◌, None}
use Rattle.sg_model.specs.Lists.{has_text}
use Rattle.sg_model.specs.Names.{Name}
use Rattle.sg_protocol.specs.Accepted.{Accepted}
use Rattle.sg_protocol.specs.Texts.{Hash}
use Rattle.sg_protocol.specs.Keyring.{Program}
use Rattle.sg_protocol.specs.Calls.{Call}
use Rattle.sg_protocol.specs.Past.{AnsweredCall, Past, JoinedOnce, AreAnswers, new_node, pairs_differ}
use Rattle.sg_protocol.specs.Schedule.{Schedule}
use Rattle.sg_protocol.specs.World.{Logged, Outcome, Answered, new_world}
use Rattle.sg_protocol.specs.Run.{run, events_of}
use Rattle.sg_protocol.specs.Premises.{Premises}
use Rattle.sg_protocol.specs.Headline.{IsExplained}
use Rattle.sg_protocol.specs.IsSchedule.{IsProgram, AreCompiled, IsSchedule}
use Rattle.sg_protocol.specs.Ranges.{IsCallInRange}
use Rattle.sg_apart.specs.Apart.{Begins, CallAt, AreCallsInRange, names_of, honest_are, run_apart}

-- ---- the headline

-- If the assumptions hold, the events of each session are those of one walk
abbrev pub SessionsFollowWalksApart : Hash → Type 0
SessionsFollowWalksApart sha = (ps : List Past) (calls : List CallAt) → All (Begins sha) ps → AreCallsInRange calls →
    let w = run_apart sha ps calls in
    Premises sha (honest_are ps) w → (sid : List ℕ) → events_of sid w.log ≢ [] → IsExplained sha (honest_are ps) w sid

-- None of the principals joins a pair of sid and role twice, nor one that it began with, and each other event of a pair comes after its join, whatever holds
abbrev pub NoneJoinsTwiceApart : Hash → Type 0
NoneJoinsTwiceApart sha = (ps : List Past) (calls : List CallAt) → All (Begins sha) ps → All JoinedOnce (run_apart sha ps calls).pasts

-- If the assumptions hold, each session follows one walk, and, whatever holds, no principal joins a pair of sid and role twice
abbrev pub HeadlineApart : Hash → Type 0
HeadlineApart sha = SessionsFollowWalksApart sha × NoneJoinsTwiceApart sha

-- ---- any pasts, in any order of their calls

-- the principal as it began
abbrev pub as_begun : Past → Past
as_begun p = record p { calls = [] }

-- a principal's call, with its answer
pub record AnsweredAt : Type 0 where
  pub who : Name
  pub answered : AnsweredCall

-- the call
abbrev pub asked : AnsweredAt → CallAt
asked a = record { who = a.who; call = (a.answered).call }

-- the calls of one principal among these
abbrev pub own_calls : Name → List AnsweredAt → List AnsweredCall
own_calls who calls = filter_map (λ a. if bytes_eq a.who who then Some a.answered else None) calls

-- an order of all calls of these pasts, which keeps the order of each
pub record IsOrder (ps : List Past) (calls : List AnsweredAt) : Type 0 where
  pub whose : All (λ a. IsTrue (has_text a.who (names_of ps))) calls
  pub own : All (λ p. own_calls p.keys.me calls ≡ p.calls) ps

-- what a log says of a call
abbrev pub answered_of : Logged → Option Name × Option Call × Outcome
answered_of l = (l.who, l.call, l.outcome)

-- Pasts whose answers are those of their nodes are those of the run of their calls, in whatever order these happened, with these answers
abbrev pub PastsRunApart : Hash → Type 0
PastsRunApart sha = (ps : List Past) (calls : List AnsweredAt) → IsOrder ps calls → All (λ p. AreAnswers sha (new_node p.keys p.programs p.first) p.calls) ps →
    let w = run_apart sha (map as_begun ps) (map asked calls) in
    (w.pasts ≡ ps) × (map answered_of w.log ≡ map (λ a. (Some a.who, Some (a.answered).call, Answered (a.answered).answer)) calls)

-- The past of an honest principal: its programs are programs, the joins that it began with differ, its calls were in range, and each was answered as its node answers
pub record IsHonest (sha : Hash) (p : Past) : Type 0 where
  pub programs : All (IsProgram sha) p.programs
  pub first : IsTrue (pairs_differ p.first)
  pub calls : All (λ c. IsCallInRange c.call) p.calls
  pub answers : AreAnswers sha (new_node p.keys p.programs p.first) p.calls

-- If the assumptions hold of the calls of honest principals in the order in which they happened, each session follows one walk
abbrev pub HonestPastsFollowWalks : Hash → Type 0
HonestPastsFollowWalks sha = (ps : List Past) (calls : List AnsweredAt) → All (IsHonest sha) ps → IsOrder ps calls →
    let w = run_apart sha (map as_begun ps) (map asked calls) in
    Premises sha (honest_are ps) w → (sid : List ℕ) → events_of sid w.log ≢ [] → IsExplained sha (honest_are ps) w sid

-- ---- schedules

-- The run of a schedule is one of its honest principals apart, but for the entries without a call: with the same pasts, and under the assumptions that hold of it
pub record IsApart (sha : Hash) (programs : List Program) (s : Schedule) : Type 0 where
  pub begin : All (Begins sha) (new_world programs s).pasts
  pub calls : List CallAt
  pub range : AreCallsInRange calls
  pub pasts : (run_apart sha (new_world programs s).pasts calls).pasts ≡ (run sha programs s).pasts
  pub log : (run_apart sha (new_world programs s).pasts calls).log ≡ filter (λ l. is_some l.call) (run sha programs s).log
  pub premises : Premises sha s (run sha programs s) → Premises sha (honest_are (new_world programs s).pasts) (run_apart sha (new_world programs s).pasts calls)

-- So it is for each schedule of accepted graphs
abbrev pub SchedulesRunApart : Hash → Type 0
SchedulesRunApart sha = (programs : List Program) (s : Schedule) → AreCompiled sha s.graphs programs → IsSchedule sha s → All Accepted s.graphs → IsApart sha programs s
