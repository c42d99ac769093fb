-- To begin a session and to make a turn keep what is left: neither brings more than it uses up.
use Rattle.std.proofs.Common.{◌≡◌, ℕ, zero, suc, ◌+◌, ◌<◌, ◌≤◌, false, List, [], ◌∷◌, ◌++◌, length, map, sum_by, slice_get, Option, Some, None, refl, sym, ap, ◌∙◌, subst, arith}
use Rattle.std.specs.Prelude.{Ok}
use Rattle.sg_model.specs.Last.{Map}
use Rattle.sg_model.specs.Lists.{first_some}
use Rattle.sg_model.specs.Shape.{role_at}
use Rattle.sg_model.specs.Values.{Value}
use Rattle.sg_protocol.proofs.RealHash.{real_hash}
use Rattle.sg_protocol.specs.Acting.{answer}
use Rattle.sg_protocol.specs.Calls.{Event, Call, Act, Deliver, Answer, Happened, Sends, Refusal}
use Rattle.sg_protocol.specs.Frame.{Frame}
use Rattle.sg_protocol.specs.Graph.{Graph, IsGraph, shape, writes}
use Rattle.sg_protocol.specs.Node.{Node, session_with}
use Rattle.sg_protocol.specs.Past.{Past, node_of}
use Rattle.sg_protocol.specs.Reading.{read}
use Rattle.sg_protocol.specs.Run.{called}
use Rattle.sg_protocol.specs.Schedule.{Step, ActStep, confounder, sid_at}
use Rattle.sg_protocol.specs.Session.{Session, last_time, time}
use Rattle.sg_protocol.specs.Spelling.{spelling}
use Rattle.sg_protocol.specs.Steps.{frame_number}
use Rattle.sg_protocol.specs.Texts.{real}
use Rattle.sg_protocol.specs.Verdict.{decided, receipt, rows, verdict_on}
use Rattle.sg_protocol.specs.World.{past_of}
use Rattle.sg_report.specs.Reported.{reported_answer}
use Rattle.sg_setting.specs.Replay.{Replay, next_number, run_of, stepped}
use Rattle.sg_drive.proofs.DrawnValues.{confounded, drawn_are_values, written_few, written_small}
use Rattle.sg_drive.proofs.Left.{add, at, budget_of, few_roles, graph_is, spend_step}
use Rattle.sg_sessions.proofs.Own.{IsOwnSent, own_sent}
use Rattle.sg_sessions.proofs.OwnRuns.{act_is, next_recorded}
use Rattle.sg_drive.proofs.Stepping.{own_next, role_there, run_is, reported_next, ways_next}
use Rattle.sg_drive.specs.Budget.{HasBudget, HasLeft, IsOnItsWay, OnItsWay, steps_after, steps_of}
use Rattle.sg_drive.specs.Generated.{number_sent, play_along, player_at, values_drawn, with_frame}
use Rattle.sg_drive.specs.Going.{Going, adding, drawing, taking}
use Rattle.sg_drive.specs.Machine.{Machine}
use Rattle.sg_sessions.specs.Own.{IsOwnCall}
use Rattle.sg_sessions.specs.Setup.{player}

-- ---- small

pub get_some : {A : Type 0} (xs : List A) (i : ℕ) → i < length xs → (x : A) × (slice_get xs i ≡ Some x)
get_some [] i l = absurd (omega (arith, l))
get_some (x ∷ xs) zero l = (x, refl)
get_some (x ∷ xs) (suc i) l = get_some xs i (omega (arith, l))

-- what was accepted is the receipt of the frame
pub accepted_is : (n : Node) (bs : List ℕ) (f : Frame) (e : Event) → read bs ≡ Ok f → answer real n (Deliver bs) ≡ Happened e → receipt f ≡ e
accepted_is n bs f e rd a = by (first_some (rows real n f)) (sym (ap (verdict_on real n) rd) ∙ a)
  where
    by : (z : Option Refusal) → decided (receipt f) z ≡ Happened e → receipt f ≡ e
    by None h = cc
    by (Some why) h = absurd (cc)

-- the sessions at a node that have this identifier are at this time
abbrev pub WereReported : Graph → Replay → (session node t : ℕ) → Type 0
WereReported g r session node t = (p : Past) → past_of (run_of r) (player_at g node) ≡ Some p → (s : Session) → session_with (node_of p).live (sid_at real r.schedule session) ≡ Some s → t ≤ time s

-- ---- to play along a label

module _ (m : Machine) (begun left : ℕ) (x : Going) (ways : List OnItsWay) (h : HasLeft (suc left) begun (at m x) ways) (session node t : ℕ) (there : session < m.sessions)
    (enough : sum_by steps_of ways + (4 + steps_after (t + 1)) ≤ left) (reported : WereReported m.graph x.replay session node t) (label : ℕ) (there_label : label < length m.graph.edges) where
  is_graph : IsGraph m.graph
  is_graph = graph_is (suc left) begun (at m x) ways h

  few : length m.graph.roles ≤ 16
  few = few_roles (suc left) begun (at m x) ways h

  abbrev role : ℕ
  role = role_at (shape m.graph) node

  has_role : role < length m.graph.roles
  has_role = role_there m.graph is_graph (let two = h.underway.two in omega (arith, two)) node

  abbrev values : Map Value
  values = values_drawn m.seed (x.draws + 1) m.graph (writes m.graph label)

  abbrev sid : List ℕ
  sid = sid_at real x.replay.schedule session

  abbrev confounders : List (List ℕ)
  confounders = map (λ (v : ℕ × Value). confounder (next_number x.replay) v.0) values

  abbrev act : Call
  act = Act sid label values confounders

  abbrev step : Step
  step = ActStep (player role) session label values

  good : IsOwnCall m.graph act
  good = confounded (next_number x.replay) values (drawn_are_values m.seed (x.draws + 1) m.graph (writes m.graph label) (written_small m.graph is_graph label))

  abbrev past : Past
  past = (h.underway.run.nodes role has_role).0

  is : stepped x.replay step ≡ called real (run_of x.replay) (next_number x.replay) (player role) act past
  is = act_is real m.graph (run_of x.replay) h.underway.run x.replay.schedule (next_number x.replay) role has_role session label values

  -- the run after the act
  abbrev acted : Going
  acted = taking step (drawing (length (writes m.graph label)) (drawing 1 x))

  after : HasLeft left begun (at m acted) ways
  after = spend_step left begun (at m x) ways h (omega (arith, enough)) step acted refl refl (let w = written_few m.graph is_graph label in omega (arith, w)) refl
      (own_next m.graph few x.replay h.underway.run role has_role step act good is) (ways_next m.graph few x.replay h.underway.run role has_role step act good is is_graph ways h.frames.each)

  -- the outcome
  sent : (a : Answer) → answer real (node_of past) act ≡ a → HasBudget left begun (at m (with_frame session label (number_sent (Some (reported_answer (frame_number (run_of x.replay).log) a))) acted))
  sent (Sends e to f) q =
      let s : IsOwnSent real real_hash m.graph few role (omega (arith, has_role, few)) (node_of past) (h.underway.run.nodes role has_role).2 sid label f = own_sent real real_hash m.graph few role (omega (arith, has_role, few)) (node_of past) (h.underway.run.nodes role has_role).2 sid label values confounders good e to f q in
      let o : OnItsWay = record { pending = record { frame = frame_number (run_of x.replay).log; session = session; label = label; count = 0 }; time = last_time f.items; taken = false } in
      let on : IsOnItsWay m.graph acted.replay o = record {
        bytes = spelling f;
        frame = f;
        recorded = next_recorded real real_hash m.graph few (run_of x.replay) (run_of acted.replay) h.underway.run (next_number x.replay) role has_role act good (run_is m.graph few x.replay h.underway.run role has_role step act good is) e to f q;
        reads = s.reads;
        time = refl;
        goes_to = s.receiver_is;
        sid = s.sid_is;
        taken = λ z. absurd (cc z);
      } in
      let late : last_time f.items ≡ time s.x + 1 = s.later in
      let before : t ≤ time s.x = reported past (h.underway.run.nodes role has_role).1 s.x s.found in
      budget_of left left begun (at m (adding (o.pending ∷ []) acted)) (ways ++ o ∷ []) (omega arith) (add left begun (at m acted) ways after o on (record { label = there_label; session = there; count = omega arith }) (omega (arith, enough, late, before)))
  sent other q = budget_of left left begun (at m acted) ways (omega arith) after

  pub along_keeps : HasBudget left begun (at m (play_along m.seed m.graph session node label (drawing 1 x)))
  along_keeps = subst (λ z. HasBudget left begun (at m (with_frame session label (number_sent z) acted))) (sym (reported_next m.graph few x.replay h.underway.run role has_role step act good is)) (sent (answer real (node_of past) act) refl)
