-- One step more of a replay, as a call of a principal: what is reported of it, and what of the frames that are on their way.
use Rattle.std.proofs.Common.{◌≡◌, ℕ, zero, suc, ◌<◌, ◌≤◌, Bool, true, List, [], ◌∷◌, ◌++◌, length, map, get_or, Some, sym, ap, ◌∙◌, append_assoc, append-nil, arith}
use Rattle.std.specs.List.{AllByRecursion}
use Rattle.std.proofs.lemmas.List.Elements.{recursion_from_All}
use Rattle.sg_law.proofs.Lists.{last-append}
use Rattle.sg_model.specs.Last.{last}
use Rattle.sg_model.specs.Shape.{receiver, role_at}
use Rattle.sg_protocol.proofs.RealHash.{real_hash}
use Rattle.sg_protocol.proofs.Steps.{runs_go_by_step}
use Rattle.sg_protocol.specs.Acting.{answer}
use Rattle.sg_protocol.specs.Calls.{Call}
use Rattle.sg_protocol.specs.Graph.{Graph, IsGraph, Node, shape}
use Rattle.sg_protocol.specs.Past.{node_of}
use Rattle.sg_protocol.specs.Run.{called}
use Rattle.sg_protocol.specs.Schedule.{Step}
use Rattle.sg_protocol.specs.Steps.{frame_number}
use Rattle.sg_protocol.specs.Texts.{real}
use Rattle.sg_protocol.specs.World.{Logged, World}
use Rattle.sg_report.specs.Reported.{Reported, reported_after, reported_answer, reported_log, reported_outcome}
use Rattle.sg_setting.specs.Replay.{Replay, next_number, run_of, stepped, with_taken}
use Rattle.sg_sessions.proofs.OwnRuns.{next_frame, next_own, next_spent}
use Rattle.sg_drive.specs.Budget.{IsOnItsWay, OnItsWay}
use Rattle.sg_sessions.specs.Own.{IsOwnCall, IsOwnRun, IsSpentBy}
use Rattle.sg_sessions.specs.Setup.{player}

-- ---- what is reported

reported_more : (before log : List Logged) (l : Logged) → reported_after before (log ++ l ∷ []) ≡ reported_after before log ++ reported_outcome (frame_number (before ++ log)) l.outcome ∷ []
reported_more before [] l = ap (λ (z : List Logged). reported_outcome (frame_number z) l.outcome ∷ []) (sym (append-nil before))
reported_more before (x ∷ xs) l =
    ap (λ (z : List Reported). reported_outcome (frame_number before) x.outcome ∷ z) (reported_more (before ++ x ∷ []) xs l)
    ∙ ap (λ (z : List Logged). reported_outcome (frame_number before) x.outcome ∷ (reported_after (before ++ x ∷ []) xs ++ reported_outcome (frame_number z) l.outcome ∷ [])) (append_assoc before (x ∷ []) xs)

pub reported_last : (log : List Logged) (l : Logged) → last (reported_log (log ++ l ∷ [])) ≡ Some (reported_outcome (frame_number log) l.outcome)
reported_last log l = ap (λ (z : List Reported). last z) (reported_more [] log l) ∙ last-append (reported_log log) (reported_outcome (frame_number log) l.outcome) []

-- ---- roles

-- the role of a node is one of the graph's
pub role_there : (g : Graph) → IsGraph g → 0 < length g.roles → (n : ℕ) → role_at (shape g) n < length g.roles
role_there g is some n = go g.nodes (recursion_from_All (λ (n : Node). n.role < length g.roles) g.nodes is.roles) n
  where
    go : (ns : List Node) → AllByRecursion (λ (n : Node). n.role < length g.roles) ns → (k : ℕ) → get_or (map (λ (n : Node). n.role) ns) k 0 < length g.roles
    go [] a k = some
    go (x ∷ xs) a zero = a.0
    go (x ∷ xs) a (suc k) = go xs a.1 k

-- ---- the next step

module _ (g : Graph) (few : length g.roles ≤ 16) (r : Replay) (own : IsOwnRun real g (run_of r)) (role : ℕ) (there : role < length g.roles) (st : Step) (c : Call) (good : IsOwnCall g c)
    (is : stepped r st ≡ called real (run_of r) (next_number r) (player role) c (own.nodes role there).0) where
  pub run_is : run_of (with_taken r st) ≡ called real (run_of r) (next_number r) (player role) c (own.nodes role there).0
  run_is = runs_go_by_step real r.programs r.schedule st ∙ is

  pub own_next : IsOwnRun real g (run_of (with_taken r st))
  own_next = next_own real real_hash g few (run_of r) (run_of (with_taken r st)) own (next_number r) role there c good run_is

  pub reported_next : last (reported_log (run_of (with_taken r st)).log) ≡ Some (reported_answer (frame_number (run_of r).log) (answer real (node_of (own.nodes role there).0) c))
  reported_next = ap (λ (w : World). last (reported_log w.log)) run_is ∙ reported_last (run_of r).log _

  -- a frame is still on its way, and if it is said to be taken its receiver takes it no more
  way_on : (o : OnItsWay) (taken : Bool) (w : IsOnItsWay g r o) → (taken ≡ true → IsSpentBy (run_of (with_taken r st)) (receiver (shape g) o.pending.label) w.frame) → IsOnItsWay g (with_taken r st) (record o { taken = taken })
  way_on o taken w spent = record {
    bytes = w.bytes;
    frame = w.frame;
    recorded = next_frame real real_hash g few (run_of r) (run_of (with_taken r st)) own (next_number r) role there c good run_is o.pending.frame w.bytes w.recorded;
    reads = w.reads;
    time = w.time;
    goes_to = w.goes_to;
    sid = w.sid;
    taken = spent;
  }

  pub way_next : (o : OnItsWay) → receiver (shape g) o.pending.label < length g.roles → IsOnItsWay g r o → IsOnItsWay g (with_taken r st) o
  way_next o h w = way_on o o.taken w (λ t. next_spent real real_hash g few (run_of r) (run_of (with_taken r st)) own (next_number r) role there c good run_is (receiver (shape g) o.pending.label) h w.frame (w.taken t))

  -- and if its receiver takes it no more, it is taken
  pub way_spent : (o : OnItsWay) (w : IsOnItsWay g r o) → IsSpentBy (run_of (with_taken r st)) (receiver (shape g) o.pending.label) w.frame → IsOnItsWay g (with_taken r st) (record o { taken = true })
  way_spent o w spent = way_on o true w (λ t. spent)

  pub ways_next : IsGraph g → (ways : List OnItsWay) → AllByRecursion (IsOnItsWay g r) ways → AllByRecursion (IsOnItsWay g (with_taken r st)) ways
  ways_next graph [] a = tt
  ways_next graph (o ∷ os) a = (way_next o (role_there g graph (omega (arith, there)) _) a.0, ways_next graph os a.1)
