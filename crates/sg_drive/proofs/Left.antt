-- What is left of a generated run: it is used up by steps, draws and losses, and covers the frames that are pending.
use Rattle.std.proofs.Common.{◌≡◌, ℕ, zero, suc, ◌+◌, ◌-◌, ◌*◌, ◌<◌, ◌≤◌, Bool, if◌then◌else◌, List, [], ◌∷◌, ◌++◌, length, map, sum_by, slice_get, remove, Some, refl, sym, ap, ◌∙◌, subst, arith, length-append}
use Rattle.std.specs.List.{AllByRecursion}
use Rattle.std.proofs.lemmas.List.{map-append}
use Rattle.std.proofs.lemmas.List.Sums.{sum_by-append}
use Rattle.sg_model.proofs.Small.{all-append}
use Rattle.sg_protocol.specs.Accepted.{Accepted}
use Rattle.sg_protocol.specs.Graph.{Graph, IsGraph}
use Rattle.sg_protocol.specs.Schedule.{Step}
use Rattle.sg_protocol.specs.Texts.{real}
use Rattle.sg_setting.specs.Replay.{Replay, run_of, with_taken}
use Rattle.sg_sessions.proofs.OwnSetup.{some_program}
use Rattle.sg_drive.specs.Budget.{AreOnTheirWay, HasBudget, HasLeft, IsOnItsWay, IsUnderway, Leaves, OnItsWay, steps_after, steps_of}
use Rattle.sg_drive.specs.Going.{Going, Pending, adding}
use Rattle.sg_drive.specs.Machine.{HasRoom, IsThere, Machine}
use Rattle.sg_sessions.specs.Own.{IsOwnRun}

-- the machine with another run
abbrev pub at : Machine → Going → Machine
at m x = record m { going = x }

-- ---- the graph

module _ (left begun : ℕ) (m : Machine) (ways : List OnItsWay) (h : HasLeft left begun m ways) where
  pub graph_is : IsGraph m.graph
  graph_is = let p = some_program m.graph m.going.replay.programs h.underway.compiled (let t = h.underway.two in omega (arith, t)) in subst IsGraph p.2 p.1.is_graph

  pub graph_accepted : Accepted m.graph
  graph_accepted = let p = some_program m.graph m.going.replay.programs h.underway.compiled (let t = h.underway.two in omega (arith, t)) in subst Accepted p.2 p.1.accepted

  pub few_roles : length m.graph.roles ≤ 16
  few_roles = let s = graph_is.sizes.0 in omega (arith, s)

-- ---- sums

sum_cons : (o : OnItsWay) (os : List OnItsWay) → sum_by steps_of (o ∷ os) ≡ steps_of o + sum_by steps_of os
sum_cons o os = let e = sum_by-append steps_of (o ∷ []) os in let z : sum_by steps_of (o ∷ []) ≡ steps_of o = omega arith in omega (arith, e, z)

pub sum_end : (os : List OnItsWay) (o : OnItsWay) → sum_by steps_of (os ++ o ∷ []) ≡ sum_by steps_of os + steps_of o
sum_end os o = let e = sum_by-append steps_of os (o ∷ []) in let z : sum_by steps_of (o ∷ []) ≡ steps_of o = omega arith in omega (arith, e, z)

-- ---- using up

module _ (left begun : ℕ) (m : Machine) (ways : List OnItsWay) (h : HasLeft (suc left) begun m ways) (covered : sum_by steps_of ways ≤ left) where
  -- a step that is taken, with some draws
  pub spend_step : (st : Step) (y : Going) → y.replay ≡ with_taken m.going.replay st → y.pending ≡ m.going.pending → y.draws ≤ m.going.draws + 40 → y.lost ≡ m.going.lost
      → IsOwnRun real m.graph (run_of (with_taken m.going.replay st)) → AllByRecursion (IsOnItsWay m.graph (with_taken m.going.replay st)) ways → HasLeft left begun (at m y) ways
  spend_step st y e pending drawn lost own each =
      let more = length-append m.going.replay.schedule.steps (st ∷ []) in
      let many : length y.replay.schedule.steps ≡ length (m.going.replay.schedule.steps ++ st ∷ []) = ap (λ (r : Replay). length r.schedule.steps) e in
      let room = h.leaves in
      record {
        underway = subst (IsUnderway m.graph m.sessions) (sym e) (record { compiled = h.underway.compiled; two = h.underway.two; few = h.underway.few; declared = h.underway.declared; run = own });
        frames = record {
          pending = h.frames.pending ∙ sym pending;
          each = subst (λ (r : Replay). AllByRecursion (IsOnItsWay m.graph r) ways) (sym e) each;
          there = subst (λ (ps : List Pending). AllByRecursion (IsThere m.graph m.sessions) ps) (sym pending) h.frames.there;
        };
        so_many = h.so_many;
        covers = covered;
        leaves = record { steps = omega (arith, more, many, room); draws = omega (arith, drawn, room); lost = omega (arith, lost, room) };
      }

module _ (left begun : ℕ) (m : Machine) (ways : List OnItsWay) (h : HasLeft left begun m ways) where
  -- less is left, if it still covers, with some draws and losses for what is gone
  less_left : (less drawn lost : ℕ) → less ≤ left → sum_by steps_of ways ≤ less → drawn + 40 * less ≤ m.going.draws + 40 * left → lost + less ≤ m.going.lost + left → HasLeft less begun (at m (record (m.going) { draws = drawn; lost = lost })) ways
  less_left less drawn lost few covered d l =
      let room = h.leaves in
      record {
        underway = h.underway;
        frames = h.frames;
        so_many = h.so_many;
        covers = covered;
        leaves = record { steps = omega (arith, few, room); draws = omega (arith, d, room); lost = omega (arith, l, room) };
      }

  pub fewer : (less : ℕ) → less ≤ left → sum_by steps_of ways ≤ less → HasLeft less begun m ways
  fewer less l covered = less_left less m.going.draws m.going.lost l covered (omega (arith, l)) (omega (arith, l))

  -- a session more begins, with 82 steps for it
  pub one_begins : begun < m.sessions → HasLeft (left + 82) (begun + 1) m ways
  one_begins l =
      let covered = h.covers in
      let same : (left + 82) + 82 * (m.sessions - (begun + 1)) ≡ left + 82 * (m.sessions - begun) = omega (arith, l) in
      record {
        underway = h.underway;
        frames = h.frames;
        so_many = omega (arith, l);
        covers = omega (arith, covered);
        leaves = subst (λ k. Leaves k m.sessions (length m.going.replay.schedule.steps) m.going.draws m.going.lost) (sym same) h.leaves;
      }

  -- other frames on their way, pending or not
  anew : (frames : List Pending) (others : List OnItsWay) → AreOnTheirWay m.graph m.sessions m.going.replay frames others → sum_by steps_of others ≤ left → HasLeft left begun (at m (record (m.going) { pending = frames })) others
  anew frames others are covered = record { underway = h.underway; frames = are; so_many = h.so_many; covers = covered; leaves = h.leaves }

  -- a frame more, at the list's end
  pub add : (o : OnItsWay) → IsOnItsWay m.graph m.going.replay o → IsThere m.graph m.sessions o.pending → sum_by steps_of ways + steps_of o ≤ left → HasLeft left begun (at m (adding (o.pending ∷ []) m.going)) (ways ++ o ∷ [])
  add o on there covered = anew (m.going.pending ++ o.pending ∷ []) (ways ++ o ∷ []) (record {
    pending = map-append (λ (o : OnItsWay). o.pending) ways (o ∷ []) ∙ ap (λ (ps : List Pending). ps ++ o.pending ∷ []) h.frames.pending;
    each = all-append (IsOnItsWay m.graph m.going.replay) ways (o ∷ []) h.frames.each (on, tt);
    there = all-append (IsThere m.graph m.sessions) m.going.pending (o.pending ∷ []) h.frames.there (there, tt);
  }) (let e = sum_end ways o in omega (arith, e, covered))

  -- other facts on the same pending frames
  pub reported_anew : (others : List OnItsWay) → map (λ (o : OnItsWay). o.pending) others ≡ map (λ (o : OnItsWay). o.pending) ways → AllByRecursion (IsOnItsWay m.graph m.going.replay) others → sum_by steps_of others ≤ left → HasLeft left begun m others
  reported_anew others same each covered = anew m.going.pending others (record { pending = same ∙ h.frames.pending; each = each; there = h.frames.there }) covered

-- some draws, and at most one loss
pub spend_draws : (left begun : ℕ) (m : Machine) (ways : List OnItsWay) → HasLeft (suc left) begun m ways → sum_by steps_of ways ≤ left
    → (drawn lost : ℕ) → drawn ≤ m.going.draws + 40 → lost ≤ m.going.lost + 1 → HasLeft left begun (at m (record (m.going) { draws = drawn; lost = lost })) ways
spend_draws left begun m ways h covered drawn lost d l = less_left (suc left) begun m ways h left drawn lost (omega arith) covered (omega (arith, d)) (omega (arith, l))

-- ---- taking out

-- an element of a list at an index, and the others
record Parted (P : OnItsWay → Type 0) (Q : Pending → Type 0) (ways : List OnItsWay) (index : ℕ) (p : Pending) : Type 0 where
  o : OnItsWay
  rest : List OnItsWay
  is : o.pending ≡ p
  others : map (λ (o : OnItsWay). o.pending) rest ≡ remove (map (λ (o : OnItsWay). o.pending) ways) index
  whole : sum_by steps_of ways ≡ steps_of o + sum_by steps_of rest
  on : P o
  each : AllByRecursion P rest
  there : Q p
  all : AllByRecursion Q (map (λ (o : OnItsWay). o.pending) rest)

parted : (P : OnItsWay → Type 0) (Q : Pending → Type 0) (ways : List OnItsWay) (index : ℕ) (p : Pending) → AllByRecursion P ways → AllByRecursion Q (map (λ (o : OnItsWay). o.pending) ways) → slice_get (map (λ (o : OnItsWay). o.pending) ways) index ≡ Some p → Parted P Q ways index p
parted P Q [] index p a b e = absurd (cc)
parted P Q (o ∷ os) zero p a b e =
    let is : o.pending ≡ p = cc in
    record { o = o; rest = os; is = is; others = refl; whole = sum_cons o os; on = a.0; each = a.1; there = subst Q is b.0; all = b.1 }
parted P Q (o ∷ os) (suc k) p a b e =
    let q = parted P Q os k p a.1 b.1 e in
    record {
      o = q.o;
      rest = o ∷ q.rest;
      is = q.is;
      others = ap (λ (ps : List Pending). o.pending ∷ ps) q.others;
      whole = (let s = sum_cons o os in let t = sum_cons o q.rest in let w = q.whole in omega (arith, s, t, w));
      on = q.on;
      each = (a.0, q.each);
      there = q.there;
      all = (b.0, q.all);
    }

-- the frame at an index is taken out
pub record TakenOut (left begun : ℕ) (m : Machine) (ways : List OnItsWay) (index : ℕ) (p : Pending) : Type 0 where
  pub o : OnItsWay
  pub rest : List OnItsWay
  pub is : o.pending ≡ p
  pub on : IsOnItsWay m.graph m.going.replay o
  pub there : IsThere m.graph m.sessions p
  pub whole : sum_by steps_of ways ≡ steps_of o + sum_by steps_of rest
  pub has : HasLeft left begun (at m (record (m.going) { pending = remove m.going.pending index })) rest

pub taken_out : (left begun : ℕ) (m : Machine) (ways : List OnItsWay) → HasLeft left begun m ways → (index : ℕ) (p : Pending) → slice_get m.going.pending index ≡ Some p → TakenOut left begun m ways index p
taken_out left begun m ways h index p e =
    let there : AllByRecursion (IsThere m.graph m.sessions) (map (λ (o : OnItsWay). o.pending) ways) = subst (λ (ps : List Pending). AllByRecursion (IsThere m.graph m.sessions) ps) (sym h.frames.pending) h.frames.there in
    let q = parted (IsOnItsWay m.graph m.going.replay) (IsThere m.graph m.sessions) ways index p h.frames.each there (ap (λ (ps : List Pending). slice_get ps index) h.frames.pending ∙ e) in
    let others : map (λ (o : OnItsWay). o.pending) q.rest ≡ remove m.going.pending index = q.others ∙ ap (λ (ps : List Pending). remove ps index) h.frames.pending in
    record {
      o = q.o;
      rest = q.rest;
      is = q.is;
      on = q.on;
      there = q.there;
      whole = q.whole;
      has = anew left begun m ways h (remove m.going.pending index) q.rest (record {
        pending = others;
        each = q.each;
        there = subst (λ (ps : List Pending). AllByRecursion (IsThere m.graph m.sessions) ps) others q.all;
      }) (let c = h.covers in let w = q.whole in omega (arith, c, w));
    }

-- ---- budgets

pub budget_of : (left most begun : ℕ) (m : Machine) (ways : List OnItsWay) → left ≤ most → HasLeft left begun m ways → HasBudget most begun m
budget_of left most begun m ways l h = record { left = left; ways = ways; within = l; has = h }

pub more_budget : (less most begun : ℕ) (m : Machine) → less ≤ most → HasBudget less begun m → HasBudget most begun m
more_budget less most begun m l b = record { left = b.left; ways = b.ways; within = (let w = b.within in omega (arith, w, l)); has = b.has }

-- it leaves room for steps and draws
pub budget_room : (most begun : ℕ) (m : Machine) → HasBudget most begun m → HasRoom 2 500000000 m
budget_room most begun m b =
    let h = b.has in
    let room = h.leaves in
    let f = h.underway.few in
    let node = (graph_accepted b.left begun m b.ways h).each_role_has_node 0 (let t = h.underway.two in omega (arith, t)) in
    let at = node.1 in
    record { start = omega (arith, at); steps = omega (arith, room, f); draws = omega (arith, room, f); lost = omega (arith, room, f) }

-- each frame brings at least one step
some_steps : (g : Graph) (sessions : ℕ) (o : OnItsWay) → IsThere g sessions o.pending → 1 ≤ steps_of o
some_steps g sessions o t = let c = t.count in let z = zero_or (o.taken) (steps_after o.time) in omega (arith, c, z)
  where
    zero_or : (b : Bool) (n : ℕ) → 0 ≤ (if b then 0 else n)
    zero_or b n = omega arith

-- so if nothing is left, none is pending
pub none_left : (begun : ℕ) (m : Machine) → HasBudget 0 begun m → m.going.pending ≡ []
none_left begun m b = by b.ways b.has.frames.pending (subst (λ (ps : List Pending). AllByRecursion (IsThere m.graph m.sessions) ps) (sym b.has.frames.pending) b.has.frames.there) (let c = b.has.covers in let w = b.within in omega (arith, c, w))
  where
    by : (ways : List OnItsWay) → map (λ (o : OnItsWay). o.pending) ways ≡ m.going.pending → AllByRecursion (IsThere m.graph m.sessions) (map (λ (o : OnItsWay). o.pending) ways) → sum_by steps_of ways ≤ 0 → m.going.pending ≡ []
    by [] e a s = sym e
    by (o ∷ os) e a s = (let some = some_steps m.graph m.sessions o a.0 in let c = sum_cons o os in absurd (omega (arith, some, c, s)))

-- and if none is pending, nothing need be left
pub none_pending : (most begun : ℕ) (m : Machine) → HasBudget most begun m → m.going.pending ≡ [] → HasBudget 0 begun m
none_pending most begun m b e = by b.ways (b.has.frames.pending ∙ e) b.has
  where
    by : (ways : List OnItsWay) → map (λ (o : OnItsWay). o.pending) ways ≡ [] → HasLeft b.left begun m ways → HasBudget 0 begun m
    by [] q h = budget_of 0 0 begun m [] (omega arith) (fewer b.left begun m [] h 0 (omega arith) (omega arith))
    by (o ∷ os) q h = absurd (cc)
