-- To play, a turn, a session that begins and a group keep what is left.
use Rattle.std.proofs.Common.{◌≡◌, ℕ, zero, suc, ◌+◌, ◌-◌, ◌*◌, ◌%◌, ◌<◌, ◌≤◌, ◌==◌, Bool, true, false, nat_lt, if◌then◌else◌, List, [], ◌∷◌, ◌++◌, length, sum_by, slice_get, remove, bytes_eq, Some, refl, sym, ap, ◌∙◌, subst, inl, inr, arith}
use Rattle.std.specs.List.{AllByRecursion}
use Rattle.std.proofs.lemmas.Bool.{cases_Bool}
use Rattle.std.proofs.lemmas.Bool.Decides.{nat_tests}
use Rattle.std.proofs.lemmas.List.{map-append}
use Rattle.sg_graph.specs.Edges.{leaving_from}
use Rattle.sg_model.proofs.Small.{all-append, all-parts, same_bytes}
use Rattle.sg_model.proofs.Finding.{find_passes, find_all}
use Rattle.sg_model.specs.Shape.{role_at, target}
use Rattle.sg_protocol.proofs.RealHash.{real_hash}
use Rattle.sg_protocol.specs.Acting.{answer}
use Rattle.sg_protocol.specs.Calls.{Event, Call, Start, Abandon, Deliver, Answer, Happened}
use Rattle.sg_protocol.specs.Graph.{IsGraph, shape}
use Rattle.sg_protocol.specs.Past.{Past, node_of}
use Rattle.sg_protocol.specs.Run.{called}
use Rattle.sg_protocol.specs.Schedule.{Step, StartStep, AbandonStep, DeliverStep, Whole, sid_at}
use Rattle.sg_protocol.specs.Session.{Session, last_time}
use Rattle.sg_protocol.specs.Steps.{frame_number}
use Rattle.sg_protocol.specs.Texts.{real}
use Rattle.sg_protocol.specs.Verdict.{receipt}
use Rattle.sg_report.specs.Reported.{reported_answer}
use Rattle.sg_setting.specs.Replay.{next_number, run_of, stepped}
use Rattle.sg_drive.proofs.DrawnValues.{chosen_there}
use Rattle.sg_drive.proofs.BudgetLaws.{WereReported, accepted_is, along_keeps, get_some}
use Rattle.sg_drive.proofs.Left.{TakenOut, add, at, budget_of, few_roles, fewer, graph_is, more_budget, none_left, none_pending, one_begins, spend_draws, spend_step, sum_end, taken_out, reported_anew}
use Rattle.sg_sessions.proofs.OwnRuns.{abandon_is, deliver_is, next_accepted, not_again, own_frame, start_is}
use Rattle.sg_sessions.proofs.OwnSetup.{own_cast}
use Rattle.sg_drive.proofs.Stepping.{own_next, role_there, run_is, reported_next, way_spent, ways_next}
use Rattle.sg_drive.proofs.Turning.{turn_none}
use Rattle.sg_drive.specs.Budget.{HasBudget, HasLeft, IsOnItsWay, OnItsWay, steps_after, steps_of}
use Rattle.sg_sessions.specs.Draws.{draw}
use Rattle.sg_drive.specs.Generated.{Fate, Delivered, Delayed, Repeated, Lost, IsGroup, accepted_time, begin, begin_all, chosen, deliver, fate_of, goes_on, goes_on_by, meet, play, play_by, player_at, take_out, turn, turns}
use Rattle.sg_drive.specs.Going.{Going, Pending, adding, drawing, taking}
use Rattle.sg_drive.specs.Machine.{IsThere, Machine}
use Rattle.sg_sessions.specs.Own.{IsOwnFrame, IsOwnNode, IsOwnSession, IsSpentBy}
use Rattle.sg_sessions.specs.Setup.{player}
use Rattle.sg_sessions.specs.Spent.{IsPast}

-- ---- to play

module _ (m : Machine) (begun : ℕ) where
  play_keeps : (left : ℕ) (x : Going) (ways : List OnItsWay) → HasLeft (suc left) begun (at m x) ways → (session node t : ℕ) → session < m.sessions → sum_by steps_of ways + (4 + steps_after (t + 1)) ≤ left
      → WereReported m.graph x.replay session node t → HasBudget left begun (at m (play m.seed m.graph session node x))
  play_keeps left x ways h session node t there enough reported = by (leaving_from m.graph node) refl
    where
      by : (labels : List ℕ) → leaving_from m.graph node ≡ labels → HasBudget left begun (at m (play_by m.seed m.graph session node labels x))
      by [] e = budget_of left left begun (at m x) ways (omega arith) (fewer (suc left) begun (at m x) ways h left (omega arith) (omega (arith, enough)))
      by (l ∷ ls) e = along_keeps m begun left x ways h session node t there enough reported (chosen (l ∷ ls) (draw m.seed x.draws)) (chosen_there m.graph node l ls (draw m.seed x.draws) e)

  -- a session is abandoned
  leave_keeps : (left : ℕ) (x : Going) (ways : List OnItsWay) → HasLeft (suc left) begun (at m x) ways → (session node : ℕ) → sum_by steps_of ways ≤ left → HasBudget left begun (at m (taking (AbandonStep (player_at m.graph node) session) x))
  leave_keeps left x ways h session node enough =
      let graph : IsGraph m.graph = graph_is (suc left) begun (at m x) ways h in
      let few : length m.graph.roles ≤ 16 = few_roles (suc left) begun (at m x) ways h in
      let role : ℕ = role_at (shape m.graph) node in
      let has : role < length m.graph.roles = role_there m.graph graph (let two = h.underway.two in omega (arith, two)) node in
      let st : Step = AbandonStep (player role) session in
      let c : Call = Abandon (sid_at real x.replay.schedule session) in
      let is = abandon_is real m.graph (run_of x.replay) h.underway.run x.replay.schedule (next_number x.replay) role has session in
      budget_of left left begun (at m (taking st x)) ways (omega arith)
      (spend_step left begun (at m x) ways h enough st (taking st x) refl refl (omega arith) refl (own_next m.graph few x.replay h.underway.run role has st c tt is) (ways_next m.graph few x.replay h.underway.run role has st c tt is graph ways h.frames.each))

  -- a session goes on if a frame of this time was accepted
  on_keeps : (left : ℕ) (x : Going) (ways : List OnItsWay) → HasLeft left begun (at m x) ways → (session node t : ℕ) → session < m.sessions → sum_by steps_of ways + steps_after t ≤ left
      → WereReported m.graph x.replay session node t → HasBudget left begun (at m (goes_on_by m.seed m.graph session node t (leaving_from m.graph node) x))
  on_keeps zero x ways h session node t there enough reported = absurd (omega (arith, enough))
  on_keeps (suc left) x ways h session node t there enough reported = by (leaving_from m.graph node)
    where
      early : (b : Bool) → nat_lt t 16 ≡ b → HasBudget (suc left) begun (at m (if b then play m.seed m.graph session node x else taking (AbandonStep (player_at m.graph node) session) x))
      early true e = (let below : t < 16 = grind (arith, nat_tests) in more_budget left (suc left) begun (at m (play m.seed m.graph session node x)) (omega arith) (play_keeps left x ways h session node t there (omega (arith, enough, below)) reported))
      early false e = more_budget left (suc left) begun (at m (taking (AbandonStep (player_at m.graph node) session) x)) (omega arith) (leave_keeps left x ways h session node (omega (arith, enough)))

      by : (labels : List ℕ) → HasBudget (suc left) begun (at m (goes_on_by m.seed m.graph session node t labels x))
      by [] = budget_of (suc left) (suc left) begun (at m x) ways (omega arith) h
      by (l ∷ ls) = early (nat_lt t 16) refl

-- ---- a delivery

-- what holds anew of the pending frames once the frame was accepted, and covers what may follow
abbrev pub Gains : (m : Machine) (begun left : ℕ) (ways : List OnItsWay) (o : OnItsWay) → Type 0
Gains m begun left ways o = (y : Going) → IsOnItsWay m.graph y.replay (record o { taken = true }) → o.taken ≡ false → HasLeft left begun (at m y) ways
    → (anew : List OnItsWay) × HasLeft left begun (at m y) anew × (sum_by steps_of anew + steps_after o.time ≤ left)

module _ (m : Machine) (begun left : ℕ) (x : Going) (ways : List OnItsWay) (h : HasLeft (suc left) begun (at m x) ways) (covered : sum_by steps_of ways ≤ left) (o : OnItsWay) (on : IsOnItsWay m.graph x.replay o)
    (there : IsThere m.graph m.sessions o.pending) (gain : Gains m begun left ways o) where
  is_graph : IsGraph m.graph
  is_graph = graph_is (suc left) begun (at m x) ways h

  few : length m.graph.roles ≤ 16
  few = few_roles (suc left) begun (at m x) ways h

  abbrev node : ℕ
  node = target (shape m.graph) o.pending.label

  abbrev role : ℕ
  role = role_at (shape m.graph) node

  has_role : role < length m.graph.roles
  has_role = role_there m.graph is_graph (let two = h.underway.two in omega (arith, two)) node

  abbrev step : Step
  step = DeliverStep (player role) (Whole o.pending.frame)

  abbrev past : Past
  past = (h.underway.run.nodes role has_role).0

  is : stepped x.replay step ≡ called real (run_of x.replay) (next_number x.replay) (player role) (Deliver on.bytes) past
  is = deliver_is real m.graph (run_of x.replay) h.underway.run x.replay.schedule (next_number x.replay) role has_role o.pending.frame on.bytes on.recorded

  own_bytes : IsOwnFrame m.graph on.bytes
  own_bytes = own_frame real m.graph (run_of x.replay) h.underway.run o.pending.frame on.bytes on.recorded

  -- the run after the delivery
  abbrev given : Going
  given = taking step (drawing 2 x)

  after : HasLeft left begun (at m given) ways
  after = spend_step left begun (at m x) ways h covered step given refl refl (omega arith) refl (own_next m.graph few x.replay h.underway.run role has_role step (Deliver on.bytes) own_bytes is)
      (ways_next m.graph few x.replay h.underway.run role has_role step (Deliver on.bytes) own_bytes is is_graph ways h.frames.each)

  -- if it was accepted, it was not before, and the sessions for which it was are past it
  spent_now : answer real (node_of past) (Deliver on.bytes) ≡ Happened (receipt on.frame) → IsSpentBy (run_of given.replay) role on.frame
  spent_now a = next_accepted real real_hash m.graph few (run_of x.replay) (run_of given.replay) h.underway.run (next_number x.replay) role has_role (Deliver on.bytes) own_bytes (run_is m.graph few x.replay h.underway.run role has_role step (Deliver on.bytes) own_bytes is)
      on.bytes on.frame (receipt on.frame) refl on.reads a

  were_reported : IsSpentBy (run_of given.replay) role on.frame → WereReported m.graph given.replay o.pending.session node (last_time on.frame.items)
  were_reported spent p q s found =
      let mine = after.underway.run.nodes role has_role in
      let both : Some mine.0 ≡ Some p = sym mine.1 ∙ q in
      let same : mine.0 ≡ p = cc in
      let own : IsOwnNode real m.graph role (node_of p) = subst (λ (z : Past). IsOwnNode real m.graph role (node_of z)) same mine.2 in
      let sid : List ℕ = sid_at real given.replay.schedule o.pending.session in
      let of_role : IsOwnSession m.graph role s = find_all (λ (z : Session). bytes_eq z.sid sid) (IsOwnSession m.graph role) (node_of p).live s own.live found in
      let past_it : IsPast on.frame s = find_all (λ (z : Session). bytes_eq z.sid sid) (IsPast on.frame) (node_of p).live s (spent p q).past found in
      past_it (same_bytes s.sid sid (find_passes (λ (z : Session). bytes_eq z.sid sid) (node_of p).live s found) ∙ sym on.sid) (of_role.0 ∙ sym on.goes_to)

  accepted : answer real (node_of past) (Deliver on.bytes) ≡ Happened (receipt on.frame) → (b : Bool) → o.taken ≡ b → HasBudget left begun (at m (goes_on m.seed m.graph o.pending (Some (last_time on.frame.items)) given))
  accepted a true t = absurd (not_again real real_hash m.graph few (run_of x.replay) (run_of given.replay) h.underway.run (next_number x.replay) role has_role (Deliver on.bytes) own_bytes (run_is m.graph few x.replay h.underway.run role has_role step (Deliver on.bytes) own_bytes is)
      on.bytes on.frame (receipt on.frame) refl on.reads a (on.taken t))
  accepted a false t =
      let spent = spent_now a in
      let anew = gain given (way_spent m.graph few x.replay h.underway.run role has_role step (Deliver on.bytes) own_bytes is o on spent) t after in
      let same : last_time on.frame.items ≡ o.time = on.time in
      let more = anew.2 in
      on_keeps m begun left given anew.0 anew.1 o.pending.session node (last_time on.frame.items) there.session (subst (λ z. sum_by steps_of anew.0 + steps_after z ≤ left) (sym same) more) (were_reported spent)

  came : (a : Answer) → answer real (node_of past) (Deliver on.bytes) ≡ a → HasBudget left begun (at m (goes_on m.seed m.graph o.pending (accepted_time (Some (reported_answer (frame_number (run_of x.replay).log) a))) given))
  came (Happened e) q =
      let which : receipt on.frame ≡ e = accepted_is (node_of past) on.bytes on.frame e on.reads q in
      subst (λ (z : Event). HasBudget left begun (at m (goes_on m.seed m.graph o.pending (accepted_time (Some (reported_answer (frame_number (run_of x.replay).log) (Happened z)))) given))) which
      (accepted (q ∙ ap (λ (z : Event). Happened z) (sym which)) o.taken refl)
  came other q = budget_of left left begun (at m given) ways (omega arith) after

  pub deliver_keeps : HasBudget left begun (at m (deliver m.seed m.graph o.pending (drawing 2 x)))
  deliver_keeps = subst (λ z. HasBudget left begun (at m (goes_on m.seed m.graph o.pending (accepted_time z) given))) (sym (reported_next m.graph few x.replay h.underway.run role has_role step (Deliver on.bytes) own_bytes is)) (came (answer real (node_of past) (Deliver on.bytes)) refl)

-- ---- a turn

steps_untaken : (o : OnItsWay) → o.taken ≡ false → steps_of o ≡ (4 - o.pending.count) + steps_after o.time
steps_untaken o e = ap (λ (b : Bool). (4 - o.pending.count) + (if b then 0 else steps_after o.time)) e

-- with its count raised by one, a frame brings one step fewer
abbrev raised : OnItsWay → OnItsWay
raised o = record o { pending = record (o.pending) { count = o.pending.count + 1 } }

can_rise : (count e : ℕ) (fate : Fate) → count ≤ 3 → (count == 3 ≡ true → Delivered ≡ fate → ⊥) → fate_of count e ≡ fate → count + 1 ≤ 3
can_rise count e fate h other q = elim (cases_Bool (count == 3)) [
  | inl y ↦ absurd (other y (rw y at q))
  | inr n ↦ grind (arith, nat_tests)
]

module _ (m : Machine) (begun left : ℕ) (x : Going) (rest : List OnItsWay) (h : HasLeft (suc left) begun (at m x) rest) (o : OnItsWay) (on : IsOnItsWay m.graph x.replay o) (there : IsThere m.graph m.sessions o.pending)
    (whole : sum_by steps_of rest + steps_of o ≤ suc left) where
  raised_on : (r : _) → IsOnItsWay m.graph r o → IsOnItsWay m.graph r (raised o)
  raised_on r w = record { bytes = w.bytes; frame = w.frame; recorded = w.recorded; reads = w.reads; time = w.time; goes_to = w.goes_to; sid = w.sid; taken = w.taken }

  covered : sum_by steps_of rest ≤ left
  covered = let c = there.count in omega (arith, whole, c)

  raised_there : o.pending.count + 1 ≤ 3 → IsThere m.graph m.sessions (raised o).pending
  raised_there l = record { label = there.label; session = there.session; count = l }

  later : (e : ℕ) (fate : Fate) → fate_of o.pending.count e ≡ fate → HasBudget left begun (at m (meet m.seed m.graph o.pending fate (drawing 2 x)))
  later e Delivered q = deliver_keeps m begun left x rest h covered o on there (λ y now not k. (rest, k, (let c = there.count in let u = steps_untaken o not in omega (arith, whole, c, u))))
  later e Delayed q =
      let rises : o.pending.count + 1 ≤ 3 = can_rise o.pending.count e Delayed there.count (λ y z. cc) q in
      let drawn : HasLeft left begun (at m (drawing 2 x)) rest = spend_draws left begun (at m x) rest h covered (x.draws + 2) x.lost (omega arith) (omega arith) in
      budget_of left left begun (at m (adding ((raised o).pending ∷ []) (drawing 2 x))) (rest ++ raised o ∷ []) (omega arith) (add left begun (at m (drawing 2 x)) rest drawn (raised o) (raised_on x.replay on) (raised_there rises) (omega (arith, whole, rises)))
  later e Repeated q =
      let rises : o.pending.count + 1 ≤ 3 = can_rise o.pending.count e Repeated there.count (λ y z. cc) q in
      let back : HasLeft (suc left) begun (at m (adding ((raised o).pending ∷ []) x)) (rest ++ raised o ∷ []) = add (suc left) begun (at m x) rest h (raised o) (raised_on x.replay on) (raised_there rises) (omega (arith, whole, rises)) in
      let all = sum_end rest (raised o) in
      deliver_keeps m begun left (adding ((raised o).pending ∷ []) x) (rest ++ raised o ∷ []) back (omega (arith, whole, rises, all)) o on there (λ y now not k.
      let gone : OnItsWay = record (raised o) { taken = true } in
      let last = sum_end rest gone in
      let u = steps_untaken o not in
      let enough : sum_by steps_of (rest ++ gone ∷ []) + steps_after o.time ≤ left = omega (arith, whole, rises, last, u) in
      let each : AllByRecursion (IsOnItsWay m.graph y.replay) (rest ++ gone ∷ []) = all-append (IsOnItsWay m.graph y.replay) rest (gone ∷ []) (all-parts (IsOnItsWay m.graph y.replay) rest (raised o ∷ []) k.frames.each).0
      (record { bytes = now.bytes; frame = now.frame; recorded = now.recorded; reads = now.reads; time = now.time; goes_to = now.goes_to; sid = now.sid; taken = now.taken }, tt) in (
        rest ++ gone ∷ [],
        reported_anew left begun (at m y) (rest ++ raised o ∷ []) k (rest ++ gone ∷ []) (map-append (λ (o : OnItsWay). o.pending) rest (gone ∷ []) ∙ sym (map-append (λ (o : OnItsWay). o.pending) rest (raised o ∷ []))) each (omega (arith, enough)),
        enough,
      ))
  later e Lost q = budget_of left left begun (at m (record (drawing 2 x) { lost = x.lost + 1 })) rest (omega arith) (spend_draws left begun (at m x) rest h covered (x.draws + 2) (x.lost + 1) (omega arith) (omega arith))

  pub meet_keeps : (e : ℕ) → HasBudget left begun (at m (meet m.seed m.graph o.pending (fate_of o.pending.count e) (drawing 2 x)))
  meet_keeps e = later e (fate_of o.pending.count e) refl

module _ (m : Machine) (begun : ℕ) where
  -- a turn uses up at least one step of what is left
  pub turn_keeps : (most : ℕ) (x : Going) → HasBudget (suc most) begun (at m x) → 0 < length x.pending → HasBudget most begun (at m (turn m.seed m.graph x))
  turn_keeps most x b some = go b.left b.ways b.within b.has
    where
      frame : (p : Pending) × (slice_get x.pending (draw m.seed x.draws % length x.pending) ≡ Some p)
      frame = get_some x.pending (draw m.seed x.draws % length x.pending) (omega (arith, some))

      go : (left : ℕ) (ways : List OnItsWay) → left ≤ suc most → HasLeft left begun (at m x) ways → HasBudget most begun (at m (turn m.seed m.graph x))
      go zero ways l h = absurd (let none : x.pending ≡ [] = none_left begun (at m x) (budget_of 0 0 begun (at m x) ways (omega arith) h) in let z : length x.pending ≡ 0 = ap (λ (ps : List Pending). length ps) none in omega (arith, z, some))
      go (suc left) ways l h =
          let index : ℕ = draw m.seed x.draws % length x.pending in
          let t : TakenOut (suc left) begun (at m x) ways index frame.0 = taken_out (suc left) begun (at m x) ways h index frame.0 frame.1 in
          let y : Going = record x { pending = remove x.pending index } in
          let c = h.covers in
          let w = t.whole in
          let e : ℕ = draw m.seed (x.draws + 1) % 16 in
          let there : IsThere m.graph m.sessions t.o.pending = subst (λ (p : Pending). IsThere m.graph m.sessions p) (sym t.is) t.there in
          let met : HasBudget left begun (at m (meet m.seed m.graph t.o.pending (fate_of t.o.pending.count e) (drawing 2 y))) = meet_keeps m begun left y t.rest t.has t.o t.on there (omega (arith, c, w)) e in
          let met2 : HasBudget left begun (at m (meet m.seed m.graph frame.0 (fate_of frame.0.count e) (drawing 2 y))) = subst (λ (p : Pending). HasBudget left begun (at m (meet m.seed m.graph p (fate_of p.count e) (drawing 2 y)))) t.is met in
          more_budget left most begun (at m (turn m.seed m.graph x)) (omega (arith, l)) (subst (λ z. HasBudget left begun (at m (take_out m.seed m.graph index z x))) (sym frame.1) met2)

  -- so do turns
  turn_again : (most : ℕ) (y : Going) → HasBudget most begun (at m y) → (ps : List Pending) → y.pending ≡ ps → HasBudget most begun (at m (turn m.seed m.graph y))
  turn_again most y b [] e = subst (λ (z : Going). HasBudget most begun (at m z)) (sym (turn_none m.seed m.graph y e)) b
  turn_again most y b (p ∷ ps) e = turn_keeps most y (more_budget most (suc most) begun (at m y) (omega arith) b) (let z : length y.pending ≡ suc (length ps) = ap (λ (qs : List Pending). length qs) e in omega (arith, z))

  pub turns_keep : (n most : ℕ) (x : Going) → HasBudget most begun (at m x) → HasBudget most begun (at m (turns n m.seed m.graph x))
  turns_keep zero most x b = b
  turns_keep (suc n) most x b = turn_again most (turns n m.seed m.graph x) (turns_keep n most x b) (turns n m.seed m.graph x).pending refl

-- ---- sessions

module _ (m : Machine) where
  -- a session that begins brings at most 80 steps more
  pub begin_keeps : (begun most : ℕ) (x : Going) → HasBudget most begun (at m x) → (session : ℕ) → session < m.sessions → begun < m.sessions → HasBudget (most + 80) (begun + 1) (at m (begin m.seed m.graph session x))
  begin_keeps begun most x b session there l =
      let left : ℕ = b.left in
      let h : HasLeft left begun (at m x) b.ways = b.has in
      let same : left + 82 ≡ suc (suc (left + 80)) = omega arith in
      let opened : HasLeft (suc (suc (left + 80))) (begun + 1) (at m x) b.ways = subst (λ z. HasLeft z (begun + 1) (at m x) b.ways) same (one_begins left begun (at m x) b.ways h l) in
      let c = h.covers in
      let graph : IsGraph m.graph = graph_is left begun (at m x) b.ways h in
      let few : length m.graph.roles ≤ 16 = few_roles left begun (at m x) b.ways h in
      let role : ℕ = role_at (shape m.graph) 0 in
      let has : role < length m.graph.roles = role_there m.graph graph (let two = h.underway.two in omega (arith, two)) 0 in
      let cast = own_cast x.replay.schedule m.sessions session m.graph h.underway.declared h.underway.two few there in
      let st : Step = StartStep (player role) session in
      let call : Call = Start cast.0 in
      let is = start_is real m.graph (run_of x.replay) h.underway.run x.replay.schedule (next_number x.replay) role has session cast.0 cast.1 in
      let own = own_next m.graph few x.replay h.underway.run role has st call (cast.2, cast.3) is in
      let each = ways_next m.graph few x.replay h.underway.run role has st call (cast.2, cast.3) is graph b.ways h.frames.each in
      let started : HasLeft (suc (left + 80)) (begun + 1) (at m (taking st x)) b.ways = spend_step (suc (left + 80)) (begun + 1) (at m x) b.ways opened (omega (arith, c)) st (taking st x) refl refl (omega arith) refl own each in
      more_budget (left + 80) (most + 80) (begun + 1) (at m (begin m.seed m.graph session x)) (let w = b.within in omega (arith, w))
      (play_keeps m (begun + 1) (left + 80) (taking st x) b.ways started session 0 0 there (omega (arith, c)) (λ p q s found. omega arith))

  pub begin_all_keeps : (first n most : ℕ) (x : Going) → HasBudget most first (at m x) → first + n ≤ m.sessions → HasBudget (most + 80 * n) (first + n) (at m (begin_all m.seed m.graph first n x))
  begin_all_keeps first zero most x b l = let same : first ≡ first + 0 = omega arith in subst (λ z. HasBudget (most + 80 * 0) z (at m x)) same (more_budget most (most + 80 * 0) first (at m x) (omega arith) b)
  begin_all_keeps first (suc n) most x b l =
      let before = begin_all_keeps first n most x b (omega (arith, l)) in
      let same : first + n + 1 ≡ first + suc n = omega arith in
      let y : Going = begin_all m.seed m.graph first (suc n) x in
      subst (λ z. HasBudget (most + 80 * suc n) z (at m y)) same
      (more_budget (most + 80 * n + 80) (most + 80 * suc n) (first + n + 1) (at m y) (omega arith) (begin_keeps (first + n) (most + 80 * n) (begin_all m.seed m.graph first n x) before (first + n) (omega (arith, l)) (omega (arith, l))))

  -- and after a group steps need be left only for the sessions that have not begun
  pub group_keeps : (first n : ℕ) (x y : Going) → HasBudget 0 first (at m x) → first + n ≤ m.sessions → IsGroup m.seed m.graph first n x y → HasBudget 0 (first + n) (at m y)
  group_keeps first n x y b l a =
      let begun = begin_all_keeps first n 0 x b l in
      let over = turns_keep m (first + n) a.count_of_turns (0 + 80 * n) (begin_all m.seed m.graph first n x) begun in
      none_pending (0 + 80 * n) (first + n) (at m y) (subst (λ (z : Going). HasBudget (0 + 80 * n) (first + n) (at m z)) (sym a.is) over) a.over
