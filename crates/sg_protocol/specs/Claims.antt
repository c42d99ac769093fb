-- What a claim that holds of a graph says of each session of a run: of its walk, and of its events.
use Rattle.std.specs.Prelude.{◌≡◌, ◌≢◌, ℕ, Bool, true, false, List, [], ◌∷◌, ◌++◌, Option, Some, None, IsTrue, ◌⊎◌, flat_map}
use Rattle.std.specs.List.{list_any}
use Rattle.sg_model.specs.Last.{Map, merge}
use Rattle.sg_model.specs.Lists.{is_in}
use Rattle.sg_model.specs.Shape.{sender, receiver}
use Rattle.sg_model.specs.Values.{Value}
use Rattle.sg_model.specs.Claims.{Claim, Needs, Bars, HoldsOn, HoldsOnWalks}
use Rattle.sg_protocol.specs.Graph.{Graph, shape, reads}
use Rattle.sg_protocol.specs.Texts.{Hash}
use Rattle.sg_protocol.specs.Keyring.{Program}
use Rattle.sg_protocol.specs.Calls.{Event, role_of, Started, Sent, Received}
use Rattle.sg_protocol.specs.Walk.{StoredStep, Act, Sends, labels, stored, shown, act_if, honest_acts, acts_of_event}
use Rattle.sg_protocol.specs.Schedule.{Schedule, honest_role}
use Rattle.sg_protocol.specs.Run.{run, events_of}
use Rattle.sg_protocol.specs.Premises.{Premises}
use Rattle.sg_protocol.specs.IsSchedule.{AreCompiled, IsSchedule}
use Rattle.sg_protocol.specs.Headline.{IsExplained}

-- ---- events and steps

-- the label of what was sent or received
abbrev pub label_of : Event → Option ℕ
label_of (Started sid r) = None
label_of (Sent sid r label time values) = Some label
label_of (Received sid r label time values joins) = Some label

-- the event sends
abbrev pub does_send : Event → Bool
does_send (Sent sid r label time values) = true
does_send other = false

-- the values of the variables after these steps, some of them hidden
abbrev pub store_after : Map (Option Value) → List StoredStep → Map (Option Value)
store_after store [] = store
store_after store (s ∷ ss) = store_after (merge store s.writes) ss

-- the event is the sending or the receipt of the step, which comes after these others: of its label, by its role, with the values that it writes or that are read
abbrev pub IsOfStep : Graph → List StoredStep → StoredStep → Event → Type 0
IsOfStep g before s (Started sid r) = ⊥
IsOfStep g before s (Sent sid r label time values) = (label ≡ s.label) × (r ≡ sender (shape g) s.label) × (shown values ≡ s.writes)
IsOfStep g before s (Received sid r label time values joins) = (label ≡ s.label) × (r ≡ receiver (shape g) s.label) × (shown values ≡ stored (merge (store_after [] before) s.writes) (reads g s.label))

-- what honest roles do before the sending of the step, which comes after these others, or before its receipt: all of the others, and before the receipt the sending
abbrev pub acts_before : Graph → (ℕ → Bool) → List StoredStep → StoredStep → Bool → List Act
acts_before g honest before s true = honest_acts g honest true [] before
acts_before g honest before s false = honest_acts g honest true [] before ++ act_if (honest (sender (shape g) s.label)) (Sends (sender (shape g) s.label) s.label s.writes)

-- the event stands at the step, which comes after these others: it is of the step, by an honest role, and the events before it are what honest roles do before
pub record IsAtStep (g : Graph) (honest : ℕ → Bool) (steps : List StoredStep) (s : StoredStep) (before : List Event) (e : Event) : Type 0 where
  pub is_of : IsOfStep g steps s e
  pub by_honest : IsTrue (honest (role_of e))
  pub earlier : flat_map acts_of_event before ≡ acts_before g honest steps s (does_send e)

-- An event stands at no more than one step of a walk
abbrev pub EventsOccurOnce : Type 0
EventsOccurOnce = (g : Graph) (honest : ℕ → Bool) (prefix : List StoredStep) (s : StoredStep) (rest prefix' : List StoredStep) (s' : StoredStep) (rest' : List StoredStep) (before : List Event) (e : Event) →
    prefix ++ s ∷ rest ≡ prefix' ++ s' ∷ rest' → IsAtStep g honest prefix s before e → IsAtStep g honest prefix' s' before e → prefix ≡ prefix'

-- among the events, which come after those of the past, is the sending of the step
pub record HasSent (g : Graph) (honest : ℕ → Bool) (steps : List StoredStep) (s : StoredStep) (past events : List Event) : Type 0 where
  pub prefix : List Event
  pub event : Event
  pub rest : List Event
  pub there : events ≡ prefix ++ event ∷ rest
  pub sends : IsTrue (does_send event)
  pub is_at : IsAtStep g honest steps s (past ++ prefix) event

-- among the events is the receipt of the step, and before it the sending, if its sender is honest
pub record HasReceived (g : Graph) (honest : ℕ → Bool) (steps : List StoredStep) (s : StoredStep) (past events : List Event) : Type 0 where
  pub prefix : List Event
  pub event : Event
  pub rest : List Event
  pub there : events ≡ prefix ++ event ∷ rest
  pub receives : does_send event ≡ false
  pub is_at : IsAtStep g honest steps s (past ++ prefix) event
  pub sent : IsTrue (honest (sender (shape g) s.label)) → HasSent g honest steps s past prefix

-- ---- what claims say of events

-- The event, after the events before it, stands at a step before which a step with a label of `earlier` was taken, and none of `since` between. What honest roles had to do with that step they did before the event
pub record HasCause (g : Graph) (honest : ℕ → Bool) (c : Claim) (steps : List StoredStep) (before : List Event) (e : Event) : Type 0 where
  pub prefix : List StoredStep
  pub cause : StoredStep
  pub between : List StoredStep
  pub step : StoredStep
  pub rest : List StoredStep
  pub there : steps ≡ prefix ++ cause ∷ between ++ step ∷ rest
  pub is_at : IsAtStep g honest (prefix ++ cause ∷ between) step before e
  pub is_earlier : IsTrue (is_in cause.label c.earlier)
  pub none_since : list_any (λ l. is_in l c.since) (labels between) ≡ false
  pub sent : IsTrue (honest (sender (shape g) cause.label)) → HasSent g honest prefix cause [] before
  pub received : IsTrue (honest (receiver (shape g) cause.label)) → HasReceived g honest prefix cause [] before

-- the first event sends a step and the second, with these events between, receives it
pub record AreOfOneStep (g : Graph) (honest : ℕ → Bool) (steps : List StoredStep) (before : List Event) (d : Event) (events : List Event) (e : Event) : Type 0 where
  pub prefix : List StoredStep
  pub step : StoredStep
  pub rest : List StoredStep
  pub there : steps ≡ prefix ++ step ∷ rest
  pub sends : IsTrue (does_send d)
  pub receives : does_send e ≡ false
  pub is_sent : IsAtStep g honest prefix step before d
  pub is_received : IsAtStep g honest prefix step (before ++ d ∷ events) e

-- the events stand at two steps, one after the other, and what honest roles had to do with the steps between they did between the events
pub record AreOfTwoSteps (g : Graph) (honest : ℕ → Bool) (steps : List StoredStep) (before : List Event) (d : Event) (events : List Event) (e : Event) : Type 0 where
  pub prefix : List StoredStep
  pub first : StoredStep
  pub between : List StoredStep
  pub second : StoredStep
  pub rest : List StoredStep
  pub there : steps ≡ prefix ++ first ∷ between ++ second ∷ rest
  pub is_first : IsAtStep g honest prefix first before d
  pub is_second : IsAtStep g honest (prefix ++ first ∷ between) second (before ++ d ∷ events) e
  pub sent : (up : List StoredStep) (s : StoredStep) (down : List StoredStep) → between ≡ up ++ s ∷ down → IsTrue (honest (sender (shape g) s.label)) → HasSent g honest (prefix ++ first ∷ up) s (before ++ d ∷ []) events
  pub received : (up : List StoredStep) (s : StoredStep) (down : List StoredStep) → between ≡ up ++ s ∷ down → IsTrue (honest (receiver (shape g) s.label)) → HasReceived g honest (prefix ++ first ∷ up) s (before ++ d ∷ []) events

-- one of the steps has a label of `earlier`, and none after it one of `since`
pub record HaveCause (c : Claim) (steps : List StoredStep) : Type 0 where
  pub prefix : List StoredStep
  pub cause : StoredStep
  pub rest : List StoredStep
  pub there : steps ≡ prefix ++ cause ∷ rest
  pub is_earlier : IsTrue (is_in cause.label c.earlier)
  pub none_since : list_any (λ l. is_in l c.since) (labels rest) ≡ false

-- one of the steps has a label of `since`
pub record HaveSince (c : Claim) (steps : List StoredStep) : Type 0 where
  pub prefix : List StoredStep
  pub step : StoredStep
  pub rest : List StoredStep
  pub there : steps ≡ prefix ++ step ∷ rest
  pub is_since : IsTrue (is_in step.label c.since)

-- A claim is kept on a session's walk and events
pub record IsClaimKept (g : Graph) (honest : ℕ → Bool) (events : List Event) (steps : List StoredStep) (c : Claim) : Type 0 where
  -- the walk does what the claim says
  pub on_walk : HoldsOn c (labels steps)
  -- if it needs, each event with a label of `later` has its cause
  pub caused : c.kind ≡ Needs → (before : List Event) (e : Event) (after : List Event) (l : ℕ) → events ≡ before ++ e ∷ after → label_of e ≡ Some l → IsTrue (is_in l c.later) → HasCause g honest c steps before e
  -- and since the step of an event with a label of `since` it has one of its own
  pub own : c.kind ≡ Needs → (before : List Event) (d : Event) (between : List Event) (e : Event) (after : List Event) (k l : ℕ) → events ≡ before ++ d ∷ between ++ e ∷ after → label_of d ≡ Some k → label_of e ≡ Some l → IsTrue (is_in k c.since) → IsTrue (is_in l c.later) →
      AreOfOneStep g honest steps before d between e ⊎ ((t : AreOfTwoSteps g honest steps before d between e) × HaveCause c (t.first ∷ t.between))
  -- if it bars, an event with a label of `earlier` comes before one of another step with a label of `later` only if a step with one of `since` was taken between
  pub barred : c.kind ≡ Bars → (before : List Event) (d : Event) (between : List Event) (e : Event) (after : List Event) (k l : ℕ) → events ≡ before ++ d ∷ between ++ e ∷ after → label_of d ≡ Some k → label_of e ≡ Some l → IsTrue (is_in k c.earlier) → IsTrue (is_in l c.later) →
      AreOfOneStep g honest steps before d between e ⊎ ((t : AreOfTwoSteps g honest steps before d between e) × HaveSince c t.between)
  -- and if it bars for good, with no label of `since`, none at all
  pub never : c.kind ≡ Bars → c.since ≡ [] → (before : List Event) (d : Event) (between : List Event) (e : Event) (after : List Event) (k l : ℕ) → events ≡ before ++ d ∷ between ++ e ∷ after → label_of d ≡ Some k → label_of e ≡ Some l → IsTrue (is_in k c.earlier) → IsTrue (is_in l c.later) → AreOfOneStep g honest steps before d between e

-- If the assumptions hold, some walk explains each session with an event, and whichever does, each claim that holds of its graph is kept on it and by its events
abbrev pub ClaimsAreKept : Hash → Type 0
ClaimsAreKept sha = (programs : List Program) (s : Schedule) → AreCompiled sha s.graphs programs → IsSchedule sha s →
    let w = run sha programs s in
    Premises sha s w → (sid : List ℕ) → events_of sid w.log ≢ [] →
    IsExplained sha s w sid × ((x : IsExplained sha s w sid) (c : Claim) → HoldsOnWalks (shape x.graph) c → IsClaimKept x.graph (honest_role s x.cast) (events_of sid w.log) x.steps c)
