-- How an event is added to the traces.
use Rattle.std.specs.Prelude.{◌≡◌, ℕ, ◌⊎◌, ◌&&◌, false, nat_lt, List, [], ◌∷◌, ◌++◌, map, length, Some, slice_get}
use Rattle.indexmap.specs.IndexMap.{set_value_at}
use Rattle.sg_certify.specs.Traces.{Trace, Traces}
use Rattle.sg_model.specs.Lists.{has_text, is_in}
use Rattle.sg_model.specs.Names.{Name}
use Rattle.sg_protocol.specs.Calls.{Event, sid_of}
use Rattle.sg_protocol.specs.Frame.{Cast}
use Rattle.sg_protocol.specs.Graph.{Graph}
use Rattle.sg_protocol.specs.Session.{principal}

-- the set has each role of the cast whose principal is one of these, and no other
abbrev pub AreHonestIn : List Name → Cast → List ℕ → Type 0
AreHonestIn names cast set = (r : ℕ) → is_in r set ≡ (nat_lt r (length cast.names) && has_text (principal cast r) names)

-- the trace with one more event, beside a walk
abbrev pub with_shown : Trace → Event → List ℕ → Trace
with_shown c e walk = record c { shown = c.shown ++ (e, walk) ∷ [] }

-- a trace of this graph, with these honest roles, of one event beside a walk
abbrev pub begun : Graph → List ℕ → Event → List ℕ → Trace
begun g honest e walk = record { graph = g; honest = honest; shown = (e, walk) ∷ [] }

-- the trace at the index has the event more, and the others are as before
pub record GoesAt (e : Event) (walk : List ℕ) (before now : Traces) (index : ℕ) : Type 0 where
  pub trace : Trace
  pub is_old : slice_get before index ≡ Some (sid_of e, trace)
  pub is_new : now ≡ set_value_at before index (with_shown trace e walk)

-- its session's trace has the event more; or, if the session has none, a new one of this graph and these honest roles, after the others
abbrev pub IsAdded : Graph → List ℕ → Event → List ℕ → Traces → Traces → Type 0
IsAdded g honest e walk before now =
    ((index : ℕ) × GoesAt e walk before now index)
    ⊎ ((has_text (sid_of e) (map (λ (x : List ℕ × Trace). x.0) before) ≡ false) × (now ≡ before ++ (sid_of e, begun g honest e walk) ∷ []))
