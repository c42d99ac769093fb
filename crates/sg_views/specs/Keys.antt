-- How the states of a search are kept: each under its node and view as a list of numbers.
use Rattle.std.specs.Prelude.{◌≡◌, ℕ, List, [], ◌∷◌, map, length, flat_map, All, Vec}
use Rattle.std.specs.declared.alloc.Global.{Global}
use Rattle.sg_base.specs.Sets.{members}
use Rattle.sg_protocol.specs.Evidence.{Seen, View, mask}
use Rattle.sg_vis.specs.Order.{origin_number}
use Rattle.sg_views.specs.Search.{open_states}
use Rattle.sg_views.specs.declared.states.State.{State}
use Rattle.sg_views.specs.declared.states.States.TheInside.{Inside}

-- a node and a view as one list of numbers
abbrev pub key_of : ℕ → View → List ℕ
key_of n v = n ∷ origin_number v.origin ∷ flat_map (λ s. s.label ∷ mask s.delta ∷ []) v.items

-- the deltas are sets of variables, and so known by their masks
abbrev pub AreSets : List Seen → Type 0
AreSets items = All (λ s. members 32 (mask s.delta) ≡ s.delta) items

-- the states that are kept
abbrev pub states_of : Inside → List State
states_of p = map (λ e. e.1) p.found.entries

-- each place stands under its key, and its deltas are sets
abbrev pub AreKeyed : List (Vec ℕ Global × State) → Type 0
AreKeyed entries = All (λ (e : Vec ℕ Global × State). (e.0.items ≡ key_of e.1.node e.1.view) × AreSets e.1.view.items) entries

-- the states are keyed, and the open views among them are counted
pub record HoldsStates (p : Inside) : Type 0 where
  pub keyed : AreKeyed p.found.entries
  pub counted : p.open ≡ length (open_states (states_of p))
