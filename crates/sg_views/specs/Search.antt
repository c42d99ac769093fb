-- What a search along the edges finds.
use Rattle.std.specs.Prelude.{◌≡◌, ℕ, ◌<◌, ◌≤◌, ◌==◌, ◌||◌, Bool, true, false, nat_lt, if◌then◌else◌, List, [], ◌∷◌, ◌++◌, filter, length, get_or, None, is_some, All, AllPairs, Contains}
use Rattle.sg_model.specs.Limits.{most_open_views}
use Rattle.sg_model.specs.Shape.{Walk, end_of, role_at, source, target, receiver}
use Rattle.sg_protocol.specs.Graph.{Graph, IsGraph, shape}
use Rattle.sg_protocol.specs.Evidence.{View, view_of}
use Rattle.sg_vis.specs.Order.{HoldsTable}
use Rattle.sg_vis.specs.Table.{ShownView, Shows}
use Rattle.sg_views.specs.Steps.{next_view, HasLabels}
use Rattle.sg_views.specs.declared.states.State.{State}
use Rattle.sg_views.specs.declared.open_view.OpenView.{OpenView}

-- what is seen before the first step
abbrev pub nothing : View
nothing = record { origin = None; items = [] }

-- a step was taken
abbrev pub is_open : View → Bool
is_open v = is_some v.origin || nat_lt 0 (length v.items)

-- the open view of a state
abbrev pub open_view : State → OpenView
open_view p = record { node = p.node; view = p.view }

-- what is kept of a view at a node: nothing if r acts
abbrev pub settled : Graph → ℕ → ℕ → View → View
settled g r n v = if role_at (shape g) n == r then nothing else v

-- the state that edge e leads to from the state of number i
abbrev pub next_state : Graph → ℕ → State → ℕ → ℕ → State
next_state g r p i e = record {
  node = target (shape g) e;
  view = settled g r (target (shape g) e) (next_view g r p.view e);
  before = i;
  label = e;
}

-- one of the states has this node and this view
pub record HasState (states : List State) (n : ℕ) (v : View) : Type 0 where
  pub state : State
  pub there : Contains states state
  pub node : state.node ≡ n
  pub view : state.view ≡ v

-- the state is there already and nothing changes, or it is new and comes last
abbrev pub Puts : List State → List State → State → Bool → Type 0
Puts old new p true = (HasState old p.node p.view → ⊥) × (new ≡ old ++ p ∷ [])
Puts old new p false = HasState old p.node p.view × (new ≡ old)

-- it is one of these
abbrev pub Adds : List State → List State → State → Type 0
Adds old new p = (b : Bool) × Puts old new p b

-- the walk leads from the start to the state
pub record Arrives (g : Graph) (r : ℕ) (p : State) (walk : List ℕ) : Type 0 where
  pub follows : Walk (shape g) 0 walk
  pub ends : end_of (shape g) 0 walk ≡ p.node
  pub seen : settled g r p.node (view_of g r walk) ≡ p.view

-- the state is where an edge leads to from the state before it
pub record IsLinked (g : Graph) (r : ℕ) (p : State) (before : State) : Type 0 where
  pub label : p.label < length g.edges
  pub source : source (shape g) p.label ≡ before.node
  pub next : p ≡ next_state g r before p.before p.label

-- the state before each but the first stands before it
abbrev pub LeadBack : List State → Type 0
LeadBack states = (i : ℕ) (d : State) → 0 < i → i < length states → (get_or states i d).before < i

-- the first state is the start, and each other one is where an edge leads to from one before it; all are different
pub record Searched (g : Graph) (r : ℕ) (states : List State) : Type 0 where
  pub graph : IsGraph g
  pub some : 0 < length states
  pub first : (d : State) → ((get_or states 0 d).node ≡ 0) × ((get_or states 0 d).view ≡ nothing)
  pub back : LeadBack states
  pub linked : (i : ℕ) (d : State) → 0 < i → i < length states → IsLinked g r (get_or states i d) (get_or states (get_or states i d).before d)
  pub labels : All (λ p. HasLabels g p.view) states
  pub differ : AllPairs (λ a b. a.node ≡ b.node → a.view ≡ b.view → ⊥) states

-- the open views among the states
abbrev pub open_states : List State → List State
open_states states = filter (λ p. is_open p.view) states

-- where edge e leads to from the state is one of the states
abbrev pub LeadsInto : Graph → ℕ → List State → State → ℕ → Type 0
LeadsInto g r states p e = HasState states (target (shape g) e) (settled g r (target (shape g) e) (next_view g r p.view e))

-- each edge from the state leads to one of the states
abbrev pub Followed : Graph → ℕ → List State → State → Type 0
Followed g r states p = (e : ℕ) → e < length g.edges → source (shape g) e ≡ p.node → LeadsInto g r states p e

-- the states below a number are followed
abbrev pub FollowedBelow : Graph → ℕ → List State → ℕ → Type 0
FollowedBelow g r states n = (i : ℕ) (d : State) → i < n → i < length states → Followed g r states (get_or states i d)

-- all states are found and followed, and few of their views are open
pub record AllFound (g : Graph) (r : ℕ) (states : List State) : Type 0 where
  pub searched : Searched g r states
  pub followed : FollowedBelow g r states (length states)
  pub few : length (open_states states) ≤ most_open_views

-- the second list begins with the first
abbrev pub Extends : {A : Type 0} → List A → List A → Type 0
Extends {A} old new = (more : List A) × (new ≡ old ++ more)

-- the views have what r sees after each edge from the state to a node of r
abbrev pub ShowsNext : Graph → ℕ → List View → State → Type 0
ShowsNext g r vs p = (e : ℕ) → e < length g.edges → source (shape g) e ≡ p.node → receiver (shape g) e ≡ r → Contains vs (next_view g r p.view e)

-- they have it for the states below a number
abbrev pub ShownBelow : Graph → ℕ → List View → List State → ℕ → Type 0
ShownBelow g r vs states n = (i : ℕ) (d : State) → i < n → i < length states → ShowsNext g r vs (get_or states i d)

-- what stands in the first list stands in the second
abbrev pub Keeps : List View → List View → Type 0
Keeps vs ws = (v : View) → Contains vs v → Contains ws v

-- a table in its order, of which each walk shows its view
pub record AreRows (g : Graph) (r : ℕ) (table : List ShownView) : Type 0 where
  pub holds : HoldsTable table
  pub shows : All (λ s. Shows g r s.walk s.view) table
