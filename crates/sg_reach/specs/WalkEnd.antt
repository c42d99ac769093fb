-- What a search for the nodes that can be reached has found.
use Rattle.std.specs.Prelude.{◌≡◌, ℕ, zero, suc, ◌<◌, ◌≤◌, true, false, List, length, get_or, count_by, is_some, Option, Some, None, option_map, ◌⊎◌}
use Rattle.sg_model.specs.Lists.{is_in}
use Rattle.sg_model.specs.Shape.{Shape, source, target, sender}
use Rattle.sg_model.specs.Limits.{most_nodes}
use Rattle.sg_reach.specs.declared.search.WalkEnd.{WalkEnd}
use Rattle.sg_reach.specs.declared.search.Search.{Search}

-- how a node was found
abbrev pub found_at : List (Option WalkEnd) → ℕ → Option WalkEnd
found_at found n = get_or found n None

-- the node was found
abbrev pub IsFound : List (Option WalkEnd) → ℕ → Type 0
IsFound found n = is_some (found_at found n) ≡ true

-- the number of edges of the walk to the node
abbrev pub edges_to : List (Option WalkEnd) → ℕ → Option ℕ
edges_to found n = option_map (λ (f : WalkEnd). f.edges) (found_at found n)

-- a walk without edges stays at m; another one is a walk to the node that its last edge leaves, and then this edge
abbrev pub IsFoundBy : Shape → ℕ → List ℕ → List (Option WalkEnd) → ℕ → ℕ → ℕ → Type 0
IsFoundBy g m past found n zero last = n ≡ m
IsFoundBy g m past found n (suc k) last =
    (last < length g.edges) × (target g last ≡ n) × (is_in (sender g last) past ≡ false) × (edges_to found (source g last) ≡ Some k)

-- each node that was found is m, or an edge leads on to it from a node whose walk is shorter by one
abbrev pub AreWalks : Shape → ℕ → List ℕ → List (Option WalkEnd) → Type 0
AreWalks g m past found = (n : ℕ) (f : WalkEnd) → found_at found n ≡ Some f → IsFoundBy g m past found n f.edges f.last

-- if an edge leaves a node that was found and has none of the roles, its target was found too, except for edges of which `but` holds
abbrev pub IsClosedBut : Shape → List ℕ → List (Option WalkEnd) → (ℕ → Type 0) → Type 0
IsClosedBut g past found but = (e : ℕ) → e < length g.edges → IsFound found (source g e) → is_in (sender g e) past ≡ false → IsFound found (target g e) ⊎ but e

-- the node waits in the queue
abbrev pub Waits : Search → ℕ → Type 0
Waits s n = (i : ℕ) × (s.at ≤ i) × (i < s.count) × (get_or s.queue i 0 ≡ n)

-- each node that was found has its walk and stands in the queue once
pub record AreFound (g : Shape) (s : Search) : Type 0 where
  pub sizes : (length s.found ≡ most_nodes) × (length s.queue ≡ most_nodes)
  pub begun : IsFound s.found s.from
  pub walks : AreWalks g s.from s.past s.found
  pub short : (n : ℕ) (f : WalkEnd) → found_at s.found n ≡ Some f → f.edges < s.count
  pub queued : (i : ℕ) → i < s.count → IsFound s.found (get_or s.queue i 0)
  pub there : (i : ℕ) → i < s.count → get_or s.queue i 0 < length g.roles
  pub counted : s.count ≡ count_by is_some s.found

-- the nodes that were found before `at` were followed, except for the edges that are left
pub record IsSearch (g : Shape) (left : ℕ → Type 0) (s : Search) : Type 0 where
  pub found : AreFound g s
  pub passed : s.at ≤ s.count
  pub closed : IsClosedBut g s.past s.found (λ e. Waits s (source g e) ⊎ left e)
