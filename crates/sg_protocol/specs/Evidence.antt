-- What a role is shown of a walk, and the table of all that it can be shown.
use Rattle.std.specs.Prelude.{◌≡◌, ◌≢◌, ℕ, ◌^◌, ◌==◌, Bool, true, false, ◌&&◌, nat_lt, if◌then◌else◌, List, [], ◌∷◌, map, filter, length, sum_by, Option, Some, None, bytes_eq, Contains, IsTrue, ◌↔◌}
use Rattle.std.specs.List.{list_any}
use Rattle.sg_model.specs.Last.{Entry, last, up_to_last, evidence_for}
use Rattle.sg_model.specs.Lists.{is_in, below, keys_of}
use Rattle.sg_model.specs.Shape.{Walk, end_of, role_at, sender}
use Rattle.sg_protocol.specs.Graph.{Graph, shape, writes}

-- the sum of 2 ^ x over the numbers: if all differ, the number that has just these bits
abbrev pub mask : List ℕ → ℕ
mask xs = sum_by (λ x. 2 ^ x) xs

-- the numbers below n that stand in the list, in rising order
abbrev pub rising : ℕ → List ℕ → List ℕ
rising n xs = filter (λ x. is_in x xs) (below n)

-- a step that is seen, and the variables written since the one before it
pub record Seen : Type 0 where
  pub label : ℕ
  pub delta : List ℕ

-- the role's own last label, or None at the start, and what is seen since
pub record View : Type 0 where
  pub origin : Option ℕ
  pub items : List Seen

-- a walk as entries: each label, with the variables that it writes
abbrev pub walked : Graph → List ℕ → List (Entry ℕ (Unit {0}))
walked g es = map (λ e. record { step = e; writes = map (λ x. (x, tt)) (writes g e) }) es

-- what role r sees of a walk
abbrev pub view_of : Graph → ℕ → List ℕ → View
view_of g r es = record {
  origin = last (up_to_last (sender (shape g)) r es);
  items = map (λ i. record { label = i.step; delta = rising (length g.variables) (keys_of i.writes) }) (evidence_for (sender (shape g)) r (walked g es));
}

-- some walk from the start that ends at a node of r shows this to r
pub record IsView (g : Graph) (r : ℕ) (v : View) : Type 0 where
  pub walk : List ℕ
  pub follows : Walk (shape g) 0 walk
  pub moves : walk ≢ []
  pub ends : role_at (shape g) (end_of (shape g) 0 walk) ≡ r
  pub seen : view_of g r walk ≡ v

-- some walk from the start that ends at node n, of another role, shows this to r
pub record IsOpenView (g : Graph) (r n : ℕ) (v : View) : Type 0 where
  pub walk : List ℕ
  pub follows : Walk (shape g) 0 walk
  pub moves : walk ≢ []
  pub ends : end_of (shape g) 0 walk ≡ n
  pub others : role_at (shape g) n ≢ r
  pub seen : view_of g r walk ≡ v

-- both are the start, or the same label
abbrev pub same_origin : Option ℕ → Option ℕ → Bool
same_origin None None = true
same_origin None (Some b) = false
same_origin (Some a) None = false
same_origin (Some a) (Some b) = a == b

-- both lists have the same labels and variables
abbrev pub same_items : List Seen → List Seen → Bool
same_items [] [] = true
same_items [] (y ∷ ys) = false
same_items (x ∷ xs) [] = false
same_items (x ∷ xs) (y ∷ ys) = (x.label == y.label) && bytes_eq x.delta y.delta && same_items xs ys

-- the views are the same
abbrev pub same_view : View → View → Bool
same_view a b = same_origin a.origin b.origin && same_items a.items b.items

-- the start comes before each label, and a lesser label before a greater
abbrev pub origin_before : Option ℕ → Option ℕ → Bool
origin_before o None = false
origin_before None (Some b) = true
origin_before (Some a) (Some b) = nat_lt a b

-- by the first pair of label and set that differs. The beginning of a list comes before it
abbrev pub items_before : List Seen → List Seen → Bool
items_before xs [] = false
items_before [] (y ∷ ys) = true
items_before (x ∷ xs) (y ∷ ys) =
    if x.label == y.label
    then (if mask x.delta == mask y.delta then items_before xs ys else nat_lt (mask x.delta) (mask y.delta))
    else nat_lt x.label y.label

-- a stands before b in a table
abbrev pub view_before : View → View → Bool
view_before a b = if same_origin a.origin b.origin then items_before a.items b.items else origin_before a.origin b.origin

-- each view stands before the next, the first after v
abbrev pub are_ordered_after : View → List View → Bool
are_ordered_after v [] = true
are_ordered_after v (w ∷ ws) = view_before v w && are_ordered_after w ws

-- each view stands before the next
abbrev pub are_ordered : List View → Bool
are_ordered [] = true
are_ordered (v ∷ vs) = are_ordered_after v vs

-- the table has each view of r once, in order, and nothing else
pub record IsViewTable (g : Graph) (r : ℕ) (table : List View) : Type 0 where
  pub ordered : IsTrue (are_ordered table)
  pub each : (v : View) → Contains table v ↔ IsView g r v

-- the view stands in the table
abbrev pub has_view : List View → View → Bool
has_view table v = list_any (same_view v) table
