-- How many views and open views there may be.
use Rattle.std.specs.Prelude.{◌≡◌, ◌≢◌, ℕ, ◌≤◌, List, [], ◌∷◌, ◌++◌, length, All, AllPairs, Contains, ⊤}
use Rattle.sg_model.specs.Limits.{most_open_views, most_views}
use Rattle.sg_protocol.specs.Graph.{Graph}
use Rattle.sg_protocol.specs.Evidence.{View, IsView, IsOpenView}
use Rattle.sg_vis.specs.Table.{ShownView, views_of}
use Rattle.sg_views.specs.declared.open_view.OpenView.{OpenView}
use Rattle.sg_views.specs.declared.fault.ViewFault.{ViewFault}
use Rattle.sg_views.specs.declared.fault.ViewFault.TheVariants.{TooManyOpen, TooManyViews, OutOfMemory}

-- a list of at most 65,536 has each open view of r
pub record FewOpen (g : Graph) (r : ℕ) : Type 0 where
  pub list : List OpenView
  pub few : length list ≤ most_open_views
  pub each : (o : OpenView) → IsOpenView g r o.node o.view → Contains list o

-- the list has 65,537 different open views of r
pub record ManyOpen (g : Graph) (r : ℕ) (list : List OpenView) : Type 0 where
  pub many : length list ≡ 65537
  pub different : AllPairs (λ a b. a ≢ b) list
  pub each : All (λ o. IsOpenView g r o.node o.view) list

-- the list has 4,097 different views of r
pub record ManyViews (g : Graph) (r : ℕ) (list : List View) : Type 0 where
  pub many : length list ≡ 4097
  pub different : AllPairs (λ a b. a ≢ b) list
  pub each : All (IsView g r) list

-- the fault shows that there are too many open views, or, if these are few, too many views
abbrev pub Explains : Graph → ℕ → ViewFault → Type 0
Explains g r (TooManyOpen list) = ManyOpen g r list
Explains g r (TooManyViews list) = FewOpen g r × ManyViews g r list
Explains g r OutOfMemory = ⊤

-- of too many views, the list is as above; of other faults nothing is reported but that memory ran out
abbrev pub MatchViews : ViewFault → (List View → Type 0) → Type 0
MatchViews (TooManyOpen list) P = ⊥
MatchViews (TooManyViews list) P = P list
MatchViews OutOfMemory P = ⊤

-- the table is full, and these are its views and one more; or memory ran out
abbrev pub IsFull : List ShownView → View → ViewFault → Type 0
IsFull table v fault = MatchViews fault (λ list. (length table ≡ most_views) × (list ≡ views_of table ++ v ∷ []))
