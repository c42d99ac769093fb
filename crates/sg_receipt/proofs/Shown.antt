-- The walk beside a receipt's view.
use Rattle.std.specs.Prelude.{◌≡◌, ℕ, zero, suc, ◌<◌, List, [], ◌∷◌, length, refl, option_map, Some, slice_get, All}
use Rattle.std.proofs.Common.{sym, ◌∙◌, ap, subst, arith}
use Rattle.std.proofs.lemmas.List.{length-map}
use Rattle.std.proofs.lemmas.Option.{slice_get_within, slice_get-map, get_or_from_slice_get}
use Rattle.sg_model.specs.Shape.{Walk, target}
use Rattle.sg_protocol.specs.Graph.{Graph, shape}
use Rattle.sg_vis.specs.Table.{ShownView, Shows, views_of, walks_of}
use Rattle.sg_receipt.specs.Receipts.{Receipt, IsWalkOf}

-- each label of a walk has an edge
edges_of_walk : (g : Graph) (m : ℕ) (es : List ℕ) → Walk (shape g) m es → All (λ e. e < length g.edges) es
edges_of_walk g m [] w k d l = absurd (omega arith)
edges_of_walk g m (e ∷ es) w zero d l = let h = w.0 in (rw length-map at h)
edges_of_walk g m (e ∷ es) w (suc k) d l = edges_of_walk g (target (shape g) e) es w.2 k d (omega arith)

-- the row in which a walk stands
row_at : (table : List ShownView) (k : ℕ) (walk : List ℕ) → slice_get (walks_of table) k ≡ Some walk → (s : ShownView) × (slice_get table k ≡ Some s) × (s.walk ≡ walk)
row_at [] k walk e = absurd (cc)
row_at (s ∷ ss) zero walk e = (s, refl, cc)
row_at (s ∷ ss) (suc k) walk e = row_at ss k walk e

module _ (r : Receipt) (table : List ShownView) (views : views_of table ≡ r.program.views) where
  -- the table has its view
  pub in_table : r.view < length r.program.views → r.view < length table
  in_table l = let h : r.view < length (views_of table) = subst (λ vs. r.view < length vs) (sym views) l in (rw length-map at h)

  -- the walk beside it shows it
  pub walk_of : (walk : List ℕ) → All (λ s. Shows r.program.graph r.program.role s.walk s.view) table → slice_get (walks_of table) r.view ≡ Some walk → IsWalkOf r walk
  walk_of walk shown e =
      let row = row_at table r.view walk e in
      let s : Shows r.program.graph r.program.role (row.0).walk (row.0).view =
      subst (λ (x : ShownView). Shows r.program.graph r.program.role x.walk x.view) (get_or_from_slice_get table r.view row.0 row.0 row.1) (shown r.view row.0 (slice_get_within table r.view row.0 row.1)) in
      record {
        view = (row.0).view;
        is_view = ap (λ vs. slice_get vs r.view) (sym views) ∙ slice_get-map (λ (s : ShownView). s.view) table r.view ∙ ap (option_map (λ (s : ShownView). s.view)) row.1;
        example = (record { walk = (row.0).walk; follows = s.follows; moves = s.moves; ends = s.ends; seen = s.seen }, row.2);
        edges = subst (λ es. All (λ e. e < length r.program.graph.edges) es) row.2 (edges_of_walk r.program.graph 0 (row.0).walk s.follows);
      }
