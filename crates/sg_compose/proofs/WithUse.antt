-- A graph with what a use adds is a graph.
use Rattle.std.proofs.Common.{◌≡◌, ℕ, ◌+◌, ◌-◌, ◌<◌, ◌≤◌, nat_lt, Bool, true, false, ◌||◌, inl, inr, List, ◌++◌, map, length, get_or, Some, refl, sym, ap, ◌∙◌, subst, arith, length-append}
use Rattle.std.specs.List.{list_any}
use Rattle.std.proofs.lemmas.Bool.{or_parts}
use Rattle.std.proofs.lemmas.Bool.Decides.{nat_tests}
use Rattle.std.proofs.lemmas.List.{map-append}
use Rattle.std.proofs.lemmas.List.Elements.{All-append, All-map}
use Rattle.sg_compose.specs.Expansion.{clashes, end_of, has_long, inner_name, inside, is_inside, is_long, new_edge, new_edges, new_node, new_nodes, new_variable, new_variables, player, players, replaced, shifted, too_large, with_use}
use Rattle.sg_compose.proofs.Ends.{ends-at}
use Rattle.sg_compose.proofs.Joining.{node-count, edge-count, replaced-below}
use Rattle.sg_compose.proofs.Renaming.{set_of-numbers, set_of-some}
use Rattle.sg_graph.specs.Parts.{edge_names, node_names, variable_names}
use Rattle.sg_graph.proofs.FirstIndex.{list_any-map}
use Rattle.sg_graph.proofs.Sets.{number_below, numbers_within}
use Rattle.sg_model.specs.Lists.{has_text}
use Rattle.sg_model.specs.Shape.{role_at}
use Rattle.sg_model.proofs.Small.{length_map}
use Rattle.sg_parse.specs.Parts.{Use}
use Rattle.sg_protocol.specs.Graph.{AreNames, AreNumbers, Edge, Graph, IsGraph, Name, Node, Variable, is_name, node_name, shape}
use Rattle.sg_compose.proofs.Renamed.{named-so, names-added, some-nodes}

-- ---- small facts

three-false : (a b c : Bool) → (a || b || c) ≡ false → (a ≡ false) × (b ≡ false) × (c ≡ false)
three-false a b c h = (let p = or_parts (a || b) c h in let q = or_parts a b p.0 in (q.0, q.1, p.1))

at-most : (a b : ℕ) → nat_lt a b ≡ false → b ≤ a
at-most a b h = grind (arith, nat_tests)

-- ---- one use

-- a use of a graph that ends at m can be expanded: no new name is too long or there, and there is room
pub record Fits (g inner : Graph) (u : Use) (m : ℕ) : Type 0 where
  pub end : end_of inner ≡ Some m
  pub short : has_long inner u m ≡ false
  pub new : clashes g inner u m ≡ false
  pub room : too_large g inner m ≡ false

module _ (g inner : Graph) (u : Use) (m : ℕ) (is : IsGraph g) (inner_is : IsGraph inner) (named : is_name u.name ≡ true) (from : u.from < length g.nodes) (to : u.to < length g.nodes)
    (player-there : (r : ℕ) → player u r < length g.roles) (f : Fits g inner u m) where
  short : (list_any (λ (v : Variable). is_long (inner_name u v.name)) inner.variables ≡ false) × (list_any (λ x. is_long (inner_name u (node_name inner x))) (inside inner m) ≡ false)
      × (list_any (λ (e : Edge). is_long (inner_name u e.name)) inner.edges ≡ false)
  short = three-false _ _ _ f.short

  new : (list_any (λ (v : Variable). has_text (inner_name u v.name) (variable_names g)) inner.variables ≡ false) × (list_any (λ x. has_text (inner_name u (node_name inner x)) (node_names g)) (inside inner m) ≡ false)
      × (list_any (λ (e : Edge). has_text (inner_name u e.name) (edge_names g)) inner.edges ≡ false)
  new = three-false _ _ _ f.new

  room : (nat_lt 32 (length g.variables + length inner.variables) ≡ false) × (nat_lt 256 (length g.nodes + length (inside inner m)) ≡ false) × (nat_lt 512 (length g.edges + length inner.edges) ≡ false)
  room = three-false _ _ _ f.room

  -- how many variables, nodes and edges there are
  variables-count : length (with_use g inner u m).variables ≡ length g.variables + length inner.variables
  variables-count = length-append g.variables (new_variables inner u) ∙ ap (λ n. length g.variables + n) (length_map (new_variable u) inner.variables)

  nodes-inside : length (with_use g inner u m).nodes ≡ length g.nodes + length (inside inner m)
  nodes-inside = length-append g.nodes (new_nodes inner u m) ∙ ap (λ n. length g.nodes + n) (length_map (new_node inner u) (inside inner m))

  nodes-count : length (with_use g inner u m).nodes ≡ length g.nodes + (length inner.nodes - 2)
  nodes-count = (let e = ends-at inner m f.end in node-count g inner u m e.late e.there)

  -- names
  variables-named : AreNames (variable_names (with_use g inner u m))
  variables-named =
      let same : variable_names (with_use g inner u m) ≡ variable_names g ++ map (inner_name u) (variable_names inner) = map-append (λ (v : Variable). v.name) g.variables (new_variables inner u)
      ∙ ap (λ l. variable_names g ++ l) (named-so (new_variable u) (λ (v : Variable). v.name) (λ (v : Variable). v.name) (inner_name u) (λ v. refl) inner.variables) in
      subst AreNames (sym same)
      (names-added u named (variable_names g) (variable_names inner) is.variable_names inner_is.variable_names
      (list_any-map (λ n. is_long (inner_name u n)) (λ (v : Variable). v.name) inner.variables ∙ short.0)
      (list_any-map (λ n. has_text (inner_name u n) (variable_names g)) (λ (v : Variable). v.name) inner.variables ∙ new.0))

  nodes-named : AreNames (node_names (with_use g inner u m))
  nodes-named =
      let names : List Name = map (node_name inner) (inside inner m) in
      let same : node_names (with_use g inner u m) ≡ node_names g ++ map (inner_name u) names = map-append (λ (n : Node). n.name) g.nodes (new_nodes inner u m)
      ∙ ap (λ l. node_names g ++ l) (named-so (new_node inner u) (node_name inner) (λ (n : Node). n.name) (inner_name u) (λ x. refl) (inside inner m)) in
      subst AreNames (sym same)
      (names-added u named (node_names g) names is.node_names (some-nodes inner (is_inside m) inner_is.node_names)
      (list_any-map (λ n. is_long (inner_name u n)) (node_name inner) (inside inner m) ∙ short.1)
      (list_any-map (λ n. has_text (inner_name u n) (node_names g)) (node_name inner) (inside inner m) ∙ new.1))

  edges-named : AreNames (edge_names (with_use g inner u m))
  edges-named =
      let same : edge_names (with_use g inner u m) ≡ edge_names g ++ map (inner_name u) (edge_names inner) = map-append (λ (e : Edge). e.name) g.edges (new_edges g inner u m)
      ∙ ap (λ l. edge_names g ++ l) (named-so (new_edge (length g.variables) (length g.nodes) u m) (λ (e : Edge). e.name) (λ (e : Edge). e.name) (inner_name u) (λ e. refl) inner.edges) in
      subst AreNames (sym same)
      (names-added u named (edge_names g) (edge_names inner) is.edge_names inner_is.edge_names
      (list_any-map (λ n. is_long (inner_name u n)) (λ (e : Edge). e.name) inner.edges ∙ short.2)
      (list_any-map (λ n. has_text (inner_name u n) (edge_names g)) (λ (e : Edge). e.name) inner.edges ∙ new.2))

  -- numbers
  writers-there : (rs : List ℕ) → 0 < length rs → AreNumbers (length g.roles) (players u rs) × (0 < length (players u rs))
  writers-there rs few = (
    set_of-numbers 16 (length g.roles) (player u) rs (λ x i. player-there x),
    set_of-some 16 (player u) rs few (λ x. (let l = player-there x in omega (arith, l, is.sizes.0))),
  )

  node-there : (x : ℕ) → x < length inner.nodes → replaced (length g.nodes) u.from u.to m x < length (with_use g inner u m).nodes
  node-there x l = (let e = ends-at inner m f.end in elim (replaced-below (length g.nodes) u.from u.to m x (length inner.nodes) e.late e.there l from to) [
    | inl a ↦ omega (arith, a, nodes-count)
    | inr b ↦ omega (arith, b, nodes-count)
  ])

  shifted-there : (xs : List ℕ) → AreNumbers (length inner.variables) xs → AreNumbers (length (with_use g inner u m).variables) (shifted (length g.variables) xs)
  shifted-there xs are = set_of-numbers 32 (length (with_use g inner u m).variables) (λ x. length g.variables + x) xs (λ x i. (let l = number_below (length inner.variables) x xs are i in omega (arith, l, variables-count)))

  -- the graph with the use
  pub with_use-is : IsGraph (with_use g inner u m)
  with_use-is =
      let P : Variable → Type 0 = λ v. AreNumbers (length g.roles) v.writers × (0 < length v.writers) in
      let Q : Node → Type 0 = λ n. n.role < length g.roles in
      let R : Edge → Type 0 = λ e. (e.source < length (with_use g inner u m).nodes) × (e.target < length (with_use g inner u m).nodes) in
      let S : Edge → Type 0 = λ e. AreNumbers (length (with_use g inner u m).variables) e.writes × AreNumbers (length (with_use g inner u m).variables) e.reads in
      let wider : length g.variables ≤ length (with_use g inner u m).variables = omega (arith, variables-count) in
      record {
        named = is.named;
        role_names = is.role_names;
        variable_names = variables-named;
        node_names = nodes-named;
        edge_names = edges-named;
        writers = All-append P g.variables (new_variables inner u) is.writers (All-map P (new_variable u) inner.variables (λ j d l. (let w = inner_is.writers j d l in writers-there _ w.1)));
        roles = All-append Q g.nodes (new_nodes inner u m) is.roles (All-map Q (new_node inner u) (inside inner m) (λ j d l. player-there (role_at (shape inner) (get_or (inside inner m) j d))));
        ends = All-append R g.edges (new_edges g inner u m) (λ j d l. (let e = is.ends j d l in (omega (arith, e.0, nodes-count), omega (arith, e.1, nodes-count))))
            (All-map R (new_edge (length g.variables) (length g.nodes) u m) inner.edges (λ j d l. (let e = inner_is.ends j d l in (node-there _ e.0, node-there _ e.1))));
        variables = All-append S g.edges (new_edges g inner u m) (λ j d l. (let e = is.variables j d l in (numbers_within _ _ (get_or g.edges j d).writes wider e.0, numbers_within _ _ (get_or g.edges j d).reads wider e.1)))
            (All-map S (new_edge (length g.variables) (length g.nodes) u m) inner.edges (λ j d l. (let e = inner_is.variables j d l in (shifted-there _ e.0, shifted-there _ e.1))));
        sizes = (
          is.sizes.0,
          (let r = at-most 32 (length g.variables + length inner.variables) room.0 in omega (arith, r, variables-count)),
          (let r = at-most 256 (length g.nodes + length (inside inner m)) room.1 in omega (arith, r, nodes-inside)),
          (let r = at-most 512 (length g.edges + length inner.edges) room.2 in omega (arith, r, edge-count g inner u m)),
        );
      }
