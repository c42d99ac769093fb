-- The graph with one use more is the outer graph with one graph more put in.
use Rattle.std.proofs.Common.{◌≡◌, ◌≢◌, ℕ, ◌+◌, ◌-◌, ◌<◌, ◌≤◌, ◌==◌, nat_lt, true, false, ◌⊎◌, inl, inr, List, [], ◌∷◌, ◌++◌, map, length, get_or, Some, refl, sym, ap, subst, ◌∙◌, arith, if◌then◌else◌, length-append}
use Rattle.std.specs.Prelude.{All, Contains}
use Rattle.std.proofs.lemmas.Bool.Decides.{nat_tests}
use Rattle.std.proofs.lemmas.List.{get_or-map, get_or_append_left, get_or-append-add, length-map, map-append}
use Rattle.std.proofs.lemmas.List.Elements.{All-append, Contains-append_left, Contains-append_right}
use Rattle.std.proofs.lemmas.Bool.{cases_Bool}
use Rattle.sg_model.specs.Shape.{source, target}
use Rattle.sg_model.specs.Shape as Shapes
use Rattle.sg_protocol.specs.Graph.{Graph, Edge, shape}
use Rattle.sg_graph.specs.Parts.{edge_at}
use Rattle.sg_graph.proofs.Growth.{All-map, All-one}
use Rattle.sg_parse.specs.Parts.{Use}
use Rattle.sg_compose.specs.Expansion.{end_of, inside, replaced, new_edge, new_nodes, new_edges, with_use}
use Rattle.sg_compose.specs.Walks.{Inset}
use Rattle.sg_compose.proofs.Split.{arrow_of, or_zero, finish, spot, Sits, Joins}
use Rattle.sg_compose.proofs.Ends.{EndsAt, ends-at, source_at, target_at, inside_length}

-- the edges of the graph lead from nodes that are there to nodes that are there
abbrev pub Ranged : Graph → Type 0
Ranged g = All (λ e. (e.source < length g.nodes) × (e.target < length g.nodes)) g.edges

pub ranged-at : (g : Graph) → Ranged g → (e : ℕ) → e < length g.edges → (source (shape g) e < length g.nodes) × (target (shape g) e < length g.nodes)
ranged-at g r e l =
    let at = r e (record { name = []; source = 0; target = 0; writes = []; reads = [] }) l in
    (subst (λ n. n < length g.nodes) (sym (source_at g e l)) at.0, subst (λ n. n < length g.nodes) (sym (target_at g e l)) at.1)

-- ---- numbers of nodes

-- a node that is added stands behind those that are there
pub replaced-inside : (count from to m x : ℕ) → x ≢ 0 → x ≢ m → (replaced count from to m x ≡ count + (if nat_lt x m then x - 1 else x - 2)) × (count ≤ replaced count from to m x)
replaced-inside count from to m x start end =
    let a : (x == 0) ≡ false = grind (arith, nat_tests, start) in
    let b : (x == m) ≡ false = grind (arith, nat_tests, end) in
    rw (a, b) (refl, omega arith)

pub replaced-below : (count from to m x n : ℕ) → m ≢ 0 → m < n → x < n → from < count → to < count → replaced count from to m x < count + (n - 2)
    ⊎ (replaced count from to m x < count)
replaced-below count from to m x n late mn xn f t = elim (cases_Bool (x == 0)) [
  | inl y ↦ rw y (inr f)
  | inr a ↦ (elim (cases_Bool (x == m)) [
    | inl y ↦ rw (a, y) (inr t)
    | inr b ↦ (elim (cases_Bool (nat_lt x m)) [
      | inl c ↦ (let less : x < m = grind (arith, nat_tests, c) in let some : x ≢ 0 = grind (arith, nat_tests, a) in rw (a, b, c) (inl (omega (arith, less, some, mn))))
      | inr c ↦ (let more : m ≤ x = grind (arith, nat_tests, c) in let other : x ≢ m = grind (arith, nat_tests, b) in rw (a, b, c) (inl (omega (arith, more, other, late, xn))))
    ])
  ])
]

-- which node of what is put in stands so far behind those that were there
abbrev unrank : ℕ → ℕ → ℕ
unrank m r = if nat_lt (r + 1) m then r + 1 else r + 2

unrank-rank : (count from to m x : ℕ) → x ≢ 0 → x ≢ m → m ≢ 0 → unrank m (replaced count from to m x - count) ≡ x
unrank-rank count from to m x start end late =
    rw ((replaced-inside count from to m x start end).0) (elim (cases_Bool (nat_lt x m)) [
      | inl c ↦
          (let less : x < m = grind (arith, nat_tests, c) in
          let r : (count + (x - 1)) - count + 1 ≡ x = omega (arith, start) in
          let yes : nat_lt ((count + (x - 1)) - count + 1) m ≡ true = rw (r, c) refl in
          rw c (rw yes r))
      | inr c ↦
          (let more : m ≤ x = grind (arith, nat_tests, c) in
          let r : (count + (x - 2)) - count + 1 ≡ x - 1 = omega (arith, more, end, late) in
          let no : nat_lt ((count + (x - 2)) - count + 1) m ≡ false = (let high : m ≤ (count + (x - 2)) - count + 1 = omega (arith, more, end, late) in grind (arith, nat_tests, high)) in
          rw c (rw no (omega (arith, more, end, late))))
    ])

-- ---- edges of the graph with a use

module _ (h inner : Graph) (u : Use) (m : ℕ) where
  edges-as : (shape (with_use h inner u m)).edges ≡ map arrow_of h.edges ++ map arrow_of (new_edges h inner u m)
  edges-as = map-append arrow_of h.edges (new_edges h inner u m)

  pub old-edge : (e : ℕ) → e < length h.edges → Shapes.edge_at (shape (with_use h inner u m)) e ≡ Shapes.edge_at (shape h) e
  old-edge e l =
      let few : e < length (map arrow_of h.edges) = subst (λ n. e < n) (sym (length-map h.edges arrow_of)) l in
      ap (λ es. get_or es e (record { source = 0; target = 0; writes = []; reads = [] })) edges-as ∙ get_or_append_left (map arrow_of h.edges) (map arrow_of (new_edges h inner u m)) _ e few

  pub added-edge : (e : ℕ) → e < length inner.edges
      → (source (shape (with_use h inner u m)) (length h.edges + e) ≡ replaced (length h.nodes) u.from u.to m (source (shape inner) e))
      × (target (shape (with_use h inner u m)) (length h.edges + e) ≡ replaced (length h.nodes) u.from u.to m (target (shape inner) e))
  added-edge e l =
      let k : Graph = with_use h inner u m in
      let count : length (new_edges h inner u m) ≡ length inner.edges = length-map inner.edges _ in
      let few : length h.edges + e < length k.edges = omega (arith, length-append h.edges (new_edges h inner u m), count, l) in
      let at : edge_at k (length h.edges + e) ≡ edge_at (record h { edges = new_edges h inner u m }) e = get_or-append-add h.edges (new_edges h inner u m) e _ in
      let same = get_or-map (new_edge (length h.variables) (length h.nodes) u m) inner.edges e (record { name = []; source = 0; target = 0; writes = []; reads = [] }) (record { name = []; source = 0; target = 0; writes = []; reads = [] }) l in (
        source_at k (length h.edges + e) few ∙ ap (λ (e : Edge). e.source) (at ∙ same) ∙ ap (replaced (length h.nodes) u.from u.to m) (sym (source_at inner e l)),
        target_at k (length h.edges + e) few ∙ ap (λ (e : Edge). e.target) (at ∙ same) ∙ ap (replaced (length h.nodes) u.from u.to m) (sym (target_at inner e l)),
      )

  pub edge-count : length (with_use h inner u m).edges ≡ length h.edges + length inner.edges
  edge-count = length-append h.edges (new_edges h inner u m) ∙ ap (λ n. length h.edges + n) (length-map inner.edges _)

  pub node-count : m ≢ 0 → m < length inner.nodes → length (with_use h inner u m).nodes ≡ length h.nodes + (length inner.nodes - 2)
  node-count late l = length-append h.nodes (new_nodes inner u m) ∙ ap (λ n. length h.nodes + n) (length-map (inside inner m) _ ∙ inside_length inner m late l)

-- ---- one use more

-- a graph whose outer part is g, with these graphs put in
pub record Joined (h g : Graph) (is : List Inset) : Type 0 where
  pub owner : ℕ → Inset × ℕ
  pub joins : Joins (shape h) (shape g) (length g.nodes) is owner
  pub more : length g.nodes ≤ length h.nodes
  pub within : All (λ i. (x : ℕ) → x < length i.inner.nodes → spot i x < length h.nodes) is
  pub ranged : Ranged h

nothing : Inset × ℕ
nothing = (record { inner = record { name = []; roles = []; variables = []; nodes = []; edges = [] }; from = 0; to = 0; nodes = 0; edges = 0 }, 0)

-- the outer part alone
pub joined-none : (g : Graph) → Ranged g → Joined g g []
joined-none g r = record {
  owner = λ n. nothing;
  joins = record {
    sits = λ k d l. absurd (omega arith);
    own = λ e l.
        let few : e < length g.edges = subst (λ n. e < n) (length-map g.edges arrow_of) l in
        let at = ranged-at g r e few in
        (l, refl, refl, at.0, at.1);
    every = λ l lt. inl lt;
  };
  more = omega arith;
  within = λ k d l. absurd (omega arith);
  ranged = r;
}

module _ (h g inner : Graph) (u : Use) (m : ℕ) (is : List Inset) (j : Joined h g is) (end : end_of inner ≡ Some m) (from : u.from < length g.nodes) (to : u.to < length g.nodes) (inner_ranged : Ranged inner) where
  abbrev k : Graph
  k = with_use h inner u m

  abbrev i : Inset
  i = record { inner = inner; from = u.from; to = u.to; nodes = length h.nodes; edges = length h.edges }

  at-end : EndsAt inner m
  at-end = ends-at inner m end

  is-finish : finish i ≡ m
  is-finish = ap or_zero end

  abbrev owner : ℕ → Inset × ℕ
  owner n = if nat_lt n (length h.nodes) then (j.owner n) else (i, unrank m (n - length h.nodes))

  more-nodes : length k.nodes ≡ length h.nodes + (length inner.nodes - 2)
  more-nodes = node-count h inner u m at-end.late at-end.there

  few-edges : length (shape h).edges ≡ length h.edges
  few-edges = length-map h.edges arrow_of

  all-edges : length (shape k).edges ≡ length h.edges + length inner.edges
  all-edges = length-map k.edges arrow_of ∙ edge-count h inner u m

  -- a graph that was put in before sits as before
  sits-still : (q : Inset) → Sits (shape h) (length g.nodes) j.owner q × ((x : ℕ) → x < length q.inner.nodes → spot q x < length h.nodes) → Sits (shape k) (length g.nodes) owner q
  sits-still q (s, w) = record {
    ends = s.ends;
    late = s.late;
    from = s.from;
    to = s.to;
    not_entered = s.not_entered;
    not_left = s.not_left;
    ranged = s.ranged;
    edge = λ e l.
        let o = s.edge e l in
        let few : q.edges + e < length h.edges = subst (λ n. q.edges + e < n) few-edges o.0 in
        let same = old-edge h inner u m (q.edges + e) few in
        (omega (arith, few, all-edges), ap (λ (a : Shapes.Arrow). a.source) same ∙ o.1, ap (λ (a : Shapes.Arrow). a.target) same ∙ o.2);
    inside = λ x l a b.
        let o = s.inside x l a b in
        let low : nat_lt (spot q x) (length h.nodes) ≡ true = (let less = w x l in grind (arith, nat_tests, less)) in
        (o.0, rw low o.1);
  }

  -- the graph that is put in now
  sits-new : Sits (shape k) (length g.nodes) owner i
  sits-new = record {
    ends = end ∙ ap Some (sym is-finish);
    late = subst (λ n. n ≢ 0) (sym is-finish) at-end.late;
    from = from;
    to = to;
    not_entered = at-end.not_entered;
    not_left = λ e l. subst (λ n. source (shape inner) e ≢ n) (sym is-finish) (at-end.not_left e l);
    ranged = ranged-at inner inner_ranged;
    edge = λ e l.
        let o = added-edge h inner u m e l in
        (omega (arith, l, all-edges), o.0 ∙ ap (λ n. replaced (length h.nodes) u.from u.to n (source (shape inner) e)) (sym is-finish), o.1 ∙ ap (λ n. replaced (length h.nodes) u.from u.to n (target (shape inner) e)) (sym is-finish));
    inside = λ x l a b. subst (λ n. x ≢ n → (length g.nodes ≤ replaced (length h.nodes) u.from u.to n x) × (owner (replaced (length h.nodes) u.from u.to n x) ≡ (i, x))) (sym is-finish)
        (λ b.
        let s = replaced-inside (length h.nodes) u.from u.to m x a b in
        let high : nat_lt (replaced (length h.nodes) u.from u.to m x) (length h.nodes) ≡ false = (let big = s.1 in grind (arith, nat_tests, big)) in
        (omega (arith, j.more, s.1), rw high (ap (λ n. (i, n)) (unrank-rank (length h.nodes) u.from u.to m x a b at-end.late)))) b;
  }

  own-still : (e : ℕ) → e < length (shape g).edges → (e < length (shape k).edges) × (source (shape k) e ≡ source (shape g) e) × (target (shape k) e ≡ target (shape g) e)
      × (source (shape g) e < length g.nodes) × (target (shape g) e < length g.nodes)
  own-still e l =
      let o = j.joins.own e l in
      let few : e < length h.edges = subst (λ n. e < n) few-edges o.0 in
      let same = old-edge h inner u m e few in
      (omega (arith, few, all-edges), ap (λ (a : Shapes.Arrow). a.source) same ∙ o.1, ap (λ (a : Shapes.Arrow). a.target) same ∙ o.2, o.3, o.4)

  every-one : (l : ℕ) → l < length (shape k).edges → (l < length (shape g).edges) ⊎ ((q : Inset) × Contains (is ++ i ∷ []) q × (e : ℕ) × (e < length q.inner.edges) × (l ≡ q.edges + e))
  every-one l lt = pick (cases_Bool (nat_lt l (length h.edges)))
    where
      old : (l < length (shape g).edges) ⊎ ((q : Inset) × Contains is q × (e : ℕ) × (e < length q.inner.edges) × (l ≡ q.edges + e))
          → (l < length (shape g).edges) ⊎ ((q : Inset) × Contains (is ++ i ∷ []) q × (e : ℕ) × (e < length q.inner.edges) × (l ≡ q.edges + e))
      old (inl x) = inl x
      old (inr (q, c, e, le, same)) = inr (q, Contains-append_left is (i ∷ []) q c, e, le, same)

      pick : ((nat_lt l (length h.edges)) ≡ true) ⊎ ((nat_lt l (length h.edges)) ≡ false) → (l < length (shape g).edges) ⊎ ((q : Inset) × Contains (is ++ i ∷ []) q × (e : ℕ) × (e < length q.inner.edges) × (l ≡ q.edges + e))
      pick (inl y) = (let less : l < length h.edges = grind (arith, nat_tests, y) in old (j.joins.every l (subst (λ n. l < n) (sym few-edges) less)))
      pick (inr n) =
          let high : length h.edges ≤ l = grind (arith, nat_tests, n) in
          let here : Contains (i ∷ []) i = (0, omega arith, refl) in
          inr (i, Contains-append_right is (i ∷ []) i here, l - length h.edges, omega (arith, lt, all-edges, high), omega (arith, high))

  ranged-new : Ranged k
  ranged-new = All-append (λ (e : Edge). (e.source < length k.nodes) × (e.target < length k.nodes)) h.edges (new_edges h inner u m) (All-map (λ (e : Edge). (e.source < length h.nodes) × (e.target < length h.nodes)) (λ (e : Edge). (e.source < length k.nodes) × (e.target < length k.nodes)) h.edges (λ e p. (omega (arith, more-nodes, p.0), omega (arith, more-nodes, p.1))) j.ranged) new
    where
      low : (x : ℕ) → x < length inner.nodes → replaced (length h.nodes) u.from u.to m x < length k.nodes
      low x l = elim (replaced-below (length h.nodes) u.from u.to m x (length inner.nodes) at-end.late at-end.there l (omega (arith, from, j.more)) (omega (arith, to, j.more))) [
        | inl a ↦ omega (arith, a, more-nodes)
        | inr b ↦ omega (arith, b, more-nodes)
      ]

      new : All (λ (e : Edge). (e.source < length k.nodes) × (e.target < length k.nodes)) (new_edges h inner u m)
      new n d l =
          let few : n < length inner.edges = subst (λ c. n < c) (length-map inner.edges (new_edge (length h.variables) (length h.nodes) u m)) l in
          let same = get_or-map (new_edge (length h.variables) (length h.nodes) u m) inner.edges n (record { name = []; source = 0; target = 0; writes = []; reads = [] }) d few in
          let at = inner_ranged n (record { name = []; source = 0; target = 0; writes = []; reads = [] }) few in
          subst (λ (e : Edge). (e.source < length k.nodes) × (e.target < length k.nodes)) (sym same) (low _ at.0, low _ at.1)

  -- so with the use
  pub joined-more : Joined k g (is ++ i ∷ [])
  joined-more = record {
    owner = owner;
    joins = record {
      sits = All-append (Sits (shape k) (length g.nodes) owner) is (i ∷ []) (λ n d l. sits-still (get_or is n d) (j.joins.sits n d l, j.within n d l)) (All-one (Sits (shape k) (length g.nodes) owner) i sits-new);
      own = own-still;
      every = every-one;
    };
    more = omega (arith, more-nodes, j.more);
    within = All-append (λ (q : Inset). (x : ℕ) → x < length q.inner.nodes → spot q x < length k.nodes) is (i ∷ [])
        (λ n d l x lx. (let o = j.within n d l x lx in omega (arith, o, more-nodes)))
        (All-one (λ (q : Inset). (x : ℕ) → x < length q.inner.nodes → spot q x < length k.nodes) i (λ x lx. (elim (replaced-below (length h.nodes) u.from u.to (finish i) x (length inner.nodes) (subst (λ n. n ≢ 0) (sym is-finish) at-end.late) (subst (λ n. n < length inner.nodes) (sym is-finish) at-end.there) lx (omega (arith, from, j.more)) (omega (arith, to, j.more))) [
          | inl a ↦ omega (arith, a, more-nodes)
          | inr b ↦ omega (arith, b, more-nodes)
        ])));
    ranged = ranged-new;
  }
