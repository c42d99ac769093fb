-- The labels that leave a node, and with one part more.
use Rattle.std.proofs.Common.{◌≡◌, ◌≢◌, ℕ, zero, suc, ◌<◌, ◌≤◌, ◌==◌, Bool, true, false, List, [], ◌∷◌, ◌++◌, map, filter, length, get_or, set, refl, sym, ap, ◌∙◌, subst, inl, inr, arith, append-nil, add-zero, All, Contains, if◌then◌else◌}
use Rattle.std.proofs.lemmas.Bool.{cases_Bool, cases_eq, eqb-true, eq-eqb, ne_eqb}
use Rattle.std.proofs.lemmas.List.{length-map, length-set, get_or-map, get_or-set_same, get_or-set_other, map-append, same_lists, length-append, get_or_append_left, get_or-append-add}
use Rattle.std.proofs.lemmas.List.Elements.{filter-append, filter_passes, All-filter}
use Rattle.sg_model.proofs.Numbers.{below-suc, below-at, length-range_from, filter-range_from}
use Rattle.sg_model.specs.Lists.{below, range_from}
use Rattle.sg_model.specs.Shape.{Arrow, source}
use Rattle.sg_protocol.specs.Graph.{Graph, IsGraph, Node, Edge, shape}
use Rattle.sg_graph.specs.Adding.{with_node, with_edge}
use Rattle.sg_graph.specs.Edges.{leaving_from, leaving_of}
use Rattle.sg_graph.specs.Model.{graph_of}
use Rattle.sg_graph.specs.Invariant.{HoldsGraph}
use Rattle.sg_graph.specs.declared.graph.Graph.TheInside.{Inside}

-- each label there is that of an edge that leaves the node
pub leaving-each : (g : Graph) (n : ℕ) → All (λ e. (e < length g.edges) × (source (shape g) e ≡ n)) (leaving_from g n)
leaving-each g n = λ k d l.
    (let passes = filter_passes (λ e. source (shape g) e == n) (below (length g.edges)) k d l in
    (All-filter (λ e. source (shape g) e == n) (λ e. e < length g.edges) (below (length g.edges)) low k d l, eqb-true (source (shape g) (get_or (leaving_from g n) k d)) n passes))
  where
    low : All (λ e. e < length g.edges) (below (length g.edges))
    low = λ k d l.
        (let l' : k < length g.edges = subst (λ m. k < m) (length-range_from 0 (length g.edges)) l in
        subst (λ m. m < length g.edges) (sym (below-at (length g.edges) k d l')) l')

-- an element that passes stands among those that pass
pub Contains-filter : {A : Type 0} (p : A → Bool) (xs : List A) (x : A) → Contains xs x → p x ≡ true → Contains (filter p xs) x
Contains-filter p [] x h t = absurd (omega (arith, h.1))
Contains-filter {A = A} p (y ∷ ys) x h t = at h.0 h.1 h.2 (λ i. Contains-filter p ys x i t)
  where
    at : (k : ℕ) → k < length (y ∷ ys) → get_or (y ∷ ys) k x ≡ x → (Contains ys x → Contains (filter p ys) x) → Contains (filter p (y ∷ ys)) x
    at zero l e later = let passes : p y ≡ true = ap p e ∙ t in rw passes (0, omega arith, e)
    at (suc k) l e later =
        let rest = later (k, omega arith, e) in
        elim (cases_Bool (p y)) [
          | inl f ↦ rw f (suc rest.0, omega (arith, rest.1), rest.2)
          | inr f ↦ rw f rest
        ]

-- each edge that leaves the node is there
pub leaving-all : (g : Graph) (n e : ℕ) → e < length g.edges → source (shape g) e ≡ n → Contains (leaving_from g n) e
leaving-all g n e l s =
    let l' : e < length (below (length g.edges)) = subst (λ m. e < m) (sym (length-range_from 0 (length g.edges))) l in
    Contains-filter (λ f. source (shape g) f == n) (below (length g.edges)) e (e, l', below-at (length g.edges) e e l) (eq-eqb (source (shape g) e) n s)

-- no edge leaves a node that is not there
pub leaving-none : (g : Graph) (n : ℕ) → IsGraph g → length g.nodes ≤ n → leaving_from g n ≡ []
leaving-none g n h m = filter-range_from (λ e. source (shape g) e == n) (λ e. false) 0 (length g.edges) (λ e a b. ne_eqb (source (shape g) e) n (away e (omega (arith, b)))) ∙ none 0 (length g.edges)
  where
    none : (a k : ℕ) → filter (λ x. false) (range_from a k) ≡ []
    none a zero = refl
    none a (suc k) = none (suc a) k

    away : (e : ℕ) → e < length g.edges → source (shape g) e ≢ n
    away e l s =
        let plain : Edge = record { name = []; source = 0; target = 0; writes = []; reads = [] } in
        let ends : (get_or g.edges e plain).source < length g.nodes = (h.ends e plain l).0 in
        let same : source (shape g) e ≡ (get_or g.edges e plain).source =
        ap (λ (a : Arrow). a.source) (get_or-map (λ (e : Edge). record { source = e.source; target = e.target; writes = e.writes; reads = e.reads }) g.edges e plain (record { source = 0; target = 0; writes = []; reads = [] }) l) in
        omega arith

-- there are as many lists as nodes
pub length-leaving_of : (g : Graph) → length (leaving_of g) ≡ length g.nodes
length-leaving_of g = length-map (below (length g.nodes)) (leaving_from g) ∙ length-range_from 0 (length g.nodes)

-- the list at a node is that of the labels that leave it
pub leaving_at : (g : Graph) (n : ℕ) (d : List ℕ) → n < length g.nodes → get_or (leaving_of g) n d ≡ leaving_from g n
leaving_at g n d l =
    let there : n < length (below (length g.nodes)) = rw (length-range_from 0 (length g.nodes)) l in
    get_or-map (leaving_from g) (below (length g.nodes)) n 0 d there ∙ ap (leaving_from g) (below-at (length g.nodes) n 0 l)

-- with one node more: no label leaves it
pub leaving_of-node : (g : Graph) (n : Node) → IsGraph g → leaving_of (with_node g n) ≡ leaving_of g ++ [] ∷ []
leaving_of-node g n h =
    ap (λ k. map (leaving_from g) (below k)) (length-append g.nodes (n ∷ [])) ∙ ap (map (leaving_from g)) (below-suc (length g.nodes)) ∙ map-append (leaving_from g) (below (length g.nodes)) (length g.nodes ∷ [])
    ∙ ap (λ (l : List ℕ). leaving_of g ++ l ∷ []) (leaving-none g (length g.nodes) h (omega arith))

-- an edge without its name
abbrev arrow_of : Edge → Arrow
arrow_of e = record { source = e.source; target = e.target; writes = e.writes; reads = e.reads }

abbrev none : Arrow
none = record { source = 0; target = 0; writes = []; reads = [] }

module _ (g : Graph) (e : Edge) where
  -- an edge that is there keeps its source
  source-old : (i : ℕ) → i < length g.edges → source (shape (with_edge g e)) i ≡ source (shape g) i
  source-old i l =
      let there : i < length (map arrow_of g.edges) = rw length-map l in
      ap (λ (arrows : List Arrow). (get_or arrows i none).source) (map-append arrow_of g.edges (e ∷ []))
      ∙ ap (λ (a : Arrow). a.source) (get_or_append_left (map arrow_of g.edges) (arrow_of e ∷ []) none i there)

  -- the new one has its own
  source-new : source (shape (with_edge g e)) (length g.edges) ≡ e.source
  source-new =
      let size : length (map arrow_of g.edges) ≡ length g.edges = length-map g.edges arrow_of in
      ap (λ (arrows : List Arrow). (get_or arrows (length g.edges) none).source) (map-append arrow_of g.edges (e ∷ []))
      ∙ ap (λ k. (get_or (map arrow_of g.edges ++ arrow_of e ∷ []) k none).source) (sym size ∙ sym (add-zero (length (map arrow_of g.edges))))
      ∙ ap (λ (a : Arrow). a.source) (get_or-append-add (map arrow_of g.edges) (arrow_of e ∷ []) 0 none)

  -- one label more where it leaves
  leaving_from-edge : (n : ℕ) → leaving_from (with_edge g e) n ≡ (if e.source == n then leaving_from g n ++ length g.edges ∷ [] else leaving_from g n)
  leaving_from-edge n =
      let p : ℕ → Bool = λ i. source (shape (with_edge g e)) i == n in
      let q : ℕ → Bool = λ i. source (shape g) i == n in
      let L = length g.edges in
      let more : filter p (below (length (g.edges ++ e ∷ []))) ≡ filter p (below L) ++ filter p (L ∷ []) = ap (λ k. filter p (below k)) (length-append g.edges (e ∷ [])) ∙ ap (filter p) (below-suc L) ∙ filter-append p (below L) (L ∷ []) in
      let old : filter p (below L) ≡ filter q (below L) = filter-range_from p q 0 L (λ i a b. ap (λ s. s == n) (source-old i (omega (arith, b)))) in
      let here : p L ≡ (e.source == n) = ap (λ s. s == n) source-new in
      more ∙ rw old (elim (cases_Bool (e.source == n)) [
        | inl y ↦ (let z : p L ≡ true = here ∙ y in rw (y, z) refl)
        | inr y ↦ (let z : p L ≡ false = here ∙ y in rw (y, z) (append-nil (leaving_from g n)))
      ])

  -- with one edge more: its label stands last at its source
  pub leaving_of-edge : (now next : List (List ℕ)) → e.source < length g.nodes → now ≡ leaving_of g → next ≡ set now e.source (get_or now e.source [] ++ length g.edges ∷ [])
      → next ≡ leaving_of (with_edge g e)
  leaving_of-edge now next l is more =
      same_lists next (leaving_of (with_edge g e)) (long ∙ sym (length-leaving_of (with_edge g e))) (λ i d li. each i d (omega (arith, li, long)))
    where
      long : length next ≡ length g.nodes
      long = ap length more ∙ length-set now e.source _ ∙ ap length is ∙ length-leaving_of g

      there : e.source < length now
      there = omega (arith, ap length is, length-leaving_of g, l)

      old : (i : ℕ) (d : List ℕ) → i < length g.nodes → get_or now i d ≡ leaving_from g i
      old i d li = ap (λ (ls : List (List ℕ)). get_or ls i d) is ∙ leaving_at g i d li

      each : (i : ℕ) (d : List ℕ) → i < length g.nodes → get_or next i d ≡ get_or (leaving_of (with_edge g e)) i d
      each i d li =
          let right = leaving_at (with_edge g e) i d li ∙ leaving_from-edge i in
          elim (cases_eq i e.source) [
            | inl same ↦
                (let yes : (e.source == i) ≡ true = eq-eqb e.source i (sym same) in
                let left : get_or next i d ≡ leaving_from g i ++ length g.edges ∷ [] =
                ap (λ (ls : List (List ℕ)). get_or ls i d) more ∙ ap (λ (j : ℕ). get_or (set now e.source (get_or now e.source [] ++ length g.edges ∷ [])) j d) same ∙ get_or-set_same now e.source (get_or now e.source [] ++ length g.edges ∷ []) d there
                ∙ ap (λ (xs : List ℕ). xs ++ length g.edges ∷ []) (old e.source [] l ∙ ap (leaving_from g) (sym same)) in
                left ∙ sym (right ∙ rw yes refl))
            | inr other ↦
                (let away : (e.source == i) ≡ false = ne_eqb e.source i (λ s. other (sym s)) in
                let left : get_or next i d ≡ leaving_from g i = ap (λ (ls : List (List ℕ)). get_or ls i d) more ∙ get_or-set_other now e.source i (get_or now e.source [] ++ length g.edges ∷ []) d other ∙ old i d li in
                left ∙ sym (right ∙ rw away refl))
          ]

-- the list that is kept for a node has the labels that leave it
pub kept_at : (g : Inside) (now : Graph) (lists : List (List ℕ)) (k n : ℕ) (labels : List ℕ) → HoldsGraph g → graph_of g ≡ now → lists ≡ g.leaving.items → k ≡ n
    → k < length lists → labels ≡ get_or lists k labels → labels ≡ leaving_from now n
kept_at g now lists k n labels holds view is same l at =
    let lists-are : lists ≡ leaving_of now = is ∙ holds.leaving ∙ ap leaving_of view in
    let there : k < length now.nodes = subst (λ j. k < j) (ap length lists-are ∙ length-leaving_of now) l in
    at ∙ ap (λ (ls : List (List ℕ)). get_or ls k labels) lists-are ∙ leaving_at now k labels there ∙ ap (leaving_from now) same

-- if none is kept for a node, no label leaves it
pub kept_past : (g : Inside) (now : Graph) (lists : List (List ℕ)) (k n : ℕ) → HoldsGraph g → graph_of g ≡ now → lists ≡ g.leaving.items → k ≡ n
    → length lists ≤ k → [] ≡ leaving_from now n
kept_past g now lists k n holds view is same l =
    let lists-are : lists ≡ leaving_of now = is ∙ holds.leaving ∙ ap leaving_of view in
    let past : length now.nodes ≤ k = subst (λ j. j ≤ k) (ap length lists-are ∙ length-leaving_of now) l in
    sym (leaving-none now k (subst IsGraph view holds.graph) past) ∙ ap (leaving_from now) same
