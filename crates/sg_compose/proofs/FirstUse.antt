-- The first use of all: the parts before its own are expanded as they stand.
use Rattle.std.proofs.Common.{◌≡◌, ℕ, zero, suc, ◌+◌, ◌-◌, ◌<◌, true, false, List, [], ◌∷◌, ◌++◌, length, map, get_or, drop, take, Some, Ok, Err, refl, sym, ap, subst, ◌∙◌, arith, drop-cons, add-one}
use Rattle.std.specs.Prelude.{All, slice_get}
use Rattle.sg_protocol.specs.Graph.{Graph}
use Rattle.sg_parse.specs.Parts.{Use, Part}
use Rattle.sg_compose.specs.declared.fault.ComposeFault.{ComposeFault}
use Rattle.sg_compose.specs.Early.{first_use_suits, of_first, suits, suits_at}
use Rattle.sg_compose.specs.Expansion.{all_used, end_of, expanded, expansion, expansions, extended, followed, graph_at, has_long, roles_fit}

-- the graphs of parts, as they stand
abbrev pub graphs_of : List Part → List Graph
graphs_of ps = map (λ p. p.graph) ps

-- the graph of one of them
pub graph-before : (ps : List Part) (i k : ℕ) (q : Part) → k < i → slice_get ps k ≡ Some q → graph_at (graphs_of (take i ps)) k ≡ q.graph
graph-before [] i zero q before at = absurd (cc)
graph-before [] i (suc k) q before at = absurd (cc)
graph-before (p ∷ ps) zero k q before at = absurd (omega (arith, before))
graph-before (p ∷ ps) (suc i) zero q before at = (let same : p ≡ q = cc in ap (λ (q : Part). q.graph) same)
graph-before (p ∷ ps) (suc i) (suc k) q before at = graph-before ps i k q (omega (arith, before)) at

module _ (ps : List Part) (i : ℕ) (p : Part) (lt : i < length ps) (at : p ≡ get_or ps i p) where
  -- the part and those after it
  split : drop i ps ≡ p ∷ drop (i + 1) ps
  split = drop-cons ps i p lt ∙ ap (λ x. x ∷ drop (suc i) ps) (sym at) ∙ ap (λ n. p ∷ drop n ps) (sym (add-one i))

  -- a part whose first use is refused
  pub refused-at : (u : Use) (us : List Use) (inner : Graph) (e : ComposeFault) → p.uses ≡ u ∷ us → graph_at (graphs_of (take i ps)) u.part ≡ inner
      → extended p.graph.name p.graph inner u ≡ Err e → expansions (graphs_of (take i ps)) (drop i ps) ≡ expansions [] ps → expansion ps ≡ Err e
  refused-at u us inner e first is refused so_far =
      let gs = graphs_of (take i ps) in
      let used : expanded gs p ≡ Err e = ap (all_used p.graph.name gs p.graph) first
      ∙ ap (λ g. followed (extended p.graph.name p.graph g u) (λ h. all_used p.graph.name gs h us)) is
      ∙ ap (λ r. followed r (λ h. all_used p.graph.name gs h us)) refused in
      let all : expansions [] ps ≡ Err e = sym so_far ∙ ap (expansions gs) split ∙ ap (λ r. followed r (λ g. expansions (gs ++ g ∷ []) (drop (i + 1) ps))) used in
      ap (λ r. followed r (λ gs. Ok (graph_at gs (length gs - 1)))) all

  -- a part whose first use suits
  pub suits-at : (u : Use) (us : List Use) (inner : Graph) (m : ℕ) → p.uses ≡ u ∷ us → graph_at (graphs_of (take i ps)) u.part ≡ inner
      → end_of inner ≡ Some m → roles_fit p.graph inner u m ≡ true → has_long inner u m ≡ false
      → first_use_suits (graphs_of (take i ps)) (drop i ps) ≡ first_use_suits [] ps → first_use_suits [] ps ≡ true
  suits-at u us inner m first is end fit short so_far =
      let gs = graphs_of (take i ps) in
      sym so_far ∙ ap (first_use_suits gs) split
      ∙ ap (λ vs. of_first (λ u. suits p.graph (graph_at gs u.part) u) vs (first_use_suits (gs ++ p.graph ∷ []) (drop (i + 1) ps))) first
      ∙ ap (λ g. suits p.graph g u) is
      ∙ ap (λ o. suits_at o p.graph inner u) end
      ∙ rw (fit, short) refl

-- what is said of the first use of a part
pub first-is : (P : Use → Type 0) (us : List Use) (u : Use) → All P us → slice_get us 0 ≡ Some u → P u
first-is P us u all at = head us all at
  where
    head : (us : List Use) → All P us → slice_get us 0 ≡ Some u → P u
    head [] all at = absurd (cc)
    head (v ∷ us) all at = (let same : v ≡ u = cc in subst P same (all 0 v (omega arith)))

-- a list by its first element
pub first-split : (us : List Use) (u : Use) → slice_get us 0 ≡ Some u → us ≡ u ∷ drop 1 us
first-split [] u at = absurd (cc)
first-split (v ∷ us) u at = (let same : v ≡ u = cc in ap (λ x. x ∷ us) same)

-- the first element as a slice gives it
pub first-there : (us xs : List Use) (u : Use) → us ≡ xs → 0 < length xs → u ≡ get_or xs 0 u → slice_get us 0 ≡ Some u
first-there us xs u same some at = ap (λ l. slice_get l 0) same ∙ there xs some at
  where
    there : (xs : List Use) → 0 < length xs → u ≡ get_or xs 0 u → slice_get xs 0 ≡ Some u
    there [] some at = absurd (omega (arith, some))
    there (x ∷ xs) some at = ap Some (sym at)
