-- All uses of a part, and all parts: each expansion has the walks of its part.
use Rattle.std.proofs.Common.{◌≡◌, ℕ, zero, suc, ◌+◌, ◌-◌, ◌<◌, ◌≤◌, not, Bool, true, false, inl, inr, ◌⊎◌, List, [], ◌∷◌, ◌++◌, length, take, Option, Some, None, Ok, Err, Result, refl, sym, ap, subst, ◌∙◌, arith, if◌then◌else◌, append_assoc, append-nil, length-append}
use Rattle.std.specs.Prelude.{All, slice_get}
use Rattle.std.proofs.lemmas.List.{take_at}
use Rattle.sg_model.specs.Shape.{Shape, Walk}
use Rattle.sg_protocol.specs.Graph.{Graph, shape}
use Rattle.sg_parse.specs.Parts.{Use, Part, IsUse, IsPart, AreParts}
use Rattle.sg_compose.specs.declared.fault.ComposeFault.{ComposeFault}
use Rattle.sg_compose.specs.declared.fault.ComposeFault.TheVariants.{BadPart, BadRoles, LongName, Clash, TooLarge}
use Rattle.sg_compose.specs.Expansion.{end_of, with_use, with_use_to, extended, roles_fit, has_long, clashes, too_large, graph_at, all_used, followed, expanded, expansions, expansion, last_graph}
use Rattle.sg_compose.specs.Laws.{AllKeepWalks, IsComposed}
use Rattle.sg_compose.specs.Walks.{Inset, inset, insets, insets_of, Filled, Pending, HasWalks}
use Rattle.sg_compose.proofs.Split.{split, filled-walks, pending-walks}
use Rattle.sg_compose.proofs.Joining.{Joined, Ranged, joined-none, joined-more}
use Rattle.sg_compose.proofs.Ends.{ends-at}
use Rattle.sg_compose.proofs.Joining.{node-count, edge-count}

ok_same : {A : Type 0} (x y : A) → (let r : Result A ComposeFault = Ok x in r ≡ Ok y) → x ≡ y
ok_same x y e = cc

err_ok : {A C : Type 0} (e : ComposeFault) (x : A) → (let r : Result A ComposeFault = Err e in r ≡ Ok x) → C
err_ok e x h = cc

-- what goes on after a result
pub followed-inv : {A B : Type 0} (r : Result A ComposeFault) (next : A → Result B ComposeFault) (y : B) → followed r next ≡ Ok y → (x : A) × (r ≡ Ok x) × (next x ≡ Ok y)
followed-inv (Err e) next y h = err_ok e y h
followed-inv (Ok x) next y h = (x, refl, h)

-- a use that is expanded is added, and what it uses has an end
pub used-adds : (part : List ℕ) (g inner : Graph) (u : Use) (k : Graph) → extended part g inner u ≡ Ok k → (m : ℕ) × (end_of inner ≡ Some m) × (with_use g inner u m ≡ k)
used-adds part g inner u k h = pick (end_of inner) refl h
  where
    last : (m : ℕ) (a b c d : Bool) → (if a then Err (BadRoles part u.name) else if b then Err (LongName part u.name) else if c then Err (Clash part u.name) else if d then Err (TooLarge part u.name) else Ok (with_use g inner u m)) ≡ Ok k → with_use g inner u m ≡ k
    last m true b c d h = err_ok (BadRoles part u.name) k h
    last m false true c d h = err_ok (LongName part u.name) k h
    last m false false true d h = err_ok (Clash part u.name) k h
    last m false false false true h = err_ok (TooLarge part u.name) k h
    last m false false false false h = ok_same (with_use g inner u m) k h

    pick : (o : Option ℕ) → end_of inner ≡ o → with_use_to part g inner u o ≡ Ok k → (m : ℕ) × (end_of inner ≡ Some m) × (with_use g inner u m ≡ k)
    pick None e h = err_ok (BadPart part u.name) k h
    pick (Some m) e h = (m, e, last m (not (roles_fit g inner u m)) (has_long inner u m) (clashes g inner u m) (too_large g inner m) h)

-- all uses of a part, one after the other
uses-joined : (part : List ℕ) (graphs : List Graph) (g : Graph) (us : List Use) (h k : Graph) (is : List Inset) → ((n : ℕ) → n < length graphs → Ranged (graph_at graphs n)) → All (IsUse (length graphs) g) us
    → Joined h g is → all_used part graphs h us ≡ Ok k → Joined k g (is ++ insets graphs (length h.nodes) (length h.edges) us)
uses-joined part graphs g [] h k is ranged all j e = subst (λ l. Joined k g l) (sym (append-nil is)) (subst (λ q. Joined q g is) (ok_same h k e) j)
uses-joined part graphs g (u ∷ us) h k is ranged all j e =
    let a = followed-inv (extended part h (graph_at graphs u.part) u) (λ h. all_used part graphs h us) k e in
    let inner : Graph = graph_at graphs u.part in
    let one = used-adds part h inner u a.0 a.1 in
    let fit : IsUse (length graphs) g u = all 0 u (omega arith) in
    let m : ℕ = one.0 in
    let at-end = ends-at inner m one.1 in
    let first : Inset = inset graphs (length h.nodes) (length h.edges) u in
    let j' : Joined (with_use h inner u m) g (is ++ first ∷ []) = joined-more h g inner u m is j one.1 fit.from fit.to (ranged u.part fit.part) in
    let nodes : length (with_use h inner u m).nodes ≡ length h.nodes + (length inner.nodes - 2) = node-count h inner u m at-end.late at-end.there in
    let edges : length (with_use h inner u m).edges ≡ length h.edges + length inner.edges = edge-count h inner u m in
    let rest = uses-joined part graphs g us (with_use h inner u m) k (is ++ first ∷ []) ranged (λ n d l. all (suc n) d (omega (arith, l))) j' (subst (λ q. all_used part graphs q us ≡ Ok k) (sym one.2) a.2) in
    let tail : insets graphs (length (with_use h inner u m).nodes) (length (with_use h inner u m).edges) us ≡ insets graphs (length h.nodes + (length inner.nodes - 2)) (length h.edges + length inner.edges) us =
    ap (λ n. insets graphs n (length (with_use h inner u m).edges) us) nodes ∙ ap (λ n. insets graphs (length h.nodes + (length inner.nodes - 2)) n us) edges in
    subst (λ l. Joined k g l) (append_assoc is (first ∷ []) _ ∙ ap (λ l. is ++ first ∷ l) tail) rest

-- the graph of a part
graph-ranged : (n : ℕ) (p : Part) → IsPart n p → Ranged p.graph
graph-ranged n p is = is.graph.ends

-- the expansion of a part
part-joined : (graphs : List Graph) (p : Part) (h : Graph) → ((n : ℕ) → n < length graphs → Ranged (graph_at graphs n)) → IsPart (length graphs) p → expanded graphs p ≡ Ok h → Joined h p.graph (insets_of graphs p)
part-joined graphs p h ranged is e = uses-joined p.graph.name graphs p.graph p.uses p.graph h [] ranged is.uses (joined-none p.graph (graph-ranged (length graphs) p is)) e

-- it has the walks of the part
has-walks : (graphs : List Graph) (p : Part) (h : Graph) → 0 < length p.graph.nodes → Joined h p.graph (insets_of graphs p) → HasWalks graphs p h
has-walks graphs p h some j =
    let g : Shape = shape p.graph in
    let is : List Inset = insets_of graphs p in
    let n : ℕ = length p.graph.nodes in
    record {
      walks = λ w. (λ walk. (split (shape h) g n is j.owner j.joins w).0 0 some walk, λ s. back s);
      ends = λ w m f. (let r = filled-walks (shape h) g n is j.owner j.joins 0 w m some f in (r.1, r.2));
    }
  where
    back : {w : List ℕ} → (((m : ℕ) × Filled (shape p.graph) (insets_of graphs p) 0 w m) ⊎ Pending (shape p.graph) (insets_of graphs p) 0 w) → Walk (shape h) 0 w
    back {w} (inl (m, f)) = (filled-walks (shape h) (shape p.graph) (length p.graph.nodes) (insets_of graphs p) j.owner j.joins 0 w m some f).0
    back {w} (inr f) = pending-walks (shape h) (shape p.graph) (length p.graph.nodes) (insets_of graphs p) j.owner j.joins 0 w some f

-- uses leave the roles
uses-roles : (part : List ℕ) (graphs : List Graph) (us : List Use) (h k : Graph) → all_used part graphs h us ≡ Ok k → length k.roles ≡ length h.roles
uses-roles part graphs [] h k e = ap (λ (g : Graph). length g.roles) (sym (ok_same h k e))
uses-roles part graphs (u ∷ us) h k e =
    let a = followed-inv (extended part h (graph_at graphs u.part) u) (λ h. all_used part graphs h us) k e in
    let one = used-adds part h (graph_at graphs u.part) u a.0 a.1 in
    uses-roles part graphs us a.0 k a.2 ∙ ap (λ (g : Graph). length g.roles) (sym one.2)

-- what is said of parts behind others
record Kept (graphs : List Graph) (ps : List Part) (gs : List Graph) : Type 0 where
  prefix : (more : List Graph) × (gs ≡ graphs ++ more)
  keeps : (k : ℕ) (p : Part) → slice_get ps k ≡ Some p → HasWalks (take (length graphs + k) gs) p (graph_at gs (length graphs + k))
  two : (k : ℕ) → k < length ps → 2 ≤ length (graph_at gs (length graphs + k)).roles
  count : length gs ≡ length graphs + length ps

-- the graph in the middle
graph-middle : (as' : List Graph) (g : Graph) (bs : List Graph) → graph_at (as' ++ g ∷ bs) (length as') ≡ g
graph-middle [] g bs = refl
graph-middle (a ∷ as') g bs = graph-middle as' g bs

ranged-more : (graphs : List Graph) (g : Graph) → ((n : ℕ) → n < length graphs → Ranged (graph_at graphs n)) → Ranged g → (n : ℕ) → n < length (graphs ++ g ∷ []) → Ranged (graph_at (graphs ++ g ∷ []) n)
ranged-more [] g all r zero l = r
ranged-more [] g all r (suc n) l = absurd (omega (arith, l))
ranged-more (h ∷ graphs) g all r zero l = all 0 (omega arith)
ranged-more (h ∷ graphs) g all r (suc n) l = ranged-more graphs g (λ k lk. all (suc k) (omega (arith, lk))) r n (omega (arith, l))

parts-kept : (graphs : List Graph) (ps : List Part) (gs : List Graph) → ((n : ℕ) → n < length graphs → Ranged (graph_at graphs n)) → ((k : ℕ) (p : Part) → slice_get ps k ≡ Some p → IsPart (length graphs + k) p)
    → expansions graphs ps ≡ Ok gs → Kept graphs ps gs
parts-kept graphs [] gs ranged each e = record { prefix = ([], sym (ok_same graphs gs e) ∙ sym (append-nil graphs)); keeps = λ k p h. absurd (cc); two = λ k l. absurd (omega (arith, l)); count = ap length (sym (ok_same graphs gs e)) ∙ omega arith }
parts-kept graphs (p ∷ ps) gs ranged each e =
    let a = followed-inv (expanded graphs p) (λ g. expansions (graphs ++ g ∷ []) ps) gs e in
    let g : Graph = a.0 in
    let none : length graphs + 0 ≡ length graphs = omega arith in
    let is : IsPart (length graphs) p = subst (λ n. IsPart n p) none (each 0 p refl) in
    let j = part-joined graphs p g ranged is a.1 in
    let one : HasWalks graphs p g = has-walks graphs p g (omega (arith, is.has_node)) j in
    let longer : length (graphs ++ g ∷ []) ≡ length graphs + 1 = length-append graphs (g ∷ []) in
    let rest = parts-kept (graphs ++ g ∷ []) ps gs (ranged-more graphs g ranged j.ranged)
    (λ k q h. (let same : length graphs + suc k ≡ length (graphs ++ g ∷ []) + k = omega (arith, longer) in subst (λ n. IsPart n q) same (each (suc k) q h))) a.2 in
    let all : gs ≡ graphs ++ g ∷ rest.prefix.0 = rest.prefix.1 ∙ append_assoc graphs (g ∷ []) rest.prefix.0 in
    record {
      prefix = (g ∷ rest.prefix.0, all);
      keeps = keeps g rest.prefix.0 all one (λ k q h. (let same : length (graphs ++ g ∷ []) + k ≡ length graphs + suc k = omega (arith, longer) in subst (λ n. HasWalks (take n gs) q (graph_at gs n)) same (rest.keeps k q h)));
      two = two g rest.prefix.0 all (omega (arith, is.two_roles, uses-roles p.graph.name graphs p.uses p.graph g a.1)) (λ k l. (let same : length (graphs ++ g ∷ []) + k ≡ length graphs + suc k = omega (arith, longer) in subst (λ n. 2 ≤ length (graph_at gs n).roles) same (rest.two k l)));
      count = rest.count ∙ omega (arith, longer);
    }
  where
    two : (g : Graph) (more : List Graph) → gs ≡ graphs ++ g ∷ more → 2 ≤ length g.roles → ((k : ℕ) → k < length ps → 2 ≤ length (graph_at gs (length graphs + suc k)).roles)
        → (k : ℕ) → k < length (p ∷ ps) → 2 ≤ length (graph_at gs (length graphs + k)).roles
    two g more all one rest zero l =
        let none : length graphs ≡ length graphs + 0 = omega arith in
        let at : graph_at gs (length graphs) ≡ g = ap (λ l. graph_at l (length graphs)) all ∙ graph-middle graphs g more in
        subst (λ n. 2 ≤ length (graph_at gs n).roles) none (subst (λ (q : Graph). 2 ≤ length q.roles) (sym at) one)
    two g more all one rest (suc k) l = rest k (omega (arith, l))

    keeps : (g : Graph) (more : List Graph) → gs ≡ graphs ++ g ∷ more → HasWalks graphs p g → ((k : ℕ) (q : Part) → slice_get ps k ≡ Some q → HasWalks (take (length graphs + suc k) gs) q (graph_at gs (length graphs + suc k)))
        → (k : ℕ) (q : Part) → slice_get (p ∷ ps) k ≡ Some q → HasWalks (take (length graphs + k) gs) q (graph_at gs (length graphs + k))
    keeps g more all one rest zero q h =
        let same : p ≡ q = cc in
        let none : length graphs + 0 ≡ length graphs = omega arith in
        let prefix : take (length graphs) gs ≡ graphs = ap (take (length graphs)) all ∙ take_at graphs (g ∷ more) (length graphs) refl in
        let at : graph_at gs (length graphs) ≡ g = ap (λ l. graph_at l (length graphs)) all ∙ graph-middle graphs g more in
        let one' : HasWalks (take (length graphs) gs) p (graph_at gs (length graphs)) = subst (λ l. HasWalks l p (graph_at gs (length graphs))) (sym prefix) (subst (HasWalks graphs p) (sym at) one) in
        subst (λ n. HasWalks (take n gs) q (graph_at gs n)) (sym none) (subst (λ r. HasWalks (take (length graphs) gs) r (graph_at gs (length graphs))) same one')
    keeps g more all one rest (suc k) q h = rest k q h

-- the law on walks
pub all-keep : AllKeepWalks
all-keep ps gs are e k p h =
    let r = parts-kept [] ps gs (λ n l. absurd (omega (arith, l))) (λ k p h. (let same : k ≡ 0 + k = omega arith in subst (λ n. IsPart n p) same (are.each k p h))) e in
    let same : 0 + k ≡ k = omega arith in
    subst (λ n. HasWalks (take n gs) p (graph_at gs n)) same (r.keeps k p h)

-- so the graph that is answered
pub composed : (ps : List Part) (g : Graph) → AreParts ps → expansion ps ≡ Ok g → IsComposed ps g
composed ps g are e =
    let a = followed-inv (expansions [] ps) (λ gs. Ok (last_graph gs)) g e in
    record { graphs = a.0; expands = a.1; last = ok_same (last_graph a.0) g a.2; walks = all-keep ps a.0 are a.1 }

-- it has two roles
pub two_roles : (ps : List Part) (g : Graph) → AreParts ps → expansion ps ≡ Ok g → 2 ≤ length g.roles
two_roles ps g are e =
    let a = followed-inv (expansions [] ps) (λ gs. Ok (last_graph gs)) g e in
    let r = parts-kept [] ps a.0 (λ n l. absurd (omega (arith, l))) (λ k p h. (let same : k ≡ 0 + k = omega arith in subst (λ n. IsPart n p) same (are.each k p h))) a.1 in
    let last : length ps - 1 < length ps = omega (arith, are.some) in
    let same : 0 + (length ps - 1) ≡ length a.0 - 1 = omega (arith, r.count, are.some) in
    subst (λ (q : Graph). 2 ≤ length q.roles) (ok_same (last_graph a.0) g a.2) (subst (λ n. 2 ≤ length (graph_at a.0 n).roles) same (r.two (length ps - 1) last))
