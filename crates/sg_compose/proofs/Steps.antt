-- Uses and parts, one after the other, as loops expand them.
use Rattle.std.proofs.Common.{◌≡◌, ℕ, zero, suc, ◌+◌, ◌<◌, ◌≤◌, List, [], ◌∷◌, length, get_or, drop, Some, Ok, Err, Result, refl, sym, ap, subst, ◌∙◌, arith, drop-cons, add-one, length-append}
use Rattle.std.specs.Prelude.{All, slice_get}
use Rattle.sg_protocol.specs.Graph.{Graph}
use Rattle.sg_graph.specs.Adding.{no_parts}
use Rattle.sg_parse.specs.Parts.{Use, Part, IsPart, AreParts}
use Rattle.sg_compose.specs.declared.fault.ComposeFault.{ComposeFault}
use Rattle.sg_compose.specs.declared.fault.ComposeFault.TheVariants.{BadPart, BadRoles, LongName, Clash, TooLarge, OutOfMemory}
use Rattle.sg_compose.specs.Expansion.{new_nodes, extended, graph_at, all_used, followed}
use Rattle.sg_compose.specs.Owed.{Refuses}
use Rattle.sg_compose.proofs.Keeps.{used-adds}

-- a use leaves the roles, and the nodes that are there
pub extended-keeps : (part : List ℕ) (g inner : Graph) (u : Use) (k : Graph) → extended part g inner u ≡ Ok k → (length k.roles ≡ length g.roles) × (length g.nodes ≤ length k.nodes)
extended-keeps part g inner u k h =
    let a = used-adds part g inner u k h in
    subst (λ (q : Graph). (length q.roles ≡ length g.roles) × (length g.nodes ≤ length q.nodes)) a.2 (refl, (let l = length-append g.nodes (new_nodes inner u a.0) in omega (arith, l)))

refuses : {A B : Type 0} (r : Result A ComposeFault) (s : Result B ComposeFault) (e : ComposeFault) → (r ≡ Err e → s ≡ Err e) → Refuses r e → Refuses s e
refuses r s OutOfMemory k h = tt
refuses r s (BadPart part use_name) k h = k h
refuses r s (BadRoles part use_name) k h = k h
refuses r s (LongName part use_name) k h = k h
refuses r s (Clash part use_name) k h = k h
refuses r s (TooLarge part use_name) k h = k h

module _ (part : List ℕ) (graphs : List Graph) where
  -- one use more
  pub uses_more : (us : List Use) (i : ℕ) (u : Use) (g k : Graph) (total : Result Graph ComposeFault) → i < length us → get_or us i u ≡ u → extended part g (graph_at graphs u.part) u ≡ Ok k
      → all_used part graphs g (drop i us) ≡ total → all_used part graphs k (drop (i + 1) us) ≡ total
  uses_more us i u g k total lt at one so_far =
      let split : drop i us ≡ u ∷ drop (i + 1) us = drop-cons us i u lt ∙ ap (λ x. x ∷ drop (suc i) us) at ∙ ap (λ n. u ∷ drop n us) (sym (add-one i)) in
      sym (ap (all_used part graphs g) split ∙ ap (λ r. followed r (λ h. all_used part graphs h (drop (i + 1) us))) one) ∙ so_far

  -- a use that is refused
  pub uses_stop : (us : List Use) (i : ℕ) (u : Use) (g : Graph) (e : ComposeFault) (total : Result Graph ComposeFault) → i < length us → get_or us i u ≡ u → Refuses (extended part g (graph_at graphs u.part) u) e
      → all_used part graphs g (drop i us) ≡ total → Refuses total e
  uses_stop us i u g e total lt at stop so_far =
      let split : drop i us ≡ u ∷ drop (i + 1) us = drop-cons us i u lt ∙ ap (λ x. x ∷ drop (suc i) us) at ∙ ap (λ n. u ∷ drop n us) (sym (add-one i)) in
      refuses (extended part g (graph_at graphs u.part) u) total e
      (λ h. sym so_far ∙ ap (all_used part graphs g) split ∙ ap (λ r. followed r (λ h. all_used part graphs h (drop (i + 1) us))) h) stop

-- the graph at an index, whichever is taken if there is none
pub graph-there : (gs : List Graph) (k : ℕ) (g : Graph) → k < length gs → g ≡ get_or gs k g → graph_at gs k ≡ g
graph-there gs k g l at = same gs k (no_parts []) g l ∙ sym at
  where
    same : (xs : List Graph) (k : ℕ) (d e : Graph) → k < length xs → get_or xs k d ≡ get_or xs k e
    same [] k d e l = absurd (omega arith)
    same (x ∷ xs) zero d e l = refl
    same (x ∷ xs) (suc k) d e l = same xs k d e (omega (arith, l))

-- what holds of all uses holds of this one
pub use-there : (P : Use → Type 0) (us xs : List Use) (i : ℕ) (u : Use) → All P us → xs ≡ us → i < length xs → u ≡ get_or xs i u → P u
use-there P us xs i u all same l at = subst P (sym at) (subst (λ l. i < length l → P (get_or l i u)) (sym same) (λ lt. all i u lt) l)

-- what is said of each part holds of this one
pub part-there : (ps : List Part) (i : ℕ) (p : Part) → AreParts ps → i < length ps → p ≡ get_or ps i p → IsPart i p
part-there ps i p are l at = are.each i p (found ps i p l at)
  where
    found : (xs : List Part) (i : ℕ) (p : Part) → i < length xs → p ≡ get_or xs i p → slice_get xs i ≡ Some p
    found [] i p l at = absurd (omega arith)
    found (x ∷ xs) zero p l at = ap Some (sym at)
    found (x ∷ xs) (suc i) p l at = found xs i p (omega (arith, l)) at
