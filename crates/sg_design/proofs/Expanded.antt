-- The expansion of parts is a graph.
use Rattle.std.proofs.Common.{◌≡◌, ℕ, suc, ◌+◌, ◌-◌, ◌<◌, ◌≤◌, Bool, true, false, not, ◌&&◌, if◌then◌else◌, inl, inr, List, [], ◌∷◌, ◌++◌, length, Option, Some, None, Ok, Err, refl, sym, ◌∙◌, subst, arith, length-append}
use Rattle.std.specs.Prelude.{All, slice_get}
use Rattle.std.specs.List.{list_all}
use Rattle.std.proofs.lemmas.Bool.{and_parts, cases_lt}
use Rattle.std.proofs.lemmas.List.{get_or_past}
use Rattle.std.proofs.lemmas.List.Elements.{All-append}
use Rattle.sg_compose.specs.Expansion.{all_used, clashes, end_of, expanded, expansion, expansions, extended, graph_at, has_long, last_graph, player, roles_fit, too_large, with_use, with_use_to}
use Rattle.sg_compose.specs.declared.fault.ComposeFault.{ComposeFault}
use Rattle.sg_compose.specs.declared.fault.ComposeFault.TheVariants.{BadPart, BadRoles, Clash, LongName, TooLarge}
use Rattle.sg_compose.proofs.Keeps.{followed-inv}
use Rattle.sg_compose.proofs.Steps.{extended-keeps}
use Rattle.sg_compose.proofs.WithUse.{Fits, with_use-is}
use Rattle.sg_graph.specs.Adding.{no_parts}
use Rattle.sg_graph.proofs.Growth.{All-one}
use Rattle.sg_model.specs.Lists.{all_differ, has_text}
use Rattle.sg_parse.specs.Parts.{AreParts, IsPart, IsUse, Part, Use, use_names}
use Rattle.sg_protocol.specs.Graph.{Graph, IsGraph, Name, is_name, reserved}
use Rattle.sg_ending.proofs.OneEnding.{one_ok, ok_or_err}

-- ---- one use

-- what is expanded can be
fits : (part : Name) (g inner : Graph) (u : Use) (k : Graph) → extended part g inner u ≡ Ok k → (m : ℕ) × Fits g inner u m × (with_use g inner u m ≡ k)
fits part g inner u k h = pick (end_of inner) refl h
  where
    last : (m : ℕ) (a b c d : Bool) → end_of inner ≡ Some m → has_long inner u m ≡ b → clashes g inner u m ≡ c → too_large g inner m ≡ d
        → (if a then Err (BadRoles part u.name) else if b then Err (LongName part u.name) else if c then Err (Clash part u.name) else if d then Err (TooLarge part u.name) else Ok (with_use g inner u m)) ≡ Ok k
        → Fits g inner u m × (with_use g inner u m ≡ k)
    last m true b c d e s n r h = absurd (ok_or_err (Err (BadRoles part u.name)) k (BadRoles part u.name) h refl)
    last m false true c d e s n r h = absurd (ok_or_err (Err (LongName part u.name)) k (LongName part u.name) h refl)
    last m false false true d e s n r h = absurd (ok_or_err (Err (Clash part u.name)) k (Clash part u.name) h refl)
    last m false false false true e s n r h = absurd (ok_or_err (Err (TooLarge part u.name)) k (TooLarge part u.name) h refl)
    last m false false false false e s n r h = (record { end = e; short = s; new = n; room = r }, one_ok {B = ComposeFault} (Ok (with_use g inner u m)) (with_use g inner u m) k refl h)

    pick : (o : Option ℕ) → end_of inner ≡ o → with_use_to part g inner u o ≡ Ok k → (m : ℕ) × Fits g inner u m × (with_use g inner u m ≡ k)
    pick None e h = absurd (ok_or_err (Err (BadPart part u.name)) k (BadPart part u.name) h refl)
    pick (Some m) e h = (let r = last m (not (roles_fit g inner u m)) (has_long inner u m) (clashes g inner u m) (too_large g inner m) e refl refl refl h in (m, r.0, r.1))

-- a role plays each role
player-there : (before : ℕ) (g : Graph) (u : Use) → 0 < length g.roles → IsUse before g u → (r : ℕ) → player u r < length g.roles
player-there before g u some used r = elim (cases_lt r (length u.roles)) [
  | inl l ↦ used.roles r 0 l
  | inr le ↦ subst (λ k. k < length g.roles) (sym (get_or_past u.roles r 0 le)) some
]

-- ---- all uses, and all parts

-- a use of a graph is one of the graph with others
still : (before : ℕ) (g h : Graph) (u : Use) → length h.roles ≡ length g.roles → length g.nodes ≤ length h.nodes → IsUse before g u → IsUse before h u
still before g h u roles nodes is = record {
  part = is.part;
  from = omega (arith, is.from, nodes);
  to = omega (arith, is.to, nodes);
  some = is.some;
  roles = λ j d l. (let r = is.roles j d l in omega (arith, r, roles));
  differ = is.differ;
}

-- the graph of a part with its uses
uses-graph : (part : Name) (graphs : List Graph) (g : Graph) (us : List Use) (h k : Graph) → All IsGraph graphs → All (IsUse (length graphs) g) us
    → list_all (λ n. is_name n && not (has_text n reserved)) (use_names us) ≡ true → 0 < length g.roles → length h.roles ≡ length g.roles → length g.nodes ≤ length h.nodes → IsGraph h
    → all_used part graphs h us ≡ Ok k → IsGraph k
uses-graph part graphs g [] h k are all named some roles nodes is e = subst IsGraph (one_ok {B = ComposeFault} (Ok h) h k refl e) is
uses-graph part graphs g (u ∷ us) h k are all named some roles nodes is e =
    let p : Name → Bool = λ n. is_name n && not (has_text n reserved) in
    let a = followed-inv (extended part h (graph_at graphs u.part) u) (λ h. all_used part graphs h us) k e in
    let inner : Graph = graph_at graphs u.part in
    let f = fits part h inner u a.0 a.1 in
    let first : IsUse (length graphs) g u = all 0 u (omega arith) in
    let names = and_parts (p u.name) (list_all p (use_names us)) named in
    let name = and_parts (is_name u.name) (not (has_text u.name reserved)) names.0 in
    let there : IsUse (length graphs) h u = still (length graphs) g h u roles nodes first in
    let one : IsGraph (with_use h inner u f.0) = with_use-is h inner u f.0 is (are u.part (no_parts []) first.part) name.0 there.from there.to (player-there (length graphs) h u (omega (arith, some, roles)) there) f.1 in
    let keeps = extended-keeps part h inner u a.0 a.1 in
    uses-graph part graphs g us a.0 k are (λ j d l. all (suc j) d (omega (arith, l))) names.1 some (keeps.0 ∙ roles) (omega (arith, keeps.1, nodes)) (subst IsGraph f.2 one) a.2

-- the expansion of a part
part-graph : (graphs : List Graph) (p : Part) (k : Graph) → All IsGraph graphs → IsPart (length graphs) p → expanded graphs p ≡ Ok k → IsGraph k
part-graph graphs p k are is e =
    let named = and_parts (list_all (λ n. is_name n && not (has_text n reserved)) (use_names p.uses)) (all_differ (use_names p.uses)) is.names in
    uses-graph p.graph.name graphs p.graph p.uses p.graph k are is.uses named.0 (omega (arith, is.two_roles)) refl (omega arith) is.graph e

-- the expansions of all parts
parts-graphs : (graphs : List Graph) (ps : List Part) (gs : List Graph) → All IsGraph graphs → ((k : ℕ) (p : Part) → slice_get ps k ≡ Some p → IsPart (length graphs + k) p) → expansions graphs ps ≡ Ok gs
    → All IsGraph gs × (length gs ≡ length graphs + length ps)
parts-graphs graphs [] gs are each e = (let same = one_ok {B = ComposeFault} (Ok graphs) graphs gs refl e in subst (λ (l : List Graph). All IsGraph l × (length l ≡ length graphs + 0)) same (are, omega arith))
parts-graphs graphs (p ∷ ps) gs are each e =
    let a = followed-inv (expanded graphs p) (λ g. expansions (graphs ++ g ∷ []) ps) gs e in
    let g : Graph = a.0 in
    let none : length graphs + 0 ≡ length graphs = omega arith in
    let one : IsGraph g = part-graph graphs p g are (subst (λ n. IsPart n p) none (each 0 p refl)) a.1 in
    let longer : length (graphs ++ g ∷ []) ≡ length graphs + 1 = length-append graphs (g ∷ []) in
    let rest = parts-graphs (graphs ++ g ∷ []) ps gs (All-append IsGraph graphs (g ∷ []) are (All-one IsGraph g one))
    (λ j q h. (let same : length graphs + suc j ≡ length (graphs ++ g ∷ []) + j = omega (arith, longer) in subst (λ n. IsPart n q) same (each (suc j) q h))) a.2 in
    (rest.0, (let count = rest.1 in omega (arith, count, longer)))

-- so the expansion of the last
pub expansion-graph : (ps : List Part) (g : Graph) → AreParts ps → expansion ps ≡ Ok g → IsGraph g
expansion-graph ps g are e =
    let a = followed-inv (expansions [] ps) (λ gs. Ok (last_graph gs)) g e in
    let gs : List Graph = a.0 in
    let all = parts-graphs [] ps gs (λ k d l. absurd (omega (arith, l))) (λ k p h. (let same : k ≡ 0 + k = omega arith in subst (λ n. IsPart n p) same (are.each k p h))) a.1 in
    let count = all.1 in
    let last : IsGraph (last_graph gs) = (all.0) (length gs - 1) (no_parts []) (omega (arith, count, are.some)) in
    subst IsGraph (one_ok {B = ComposeFault} (Ok (last_graph gs)) (last_graph gs) g refl a.2) last
