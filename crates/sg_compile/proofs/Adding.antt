-- Programs with one more, of the next role of a graph.
use Rattle.std.proofs.Common.{◌≡◌, ◌≢◌, ◌≤◌, ℕ, zero, suc, ◌+◌, List, [], ◌∷◌, ◌++◌, map, length, refl, sym, ap, subst, ◌∙◌, append_assoc, append-nil, arith}
use Rattle.std.specs.List.{All}
use Rattle.std.proofs.lemmas.List.{map-append}
use Rattle.std.proofs.lemmas.List.Elements.{All-append}
use Rattle.sg_model.proofs.Numbers.{below-suc}
use Rattle.sg_protocol.specs.Graph.{Graph}
use Rattle.sg_protocol.specs.Keyring.{Program}
use Rattle.sg_compile.specs.All.{IsGraphFault, IsStopped, all_fault, pairs_of, roles_of}
use Rattle.sg_compile.specs.Compiled.{IsCompiled, IsRefused, IsWhole}
use Rattle.sg_compile.specs.Refused.{IsRefusal}
use Rattle.sg_compile.specs.declared.check.CompileFault.{CompileFault}
use Rattle.sg_compile.specs.declared.check.CompileFault.TheVariants.{Shape, Reads, Blinding, Views, OutOfMemory}
use Rattle.sg_compile.proofs.Behind.{compiled_own}

one_whole : (p : Program) → IsWhole p → All IsWhole (p ∷ [])
one_whole p w zero d l = w
one_whole p w (suc k) d l = absurd (omega arith)

-- each is compiled, with one more
pub each_more : (xs ys : List Program) (p : Program) (g : Graph) (r : ℕ) → ys ≡ xs ++ p ∷ [] → All IsWhole xs → IsCompiled g r p → All IsWhole ys
each_more xs ys p g r more each c =
    let P : List Program → Type 0 = All IsWhole in
    subst P (sym more) (All-append IsWhole xs (p ∷ []) each (one_whole p (compiled_own g r p c)))

-- the graphs and roles of programs, with one more
pub pairs_more : (xs ys : List Program) (p : Program) (before : List (Graph × ℕ)) (g : Graph) (n : ℕ) → ys ≡ xs ++ p ∷ [] → pairs_of xs ≡ before ++ roles_of g n
    → IsCompiled g n p → pairs_of ys ≡ before ++ roles_of g (n + 1)
pairs_more xs ys p before g n more all c =
    let next : roles_of g (n + 1) ≡ roles_of g n ++ (g, n) ∷ [] = ap (map (λ r. (g, r))) (below-suc n) ∙ map-append _ _ _ in
    ap pairs_of more ∙ map-append (λ (q : Program). (q.graph, q.role)) xs (p ∷ []) ∙ (λ i. all i ++ (c.graph i, c.role i) ∷ [])
    ∙ append_assoc before (roles_of g n) ((g, n) ∷ []) ∙ ap (λ rs. before ++ rs) (sym next)

-- a graph that isn't accepted is stopped at its first role
pub stopped_first : (before : List Program) (index : ℕ) (g : Graph) (f : CompileFault) → 2 ≤ length g.roles → All IsWhole before → IsRefusal g f → IsGraphFault before index g (all_fault index f)
stopped_first before index g f two each h = by f h
  where
    none : pairs_of before ≡ pairs_of before ++ roles_of g 0
    none = sym (append-nil (pairs_of before))

    stopped : (f : CompileFault) → IsRefused g 0 f → f ≢ OutOfMemory → IsStopped (pairs_of before) g f
    stopped f r m = record { role = 0; there = omega (arith, two); programs = before; each = each; earlier = none; refused = r; memory = m }

    by : (f : CompileFault) → IsRefusal g f → IsGraphFault before index g (all_fault index f)
    by OutOfMemory h = tt
    by (Shape f) h = (refl, stopped (Shape f) h (λ e. cc))
    by (Reads f) h = (refl, stopped (Reads f) h (λ e. cc))
    by (Blinding f) h = (refl, stopped (Blinding f) h (λ e. cc))
    by (Views r f) h = absurd h
