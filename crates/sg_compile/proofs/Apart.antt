-- Programs that a new one doesn't clash with.
use Rattle.std.proofs.Common.{◌≡◌, ◌≢◌, ◌⊎◌, ℕ, zero, suc, ◌+◌, ◌<◌, ◌==◌, Bool, true, false, not, ◌&&◌, ◌||◌, List, [], ◌∷◌, ◌++◌, map, take, length, get_or, bytes_eq, Some, slice_get, refl, sym, ap, ◌∙◌, subst, inl, inr, arith, All, true≢false}
use Rattle.std.specs.List.{AllByRecursion, list_any}
use Rattle.std.proofs.lemmas.Bool.{cases_Bool, and_parts, not-true}
use Rattle.std.proofs.lemmas.Bool.Decides.{nat_tests}
use Rattle.std.proofs.lemmas.List.Elements.{All-append, All-from_recursion}
use Rattle.std.proofs.lemmas.List.Folds.{list_any_none}
use Rattle.std.proofs.lemmas.Slice.Eq.{bytes_eq-Decides}
use Rattle.sg_model.specs.Lists.{all_differ, below, has_text}
use Rattle.sg_model.proofs.Small.{all-append}
use Rattle.sg_protocol.specs.Graph.{Graph}
use Rattle.sg_protocol.specs.IsSchedule.{parts}
use Rattle.sg_protocol.specs.Keyring.{Program}
use Rattle.sg_protocol.specs.Texts.{graph_digest, real}
use Rattle.sg_compile.specs.All.{pairs_of}
use Rattle.sg_compile.specs.Compiled.{IsCompiled, IsWhole}
use Rattle.sg_program.specs.Together.{clashes, is_named}

-- the program is of a graph of another name, or of this graph, for a role below n
abbrev pub IsApart : Graph → ℕ → Program → Type 0
IsApart g n q = (q.graph.name ≢ g.name) ⊎ ((q.graph ≡ g) × (q.role < n))

-- a program of graph g for role n clashes with none of them
pub no_clash : (g : Graph) (n : ℕ) (p : Program) (programs : List Program) → IsCompiled g n p → All IsWhole programs → All (IsApart g n) programs → list_any (clashes p) programs ≡ false
no_clash g n p programs c whole apart = list_any_none (clashes p) programs (λ k d l. one (get_or programs k d) (whole k d l) (apart k d l))
  where
    none : (b : Bool) → (b && (false || false)) ≡ false
    none true = refl
    none false = refl

    one : (q : Program) → IsWhole q → IsApart g n q → clashes p q ≡ false
    one q w (inl other) =
        elim (cases_Bool (is_named p.graph.name q)) [
          | inl y ↦ absurd (other (sym ((bytes_eq-Decides p.graph.name q.graph.name).0 y) ∙ ap (λ (h : Graph). h.name) c.graph))
          | inr m ↦ rw m refl
        ]
    one q w (inr (same, less)) =
        let role : (p.role == q.role) ≡ false = grind (arith, nat_tests, c.role, less) in
        let digest : p.digest ≡ q.digest = c.program.digest ∙ ap (graph_digest real) (c.graph ∙ sym same) ∙ sym w.program.digest in
        let near : bytes_eq p.digest q.digest ≡ true = (bytes_eq-Decides p.digest q.digest).1 digest in
        rw (role, near) (none (is_named p.graph.name q))

-- and with a program more, for the next role
pub apart_more : (g : Graph) (n : ℕ) (p : Program) (xs ys : List Program) → ys ≡ xs ++ p ∷ [] → IsCompiled g n p → All (IsApart g n) xs → All (IsApart g (n + 1)) ys
apart_more g n p xs ys more c apart =
    let P : List Program → Type 0 = All (IsApart g (n + 1)) in
    subst P (sym more) (All-append (IsApart g (n + 1)) xs (p ∷ []) (λ k d l. wider (get_or xs k d) (apart k d l)) (All-from_recursion (IsApart g (n + 1)) (p ∷ []) (inr (c.graph, omega (arith, c.role)), tt)))
  where
    wider : (q : Program) → IsApart g n q → IsApart g (n + 1) q
    wider q (inl other) = inl other
    wider q (inr (same, less)) = inr (same, omega (arith, less))

-- ---- several graphs

of_roles : (P : Graph → Type 0) (g : Graph) (rs : List ℕ) → P g → AllByRecursion (λ (t : Graph × ℕ). P t.0) (map (λ r. (g, r)) rs)
of_roles P g [] h = tt
of_roles P g (r ∷ rs) h = (h, of_roles P g rs h)

of_parts : (P : Graph → Type 0) (gs : List Graph) → AllByRecursion P gs → AllByRecursion (λ (t : Graph × ℕ). P t.0) (parts gs)
of_parts P [] h = tt
of_parts P (g ∷ gs) h = all-append (λ (t : Graph × ℕ). P t.0) (map (λ r. (g, r)) (below (length g.roles))) (parts gs) (of_roles P g (below (length g.roles)) h.0) (of_parts P gs h.1)

of_programs : (P : Graph → Type 0) (programs : List Program) → AllByRecursion (λ (t : Graph × ℕ). P t.0) (pairs_of programs) → AllByRecursion (λ (q : Program). P q.graph) programs
of_programs P [] h = tt
of_programs P (p ∷ ps) h = (h.0, of_programs P ps h.1)

-- graphs before one of another index have other names
others_before : (graphs : List Graph) (i : ℕ) (x : Graph) → all_differ (map (λ (g : Graph). g.name) graphs) ≡ true → slice_get graphs i ≡ Some x → AllByRecursion (λ (g : Graph). g.name ≢ x.name) (take i graphs)
others_before [] i x d at = absurd (cc)
others_before (g ∷ gs) zero x d at = tt
others_before (g ∷ gs) (suc i) x d at =
    let split = and_parts (not (has_text g.name (map (λ (h : Graph). h.name) gs))) (all_differ (map (λ (h : Graph). h.name) gs)) d in
    (λ e. true≢false (sym (there gs i at e) ∙ not-true _ split.0), others_before gs i x split.1 at)
  where
    or_later : (b : Bool) {c : Bool} → c ≡ true → (b || c) ≡ true
    or_later true h = refl
    or_later false h = h

    there : (hs : List Graph) (j : ℕ) → slice_get hs j ≡ Some x → g.name ≡ x.name → has_text g.name (map (λ (h : Graph). h.name) hs) ≡ true
    there [] j at e = absurd (cc)
    there (h ∷ hs) zero at e = let same : h ≡ x = cc in rw ((bytes_eq-Decides g.name h.name).1 (e ∙ ap (λ (k : Graph). k.name) (sym same))) refl
    there (h ∷ hs) (suc j) at e = or_later (bytes_eq g.name h.name) (there hs j at e)

-- so the programs of the graphs before are of other names
pub others_compiled : (graphs : List Graph) (i : ℕ) (x : Graph) (programs : List Program) → all_differ (map (λ (g : Graph). g.name) graphs) ≡ true → slice_get graphs i ≡ Some x → pairs_of programs ≡ parts (take i graphs)
    → All (λ q. q.graph.name ≢ x.name) programs
others_compiled graphs i x programs d at all =
    let P : Graph → Type 0 = λ g. g.name ≢ x.name in
    All-from_recursion (λ (q : Program). P q.graph) programs
    (of_programs P programs (subst (AllByRecursion (λ (t : Graph × ℕ). P t.0)) (sym all) (of_parts P (take i graphs) (others_before graphs i x d at))))
