-- The first program of a graph for role 0 is that of the first graph with its digest, if each graph has two roles.
use Rattle.std.proofs.Common.{◌≡◌, ℕ, zero, suc, ◌<◌, ◌≤◌, ◌==◌, All, Bool, true, false, ◌&&◌, List, [], ◌∷◌, ◌++◌, map, length, find, bytes_eq, if◌then◌else◌, Some, option_map, refl, ◌∙◌, ap, arith}
use Rattle.std.specs.List.{AllByRecursion}
use Rattle.std.proofs.lemmas.List.Elements.{recursion_from_All}
use Rattle.sg_model.specs.Lists.{below}
use Rattle.sg_protocol.specs.Graph.{Graph}
use Rattle.sg_protocol.specs.IsSchedule.{AreCompiled, IsProgram, parts}
use Rattle.sg_protocol.specs.Keyring.{Program}
use Rattle.sg_protocol.specs.Node.{program_for}
use Rattle.sg_protocol.specs.Schedule.{graph_with}
use Rattle.sg_protocol.specs.Texts.{real, graph_digest}

-- a graph and one of its roles
abbrev Part : Type 0
Part = Graph × ℕ

-- the part is of a graph with this digest, for role 0
abbrev is_first : List ℕ → Part → Bool
is_first d p = bytes_eq (graph_digest real p.0) d && (p.1 == 0)

abbrev part_of : Program → Part
part_of p = (p.graph, p.role)

-- the search among programs is the search among their parts
by_parts : (d : List ℕ) (ps : List Program) → AllByRecursion (λ (p : Program). p.digest ≡ graph_digest real p.graph) ps → option_map (λ (p : Program). p.graph) (program_for ps d 0) ≡ option_map (λ (p : Part). p.0) (find (is_first d) (map part_of ps))
by_parts d [] a = refl
by_parts d (p ∷ ps) a =
    ap (λ (z : List ℕ). option_map (λ (p : Program). p.graph) (if bytes_eq z d && (p.role == 0) then Some p else program_for ps d 0)) a.0
    ∙ by (bytes_eq (graph_digest real p.graph) d && (p.role == 0)) (by_parts d ps a.1)
  where
    by : (b : Bool) → option_map (λ (p : Program). p.graph) (program_for ps d 0) ≡ option_map (λ (p : Part). p.0) (find (is_first d) (map part_of ps))
        → option_map (λ (p : Program). p.graph) (if b then Some p else program_for ps d 0) ≡ option_map (λ (p : Part). p.0) (if b then Some (part_of p) else find (is_first d) (map part_of ps))
    by true h = refl
    by false h = h

-- no part of a graph with another digest passes
passed_over : (d : List ℕ) (g : Graph) (rest : List Part) (ns : List ℕ) → bytes_eq (graph_digest real g) d ≡ false → find (is_first d) (map {B = Part} (λ r. (g, r)) ns ++ rest) ≡ find (is_first d) rest
passed_over d g rest [] e = refl
passed_over d g rest (n ∷ ns) e = rw e (passed_over d g rest ns e)

-- the first part of a graph with this digest that passes is of the first such graph
first_part : (d : List ℕ) (gs : List Graph) → AllByRecursion (λ (g : Graph). 0 < length g.roles) gs → option_map (λ (p : Part). p.0) (find (is_first d) (parts gs)) ≡ graph_with real gs d
first_part d [] a = refl
first_part d (g ∷ gs) a = by (length g.roles) a.0 (bytes_eq (graph_digest real g) d) refl (first_part d gs a.1)
  where
    by : (n : ℕ) → 0 < n → (b : Bool) → bytes_eq (graph_digest real g) d ≡ b → option_map (λ (p : Part). p.0) (find (is_first d) (parts gs)) ≡ graph_with real gs d
        → option_map (λ (p : Part). p.0) (find (is_first d) (map {B = Part} (λ r. (g, r)) (below n) ++ parts gs)) ≡ (if b then Some g else graph_with real gs d)
    by zero h b e later = absurd (omega arith)
    by (suc n) h true e later = rw e refl
    by (suc n) h false e later = ap (option_map (λ (p : Part). p.0)) (passed_over d g (parts gs) (below (suc n)) e) ∙ later

-- each has its digest, and has a role
digests : (ps : List Program) → AllByRecursion (IsProgram real) ps → AllByRecursion (λ (p : Program). p.digest ≡ graph_digest real p.graph) ps
digests [] a = tt
digests (p ∷ ps) a = (a.0.digest, digests ps a.1)

have_one : (gs : List Graph) → AllByRecursion (λ (g : Graph). 2 ≤ length g.roles) gs → AllByRecursion (λ (g : Graph). 0 < length g.roles) gs
have_one [] a = tt
have_one (g ∷ gs) a = ((let h = a.0 in omega (arith, h)), have_one gs a.1)

pub graph_found : (d : List ℕ) (gs : List Graph) (ps : List Program) → AreCompiled real gs ps → All (λ (g : Graph). 2 ≤ length g.roles) gs → option_map (λ (p : Program). p.graph) (program_for ps d 0) ≡ graph_with real gs d
graph_found d gs ps compiled two =
    by_parts d ps (digests ps (recursion_from_All (IsProgram real) ps compiled.each))
    ∙ ap (λ (z : List Part). option_map (λ (p : Part). p.0) (find (is_first d) z)) compiled.all
    ∙ first_part d gs (have_one gs (recursion_from_All (λ (g : Graph). 2 ≤ length g.roles) gs two))
