-- What bytes are no program's text, and where that shows first.
use Rattle.std.specs.Prelude.{◌≡◌, ◌≢◌, ◌⊎◌, ℕ, ◌+◌, ◌<◌, ◌≤◌, ◌==◌, Bool, ◌&&◌, if◌then◌else◌, List, [], ◌∷◌, ◌++◌, length, take, drop, codes, count_by, bytes_eq, Option, Some, None, option_map, is_some, true, IsTrue, ⊤}
use Rattle.std.specs.List.{common_prefix_len}
use Rattle.sg_protocol.specs.Graph.{Graph, IsGraph, Name, is_name, canonical, role_name}
use Rattle.sg_protocol.specs.Keyring.{Program}
use Rattle.sg_compile.specs.Compiled.{IsCompiled, IsRefused, IsWhole}
use Rattle.sg_compile.specs.Text.{line, start_line, version, prefix, table_text}
use Rattle.sg_compile.specs.declared.check.CompileFault.TheVariants.{OutOfMemory as CompileMemory}
use Rattle.sg_compile.specs.declared.loader.LoadFault.{LoadFault}
use Rattle.sg_compile.specs.declared.loader.LoadFault.TheVariants as Faults

-- the text begins with the line of this version
pub record HasStart (bs : List ℕ) (v : ℕ) (rest : List ℕ) : Type 0 where
  pub known : (v ≡ 1) ⊎ (v ≡ 2)
  pub spelled : bs ≡ line (start_line v) ++ rest

-- the text begins with the line of this role
pub record HasRole (bs : List ℕ) (name : Name) (rest : List ℕ) : Type 0 where
  pub named : IsTrue (is_name name)
  pub spelled : bs ≡ line (codes "role " ++ name) ++ rest

-- the text begins with the canonical text of this graph, which has the role, and the line `table`
pub record HasGraph (bs : List ℕ) (name : Name) (g : Graph) (r : ℕ) (rest : List ℕ) : Type 0 where
  pub is_graph : IsGraph g
  pub two_roles : 2 ≤ length g.roles
  pub has_node : 1 ≤ length g.nodes
  pub there : r < length g.roles
  pub named : role_name g r ≡ name
  pub spelled : bs ≡ canonical g ++ line (codes "table") ++ rest

-- the offset at which the text is first wrong
pub data IsMalformed (bs : List ℕ) : ℕ → Type 0 where
  NoStart : ((v : ℕ) (rest : List ℕ) → HasStart bs v rest → ⊥) → IsMalformed bs 0
  NoRole : {v : ℕ} {rest : List ℕ} → HasStart bs v rest → ((n : Name) (more : List ℕ) → HasRole rest n more → ⊥) → IsMalformed bs 13
  NoGraph : {v : ℕ} {n : Name} {rest more : List ℕ} → HasStart bs v rest → HasRole rest n more
      → ((g : Graph) (r : ℕ) (ls : List ℕ) → HasGraph more n g r ls → ⊥) → IsMalformed bs (19 + length n)
  OtherStart : {v r : ℕ} {n : Name} {g : Graph} {rest more ls : List ℕ} → HasStart bs v rest → HasRole rest n more → HasGraph more n g r ls
      → v ≢ version g → IsMalformed bs 11

-- the prefix of the text is that of the graph and the role, and these bytes follow
pub record HasPrefix (bs : List ℕ) (g : Graph) (r : ℕ) (rest : List ℕ) : Type 0 where
  pub is_graph : IsGraph g
  pub two_roles : 2 ≤ length g.roles
  pub has_node : 1 ≤ length g.nodes
  pub there : r < length g.roles
  pub spelled : bs ≡ prefix g r ++ rest

-- the number of the first line that differs, counted from 1: one more than the line ends that both begin with
abbrev pub first_wrong : List ℕ → List ℕ → ℕ
first_wrong wanted found = 1 + count_by (λ c. c == 10) (take (common_prefix_len (λ a b. a == b) wanted found) wanted)

-- the text before its first line `table`, and what follows that line. Whether a line begins here
abbrev pub at_table : Bool → List ℕ → Option (List ℕ × List ℕ)
at_table begins [] = None
at_table begins (c ∷ cs) =
    if begins && bytes_eq (line (codes "table")) (take 6 (c ∷ cs)) then Some ([], drop 6 (c ∷ cs))
    else option_map (λ s. (c ∷ s.0, s.1)) (at_table (c == 10) cs)

-- the first two lines are those of a version and of a role, and a line `table` follows. Only then is memory needed
pub record NeedsMemory (bs : List ℕ) : Type 0 where
  pub version : ℕ
  pub name : Name
  pub rest : List ℕ
  pub more : List ℕ
  pub start : HasStart bs version rest
  pub role : HasRole rest name more
  pub table : IsTrue (is_some (at_table true more))

-- the bytes are no program's text for this cause, and none before it holds; or memory ran out where it is needed
abbrev pub IsLoadFault : List ℕ → LoadFault → Type 0
IsLoadFault bs (Faults.Malformed at) = IsMalformed bs at
IsLoadFault bs (Faults.Graph g f) = (r : ℕ) × (rest : List ℕ) × HasPrefix bs g r rest × IsRefused g r f × (f ≢ CompileMemory)
IsLoadFault bs (Faults.NotTheTable n) = (p : Program) × (rest : List ℕ) × HasPrefix bs p.graph p.role rest × IsCompiled p.graph p.role p
    × (rest ≢ table_text p) × (n ≡ first_wrong (table_text p) rest)
IsLoadFault bs Faults.OutOfMemory = NeedsMemory bs

-- the bytes aren't the lines of the program's table, the first wrong one being n
abbrev pub IsTableFault : Program → List ℕ → LoadFault → Type 0
IsTableFault p rest (Faults.NotTheTable n) = (rest ≢ table_text p) × (n ≡ first_wrong (table_text p) rest)
IsTableFault p rest (Faults.Malformed at) = ⊥
IsTableFault p rest (Faults.Graph g f) = ⊥
IsTableFault p rest Faults.OutOfMemory = ⊤

-- what is wrong after the text of a graph with a role: the version, or the graph, or the lines of the table
abbrev pub IsFaultAfter : ℕ → Graph → ℕ → List ℕ → LoadFault → Type 0
IsFaultAfter v g r rest (Faults.Malformed at) = (at ≡ 11) × (v ≢ version g)
IsFaultAfter v g r rest (Faults.Graph h f) = (h ≡ g) × (v ≡ version g) × IsRefused g r f × (f ≢ CompileMemory)
IsFaultAfter v g r rest (Faults.NotTheTable n) = (p : Program) × IsCompiled g r p × (v ≡ version g) × IsTableFault p rest (Faults.NotTheTable n)
IsFaultAfter v g r rest Faults.OutOfMemory = ⊤

-- after the lines of the version and the role's name stands the rest of the program's text
pub record IsLoaded (v : ℕ) (n : Name) (text : List ℕ) (p : Program) : Type 0 where
  pub whole : IsWhole p
  pub version : v ≡ version p.graph
  pub name : role_name p.graph p.role ≡ n
  pub spelled : text ≡ canonical p.graph ++ line (codes "table") ++ table_text p

-- what is wrong after the lines of the version and the role's name
abbrev pub IsFaultBehind : ℕ → Name → List ℕ → LoadFault → Type 0
IsFaultBehind v n text (Faults.Malformed at) = ((at ≡ 19 + length n) × ((g : Graph) (r : ℕ) (rest : List ℕ) → HasGraph text n g r rest → ⊥))
    ⊎ ((at ≡ 11) × ((g : Graph) × (r : ℕ) × (rest : List ℕ) × HasGraph text n g r rest × (v ≢ version g)))
IsFaultBehind v n text (Faults.Graph g f) = (r : ℕ) × (rest : List ℕ) × HasGraph text n g r rest × (v ≡ version g) × IsRefused g r f × (f ≢ CompileMemory)
IsFaultBehind v n text (Faults.NotTheTable k) = (p : Program) × (rest : List ℕ) × HasGraph text n p.graph p.role rest × (v ≡ version p.graph)
    × IsCompiled p.graph p.role p × (rest ≢ table_text p) × (k ≡ first_wrong (table_text p) rest)
IsFaultBehind v n text Faults.OutOfMemory = IsTrue (is_some (at_table true text))

-- the text is the graph's canonical text, and it has two roles and a node
pub record IsCanonical (bs : List ℕ) (g : Graph) : Type 0 where
  pub is_graph : IsGraph g
  pub two_roles : 2 ≤ length g.roles
  pub has_node : 1 ≤ length g.nodes
  pub spelled : canonical g ≡ bs

-- the text is no such graph's
abbrev pub IsNoCanonical : List ℕ → Type 0
IsNoCanonical bs = (g : Graph) → IsCanonical bs g → ⊥
