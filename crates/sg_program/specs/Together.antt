-- Programs together: which belong side by side, and how they are found.
use Rattle.std.specs.Prelude.{◌≡◌, ℕ, ◌==◌, not, Bool, ◌&&◌, ◌||◌, List, map, find, position, bytes_eq, IsTrue, Some, option_map}
use Rattle.std.specs.List.{AllByRecursion}
use Rattle.std.specs.Map.{lookup}
use Rattle.sg_protocol.specs.Graph.{Name}
use Rattle.sg_protocol.specs.Keyring.{Program}
use Rattle.sg_program.specs.declared.programs.ProgramKey.{ProgramKey}
use Rattle.sg_program.specs.declared.programs.Programs.TheInside.{Inside}

-- the program is of a graph of this name
abbrev pub is_named : Name → Program → Bool
is_named n p = bytes_eq n p.graph.name

-- the program is of a graph with this digest, for this role
abbrev pub is_for : List ℕ → ℕ → Program → Bool
is_for d r p = bytes_eq d p.digest && (r == p.role)

-- the key has this digest and this role
abbrev pub is_key : List ℕ → ℕ → ProgramKey → Bool
is_key d r k = bytes_eq d k.digest && (r == k.role)

-- the pair has this name and this role
abbrev pub is_pair : Name → ℕ → Name × ℕ → Bool
is_pair n r k = bytes_eq n k.0 && (r == k.1)

-- the graphs' names are equal, and the roles too or the digests not
abbrev pub clashes : Program → Program → Bool
clashes p q = is_named p.graph.name q && ((p.role == q.role) || not (bytes_eq p.digest q.digest))

-- the name of a program's graph, and its role
abbrev pub part_of : Program → Name × ℕ
part_of p = (p.graph.name, p.role)

-- the programs, with an index for each name and for each digest and role: that of the first such program
pub record HoldsPrograms (s : Inside) : Type 0 where
  pub names : (n : Name) → lookup (bytes_eq n) s.names.entries ≡ position (is_named n) s.list.items
  pub parts : s.parts.keys ≡ map part_of s.list.items
  pub digests : (d : List ℕ) (r : ℕ) → lookup (is_key d r) s.digests.entries ≡ position (is_for d r) s.list.items
  -- programs of one name have one digest
  pub alike : (n : Name) → AllByRecursion (λ p. IsTrue (is_named n p) → option_map (λ q. q.digest) (find (is_named n) s.list.items) ≡ Some p.digest) s.list.items
