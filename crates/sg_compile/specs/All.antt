-- The programs of several graphs, or the first that isn't compiled.
use Rattle.std.specs.Prelude.{◌≡◌, ◌≢◌, ℕ, ◌<◌, List, ◌++◌, map, take, length, All, Some, slice_get, ⊤}
use Rattle.sg_model.specs.Lists.{below}
use Rattle.sg_protocol.specs.Graph.{Graph}
use Rattle.sg_protocol.specs.IsSchedule.{parts}
use Rattle.sg_protocol.specs.Keyring.{Program}
use Rattle.sg_compile.specs.Compiled.{IsRefused, IsWhole}
use Rattle.sg_compile.specs.declared.all.AllFault.{AllFault}
use Rattle.sg_compile.specs.declared.all.AllFault.TheVariants.{Refused, OutOfMemory}
use Rattle.sg_compile.specs.declared.check.CompileFault.{CompileFault}
use Rattle.sg_compile.specs.declared.check.CompileFault.TheVariants.{OutOfMemory as CompileMemory}

-- a graph with its first n roles, in order
abbrev pub roles_of : Graph → ℕ → List (Graph × ℕ)
roles_of g n = map (λ r. (g, r)) (below n)

-- the graphs and roles of programs
abbrev pub pairs_of : List Program → List (Graph × ℕ)
pairs_of programs = map (λ p. (p.graph, p.role)) programs

-- programs of these graphs and roles in order, and then a role that the graph isn't compiled for
pub record IsStopped (before : List (Graph × ℕ)) (g : Graph) (fault : CompileFault) : Type 0 where
  pub role : ℕ
  pub there : role < length g.roles
  pub programs : List Program
  pub each : All IsWhole programs
  pub earlier : pairs_of programs ≡ before ++ roles_of g role
  pub refused : IsRefused g role fault
  pub memory : fault ≢ CompileMemory

-- the fault of the first graph and its first role that isn't compiled, with the graph's index
abbrev pub IsAllFault : List Graph → AllFault → Type 0
IsAllFault graphs (Refused index fault) = (g : Graph) × (slice_get graphs index ≡ Some g) × IsStopped (parts (take index graphs)) g fault
IsAllFault graphs OutOfMemory = ⊤

-- the fault of a graph at its index, after earlier programs
abbrev pub IsGraphFault : List Program → ℕ → Graph → AllFault → Type 0
IsGraphFault before index g (Refused at fault) = (at ≡ index) × IsStopped (pairs_of before) g fault
IsGraphFault before index g OutOfMemory = ⊤

-- the fault of the graph at this index, with `OutOfMemory` outside
abbrev pub all_fault : ℕ → CompileFault → AllFault
all_fault index CompileMemory = OutOfMemory
all_fault index f = Refused index f
