-- Bytes that are no graph, and graphs that are refused.
use Rattle.std.specs.Prelude.{◌≡◌, ℕ, List, Some, Err, slice_get, ⊤}
use Rattle.sg_protocol.specs.Graph.{Graph}
use Rattle.sg_parse.specs.Reading.{read as parsed}
use Rattle.sg_compile.specs.All.{IsAllFault}
use Rattle.sg_compile.specs.declared.all.AllFault.TheVariants.{Refused}
use Rattle.sg_compile.specs.declared.check.CompileFault.{CompileFault}
use Rattle.sg_ending.specs.Ending.{Ending, NoGraph, GraphRefused, NoMemory}

-- the bytes are no graph, as their reading says, or memory ran out
abbrev pub IsNoGraph : List ℕ → Ending → Type 0
IsNoGraph bytes (NoGraph fault) = parsed bytes ≡ Err fault
IsNoGraph bytes NoMemory = ⊤
IsNoGraph bytes ending = ⊥

-- of the graphs, this is the first that isn't compiled for each of its roles, with the fault of the first such role
abbrev pub IsFirstRefused : List Graph → Graph → CompileFault → Type 0
IsFirstRefused graphs g fault = (index : ℕ) × (slice_get graphs index ≡ Some g) × IsAllFault graphs (Refused index fault)

-- a graph was refused, or memory ran out
abbrev pub Refuses : List Graph → Ending → Type 0
Refuses graphs (GraphRefused g fault) = IsFirstRefused graphs g fault
Refuses graphs NoMemory = ⊤
Refuses graphs ending = ⊥
