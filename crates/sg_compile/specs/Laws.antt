-- What holds of all graphs and all texts of programs: a graph is compiled or refused, and a text is of one program or has a fault.
use Rattle.std.specs.Prelude.{◌≡◌, ◌≢◌, ◌⊎◌, ℕ, ◌<◌, ◌≤◌, List, length, All}
use Rattle.sg_protocol.specs.Accepted.{Accepted}
use Rattle.sg_protocol.specs.Graph.{Graph, IsGraph}
use Rattle.sg_protocol.specs.IsSchedule.{AreCompiled}
use Rattle.sg_protocol.specs.Keyring.{Program}
use Rattle.sg_protocol.specs.Texts.{real}
use Rattle.sg_compile.specs.All.{IsAllFault}
use Rattle.sg_compile.specs.Compiled.{IsCompiled, IsRefused, IsWhole}
use Rattle.sg_compile.specs.Loading.{IsLoadFault}
use Rattle.sg_compile.specs.Refused.{IsRefusal}
use Rattle.sg_compile.specs.Text.{program_text}
use Rattle.sg_compile.specs.declared.all.AllFault.TheVariants.{Refused}
use Rattle.sg_compile.specs.declared.check.CompileFault.{CompileFault}
use Rattle.sg_compile.specs.declared.check.CompileFault.TheVariants.{OutOfMemory as CompileMemory}
use Rattle.sg_compile.specs.declared.loader.LoadFault.{LoadFault}
use Rattle.sg_compile.specs.declared.loader.LoadFault.TheVariants.{Graph as GraphFault, OutOfMemory as LoadMemory}

-- A graph that has a program for a role isn't refused for it
abbrev pub CompiledIsNotRefused : Type 0
CompiledIsNotRefused = (g : Graph) (r : ℕ) (p : Program) (f : CompileFault) → IsCompiled g r p → IsRefused g r f → f ≡ CompileMemory

-- Of graphs that have programs for all their roles none is refused
abbrev pub AllCompiledIsNotRefused : Type 0
AllCompiledIsNotRefused = (graphs : List Graph) (programs : List Program) (index : ℕ) (f : CompileFault)
    → AreCompiled real graphs programs → All IsWhole programs → IsAllFault graphs (Refused index f) → ⊥

-- it can't be that this doesn't hold
abbrev pub Surely : Type 0 → Type 0
Surely A = (A → ⊥) → ⊥

-- A graph is accepted or refused
abbrev pub GraphsAreAcceptedOrRefused : Type 0
GraphsAreAcceptedOrRefused = (g : Graph) → 2 ≤ length g.roles → Surely (Accepted g ⊎ ((f : CompileFault) × IsRefusal g f × (f ≢ CompileMemory)))

-- A graph has a program for a role, or is refused for it
abbrev pub RolesAreCompiledOrRefused : Type 0
RolesAreCompiledOrRefused = (g : Graph) (r : ℕ) → IsGraph g → 2 ≤ length g.roles → r < length g.roles
    → Surely (((p : Program) × IsCompiled g r p) ⊎ ((f : CompileFault) × IsRefused g r f × (f ≢ CompileMemory)))

-- Graphs have programs for all their roles, or a first of them is refused
abbrev pub AllAreCompiledOrRefused : Type 0
AllAreCompiledOrRefused = (graphs : List Graph) → All (λ g. IsGraph g × (2 ≤ length g.roles)) graphs
    → Surely (((ps : List Program) × AreCompiled real graphs ps × All IsWhole ps) ⊎ ((index : ℕ) × (f : CompileFault) × IsAllFault graphs (Refused index f)))

-- Two programs have two texts
abbrev pub TextsDiffer : Type 0
TextsDiffer = (p q : Program) → IsWhole p → IsWhole q → program_text p ≡ program_text q → p ≡ q

-- The text of a program has no fault
abbrev pub TextIsNotRefused : Type 0
TextIsNotRefused = (p : Program) (f : LoadFault) → IsWhole p → IsLoadFault (program_text p) f → f ≡ LoadMemory

-- the fault, and of a graph that is refused which graph it is
abbrev pub told : LoadFault → LoadFault
told (GraphFault g f) = GraphFault g CompileMemory
told fault = fault

-- A text that is no program's has one fault
abbrev pub TextHasOneFault : Type 0
TextHasOneFault = (bs : List ℕ) (e f : LoadFault) → IsLoadFault bs e → IsLoadFault bs f → e ≢ LoadMemory → f ≢ LoadMemory → told e ≡ told f

-- A text is that of a program, or it has a fault
abbrev pub TextsAreReadOrRefused : Type 0
TextsAreReadOrRefused = (bs : List ℕ) → Surely (((p : Program) × IsWhole p × (program_text p ≡ bs)) ⊎ ((f : LoadFault) × IsLoadFault bs f × (f ≢ LoadMemory)))
