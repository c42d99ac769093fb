-- Why a graph isn't compiled for a role, and the programs of several graphs.
use Rattle.std.specs.Prelude.{◌≡◌, ◌≢◌, ℕ, ◌≤◌, length}
use Rattle.sg_model.specs.Limits.{most_views}
use Rattle.sg_protocol.specs.Accepted.{Accepted}
use Rattle.sg_protocol.specs.Graph.{Graph}
use Rattle.sg_protocol.specs.IsSchedule.{IsProgram}
use Rattle.sg_protocol.specs.Keyring.{Program}
use Rattle.sg_protocol.specs.Texts.{real}
use Rattle.sg_views.specs.Limits.{Explains, FewOpen}
use Rattle.sg_views.specs.declared.fault.ViewFault.{ViewFault}
use Rattle.sg_views.specs.declared.fault.ViewFault.TheVariants.{OutOfMemory as ViewMemory}
use Rattle.sg_compile.specs.Refused.{IsRefusal}
use Rattle.sg_compile.specs.declared.check.CompileFault.{CompileFault}
use Rattle.sg_compile.specs.declared.check.CompileFault.TheVariants.{Views, OutOfMemory}

-- the program of the graph for the role, whose views are not too many
pub record IsCompiled (g : Graph) (r : ℕ) (p : Program) : Type 0 where
  pub program : IsProgram real p
  pub graph : p.graph ≡ g
  pub role : p.role ≡ r
  pub few : length p.views ≤ most_views
  pub few_open : FewOpen g r

-- a compiled program
abbrev pub IsWhole : Program → Type 0
IsWhole p = IsCompiled p.graph p.role p

-- the graph is refused, or it is accepted and too many views can reach the role
abbrev pub IsRefused : Graph → ℕ → CompileFault → Type 0
IsRefused g r (Views q f) = Accepted g × (q ≡ r) × Explains g r f × (f ≢ ViewMemory)
IsRefused g r f = IsRefusal g f

-- the fault of the views of a role, with `OutOfMemory` outside
abbrev pub view_fault : ℕ → ViewFault → CompileFault
view_fault r ViewMemory = OutOfMemory
view_fault r f = Views r f
