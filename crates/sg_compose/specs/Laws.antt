-- The law on walks, at each level: of each part, and so of the parts that are used in it.
use Rattle.std.specs.Prelude.{◌≡◌, ℕ, List, [], take, Ok, Some, slice_get}
use Rattle.sg_protocol.specs.Graph.{Graph}
use Rattle.sg_parse.specs.Parts.{Part, AreParts}
use Rattle.sg_compose.specs.Expansion.{expansions, graph_at, last_graph}
use Rattle.sg_compose.specs.Walks.{HasWalks}

-- the expansion of each part has the walks of its own graph with walks of the expansions of the parts that are used
abbrev pub KeepsWalks : List Part → List Graph → Type 0
KeepsWalks ps gs = (k : ℕ) (p : Part) → slice_get ps k ≡ Some p → HasWalks (take k gs) p (graph_at gs k)

-- so do all expansions
abbrev pub AllKeepWalks : Type 0
AllKeepWalks = (ps : List Part) (gs : List Graph) → AreParts ps → expansions [] ps ≡ Ok gs → KeepsWalks ps gs

-- the graph is the last of the expansions of these parts, and each of them keeps the walks of its part
pub record IsComposed (ps : List Part) (g : Graph) : Type 0 where
  pub graphs : List Graph
  pub expands : expansions [] ps ≡ Ok graphs
  pub last : last_graph graphs ≡ g
  pub walks : KeepsWalks ps graphs
