-- When a craft can be made, and what comes of it.
use Rattle.std.specs.Prelude.{◌≡◌, ℕ, ◌+◌, ⊤, List, [], length, Option, Some, None, option_map, slice_get}
use Rattle.sg_model.specs.Names.{Name}
use Rattle.sg_protocol.specs.Crafted.{crafted}
use Rattle.sg_protocol.specs.Frame.{Cast}
use Rattle.sg_protocol.specs.Graph.{Graph}
use Rattle.sg_protocol.specs.NodeStates.{NodeState}
use Rattle.sg_protocol.specs.Notes.{no_notes}
use Rattle.sg_protocol.specs.Schedule.{Schedule, Craft, Step, StartStep, ActStep, AbandonStep, DeliverStep, CraftStep, graph_with}
use Rattle.sg_protocol.specs.Spelling.{spelling}
use Rattle.sg_protocol.specs.Texts.{real, session_id}
use Rattle.sg_protocol.specs.World.{World, frames}
use Rattle.sg_craft.specs.Means.{CanBeMade}
use Rattle.sg_report.specs.declared.outcome.Outcome.TheVariants.{Crafted}
use Rattle.sg_world.specs.StepResults.{IsResultAt}
use Rattle.sg_world.specs.RecordModel.{StepResult}
use Rattle.sg_setting.specs.Setting.{Setting}

-- the craft's session is declared, the graph of its cast is there, and its frame can be made
pub record CanBeCrafted (d : Setting) (x : Craft) : Type 0 where
  pub cast : Cast
  pub graph : Graph
  pub is_cast : option_map (λ d. d.cast) (slice_get d.sessions x.session) ≡ Some cast
  pub is_graph : graph_with real d.graphs cast.graph ≡ Some graph
  pub can : CanBeMade (record { graph = graph; cast = cast; sid = session_id real cast; keys = d.keys; frames = [] }) x

-- the step is no craft, or one that can be made
abbrev pub IsCraftable : Setting → Step → Type 0
IsCraftable d (CraftStep x) = CanBeCrafted d x
IsCraftable d (StartStep who n) = ⊤
IsCraftable d (ActStep who n label values) = ⊤
IsCraftable d (AbandonStep who n) = ⊤
IsCraftable d (DeliverStep who what) = ⊤

-- the schedule declares these graphs, keys and sessions
abbrev pub Declares : Schedule → Setting → Type 0
Declares s d = (s.graphs ≡ d.graphs) × (s.keys ≡ d.keys) × (s.sessions ≡ d.sessions)

-- what a craft makes, if the frame has this number
pub record IsResultOfCraft (number : ℕ) (s : Schedule) (w : World) (x : Craft) (c : StepResult) : Type 0 where
  pub outcome : c.outcome ≡ Crafted number
  pub cast : c.cast ≡ None
  pub frame : c.frame ≡ option_map spelling (crafted real s w x)
  pub notes : c.notes ≡ no_notes

-- the step is a craft, of which this comes for each schedule that declares this and each run that recorded these frames
pub record IsResultOfCrafting (d : Setting) (recorded : List (List ℕ)) (x : Step) (c : StepResult) : Type 0 where
  pub craft : Craft
  pub is_craft : x ≡ CraftStep craft
  pub is_result : (s : Schedule) (w : World) → Declares s d → frames w ≡ recorded → IsResultOfCraft (length recorded + 1) s w craft c

-- what comes of step k: at the node at its index; or, if it has none, of a craft, which leaves the nodes as they are
abbrev pub IsResultAtIndex : Setting → List (List ℕ) → ℕ → Step → Option ℕ → List (Name × NodeState) → List (Name × NodeState) → StepResult → Type 0
IsResultAtIndex d recorded k x None nodes now c = (now ≡ nodes) × IsResultOfCrafting d recorded x c
IsResultAtIndex d recorded k x (Some index) nodes now c = IsResultAt d.sessions recorded k x index nodes now c
