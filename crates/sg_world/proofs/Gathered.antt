-- A craft of a schedule can be made, by the means that are gathered for it.
use Rattle.std.proofs.Common.{◌≡◌, List, [], Option, Some, None, option_map, option_and_then, slice_get, IsSomeAnd, refl, subst}
use Rattle.sg_protocol.specs.Crafted.{crafted_frame}
use Rattle.sg_protocol.specs.Frame.{Cast, Frame}
use Rattle.sg_protocol.specs.Graph.{Graph}
use Rattle.sg_protocol.specs.IsSchedule.{IsStep}
use Rattle.sg_protocol.specs.Schedule.{Schedule, NamedSession, Craft, Step, StartStep, ActStep, AbandonStep, DeliverStep, CraftStep, cast_of, graph_with}
use Rattle.sg_protocol.specs.Session.{new_session}
use Rattle.sg_protocol.specs.Spelling.{HasSpelling}
use Rattle.sg_protocol.specs.Texts.{real, session_id}
use Rattle.sg_protocol.specs.World.{new_world}
use Rattle.sg_craft.specs.Means.{Means}
use Rattle.sg_craft.proofs.MeansLaws.{can_by_means}
use Rattle.sg_world.specs.Crafts.{CanBeCrafted, IsCraftable}
use Rattle.sg_world.specs.Holds.{schedule_of}
use Rattle.sg_world.specs.RecordModel.{Recorded}
use Rattle.sg_setting.specs.Setting.{Setting}
use Rattle.sg_world.proofs.Pasts.{Named}

-- the frame that a craft makes of a cast, if it has this graph
abbrev made : Schedule → Craft → Cast → Option Graph → Option Frame
made s x cast o = option_map (λ (g : Graph). crafted_frame real s (new_world [] s) x g (new_session (session_id real cast) cast x.from)) o

-- the frame of this cast, if there is one, can be made
abbrev Made : Schedule → Craft → Option Cast → Type 0
Made s x o = IsSomeAnd (option_and_then (λ (cast : Cast). made s x cast (graph_with real s.graphs cast.graph)) o) HasSpelling

module _ (d : Setting) (nodes : List Named) (r : Recorded) (x : Craft) (step : IsStep real (schedule_of d nodes r) (CraftStep x)) where
  abbrev S : Schedule
  S = schedule_of d nodes r

  by_graph : (cast : Cast) → cast_of (schedule_of d nodes r) x.session ≡ Some cast → Made (schedule_of d nodes r) x (Some cast) → (o : Option Graph) → graph_with real d.graphs cast.graph ≡ o → CanBeCrafted d x
  by_graph cast is h None q = absurd (subst (λ (o : Option Graph). IsSomeAnd (made S x cast o) HasSpelling) q h)
  by_graph cast is h (Some g) q = record {
    cast = cast;
    graph = g;
    is_cast = is;
    is_graph = q;
    can = can_by_means (record { graph = g; cast = cast; sid = session_id real cast; keys = d.keys; frames = [] }) x S (new_world [] S) (record { cast = is; graph = q; sid = refl; keys = refl; frames = refl }) step;
  }

  by_cast : (o : Option Cast) → cast_of (schedule_of d nodes r) x.session ≡ o → CanBeCrafted d x
  by_cast None is = absurd (subst (Made S x) is step)
  by_cast (Some cast) is = by_graph cast is (subst (Made S x) is step) (graph_with real d.graphs cast.graph) refl

-- a craft of the schedule can be made
pub craftable : (d : Setting) (nodes : List Named) (r : Recorded) (x : Step) → IsStep real (schedule_of d nodes r) x → IsCraftable d x
craftable d nodes r (StartStep who n) step = tt
craftable d nodes r (ActStep who n label values) step = tt
craftable d nodes r (AbandonStep who n) step = tt
craftable d nodes r (DeliverStep who what) step = tt
craftable d nodes r (CraftStep x) step = by_cast d nodes r x step (cast_of (schedule_of d nodes r) x.session) refl

-- ---- the means

-- the means are of the craft's session
pub record AreGathered (d : Setting) (x : Craft) (m : Means) : Type 0 where
  pub cast : option_map (λ (e : NamedSession). e.cast) (slice_get d.sessions x.session) ≡ Some m.cast
  pub graph : graph_with real d.graphs m.cast.graph ≡ Some m.graph
  pub sid : m.sid ≡ session_id real m.cast
  pub keys : m.keys ≡ d.keys
