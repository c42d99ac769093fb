use Rattle.std.proofs.Common.{Some, ◌∙◌, ap}
use Rattle.sg_report.specs.Outcome.{outcome_of}
use Rattle.sg_world.specs.RecordModel.{TakenStep}
use Rattle.sg_world.proofs.Worlds.{reported_here}
use Rattle.sg_world.proofs.world.World.outcome.Goals as goal

pub returns : goal.returns
returns c = ap (λ (t : TakenStep). Some (outcome_of t.outcome)) c.entry.view_is ∙ reported_here c.args.self.now c.self.inside.setting c.self.inside.nodes.entries c.self.inside.history.done c.self.view_is c.self.invariant c.entries.result.now c.entries.ensures c.args.index c.index-entries-index.result c.requires c.index-entries-index.is
