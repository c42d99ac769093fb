use Rattle.std.proofs.Common.{Some, option_map, ◌∙◌, ap}
use Rattle.sg_model.specs.Last.{last}
use Rattle.sg_world.specs.RecordModel.{TakenStep}
use Rattle.sg_world.specs.Recording.{Recording}
use Rattle.sg_world.proofs.Lasts.{last_got}
use Rattle.sg_world.proofs.record.Record.last.Goals as goal

pub returns-in-Some : goal.returns-in-Some
returns-in-Some c =
    ap (λ (t : TakenStep). Some t.outcome) c.entry.view_is
    ∙ ap (option_map (λ (t : TakenStep). t.outcome)) (c.in-Some.ensures.value ∙ last_got c.deref.result.now ∙ ap last (c.deref.ensures.value ∙ ap (λ (r : Recording). r.done.entries) c.self.view_is))
