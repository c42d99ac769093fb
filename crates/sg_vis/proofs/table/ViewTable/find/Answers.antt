use Rattle.std.proofs.Common.{subst, ◌∙◌}
use Rattle.sg_vis.specs.Order.{BelongsAt}
use Rattle.sg_vis.specs.Model.{origin_of}
use Rattle.sg_vis.specs.Table.{view_from}
use Rattle.sg_vis.proofs.Ordered.{absent}
use Rattle.sg_vis.proofs.table.ViewTable.find.Goals as goal

pub returns-in-Err : goal.returns-in-Err
returns-in-Err c =
    absent c.args.self.now (view_from (origin_of c.args.from) c.args.items.now) c.in-Err.field-0
    (subst (λ rows. BelongsAt rows (view_from (origin_of c.args.from) c.args.items.now) c.in-Err.field-0) (c.as_slice.ensures.value ∙ c.self.view_is) c.in-Err.ensures.between)
