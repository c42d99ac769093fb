use Rattle.std.proofs.Common.{◌++◌, [], ◌∷◌, length, sym, ap, ◌∙◌}
use Rattle.sg_protocol.specs.Graph.{Graph}
use Rattle.sg_protocol.specs.Kept.{kept_items}
use Rattle.sg_role.proofs.step.next_items.Goals as goal

pub returns-clause-items : goal.returns-clause-items
returns-clause-items c =
    c.in_ok-items.ensures c.args.kept.now.program.now.graph (sym (c.vars-count.ensures.count ∙ ap (λ (g : Graph). length g.variables) c.graph.ensures.graph))
    ∙ (λ j. kept_items c.args.kept.now.program.now.graph (c.as_slice.ensures.value j ++ c.in_ok-own.ensures.item j ∷ []))
