use Rattle.std.proofs.Common.{filter, ap, ◌∙◌}
use Rattle.sg_graph.specs.declared.edge.Edge.{Edge}
use Rattle.sg_model.specs.Lists.{is_in, below}
use Rattle.sg_protocol.specs.Graph.{Graph, reads}
use Rattle.sg_role.proofs.Listed.{reads_listed}
use Rattle.sg_role.proofs.step.step_reads.Goals as goal

pub returns : goal.returns
returns c = c.in_ok-vars.ensures
    ∙ ap (λ s. filter (λ x. is_in x s) (below 32)) (ap (λ (e : Edge). e.reads) c.edge.ensures.edge ∙ ap (λ (g : Graph). reads g c.args.label) c.graph.ensures.graph)
    ∙ reads_listed c.args.kept.now.program.now.graph c.graph.ensures.program.is_graph c.args.label
