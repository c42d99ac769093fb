use Rattle.std.proofs.Common.{◌≡◌, [], length, sym, ◌∙◌, ap, arith}
use Rattle.sg_model.specs.Lists.{is_in}
use Rattle.sg_protocol.specs.Graph.{writers}
use Rattle.sg_know.proofs.Bounds.{is_in_first, only_one}
use Rattle.sg_know.proofs.reads.is_only_writer.Goals as goal

pub returns : goal.returns
returns c =
    let set = c.writers-writers.result in
    let is : set ≡ writers c.args.graph.now c.args.var = c.writers-writers.ensures.writers in (
      λ t. sym is ∙ only_one (length c.args.graph.now.roles) c.args.role set c.writers-writers.ensures.there.0 (λ y l i. c.loop-number.invariant y (omega arith) i) (sym c.has-2.ensures ∙ t),
      λ e. c.has-2.ensures ∙ ap (is_in c.args.role) (is ∙ e) ∙ is_in_first c.args.role [],
    )
