use Rattle.std.proofs.Common.{◌≡◌, true, [], map, arith}
use Rattle.std.proofs.lemmas.Grind.{common_steps}
use Rattle.sg_model.specs.Lists.{all_differ}
use Rattle.sg_protocol.specs.Graph.{Int}
use Rattle.sg_sched.proofs.IndexLaws.{found_named}
use Rattle.sg_sched.proofs.index.var_index.Goals as goal

pub returns : goal.returns
returns c =
    let differ : all_differ (map (λ v. v.name) c.args.graph.now.variables) ≡ true = grind (arith, common_steps, c.vars-count.ensures.graph.variable_names) in
    found_named (λ v. v.name) c.args.graph.now.variables (record { name = []; kind = Int; writers = [] }) c.args.name.now c.find_var.result differ c.find_var.ensures.found c.find_var.ensures.index
