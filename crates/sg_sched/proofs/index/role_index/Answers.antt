use Rattle.std.proofs.Common.{◌≡◌, true, arith}
use Rattle.std.proofs.lemmas.Grind.{common_steps}
use Rattle.sg_model.specs.Lists.{all_differ}
use Rattle.sg_sched.proofs.IndexLaws.{found_index}
use Rattle.sg_sched.proofs.index.role_index.Goals as goal

pub returns : goal.returns
returns c =
    let differ : all_differ c.args.graph.now.roles ≡ true = grind (arith, common_steps, c.roles-count.ensures.graph.role_names) in
    found_index c.args.graph.now.roles c.args.name.now c.find_role.result differ c.find_role.ensures.found c.find_role.ensures.index
