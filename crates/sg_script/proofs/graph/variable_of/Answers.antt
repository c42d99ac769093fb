use Rattle.sg_script.proofs.NameLaws.{variable_is}
use Rattle.sg_script.proofs.graph.variable_of.Goals as goal

pub returns : goal.returns
returns c =
    let found = variable_is c.args.graph.now c.in_ok-name.name c.find_var.result c.vars-count.ensures.graph c.find_var.ensures.found c.find_var.ensures.index in
    rw (← c.read_name.ensures, c.in_ok-name.was) found
