use Rattle.std.specs.List.{list_all}
use Rattle.std.proofs.lemmas.Bool.{and_parts}
use Rattle.sg_model.specs.Lists.{all_differ}
use Rattle.sg_model.specs.Names.{is_name}
use Rattle.sg_world.proofs.Worlds.{begun}
use Rattle.sg_world.proofs.world.World.new.Goals as goal

pub nodes_and_record-requires-clause-pairs : goal.nodes_and_record-requires-clause-pairs
nodes_and_record-requires-clause-pairs c = record { each = c.requires.schedule.keys; apart = c.requires.schedule.pairs }

pub nodes_and_record-requires-clause-different : goal.nodes_and_record-requires-clause-different
nodes_and_record-requires-clause-different c = (and_parts (all_differ c.args.schedule.now.honest) (list_all is_name c.args.schedule.now.honest) c.requires.schedule.honest_names).0

pub invariant_of-result : goal.invariant_of-result
invariant_of-result c =
    (begun c.args.programs.now c.args.schedule.now c.in_ok-setting.setting c.in-Ok.nodes.entries c.in-Ok.history.done c.size-size.result c.in_ok-setting.ensures
    c.in-Ok.ensures.nodes c.in-Ok.ensures.blank c.size-size.ensures c.requires.schedule c.requires.compiled).0

pub returns-in-Ok : goal.returns-in-Ok
returns-in-Ok c =
    (begun c.args.programs.now c.args.schedule.now c.in_ok-setting.setting c.in-Ok.nodes.entries c.in-Ok.history.done c.size-size.result c.in_ok-setting.ensures
    c.in-Ok.ensures.nodes c.in-Ok.ensures.blank c.size-size.ensures c.requires.schedule c.requires.compiled).1
