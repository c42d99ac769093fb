use Rattle.std.proofs.Common.{◌≡◌, true, List, map, sym, ◌∙◌, ap, subst}
use Rattle.sg_model.specs.Lists.{all_differ}
use Rattle.sg_model.specs.Names.{Name}
use Rattle.sg_protocol.specs.Schedule.{Schedule}
use Rattle.sg_setting.specs.Pairs.{ArePairs}
use Rattle.sg_world.proofs.Begins.{new_named}
use Rattle.sg_world.proofs.world.nodes_and_record.Goals as goal

pub nodes_of-requires-clause-pairs : goal.nodes_of-requires-clause-pairs
nodes_of-requires-clause-pairs c = subst ArePairs (sym (c.as_slice.ensures ∙ ap (λ (s : Schedule). s.keys) c.schedule.view_is)) c.requires.pairs

pub nodes_of-requires-clause-different : goal.nodes_of-requires-clause-different
nodes_of-requires-clause-different c =
    subst (λ (ns : List Name). all_differ ns ≡ true) (sym (c.as_slice-2.ensures ∙ ap (λ (s : Schedule). s.honest) c.schedule.view_is)) c.requires.different

pub returns-in-Ok-clause-nodes : goal.returns-in-Ok-clause-nodes
returns-in-Ok-clause-nodes c =
    let keys = c.as_slice.ensures ∙ ap (λ (s : Schedule). s.keys) c.schedule.view_is in
    let honest = c.as_slice-2.ensures ∙ ap (λ (s : Schedule). s.honest) c.schedule.view_is in
    c.in_ok-nodes.ensures ∙ (λ i. map (new_named (keys i) c.args.programs.now) (honest i))
