use Rattle.std.proofs.Common.{◌≤◌, List, All, map, length, ap, sym, subst, ◌∙◌}
use Rattle.std.specs.Prelude.{IsTrue}
use Rattle.sg_model.specs.Lists.{all_differ}
use Rattle.sg_protocol.specs.Graph.{Graph}
use Rattle.sg_protocol.specs.Schedule.{Schedule}
use Rattle.sg_test_calls.proofs.world.programs.Goals as goal

pub compile_all-requires-clause-names : goal.compile_all-requires-clause-names
compile_all-requires-clause-names c =
    subst (λ (gs : List Graph). IsTrue (all_differ (map (λ g. g.name) gs))) (sym (c.as_slice-graphs.ensures ∙ ap (λ (s : Schedule). s.graphs) c.schedule.view_is)) c.requires.schedule.graph_names

pub compile_all-requires-clause-two : goal.compile_all-requires-clause-two
compile_all-requires-clause-two c = subst (λ (gs : List Graph). All (λ g. 2 ≤ length g.roles) gs) (sym (c.as_slice-graphs.ensures ∙ ap (λ (s : Schedule). s.graphs) c.schedule.view_is)) c.requires.roles
