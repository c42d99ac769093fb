use Rattle.std.proofs.Common.{◌≤◌, List, All, map, length, ap, sym, subst, ◌∙◌, arith}
use Rattle.std.specs.Prelude.{IsTrue}
use Rattle.sg_model.specs.Lists.{all_differ}
use Rattle.sg_protocol.specs.Graph.{Graph}
use Rattle.sg_protocol.specs.Schedule.{Schedule}
use Rattle.sg_protocol.specs.Texts.{real}
use Rattle.sg_replay.proofs.FewGraphs.{few_graphs}
use Rattle.sg_replay.proofs.replay.replay_schedule.Goals as goal

pub compile_all-requires-clause-names : goal.compile_all-requires-clause-names
compile_all-requires-clause-names g c =
    subst (λ (gs : List Graph). IsTrue (all_differ (map (λ g. g.name) gs))) (sym (c.as_slice.ensures ∙ ap (λ (s : Schedule). s.graphs) c.schedule.view_is)) c.requires.can.meant.schedule.graph_names

pub compile_all-requires-clause-two : goal.compile_all-requires-clause-two
compile_all-requires-clause-two g c = subst (λ (gs : List Graph). All (λ g. 2 ≤ length g.roles) gs) (sym (c.as_slice.ensures ∙ ap (λ (s : Schedule). s.graphs) c.schedule.view_is)) c.requires.can.meant.roles

pub compile_all-requires-clause-few : goal.compile_all-requires-clause-few
compile_all-requires-clause-few g c =
    let same = ap (λ (gs : List Graph). length gs) (c.as_slice.ensures ∙ ap (λ (s : Schedule). s.graphs) c.schedule.view_is) in
    let few = few_graphs real c.args.bytes.now c.args.schedule.now c.requires.spelled in
    omega (arith, same, few, c.requires.short)
