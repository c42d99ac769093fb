use Rattle.std.proofs.Common.{Some, option_map, ◌∙◌, ap}
use Rattle.sg_protocol.specs.Graph.{Graph}
use Rattle.sg_protocol.specs.Keyring.{Program}
use Rattle.sg_protocol.specs.Schedule.{graph_with}
use Rattle.sg_protocol.specs.Texts.{real}
use Rattle.sg_setting.specs.Setting.{Setting}
use Rattle.sg_setting.proofs.Graphs.{graph_found}
use Rattle.sg_setting.proofs.setting.Setting.graph.Goals as goal

pub returns-in-Some : goal.returns-in-Some
returns-in-Some c =
    ap (λ (g : Graph). Some g) c.graph.ensures.graph
    ∙ ap (option_map (λ (p : Program). p.graph)) c.in-Some.ensures
    ∙ graph_found c.args.digest.now c.self.inside.graphs c.self.inside.programs.now c.self.invariant.compiled c.self.invariant.two
    ∙ ap (λ (s : Setting). graph_with real s.graphs c.args.digest.now) c.self.view_is

pub returns-in-None : goal.returns-in-None
returns-in-None c =
    ap (option_map (λ (p : Program). p.graph)) c.in-None.ensures
    ∙ graph_found c.args.digest.now c.self.inside.graphs c.self.inside.programs.now c.self.invariant.compiled c.self.invariant.two
    ∙ ap (λ (s : Setting). graph_with real s.graphs c.args.digest.now) c.self.view_is
