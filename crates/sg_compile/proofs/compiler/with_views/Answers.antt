use Rattle.std.proofs.Common.{refl, sym, subst}
use Rattle.std.proofs.lemmas.List.{length-map}
use Rattle.std.specs.List.{All}
use Rattle.sg_protocol.specs.Graph.{Graph}
use Rattle.sg_vis.specs.Table.{Shows, views_of}
use Rattle.sg_compile.specs.Compiled.{IsCompiled}
use Rattle.sg_compile.proofs.Compiling.{program_from}
use Rattle.sg_compile.proofs.compiler.with_views.Goals as goal

pub new-requires-clause-program : goal.new-requires-clause-program
new-requires-clause-program c =
    program_from c.args.graph.now c.in_ok-graph.graph c.args.role c.in_ok-digest.digest (views_of c.args.views) c.in_ok-targets.targets
    c.in_ok-graph.ensures c.roles-count.ensures.graph c.requires.accepted c.requires.there c.in_ok-digest.ensures c.requires.views c.in_ok-targets.ensures

pub new-requires-clause-shown : goal.new-requires-clause-shown
new-requires-clause-shown c = subst (λ (g : Graph). All (λ s. Shows g c.args.role s.walk s.view) c.args.views) (sym c.in_ok-graph.ensures) c.requires.shown

pub returns : goal.returns
returns c =
    subst (IsCompiled c.args.graph.now c.args.role) (sym c.new.ensures)
    record {
      program = program_from c.args.graph.now c.in_ok-graph.graph c.args.role c.in_ok-digest.digest (views_of c.args.views) c.in_ok-targets.targets
          c.in_ok-graph.ensures c.roles-count.ensures.graph c.requires.accepted c.requires.there c.in_ok-digest.ensures c.requires.views c.in_ok-targets.ensures;
      graph = c.in_ok-graph.ensures;
      role = refl;
      few = rw length-map c.requires.few;
      few_open = c.requires.few_open;
    }
