use Rattle.std.proofs.Common.{◌≡◌, [], refl, sym, ap, ◌∙◌}
use Rattle.std.specs.Prelude.{bytes_eq, Some, None, position}
use Rattle.sg_protocol.specs.Graph.{Graph, Name}
use Rattle.sg_graph.proofs.FirstIndex.{name_at, some_passes, none_passes, neither}
use Rattle.sg_graph.proofs.graph.Graph.find_role.Goals as goal

pub returns-in_err-index-clause-found : goal.returns-in_err-index-clause-found
returns-in_err-index-clause-found c =
    let at : None ≡ position (bytes_eq c.args.name.now) c.args.self.now.roles =
    c.in_err-index.ensures ∙ ap (position (bytes_eq c.args.name.now)) (c.deref.ensures.value ∙ ap (λ (g : Graph). g.roles) c.self.view_is) in
    neither c.from_residual.result _ c.from_residual.ensures (none_passes (bytes_eq c.args.name.now) c.args.self.now.roles (sym at))

pub returns : goal.returns
returns c =
    let i = c.in_ok-index.index in
    let at : Some i ≡ position (bytes_eq c.args.name.now) c.args.self.now.roles =
    c.in_ok-index.ensures ∙ ap (position (bytes_eq c.args.name.now)) (c.deref.ensures.value ∙ ap (λ (g : Graph). g.roles) c.self.view_is) in
    record {
      found = (λ y. some_passes (bytes_eq c.args.name.now) c.args.self.now.roles i (sym at), λ y. refl);
      index = name_at (λ (n : Name). n) c.args.name.now c.args.self.now.roles i [] at;
    }
