use Rattle.std.proofs.Common.{◌∙◌, ◌++◌, ◌∷◌, [], List, Option, ap, map}
use Rattle.std.proofs.lemmas.List.{map-append}
use Rattle.std.specs.Option.{option_copied}
use Rattle.sg_protocol.specs.Graph.{Graph}
use Rattle.sg_serve.proofs.graphs.Graphs.push.Goals as goal

pub returns : goal.returns
returns c =
    ap (map option_copied) c.in_ok-push.ensures.items ∙ map-append option_copied c.self.inside.list.items (c.args.graph ∷ [])
    ∙ ap (λ (l : List (Option Graph)). l ++ option_copied c.args.graph ∷ []) c.self.view_is
