use Rattle.std.proofs.Common.{ℕ, None, ◌∙◌, ap}
use Rattle.std.specs.Prelude.{slice_get, unwrap_or}
use Rattle.sg_serve.proofs.server.Server.graph.Goals as goal

pub returns : goal.returns
returns c = c.at.ensures ∙ ap (λ (n : ℕ). unwrap_or (slice_get c.args.self.now.graphs n) None) c.saturating_sub.ensures
