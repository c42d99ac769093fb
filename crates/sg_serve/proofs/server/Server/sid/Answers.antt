use Rattle.std.proofs.Common.{ℕ, ◌∙◌, ap}
use Rattle.std.specs.Prelude.{slice_get}
use Rattle.sg_serve.specs.Serving.{sids_of}
use Rattle.sg_serve.proofs.server.Server.sid.Goals as goal

pub returns : goal.returns
returns c = λ p s. c.session_at.ensures p s ∙ ap (λ (n : ℕ). slice_get (sids_of p) n) c.saturating_sub.ensures
