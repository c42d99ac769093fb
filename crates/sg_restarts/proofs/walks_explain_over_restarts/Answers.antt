-- The laws of the walk that explains a session over restarts.
use Rattle.sg_restarts.proofs.Walks.{walks_explain_over_restarts, frames_show_views_over_restarts}
use Rattle.sg_restarts.proofs.walks_explain_over_restarts.Goals as goal

pub returns : goal.returns
returns c = record { explained = walks_explain_over_restarts; shown = frames_show_views_over_restarts }
