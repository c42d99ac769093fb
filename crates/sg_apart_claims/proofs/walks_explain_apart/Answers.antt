-- The law of walks that are made event by event.
use Rattle.sg_apart_claims.specs.Laws.{FramesShowViews, WalksExplain}
use Rattle.sg_apart_claims.proofs.Pasts.{of_pasts}
use Rattle.sg_apart_claims.proofs.Walks.{frames_show_views, walks_explain}
use Rattle.sg_apart_claims.proofs.walks_explain_apart.Goals as goal

pub returns : goal.returns
returns c = record {
  explained = λ sha hash. of_pasts sha (WalksExplain sha) (walks_explain sha hash);
  shown = λ sha hash. of_pasts sha (FramesShowViews sha) (frames_show_views sha hash);
}
