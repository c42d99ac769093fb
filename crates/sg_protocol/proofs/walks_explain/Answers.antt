-- The law of walks that are made event by event.
use Rattle.sg_protocol.proofs.ExplainingWalks.{walks_explain, frames_show_views, origins_are_last_labels}
use Rattle.sg_protocol.proofs.walks_explain.Goals as goal

pub returns : goal.returns
returns c = record { explained = walks_explain; shown = frames_show_views; origins = origins_are_last_labels }
