-- The walk of a session of principals that run apart, made event by event.
use Rattle.std.specs.Prelude.{map}
use Rattle.sg_protocol.specs.Texts.{Hash, IsHash}
use Rattle.sg_protocol.proofs.EventWalks.{frames_shown, path_explained}
use Rattle.sg_protocol.proofs.ExplainingWalks.{Explain, ShowViews}
use Rattle.sg_apart.specs.Apart.{honest_are}
use Rattle.sg_apart.proofs.Whole.{asks, is_course, of_course}
use Rattle.sg_apart_claims.specs.Laws.{FramesShowViews, HoldsOfRuns, WalksExplain}

pub walks_explain : (sha : Hash) → IsHash sha → HoldsOfRuns sha (WalksExplain sha)
walks_explain sha hash ps calls are range sid cast g log premises is gr e a =
    of_course sha ps calls (Explain sha (honest_are ps)) (λ sid cast g premises is gr. path_explained sha hash (honest_are ps) ps (map asks calls) (is_course sha ps are calls range) sid premises cast g is gr) sid cast g premises is gr log e a

pub frames_show_views : (sha : Hash) → IsHash sha → HoldsOfRuns sha (FramesShowViews sha)
frames_show_views sha hash ps calls are range sid cast g before l after bs f premises is gr e q r o i =
    of_course sha ps calls (ShowViews sha (honest_are ps)) (λ sid cast g premises is gr. frames_shown sha hash (honest_are ps) ps (map asks calls) (is_course sha ps are calls range) sid premises cast g is gr) sid cast g premises is gr before l after bs f e q r o i
