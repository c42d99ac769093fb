-- What holds of principals that run apart holds of honest principals' pasts, in the order of their calls.
use Rattle.sg_protocol.specs.Texts.{Hash, IsHash}
use Rattle.sg_protocol.specs.Premises.{Premises}
use Rattle.sg_apart.specs.Apart.{run_apart}
use Rattle.sg_apart.proofs.Honest.{on_pasts}
use Rattle.sg_apart_frames.specs.Receipts.{HonestReceiptsHaveSends, ReceiptsAreOfSends}
use Rattle.sg_apart_frames.specs.LastSteps.{HonestFramesShowLastSteps, AcceptedShowLastSteps}
use Rattle.sg_apart_frames.specs.Delivery.{HonestDeliveryIsComplete, AwaitedAreAccepted}
use Rattle.sg_apart_frames.specs.GoesOn.{HonestSessionsGoOn, AreNotStuck}
use Rattle.sg_apart_frames.proofs.Delivery.{delivery_is_complete_apart, sessions_go_on_apart}
use Rattle.sg_apart_frames.proofs.Sendings.{receipts_have_sends_apart}
use Rattle.sg_apart_frames.proofs.Showing.{frames_show_last_steps_apart}

pub honest_receipts_have_sends : (sha : Hash) → IsHash sha → HonestReceiptsHaveSends sha
honest_receipts_have_sends sha hash = on_pasts sha (λ s ps calls. Premises sha s (run_apart sha ps calls) → ReceiptsAreOfSends s (run_apart sha ps calls)) (receipts_have_sends_apart sha hash)

pub honest_frames_show_last_steps : (sha : Hash) → IsHash sha → HonestFramesShowLastSteps sha
honest_frames_show_last_steps sha hash = on_pasts sha (λ s ps calls. Premises sha s (run_apart sha ps calls) → AcceptedShowLastSteps sha s ps calls) (frames_show_last_steps_apart sha hash)

pub honest_delivery_is_complete : (sha : Hash) → IsHash sha → HonestDeliveryIsComplete sha
honest_delivery_is_complete sha hash = on_pasts sha (λ s ps calls. Premises sha s (run_apart sha ps calls) → AwaitedAreAccepted sha s ps calls) (delivery_is_complete_apart sha hash)

pub honest_sessions_go_on : (sha : Hash) → IsHash sha → HonestSessionsGoOn sha
honest_sessions_go_on sha hash = on_pasts sha (λ s ps calls. Premises sha s (run_apart sha ps calls) → AreNotStuck sha s (run_apart sha ps calls)) (sessions_go_on_apart sha hash)
