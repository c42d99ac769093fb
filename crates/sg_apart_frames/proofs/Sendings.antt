-- A receipt from an honest principal apart has its sending.
use Rattle.std.specs.Prelude.{map}
use Rattle.sg_protocol.specs.Texts.{Hash, IsHash}
use Rattle.sg_protocol.specs.Premises.{Premises}
use Rattle.sg_protocol.proofs.Senders.{receipts_are_of_sends}
use Rattle.sg_apart.specs.Apart.{honest_are}
use Rattle.sg_apart.proofs.Whole.{asks, is_course, of_course}
use Rattle.sg_apart_frames.specs.Receipts.{ReceiptsAreOfSends, ReceiptsHaveSendsApart}

pub receipts_have_sends_apart : (sha : Hash) → IsHash sha → ReceiptsHaveSendsApart sha
receipts_have_sends_apart sha hash ps calls are range = of_course sha ps calls (λ w. Premises sha (honest_are ps) w → ReceiptsAreOfSends (honest_are ps) w)
    (λ premises l who bs f cast taken is honest. let r = receipts_are_of_sends sha hash (honest_are ps) ps (map asks calls) (is_course sha ps are calls range) premises l who bs f cast taken is honest in record { frame = r.0; bytes = λ one_key. r.1 (λ _. one_key) })
