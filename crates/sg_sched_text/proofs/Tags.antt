-- Tags and commitments of crafted frames have their bytes.
use Rattle.std.proofs.Common.{◌≡◌, ℕ, ◌==◌, ◌≤◌, List, length, take, refl, arith, inl, inr}
use Rattle.std.specs.Prelude.{None}
use Rattle.std.proofs.lemmas.Bool.{cases_Bool}
use Rattle.std.proofs.lemmas.List.{length-take-le}
use Rattle.sg_model.specs.Bytes.{AreBytes}
use Rattle.sg_protocol.specs.Frame.{tag_len}
use Rattle.sg_protocol.specs.TextLaws.{IsVersion}
use Rattle.sg_protocol.specs.Texts.{real, cut}
use Rattle.sg_protocol.specs.Keyring.{Program}
use Rattle.sg_protocol.specs.Schedule.{Schedule, Source, Key, CopyItem, CopySeal, Zero}
use Rattle.sg_protocol.specs.World.{new_world}
use Rattle.sg_protocol.specs.Crafted.{no_tag, frame_read, tag_by}
use Rattle.sg_protocol.proofs.RealHash.{real_hash}
use Rattle.sg_protocol.proofs.Spelled.{to_bytes, bytes-zeros}
use Rattle.sg_protocol.proofs.Sent.{cut_tag}

most_sent : (v : ℕ) → tag_len v ≤ 32
most_sent v = elim (cases_Bool (v == 2)) [ inl e ↦ rw e (omega arith) | inr e ↦ rw e (omega arith) ]

-- what is sent of a cut tag
pub cut_taken : (v : ℕ) → IsVersion v → (t : List ℕ) → AreBytes 32 t → length (take (tag_len v) (cut v t)) ≡ tag_len v
cut_taken v is t h =
    let k = (cut_tag v is t h).bytes.0 in
    let m = most_sent v in
    length-take-le (tag_len v) (cut v t) (omega (arith, k, m))

none_read : (ps : List Program) (s : Schedule) (n : ℕ) → frame_read (new_world ps s) n ≡ None
none_read ps s n = elim (cases_Bool (n == 0)) [ inl e ↦ rw e refl | inr e ↦ rw e refl ]

zeros_are : AreBytes 32 no_tag
zeros_are = (refl, to_bytes no_tag (bytes-zeros 32))

-- what a source gives before any frame is recorded
pub tag_has : (ps : List Program) (s : Schedule) (text : List ℕ) (source : Source) → AreBytes 32 (tag_by real s (new_world ps s) text source)
tag_has ps s text (Key a b) = real_hash _
tag_has ps s text (CopyItem n i r) = rw (none_read ps s n) zeros_are
tag_has ps s text (CopySeal n) = rw (none_read ps s n) zeros_are
tag_has ps s text Zero = zeros_are
