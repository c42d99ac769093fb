-- Which answers have their names in a graph, and that the graph of others says nothing.
use Rattle.std.proofs.Common.{◌≡◌, ℕ, List, false, Option, None, true≢false, refl}
use Rattle.sg_protocol.specs.Calls.{Answer, Happened, Sends, NotActed, NotDelivered, ActFault, SendFault, Refusal}
use Rattle.sg_protocol.specs.Graph.{Graph}
use Rattle.sg_protocol.specs.Named.{names_numbers}
use Rattle.sg_report.specs.Lines.{reported_text}
use Rattle.sg_report.specs.Reported.{CanBeReported, Reported, reported_answer}

-- an answer that names no number has its names in any graph, or in none
pub reported-without_numbers : (graph : Option Graph) (n : ℕ) (a : Answer) → names_numbers a ≡ false → CanBeReported graph (reported_answer n a)
reported-without_numbers graph n (Happened e) h = absurd (true≢false h)
reported-without_numbers graph n (Sends e to f) h = absurd (true≢false h)
reported-without_numbers graph n (NotActed (ActFault.Send (SendFault.BadValues x))) h = absurd (true≢false h)
reported-without_numbers graph n (NotDelivered (Refusal.BadOpening x)) h = absurd (true≢false h)
reported-without_numbers graph n other h = tt

-- what has its names in no graph has none, so its text is the same by any
pub text-anywhere : (session : List ℕ) (g h : Graph) (t : Reported) → CanBeReported None t → reported_text session g t ≡ reported_text session h t
text-anywhere session g h (Reported.Happened e) k = absurd k
text-anywhere session g h (Reported.Sends e to frame) k = absurd k
text-anywhere session g h Reported.Abandoned k = refl
text-anywhere session g h (Reported.Crafted frame) k = refl
text-anywhere session g h (Reported.NotStarted fault) k = refl
text-anywhere session g h (Reported.NotActed ActFault.UnknownSession) k = refl
text-anywhere session g h (Reported.NotActed ActFault.NotYourTurn) k = refl
text-anywhere session g h (Reported.NotActed (ActFault.Send SendFault.NoSuchLabel)) k = refl
text-anywhere session g h (Reported.NotActed (ActFault.Send (SendFault.BadValues x))) k = absurd k
text-anywhere session g h (Reported.NotActed (ActFault.Send SendFault.TimeSpent)) k = refl
text-anywhere session g h Reported.NotAbandoned k = refl
text-anywhere session g h (Reported.NotDelivered (Refusal.Malformed at)) k = refl
text-anywhere session g h (Reported.NotDelivered Refusal.UnknownGraph) k = refl
text-anywhere session g h (Reported.NotDelivered Refusal.BadCast) k = refl
text-anywhere session g h (Reported.NotDelivered (Refusal.UnknownPeer name)) k = refl
text-anywhere session g h (Reported.NotDelivered Refusal.BadSession) k = refl
text-anywhere session g h (Reported.NotDelivered Refusal.Joined) k = refl
text-anywhere session g h (Reported.NotDelivered Refusal.CacheFull) k = refl
text-anywhere session g h (Reported.NotDelivered Refusal.SessionsFull) k = refl
text-anywhere session g h (Reported.NotDelivered Refusal.UnknownSession) k = refl
text-anywhere session g h (Reported.NotDelivered Refusal.NotWaiting) k = refl
text-anywhere session g h (Reported.NotDelivered Refusal.BadFrameTag) k = refl
text-anywhere session g h (Reported.NotDelivered Refusal.NoSuchView) k = refl
text-anywhere session g h (Reported.NotDelivered (Refusal.BadTime item got least)) k = refl
text-anywhere session g h (Reported.NotDelivered (Refusal.BadEvidence item)) k = refl
text-anywhere session g h (Reported.NotDelivered (Refusal.BadOpening x)) k = absurd k
text-anywhere session g h Reported.NoFrame k = refl
