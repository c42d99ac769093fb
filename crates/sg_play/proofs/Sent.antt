-- What is reported of an answer says whether a frame was sent.
use Rattle.std.proofs.Common.{◌≡◌, ℕ, Bool, true, false, refl, ap, ◌∙◌, subst}
use Rattle.sg_model.specs.Names.{Name}
use Rattle.sg_protocol.specs.Calls as Protocol
use Rattle.sg_protocol.specs.Calls.{Answer}
use Rattle.sg_report.specs.declared.outcome.Outcome.{Outcome}
use Rattle.sg_report.specs.declared.outcome.Outcome.TheVariants as held
use Rattle.sg_receipt.specs.declared.answer.Happened.{Happened as Begun}
use Rattle.sg_report.specs.Outcome.{outcome_of}
use Rattle.sg_report.specs.Reported.{Reported, Sends, reported_answer}
use Rattle.sg_walk.specs.Model.{event_of}
use Rattle.sg_play.specs.Turns.{is_sent}

-- a frame was sent
abbrev tells_sent : Reported → Bool
tells_sent (Sends e to n) = true
tells_sent other = false

answer_sent : (k : ℕ) (a : Answer) → tells_sent (reported_answer k a) ≡ is_sent a
answer_sent k (Protocol.Sends e to f) = refl
answer_sent k other = refl

-- the answer is reported so
reported_so : (k : ℕ) (a : Answer) (t : Reported) → t ≡ reported_answer k a → tells_sent t ≡ is_sent a
reported_so k a t e = ap tells_sent e ∙ answer_sent k a

pub was_sent : (o : Outcome) (sent : Begun) (to : Name) (frame k : ℕ) (a : Answer) → o ≡ held.Sent sent to frame → outcome_of o ≡ reported_answer k a → true ≡ is_sent a
was_sent o sent to frame k a is e = reported_so k a (Sends (event_of sent.event) to frame) (subst (λ (z : Outcome). outcome_of z ≡ reported_answer k a) is e)

pub was_not : (o : Outcome) (k : ℕ) (a : Answer) → ((sent : Begun) (to : Name) (frame : ℕ) → o ≡ held.Sent sent to frame → ⊥) → outcome_of o ≡ reported_answer k a → false ≡ is_sent a
was_not (held.Sent sent to frame) k a never e = absurd (never sent to frame refl)
was_not other k a never e = reported_so k a (outcome_of other) e
