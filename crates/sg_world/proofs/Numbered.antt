-- The number of the frame that is reported of a step.
use Rattle.std.proofs.Common.{◌≡◌, ℕ, ◌+◌, ◌≤◌, List, [], ◌∷◌, ◌++◌, length, Option, None, Some, option_map, Bor, sym, subst, arith, length-append}
use Rattle.std.specs.Prelude.{IfSome}
use Rattle.std.proofs.lemmas.Option.{same_Some}
use Rattle.sg_model.specs.Last.{last}
use Rattle.sg_model.specs.Limits.{most_steps}
use Rattle.sg_protocol.specs.Calls as Protocol
use Rattle.sg_protocol.specs.Steps.{frame_number}
use Rattle.sg_protocol.specs.World as Core
use Rattle.sg_protocol.specs.World.{Logged}
use Rattle.sg_report.specs.Outcome.{outcome_of}
use Rattle.sg_report.specs.Reported.{Reported, Sends, Crafted, reported_outcome, reported_after, reported_log}
use Rattle.sg_report.specs.declared.outcome.Outcome.{Outcome}
use Rattle.sg_world.specs.FrameNumbers.{HasNumberUpTo}
use Rattle.sg_world.specs.Holds.{Holds}
use Rattle.sg_world.specs.RecordModel.{Recorded}
use Rattle.sg_setting.specs.Replay.{Replay, run_of}
use Rattle.sg_setting.specs.Setting.{Setting}
use Rattle.sg_world.proofs.Next.{few_framed}
use Rattle.sg_world.proofs.Pasts.{Named}
use Rattle.sg_world.proofs.Worlds.{replay, reported_many}

weaker : (n m : ℕ) (t : Reported) → n ≤ m → HasNumberUpTo n t → HasNumberUpTo m t
weaker n m (Sends e to frame) less h = omega (arith, less, h)
weaker n m (Crafted frame) less h = omega (arith, less, h)
weaker n m other less h = tt

-- a step records the frame after those before
numbered : (before : List Logged) (o : Core.Outcome) → HasNumberUpTo (length before + 1) (reported_outcome (frame_number before) o)
numbered before (Core.Outcome.Answered (Protocol.Answer.Sends e to f)) = (let few = few_framed before in omega (arith, few))
numbered before (Core.Outcome.Answered other) = tt
numbered before Core.Outcome.Crafted = (let few = few_framed before in omega (arith, few))
numbered before Core.Outcome.NoFrame = tt

last_numbered : (before ls : List Logged) (t : Reported) → last (reported_after before ls) ≡ Some t → HasNumberUpTo (length before + length (reported_after before ls)) t
last_numbered before [] t is = absurd (cc)
last_numbered before (l ∷ []) t is = subst (HasNumberUpTo (length before + 1)) (same_Some (reported_outcome (frame_number before) l.outcome) t is) (numbered before l.outcome)
last_numbered before (l ∷ x ∷ ls) t is =
    let more = length-append before (l ∷ []) in
    weaker (length (before ++ l ∷ []) + length (reported_after (before ++ l ∷ []) (x ∷ ls))) (length before + length (reported_after before (l ∷ x ∷ ls))) t (omega (arith, more)) (last_numbered (before ++ l ∷ []) (x ∷ ls) t is)

-- that of the last step is at most the number of steps
pub last_few : (rep : Replay) (d : Setting) (nodes : List Named) (r : Recorded) → replay d nodes r ≡ rep → Holds d nodes r → (o : Option (Bor Outcome)) → option_map (λ (x : Bor Outcome). outcome_of x.now) o ≡ last (reported_log (run_of rep).log)
    → IfSome o (λ (x : Bor Outcome). HasNumberUpTo most_steps (outcome_of x.now))
last_few rep d nodes r is h None same = tt
last_few rep d nodes r is h (Some x) same =
    let few = h.few in
    let many = reported_many rep d nodes r is h in
    weaker (0 + length (reported_log (run_of rep).log)) most_steps (outcome_of x.now) (omega (arith, few, many)) (last_numbered [] (run_of rep).log (outcome_of x.now) (sym same))
