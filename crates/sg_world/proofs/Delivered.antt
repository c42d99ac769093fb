-- What comes of a delivery.
use Rattle.std.proofs.Common.{◌≡◌, ℕ, List, Option, Some, None, option_and_then, option_map, Result, Ok, Err, IsErr, refl, sym, ◌∙◌, ap, subst}
use Rattle.std.specs.Result.{result_ok}
use Rattle.sg_protocol.specs.Calls.{Deliver}
use Rattle.sg_protocol.specs.Frame.{Frame}
use Rattle.sg_protocol.specs.Keyring.{Program}
use Rattle.sg_protocol.specs.Node.{Node}
use Rattle.sg_protocol.specs.NodeStates.{NodeState}
use Rattle.sg_protocol.specs.Notes.{session_of_frame}
use Rattle.sg_protocol.specs.Past.{Past}
use Rattle.sg_protocol.specs.Reading.{read}
use Rattle.sg_protocol.specs.Schedule as Core
use Rattle.sg_protocol.specs.Session.{Session}
use Rattle.sg_protocol.specs.Texts.{real}
use Rattle.sg_protocol.specs.Named.{graph_of_call}
use Rattle.sg_protocol.specs.World.{World, bytes_of, frame_at}
use Rattle.sg_sched.specs.Format.StepsHeld.{changed}
use Rattle.sg_sched.specs.declared.step.Change.{Change}
use Rattle.sg_sched.specs.declared.step.Change.TheVariants.{Whole, Flip, Cut}
use Rattle.sg_world.specs.StepResults.{IsResult, IsResultOfCall, changed_to}
use Rattle.sg_world.specs.RecordModel.{StepResult, no_frame}

-- the bytes of a frame that is there, or isn't
changed_some : (w : World) (n : ℕ) (change : Change) (bs : List ℕ) → frame_at w n ≡ Some bs → bytes_of w (changed n change) ≡ Some (changed_to change bs)
changed_some w n Whole bs e = e
changed_some w n (Flip at) bs e = ap (option_map (changed_to (Flip at))) e
changed_some w n (Cut len) bs e = ap (option_map (changed_to (Cut len))) e

changed_none : (w : World) (n : ℕ) (change : Change) → frame_at w n ≡ None → bytes_of w (changed n change) ≡ None
changed_none w n Whole e = e
changed_none w n (Flip at) e = ap (option_map (changed_to (Flip at))) e
changed_none w n (Cut len) e = ap (option_map (changed_to (Cut len))) e

-- what comes of a delivery of bytes
pub what_bytes : (number : ℕ) (old new : NodeState) (past : Past) (w : World) (x : Core.What) (bs : List ℕ) (c : StepResult) → x ≡ Core.Bytes bs
    → IsResultOfCall number old new past (Deliver bs) c → IsResult number old new past (option_map Deliver (bytes_of w x)) c
what_bytes number old new past w x bs c e h = subst (λ (z : Core.What). IsResult number old new past (option_map Deliver (bytes_of w z)) c) (sym e) h

-- of a frame that isn't there
pub what_none : (number : ℕ) (state : NodeState) (past : Past) (w : World) (x : Core.What) (n : ℕ) (change : Change) (c : StepResult) → x ≡ changed n change → frame_at w n ≡ None
    → c ≡ no_frame → IsResult number state state past (option_map Deliver (bytes_of w x)) c
what_none number state past w x n change c e none h = subst (λ (o : Option (List ℕ)). IsResult number state state past (option_map Deliver o) c) (sym (ap (bytes_of w) e ∙ changed_none w n change none)) (h, refl)

-- of one that is
pub what_some : (number : ℕ) (old new : NodeState) (past : Past) (w : World) (x : Core.What) (n : ℕ) (change : Change) (bs : List ℕ) (c : StepResult) → x ≡ changed n change → frame_at w n ≡ Some bs
    → IsResultOfCall number old new past (Deliver (changed_to change bs)) c → IsResult number old new past (option_map Deliver (bytes_of w x)) c
what_some number old new past w x n change bs c e some h =
    subst (λ (o : Option (List ℕ)). IsResult number old new past (option_map Deliver o) c) (sym (ap (bytes_of w) e ∙ changed_some w n change bs some)) h

-- bytes that are no frame are of no graph
pub unread : (n : Node) (bs : List ℕ) → IsErr (read bs) → None ≡ graph_of_call real n (Deliver bs)
unread n bs e = go (read bs) e
  where
    go : (r : Result Frame ℕ) → IsErr r → None ≡ option_map (λ (x : Program × Session). x.0.graph) (option_and_then (session_of_frame n) (result_ok r))
    go (Ok f) h = absurd (cc)
    go (Err e) h = refl
