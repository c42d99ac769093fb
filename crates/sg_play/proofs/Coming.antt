-- How a play comes to another: by whole steps, or to an early end.
use Rattle.std.proofs.Common.{◌≡◌, ◌≢◌, ℕ, List, [], ◌∷◌, Option, Some, Result, Ok, Err, OnOk, refl, sym, subst}
use Rattle.sg_base.specs.declared.address.Addr.{Addr}
use Rattle.sg_base.specs.Outside.{Appends, AppendsPrefix}
use Rattle.sg_protocol.specs.Calls.{Call}
use Rattle.sg_play.specs.declared.fault.PlayFault.{PlayFault}
use Rattle.sg_play.specs.declared.fault.PlayFault.TheVariants.{LinkFailed, WriteFailed, OutOfMemory}
use Rattle.sg_play.specs.declared.player.Player.{Player}
use Rattle.sg_play.specs.Ends.{Outside, Whole, Ended}
use Rattle.sg_play.specs.Played.{Play, called, step_in}
use Rattle.sg_play.specs.Representation.{ProgressedOnItsWay, Progressed, RepresentsPlay}
use Rattle.sg_play.specs.Steps.{Step}
use Rattle.sg_play.proofs.Endings.{begun, ended_more, stopped, whole_more}
use Rattle.sg_play.proofs.Extends.{Extends}

-- an early end of a play is one of each that goes on
pub ended_on : (start now : Outside) (p q : Play) (f : PlayFault) → Extends p q → Ended start now p.steps (Err f) → Ended start now q.steps (Err f)
ended_on start now p q f e h = subst (λ (l : List Step). Ended start now l (Err f)) (sym e.1) (ended_more start now p.steps e.0 f h)

-- if memory runs out between steps, or the link gives no delivery
pub no_memory : (start now : Outside) (p q : Play) → Extends p q → Whole start now p.steps → Ended start now q.steps (Err OutOfMemory)
no_memory start now p q e w = record { prefix = p.steps; rest = e.0; is = e.1; whole = w }

pub no_link : (start now : Outside) (p q : Play) → Extends p q → Whole start now p.steps → Ended start now q.steps (Err LinkFailed)
no_link start now p q e w = record { prefix = p.steps; rest = e.0; is = e.1; whole = w }

-- a fault that is `OutOfMemory`
pub no_memory_by : (start now : Outside) (p q : Play) (f : PlayFault) → f ≡ OutOfMemory → Extends p q → Whole start now p.steps → Ended start now q.steps (Err f)
no_memory_by start now p q f is e w = subst (λ (x : PlayFault). Ended start now q.steps (Err x)) (sym is) (no_memory start now p q e w)

-- what was given of a step
pub came_after : (start old new : Outside) (pl : Player) (p : Play) (c : Call) (line : List ℕ) (made : List (Addr × List ℕ)) (r : Result (Unit {0}) PlayFault) → Whole start old p.steps → RepresentsPlay pl (called p c)
    → line ≡ (step_in p c).line → made ≡ (step_in p c).frames → r ≢ Err OutOfMemory → OnOk r (Appends old.written new.written line) → (r ≢ Err LinkFailed → Appends old.sent new.sent made)
    → (r ≡ Err WriteFailed → AppendsPrefix old.written new.written line) → (r ≡ Err LinkFailed → new.sent ≡ old.sent) → (r ≡ Err LinkFailed → new.written ≡ old.written) → ProgressedOnItsWay start new pl (called p c) r
came_after start old new pl p c line made (Ok u) w represents l m memory whole frames prefix no_frame no_line =
    (represents, whole_more start old new p.steps (step_in p c) w (subst (Appends old.written new.written) l whole) (subst (Appends old.sent new.sent) m (frames (λ e. cc))))
came_after start old new pl p c line made (Err LinkFailed) w represents l m memory whole frames prefix no_frame no_line =
    let sent = no_frame refl in
    let written = no_line refl in
    stopped start old new p.steps (step_in p c ∷ []) w (λ i. record { written = written i; sent = sent i })
came_after start old new pl p c line made (Err WriteFailed) w represents l m memory whole frames prefix no_frame no_line =
    begun start old new p.steps [] (step_in p c) w (subst (AppendsPrefix old.written new.written) l (prefix refl)) (subst (Appends old.sent new.sent) m (frames (λ e. cc)))
came_after start old new pl p c line made (Err OutOfMemory) w represents l m memory whole frames prefix no_frame no_line = absurd (memory refl)

-- ---- one after another

-- no random bytes were taken
pub with_random : (start now : Outside) (pl : Player) (random : Option (List (List ℕ))) (p : Play) (r : Result (Unit {0}) PlayFault) → random ≡ Some p.random → ProgressedOnItsWay start now pl p r → Progressed start now pl random p r
with_random start now pl random p (Ok u) w h = (h, w)
with_random start now pl random p (Err f) w h = h

-- an early end, as what was answered says it
pub failed : (start now : Outside) (pl : Player) (random : Option (List (List ℕ))) (p : Play) (r : Result (Unit {0}) PlayFault) (f : PlayFault) → r ≡ Err f → Ended start now p.steps (Err f) → Progressed start now pl random p r
failed start now pl random p r f e h = subst (λ (z : Result (Unit {0}) PlayFault). Progressed start now pl random p z) (sym e) h

-- what was given the outside
pub ended_so : (start now : Outside) (pl : Player) (random : Option (List (List ℕ))) (p : Play) (r : Result (Unit {0}) PlayFault) → Progressed start now pl random p r → Ended start now p.steps r
ended_so start now pl random p (Ok u) h = h.0.1
ended_so start now pl random p (Err f) h = h
