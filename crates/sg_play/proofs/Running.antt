-- A call and the turn that it gives, one after another.
use Rattle.std.proofs.Common.{◌≡◌, ℕ, ◌+◌, ◌<◌, ◌≤◌, List, [], ◌∷◌, take, drop, length, get_or, Option, Some, Result, Ok, Err, sym, ap, ◌∙◌, subst, All}
use Rattle.std.specs.Option.{option_map_or}
use Rattle.std.proofs.lemmas.List.{take_all}
use Rattle.std.proofs.lemmas.List.Elements.{All-get_or}
use Rattle.sg_base.specs.declared.address.Addr.{Addr}
use Rattle.sg_protocol.specs.Calls.{Call, Start, Deliver}
use Rattle.sg_protocol.specs.Frame.{Cast}
use Rattle.sg_protocol.specs.Keyring.{Keyring, Program}
use Rattle.sg_script.specs.Script.{Start as ScriptStart, Choice, IsScript, IsStart, Script}
use Rattle.sg_play.specs.declared.fault.PlayFault.{PlayFault}
use Rattle.sg_play.specs.declared.fault.PlayFault.TheVariants.{LinkFailed, OutOfMemory}
use Rattle.sg_play.specs.declared.player.Player.{Player}
use Rattle.sg_play.specs.Ends.{Outside, Whole, Ended}
use Rattle.sg_play.specs.Played.{Play, all_deliveries, all_starts, answer_in, beginning, called, cast_of_start, played, plays_on, sid_answered, starts, with_turn, without, next_random}
use Rattle.sg_play.specs.Representation.{Progressed, RepresentsPlay}
use Rattle.sg_play.proofs.Coming.{ended_on, failed, no_link, no_memory, no_memory_by}
use Rattle.sg_play.proofs.Endings.{whole_none}
use Rattle.sg_play.proofs.Extends.{after_call, by_deliveries, by_starts, joined}
use Rattle.sg_play.proofs.Looping.{deliveries_on, delivery_next, start_next, starts_on, taken_all}

-- ---- a call

module _ (start now : Outside) (pl : Player) (random : Option (List (List ℕ))) (q : Play) (c : Call) where
  -- the turn was played
  pub turn_given : (sid : Option (List ℕ)) (r : Result (Unit {0}) PlayFault) → sid ≡ sid_answered (answer_in q c) → Progressed start now pl random (option_map_or (λ s. plays_on s (called q c)) sid (called q c)) r → Progressed start now pl random (with_turn q c) r
  turn_given sid r e h = subst (λ (o : Option (List ℕ)). Progressed start now pl random (option_map_or (λ s. plays_on s (called q c)) o (called q c)) r) e h

  -- the call ended early
  pub call_failed : (r : Result (Unit {0}) PlayFault) (f : PlayFault) → r ≡ Err f → Ended start now (called q c).steps (Err f) → Progressed start now pl random (with_turn q c) r
  call_failed r f e h = failed start now pl random (with_turn q c) r f e (ended_on start now (called q c) (with_turn q c) f (after_call q c) h)

-- ---- a start

-- a player represents the play with fewer random bytes to come
pub without_some : (n : ℕ) (pl : Player) (p : Play) → RepresentsPlay pl p → RepresentsPlay pl (without n p)
without_some n pl p s = record { node = s.node; answered = s.answered; keys = s.keys; programs = s.programs; choices = s.choices; names = s.names; steps = s.steps; frames = s.frames }

-- a start with the next sixteen random bytes as its nonce
pub start_is : (p : Play) (s : ScriptStart) (programs : List Program) (nonce : List ℕ) (cast : Cast) → p.past.programs ≡ programs → nonce ≡ next_random p.random → cast ≡ cast_of_start programs s nonce → with_turn (without 1 p) (Start cast) ≡ starts p s
start_is p s programs nonce cast held next e = ap (λ (c : Cast). with_turn (without 1 p) (Start c)) (e ∙ (λ i. cast_of_start (sym held i) s (next i)))

-- ---- starts

-- one of a list that are starts of these programs
pub start_held : (programs held : List Program) (ss : List ScriptStart) (i : ℕ) (s : ScriptStart) → All (IsStart programs) ss → held ≡ programs → i < length ss → s ≡ get_or ss i s → IsStart held s
start_held programs held ss i s h same l e = subst (λ (ps : List Program). IsStart ps s) (sym same) (subst (IsStart programs) (sym e) (All-get_or (IsStart programs) ss i s l h))

-- those of a script that was read beside them
pub starts_held : (programs held : List Program) (script : Script) (ss : List ScriptStart) (cs : List Choice) → IsScript programs script → record { starts = ss; choices = cs } ≡ script → held ≡ programs → All (IsStart held) ss
starts_held programs held script ss cs h is same =
    subst (λ (ps : List Program). All (IsStart ps) ss) (sym same) (subst (λ (z : List ScriptStart). All (IsStart programs) z) (ap (λ (z : Script). z.starts) (sym is)) h.starts)

module _ (start now : Outside) (pl : Player) (random : Option (List (List ℕ))) (p : Play) (ss : List ScriptStart) (i : ℕ) where
  -- one more
  pub start_more : (s : ScriptStart) → i < length ss → s ≡ get_or ss i s → Progressed start now pl random (starts (all_starts p (take i ss)) s) (Ok tt) → Progressed start now pl random (all_starts p (take (i + 1) ss)) (Ok tt)
  start_more s l e h = subst (λ (z : Play). Progressed start now pl random z (Ok tt)) (start_next p i ss s l e) h

  -- one that ended early
  pub start_failed : (s : ScriptStart) (r : Result (Unit {0}) PlayFault) (f : PlayFault) → i < length ss → s ≡ get_or ss i s → r ≡ Err f → Progressed start now pl random (starts (all_starts p (take i ss)) s) (Err f) → Progressed start now pl random (all_starts p ss) r
  start_failed s r f l e is h =
      failed start now pl random (all_starts p ss) r f is
      (ended_on start now (all_starts p (take (i + 1) ss)) (all_starts p ss) f (starts_on p (i + 1) ss) (subst (λ (z : Play). Ended start now z.steps (Err f)) (start_next p i ss s l e) h))

  -- all of them
  pub starts_done : length ss ≤ i → Progressed start now pl random (all_starts p (take i ss)) (Ok tt) → Progressed start now pl random (all_starts p ss) (Ok tt)
  starts_done l h = subst (λ (z : List ScriptStart). Progressed start now pl random (all_starts p z) (Ok tt)) (take_all i ss l) h

-- ---- deliveries

-- the outside as a link leaves it that sends nothing
pub nothing_sent : (start : Outside) (p : Play) (written : Option (List ℕ)) (old new : Option (List (Addr × List ℕ))) → new ≡ old → Whole start (record { written = written; sent = old }) p.steps → Whole start (record { written = written; sent = new }) p.steps
nothing_sent start p written old new e w = subst (λ (s : Option (List (Addr × List ℕ))). Whole start (record { written = written; sent = s }) p.steps) (sym e) w

module _ (start now : Outside) (pl : Player) (random : Option (List (List ℕ))) (p : Play) (ds : List (List ℕ)) (k : ℕ) where
  -- one more
  pub delivery_more : (b : List ℕ) → drop k ds ≡ b ∷ drop 1 (drop k ds) → Progressed start now pl random (with_turn (all_deliveries p (take k ds)) (Deliver b)) (Ok tt) → Progressed start now pl random (all_deliveries p (take (k + 1) ds)) (Ok tt)
  delivery_more b e h = subst (λ (z : Play). Progressed start now pl random z (Ok tt)) (delivery_next p k ds b e) h

  -- one that ended early
  pub delivery_failed : (b : List ℕ) (m : ℕ) (r : Result (Unit {0}) PlayFault) (f : PlayFault) → drop k ds ≡ b ∷ drop 1 (drop k ds) → k + 1 ≤ m → r ≡ Err f → Progressed start now pl random (with_turn (all_deliveries p (take k ds)) (Deliver b)) (Err f)
      → Progressed start now pl random (all_deliveries p (take m ds)) r
  delivery_failed b m r f e l is h =
      failed start now pl random (all_deliveries p (take m ds)) r f is
      (ended_on start now (all_deliveries p (take (k + 1) ds)) (all_deliveries p (take m ds)) f (deliveries_on p (k + 1) m ds l) (subst (λ (z : Play). Ended start now z.steps (Err f)) (delivery_next p k ds b e) h))

  -- the link's end
  pub link_ended : (m : ℕ) → k ≤ m → drop k ds ≡ [] → RepresentsPlay pl (all_deliveries p (take k ds)) → Whole start now (all_deliveries p (take k ds)).steps → random ≡ Some (all_deliveries p (take k ds)).random → Progressed start now pl random (all_deliveries p (take m ds)) (Ok tt)
  link_ended m l e s w left = subst (λ (z : List (List ℕ)). Progressed start now pl random (all_deliveries p z) (Ok tt)) (sym (taken_all k m ds l e)) ((s, w), left)

module _ {old : Option (List (Addr × List ℕ))} (start : Outside) (pl : Player) (random : Option (List (List ℕ))) (p : Play) (ds : List (List ℕ)) (k : ℕ) (written : Option (List ℕ)) (new : Option (List (Addr × List ℕ))) (same : new ≡ old) (m : ℕ) (within : k ≤ m)
    (w : Whole start (record { written = written; sent = old }) (all_deliveries p (take k ds)).steps) where
  -- the link gave none
  pub link_failed : Progressed start (record { written = written; sent = new }) pl random (all_deliveries p (take m ds)) (Err LinkFailed)
  link_failed = no_link start (record { written = written; sent = new }) (all_deliveries p (take k ds)) (all_deliveries p (take m ds)) (deliveries_on p k m ds within) (nothing_sent start (all_deliveries p (take k ds)) written old new same w)

  -- memory ran out for it
  pub link_full : Progressed start (record { written = written; sent = new }) pl random (all_deliveries p (take m ds)) (Err OutOfMemory)
  link_full = no_memory start (record { written = written; sent = new }) (all_deliveries p (take k ds)) (all_deliveries p (take m ds)) (deliveries_on p k m ds within) (nothing_sent start (all_deliveries p (take k ds)) written old new same w)

-- ---- a play

-- memory ran out before its first step
pub not_begun : (start : Outside) (keys : Keyring) (programs : List Program) (first : List (List ℕ × ℕ)) (script : Script) (deliveries random : List (List ℕ)) (f : PlayFault) → f ≡ OutOfMemory → Ended start start (played keys programs first script deliveries random).steps (Err f)
not_begun start keys programs first script deliveries random f is =
    let begun = beginning keys programs first script.choices random in
    let started = all_starts begun script.starts in
    no_memory_by start start begun (all_deliveries started deliveries) f is (joined begun started (all_deliveries started deliveries) (by_starts begun script.starts) (by_deliveries started deliveries)) (whole_none start)
