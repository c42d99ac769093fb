-- A run that is generated goes on: its steps stay, and what a record was before them too.
use Rattle.std.proofs.Common.{◌≡◌, ℕ, zero, suc, ◌+◌, ◌%◌, ◌≤◌, Bool, true, false, if◌then◌else◌, nat_lt, List, [], ◌∷◌, ◌++◌, length, slice_get, Option, Some, None, refl, sym, ap, ◌∙◌, subst, append_assoc, append-nil, arith, length-append}
use Rattle.std.specs.Prelude.{Result, Err, IfErr}
use Rattle.std.proofs.lemmas.List.{take-append-le}
use Rattle.sg_graph.specs.Edges.{leaving_from}
use Rattle.sg_model.specs.Shape.{receiver, target}
use Rattle.sg_protocol.specs.Graph.{Graph, shape, writes}
use Rattle.sg_protocol.specs.Schedule.{Step, StartStep, ActStep, AbandonStep, DeliverStep, Whole}
use Rattle.sg_world.specs.Faults.{IsFull}
use Rattle.sg_setting.specs.Replay.{Replay, size_of, up_to}
use Rattle.sg_sessions.specs.Draws.{draw}
use Rattle.sg_drive.specs.Faults.{IsFullAt, IsStopped}
use Rattle.sg_drive.specs.Generated.{Fate, Delivered, Delayed, Repeated, Lost, accepted_time, begin, begin_all, chosen, deliver, fate_of, goes_on, goes_on_by, gone_on, meet, number_sent, play, play_along, play_by, player_at, put_back, take_out, turn, turns, values_drawn, with_frame, with_sent}
use Rattle.sg_drive.specs.Going.{Going, Pending, reported_last, drawing, taking}
use Rattle.sg_sessions.specs.Setup.{player}
use Rattle.sg_drive.specs.declared.fault.GenerateFault.{GenerateFault}
use Rattle.sg_drive.specs.declared.fault.GenerateFault.TheVariants.{RecordFull, OutOfMemory}

-- ---- replays

-- the replay with these steps more
abbrev pub with_more : Replay → List Step → Replay
with_more r more = record r { schedule = record (r.schedule) { steps = r.schedule.steps ++ more } }

-- the second replay goes on from the first
pub record Extends (r r2 : Replay) : Type 0 where
  pub more : List Step
  pub is : r2 ≡ with_more r more

pub extends_itself : (r : Replay) → Extends r r
extends_itself r = record { more = []; is = ap (λ (xs : List Step). let z : Replay = record r { schedule = record (r.schedule) { steps = xs } } in z) (sym (append-nil r.schedule.steps)) }

pub extends_same : (r r2 : Replay) → r2 ≡ r → Extends r r2
extends_same r r2 e = subst (λ (z : Replay). Extends r z) (sym e) (extends_itself r)

pub extends_both : (r r2 r3 : Replay) → Extends r r2 → Extends r2 r3 → Extends r r3
extends_both r r2 r3 a b = record {
  more = a.more ++ b.more;
  is = b.is ∙ ap (λ (z : Replay). with_more z b.more) a.is
      ∙ ap (λ (xs : List Step). let z : Replay = record r { schedule = record (r.schedule) { steps = xs } } in z) (append_assoc r.schedule.steps a.more b.more);
}

-- what was recorded before a step stays
before_same : (r : Replay) (more : List Step) (n : ℕ) → n ≤ length r.schedule.steps → up_to n (with_more r more) ≡ up_to n r
before_same r more n h = ap (λ (xs : List Step). let z : Replay = record r { schedule = record (r.schedule) { steps = xs } } in z) (take-append-le n r.schedule.steps more h)

pub full_more : (r r2 : Replay) (bytes : ℕ) → Extends r r2 → IsFullAt r bytes → IsFullAt r2 bytes
full_more r r2 bytes x f = subst (λ (z : Replay). IsFullAt z bytes) (sym x.is) (record {
  before = f.before;
  begins = (let l = length-append r.schedule.steps x.more in let b = f.begins in omega arith);
  full = subst IsFull (sym (before_same r x.more f.before (let b = f.begins in omega arith))) f.full;
  first = λ n h k. f.first n h (subst IsFull (before_same r x.more n (let b = f.begins in omega arith)) k);
  size = f.size ∙ ap size_of (sym (before_same r x.more f.before (let b = f.begins in omega arith)));
})

pub stopped_more : (r r2 : Replay) (e : GenerateFault) → Extends r r2 → IsStopped r e → IsStopped r2 e
stopped_more r r2 (RecordFull bytes) x f = full_more r r2 bytes x f
stopped_more r r2 OutOfMemory x f = tt

-- an answer that is this fault
pub err_is : {V E : Type 0} (r : Result V E) (e : E) (P : E → Type 0) → r ≡ Err e → P e → IfErr r P
err_is r e P q h = subst (λ z. IfErr z P) (sym q) h

-- ---- the rules

-- the second run goes on from the first
abbrev pub Goes : Going → Going → Type 0
Goes x y = Extends x.replay y.replay

pub goes_taking : (s : Step) (x : Going) → Goes x (taking s x)
goes_taking s x = record { more = s ∷ []; is = refl }

with_frame_goes : (session label : ℕ) (o : Option ℕ) (x : Going) → (with_frame session label o x).replay ≡ x.replay
with_frame_goes session label None x = refl
with_frame_goes session label (Some n) x = refl

pub goes_with_sent : (session label : ℕ) (x : Going) → Goes x (with_sent session label x)
goes_with_sent session label x = extends_same x.replay (with_sent session label x).replay (with_frame_goes session label (number_sent (reported_last x)) x)

module _ (seed : ℕ) (g : Graph) where
  pub goes_play_along : (session node label : ℕ) (x : Going) → Goes x (play_along seed g session node label x)
  goes_play_along session node label x =
      let s : Step = ActStep (player_at g node) session label (values_drawn seed x.draws g (writes g label)) in
      let y : Going = taking s (drawing (length (writes g label)) x) in
      extends_both x.replay y.replay (with_sent session label y).replay (goes_taking s (drawing (length (writes g label)) x)) (goes_with_sent session label y)

  goes_play_by : (session node : ℕ) (labels : List ℕ) (x : Going) → Goes x (play_by seed g session node labels x)
  goes_play_by session node [] x = extends_itself x.replay
  goes_play_by session node (e ∷ es) x = goes_play_along session node (chosen (e ∷ es) (draw seed x.draws)) (drawing 1 x)

  pub goes_play : (session node : ℕ) (x : Going) → Goes x (play seed g session node x)
  goes_play session node x = goes_play_by session node (leaving_from g node) x

  goes_goes_on_by : (session node time : ℕ) (labels : List ℕ) (x : Going) → Goes x (goes_on_by seed g session node time labels x)
  goes_goes_on_by session node time [] x = extends_itself x.replay
  goes_goes_on_by session node time (e ∷ es) x = by (nat_lt time 16)
    where
      by : (b : Bool) → Goes x (if b then play seed g session node x else taking (AbandonStep (player_at g node) session) x)
      by true = goes_play session node x
      by false = goes_taking (AbandonStep (player_at g node) session) x

  goes_goes_on : (p : Pending) (time : Option ℕ) (x : Going) → Goes x (goes_on seed g p time x)
  goes_goes_on p None x = extends_itself x.replay
  goes_goes_on p (Some time) x = goes_goes_on_by p.session (target (shape g) p.label) time (leaving_from g (target (shape g) p.label)) x

  pub goes_gone_on : (p : Pending) (x : Going) → Goes x (gone_on seed g p x)
  goes_gone_on p x = goes_goes_on p (accepted_time (reported_last x)) x

  pub goes_deliver : (p : Pending) (x : Going) → Goes x (deliver seed g p x)
  goes_deliver p x =
      let s : Step = DeliverStep (player (receiver (shape g) p.label)) (Whole p.frame) in
      extends_both x.replay (taking s x).replay (gone_on seed g p (taking s x)).replay (goes_taking s x) (goes_gone_on p (taking s x))

  pub goes_meet : (p : Pending) (fate : Fate) (x : Going) → Goes x (meet seed g p fate x)
  goes_meet p Delivered x = goes_deliver p x
  goes_meet p Delayed x = extends_itself x.replay
  goes_meet p Repeated x = goes_deliver p (put_back p x)
  goes_meet p Lost x = extends_itself x.replay

  goes_take_out : (index : ℕ) (o : Option Pending) (x : Going) → Goes x (take_out seed g index o x)
  goes_take_out index None x = extends_itself x.replay
  goes_take_out index (Some p) x = goes_meet p (fate_of p.count (draw seed (x.draws + 1) % 16)) _

  pub goes_turn : (x : Going) → Goes x (turn seed g x)
  goes_turn x = let index : ℕ = draw seed x.draws % length x.pending in goes_take_out index (slice_get x.pending index) x

  pub goes_turns : (n : ℕ) (x : Going) → Goes x (turns n seed g x)
  goes_turns zero x = extends_itself x.replay
  goes_turns (suc n) x = extends_both x.replay (turns n seed g x).replay (turn seed g (turns n seed g x)).replay (goes_turns n x) (goes_turn (turns n seed g x))

  pub goes_begin : (session : ℕ) (x : Going) → Goes x (begin seed g session x)
  goes_begin session x =
      let s : Step = StartStep (player_at g 0) session in
      extends_both x.replay (taking s x).replay (play seed g session 0 (taking s x)).replay (goes_taking s x) (goes_play session 0 (taking s x))

  pub goes_begin_all : (first n : ℕ) (x : Going) → Goes x (begin_all seed g first n x)
  goes_begin_all first zero x = extends_itself x.replay
  goes_begin_all first (suc n) x =
      extends_both x.replay (begin_all seed g first n x).replay (begin seed g (first + n) (begin_all seed g first n x)).replay (goes_begin_all first n x) (goes_begin (first + n) (begin_all seed g first n x))
