-- What a line came to, by the outcome of its request.
use Rattle.std.proofs.Common.{◌≡◌, ⊎_elim, inl, inr, ℕ, Bool, true, false, List, [], ◌∷◌, Option, Some, None, Result, Ok, Err, OnOk, refl, sym, ap, ◌∙◌, subst}
use Rattle.sg_base.specs.declared.address.Addr.{Addr}
use Rattle.sg_input.specs.Lines.{Line}
use Rattle.sg_joins.specs.Images.{AllRepresent}
use Rattle.sg_ledger.specs.Format.{Represents}
use Rattle.sg_play.specs.Steps.{Step}
use Rattle.sg_request.specs.declared.request.Request.{Request}
use Rattle.sg_request.specs.declared.request.Request.TheVariants as request
use Rattle.sg_wait.specs.Waiting.{received}
use Rattle.sg_wait.specs.declared.coming.Coming.{Coming}
use Rattle.sg_serve.specs.declared.fault.ServeFault.{ServeFault}
use Rattle.sg_serve.specs.declared.server.Server.{Server}
use Rattle.sg_serve.specs.Lines.{Run, asked, asks_quit, given, gives, is_quit, receipt, receives, before_quit, with_line}
use Rattle.sg_serve.specs.Served.{RepresentBetween, joins_of}
use Rattle.sg_serve.specs.Serving.{Reply, Serving, replies, takes}
use Rattle.sg_serve.specs.Representation.{ProgressedToAnswer, Received, Replied, RepresentEither, some_ok}
use Rattle.sg_serve.proofs.Giving.{goes_behind}

-- all joins so far are kept
pub between_all : (images : List ℕ → Type 0) (r : Run) (rest : List Line) → AllRepresent images (joins_of r.serving) → RepresentBetween images r rest
between_all images r [] all = all
between_all images r (line ∷ lines) all = λ image left. inl (all image left)

-- the joins of a line that came to this reply
between_so : (images : List ℕ → Type 0) (r run : Run) (line : Line) (reply : Reply) (t : Bool) (later : List Line) → asks_quit line ≡ false → with_line t r line ≡ gives t run reply → RepresentEither images r.serving reply → RepresentBetween images r (before_quit (line ∷ later))
between_so images r run line reply t later goes e h = subst (RepresentBetween images r) (sym (goes_behind line later goes)) (λ image left.
    ⊎_elim (λ x. inl x) (λ x. inr (t, subst (λ (y : Run). Represents image (joins_of y.serving)) (sym e) x)) (h image left))

-- a request that asks nothing of the link but to take a frame
pub plain : (images : List ℕ → Type 0) (sv : Server) (random : Option (List (List ℕ))) (coming : Option (List Coming)) (old new : ℕ) (r : Run) (line : Line) (reply : Reply) (res : Result Step ServeFault) → asks_quit line ≡ false
    → ((took : Bool) → with_line took r line ≡ gives took r reply) → OnOk res (random ≡ Some (reply.0).play.random) → coming ≡ Some r.coming → Replied images r.serving sv reply res → ProgressedToAnswer images sv random coming old new r line (some_ok res)
plain images sv random coming old new r line reply (Ok step) goes e w c h = record {
  run = r;
  reply = reply;
  goes_on = goes;
  replied = h;
  random_left = w;
  coming_left = c;
  answers = refl;
  failures = refl;
  fits = λ took quiet. (took, e took, refl, λ x. inl x);
}
plain images sv random coming old new r line reply (Err fault) goes e w c h = λ later. between_so images r r line reply true later goes (e true) h

-- ---- a wait

receipt_same : (got limited : Bool) (r : Run) → ((receipt got limited r).0.answers ≡ r.answers) × ((receipt got limited r).0.failures ≡ r.failures)
receipt_same true limited r = (refl, refl)
receipt_same false limited r = (refl, refl)

takes_random : (s : Serving) (found : Option (List ℕ)) → (takes s found).0.play.random ≡ s.play.random
takes_random s None = refl
takes_random s (Some bytes) = refl

receipt_random : (got limited : Bool) (r : Run) → (receipt got limited r).1.0.play.random ≡ r.serving.play.random
receipt_random true limited r = takes_random r.serving (received limited r.coming).0
receipt_random false limited r = refl

-- if there is no frame, it doesn't matter whether the link takes it
same_quiet : (line : List ℕ) (frames : List (Addr × List ℕ)) → frames ≡ [] → given true (record { line = line; frames = frames }) ≡ given false (record { line = line; frames = frames })
same_quiet line [] e = refl
same_quiet line (f ∷ fs) e = absurd (cc)

given_quiet : (a b : Bool) (s : Step) → s.frames ≡ [] → given a s ≡ given b s
given_quiet true true s e = refl
given_quiet false false s e = refl
given_quiet true false s e = same_quiet s.line s.frames e
given_quiet false true s e = sym (same_quiet s.line s.frames e)

pub waited : (images : List ℕ → Type 0) (sv : Server) (random : Option (List (List ℕ))) (coming : Option (List Coming)) (old new : ℕ) (r : Run) (line : Line) (limited : Bool) (res : Result Step ServeFault) → asks_quit line ≡ false
    → ((took : Bool) → with_line took r line ≡ receives took limited r) → random ≡ Some r.serving.play.random → Received images sv coming old new r limited res → ProgressedToAnswer images sv random coming old new r line (some_ok res)
waited images sv random coming old new r line limited (Ok step) goes e w h = record {
  run = (receipt h.got limited r).0;
  reply = (receipt h.got limited r).1;
  goes_on = goes;
  replied = h.replied;
  random_left = w ∙ ap Some (sym (receipt_random h.got limited r));
  coming_left = h.coming_left;
  answers = (receipt_same h.got limited r).0;
  failures = (receipt_same h.got limited r).1;
  fits = λ took quiet. (h.got, e h.got, given_quiet h.got took (receipt h.got limited r).1.1 (ap (λ (s : Step). s.frames) (sym h.replied.is_step) ∙ h.quiet), λ x. inr (h.risen x));
}
waited images sv random coming old new r line limited (Err fault) goes e w h = λ later. between_so images r (receipt true limited r).0 line (receipt true limited r).1 true later goes (e true) h

-- ---- what a line asks

-- a request other than a wait
pub asked_plain : (took : Bool) (r : Run) (q : Request) → ((within : Option ℕ) → q ≡ request.Receive within → ⊥) → asked took r q ≡ gives took r (replies r.serving q)
asked_plain took r (request.Start graph version names) not = refl
asked_plain took r (request.Act n label values) not = refl
asked_plain took r (request.Abandon n) not = refl
asked_plain took r (request.Receive within) not = absurd (not within refl)
asked_plain took r (request.Again n) not = refl
asked_plain took r (request.Turn n) not = refl
asked_plain took r (request.Id n) not = refl
asked_plain took r request.Quit not = refl

-- one other than that for the end
pub not_quit : (q : Request) → (q ≡ request.Quit → ⊥) → is_quit q ≡ false
not_quit (request.Start graph version names) not = refl
not_quit (request.Act n label values) not = refl
not_quit (request.Abandon n) not = refl
not_quit (request.Receive within) not = refl
not_quit (request.Again n) not = refl
not_quit (request.Turn n) not = refl
not_quit (request.Id n) not = refl
not_quit request.Quit not = absurd (not refl)
