-- What a request or a wait came to, by what came of its parts.
use Rattle.std.proofs.Common.{◌≡◌, ◌≤◌, ℕ, ◌-◌, Bool, true, false, List, [], ◌∷◌, Option, Some, None, is_some, IfOk, OnOk, Result, Ok, Err, refl, sym, ap, ◌∙◌, subst, arith}
use Rattle.std.specs.Prelude.{IfErr, slice_get}
use Rattle.std.specs.Option.{option_map_or}
use Rattle.sg_again.specs.LastFrames.{SentFrame, frame_of}
use Rattle.sg_answers.specs.Answers.{failed_text, nothing_text, unknown_text, wrong_text}
use Rattle.sg_answers.specs.declared.line.Wrong.TheVariants.{Form}
use Rattle.sg_base.specs.Outside.{HasRisen}
use Rattle.sg_input.specs.Lines.{Line, Whole}
use Rattle.sg_joins.specs.Images.{AllRepresent}
use Rattle.sg_model.specs.Lists.{first_some}
use Rattle.sg_play.specs.Faults.{CountsFaultAlone}
use Rattle.sg_play.specs.Steps.{Step, frames_in}
use Rattle.sg_protocol.specs.Calls.{Event, Refusal}
use Rattle.sg_protocol.specs.Frame.{Frame}
use Rattle.sg_protocol.specs.Keyring.{Keyring}
use Rattle.sg_protocol.specs.Past.{node_of}
use Rattle.sg_protocol.specs.Reading.{read}
use Rattle.sg_protocol.specs.Texts.{real}
use Rattle.sg_protocol.specs.Verdict.{decided, receipt as receipt_of, rows, verdict_on}
use Rattle.sg_request.specs.Request.{request_of}
use Rattle.sg_request.specs.declared.request.Request.{Request}
use Rattle.sg_request.specs.declared.request.Request.TheVariants as request
use Rattle.sg_wait.specs.Waiting.{received}
use Rattle.sg_wait.specs.declared.coming.Coming.{Coming}
use Rattle.sg_serve.specs.declared.fault.ServeFault.{ServeFault}
use Rattle.sg_serve.specs.declared.fault.ServeFault.TheVariants.{DiskFailed}
use Rattle.sg_serve.specs.declared.server.Server.{Server}
use Rattle.sg_serve.specs.Lines.{Run, asked, asks_quit, gives, is_quit, receipt, before_quit, with_line}
use Rattle.sg_serve.specs.Served.{RepresentBetween, images_if, joins_of}
use Rattle.sg_serve.specs.Serving.{Reply, Serving, of_session, repeats, replies, says, sends_again, sids_of, takes}
use Rattle.sg_serve.specs.Representation.{ProgressedToAnswer, HasReplied, HoldsJoins, Received, Replied, RepresentEither, RepresentsServing, some_ok}
use Rattle.sg_serve.proofs.Answering.{asked_plain, between_all, not_quit, plain, waited}
use Rattle.sg_serve.proofs.Asking.{holds_all}
use Rattle.sg_serve.proofs.Counting.{alone_passed, alone_went}
use Rattle.sg_serve.proofs.Replying.{none_called, replied_so, said}

-- ---- words

-- words that no request on a session takes
pub session_random : (s : Serving) (o : Option (List ℕ)) (text : List ℕ) (f : List ℕ → Reply) → ((sid : List ℕ) → (f sid).0.play.random ≡ s.play.random) → (option_map_or f o (says s text)).0.play.random ≡ s.play.random
session_random s None text f h = refl
session_random s (Some sid) text f h = h sid

again_random : (s : Serving) (o : Option SentFrame) (text : List ℕ) → (option_map_or (repeats s) o (says s text)).0.play.random ≡ s.play.random
again_random s None text = refl
again_random s (Some f) text = refl

pub of_again : (s : Serving) (n : ℕ) → s.play.random ≡ (of_session s n (sends_again s n)).0.play.random
of_again s n = sym (session_random s (slice_get (sids_of s.play) (n - 1)) (unknown_text n) (sends_again s n) (λ sid. again_random s (frame_of s.last sid) (nothing_text n)))

pub of_says : (s : Serving) (n : ℕ) (text : List ℕ → List ℕ) → s.play.random ≡ (of_session s n (λ sid. says s (text sid))).0.play.random
of_says s n text = sym (session_random s (slice_get (sids_of s.play) (n - 1)) (unknown_text n) (λ sid. says s (text sid)) (λ sid. refl))

-- what holds anyway on Ok
pub on_ok : {T E : Type 0} (r : Result T E) (P : Type 0) → P → OnOk r P
on_ok (Ok t) P h = h
on_ok (Err e) P h = tt

-- what follows on Ok
pub mapped_ok : {T E : Type 0} (r : Result T E) (P Q : Type 0) → (P → Q) → OnOk r P → OnOk r Q
mapped_ok (Ok t) P Q f h = f h
mapped_ok (Err e) P Q f h = tt

-- ---- what failed without a call

-- a request that keeps no join: on Ok it replied, and otherwise the joins are kept
pub replied_plain : (sv new : Server) (may_leave : List ℕ → Type 0) (s : Serving) (a : Reply) (r : Result Step ServeFault) → HoldsJoins sv may_leave → RepresentsServing sv s → IfOk r (λ step. HasReplied new step a) → Replied (images_if (is_some sv.ledger) may_leave) s new a r
replied_plain sv new may_leave s a r holds st h = replied_so (images_if (is_some sv.ledger) may_leave) s new a r h (none_called (images_if (is_some sv.ledger) may_leave) s a (holds_all sv sv may_leave s refl holds st))

-- ---- a delivery makes no frame

frames_decided : (keys : Keyring) (e : Event) (o : Option Refusal) → frames_in keys (decided e o) ≡ []
frames_decided keys e None = refl
frames_decided keys e (Some r) = refl

takes_quiet : (s : Serving) (found : Option (List ℕ)) → (takes s found).1.frames ≡ []
takes_quiet s None = refl
takes_quiet s (Some bytes) = by_read (read bytes)
  where
    by_read : (r : Result Frame ℕ) → frames_in s.play.past.keys (verdict_on real (node_of s.play.past) r) ≡ []
    by_read (Err at) = refl
    by_read (Ok f) = frames_decided s.play.past.keys (receipt_of f) (first_some (rows real (node_of s.play.past) f))

-- ---- a wait

-- the link gave a delivery, or nothing
pub wait_given : (images : List ℕ → Type 0) (sv : Server) (coming : Option (List Coming)) (old new : ℕ) (r : Run) (limited : Bool) (found : Option (List ℕ)) (res : Result Step ServeFault) → found ≡ (received limited r.coming).0 → coming ≡ Some (received limited r.coming).1
    → Replied images r.serving sv (takes r.serving found) res → Received images sv coming old new r limited res
wait_given images sv coming old new r limited found (Ok step) f c h = record {
  got = true;
  replied = subst (λ (o : Option (List ℕ)). HasReplied sv step (takes r.serving o)) f h;
  quiet = ap (λ (s : Step). s.frames) h.is_step ∙ takes_quiet r.serving found;
  risen = λ e. absurd (cc);
  coming_left = c;
}
wait_given images sv coming old new r limited found (Err fault) f c h = subst (λ (o : Option (List ℕ)). RepresentEither images r.serving (takes r.serving o)) f h

-- the link failed, which is said
pub wait_failed : (images : List ℕ → Type 0) (sv : Server) (coming : Option (List Coming)) (old new : ℕ) (r : Run) (limited : Bool) (res : Result Step ServeFault) → AllRepresent images (joins_of r.serving) → RepresentsServing sv r.serving → HasRisen old new → coming ≡ Some r.coming
    → IfOk res (λ x. x ≡ record { line = failed_text; frames = [] }) → Received images sv coming old new r limited res
wait_failed images sv coming old new r limited (Ok step) all st risen c h = record {
  got = false;
  replied = record { represents = st; is_step = h };
  quiet = ap (λ (s : Step). s.frames) h;
  risen = λ e. risen;
  coming_left = c;
}
wait_failed images sv coming old new r limited (Err fault) all st risen c h = none_called images r.serving (receipt true limited r).1 all

-- ---- a line

-- a line whose form is wrong
pub wrong_form : (images : List ℕ → Type 0) (sv : Server) (random : Option (List (List ℕ))) (coming : Option (List Coming)) (old new : ℕ) (r : Run) (line : Line) (res : Result Step ServeFault) → asks_quit line ≡ false → ((took : Bool) → with_line took r line ≡ gives took r (says r.serving (wrong_text Form)))
    → AllRepresent images (joins_of r.serving) → RepresentsServing sv r.serving → random ≡ Some r.serving.play.random → coming ≡ Some r.coming → IfOk res (λ x. x ≡ record { line = wrong_text Form; frames = [] }) → ProgressedToAnswer images sv random coming old new r line (some_ok res)
wrong_form images sv random coming old new r line res goes e all st w c h =
    plain images sv random coming old new r line (says r.serving (wrong_text Form)) res goes e (on_ok res _ w) c
    (replied_so images r.serving sv (says r.serving (wrong_text Form)) res (said sv r.serving (wrong_text Form) res st h) (none_called images r.serving (says r.serving (wrong_text Form)) all))

-- bytes that are no request
pub no_request : (images : List ℕ → Type 0) (sv : Server) (random : Option (List (List ℕ))) (coming : Option (List Coming)) (old new : ℕ) (r : Run) (bytes : List ℕ) (res : Result Step ServeFault) → None ≡ request_of bytes
    → AllRepresent images (joins_of r.serving) → RepresentsServing sv r.serving → random ≡ Some r.serving.play.random → coming ≡ Some r.coming → IfOk res (λ x. x ≡ record { line = wrong_text Form; frames = [] }) → ProgressedToAnswer images sv random coming old new r (Whole bytes) (some_ok res)
no_request images sv random coming old new r bytes res e all st w c h =
    wrong_form images sv random coming old new r (Whole bytes) res (ap (λ (o : Option Request). option_map_or is_quit o false) (sym e))
    (λ took. ap (λ (o : Option Request). option_map_or (asked took r) o (gives took r (says r.serving (wrong_text Form)))) (sym e)) all st w c h

-- a request for a delivery
pub asked_wait : (images : List ℕ → Type 0) (sv : Server) (random : Option (List (List ℕ))) (coming : Option (List Coming)) (old new : ℕ) (r : Run) (bytes : List ℕ) (within : Option ℕ) (res : Result Step ServeFault) → Some (request.Receive within) ≡ request_of bytes
    → random ≡ Some r.serving.play.random → Received images sv coming old new r (is_some within) res → ProgressedToAnswer images sv random coming old new r (Whole bytes) (some_ok res)
asked_wait images sv random coming old new r bytes within res e w h =
    waited images sv random coming old new r (Whole bytes) (is_some within) res (ap (λ (o : Option Request). option_map_or is_quit o false) (sym e))
    (λ took. ap (λ (o : Option Request). option_map_or (asked took r) o (gives took r (says r.serving (wrong_text Form)))) (sym e)) w h

-- any other request
pub asked_other : (images : List ℕ → Type 0) (sv : Server) (random : Option (List (List ℕ))) (coming : Option (List Coming)) (old new : ℕ) (r : Run) (bytes : List ℕ) (q : Request) (res : Result Step ServeFault) → Some q ≡ request_of bytes → (q ≡ request.Quit → ⊥) → ((within : Option ℕ) → q ≡ request.Receive within → ⊥)
    → OnOk res (random ≡ Some (replies r.serving q).0.play.random) → coming ≡ Some r.coming → Replied images r.serving sv (replies r.serving q) res → ProgressedToAnswer images sv random coming old new r (Whole bytes) (some_ok res)
asked_other images sv random coming old new r bytes q res e not_end not_wait w c h =
    plain images sv random coming old new r (Whole bytes) (replies r.serving q) res (ap (λ (o : Option Request). option_map_or is_quit o false) (sym e) ∙ not_quit q not_end)
    (λ took. ap (λ (o : Option Request). option_map_or (asked took r) o (gives took r (says r.serving (wrong_text Form)))) (sym e) ∙ asked_plain took r q not_wait) w c h

-- the line couldn't be read
pub unread : (images : List ℕ → Type 0) (r : Run) (line : Line) (later : List Line) → AllRepresent images (joins_of r.serving) → RepresentBetween images r (before_quit (line ∷ later))
unread images r line later all = between_all images r (before_quit (line ∷ later)) all

-- ---- an answer that there is

pub same_falls : (n : ℕ) → n ≤ n
same_falls n = omega arith

pub some_on_ok : (r : Result Step ServeFault) (x : Result (Option Step) ServeFault) (P : Type 0) → x ≡ some_ok r → OnOk r P → OnOk x P
some_on_ok (Ok step) x P e h = subst (λ (y : Result (Option Step) ServeFault). OnOk y P) (sym e) h
some_on_ok (Err fault) x P e h = subst (λ (y : Result (Option Step) ServeFault). OnOk y P) (sym e) tt

pub some_if_err : (r : Result Step ServeFault) (x : Result (Option Step) ServeFault) (P : ServeFault → Type 0) → x ≡ some_ok r → IfErr r P → IfErr x P
some_if_err (Ok step) x P e h = subst (λ (y : Result (Option Step) ServeFault). IfErr y P) (sym e) tt
some_if_err (Err fault) x P e h = subst (λ (y : Result (Option Step) ServeFault). IfErr y P) (sym e) h

pub some_counted : {old new : ℕ} (r : Result Step ServeFault) {x : Result (Option Step) ServeFault} → x ≡ some_ok r → CountsFaultAlone DiskFailed old new r → CountsFaultAlone DiskFailed old new x
some_counted {old} {new} (Ok step) e h = subst (λ (y : Result (Option Step) ServeFault). CountsFaultAlone DiskFailed old new y) (sym e) (alone_went (Some step) h)
some_counted (Err fault) e h = alone_passed e h

-- the line by another name, and the answer
pub came_as : (images : List ℕ → Type 0) (sv : Server) (random : Option (List (List ℕ))) (coming : Option (List Coming)) (old new : ℕ) (r : Run) (a b : Line) (x y : Result (Option Step) ServeFault) → b ≡ a → y ≡ x → ProgressedToAnswer images sv random coming old new r a x → ProgressedToAnswer images sv random coming old new r b y
came_as images sv random coming old new r a b x y e f h =
    subst (λ (l : Line). ProgressedToAnswer images sv random coming old new r l y) (sym e) (subst (λ (z : Result (Option Step) ServeFault). ProgressedToAnswer images sv random coming old new r a z) (sym f) h)
