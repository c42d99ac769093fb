-- The walk of a session over restarts.
use Rattle.std.specs.Prelude.{◌≡◌, ℕ, Bool, List, [], ◌∷◌, ◌++◌, map, refl}
use Rattle.std.proofs.Common.{sym, ◌∙◌, ap, subst, inl, inr, append-nil}
use Rattle.sg_protocol.specs.Graph.{Graph}
use Rattle.sg_protocol.specs.Evidence.{IsView}
use Rattle.sg_protocol.specs.Texts.{Hash, IsHash}
use Rattle.sg_protocol.specs.Walk.{StoredStep, OnePath}
use Rattle.sg_protocol.specs.Schedule.{Schedule, Step, honest_role}
use Rattle.sg_protocol.specs.World.{Logged, World, Answered, new_world}
use Rattle.sg_protocol.specs.Run.{run, events_of}
use Rattle.sg_protocol.specs.Explaining.{walk_after_events, walk_after_steps, view_in, IsExample, IsShown, AllShown}
use Rattle.sg_protocol.specs.Restarts.{run_with_restarts, dropped, without_restarts, IsAbandonment, HasMoreAbandonments}
use Rattle.sg_protocol.proofs.ExplainingWalks.{walks_explain, frames_show_views}
use Rattle.sg_protocol.proofs.OverRestarts.{cast_same, premises_same}
use Rattle.sg_protocol.proofs.Restarts.{Same, plain, same_runs, is_plain}
use Rattle.sg_restarts.specs.OverRestarts.{WalksExplainOverRestarts, FramesShowViewsOverRestarts}
use Rattle.sg_restarts.proofs.Logs.{session_events, events-append, quiet, split_more}

-- a log whose entries stand beside walks
abbrev Beside : Type 0
Beside = List (Logged × List ℕ)

abbrev entries : Beside → List Logged
entries log = map (λ (l : Logged × List ℕ). l.0) log

-- ---- entries and walks of the longer log

module _ (g : Graph) (sid : List ℕ) where
  -- what is shown after events is shown after the same events
  shown_after : (before before' : List Logged) → events_of sid before ≡ events_of sid before' → (l : Logged) (walk : List ℕ) → IsShown g sid before l walk → IsShown g sid before' l walk
  shown_after before before' e l walk h bs f call rd outcome its = subst (λ es. IsExample g f.receiver (view_in es f) walk) e (h bs f call rd outcome its)

  -- an abandonment took no frame
  shown_silent : (before : List Logged) (l : Logged) → IsAbandonment l → IsShown g sid before l []
  shown_silent before l a bs f call rd outcome its = absurd (let z : Answered _ ≡ l.outcome = sym a.outcome in let y = z ∙ outcome in cc)

  quiet_end : (xs : List Logged) (l : Logged) → IsAbandonment l → events_of sid (xs ++ l ∷ []) ≡ events_of sid xs
  quiet_end xs l a = events-append sid xs (l ∷ []) ∙ ap (λ es. events_of sid xs ++ es) (quiet sid l a) ∙ append-nil (events_of sid xs)

  module _ (honest : ℕ → Bool) where
    -- the longer log beside walks that show what was taken, along which the same walk is made
    record Longer (before : List Logged) (ls : List Logged) (log : Beside) : Type 0 where
      beside : Beside
      are : entries beside ≡ ls
      shown : AllShown g sid before beside
      same : (steps : List StoredStep) → walk_after_steps g honest sid steps beside ≡ walk_after_steps g honest sid steps log

    longer : (before before' : List Logged) → events_of sid before ≡ events_of sid before' → (ls : List Logged) (log : Beside) → HasMoreAbandonments ls (entries log) → AllShown g sid before log → Longer before' ls log
    longer before before' e [] [] h a = record { beside = []; are = refl; shown = tt; same = λ steps. refl }
    longer before before' e [] (x ∷ xs) h a = absurd (cc)
    longer before before' e (l ∷ ls) log (inl h) a =
        let r : Longer (before' ++ l ∷ []) ls log = longer before (before' ++ l ∷ []) (e ∙ sym (quiet_end before' l h.0)) ls log h.1 a in
        record {
          beside = (l, []) ∷ r.beside;
          are = ap (λ z. l ∷ z) r.are;
          shown = (shown_silent before' l h.0, r.shown);
          same = λ steps. ap (λ es. walk_after_steps g honest sid (walk_after_events g honest steps es []) r.beside) (quiet sid l h.0) ∙ r.same steps;
        }
    longer before before' e (l ∷ ls) [] (inr h) a = absurd (let z : [] ≡ l ∷ h.0 = h.1 in cc)
    longer before before' e (l ∷ ls) (x ∷ xs) (inr h) a =
        let one : x.0 ≡ l = (let z : x.0 ∷ entries xs ≡ l ∷ h.0 = h.1 in cc) in
        let rest : entries xs ≡ h.0 = (let z : x.0 ∷ entries xs ≡ l ∷ h.0 = h.1 in cc) in
        let r : Longer (before' ++ x.0 ∷ []) ls xs = longer (before ++ x.0 ∷ []) (before' ++ x.0 ∷ []) (events-append sid before (x.0 ∷ []) ∙ ap (λ es. es ++ events_of sid (x.0 ∷ [])) e ∙ sym (events-append sid before' (x.0 ∷ []))) ls xs (subst (HasMoreAbandonments ls) (sym rest) h.2) a.1 in
        record {
          beside = x ∷ r.beside;
          are = ap (λ z. x.0 ∷ z) r.are ∙ ap (λ z. z ∷ ls) one;
          shown = (shown_after before before' e x.0 x.1 a.0, r.shown);
          same = λ steps. r.same (walk_after_events g honest steps (events_of sid (x.0 ∷ [])) x.1);
        }

-- ---- the laws

pub walks_explain_over_restarts : (sha : Hash) → IsHash sha → WalksExplainOverRestarts sha
walks_explain_over_restarts sha hash programs s xs sid cast g log compiled sched good premises is gr are shown =
    let w : World = run_with_restarts sha programs s xs in
    let its : List Step = (without_restarts sha programs s xs).steps in
    let t : Schedule = plain sha hash programs s compiled sched xs good in
    let w' : World = run sha programs t in
    let same : Same w w' = same_runs sha hash programs s compiled sched xs good in
    let honest : ℕ → Bool = honest_role s cast in
    let r : Longer g sid honest [] w'.log log = longer g sid honest [] [] refl w'.log log (subst (HasMoreAbandonments w'.log) (sym are) same.log) shown in
    subst (λ es. OnePath g honest es (walk_after_steps g honest sid [] log)) (sym (session_events sid w'.log w.log same.log))
    (subst (OnePath g honest (events_of sid w'.log)) (r.same [])
    (walks_explain sha hash programs t sid cast g r.beside compiled (is_plain sha hash programs s compiled sched xs good) (premises_same w w' same sha s (dropped sha s (new_world programs s) 1 xs) its premises) (sym (cast_same w w' same sid) ∙ is) gr r.are r.shown))

pub frames_show_views_over_restarts : (sha : Hash) → IsHash sha → FramesShowViewsOverRestarts sha
frames_show_views_over_restarts sha hash programs s xs sid cast g before l after bs f compiled sched good premises is gr parts call rd outcome its_sid =
    let w : World = run_with_restarts sha programs s xs in
    let its : List Step = (without_restarts sha programs s xs).steps in
    let t : Schedule = plain sha hash programs s compiled sched xs good in
    let w' : World = run sha programs t in
    let same : Same w w' = same_runs sha hash programs s compiled sched xs good in
    let r = split_more w'.log before l after (subst (HasMoreAbandonments w'.log) parts same.log) in
    subst (λ es. IsView g f.receiver (view_in es f)) (sym (session_events sid r.0 before r.3))
    (frames_show_views sha hash programs t sid cast g r.0 l r.1 bs f compiled (is_plain sha hash programs s compiled sched xs good) (premises_same w w' same sha s (dropped sha s (new_world programs s) 1 xs) its premises) (sym (cast_same w w' same sid) ∙ is) gr r.2 call rd outcome its_sid)
