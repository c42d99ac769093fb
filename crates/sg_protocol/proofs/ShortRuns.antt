-- What the steps of a run send is short.
use Rattle.std.specs.Prelude.{◌≡◌, ℕ, ◌+◌, List, [], ◌∷◌, ◌++◌, Option, Some, None, refl}
use Rattle.std.specs.List.{AllByRecursion}
use Rattle.std.specs.Option.{option_map_or}
use Rattle.std.proofs.lemmas.List.Elements.{recursion_from_All}
use Rattle.sg_model.specs.Names.{Name}
use Rattle.sg_protocol.specs.Frame.{Frame}
use Rattle.sg_protocol.specs.Texts.{Hash, IsHash}
use Rattle.sg_protocol.specs.Keyring.{Program}
use Rattle.sg_protocol.specs.Calls.{Event, Call, Sends}
use Rattle.sg_protocol.specs.Acting.{answer}
use Rattle.sg_protocol.specs.Past.{Past, node_of}
use Rattle.sg_protocol.specs.Schedule.{Schedule, Step, CraftStep, StartStep, ActStep, AbandonStep, DeliverStep}
use Rattle.sg_protocol.specs.World.{Logged, World, Answered, past_of, new_world, call_of}
use Rattle.sg_protocol.specs.Run.{called_if, world_after, world_after_all, run}
use Rattle.sg_protocol.specs.IsSchedule.{AreCompiled, IsSchedule, IsStep}
use Rattle.sg_protocol.specs.Bounds.{IsShortFrame, RunsSendShort}
use Rattle.sg_protocol.proofs.Fits.{Fit, fit_new, fit_next, fit_shorts}
use Rattle.sg_model.proofs.Members.{in_from_Contains, rec_in}

module _ (sha : Hash) (hash : IsHash sha) (programs : List Program) (s : Schedule) (compiled : AreCompiled sha s.graphs programs) (sched : IsSchedule sha s) where
  abbrev Fit_ : World → Type 0
  Fit_ w = Fit sha hash programs s compiled sched w

  abbrev IsShortEntry : Logged → Type 0
  IsShortEntry l = (e : Event) (to : Name) (f : Frame) → l.outcome ≡ Answered (Sends e to f) → IsShortFrame f

  add : (xs : List Logged) (l : Logged) → AllByRecursion IsShortEntry xs → IsShortEntry l → AllByRecursion IsShortEntry (xs ++ l ∷ [])
  add [] l a h = (h, tt)
  add (x ∷ xs) l a h = (a.0, add xs l a.1 h)

  past_short : (w : World) (k : ℕ) (x : Step) → IsStep sha s x → Fit_ w → AllByRecursion IsShortEntry w.log → (who : Name) (o : Option Past) → past_of w who ≡ o → (c : Option Call) → call_of sha s w k x ≡ c
      → AllByRecursion IsShortEntry (option_map_or (called_if sha w k who c) o w).log
  past_short w k x good fit a who None q c e = a
  past_short w k x good fit a who (Some past) q None e = add w.log _ a (λ ev to f h. absurd (cc))
  past_short w k x good fit a who (Some past) q (Some c) e =
      add w.log _ a (λ ev to f h. let h' : answer sha (node_of past) c ≡ Sends ev to f = cc in fit_shorts sha hash programs s compiled sched w fit k x who past c ev to f good q e h')

  step_short : (w : World) (k : ℕ) (x : Step) → IsStep sha s x → Fit_ w → AllByRecursion IsShortEntry w.log → AllByRecursion IsShortEntry (world_after sha s w k x).log
  step_short w k (CraftStep c) good fit a = add w.log _ a (λ ev to f h. absurd (cc))
  step_short w k (StartStep who n') good fit a = past_short w k (StartStep who n') good fit a who (past_of w who) refl (call_of sha s w k (StartStep who n')) refl
  step_short w k (ActStep who n' label values) good fit a = past_short w k (ActStep who n' label values) good fit a who (past_of w who) refl (call_of sha s w k (ActStep who n' label values)) refl
  step_short w k (AbandonStep who n') good fit a = past_short w k (AbandonStep who n') good fit a who (past_of w who) refl (call_of sha s w k (AbandonStep who n')) refl
  step_short w k (DeliverStep who what) good fit a = past_short w k (DeliverStep who what) good fit a who (past_of w who) refl (call_of sha s w k (DeliverStep who what)) refl

  all_short : (w : World) (k : ℕ) (xs : List Step) → AllByRecursion (IsStep sha s) xs → Fit_ w → AllByRecursion IsShortEntry w.log → AllByRecursion IsShortEntry (world_after_all sha s w k xs).log
  all_short w k [] good fit a = a
  all_short w k (x ∷ xs) good fit a = all_short (world_after sha s w k x) (k + 1) xs good.1 (fit_next sha hash programs s compiled sched w k x fit good.0) (step_short w k x good.0 fit a)

pub runs_send_short : (sha : Hash) → IsHash sha → RunsSendShort sha
runs_send_short sha hash programs s compiled sched l e to f there is =
    rec_in _ (run sha programs s).log l (all_short sha hash programs s compiled sched (new_world programs s) 1 s.steps (recursion_from_All (IsStep sha s) s.steps sched.steps) (fit_new sha hash programs s compiled sched) tt) (in_from_Contains (run sha programs s).log l there) e to f is
