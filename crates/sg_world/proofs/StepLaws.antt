-- The next step of a replay, if the record was given room first and the step is a copy.
use Rattle.std.proofs.Common.{◌≡◌, ℕ, ◌+◌, ◌<◌, ◌≤◌, ◌^◌, List, length, Option, Some, None, refl, sym, ◌∙◌, ap, subst}
use Rattle.sg_model.specs.Limits.{most_steps}
use Rattle.sg_protocol.specs.IsSchedule.{IsStep}
use Rattle.sg_protocol.specs.Run.{run}
use Rattle.sg_protocol.specs.Schedule.{Schedule, Step, StartStep, ActStep, AbandonStep, DeliverStep, CraftStep}
use Rattle.sg_protocol.specs.Steps.{with_step}
use Rattle.sg_protocol.specs.Texts.{real}
use Rattle.sg_sched.specs.Steps.{CanBeTaken}
use Rattle.sg_world.specs.StepResults.{IsNamed}
use Rattle.sg_world.specs.Crafts.{IsResultOfCraft, IsResultOfCrafting, IsResultAtIndex}
use Rattle.sg_world.specs.Holds.{Holds, schedule_of}
use Rattle.sg_world.specs.RecordModel.{StepResult, Recorded, IsHonestIn, with_result, added_size}
use Rattle.sg_world.specs.Indices.{IsIndexOf}
use Rattle.sg_setting.specs.Setting.{Setting}
use Rattle.sg_world.proofs.Crafting.{next_craft, craft_fits}
use Rattle.sg_world.proofs.Next.{names_same, next, fits}
use Rattle.sg_world.proofs.Pasts.{Named, names}

-- a step that can be taken names what is declared
pub names_declared : (s : Schedule) (x : Step) → CanBeTaken s x → IsNamed (length s.sessions) x
names_declared s (StartStep who n) h = h.declared
names_declared s (ActStep who n label values) h = (h.declared, h.range)
names_declared s (AbandonStep who n) h = h.declared
names_declared s (DeliverStep who what) h = tt
names_declared s (CraftStep c) h = tt

-- the replay holds with the step, and its schedule has it
abbrev pub Goes : Setting → List Named → List Named → Recorded → Recorded → Step → Type 0
Goes d nodes now r r2 x = Holds d now r2 × (schedule_of d now r2 ≡ with_step (schedule_of d nodes r) x)

module _ (d : Setting) (nodes now : List Named) (r : Recorded) (x : Step) (honest : List ℕ) (c : StepResult) (k : ℕ) (known : IsHonestIn d.sessions (names nodes) x c.cast honest)
    (h : Holds d nodes r) (room : length r.entries < most_steps) (step : IsStep real (schedule_of d nodes r) x) (number : k ≡ length r.entries + 1) where
  -- what comes of a craft, in the run so far
  crafted_here : (is_result : IsResultOfCrafting d r.frames x c) → IsResultOfCraft (length r.frames + 1) (schedule_of d nodes r) (run real d.programs (schedule_of d nodes r)) is_result.craft c
  crafted_here is_result = is_result.is_result (schedule_of d nodes r) (run real d.programs (schedule_of d nodes r)) (refl, refl, refl) (sym h.run.frames)

  pub goes : IsNamed (length d.sessions) x → (index : Option ℕ) → IsIndexOf nodes x index → IsResultAtIndex d r.frames k x index nodes now c → Goes d nodes now r (with_result r x honest c) x
  goes named None at is_result =
      let is = is_result.1.is_craft in
      subst (λ (z : List Named). Goes d nodes z r (with_result r x honest c) x) (sym is_result.0)
      (subst (λ (z : Step). Goes d nodes nodes r (with_result r z honest c) z) (sym is)
      (next_craft d nodes r is_result.1.craft honest c h room (subst (λ (z : Step). IsStep real (schedule_of d nodes r) z) is step) (crafted_here is_result.1)))
  goes named (Some index) at is_result = next d nodes now r x honest c index k h at room step number known is_result named

  pub goes_in : (index : Option ℕ) → IsIndexOf nodes x index → IsResultAtIndex d r.frames k x index nodes now c → r.size ≤ 264241152 → r.size + added_size c < 2 ^ 64
  goes_in None at is_result full =
      craft_fits d nodes r is_result.1.craft honest c h room (subst (λ (z : Step). IsStep real (schedule_of d nodes r) z) is_result.1.is_craft step) (crafted_here is_result.1) full
  goes_in (Some index) at is_result full = fits d nodes now r x honest c index k h at room step number known is_result full

-- a step leaves the principals
pub names_kept : (d : Setting) (recorded : List (List ℕ)) (k : ℕ) (x : Step) (index : Option ℕ) (nodes now : List Named) (c : StepResult) → IsResultAtIndex d recorded k x index nodes now c → names now ≡ names nodes
names_kept d recorded k x None nodes now c h = ap names h.0
names_kept d recorded k x (Some index) nodes now c h = ap names h.is_new ∙ names_same nodes index h.new

pub step_taken : (d : Setting) (nodes now : List Named) (r r1 r2 : Recorded) (x x1 : Step) (honest : List ℕ) (c : StepResult) (index : Option ℕ) (k : ℕ) → IsHonestIn d.sessions (names nodes) x c.cast honest → Holds d nodes r → IsIndexOf nodes x index → length r.entries < most_steps → CanBeTaken (schedule_of d nodes r) x
    → r1 ≡ r → k ≡ length r1.entries + 1 → IsResultAtIndex d r1.frames k x index nodes now c → x1 ≡ x → r2 ≡ with_result r1 x1 honest c → Goes d nodes now r r2 x
step_taken d nodes now r r1 r2 x x1 honest c index k known h at room can same number performed copied put =
    let there : r2 ≡ with_result r x honest c = put ∙ (λ i. with_result (same i) (copied i) honest c) in
    subst (λ (z : Recorded). Goes d nodes now r z x) (sym there)
    (goes d nodes now r x honest c k known h room can.range (number ∙ ap (λ (z : Recorded). length z.entries + 1) same) (names_declared (schedule_of d nodes r) x can) index at (subst (λ (z : Recorded). IsResultAtIndex d z.frames k x index nodes now c) same performed))

pub step_fits : (d : Setting) (nodes now : List Named) (r r1 : Recorded) (x : Step) (honest : List ℕ) (c : StepResult) (index : Option ℕ) (k : ℕ) → IsHonestIn d.sessions (names nodes) x c.cast honest → Holds d nodes r → IsIndexOf nodes x index → length r.entries < most_steps → IsStep real (schedule_of d nodes r) x
    → r1 ≡ r → k ≡ length r1.entries + 1 → IsResultAtIndex d r1.frames k x index nodes now c → r.size ≤ 264241152 → r1.size + added_size c < 2 ^ 64
step_fits d nodes now r r1 x honest c index k known h at room step same number performed full =
    subst (λ (z : Recorded). z.size + added_size c < 2 ^ 64) (sym same)
    (goes_in d nodes now r x honest c k known h room step (number ∙ ap (λ (z : Recorded). length z.entries + 1) same) index at (subst (λ (z : Recorded). IsResultAtIndex d z.frames k x index nodes now c) same performed) full)
