-- One more craft of a replay, by its parts.
use Rattle.std.proofs.Common.{◌≡◌, ℕ, ◌+◌, ◌<◌, ◌≤◌, ◌^◌, true, ◌&&◌, List, [], ◌∷◌, length, refl, sym, ◌∙◌, ap, subst, arith, length-append}
use Rattle.std.specs.List.{list_all}
use Rattle.std.proofs.lemmas.List.{map-append}
use Rattle.std.proofs.lemmas.List.Folds.{list_all-append}
use Rattle.sg_model.specs.Limits.{most_steps}
use Rattle.sg_protocol.proofs.RealHash.{real_hash}
use Rattle.sg_protocol.proofs.Sizes.{steps_add_little}
use Rattle.sg_protocol.proofs.Steps.{runs_go_by_step}
use Rattle.sg_protocol.specs.IsSchedule.{IsSchedule, IsStep}
use Rattle.sg_protocol.specs.Run.{run, world_after}
use Rattle.sg_protocol.specs.Schedule.{Schedule, Craft, Step, CraftStep}
use Rattle.sg_protocol.specs.Steps.{with_step, is_taken, record_size}
use Rattle.sg_protocol.specs.Texts.{real}
use Rattle.sg_protocol.specs.World.{World}
use Rattle.sg_world.specs.Crafts.{IsResultOfCraft}
use Rattle.sg_world.specs.Holds.{Holds, schedule_of}
use Rattle.sg_world.specs.RecordModel.{StepResult, TakenStep, Recorded, HoldsRun, with_result, added_size}
use Rattle.sg_setting.specs.Setting.{Setting}
use Rattle.sg_world.proofs.EntryGraphs.{is_before}
use Rattle.sg_world.proofs.Goes.{craft_held}
use Rattle.sg_protocol.proofs.OtherSteps.{schedule_more}
use Rattle.sg_model.proofs.Small.{all-append}
use Rattle.sg_world.specs.StepResults.{IsNamed}
use Rattle.sg_world.proofs.Pasts.{Named}

module _ (d : Setting) (nodes : List Named) (r : Recorded) (x : Craft) (honest : List ℕ) (c : StepResult)
    (h : Holds d nodes r) (room : length r.entries < most_steps) (step : IsStep real (schedule_of d nodes r) (CraftStep x))
    (performed : IsResultOfCraft (length r.frames + 1) (schedule_of d nodes r) (run real d.programs (schedule_of d nodes r)) x c) where
  abbrev S : Schedule
  S = schedule_of d nodes r

  abbrev W : World
  W = run real d.programs (schedule_of d nodes r)

  held : HoldsRun d.programs (with_step (schedule_of d nodes r) (CraftStep x)) (world_after real (schedule_of d nodes r) (run real d.programs (schedule_of d nodes r)) (length (schedule_of d nodes r).steps + 1) (CraftStep x)) nodes (with_result r (CraftStep x) honest c)
  held = craft_held d.programs S W nodes r (length S.steps + 1) x honest c (is_before d.programs S (length S.steps + 1) (CraftStep x) refl) h.run performed.outcome performed.frame performed.notes

  same : schedule_of d nodes (with_result r (CraftStep x) honest c) ≡ with_step (schedule_of d nodes r) (CraftStep x)
  same = ap (λ (z : List Step). record (schedule_of d nodes r) { steps = z }) (map-append (λ (e : TakenStep). e.step) r.entries (record { step = CraftStep x; outcome = c.outcome; honest = honest } ∷ []))

  all_taken : list_all (is_taken (with_step (schedule_of d nodes r) (CraftStep x))) (with_step (schedule_of d nodes r) (CraftStep x)).steps ≡ true
  all_taken = list_all-append (is_taken S) S.steps (CraftStep x ∷ []) ∙ ap (λ b. b && true) h.taken

  pub next_craft : Holds d nodes (with_result r (CraftStep x) honest c) × (schedule_of d nodes (with_result r (CraftStep x) honest c) ≡ with_step (schedule_of d nodes r) (CraftStep x))
  next_craft = (
    record {
      schedule = subst (IsSchedule real) (sym same) (schedule_more real S (CraftStep x) h.schedule step);
      compiled = h.compiled;
      taken = subst (λ (z : Schedule). list_all (is_taken z) z.steps ≡ true) (sym same) all_taken;
      named = all-append (λ (e : TakenStep). IsNamed (length d.sessions) e.step) r.entries (record { step = CraftStep x; outcome = c.outcome; honest = honest } ∷ []) h.named (tt, tt);
      few = (let e = length-append r.entries (record { step = CraftStep x; outcome = c.outcome; honest = honest } ∷ []) in omega (arith, e, room));
      run = subst (λ (z : Schedule). HoldsRun d.programs z (run real d.programs z) nodes (with_result r (CraftStep x) honest c)) (sym same)
          (subst (λ (w : World). HoldsRun d.programs (with_step S (CraftStep x)) w nodes (with_result r (CraftStep x) honest c)) (sym (runs_go_by_step real d.programs S (CraftStep x))) held);
    },
    same,
  )

  pub craft_fits : r.size ≤ 264241152 → r.size + added_size c < 2 ^ 64
  craft_fits full =
      let more : record_size (with_step S (CraftStep x)) (world_after real S W (length S.steps + 1) (CraftStep x)) < record_size S W + 4194304 = steps_add_little real real_hash d.programs S h.compiled h.schedule (length S.steps + 1) (CraftStep x) step in
      let before = h.run.size in
      let after = held.size in
      omega (arith, more, before, after, full)
