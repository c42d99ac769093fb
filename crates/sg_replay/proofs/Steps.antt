-- The steps of a schedule, taken one after another.
use Rattle.std.specs.Prelude.{◌≡◌, ℕ, ◌+◌, ◌<◌, ◌≤◌, true, List, [], ◌∷◌, ◌++◌, map, length, take, get_or}
use Rattle.std.proofs.Common.{inl, inr, true≢false, refl, sym, ap, ◌∙◌, subst, arith}
use Rattle.std.proofs.Math.ListN.{get_or-map}
use Rattle.std.proofs.lemmas.Bool.{cases_Bool}
use Rattle.std.proofs.lemmas.List.{take_more, take_all, length-map, length-take-le}
use Rattle.std.proofs.lemmas.List.Folds.{list_all_at}
use Rattle.sg_model.specs.Limits.{most_steps}
use Rattle.sg_protocol.specs.Beginnings.{first_steps}
use Rattle.sg_protocol.specs.Keyring.{Program}
use Rattle.sg_protocol.specs.Schedule as Protocol
use Rattle.sg_protocol.specs.Schedule.{Schedule}
use Rattle.sg_protocol.specs.Steps.{is_taken}
use Rattle.sg_sched.specs.Format.StepsHeld.{step_of}
use Rattle.sg_sched.specs.declared.step.Step.{Step}
use Rattle.sg_sched.specs.Steps.{CanBeTaken}
use Rattle.sg_setting.specs.Replay.{up_to, with_taken}
use Rattle.sg_replay.specs.Replayed.{CanBeReplayed, replay_of}

-- step i of the schedule is the one that is held, and fewer were taken than there are
module _ (s : Schedule) (items : List Step) (i : ℕ) (x : Step) (all : map step_of items ≡ s.steps) (h : i < length items) (at : x ≡ get_or items i x) where
  count : length items ≡ length s.steps
  count = sym (length-map items step_of) ∙ ap (λ (xs : List Protocol.Step). length xs) all

  here : get_or s.steps i (step_of x) ≡ step_of x
  here = ap (λ l. get_or l i (step_of x)) (sym all) ∙ get_or-map step_of items i x ∙ ap step_of (sym at)

  pub begins : i < length s.steps
  begins = omega (arith, h, count)

  pub room : CanBeReplayed s → length (first_steps i s).steps < most_steps
  room can =
      let few = can.meant.few in
      let first : length (take i s.steps) ≡ i = length-take-le i s.steps (omega (arith, h, count)) in
      omega (arith, few, first, h, count)

  pub can_be_taken : CanBeReplayed s → CanBeTaken (first_steps i s) (step_of x)
  can_be_taken can =
      subst (λ y. CanBeTaken (first_steps i s) y) here (can.meant.steps i (step_of x) (omega (arith, h, count)) (first_steps i s) (record { graphs = refl; sessions = refl }))

  pub honest : CanBeReplayed s → is_taken (first_steps i s) (step_of x) ≡ true
  honest can =
      subst (λ y. is_taken s y ≡ true) here
      (elim (cases_Bool (is_taken s (get_or s.steps i (step_of x)))) [
        | inl e ↦ e
        | inr e ↦ absurd (true≢false (sym can.honest ∙ list_all_at (is_taken s) s.steps i (step_of x) begins e))
      ])

  -- one step more
  pub more : (programs : List Program) → with_taken (up_to i (replay_of programs s)) (step_of x) ≡ up_to (i + 1) (replay_of programs s)
  more programs =
      let one : take i s.steps ++ step_of x ∷ [] ≡ take (i + 1) s.steps = ap (λ y. take i s.steps ++ y ∷ []) (sym here) ∙ sym (take_more s.steps i (step_of x) begins) in
      ap (λ xs. replay_of programs (record s { steps = xs })) one

-- all steps
pub whole : (programs : List Program) (s : Schedule) (i : ℕ) → length s.steps ≤ i → up_to i (replay_of programs s) ≡ replay_of programs s
whole programs s i h = ap (λ xs. replay_of programs (record s { steps = xs })) (take_all i s.steps h)

-- as many as are held
pub all_taken : (s : Schedule) (items : List Step) (i : ℕ) → map step_of items ≡ s.steps → length items ≤ i → length s.steps ≤ i
all_taken s items i all h = let count : length items ≡ length s.steps = sym (length-map items step_of) ∙ ap (λ (xs : List Protocol.Step). length xs) all in omega (arith, h, count)
