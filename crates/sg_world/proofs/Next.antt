-- One more step of a replay, by its parts.
use Rattle.std.proofs.Common.{◌≡◌, ℕ, zero, suc, ◌+◌, ◌<◌, ◌≤◌, ◌^◌, true, ◌&&◌, List, [], ◌∷◌, ◌++◌, map, length, Option, Some, None, option_map, filter_map, refl, sym, ◌∙◌, ap, subst, arith, length-append}
use Rattle.std.specs.List.{list_all, cons_option}
use Rattle.std.specs.Option.{option_map_or}
use Rattle.indexmap.specs.IndexMap.{set_value_at}
use Rattle.std.proofs.lemmas.Bool.{and_parts}
use Rattle.std.proofs.lemmas.List.{length-map, map-append}
use Rattle.std.proofs.lemmas.List.Folds.{list_all-append}
use Rattle.sg_model.specs.Limits.{most_steps}
use Rattle.sg_model.specs.Lists.{all_differ, has_text}
use Rattle.sg_model.specs.Names.{Name, is_name}
use Rattle.sg_protocol.proofs.RealHash.{real_hash}
use Rattle.sg_protocol.proofs.Sizes.{steps_add_little}
use Rattle.sg_protocol.proofs.Steps.{runs_go_by_step}
use Rattle.sg_protocol.specs.IsSchedule.{IsSchedule, IsStep}
use Rattle.sg_protocol.specs.Keyring.{Program}
use Rattle.sg_protocol.specs.NodeStates.{NodeState}
use Rattle.sg_protocol.specs.Run.{run, world_after}
use Rattle.sg_protocol.specs.Schedule.{Schedule, Step, who_of}
use Rattle.sg_protocol.specs.Steps.{with_step, is_taken, record_size}
use Rattle.sg_protocol.specs.Texts.{real}
use Rattle.sg_protocol.specs.World.{World, Logged}
use Rattle.sg_model.proofs.Small.{all-append}
use Rattle.sg_world.specs.StepResults.{IsNamed, IsResultAt}
use Rattle.sg_world.specs.Holds.{Holds, schedule_of}
use Rattle.sg_world.specs.RecordModel.{StepResult, TakenStep, Recorded, HoldsRun, IsHonestIn, IsLearnt, with_result, added_size}
use Rattle.sg_world.specs.Indices.{IsIndexOf}
use Rattle.sg_setting.specs.Setting.{Setting}
use Rattle.sg_world.proofs.EntryGraphs.{is_before}
use Rattle.sg_world.proofs.Goes.{step_held}
use Rattle.sg_protocol.proofs.OtherSteps.{schedule_more}
use Rattle.sg_world.proofs.Pasts.{Named, names, in_names}
use Rattle.sg_world.proofs.Zipped.{zip_length}

-- a step records one frame at most
pub few_framed : (ls : List Logged) → length (filter_map (λ (l : Logged). l.frame) ls) ≤ length ls
few_framed [] = omega arith
few_framed (l ∷ ls) = by l.frame (few_framed ls)
  where
    by : (o : Option (List ℕ)) → length (filter_map (λ (l : Logged). l.frame) ls) ≤ length ls → length (cons_option o (filter_map (λ (l : Logged). l.frame) ls)) ≤ suc (length ls)
    by None h = omega (arith, h)
    by (Some bs) h = omega (arith, h)

pub frames_few : (programs : List Program) (s : Schedule) (w : World) (nodes : List Named) (r : Recorded) → HoldsRun programs s w nodes r → length r.frames ≤ length r.entries
frames_few programs s w nodes r h =
    let a = ap (λ (z : List (List ℕ)). length z) h.frames in
    let b = few_framed w.log in
    let c = zip_length (IsLearnt programs s) r.entries w.log h.learnt in
    omega (arith, a, b, c)

-- a change of a value leaves the names
pub names_same : (ns : List Named) (i : ℕ) (new : NodeState) → names (set_value_at ns i new) ≡ names ns
names_same [] i new = refl
names_same (n ∷ ns) zero new = refl
names_same (n ∷ ns) (suc i) new = ap (λ (z : List Name). n.0 ∷ z) (names_same ns i new)

module _ (d : Setting) (nodes now : List Named) (r : Recorded) (x : Step) (honest : List ℕ) (c : StepResult) (index k : ℕ)
    (h : Holds d nodes r) (at : IsIndexOf nodes x (Some index)) (room : length r.entries < most_steps) (step : IsStep real (schedule_of d nodes r) x) (number : k ≡ length r.entries + 1)
    (known : IsHonestIn d.sessions (names nodes) x c.cast honest) (performed : IsResultAt d.sessions r.frames k x index nodes now c) where
  abbrev S : Schedule
  S = schedule_of d nodes r

  abbrev W : World
  W = run real d.programs (schedule_of d nodes r)

  who : who_of x ≡ Some performed.who
  who = let q : Some at.0 ≡ Some (performed.who, performed.old) = sym at.1 ∙ performed.is_old in at.2 ∙ ap (λ (z : Option Named). option_map (λ (n : Named). n.0) z) q

  at_end : k ≡ length (schedule_of d nodes r).steps + 1
  at_end = let e = length-map r.entries (λ (e : TakenStep). e.step) in omega (arith, e, number)

  held : HoldsRun d.programs (with_step (schedule_of d nodes r) x) (world_after real (schedule_of d nodes r) (run real d.programs (schedule_of d nodes r)) k x) (set_value_at nodes index performed.new) (with_result r x honest c)
  held = step_held d.programs S W nodes r k x honest c performed.who index performed.old performed.new who (is_before d.programs S k x at_end) h.run (and_parts (all_differ (names nodes)) (list_all is_name (names nodes)) h.schedule.honest_names).0 performed.is_old known
      (λ past represents. performed.is_result S W past refl (sym h.run.frames) represents)

  run_is : run real d.programs (with_step (schedule_of d nodes r) x) ≡ world_after real (schedule_of d nodes r) (run real d.programs (schedule_of d nodes r)) k x
  run_is = runs_go_by_step real d.programs S x ∙ ap (λ n. world_after real S W n x) (sym at_end)

  same : schedule_of d now (with_result r x honest c) ≡ with_step (schedule_of d nodes r) x
  same =
      let alike : names now ≡ names nodes = ap names performed.is_new ∙ names_same nodes index performed.new in
      let steps : map (λ (e : TakenStep). e.step) (with_result r x honest c).entries ≡ map (λ (e : TakenStep). e.step) r.entries ++ x ∷ [] = map-append (λ (e : TakenStep). e.step) r.entries (record { step = x; outcome = c.outcome; honest = honest } ∷ []) in
      (λ i. record { graphs = d.graphs; honest = alike i; keys = d.keys; sessions = d.sessions; steps = steps i })

  is_one : is_taken (schedule_of d nodes r) x ≡ true
  is_one = subst (λ (o : Option Name). option_map_or (λ n. has_text n (names nodes)) o true ≡ true) (sym who) (in_names nodes index performed.who performed.old performed.is_old)

  all_taken : list_all (is_taken (with_step (schedule_of d nodes r) x)) (with_step (schedule_of d nodes r) x).steps ≡ true
  all_taken = list_all-append (is_taken S) S.steps (x ∷ []) ∙ (λ i. h.taken i && (is_one i && true))

  pub next : IsNamed (length d.sessions) x → Holds d now (with_result r x honest c) × (schedule_of d now (with_result r x honest c) ≡ with_step (schedule_of d nodes r) x)
  next named = (
    record {
      schedule = subst (IsSchedule real) (sym same) (schedule_more real S x h.schedule step);
      compiled = h.compiled;
      taken = subst (λ (z : Schedule). list_all (is_taken z) z.steps ≡ true) (sym same) all_taken;
      named = all-append (λ (e : TakenStep). IsNamed (length d.sessions) e.step) r.entries (record { step = x; outcome = c.outcome; honest = honest } ∷ []) h.named (named, tt);
      few = (let e = length-append r.entries (record { step = x; outcome = c.outcome; honest = honest } ∷ []) in omega (arith, e, room));
      run = subst (λ (z : Schedule). HoldsRun d.programs z (run real d.programs z) now (with_result r x honest c)) (sym same)
          (subst (λ (w : World). HoldsRun d.programs (with_step S x) w now (with_result r x honest c)) (sym run_is)
          (subst (λ (ns : List Named). HoldsRun d.programs (with_step S x) (world_after real S W k x) ns (with_result r x honest c)) (sym performed.is_new) held));
    },
    same,
  )

  pub fits : r.size ≤ 264241152 → r.size + added_size c < 2 ^ 64
  fits full =
      let more : record_size (with_step S x) (world_after real S W k x) < record_size S W + 4194304 = steps_add_little real real_hash d.programs S h.compiled h.schedule k x step in
      let before = h.run.size in
      let after = held.size in
      omega (arith, more, before, after, full)
