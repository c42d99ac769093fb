-- The groups of the whole run, as the code makes them.
use Rattle.std.proofs.Common.{◌≡◌, ℕ, suc, ◌+◌, ◌-◌, ◌*◌, ◌/◌, ◌<◌, ◌≤◌, min, List, [], ◌∷◌, length, refl, sym, ap, ◌∙◌, subst, arith, add-one}
use Rattle.std.specs.Prelude.{Result, Ok, Err, IfErr, OnOk}
use Rattle.sg_model.specs.Limits.{most_driven}
use Rattle.sg_protocol.specs.Graph.{Graph}
use Rattle.sg_protocol.specs.IsSchedule.{AreCompiled}
use Rattle.sg_protocol.specs.Keyring.{Program}
use Rattle.sg_protocol.specs.Schedule.{Schedule}
use Rattle.sg_protocol.specs.Texts.{real}
use Rattle.sg_world.specs.Faults.{NeverFull}
use Rattle.sg_setting.specs.Replay.{without_steps}
use Rattle.sg_drive.proofs.Grouped.{begun_after, budget_before, group_stops, groups_follow, machine_before, one_group, size_at}
use Rattle.sg_drive.proofs.Left.{at}
use Rattle.sg_drive.proofs.Turning.{generated_is_one}
use Rattle.sg_drive.specs.Budget.{HasBudget}
use Rattle.sg_drive.specs.Faults.{IsGenerateFault}
use Rattle.sg_drive.specs.Generated.{AreGroups, Generated, IsGroup}
use Rattle.sg_drive.specs.Going.{Going, beginning}
use Rattle.sg_drive.specs.Groups.{AreGrouped, IsGroupFault, IsOfGroup}
use Rattle.sg_drive.specs.GeneratorModel.{Drive, IsDrive}
use Rattle.sg_drive.specs.Laws.{GeneratedAreShort, GeneratorEnds}
use Rattle.sg_drive.specs.Machine.{Machine}
use Rattle.sg_sessions.specs.Setup.{setup}
use Rattle.sg_drive.specs.declared.fault.GenerateFault.{GenerateFault}

-- a group of this size
pub of_size : {V E : Type 0} (m m2 : Machine) (first count : ℕ) (r : Result V E) → count ≡ min 16 (m.sessions - first) → OnOk r (IsOfGroup first count m m2) → OnOk r (IsOfGroup first (min 16 (m.sessions - first)) m m2)
of_size m m2 first count (Ok v) e h = subst (λ k. IsOfGroup first k m m2) e h
of_size m m2 first count (Err x) e h = tt

pub stops_size : {V : Type 0} (m : Machine) (first count : ℕ) (r : Result V GenerateFault) → count ≡ min 16 (m.sessions - first) → IfErr r (IsGroupFault first count m) → IfErr r (IsGroupFault first (min 16 (m.sessions - first)) m)
stops_size m first count (Ok v) e h = tt
stops_size m first count (Err x) e h = subst (λ k. IsGroupFault first k m x) e h

module _ (seed sessions : ℕ) (g : Graph) (programs : List Program) where
  -- before the first
  pub grouped_first : (m : Machine) → m ≡ machine_before seed sessions g programs → AreCompiled real (g ∷ []) programs → 2 ≤ length g.roles → sessions ≤ most_driven → AreGrouped 0 seed sessions g programs m
  grouped_first m e compiled two few =
      let going : m.going ≡ beginning sessions g programs = ap (λ (z : Machine). z.going) e in
      let none : min sessions (16 * 0) ≡ 0 = omega arith in
      record {
        is = e ∙ ap (at (machine_before seed sessions g programs)) (sym going);
        groups = going;
        budget = subst (λ k. HasBudget 0 k m) (sym none) (subst (HasBudget 0 0) (sym e) (budget_before seed sessions g programs compiled two few));
      }

  module _ (n : ℕ) (m : Machine) (h : AreGrouped n seed sessions g programs m) (before : 16 * n ≤ sessions) where
    abbrev base : Machine
    base = machine_before seed sessions g programs

    whole : begun_after sessions n ≡ 16 * n
    whole = omega (arith, before)

    -- the next group can be made
    pub grouped_budget : HasBudget 0 (16 * n) m
    grouped_budget = subst (λ k. HasBudget 0 k m) whole h.budget

    many : m.sessions ≡ sessions
    many = ap (λ (z : Machine). z.sessions) h.is

    pub grouped_some : 16 * n ≤ m.sessions
    grouped_some = let e = many in omega (arith, before, e)

    here : HasBudget 0 (begun_after sessions n) (at base m.going)
    here = subst (HasBudget 0 (begun_after sessions n)) h.is h.budget

    -- and after it there is one more
    pub grouped_next : (m2 : Machine) → IsOfGroup (16 * n) (min 16 (m.sessions - 16 * n)) m m2 → AreGrouped (n + 1) seed sessions g programs m2
    grouped_next m2 of =
        let a : IsOfGroup (16 * n) (size_at sessions n) m m2 = subst (λ k. IsOfGroup (16 * n) (min 16 (k - 16 * n)) m m2) many of in
        let one : IsGroup seed g (16 * n) (size_at sessions n) m.going a.going = subst (λ (z : Machine). IsGroup z.seed z.graph (16 * n) (size_at sessions n) z.going a.going) h.is a.group in
        let is : m2 ≡ at base a.going = a.is ∙ ap (λ (z : Machine). at z a.going) h.is in
        let going : m2.going ≡ a.going = ap (λ (z : Machine). z.going) is in
        let more : AreGroups (suc n) seed sessions g (beginning sessions g programs) a.going = (m.going, h.groups, one) in
        record {
          is = is ∙ ap (at base) (sym going);
          groups = subst (λ (z : Going). AreGroups (n + 1) seed sessions g (beginning sessions g programs) z) (sym going) (subst (λ k. AreGroups k seed sessions g (beginning sessions g programs) a.going) (sym (add-one n)) more);
          budget = subst (HasBudget 0 (begun_after sessions (n + 1))) (sym is) (one_group base n m.going a.going before here one);
        }

    -- or the whole goes no further
    pub grouped_stops : (groups : ℕ) (e : GenerateFault) → n < groups → sessions ≤ 16 * groups → 16 * groups < sessions + 16 → IsGroupFault (16 * n) (min 16 (m.sessions - 16 * n)) m e → IsGenerateFault seed sessions g programs e
    grouped_stops groups e l all most fault =
        group_stops base groups n programs m.going e here h.groups l all most (subst (λ (z : Machine). IsGroupFault (16 * n) (size_at sessions n) z e) h.is (subst (λ k. IsGroupFault (16 * n) (min 16 (k - 16 * n)) m e) many fault))

  -- after the last, it is the generated run
  pub grouped_done : (n : ℕ) (m : Machine) → AreGrouped n seed sessions g programs m → sessions ≤ 16 * n → (d : Drive) → d ≡ record { schedule = m.going.replay.schedule; replay = m.going.replay; lost = m.going.lost } → NeverFull m.going.replay → IsDrive seed sessions g programs d
  grouped_done n m h all d e room =
      let left = h.budget.has in
      let many : m.sessions ≡ sessions = ap (λ (z : Machine). z.sessions) h.is in
      let steps = left.leaves.steps in
      let short : length m.going.replay.schedule.steps ≤ 82 * sessions = omega (arith, steps, many) in
      let declared : without_steps m.going.replay.schedule ≡ setup sessions g = left.underway.declared ∙ ap (λ (z : Machine). setup z.sessions z.graph) h.is in
      record {
        going = m.going;
        generated = record { groups = n; all = all; are = h.groups };
        replay = ap (λ (z : Drive). z.replay) e;
        schedule = ap (λ (z : Drive). z.schedule) e;
        lost = ap (λ (z : Drive). z.lost) e;
        declared = ap (λ (z : Drive). without_steps z.schedule) e ∙ declared;
        short = subst (λ (z : Schedule). length z.steps ≤ 82 * sessions) (sym (ap (λ (z : Drive). z.schedule) e)) short;
        room = room;
      }

-- ---- every run

-- there is a generated run, after which nothing need be left
an_end : (seed sessions : ℕ) (g : Graph) (programs : List Program) → AreCompiled real (g ∷ []) programs → 2 ≤ length g.roles → sessions ≤ most_driven
    → (x : Going) × Generated seed sessions g programs x × HasBudget 0 (begun_after sessions (0 + (sessions + 15) / 16)) (at (machine_before seed sessions g programs) x)
an_end seed sessions g programs compiled two few =
    let m : Machine = machine_before seed sessions g programs in
    let none : 0 ≡ begun_after sessions 0 = omega arith in
    let rest = groups_follow m ((sessions + 15) / 16) 0 (beginning sessions g programs) (beginning sessions g programs) (subst (λ k. HasBudget 0 k m) none (budget_before seed sessions g programs compiled two few)) refl (omega arith) in
    (rest.0, record { groups = 0 + (sessions + 15) / 16; all = omega arith; are = rest.1 }, rest.2)

pub generator_ends : GeneratorEnds
generator_ends seed sessions g programs compiled two few = let e = an_end seed sessions g programs compiled two few in (e.0, e.1)

pub generated_are_short : GeneratedAreShort
generated_are_short seed sessions g programs x compiled two few h =
    let e = an_end seed sessions g programs compiled two few in
    let same : e.0 ≡ x = generated_is_one seed sessions g programs e.0 x e.1 h in
    let steps = e.2.has.leaves.steps in
    let short : length e.0.replay.schedule.steps ≤ 82 * sessions = omega (arith, steps) in
    subst (λ (z : Going). length z.replay.schedule.steps ≤ 82 * sessions) same short
