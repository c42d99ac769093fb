-- A replay as its parts keep it.
use Rattle.std.proofs.Common.{◌≡◌, ℕ, ◌+◌, ◌<◌, ◌≤◌, List, map, length, sum_by, slice_get, get_or, Bor, Option, None, Some, option_copied, option_map, arith, refl, sym, ◌∙◌, ap, subst}
use Rattle.std.proofs.lemmas.List.{length-map}
use Rattle.std.proofs.lemmas.Option.{slice_get-map, slice_get_read}
use Rattle.sg_model.specs.Last.{last}
use Rattle.sg_model.specs.Limits.{most_record_before}
use Rattle.sg_law.proofs.Cut.{last-option_map}
use Rattle.sg_protocol.proofs.RealHash.{real_hash}
use Rattle.sg_protocol.proofs.Sizes.{steps_add_little}
use Rattle.sg_protocol.proofs.Steps.{runs_go_by_step}
use Rattle.sg_protocol.specs.IsSchedule.{AreCompiled, IsSchedule, IsStep}
use Rattle.sg_protocol.specs.Keyring.{Program}
use Rattle.sg_protocol.specs.Run.{run, world_after}
use Rattle.sg_protocol.specs.Schedule.{Schedule, Step}
use Rattle.sg_protocol.specs.Steps.{record_size, with_step}
use Rattle.sg_protocol.specs.Texts.{real, graph_text_of}
use Rattle.sg_protocol.specs.World.{Logged, World}
use Rattle.sg_world.specs.Faults.{IsAdmitted, IsFull}
use Rattle.sg_world.specs.Holds.{Holds, schedule_of}
use Rattle.sg_world.specs.RecordModel.{Recorded, TakenStep}
use Rattle.sg_world.specs.Indices.{IsIndexOf}
use Rattle.sg_setting.specs.Replay.{Replay, without_steps, with_taken, run_of, size_of, stepped}
use Rattle.sg_setting.specs.Setting.{Setting}
use Rattle.sg_report.specs.Outcome.{outcome_of}
use Rattle.sg_report.specs.Reported.{Reported, reported_log}
use Rattle.sg_report.specs.declared.outcome.Outcome.{Outcome}
use Rattle.sg_world.proofs.ByName.{indexed}
use Rattle.sg_world.proofs.Begins.{begins, is_declared, new_named, nothing}
use Rattle.sg_world.proofs.Pasts.{Named}

-- the replay of these parts
abbrev pub replay : Setting → List Named → Recorded → Replay
replay d nodes r = record { programs = d.programs; schedule = schedule_of d nodes r }

-- ---- a new one

abbrev pub set_by : List Program → Schedule → Setting
set_by programs s = record { programs = programs; graphs = s.graphs; keys = s.keys; sessions = s.sessions }

abbrev pub Begun : List Program → Schedule → Setting → List Named → Recorded → Type 0
Begun programs s d nodes r = Holds d nodes r × (replay d nodes r ≡ record { programs = programs; schedule = without_steps s })

pub begun : (programs : List Program) (s : Schedule) (d : Setting) (nodes : List Named) (r : Recorded) (size : ℕ) → d ≡ set_by programs s → nodes ≡ map (new_named s.keys programs) s.honest → r ≡ nothing size
    → size ≡ sum_by (λ g. length (graph_text_of g)) d.graphs → IsSchedule real (without_steps s) → AreCompiled real s.graphs programs → Begun programs s d nodes r
begun programs s d nodes r size set named none sized h compiled =
    subst (λ (z : Setting). Begun programs s z nodes r) (sym set)
    (subst (λ (z : List Named). Begun programs s (set_by programs s) z r) (sym named)
    (subst (λ (z : Recorded). Begun programs s (set_by programs s) (map (new_named s.keys programs) s.honest) z) (sym none) (
      begins (set_by programs s) s.honest size h compiled (subst (λ (z : Setting). size ≡ sum_by (λ g. length (graph_text_of g)) z.graphs) set sized),
      ap (λ (z : Schedule). record { programs = programs; schedule = z }) (is_declared (set_by programs s) s.honest size),
    )))

-- ---- a step

pub taken_is : (rep : Replay) (d : Setting) (nodes now : List Named) (r r2 : Recorded) (x : Step) → replay d nodes r ≡ rep → schedule_of d now r2 ≡ with_step (schedule_of d nodes r) x → replay d now r2 ≡ with_taken rep x
taken_is rep d nodes now r r2 x is h = ap (λ (z : Schedule). record { programs = d.programs; schedule = z }) h ∙ ap (λ (z : Replay). with_taken z x) is

pub run_is : (rep new : Replay) (x : Step) → new ≡ with_taken rep x → run_of new ≡ stepped rep x
run_is rep new x h = ap run_of h ∙ runs_go_by_step real rep.programs rep.schedule x

-- a step that has its index, if the record is not full, is admitted
pub is_admitted : (rep : Replay) (d : Setting) (nodes : List Named) (r : Recorded) (x : Step) (index : Option ℕ) → replay d nodes r ≡ rep → Holds d nodes r → IsIndexOf nodes x index → r.size ≤ most_record_before
    → IsAdmitted rep x
is_admitted rep d nodes r x index is h at small =
    let sized : r.size ≡ size_of (replay d nodes r) = h.run.size in
    subst (λ (z : Replay). IsAdmitted z x) is (indexed nodes x index at, λ (full : IsFull (replay d nodes r)). omega (arith, small, sized, full))

-- what a step adds has room
pub size_after : (rep new : Replay) (d : Setting) (nodes : List Named) (r : Recorded) (x : Step) → replay d nodes r ≡ rep → Holds d nodes r → IsStep real rep.schedule x → new ≡ with_taken rep x → r.size ≤ 264241152 → size_of new < 268435456
size_after rep new d nodes r x is h step taken small =
    let S = schedule_of d nodes r in
    let W = run real d.programs S in
    let more : record_size (with_step S x) (world_after real S W (length S.steps + 1) x) < record_size S W + 4194304 =
    steps_add_little real real_hash d.programs S h.compiled h.schedule (length S.steps + 1) x (subst (λ (z : Replay). IsStep real z.schedule x) (sym is) step) in
    let after : size_of (with_taken (replay d nodes r) x) ≡ record_size (with_step S x) (world_after real S W (length S.steps + 1) x) = ap (λ (z : World). record_size (with_step S x) z) (runs_go_by_step real d.programs S x) in
    let there : size_of new ≡ size_of (with_taken (replay d nodes r) x) = ap size_of taken ∙ ap (λ (z : Replay). size_of (with_taken z x)) (sym is) in
    let sized = h.run.size in
    omega (arith, more, after, there, sized, small)

-- what is reported of the last step
pub last_reported : (rep : Replay) (d : Setting) (nodes : List Named) (r : Recorded) → replay d nodes r ≡ rep → Holds d nodes r → (o : Option (Bor Outcome)) → option_copied o ≡ option_map (λ (e : TakenStep). e.outcome) (last r.entries)
    → option_map (λ (x : Bor Outcome). outcome_of x.now) o ≡ last (reported_log (run_of rep).log)
last_reported rep d nodes r is h o given =
    mapped o ∙ ap (option_map outcome_of) given ∙ of_entry (last r.entries)
    ∙ sym (last-option_map (λ (e : TakenStep). outcome_of e.outcome) r.entries) ∙ ap (λ (z : List Reported). last z) h.run.reported
    ∙ ap (λ (z : Replay). last (reported_log (run_of z).log)) is
  where
    mapped : (o : Option (Bor Outcome)) → option_map (λ (x : Bor Outcome). outcome_of x.now) o ≡ option_map outcome_of (option_copied o)
    mapped None = refl
    mapped (Some x) = refl

    of_entry : (o : Option TakenStep) → option_map outcome_of (option_map (λ (e : TakenStep). e.outcome) o) ≡ option_map (λ (e : TakenStep). outcome_of e.outcome) o
    of_entry None = refl
    of_entry (Some e) = refl

-- what was noted in each step
pub noted : (rep : Replay) (d : Setting) (nodes : List Named) (r : Recorded) → replay d nodes r ≡ rep → Holds d nodes r → r.notes ≡ map (λ (l : Logged). l.notes) (run_of rep).log
noted rep d nodes r is h = h.run.notes ∙ ap (λ (z : Replay). map (λ (l : Logged). l.notes) (run_of z).log) is

-- as much is reported as steps were taken
pub reported_many : (rep : Replay) (d : Setting) (nodes : List Named) (r : Recorded) → replay d nodes r ≡ rep → Holds d nodes r → length r.entries ≡ length (reported_log (run_of rep).log)
reported_many rep d nodes r is h =
    sym (length-map r.entries (λ (e : TakenStep). outcome_of e.outcome)) ∙ ap (λ (z : List Reported). length z) h.run.reported ∙ ap (λ (z : Replay). length (reported_log (run_of z).log)) is

-- a list mapped, at an index
pub map_at : {A B : Type 0} (f : A → B) (xs : List A) (i : ℕ) (x : A) → slice_get xs i ≡ Some x → slice_get (map f xs) i ≡ Some (f x)
map_at f xs i x e = slice_get-map f xs i ∙ ap (option_map f) e

-- what is reported of the step at an index
pub reported_at : (rep : Replay) (d : Setting) (nodes : List Named) (r : Recorded) → replay d nodes r ≡ rep → Holds d nodes r → (i : ℕ) (e : TakenStep) → slice_get r.entries i ≡ Some e → Some (outcome_of e.outcome) ≡ slice_get (reported_log (run_of rep).log) i
reported_at rep d nodes r is h i e q =
    sym (map_at (λ (t : TakenStep). outcome_of t.outcome) r.entries i e q) ∙ ap (λ (ts : List Reported). slice_get ts i) h.run.reported ∙ ap (λ (z : Replay). slice_get (reported_log (run_of z).log) i) is

-- and so by a list that is the record's
pub reported_here : (rep : Replay) (d : Setting) (nodes : List Named) (r : Recorded) → replay d nodes r ≡ rep → Holds d nodes r → (es : List TakenStep) → es ≡ r.entries → (i : ℕ) (e : TakenStep) → i < length rep.schedule.steps → e ≡ get_or es i e
    → Some (outcome_of e.outcome) ≡ slice_get (reported_log (run_of rep).log) i
reported_here rep d nodes r is h es same i e below at =
    let many : length rep.schedule.steps ≡ length r.entries = sym (ap (λ (z : Replay). length z.schedule.steps) is) ∙ length-map r.entries (λ (t : TakenStep). t.step) in
    reported_at rep d nodes r is h i e (slice_get_read r.entries (length rep.schedule.steps) i e many below (at ∙ ap (λ (ts : List TakenStep). get_or ts i e) same))
