-- The entries of a record, gone through in order.
use Rattle.std.proofs.Common.{◌≡◌, ℕ, zero, suc, ◌+◌, ◌<◌, true, List, [], ◌∷◌, ◌++◌, map, length, take, drop, get_or, refl, sym, ◌∙◌, ap, subst, arith, append_assoc, append-nil}
use Rattle.std.specs.Prelude.{Some, None, slice_get}
use Rattle.std.specs.List.{AllZip, list_all}
use Rattle.std.specs.Option.{option_to_list}
use Rattle.sg_protocol.specs.Calls as Protocol
use Rattle.sg_protocol.specs.Calls.{events_of_answer}
use Rattle.sg_protocol.specs.Run.{events_of_outcome}
use Rattle.sg_protocol.specs.Schedule.{Step}
use Rattle.sg_protocol.specs.Steps.{frame_number, is_taken}
use Rattle.sg_protocol.specs.World as Core
use Rattle.sg_protocol.specs.World.{Logged}
use Rattle.sg_certify.specs.Runs.{IsUnbroken}
use Rattle.sg_report.specs.Outcome.{outcome_of}
use Rattle.sg_report.specs.Reported.{Reported, reported_after, reported_log, reported_outcome, event_reported}
use Rattle.sg_world.specs.Invariant.{HoldsWorld}
use Rattle.sg_world.specs.Model.{replay_of}
use Rattle.sg_world.specs.RecordModel.{IsLearnt, TakenStep}
use Rattle.sg_setting.specs.Replay.{Replay, run_of}
use Rattle.sg_world.specs.Walked.{PremisesHold}
use Rattle.sg_world.specs.declared.world.World.TheInside.{Inside}
use Rattle.sg_world.proofs.EntryCalls.{entry_call}
use Rattle.sg_world.proofs.Worlds.{map_at}
use Rattle.sg_world.proofs.Zipped.{zip_at, zip_length}

-- the event of an outcome is that which is reported
pub reported_event : (n : ℕ) (o : Core.Outcome) → events_of_outcome o ≡ option_to_list (event_reported (reported_outcome n o))
reported_event n (Core.Outcome.Answered a) = of_answer a
  where
    of_answer : (a : Protocol.Answer) → events_of_answer a ≡ option_to_list (event_reported (reported_outcome n (Core.Outcome.Answered a)))
    of_answer (Protocol.Answer.Happened e) = refl
    of_answer (Protocol.Answer.Sends e to f) = refl
    of_answer Protocol.Answer.Abandoned = refl
    of_answer (Protocol.Answer.NotStarted f) = refl
    of_answer (Protocol.Answer.NotActed f) = refl
    of_answer Protocol.Answer.NotAbandoned = refl
    of_answer (Protocol.Answer.NotDelivered r) = refl
reported_event n Core.Outcome.Crafted = refl
reported_event n Core.Outcome.NoFrame = refl

-- what is reported of a log, at an index
reported_at : (before xs : List Logged) (i : ℕ) (l : Logged) → slice_get xs i ≡ Some l → slice_get (reported_after before xs) i ≡ Some (reported_outcome (frame_number (before ++ take i xs)) l.outcome)
reported_at before [] i l e = absurd (cc)
reported_at before (x ∷ xs) zero l e = (let same : x ≡ l = cc in ap (λ (z : Logged). Some (reported_outcome (frame_number before) z.outcome)) same ∙ ap (λ (ls : List Logged). Some (reported_outcome (frame_number ls) l.outcome)) (sym (append-nil before)))
reported_at before (x ∷ xs) (suc i) l e = reported_at (before ++ x ∷ []) xs i l e ∙ ap (λ (ls : List Logged). Some (reported_outcome (frame_number ls) l.outcome)) (append_assoc before (x ∷ []) (take i xs))

-- a list parted at an index
parted : (xs : List Logged) (i : ℕ) → i < length xs → (l : Logged) × (slice_get xs i ≡ Some l) × (xs ≡ take i xs ++ l ∷ drop (suc i) xs)
parted [] i h = absurd (omega (arith, h))
parted (x ∷ xs) zero h = (x, refl, refl)
parted (x ∷ xs) (suc i) h = let r = parted xs i (omega (arith, h)) in (r.0, r.1, ap (λ ls. x ∷ ls) r.2)

take_one : (xs : List Logged) (i : ℕ) (l : Logged) → slice_get xs i ≡ Some l → take (i + 1) xs ≡ take i xs ++ l ∷ []
take_one xs i l e = ap (λ n. take n xs) (let q : i + 1 ≡ suc i = omega arith in q) ∙ go xs i e
  where
    go : (xs : List Logged) (i : ℕ) → slice_get xs i ≡ Some l → take (suc i) xs ≡ take i xs ++ l ∷ []
    go [] i e = absurd (cc)
    go (x ∷ xs) zero e = (let same : x ≡ l = cc in ap (λ z. z ∷ []) same)
    go (x ∷ xs) (suc i) e = ap (λ ls. x ∷ ls) (go xs i e)

take_length : (xs : List Logged) (i : ℕ) → i < length xs → length (take i xs) ≡ i
take_length [] i h = absurd (omega (arith, h))
take_length (x ∷ xs) zero h = refl
take_length (x ∷ xs) (suc i) h = ap suc (take_length xs i (omega (arith, h)))

take_whole : (xs : List Logged) (i : ℕ) → i ≡ length xs → take i xs ≡ xs
take_whole [] i e = ap (λ n. take n []) e
take_whole (x ∷ xs) zero e = absurd (omega (arith, e))
take_whole (x ∷ xs) (suc i) e = ap (λ ls. x ∷ ls) (take_whole xs i (omega (arith, e)))

-- the entries are those of the replay's run, in which both assumptions hold
pub record AreOfRun (z : Replay) (entries : List TakenStep) : Type 0 where
  pub unbroken : IsUnbroken z.programs z.schedule
  pub reported : map (λ (e : TakenStep). outcome_of e.outcome) entries ≡ reported_log (run_of z).log
  pub learnt : AllZip (IsLearnt z.programs z.schedule) entries (run_of z).log
  pub taken : list_all (is_taken z.schedule) z.schedule.steps ≡ true
  pub steps : z.schedule.steps ≡ map (λ (e : TakenStep). e.step) entries

pub of_run : (w : Inside) → HoldsWorld w → (z : Replay) → replay_of w ≡ z → (entries : List TakenStep) → entries ≡ w.history.done.entries → PremisesHold z → AreOfRun z entries
of_run w h z view entries are premises =
    subst (AreOfRun z) (sym are)
    (subst (λ (y : Replay). AreOfRun y w.history.done.entries) view record {
      unbroken = record { compiled = h.compiled; schedule = h.schedule; premises = subst PremisesHold (sym view) premises };
      reported = h.run.reported;
      learnt = h.run.learnt;
      taken = h.taken;
      steps = refl;
    })

-- the entry at an index is of the log's step there
pub record IsAt (z : Replay) (i : ℕ) (e : TakenStep) : Type 0 where
  pub entry : Logged
  pub after : List Logged
  pub parts : (run_of z).log ≡ take i (run_of z).log ++ entry ∷ after
  pub next : take (i + 1) (run_of z).log ≡ take i (run_of z).log ++ entry ∷ []
  pub number : ℕ
  pub reported : outcome_of e.outcome ≡ reported_outcome number entry.outcome
  pub learnt : IsLearnt z.programs z.schedule e entry
  pub silent : entry.call ≡ None → events_of_outcome entry.outcome ≡ []

module _ (z : Replay) (entries : List TakenStep) (h : AreOfRun z entries) where
  abbrev log : List Logged
  log = (run_of z).log

  pub as_many : length entries ≡ length (run_of z).log
  as_many = zip_length (IsLearnt z.programs z.schedule) entries (run_of z).log h.learnt

  pub all_taken : (i : ℕ) → i ≡ length entries → take i (run_of z).log ≡ (run_of z).log
  all_taken i e = take_whole log i (e ∙ as_many)

  pub entry_at : (i : ℕ) (e : TakenStep) → slice_get entries i ≡ Some e → i < length entries → IsAt z i e
  entry_at i e at less =
      let within : i < length log = (let many = as_many in omega (arith, less, many)) in
      let p = parted log i within in
      let l : Logged = p.0 in
      let step : slice_get z.schedule.steps (length (take i log)) ≡ Some e.step = ap (slice_get z.schedule.steps) (take_length log i within) ∙ ap (λ (xs : List Step). slice_get xs i) h.steps ∙ map_at (λ (x : TakenStep). x.step) entries i e at in
      let b = entry_call z.programs z.schedule (take i log) l (drop (suc i) log) e.step h.taken p.2 step in
      let both : Some (outcome_of e.outcome) ≡ Some (reported_outcome (frame_number (take i log)) l.outcome) =
      sym (map_at (λ (x : TakenStep). outcome_of x.outcome) entries i e at) ∙ ap (λ (ts : List Reported). slice_get ts i) h.reported ∙ reported_at [] log i l p.1 in
      record {
        entry = l;
        after = drop (suc i) log;
        parts = p.2;
        next = take_one log i l p.1;
        number = frame_number (take i log);
        reported = cc;
        learnt = zip_at (IsLearnt z.programs z.schedule) entries log i e l h.learnt at p.1;
        silent = b.silent;
      }

  pub entry_there : (i : ℕ) (e : TakenStep) → i < length entries → e ≡ get_or entries i e → IsAt z i e
  entry_there i e less is = entry_at i e (got entries i e less is) less
    where
      got : (xs : List TakenStep) (i : ℕ) (x : TakenStep) → i < length xs → x ≡ get_or xs i x → slice_get xs i ≡ Some x
      got [] i x h is = absurd (omega (arith, h))
      got (y ∷ ys) zero x h is = ap (λ z. Some z) (sym is)
      got (y ∷ ys) (suc i) x h is = got ys i x (omega (arith, h)) is
