-- A run, a step at a time.
use Rattle.std.specs.Prelude.{◌≡◌, ℕ, suc, ◌+◌, ◌⊎◌, true, false, List, [], ◌∷◌, ◌++◌, map, find, length, bytes_eq, refl, Option, Some, None, option_map, filter_map, slice_get, if◌then◌else◌, ◌-◌}
use Rattle.std.specs.List.{list_all, list_any}
use Rattle.std.specs.Option.{option_map_or}
use Rattle.std.proofs.Common.{sym, ◌∙◌, ap, subst, inl, inr, arith, append_assoc, append-nil}
use Rattle.std.proofs.lemmas.Bool.{cases_Bool, and_parts, ne_eqb}
use Rattle.std.proofs.lemmas.List.{map-append}
use Rattle.std.proofs.Math.Seq.{take-append_seam}
use Rattle.std.proofs.lemmas.List.Sums.{sum_by-append}
use Rattle.sg_model.specs.Lists.{range_from}
use Rattle.sg_model.specs.Names.{Name}
use Rattle.sg_model.proofs.Small.{same_bytes, bytes_same}
use Rattle.sg_protocol.specs.Texts.{Hash}
use Rattle.sg_protocol.specs.Keyring.{Program}
use Rattle.sg_protocol.specs.Calls.{Call}
use Rattle.sg_protocol.specs.Past.{Past}
use Rattle.sg_protocol.specs.Schedule.{PairKey, Step, Schedule, is_honest, StartStep, ActStep, AbandonStep, DeliverStep, CraftStep}
use Rattle.sg_protocol.specs.World.{World, Logged, frames, past_of, new_world, keyring_of, call_of}
use Rattle.sg_protocol.specs.Run.{called_if, world_after, world_after_all, run}
use Rattle.sg_protocol.specs.Beginnings.{first_steps}
use Rattle.sg_protocol.specs.Steps.{with_step, RunsGoByStep, is_taken, LogsAreNumbered, logged_size, Added, StepsAddEntries, frame_number, FramesAreNumbered, FitsOutcome}
use Rattle.sg_protocol.proofs.Progressing.{past_called, next_past}
use Rattle.sg_protocol.proofs.FirstSteps.{all_same}

-- ---- one more step

after_more : (sha : Hash) (s : Schedule) (w : World) (k : ℕ) (xs : List Step) (x : Step) → world_after_all sha s w k (xs ++ x ∷ []) ≡ world_after sha s (world_after_all sha s w k xs) (k + length xs) x
after_more sha s w k [] x = ap (λ n. world_after sha s w n x) (let e : k ≡ k + 0 = omega arith in e)
after_more sha s w k (y ∷ ys) x =
    after_more sha s (world_after sha s w k y) (k + 1) ys x
    ∙ ap (λ n. world_after sha s (world_after_all sha s (world_after sha s w k y) (k + 1) ys) n x) (let e : (k + 1) + length ys ≡ k + suc (length ys) = omega arith in e)

pub runs_go_by_step : (sha : Hash) → RunsGoByStep sha
runs_go_by_step sha programs s x =
    sym (all_same sha (with_step s x) (length s.steps) (new_world programs s) 1 (s.steps ++ x ∷ []))
    ∙ ap (λ z. world_after_all sha z (new_world programs s) 1 (s.steps ++ x ∷ [])) same
    ∙ after_more sha s (new_world programs s) 1 s.steps x
    ∙ ap (λ n. world_after sha s (run sha programs s) n x) (let e : 1 + length s.steps ≡ length s.steps + 1 = omega arith in e)
  where
    same : first_steps (length s.steps) (with_step s x) ≡ s
    same = ap (λ (xs : List Step). record s { steps = xs }) (take-append_seam s.steps (x ∷ []))

-- ---- numbers

-- each honest principal has a past
abbrev Peopled : Schedule → World → Type 0
Peopled s w = (who : Name) → is_honest s who ≡ true → (p : Past) × (past_of w who ≡ Some p)

record OneMore (sha : Hash) (s : Schedule) (w now : World) (k : ℕ) : Type 0 where
  entry : Logged
  number : entry.number ≡ k
  log : now.log ≡ w.log ++ entry ∷ []
  peopled : Peopled s now

module _ (sha : Hash) (s : Schedule) where
  one_call : (w : World) (k : ℕ) (who : Name) (o : Option Call) (p : Past) → Peopled s w → OneMore sha s w (called_if sha w k who o p) k
  one_call w k who None p h = record { entry = _; number = refl; log = refl; peopled = h }
  one_call w k who (Some c) p h = record {
    entry = _;
    number = refl;
    log = refl;
    peopled = λ me e. (next_past sha who c (h me e).0, past_called sha w k who c p me ∙ ap (option_map (next_past sha who c)) (h me e).1);
  }

  one_who : (w : World) (k : ℕ) (who : Name) (o : Option Call) → Peopled s w → is_honest s who ≡ true → OneMore sha s w (option_map_or (called_if sha w k who o) (past_of w who) w) k
  one_who w k who o h e = subst (λ z. OneMore sha s w (option_map_or (called_if sha w k who o) z w) k) (sym (h who e).1) (one_call w k who o (h who e).0 h)

  one_step : (w : World) (k : ℕ) (x : Step) → Peopled s w → is_taken s x ≡ true → OneMore sha s w (world_after sha s w k x) k
  one_step w k (CraftStep c) h e = record { entry = _; number = refl; log = refl; peopled = h }
  one_step w k (StartStep who n) h e = one_who w k who (call_of sha s w k (StartStep who n)) h e
  one_step w k (ActStep who n label values) h e = one_who w k who (call_of sha s w k (ActStep who n label values)) h e
  one_step w k (AbandonStep who n) h e = one_who w k who (call_of sha s w k (AbandonStep who n)) h e
  one_step w k (DeliverStep who what) h e = one_who w k who (call_of sha s w k (DeliverStep who what)) h e

  numbered : (w : World) (k : ℕ) (xs : List Step) → Peopled s w → list_all (is_taken s) xs ≡ true → map (λ l. l.number) (world_after_all sha s w k xs).log ≡ map (λ l. l.number) w.log ++ range_from k (length xs)
  numbered w k [] h e = sym (append-nil (map (λ (l : Logged). l.number) w.log))
  numbered w k (x ∷ xs) h e =
      let a = and_parts (is_taken s x) (list_all (is_taken s) xs) e in
      let o = one_step w k x h a.0 in
      numbered (world_after sha s w k x) (k + 1) xs o.peopled a.1
      ∙ ap (λ (l : List ℕ). l ++ range_from (k + 1) (length xs)) (ap (map (λ (l : Logged). l.number)) o.log ∙ map-append (λ (l : Logged). l.number) w.log (o.entry ∷ []) ∙ ap (λ n. map (λ (l : Logged). l.number) w.log ++ n ∷ []) o.number)
      ∙ append_assoc (map (λ (l : Logged). l.number) w.log) (k ∷ []) (range_from (k + 1) (length xs))
      ∙ ap (λ n. map (λ (l : Logged). l.number) w.log ++ k ∷ range_from n (length xs)) (let q : k + 1 ≡ suc k = omega arith in q)

abbrev new_past : List PairKey → List Program → Name → Past
new_past keys programs me = record { keys = keyring_of keys me; programs = programs; first = []; calls = [] }

pub begins : (keys : List PairKey) (programs : List Program) (names : List Name) (who : Name) → list_any (bytes_eq who) names ≡ true → (p : Past) × (find (λ (p : Past). bytes_eq p.keys.me who) (map (λ me. record { keys = keyring_of keys me; programs = programs; first = []; calls = [] }) names) ≡ Some p)
begins keys programs [] who h = absurd (let z : false ≡ true = h in cc)
begins keys programs (n ∷ ns) who h = elim (cases_Bool (bytes_eq n who)) [
  | inl e ↦ (new_past keys programs n, rw e refl)
  | inr e ↦ let r = begins keys programs ns who (others (cases_Bool (bytes_eq who n)) e) in (r.0, rw e r.1)
]
  where
    others : (bytes_eq who n ≡ true) ⊎ (bytes_eq who n ≡ false) → bytes_eq n who ≡ false → list_any (bytes_eq who) ns ≡ true
    others (inl q) e = absurd (let z : true ≡ false = sym (bytes_same n who (sym (same_bytes who n q))) ∙ e in cc)
    others (inr q) e = (rw q at h)

pub logs_are_numbered : (sha : Hash) → LogsAreNumbered sha
logs_are_numbered sha programs s e = numbered sha s (new_world programs s) 1 s.steps (begins s.keys programs s.honest) e

-- ---- the frames that are recorded

frame_found : (before : List Logged) (l : Logged) (after : List Logged) (bs : List ℕ) → l.frame ≡ Some bs
    → slice_get (filter_map (λ (l : Logged). l.frame) (before ++ l ∷ after)) (length (filter_map (λ (l : Logged). l.frame) before)) ≡ Some bs
frame_found [] l after bs e = rw e refl
frame_found (b ∷ before) l after bs e = go (frame_found before l after bs e) b.frame refl
  where
    go : slice_get (filter_map (λ (l : Logged). l.frame) (before ++ l ∷ after)) (length (filter_map (λ (l : Logged). l.frame) before)) ≡ Some bs → (o : Option (List ℕ)) → b.frame ≡ o
        → slice_get (filter_map (λ (l : Logged). l.frame) (b ∷ (before ++ l ∷ after))) (length (filter_map (λ (l : Logged). l.frame) (b ∷ before))) ≡ Some bs
    go h None q = rw q h
    go h (Some x) q = rw q h

pub frames_are_numbered : FramesAreNumbered
frames_are_numbered w before l after bs parts e =
    ap (λ b. if b then None else slice_get (frames w) (frame_number before - 1)) (ne_eqb (frame_number before) 0 (λ q. omega (arith, q)))
    ∙ ap (slice_get (frames w)) (let q : frame_number before - 1 ≡ length (filter_map (λ (l : Logged). l.frame) before) = omega arith in q)
    ∙ ap (λ (log : List Logged). slice_get (filter_map (λ (l : Logged). l.frame) log) (length (filter_map (λ (l : Logged). l.frame) before))) parts
    ∙ frame_found before l after bs e

-- ---- the size of the record

module _ (sha : Hash) (s : Schedule) (w : World) (k : ℕ) where
  nothing : Added s w w
  nothing = record { entries = []; log = sym (append-nil w.log); one = omega arith; fits = tt; size = omega arith }

  entry_added : (ps : List Past) (l : Logged) → FitsOutcome l → Added s w (record { pasts = ps; log = w.log ++ l ∷ [] })
  entry_added ps l h = record { entries = l ∷ []; log = refl; one = omega arith; fits = (h, tt); size = (let i = sum_by-append logged_size w.log (l ∷ []) in omega (arith, i)) }

  call_added : (who : Name) (o : Option Call) (p : Past) → Added s w (called_if sha w k who o p)
  call_added who None p = entry_added w.pasts _ refl
  call_added who (Some c) p = entry_added _ _ refl

  who_added : (who : Name) (o : Option Call) (q : Option Past) → Added s w (option_map_or (called_if sha w k who o) q w)
  who_added who o None = nothing
  who_added who o (Some p) = call_added who o p

  step_added : (x : Step) → Added s w (world_after sha s w k x)
  step_added (CraftStep c) = entry_added w.pasts _ tt
  step_added (StartStep who n) = who_added who (call_of sha s w k (StartStep who n)) (past_of w who)
  step_added (ActStep who n label values) = who_added who (call_of sha s w k (ActStep who n label values)) (past_of w who)
  step_added (AbandonStep who n) = who_added who (call_of sha s w k (AbandonStep who n)) (past_of w who)
  step_added (DeliverStep who what) = who_added who (call_of sha s w k (DeliverStep who what)) (past_of w who)

pub steps_add_entries : (sha : Hash) → StepsAddEntries sha
steps_add_entries sha s w k x = step_added sha s w k x
