-- What an accepted frame shows, in a run with restarts.
use Rattle.std.specs.Prelude.{◌≡◌, ℕ, ◌+◌, Bool, true, false, cond, List, [], ◌∷◌, ◌++◌, map, flat_map, length, bytes_eq, refl, Option, Some, None, All}
use Rattle.std.specs.List.{AllByRecursion, cons_option}
use Rattle.std.specs.Option.{option_map_or}
use Rattle.std.proofs.Common.{sym, ◌∙◌, ap, subst, inl, inr, arith, append_assoc, append-nil}
use Rattle.std.proofs.lemmas.Bool.{cases_Bool}
use Rattle.std.proofs.lemmas.List.Elements.{All-from_recursion, recursion_from_All, filter_map-append}
use Rattle.sg_model.specs.Last.{last, up_to_last, last_of, after_last}
use Rattle.sg_model.specs.Names.{Name}
use Rattle.sg_model.proofs.Small.{bytes_refl, length-more, all-parts}
use Rattle.sg_model.proofs.Members.{In, in_from_Contains}
use Rattle.sg_law.proofs.Lists.{last-append}
use Rattle.sg_protocol.specs.Frame.{Item, Frame}
use Rattle.sg_protocol.specs.Texts.{Hash, IsHash}
use Rattle.sg_protocol.specs.Keyring.{Program}
use Rattle.sg_protocol.specs.Session.{items_of, principal, commitments}
use Rattle.sg_protocol.specs.Calls.{Call, Deliver, Happened, Abandoned}
use Rattle.sg_protocol.specs.Verdict.{receipt}
use Rattle.sg_protocol.specs.Acting.{answer}
use Rattle.sg_protocol.specs.Notes.{notes}
use Rattle.sg_protocol.specs.Past.{AnsweredCall, Past, node_of}
use Rattle.sg_protocol.specs.Schedule.{Schedule, NamedSession, Step}
use Rattle.sg_protocol.specs.World.{Outcome, Logged, World, Answered, past_of, new_world}
use Rattle.sg_protocol.specs.Run.{called, uncalled, world_after, run, frame_in}
use Rattle.sg_protocol.specs.Premises.{Premises}
use Rattle.sg_protocol.specs.Receipts.{IsTaken}
use Rattle.sg_protocol.specs.LastSteps.{exchanges_in, exchanges_of, is_of, sent_item, honest_items, bare, HeldBySender, ShowsLastSteps}
use Rattle.sg_protocol.specs.Restarts.{StepOrRestart, Stepped, Restarted, live_of, world_restarted, world_over_restarts, run_with_restarts, IsStepOrRestart, dropped, without_restarts, HasMoreAbandonments, answered_call, called_by, calls_at, HeldInLife, ShowsLastStepsInLife, FramesShowLastStepsOverRestarts}
use Rattle.sg_protocol.proofs.Progressing.{Suffix, suffix_refl, suffix_trans, suffix_step, past_called_at}
use Rattle.sg_protocol.proofs.FirstSteps.{one_more, premises_earlier, AreBelow, below_more}
use Rattle.sg_protocol.proofs.LastSteps.{shows_at_end}
use Rattle.sg_protocol.proofs.OverRestarts.{cast_same, premises_same, taken_there}
use Rattle.sg_protocol.proofs.Restarts.{AddsSame, Same, plain, same_runs, is_plain, same_last}
use Rattle.sg_protocol.proofs.Whole.{first_past}
use Rattle.sg_protocol.proofs.Happenings.{Happening, Asked, Idle, happens, all_happen}
use Rattle.sg_protocol.proofs.Courses.{all_same, course_from}

-- ---- the calls of a run without restarts are those of the pasts

module _ (sha : Hash) (me : Name) where
  -- a past has the calls that the log has
  abbrev HasCalls : List Logged → Option Past → Type 0
  HasCalls log None = calls_at me log ≡ []
  HasCalls log (Some p) = p.calls ≡ calls_at me log

  calls_same : (log log' : List Logged) (o : Option Past) → calls_at me log' ≡ calls_at me log → HasCalls log o → HasCalls log' o
  calls_same log log' None e h = e ∙ h
  calls_same log log' (Some p) e h = h ∙ sym e

  calls-append : (xs ys : List Logged) → calls_at me (xs ++ ys) ≡ calls_at me xs ++ calls_at me ys
  calls-append xs ys = filter_map-append (called_by me) xs ys

  no_call : (log : List Logged) (l : Logged) → called_by me l ≡ None → calls_at me (log ++ l ∷ []) ≡ calls_at me log
  no_call log l e = calls-append log (l ∷ []) ∙ ap (λ o. calls_at me log ++ cons_option o []) e ∙ append-nil (calls_at me log)

  calls_idle : (w : World) (k : ℕ) (who : Option Name) (o : Outcome) (fr : Option (List ℕ)) → HasCalls w.log (past_of w me) → HasCalls (uncalled w k who o fr).log (past_of w me)
  calls_idle w k who o fr h = calls_same w.log (uncalled w k who o fr).log (past_of w me) (no_call w.log _ (none (option_map_or (bytes_eq me) who false))) h
    where
      none : (b : Bool) → cond b (answered_call None o) None ≡ None
      none true = refl
      none false = refl

  calls_called : (w : World) (k : ℕ) (who : Name) (c : Call) (past : Past) → past_of w who ≡ Some past → HasCalls w.log (past_of w me) → HasCalls (called sha w k who c past).log (past_of (called sha w k who c past) me)
  calls_called w k who c past q h = elim (past_called_at sha w k who past q c me) [
    | inl r ↦ subst (HasCalls (w.log ++ entry ∷ [])) (sym r.2) (ap (λ l. l ++ record { call = c; answer = answer sha (node_of past) c } ∷ []) (subst (HasCalls w.log) r.1 h) ∙ sym (mine_too r.0))
    | inr r ↦ subst (HasCalls (w.log ++ entry ∷ [])) (sym r.1) (calls_same w.log (w.log ++ entry ∷ []) (past_of w me) (others r.0) h)
  ]
    where
      entry : Logged
      entry = record { number = k; who = Some who; call = Some c; outcome = Answered (answer sha (node_of past) c); frame = frame_in (answer sha (node_of past) c); notes = notes sha (node_of past) c }

      others : bytes_eq me who ≡ false → calls_at me (w.log ++ entry ∷ []) ≡ calls_at me w.log
      others e = no_call w.log entry (rw e refl)

      mine_too : bytes_eq me who ≡ true → calls_at me (w.log ++ entry ∷ []) ≡ calls_at me w.log ++ record { call = c; answer = answer sha (node_of past) c } ∷ []
      mine_too e = calls-append w.log (entry ∷ []) ∙ ap (λ l. calls_at me w.log ++ l) (let z : calls_at me (entry ∷ []) ≡ record { call = c; answer = answer sha (node_of past) c } ∷ [] = rw e refl in z)

  calls_past : (w : World) (k : ℕ) (who : Name) (c : Call) (o : Option Past) → past_of w who ≡ o → HasCalls w.log (past_of w me) → let w' = option_map_or (called sha w k who c) o w in HasCalls w'.log (past_of w' me)
  calls_past w k who c None q h = h
  calls_past w k who c (Some past) q h = calls_called w k who c past q h

  calls_course : (w : World) (k : ℕ) (hs : List Happening) → HasCalls w.log (past_of w me) → HasCalls (all_happen sha w k hs).log (past_of (all_happen sha w k hs) me)
  calls_course w k [] h = h
  calls_course w k (Asked who c ∷ hs) h = calls_course (happens sha w k (Asked who c)) (k + 1) hs (calls_past w k who c (past_of w who) refl h)
  calls_course w k (Idle who o fr ∷ hs) h = calls_course (uncalled w k who o fr) (k + 1) hs (calls_idle w k who o fr h)

  calls_new : (programs : List Program) (s : Schedule) → HasCalls [] (past_of (new_world programs s) me)
  calls_new programs s = go (past_of (new_world programs s) me) refl
    where
      go : (o : Option Past) → past_of (new_world programs s) me ≡ o → HasCalls [] o
      go None e = refl
      go (Some p) e = ap (λ (z : Past). z.calls) (first_past s.keys programs s.honest me p e).0

  run_calls : (programs : List Program) (s : Schedule) → HasCalls (run sha programs s).log (past_of (run sha programs s) me)
  run_calls programs s = subst (λ (w : World). HasCalls w.log (past_of w me)) (all_same sha s (new_world programs s) 1 s.steps) (calls_course (new_world programs s) 1 (course_from sha s (new_world programs s) 1 s.steps) (calls_new programs s))

in_calls : (me : Name) (log : List Logged) (l : Logged) (c : AnsweredCall) → In log l → called_by me l ≡ Some c → calls_at me log ≡ [] → ⊥
in_calls me [] l c i e n = i
in_calls me (x ∷ xs) l c (inl q) e n = (let z : cons_option (Some c) (calls_at me xs) ≡ [] = ap (λ o. cons_option o (calls_at me xs)) (sym (ap (called_by me) (sym q) ∙ e)) ∙ n in absurd (cc))
in_calls me (x ∷ xs) l c (inr i) e n = in_calls me xs l c i e (tail (called_by me x) (calls_at me xs) n)
  where
    tail : (o : Option AnsweredCall) (cs : List AnsweredCall) → cons_option o cs ≡ [] → cs ≡ []
    tail None cs n = n
    tail (Some c) cs n = absurd (cc)

-- ---- abandonments show nothing

module _ (sid : List ℕ) where
  items_more : (ls log : List Logged) → HasMoreAbandonments ls log → honest_items sid ls ≡ honest_items sid log
  items_more [] log e = ap (honest_items sid) (sym e)
  items_more (l ∷ ls) log (inl h) = ap (λ o. cons_option o (honest_items sid ls)) (ap (sent_item sid) (h.0).outcome) ∙ items_more ls log h.1
  items_more (l ∷ ls) log (inr h) = ap (cons_option (sent_item sid l.outcome)) (items_more ls h.0 h.2) ∙ ap (honest_items sid) (sym h.1)

  module _ (r : ℕ) (who : Name) where
    silent_call : (b : Bool) (c : Option Call) (cs : List AnsweredCall) → exchanges_of sid r (cons_option (cond b (answered_call c (Answered Abandoned)) None) cs) ≡ exchanges_of sid r cs
    silent_call false c cs = refl
    silent_call true None cs = refl
    silent_call true (Some c) cs = refl

    same_rest : (o : Option AnsweredCall) (cs cs' : List AnsweredCall) → exchanges_of sid r cs ≡ exchanges_of sid r cs' → exchanges_of sid r (cons_option o cs) ≡ exchanges_of sid r (cons_option o cs')
    same_rest None cs cs' h = h
    same_rest (Some c) cs cs' h = elim (cases_Bool (is_of sid r c)) [ inl b ↦ rw b (ap (λ z. exchanges_in c.call c.answer ++ z) h) | inr b ↦ rw b h ]

    exchanges_more : (ls log : List Logged) → HasMoreAbandonments ls log → exchanges_of sid r (calls_at who ls) ≡ exchanges_of sid r (calls_at who log)
    exchanges_more [] log e = ap (λ z. exchanges_of sid r (calls_at who z)) (sym e)
    exchanges_more (l ∷ ls) log (inl h) =
        ap (λ out. exchanges_of sid r (cons_option (cond (option_map_or (bytes_eq who) l.who false) (answered_call l.call out) None) (calls_at who ls))) (h.0).outcome
        ∙ silent_call (option_map_or (bytes_eq who) l.who false) l.call (calls_at who ls) ∙ exchanges_more ls log h.1
    exchanges_more (l ∷ ls) log (inr h) = same_rest (called_by who l) (calls_at who ls) (calls_at who h.0) (exchanges_more ls h.0 h.2) ∙ ap (λ z. exchanges_of sid r (calls_at who z)) (sym h.1)

-- ---- the beginning of a run with restarts

module _ (sha : Hash) (s : Schedule) where
  -- the number of the next step
  abbrev number_after : World → ℕ → List StepOrRestart → ℕ
  number_after w k [] = k
  number_after w k (Stepped x ∷ xs) = number_after (world_after sha s w k x) (k + 1) xs
  number_after w k (Restarted who ∷ xs) = number_after (world_restarted w who) (k + length (live_of w who)) xs

  over_append : (xs ys : List StepOrRestart) (w : World) (k : ℕ) → world_over_restarts sha s w k (xs ++ ys) ≡ world_over_restarts sha s (world_over_restarts sha s w k xs) (number_after w k xs) ys
  over_append [] ys w k = refl
  over_append (Stepped x ∷ xs) ys w k = over_append xs ys (world_after sha s w k x) (k + 1)
  over_append (Restarted who ∷ xs) ys w k = over_append xs ys (world_restarted w who) (k + length (live_of w who))

  pub over_suffix : (xs : List StepOrRestart) (w : World) (k : ℕ) → Suffix k w.log (world_over_restarts sha s w k xs).log
  over_suffix [] w k = suffix_refl k w.log
  over_suffix (Stepped x ∷ xs) w k = suffix_trans k (k + 1) w.log (world_after sha s w k x).log (world_over_restarts sha s (world_after sha s w k x) (k + 1) xs).log (omega arith) (suffix_step sha s w k x) (over_suffix xs (world_after sha s w k x) (k + 1))
  over_suffix (Restarted who ∷ xs) w k = suffix_trans k (k + length (live_of w who)) w.log w.log (world_over_restarts sha s (world_restarted w who) (k + length (live_of w who)) xs).log (omega arith) (suffix_refl k w.log) (over_suffix xs (world_restarted w who) (k + length (live_of w who)))

  over_below : (xs : List StepOrRestart) (w : World) (k : ℕ) → AreBelow k w.log → AreBelow (number_after w k xs) (world_over_restarts sha s w k xs).log
  over_below [] w k a = a
  over_below (Stepped x ∷ xs) w k a = over_below xs (world_after sha s w k x) (k + 1) (below_more k w.log (world_after sha s w k x).log (one_more sha s w k x) a)
  over_below (Restarted who ∷ xs) w k a = over_below xs (world_restarted w who) (k + length (live_of w who)) (λ l i. let h = a l i in omega (arith, h))

-- ---- the law

-- the calls of a past
calls_are : (sha : Hash) (w : World) (me : Name) (past : Past) → past_of w me ≡ Some past → HasCalls sha me w.log (past_of w me) → past.calls ≡ calls_at me w.log
calls_are sha w me past e h = (let z : HasCalls sha me w.log (Some past) = subst (HasCalls sha me w.log) e h in z)

-- who took a frame has a past
has_past : (sha : Hash) (w : World) (l : Logged) (who : Name) (bs : List ℕ) (f : Frame) → IsTaken w l who bs f → HasCalls sha who w.log (past_of w who) → (past : Past) × (past_of w who ≡ Some past)
has_past sha w l who bs f t h = go (past_of w who) refl h
  where
    is_called : called_by who l ≡ Some (record { call = Deliver bs; answer = Happened (receipt f) })
    is_called =
        ap (λ o. cond (option_map_or (bytes_eq who) o false) (answered_call l.call l.outcome) None) t.1
        ∙ ap (λ b. cond b (answered_call l.call l.outcome) None) (bytes_refl who)
        ∙ ap (λ c. answered_call c l.outcome) t.2 ∙ ap (answered_call (Some (Deliver bs))) t.4

    go : (o : Option Past) → past_of w who ≡ o → HasCalls sha who w.log o → (past : Past) × (past_of w who ≡ Some past)
    go None e h = absurd (in_calls who w.log l (record { call = Deliver bs; answer = Happened (receipt f) }) (in_from_Contains w.log l t.0) is_called h)
    go (Some p) e h = (p, e)

pub frames_show_last_steps_over_restarts : (sha : Hash) → IsHash sha → FramesShowLastStepsOverRestarts sha
frames_show_last_steps_over_restarts sha hash programs s xs x ys who bs f l cast g compiled sched good premises ends t is_cast is_graph =
    let zs : List StepOrRestart = xs ++ Stepped x ∷ [] in
    let w : World = run_with_restarts sha programs s zs in
    let whole : xs ++ Stepped x ∷ ys ≡ zs ++ ys = sym (append_assoc xs (Stepped x ∷ []) ys) in
    let good_zs : All (IsStepOrRestart sha s) zs = All-from_recursion (IsStepOrRestart sha s) zs (all-parts (IsStepOrRestart sha s) zs ys (subst (AllByRecursion (IsStepOrRestart sha s)) whole (recursion_from_All (IsStepOrRestart sha s) (xs ++ Stepped x ∷ ys) good))).0 in
    let n : ℕ = number_after sha s (new_world programs s) 1 zs in
    let longer : run_with_restarts sha programs s (xs ++ Stepped x ∷ ys) ≡ world_over_restarts sha s w n ys = ap (run_with_restarts sha programs s) whole ∙ over_append sha s zs ys (new_world programs s) 1 in
    let early : Premises sha s w = premises_earlier sha s n w (world_over_restarts sha s w n ys) (over_suffix sha s ys w n) (over_below sha s zs (new_world programs s) 1 (λ l i. absurd i)) (subst (Premises sha s) longer premises) in
    let es : List NamedSession = dropped sha s (new_world programs s) 1 zs in
    let its : List Step = (without_restarts sha programs s zs).steps in
    let p : Schedule = plain sha hash programs s compiled sched zs good_zs in
    let w' : World = run sha programs p in
    let same : Same w w' = same_runs sha hash programs s compiled sched zs good_zs in
    let last_is : last w'.log ≡ Some l = the_last (run_with_restarts sha programs s xs).log w.log w'.log ends (same_last sha hash programs s compiled sched xs x good_zs) in
    let there : IsTaken w' l who bs f = taken_there w w' same l who bs f t in
    let its_past : (past : Past) × (past_of w' who ≡ Some past) = has_past sha w' l who bs f there (run_calls sha who programs p) in
    let r : ShowsLastSteps p w' g cast f (up_to_last (λ (i : Item). i.role) f.receiver (flat_map items_of (exchanges_of f.sid f.receiver (its_past.0).calls))) =
    shows_at_end sha hash programs p who bs f l cast g its_past.0 compiled (is_plain sha hash programs s compiled sched zs good_zs) (premises_same w w' same sha s es its early) last_is there (sym (cast_same w w' same f.sid) ∙ is_cast) is_graph its_past.1
    in
    let mine : exchanges_of f.sid f.receiver (its_past.0).calls ≡ exchanges_of f.sid f.receiver (calls_at who w.log) = ap (exchanges_of f.sid f.receiver) (calls_are sha w' who its_past.0 its_past.1 (run_calls sha who programs p)) ∙ exchanges_more f.sid f.receiver who w'.log w.log same.log in
    subst (λ e. ShowsLastStepsInLife s w g cast f (up_to_last (λ (i : Item). i.role) f.receiver (flat_map items_of e))) mine record {
      items = r.items ∙ ap (λ is. map bare (last_of (λ (i : Item). i.role) (after_last (λ (i : Item). i.role) f.receiver is))) (items_more f.sid w'.log w.log same.log);
      held = λ prefix i rest e h. in_life w w' same i (commitments g (up_to_last (λ (i : Item). i.role) f.receiver (flat_map items_of (exchanges_of f.sid f.receiver (its_past.0).calls)) ++ prefix ++ i ∷ [])) (run_calls sha (principal cast i.role) programs p) (r.held prefix i rest e h);
    }
  where
    the_last : (before now other : List Logged) → now ≡ before ++ l ∷ [] → AddsSame before now other → last other ≡ Some l
    the_last before now other e (inl h) = absurd (let a : length before ≡ length before + 1 = ap length (sym h ∙ e) ∙ length-more before l in omega (arith, a))
    the_last before now other e (inr m) = m.2 ∙ sym (last-append before m.0 []) ∙ ap last (sym m.1 ∙ e) ∙ last-append before l []

    in_life : (w w' : World) → Same w w' → (i : Item) (held : List (Option (List ℕ))) → HasCalls sha (principal cast i.role) w'.log (past_of w' (principal cast i.role)) → HeldBySender w' g cast f.sid i held → HeldInLife w g cast f.sid i held
    in_life w w' same i held h b =
        let (past, before, i', after, its, are, bare_is, held_is) = b in
        let e : exchanges_of f.sid i.role past.calls ≡ exchanges_of f.sid i.role (calls_at (principal cast i.role) w.log) = ap (exchanges_of f.sid i.role) (calls_are sha w' (principal cast i.role) past its h) ∙ exchanges_more f.sid i.role (principal cast i.role) w'.log w.log same.log in
        (before, i', after, ap (flat_map items_of) (sym e) ∙ are, bare_is, held_is)
