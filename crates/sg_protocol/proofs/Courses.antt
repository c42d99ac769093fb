-- The run of a schedule is a course of happenings at its honest principals.
use Rattle.std.specs.Prelude.{◌≡◌, ◌≢◌, ℕ, ◌+◌, true, All, List, [], ◌∷◌, ◌++◌, length, refl, take, Option, Some, None, option_map, option_and_then}
use Rattle.std.specs.List.{AllByRecursion}
use Rattle.std.specs.Option.{option_map_or}
use Rattle.std.proofs.Common.{sym, ◌∙◌, ap, subst, inl, inr}
use Rattle.std.proofs.lemmas.List.Elements.{All-head, All-tail, recursion_from_All}
use Rattle.sg_model.specs.Names.{Name}
use Rattle.sg_protocol.specs.Graph.{IsGraph}
use Rattle.sg_protocol.specs.Spelling.{spelling}
use Rattle.sg_protocol.specs.Texts.{Hash, IsHash}
use Rattle.sg_protocol.specs.Keyring.{Program, key_of}
use Rattle.sg_protocol.specs.Calls.{Call, Abandon}
use Rattle.sg_protocol.specs.Past.{Past}
use Rattle.sg_protocol.specs.Schedule.{PairKey, Schedule, Step, StartStep, ActStep, AbandonStep, DeliverStep, CraftStep, is_honest}
use Rattle.sg_protocol.specs.World.{World, Crafted, NoFrame, keyring_of, past_of, new_world, call_of}
use Rattle.sg_protocol.specs.Run.{called, called_if, world_after, world_after_all, run}
use Rattle.sg_protocol.specs.Crafted.{crafted}
use Rattle.sg_protocol.specs.IsSchedule.{AreCompiled, IsPairKey, IsProgram, IsSchedule, IsStep}
use Rattle.sg_protocol.proofs.Fits.{Fit, fit_new, fit_next, call_given}
use Rattle.sg_protocol.proofs.Happenings.{Happening, Asked, Idle, IsCourse, IsGiven, IsRight, Own, HaveOneKey, happens, all_happen, key_at, key_kept, keep_course, pasts_kept, run_of}
use Rattle.sg_protocol.proofs.LiveSessions.{key_same}
use Rattle.sg_protocol.proofs.Whole.{first_past, has_past, new_past, program_graph}
use Rattle.sg_model.proofs.Members.{In, all_in, map_in, all_of}

-- ---- what happens at a step

-- a step's principal is asked the call that it makes, if there is one
abbrev asks : Name → Option Past → Option Call → Happening
asks who None None = Asked who (Abandon [])
asks who (Some past) None = Idle (Some who) NoFrame None
asks who o (Some c) = Asked who c

module _ (sha : Hash) (s : Schedule) where
  abbrev happening : World → ℕ → Step → Happening
  happening w k (StartStep who n) = asks who (past_of w who) (call_of sha s w k (StartStep who n))
  happening w k (ActStep who n label values) = asks who (past_of w who) (call_of sha s w k (ActStep who n label values))
  happening w k (AbandonStep who n) = asks who (past_of w who) (call_of sha s w k (AbandonStep who n))
  happening w k (DeliverStep who what) = asks who (past_of w who) (call_of sha s w k (DeliverStep who what))
  happening w k (CraftStep c) = Idle None Crafted (option_map spelling (crafted sha s w c))

  abbrev pub course_from : World → ℕ → List Step → List Happening
  course_from w k [] = []
  course_from w k (x ∷ xs) = happening w k x ∷ course_from (world_after sha s w k x) (k + 1) xs

  asks_same : (w : World) (k : ℕ) (who : Name) (o : Option Past) → past_of w who ≡ o → (c : Option Call) → happens sha w k (asks who o c) ≡ option_map_or (called_if sha w k who c) o w
  asks_same w k who None e None = ap (λ o. option_map_or (called sha w k who (Abandon [])) o w) e
  asks_same w k who None e (Some c) = ap (λ o. option_map_or (called sha w k who c) o w) e
  asks_same w k who (Some past) e None = refl
  asks_same w k who (Some past) e (Some c) = ap (λ o. option_map_or (called sha w k who c) o w) e

  step_same : (w : World) (k : ℕ) (x : Step) → happens sha w k (happening w k x) ≡ world_after sha s w k x
  step_same w k (StartStep who n) = asks_same w k who (past_of w who) refl (call_of sha s w k (StartStep who n))
  step_same w k (ActStep who n label values) = asks_same w k who (past_of w who) refl (call_of sha s w k (ActStep who n label values))
  step_same w k (AbandonStep who n) = asks_same w k who (past_of w who) refl (call_of sha s w k (AbandonStep who n))
  step_same w k (DeliverStep who what) = asks_same w k who (past_of w who) refl (call_of sha s w k (DeliverStep who what))
  step_same w k (CraftStep c) = refl

  pub all_same : (w : World) (k : ℕ) (xs : List Step) → all_happen sha w k (course_from w k xs) ≡ world_after_all sha s w k xs
  all_same w k [] = refl
  all_same w k (x ∷ xs) = ap (λ z. all_happen sha z (k + 1) (course_from (world_after sha s w k x) (k + 1) xs)) (step_same w k x) ∙ all_same (world_after sha s w k x) (k + 1) xs

  -- what happens first in a course is what the first steps come to
  pub course_first : (w : World) (k : ℕ) (xs : List Step) (hs gs : List Happening) → course_from w k xs ≡ hs ++ gs → course_from w k (take (length hs) xs) ≡ hs
  course_first w k xs [] gs e = refl
  course_first w k [] (h ∷ hs) gs e = absurd (cc)
  course_first w k (x ∷ xs) (h ∷ hs) gs e =
      let one : happening w k x ≡ h = cc in
      let others : course_from (world_after sha s w k x) (k + 1) xs ≡ hs ++ gs = cc in
      ap (λ z. z ∷ course_from (world_after sha s w k x) (k + 1) (take (length hs) xs)) one ∙ ap (λ z. h ∷ z) (course_first (world_after sha s w k x) (k + 1) xs hs gs others)

-- ---- the course of a schedule

module _ (sha : Hash) (hash : IsHash sha) (programs : List Program) (s : Schedule) (compiled : AreCompiled sha s.graphs programs) (sched : IsSchedule sha s) where
  abbrev pub first_pasts : List Past
  first_pasts = (new_world programs s).pasts

  abbrev pub course : List Happening
  course = course_from sha s (new_world programs s) 1 s.steps

  pub same_run : run_of sha first_pasts course ≡ run sha programs s
  same_run = all_same sha s (new_world programs s) 1 s.steps

  abbrev Fit_ : World → Type 0
  Fit_ w = Fit sha hash programs s compiled sched w

  asks_right : (who : Name) (o : Option Past) (c : Option Call) → ((d : Call) → c ≡ Some d → IsGiven d) → IsRight (asks who o c)
  asks_right who None None h = tt
  asks_right who (Some past) None h = refl
  asks_right who None (Some c) h = h c refl
  asks_right who (Some past) (Some c) h = h c refl

  step_right : (w : World) (k : ℕ) (x : Step) → Fit_ w → IsStep sha s x → IsRight (happening sha s w k x)
  step_right w k (StartStep who n) fit good = asks_right who (past_of w who) (call_of sha s w k (StartStep who n)) (call_given sha hash programs s compiled sched w fit k (StartStep who n) good)
  step_right w k (ActStep who n label values) fit good = asks_right who (past_of w who) (call_of sha s w k (ActStep who n label values)) (call_given sha hash programs s compiled sched w fit k (ActStep who n label values) good)
  step_right w k (AbandonStep who n) fit good = asks_right who (past_of w who) (call_of sha s w k (AbandonStep who n)) (call_given sha hash programs s compiled sched w fit k (AbandonStep who n) good)
  step_right w k (DeliverStep who what) fit good = asks_right who (past_of w who) (call_of sha s w k (DeliverStep who what)) (call_given sha hash programs s compiled sched w fit k (DeliverStep who what) good)
  step_right w k (CraftStep c) fit good = refl

  all_right : (w : World) (k : ℕ) (xs : List Step) → Fit_ w → AllByRecursion (IsStep sha s) xs → AllByRecursion IsRight (course_from sha s w k xs)
  all_right w k [] fit good = tt
  all_right w k (x ∷ xs) fit good = (step_right w k x fit good.0, all_right (world_after sha s w k x) (k + 1) xs (fit_next sha hash programs s compiled sched w k x fit good.0) good.1)

  own_programs : (xs : List Program) → ((q : Program) → In xs q → In programs q) → Own sha s xs
  own_programs [] there = tt
  own_programs (q ∷ xs) there = ((all_in (IsProgram sha) programs q compiled.each (there q (inl refl)), program_graph sha s.graphs programs compiled q (there q (inl refl))), own_programs xs (λ z i. there z (inr i)))

  pub is_course : IsCourse sha s (new_world programs s).pasts (course_from sha s (new_world programs s) 1 s.steps)
  is_course = record {
    graphs = recursion_from_All IsGraph s.graphs sched.are_graphs;
    own = λ p i. let r = map_in (new_past s.keys programs) s.honest p i in subst (λ (z : Past). Own sha s z.programs) (sym r.2) (own_programs programs (λ q j. j));
    calls = λ p i. ap (λ (z : Past). z.calls) (map_in (new_past s.keys programs) s.honest p i).2;
    honest = λ who p e. (first_past s.keys programs s.honest who p e).1;
    there = has_past s.keys programs s.honest;
    right = all_right (new_world programs s) 1 s.steps (fit_new sha hash programs s compiled sched) (recursion_from_All (IsStep sha s) s.steps sched.steps);
  }

  -- a principal's past, but for its calls, is as it began
  pub as_begun : (who : Name) (p : Past) → past_of (run_of sha (new_world programs s).pasts course) who ≡ Some p → record p { calls = [] } ≡ new_past s.keys programs who
  as_begun = keep_course sha (run_of sha (new_world programs s).pasts course) (λ w. (who : Name) (p : Past) → past_of w who ≡ Some p → record p { calls = [] } ≡ new_past s.keys programs who)
      (λ w k h who o fr e. h)
      (λ w k h who past q c r after. pasts_kept sha w k who past q c (λ me y. record y { calls = [] } ≡ new_past s.keys programs me) (h who past q) (λ me y ne e. h me y e))
      (new_world programs s) 1 (λ who p e. let r = first_past s.keys programs s.honest who p e in ap (λ (z : Past). record z { calls = [] }) r.0) course is_course.right refl

  -- each two honest principals hold one key
  key_is : (a b : Name) → is_honest s a ≡ true → key_at (run_of sha (new_world programs s).pasts course) a b ≡ key_of (keyring_of s.keys a) b
  key_is a b h =
      let p = has_past s.keys programs s.honest a h in
      key_kept sha (new_world programs s).pasts course is_course.right a b ∙ ap (option_and_then (λ (z : Past). key_of z.keys b)) p.1 ∙ ap (λ (z : Past). key_of z.keys b) (first_past s.keys programs s.honest a p.0 p.1).0

  pairs_apart : (ks : List PairKey) → All IsPairKey ks → AllByRecursion (λ (z : PairKey). z.one ≢ z.two) ks
  pairs_apart [] a = tt
  pairs_apart (k ∷ ks) a = ((All-head IsPairKey k ks a).0, pairs_apart ks (All-tail IsPairKey k ks a))

  pub one_key : (a b : Name) → is_honest s a ≡ true → is_honest s b ≡ true → HaveOneKey (run_of sha (new_world programs s).pasts course) a b
  one_key a b h i = key_is a b h ∙ key_same s.keys (pairs_apart s.keys sched.keys) a b ∙ sym (key_is b a i)

  pub one_key_each : (names : List Name) → All (λ n. is_honest s n ≡ true) names → All (λ a. All (HaveOneKey (run_of sha (new_world programs s).pasts course) a) names) names
  one_key_each names all = all_of _ names (λ a i. all_of _ names (λ b j. one_key a b (all_in (λ n. is_honest s n ≡ true) names a all i) (all_in (λ n. is_honest s n ≡ true) names b all j)))
