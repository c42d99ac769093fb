-- A run with restarts is that of a schedule without them, but for abandonments.
use Rattle.std.specs.Prelude.{◌≡◌, ℕ, ◌+◌, ◌==◌, ◌&&◌, ◌⊎◌, nat_lt, Bool, true, false, if◌then◌else◌, List, [], ◌∷◌, ◌++◌, map, filter_map, find, length, bytes_eq, refl, Option, Some, None, option_map, slice_get, All, IfSome, ⊤}
use Rattle.std.specs.List.{list_all, AllByRecursion, cons_option}
use Rattle.std.specs.Option.{option_map_or}
use Rattle.std.proofs.Common.{sym, ◌∙◌, ap, subst, inl, inr, arith, append_assoc}
use Rattle.std.proofs.lemmas.Bool.{eqb-true, cases_Bool, and_parts, and_from}
use Rattle.std.proofs.lemmas.List.{length-append}
use Rattle.std.proofs.lemmas.List.Elements.{All-from_recursion, recursion_from_All}
use Rattle.std.proofs.lemmas.Simd.{map-map}
use Rattle.sg_model.specs.Bytes.{IsBytes}
use Rattle.sg_model.specs.Last.{last}
use Rattle.sg_model.specs.Lists.{all_differ}
use Rattle.sg_model.specs.Names.{Name, is_name}
use Rattle.sg_model.proofs.Small.{same_bytes, all-append, some_same, length-more, all_weaker, length_map, at_length, tests_all, if_any}
use Rattle.sg_model.proofs.Members.{In, contains_from_in, all_in}
use Rattle.sg_model.proofs.Finding.{find_passes, find_all, found_in, find_map}
use Rattle.sg_law.proofs.Lists.{last-append}
use Rattle.sg_protocol.specs.Frame.{Cast, Frame, IsCastOf}
use Rattle.sg_protocol.specs.Spelling.{spelling, HasSpelling}
use Rattle.sg_protocol.specs.Texts.{Hash, IsHash, session_id}
use Rattle.sg_protocol.specs.Keyring.{Keyring, Program}
use Rattle.sg_protocol.specs.Session.{Session, Took, new_session, extended, principal}
use Rattle.sg_protocol.specs.Calls.{Call, Answer, Start, Act, Abandon, Deliver, Abandoned}
use Rattle.sg_protocol.specs.Node.{Node}
use Rattle.sg_protocol.specs.Acting.{answer}
use Rattle.sg_protocol.specs.Notes.{notes, no_notes}
use Rattle.sg_protocol.specs.NodeAfter.{node_after}
use Rattle.sg_protocol.specs.Past.{Past, node_of}
use Rattle.sg_protocol.specs.Schedule.{Schedule, PairKey, NamedSession, Step, What, StartStep, ActStep, AbandonStep, DeliverStep, CraftStep, sid_at}
use Rattle.sg_protocol.specs.World.{Outcome, Logged, World, Answered, Crafted, NoFrame, frames, past_of, new_world, call_of, bytes_of}
use Rattle.sg_protocol.specs.Run.{called, called_if, uncalled, world_after, world_after_all, run, frame_in}
use Rattle.sg_protocol.specs.Crafted.{crafted}
use Rattle.sg_protocol.specs.IsSchedule.{IsSchedule, IsStep, IsDeclared, AreCompiled, IsProgram}
use Rattle.sg_protocol.specs.Restarts.{StepOrRestart, Stepped, Restarted, live_of, world_restarted, world_over_restarts, run_with_restarts, IsStepOrRestart, moved_step, declared, dropped, abandon_steps, plain_steps, without_restarts, IsAbandonment, HasMoreAbandonments, IsRunOf, RestartsAreAbandonments}
use Rattle.sg_protocol.proofs.Progressing.{next_past, past_called, node_next}
use Rattle.sg_protocol.proofs.Fits.{Fit, fit_new, fit_next, fit_bytes, declared_in}
use Rattle.sg_protocol.proofs.First.{programs_after}
use Rattle.sg_protocol.proofs.Nodes.{start_all, abandon_all, act_all, deliver_all, JoinTaken}
use Rattle.sg_protocol.proofs.ReadBack.{read-SpellsFrame}
use Rattle.sg_protocol.proofs.Sent.{FitSession}
use Rattle.sg_protocol.proofs.Whole.{first_past, new_past, program_graph}
use Rattle.sg_protocol.proofs.Anew.{with_live, with_own, first_answer, first_left, anew}
use Rattle.sg_protocol.proofs.Lives.{anew_if, past_restarted}
use Rattle.sg_protocol.proofs.Moved.{more, call_moved, crafted_moved, step_moved}
use Rattle.sg_protocol.proofs.Happenings.{next_keys}

-- ---- lists

all_map : {A : Type 0} (P Q : A → Type 0) (f : A → A) → ((x : A) → P x → Q (f x)) → (xs : List A) → AllByRecursion P xs → AllByRecursion Q (map f xs)
all_map P Q f h [] a = tt
all_map P Q f h (x ∷ xs) a = (h x a.0, all_map P Q f h xs a.1)

all_on_map : {A B : Type 0} (Q : B → Type 0) (f : A → B) (xs : List A) → AllByRecursion (λ x. Q (f x)) xs → AllByRecursion Q (map f xs)
all_on_map Q f [] a = tt
all_on_map Q f (x ∷ xs) a = (a.0, all_on_map Q f xs a.1)

all_off_map : {A B : Type 0} (Q : B → Type 0) (f : A → B) (xs : List A) → AllByRecursion Q (map f xs) → AllByRecursion (λ x. Q (f x)) xs
all_off_map Q f [] a = tt
all_off_map Q f (x ∷ xs) a = (a.0, all_off_map Q f xs a.1)

-- ---- what two worlds have the same

-- a principal's keys and node
abbrev pub Shown : Type 0
Shown = Keyring × Node

abbrev pub shown : Past → Shown
shown p = (p.keys, node_of p)

pub find_shown : (who : Name) (ps : List Past) → option_map shown (find (λ p. bytes_eq p.keys.me who) ps) ≡ find (λ (v : Shown). bytes_eq (v.0).me who) (map shown ps)
find_shown who [] = refl
find_shown who (p ∷ ps) = elim (cases_Bool (bytes_eq p.keys.me who)) [ inl e ↦ rw e refl | inr e ↦ rw e (find_shown who ps) ]

-- the principals have the same nodes, and the second log has more abandonments
pub record Same (w w' : World) : Type 0 where
  pub nodes : map shown w.pasts ≡ map shown w'.pasts
  pub log : HasMoreAbandonments w'.log w.log

same_past : (w w' : World) → map shown w.pasts ≡ map shown w'.pasts → (who : Name) → option_map shown (past_of w who) ≡ option_map shown (past_of w' who)
same_past w w' e who = find_shown who w.pasts ∙ ap (find (λ (v : Shown). bytes_eq (v.0).me who)) e ∙ sym (find_shown who w'.pasts)

-- one more entry in both, or an abandonment in the first
one_more : (ls log : List Logged) (l : Logged) → HasMoreAbandonments ls log → HasMoreAbandonments (ls ++ l ∷ []) (log ++ l ∷ [])
one_more [] log l e = inr ([], ap (λ z. z ++ l ∷ []) e, refl)
one_more (x ∷ ls) log l (inl h) = inl (h.0, one_more ls log l h.1)
one_more (x ∷ ls) log l (inr h) = inr (h.0 ++ l ∷ [], ap (λ z. z ++ l ∷ []) h.1, one_more ls h.0 l h.2)

one_dropped : (ls log : List Logged) (l : Logged) → IsAbandonment l → HasMoreAbandonments ls log → HasMoreAbandonments (ls ++ l ∷ []) log
one_dropped [] log l a e = inl (a, e)
one_dropped (x ∷ ls) log l a (inl h) = inl (h.0, one_dropped ls log l a h.1)
one_dropped (x ∷ ls) log l a (inr h) = inr (h.0, h.1, one_dropped ls h.0 l a h.2)

frames_more : (ls log : List Logged) → HasMoreAbandonments ls log → filter_map (λ (l : Logged). l.frame) ls ≡ filter_map (λ (l : Logged). l.frame) log
frames_more [] log e = ap (filter_map (λ (l : Logged). l.frame)) (sym e)
frames_more (l ∷ ls) log (inl h) = ap (λ o. cons_option o (filter_map (λ (l : Logged). l.frame) ls)) (h.0).frame ∙ frames_more ls log h.1
frames_more (l ∷ ls) log (inr h) = ap (cons_option l.frame) (frames_more ls h.0 h.2) ∙ ap (filter_map (λ (l : Logged). l.frame)) (sym h.1)

pub same_frames : (w w' : World) → Same w w' → frames w ≡ frames w'
same_frames w w' h = sym (frames_more w'.log w.log h.log)

-- a log got nothing new, or an entry with which the other one ends
abbrev pub AddsSame : List Logged → List Logged → List Logged → Type 0
AddsSame before now other = (now ≡ before) ⊎ ((l : Logged) × (now ≡ before ++ l ∷ []) × (last other ≡ Some l))

-- ---- a step in both

module _ (sha : Hash) where
  abbrev entry_of : ℕ → Name → Call → Node → Logged
  entry_of k who c n = record { number = k; who = Some who; call = Some c; outcome = Answered (answer sha n c); frame = frame_in (answer sha n c); notes = notes sha n c }

  abbrev idle_of : ℕ → Option Name → Outcome → Option (List ℕ) → Logged
  idle_of k who o fr = record { number = k; who = who; call = None; outcome = o; frame = fr; notes = no_notes }

  abbrev next_shown : Name → Call → Shown → Shown
  next_shown who c v = if bytes_eq (v.0).me who then (v.0, node_after v.1 c (answer sha v.1 c)) else v

  shown_next : (who : Name) (c : Call) (p : Past) → shown (next_past sha who c p) ≡ next_shown who c (shown p)
  shown_next who c p = elim (cases_Bool (bytes_eq p.keys.me who)) [ inl e ↦ rw e (ap (λ (n : Node). (p.keys, n)) (node_next sha p c)) | inr e ↦ rw e refl ]

  shown_called : (who : Name) (c : Call) (ps : List Past) → map shown (map (next_past sha who c) ps) ≡ map (next_shown who c) (map shown ps)
  shown_called who c [] = refl
  shown_called who c (p ∷ ps) = ap (λ v. v ∷ map shown (map (next_past sha who c) ps)) (shown_next who c p) ∙ ap (λ l. next_shown who c (shown p) ∷ l) (shown_called who c ps)

  same_called : (w w' : World) (k : ℕ) (who : Name) (c : Call) (p p' : Past) → Same w w' → node_of p ≡ node_of p' → Same (called sha w k who c p) (called sha w' k who c p')
  same_called w w' k who c p p' h e = record {
    nodes = shown_called who c w.pasts ∙ ap (map (next_shown who c)) h.nodes ∙ sym (shown_called who c w'.pasts);
    log = subst (λ n. HasMoreAbandonments (w'.log ++ entry_of k who c (node_of p') ∷ []) (w.log ++ entry_of k who c n ∷ [])) (sym e) (one_more w'.log w.log (entry_of k who c (node_of p')) h.log);
  }

  same_idle : (w w' : World) (k : ℕ) (who : Option Name) (o : Outcome) (fr fr' : Option (List ℕ)) → fr ≡ fr' → Same w w' → Same (uncalled w k who o fr) (uncalled w' k who o fr')
  same_idle w w' k who o fr fr' e h = record {
    nodes = h.nodes;
    log = subst (λ f. HasMoreAbandonments (w'.log ++ idle_of k who o fr' ∷ []) (w.log ++ idle_of k who o f ∷ [])) (sym e) (one_more w'.log w.log (idle_of k who o fr') h.log);
  }

  same_if : (w w' : World) (k : ℕ) (who : Name) (c : Option Call) (o o' : Option Past) → option_map shown o ≡ option_map shown o' → Same w w' → Same (option_map_or (called_if sha w k who c) o w) (option_map_or (called_if sha w' k who c) o' w')
  same_if w w' k who c None None e h = h
  same_if w w' k who c None (Some p') e h = absurd (let z : None ≡ Some (shown p') = e in cc)
  same_if w w' k who c (Some p) None e h = absurd (let z : Some (shown p) ≡ None = e in cc)
  same_if w w' k who None (Some p) (Some p') e h = same_idle w w' k (Some who) NoFrame None None refl h
  same_if w w' k who (Some c) (Some p) (Some p') e h = same_called w w' k who c p p' h (ap (λ (v : Shown). v.1) (some_same e))

  module _ (s : Schedule) (es : List NamedSession) (ys : List Step) where
    abbrev s' : Schedule
    s' = more sha s es ys

    same_who : (w w' : World) (k : ℕ) (who : Name) (c c' : Option Call) → c ≡ c' → Same w w' → Same (option_map_or (called_if sha w k who c) (past_of w who) w) (option_map_or (called_if sha w' k who c') (past_of w' who) w')
    same_who w w' k who c c' e h = subst (λ z. Same (option_map_or (called_if sha w k who c) (past_of w who) w) (option_map_or (called_if sha w' k who z) (past_of w' who) w')) e (same_if w w' k who c (past_of w who) (past_of w' who) (same_past w w' h.nodes who) h)

    pub same_step : (w w' : World) (k : ℕ) (x : Step) → Same w w' → Same (world_after sha s w k x) (world_after sha s' w' k (moved_step s.sessions (length es) x))
    same_step w w' k (CraftStep c) h = same_idle w w' k None Crafted _ _ (ap (λ (o : Option Frame). option_map spelling o) (crafted_moved sha s es ys w w' (same_frames w w' h) c)) h
    same_step w w' k (StartStep who n) h = same_who w w' k who _ _ (call_moved sha s es ys w w' (same_frames w w' h) k (StartStep who n)) h
    same_step w w' k (ActStep who n label values) h = same_who w w' k who _ _ (call_moved sha s es ys w w' (same_frames w w' h) k (ActStep who n label values)) h
    same_step w w' k (AbandonStep who n) h = same_who w w' k who _ _ (call_moved sha s es ys w w' (same_frames w w' h) k (AbandonStep who n)) h
    same_step w w' k (DeliverStep who what) h = same_who w w' k who _ _ (call_moved sha s es ys w w' (same_frames w w' h) k (DeliverStep who what)) h

    -- a step adds nothing, or the same entry in both
    last_if : (w w' : World) (k : ℕ) (who : Name) (c : Option Call) (o o' : Option Past) → option_map shown o ≡ option_map shown o' → AddsSame w.log (option_map_or (called_if sha w k who c) o w).log (option_map_or (called_if sha w' k who c) o' w').log
    last_if w w' k who c None o' e = inl refl
    last_if w w' k who c (Some p) None e = absurd (let z : Some (shown p) ≡ None = e in cc)
    last_if w w' k who None (Some p) (Some p') e = inr (idle_of k (Some who) NoFrame None, refl, last-append w'.log (idle_of k (Some who) NoFrame None) [])
    last_if w w' k who (Some c) (Some p) (Some p') e = inr (entry_of k who c (node_of p), refl, last-append w'.log (entry_of k who c (node_of p')) [] ∙ ap (λ (v : Shown). Some (entry_of k who c v.1)) (sym (some_same e)))

    last_who : (w w' : World) (k : ℕ) (who : Name) (c c' : Option Call) → c ≡ c' → Same w w' → AddsSame w.log (option_map_or (called_if sha w k who c) (past_of w who) w).log (option_map_or (called_if sha w' k who c') (past_of w' who) w').log
    last_who w w' k who c c' e h = subst (λ z. AddsSame w.log (option_map_or (called_if sha w k who c) (past_of w who) w).log (option_map_or (called_if sha w' k who z) (past_of w' who) w').log) e (last_if w w' k who c (past_of w who) (past_of w' who) (same_past w w' h.nodes who))

    last_step : (w w' : World) (k : ℕ) (x : Step) → Same w w' → AddsSame w.log (world_after sha s w k x).log (world_after sha s' w' k (moved_step s.sessions (length es) x)).log
    last_step w w' k (CraftStep c) h =
        let e = ap (λ (o : Option Frame). option_map spelling o) (crafted_moved sha s es ys w w' (same_frames w w' h) c) in
        inr (idle_of k None Crafted (option_map spelling (crafted sha s w c)), refl, last-append w'.log _ [] ∙ ap (λ fr. Some (idle_of k None Crafted fr)) (sym e))
    last_step w w' k (StartStep who n) h = last_who w w' k who _ _ (call_moved sha s es ys w w' (same_frames w w' h) k (StartStep who n)) h
    last_step w w' k (ActStep who n label values) h = last_who w w' k who _ _ (call_moved sha s es ys w w' (same_frames w w' h) k (ActStep who n label values)) h
    last_step w w' k (AbandonStep who n) h = last_who w w' k who _ _ (call_moved sha s es ys w w' (same_frames w w' h) k (AbandonStep who n)) h
    last_step w w' k (DeliverStep who what) h = last_who w w' k who _ _ (call_moved sha s es ys w w' (same_frames w w' h) k (DeliverStep who what)) h

-- ---- the abandonments of a restart

-- a principal without live sessions
abbrev emptied : Name → Shown → Shown
emptied who v = if bytes_eq (v.0).me who then (v.0, with_live v.1 []) else v

shown_anew : (who : Name) (p : Past) → shown (anew_if who p) ≡ emptied who (shown p)
shown_anew who p = elim (cases_Bool (bytes_eq p.keys.me who)) [ inl e ↦ rw e (ap (λ (n : Node). (p.keys, n)) (anew p)) | inr e ↦ rw e refl ]

shown_restarted : (who : Name) (ps : List Past) → map shown (map (anew_if who) ps) ≡ map (emptied who) (map shown ps)
shown_restarted who [] = refl
shown_restarted who (p ∷ ps) = ap (λ v. v ∷ map shown (map (anew_if who) ps)) (shown_anew who p) ∙ ap (λ l. emptied who (shown p) ∷ l) (shown_restarted who ps)

-- the principal has these live sessions
abbrev HasLive : Name → List Session → Shown → Type 0
HasLive who xs v = bytes_eq (v.0).me who ≡ true → (v.1).live ≡ xs

emptied_already : (who : Name) (v : Shown) → HasLive who [] v → v ≡ emptied who v
emptied_already who v h = elim (cases_Bool (bytes_eq (v.0).me who)) [ inl e ↦ rw e (ap (λ (n : Node). (v.0, n)) (sym (with_own v.1 [] (h e)))) | inr e ↦ rw e refl ]

all_emptied : (who : Name) (vs : List Shown) → AllByRecursion (HasLive who []) vs → vs ≡ map (emptied who) vs
all_emptied who [] a = refl
all_emptied who (v ∷ vs) a = ap (λ z. z ∷ vs) (emptied_already who v a.0) ∙ ap (λ l. emptied who v ∷ l) (all_emptied who vs a.1)

-- one is there if a session is
abbrev IsThere : List Session → Option Past → Type 0
IsThere [] o = ⊤
IsThere (x ∷ xs) None = ⊥
IsThere (x ∷ xs) (Some p) = ⊤

there : (xs : List Session) (p : Past) → IsThere xs (Some p)
there [] p = tt
there (x ∷ xs) p = tt

-- what the abandonments of a principal's sessions make of a world
record Left (who : Name) (w w' : World) : Type 0 where
  nodes : map shown w'.pasts ≡ map (emptied who) (map shown w.pasts)
  log : (log : List Logged) → HasMoreAbandonments w.log log → HasMoreAbandonments w'.log log

module _ (sha : Hash) (t : Schedule) (who : Name) where
  -- after an abandonment of the first
  one_less : (x : Session) (xs : List Session) (v : Shown) → HasLive who (x ∷ xs) v → HasLive who xs (next_shown sha who (Abandon x.sid) v)
  one_less x xs v h = elim (cases_Bool (bytes_eq (v.0).me who)) [
    | inl e ↦ rw e (λ q. ap (λ (n : Node). n.live) (first_left sha v.1 x xs (h e)))
    | inr e ↦ rw e (λ q. absurd (let z : true ≡ false = sym q ∙ e in cc))
  ]

  emptied_next : (x : Session) (xs : List Session) (v : Shown) → HasLive who (x ∷ xs) v → emptied who (next_shown sha who (Abandon x.sid) v) ≡ emptied who v
  emptied_next x xs v h = elim (cases_Bool (bytes_eq (v.0).me who)) [
    | inl e ↦ rw e (rw e (ap (λ (n : Node). (v.0, with_live n [])) (first_left sha v.1 x xs (h e))))
    | inr e ↦ rw e (rw e refl)
  ]

  all_next : (x : Session) (xs : List Session) (vs : List Shown) → AllByRecursion (HasLive who (x ∷ xs)) vs → map (emptied who) (map (next_shown sha who (Abandon x.sid)) vs) ≡ map (emptied who) vs
  all_next x xs [] a = refl
  all_next x xs (v ∷ vs) a = ap (λ z. z ∷ map (emptied who) (map (next_shown sha who (Abandon x.sid)) vs)) (emptied_next x xs v a.0) ∙ ap (λ l. emptied who v ∷ l) (all_next x xs vs a.1)

  find_live : {p : Past} {xs : List Session} (ps : List Past) → find (λ (q : Past). bytes_eq q.keys.me who) ps ≡ Some p → AllByRecursion (HasLive who xs) (map shown ps) → (node_of p).live ≡ xs
  find_live {p} {xs} ps e a =
      find_all (λ (q : Past). bytes_eq q.keys.me who) (λ (q : Past). HasLive who xs (shown q)) ps p (all_off_map (HasLive who xs) shown ps a) e (find_passes (λ (q : Past). bytes_eq q.keys.me who) ps p e)

  left_all : (xs : List Session) (w : World) (k o : ℕ) (pre post : List NamedSession) → t.sessions ≡ pre ++ (map declared xs ++ post) → o ≡ length pre → AllByRecursion (λ (x : Session). session_id sha x.cast ≡ x.sid) xs
      → AllByRecursion (HasLive who xs) (map shown w.pasts) → (q : Option Past) → past_of w who ≡ q → IsThere xs q → Left who w (world_after_all sha t w k (abandon_steps who o xs))
  left_all [] w k o pre post e at ids live q its is = record { nodes = all_emptied who (map shown w.pasts) live; log = λ log h. h }
  left_all (x ∷ xs) w k o pre post e at ids live None its is = absurd is
  left_all (x ∷ xs) w k o pre post e at ids live (Some p) its is =
      go
      (left_all xs (called sha w k who (Abandon x.sid) p) (k + 1) (o + 1) (pre ++ declared x ∷ []) post (e ∙ sym (append_assoc pre (declared x ∷ []) (map declared xs ++ post))) (let l : length (pre ++ declared x ∷ []) ≡ length pre + 1 = length-more pre (declared x) in omega (arith, at, l)) ids.1
      (subst (AllByRecursion (HasLive who xs)) (sym (shown_called sha who (Abandon x.sid) w.pasts)) (all_map (HasLive who (x ∷ xs)) (HasLive who xs) (next_shown sha who (Abandon x.sid)) (one_less x xs) (map shown w.pasts) live))
      (Some (next_past sha who (Abandon x.sid) p)) (past_called sha w k who (Abandon x.sid) p who ∙ ap (option_map (next_past sha who (Abandon x.sid))) its) (there xs (next_past sha who (Abandon x.sid) p)))
    where
      now : World
      now = called sha w k who (Abandon x.sid) p

      sid_is : sid_at sha t o ≡ x.sid
      sid_is = ap (λ z. option_map_or (session_id sha) (option_map (λ (d : NamedSession). d.cast) z) []) (ap (λ l. slice_get l o) e ∙ ap (slice_get (pre ++ (map declared (x ∷ xs) ++ post))) at ∙ at_length pre (declared x) (map declared xs ++ post)) ∙ ids.0

      step_is : world_after sha t w k (AbandonStep who o) ≡ now
      step_is = ap (λ z. option_map_or (called_if sha w k who (Some (Abandon (sid_at sha t o)))) z w) its ∙ ap (λ z. called sha w k who (Abandon z) p) sid_is

      run_is : world_after_all sha t w k (abandon_steps who o (x ∷ xs)) ≡ world_after_all sha t now (k + 1) (abandon_steps who (o + 1) xs)
      run_is = ap (λ z. world_after_all sha t z (k + 1) (abandon_steps who (o + 1) xs)) step_is

      has_live : (node_of p).live ≡ x ∷ xs
      has_live = find_live w.pasts its live

      its_answer : answer sha (node_of p) (Abandon x.sid) ≡ Abandoned
      its_answer = first_answer sha (node_of p) x xs has_live

      is_abandoned : IsAbandonment (entry_of sha k who (Abandon x.sid) (node_of p))
      is_abandoned = record { call = refl; outcome = ap (λ (a : Answer). Answered a) its_answer; frame = ap frame_in its_answer; notes = refl }

      go : Left who now (world_after_all sha t now (k + 1) (abandon_steps who (o + 1) xs)) → Left who w (world_after_all sha t w k (abandon_steps who o (x ∷ xs)))
      go rest = subst (Left who w) (sym run_is) record {
        nodes = rest.nodes ∙ ap (map (emptied who)) (shown_called sha who (Abandon x.sid) w.pasts) ∙ all_next x xs (map shown w.pasts) live;
        log = λ log h. rest.log log (one_dropped w.log log (entry_of sha k who (Abandon x.sid) (node_of p)) is_abandoned h);
      }

-- a restart in one world, and the abandonments in the other
same_restarted : (who : Name) (w w' w2 : World) → Same w w' → Left who w' w2 → Same (world_restarted w who) w2
same_restarted who w w' w2 h l = record {
  nodes = shown_restarted who w.pasts ∙ ap (map (emptied who)) h.nodes ∙ sym l.nodes;
  log = l.log w.log h.log;
}

-- ---- a run in both

steps_append : (sha : Hash) (t : Schedule) (who : Name) (o : ℕ) (xs : List Session) (ys : List Step) (w : World) (k : ℕ) → world_after_all sha t w k (abandon_steps who o xs ++ ys) ≡ world_after_all sha t (world_after_all sha t w k (abandon_steps who o xs)) (k + length xs) ys
steps_append sha t who o [] ys w k = ap (λ n. world_after_all sha t w n ys) (let e : k ≡ k + 0 = omega arith in e)
steps_append sha t who o (x ∷ xs) ys w k =
    steps_append sha t who (o + 1) xs ys (world_after sha t w k (AbandonStep who o)) (k + 1)
    ∙ ap (λ n. world_after_all sha t (world_after_all sha t w k (abandon_steps who o (x ∷ xs))) n ys) (let e : (k + 1) + length xs ≡ k + length (x ∷ xs) = omega arith in e)

-- each principal's past is the first with its name
abbrev pub OnePast : List Past → Name → Past → Type 0
OnePast ps who p = bytes_eq p.keys.me who ≡ true → find (λ (q : Past). bytes_eq q.keys.me who) ps ≡ Some p

one_past_new : (keys : List PairKey) (programs : List Program) (names : List Name) (who : Name) → AllByRecursion (OnePast (map (new_past keys programs) names) who) (map (new_past keys programs) names)
one_past_new keys programs [] who = tt
one_past_new keys programs (n ∷ ns) who = ((λ e. rw e refl), later (map (new_past keys programs) ns) (one_past_new keys programs ns who))
  where
    later : (ps : List Past) → AllByRecursion (OnePast (map (new_past keys programs) ns) who) ps → AllByRecursion (OnePast (map (new_past keys programs) (n ∷ ns)) who) ps
    later [] a = tt
    later (p ∷ ps) a = (
      (λ e. elim (cases_Bool (bytes_eq n who)) [
        | inl h ↦ rw h (ap (λ z. Some (new_past keys programs z)) (same_bytes n who h) ∙ ap (λ z. Some z) (sym (first_past keys programs ns who p (a.0 e)).0))
        | inr h ↦ rw h (a.0 e)
      ]),
      later ps a.1,
    )

one_past_map : (who : Name) (f : Past → Past) → ((p : Past) → (f p).keys ≡ p.keys) → (all ps : List Past) → AllByRecursion (OnePast all who) ps → AllByRecursion (OnePast (map f all) who) (map f ps)
one_past_map who f h all [] a = tt
one_past_map who f h all (p ∷ ps) a = ((λ e. find_map (λ (q : Past). bytes_eq q.keys.me who) f (λ q. ap (λ k. bytes_eq k.me who) (h q)) all ∙ ap (option_map f) (a.0 (ap (λ k. bytes_eq k.me who) (sym (h p)) ∙ e))), one_past_map who f h all ps a.1)

pub anew_keys : (who : Name) (p : Past) → (anew_if who p).keys ≡ p.keys
anew_keys who p = elim (cases_Bool (bytes_eq p.keys.me who)) [ inl e ↦ rw e refl | inr e ↦ rw e refl ]

abbrev pub Names_ : World → Type 0
Names_ w = (who : Name) → AllByRecursion (OnePast w.pasts who) w.pasts

module _ (sha : Hash) (hash : IsHash sha) (programs : List Program) (s : Schedule) (compiled : AreCompiled sha s.graphs programs) (sched : IsSchedule sha s) where
  abbrev Fits_ : World → Type 0
  Fits_ w = Fit sha hash programs s compiled sched w

  -- the session's sid is that of its cast, which can be declared
  abbrev CanDeclare : Session → Type 0
  CanDeclare x = (session_id sha x.cast ≡ x.sid) × IsDeclared sha s.graphs (declared x)

  abbrev NodeCan : Node → Type 0
  NodeCan n = (n.programs ≡ programs) × AllByRecursion CanDeclare n.live

  abbrev PastCan : Past → Type 0
  PastCan p = NodeCan (node_of p)

  abbrev CallOk : Call → Type 0
  CallOk (Start c) = IsDeclared sha s.graphs (record { name = []; cast = c })
  CallOk (Deliver bs) = IsBytes bs
  CallOk other = ⊤

  join_can : (n : Node) → n.programs ≡ programs → (f : Frame) (c : Cast) → HasSpelling f → f.join ≡ Some c → JoinTaken sha n f c → CanDeclare (extended (new_session f.sid c f.receiver) (Took f))
  join_can n ps f c spelled j t =
      let co : IsCastOf f.version c = subst (λ o. IfSome o (IsCastOf f.version)) j spelled.fields.join in
      let which : Program → Bool = λ p. bytes_eq p.digest c.graph && (p.role == f.receiver) in
      let inside = subst (λ z. In z t.p) ps (found_in which n.programs t.p t.found_p) in
      let is : IsProgram sha t.p = all_in (IsProgram sha) programs t.p compiled.each inside in
      let named = and_parts (bytes_eq (t.p).digest c.graph) ((t.p).role == f.receiver) (find_passes which n.programs t.p t.found_p) in
      let counted = and_parts (length c.names == length (t.p).graph.roles) (all_differ c.names) (and_parts _ (nat_lt f.receiver (length c.names)) (and_parts _ (bytes_eq (principal c f.receiver) n.keys.me) t.cast).0).0 in (
        sym t.sid,
        record {
          graph = (t.p).graph;
          is_there = contains_from_in s.graphs (t.p).graph (program_graph sha s.graphs programs compiled t.p inside);
          digest = sym (same_bytes (t.p).digest c.graph named.0) ∙ is.digest;
          count = eqb-true (length c.names) (length (t.p).graph.roles) counted.0;
          names = and_from (all_differ c.names) (list_all is_name c.names) counted.1 (tests_all is_name c.names co.names);
          nonce = co.nonce;
          version = subst (λ v. (v ≡ 1) ⊎ (v ≡ 2)) (sym co.version) spelled.fields.version;
        },
      )

  can_after : (n : Node) → NodeCan n → (c : Call) → CallOk c → NodeCan (node_after n c (answer sha n c))
  can_after n h c ok = (programs_after n c (answer sha n c) ∙ h.0, go c ok)
    where
      go : (c : Call) → CallOk c → AllByRecursion CanDeclare (node_after n c (answer sha n c)).live
      go (Start c) ok = start_all sha n CanDeclare h.1 c (λ p b. (refl, ok))
      go (Act sid label values confounders) ok = act_all sha n CanDeclare h.1 sid label values confounders (λ f a k. if_any (last f.items) (λ i. CanDeclare a.x) (λ i. k))
      go (Abandon sid) ok = abandon_all sha n CanDeclare h.1 sid
      go (Deliver bs) ok = deliver_all sha n CanDeclare h.1 bs (λ f x rd t k. k) (λ f c rd j t. join_can n h.0 f c (read-SpellsFrame bs f ok rd).is_frame j t)

  can_next : (who : Name) (c : Call) → CallOk c → (p : Past) → PastCan p → PastCan (next_past sha who c p)
  can_next who c ok p h = elim (cases_Bool (bytes_eq p.keys.me who)) [
    | inl e ↦ rw e (subst NodeCan (sym (node_next sha p c)) (can_after (node_of p) h c ok))
    | inr e ↦ rw e h
  ]

  can_anew : (who : Name) (p : Past) → PastCan p → PastCan (anew_if who p)
  can_anew who p h = elim (cases_Bool (bytes_eq p.keys.me who)) [
    | inl e ↦ rw e (subst NodeCan (sym (anew p)) (h.0, tt))
    | inr e ↦ rw e h
  ]

  declared_again : (d : NamedSession) (c : Cast) → d.cast ≡ c → IsDeclared sha s.graphs d → IsDeclared sha s.graphs (record { name = []; cast = c })
  declared_again d c e h = subst (λ z. IsDeclared sha s.graphs (record { name = []; cast = z })) e (record { graph = h.graph; is_there = h.is_there; digest = h.digest; count = h.count; names = h.names; nonce = h.nonce; version = h.version })

  -- what a step calls
  calls_ok : (w : World) → Fits_ w → (k : ℕ) (x : Step) → IsStep sha s x → (c : Call) → call_of sha s w k x ≡ Some c → CallOk c
  calls_ok w fit k x good c e = go x good e
    where
      start_ : (n : ℕ) (o : Option NamedSession) → slice_get s.sessions n ≡ o → option_map Start (option_map (λ (d : NamedSession). d.cast) o) ≡ Some c → CallOk c
      start_ n None q e = absurd (cc)
      start_ n (Some d) q e = let r : Start d.cast ≡ c = some_same e in subst CallOk r (declared_again d d.cast refl (declared_in NamedSession (IsDeclared sha s.graphs) s.sessions n d sched.sessions q))

      deliver_ : (who : Name) (what : What) → IsStep sha s (DeliverStep who what) → (o : Option (List ℕ)) → bytes_of w what ≡ o → option_map Deliver o ≡ Some c → CallOk c
      deliver_ who what gd None q e = absurd (cc)
      deliver_ who what gd (Some bs) q e = let r : Deliver bs ≡ c = some_same e in subst CallOk r (fit_bytes sha hash programs s compiled sched w fit who what bs gd q)

      go : (y : Step) → IsStep sha s y → call_of sha s w k y ≡ Some c → CallOk c
      go (StartStep who n) gd e = start_ n (slice_get s.sessions n) refl e
      go (ActStep who n label values) gd e = subst CallOk (some_same e) tt
      go (AbandonStep who n) gd e = subst CallOk (some_same e) tt
      go (DeliverStep who what) gd e = deliver_ who what gd (bytes_of w what) refl e
      go (CraftStep cr) gd e = absurd (cc)

  -- what holds of each world on the way
  record Holds (w : World) : Type 0 where
    fit : Fits_ w
    can : AllByRecursion PastCan w.pasts
    names : Names_ w

  holds_if : (w : World) (k : ℕ) (x : Step) → IsStep sha s x → Holds w → (who : Name) (c : Option Call) → call_of sha s w k x ≡ c → (o : Option Past) →
      let w' = option_map_or (called_if sha w k who c) o w in AllByRecursion PastCan w'.pasts × Names_ w'
  holds_if w k x good h who c e None = (h.can, h.names)
  holds_if w k x good h who None e (Some p) = (h.can, h.names)
  holds_if w k x good h who (Some c) e (Some p) = (
    all_map PastCan PastCan (next_past sha who c) (can_next who c (calls_ok w h.fit k x good c e)) w.pasts h.can,
    λ me. one_past_map me (next_past sha who c) (next_keys sha who c) w.pasts w.pasts (h.names me),
  )

  holds_step : (w : World) (k : ℕ) (x : Step) → IsStep sha s x → Holds w → Holds (world_after sha s w k x)
  holds_step w k x good h = let r = go x good in record { fit = fit_next sha hash programs s compiled sched w k x h.fit good; can = r.0; names = r.1 }
    where
      go : (y : Step) → IsStep sha s y → AllByRecursion PastCan (world_after sha s w k y).pasts × Names_ (world_after sha s w k y)
      go (StartStep who n) gd = holds_if w k (StartStep who n) gd h who (call_of sha s w k (StartStep who n)) refl (past_of w who)
      go (ActStep who n label values) gd = holds_if w k (ActStep who n label values) gd h who (call_of sha s w k (ActStep who n label values)) refl (past_of w who)
      go (AbandonStep who n) gd = holds_if w k (AbandonStep who n) gd h who (call_of sha s w k (AbandonStep who n)) refl (past_of w who)
      go (DeliverStep who what) gd = holds_if w k (DeliverStep who what) gd h who (call_of sha s w k (DeliverStep who what)) refl (past_of w who)
      go (CraftStep cr) gd = (h.can, h.names)

  abbrev NodeFits : Node → Type 0
  NodeFits n = (n.programs ≡ programs) × AllByRecursion FitSession n.live

  fit_restarted : (w : World) (who : Name) → Fits_ w → Fits_ (world_restarted w who)
  fit_restarted w who fit = record { frames = fit.frames; nodes = λ me p e. go me p (past_of w me) refl (sym (past_restarted w who me) ∙ e) }
    where
      go : (me : Name) (p : Past) (o : Option Past) → past_of w me ≡ o → option_map (anew_if who) o ≡ Some p → NodeFits (node_of p)
      go me p None q e = absurd (cc)
      go me p (Some y) q e = subst (λ (z : Past). NodeFits (node_of z)) (some_same e) (elim (cases_Bool (bytes_eq y.keys.me who)) [
        | inl b ↦ rw b (subst NodeFits (sym (anew y)) ((fit.nodes me y q).0, tt))
        | inr b ↦ rw b (fit.nodes me y q)
      ])

  holds_restarted : (w : World) (who : Name) → Holds w → Holds (world_restarted w who)
  holds_restarted w who h = record {
    fit = fit_restarted w who h.fit;
    can = all_map PastCan PastCan (anew_if who) (can_anew who) w.pasts h.can;
    names = λ me. one_past_map me (anew_if who) (anew_keys who) w.pasts w.pasts (h.names me);
  }

  holds_new : Holds (new_world programs s)
  holds_new = record {
    fit = fit_new sha hash programs s compiled sched;
    can = new_can s.honest;
    names = λ who. one_past_new s.keys programs s.honest who;
  }
    where
      new_can : (ns : List Name) → AllByRecursion PastCan (map (new_past s.keys programs) ns)
      new_can [] = tt
      new_can (n ∷ ns) = ((refl, tt), new_can ns)

  -- what a restart drops can be declared
  live_can : (w : World) (who : Name) → Holds w → AllByRecursion CanDeclare (live_of w who)
  live_can w who h = go (past_of w who) refl
    where
      go : (o : Option Past) → past_of w who ≡ o → AllByRecursion CanDeclare (option_map_or (λ (p : Past). (node_of p).live) o [])
      go None e = tt
      go (Some p) e = (find_all (λ (p : Past). bytes_eq p.keys.me who) PastCan w.pasts p h.can e).1

  -- all that restarts drop can be declared
  all_declared : (xs : List StepOrRestart) → AllByRecursion (IsStepOrRestart sha s) xs → (w : World) (k : ℕ) → Holds w → AllByRecursion (IsDeclared sha s.graphs) (dropped sha s w k xs)
  all_declared [] good w k h = tt
  all_declared (Stepped x ∷ xs) good w k h = all_declared xs good.1 (world_after sha s w k x) (k + 1) (holds_step w k x good.0 h)
  all_declared (Restarted who ∷ xs) good w k h =
      all-append (IsDeclared sha s.graphs) (map declared (live_of w who)) (dropped sha s (world_restarted w who) (k + length (live_of w who)) xs)
      (all_on_map (IsDeclared sha s.graphs) declared (live_of w who) (all_weaker CanDeclare (λ (x : Session). IsDeclared sha s.graphs (declared x)) (λ x c. c.1) (live_of w who) (live_can w who h)))
      (all_declared xs good.1 (world_restarted w who) (k + length (live_of w who)) (holds_restarted w who h))

  all_steps : (es : List NamedSession) (ys : List Step) (xs : List StepOrRestart) → AllByRecursion (IsStepOrRestart sha s) xs → (o : ℕ) (w : World) (k : ℕ) → AllByRecursion (IsStep sha (more sha s es ys)) (plain_steps sha s (length es) o w k xs)
  all_steps es ys [] good o w k = tt
  all_steps es ys (Stepped x ∷ xs) good o w k = (step_moved sha s es ys x good.0, all_steps es ys xs good.1 o (world_after sha s w k x) (k + 1))
  all_steps es ys (Restarted who ∷ xs) good o w k =
      all-append (IsStep sha (more sha s es ys)) (abandon_steps who o (live_of w who)) _ (abandons (live_of w who) o) (all_steps es ys xs good.1 (o + length (live_of w who)) (world_restarted w who) (k + length (live_of w who)))
    where
      abandons : (ls : List Session) (o : ℕ) → AllByRecursion (IsStep sha (more sha s es ys)) (abandon_steps who o ls)
      abandons [] o = tt
      abandons (x ∷ ls) o = (tt, abandons ls (o + 1))

  module _ (es : List NamedSession) (ys : List Step) where
    abbrev t : Schedule
    t = more sha s es ys

    is_there : (o o' : Option Past) → option_map shown o ≡ option_map shown o' → IsThere (option_map_or (λ (p : Past). (node_of p).live) o []) o'
    is_there None o' e = tt
    is_there (Some p) None e = absurd (let z : Some (shown p) ≡ None = e in cc)
    is_there (Some p) (Some q) e = there (node_of p).live q

    has_live : (who : Name) (w : World) → Holds w → (ps : List Past) → AllByRecursion (OnePast w.pasts who) ps → AllByRecursion (λ (p : Past). HasLive who (live_of w who) (shown p)) ps
    has_live who w h [] a = tt
    has_live who w h (p ∷ ps) a = ((λ e. sym (ap (λ o. option_map_or (λ (p : Past). (node_of p).live) o []) (a.0 e))), has_live who w h ps a.1)

    -- both worlds are the same so far, and the sessions that are still to be dropped are declared from index o on
    record Ready (w w' : World) (k o : ℕ) (pre : List NamedSession) (xs : List StepOrRestart) : Type 0 where
      holds : Holds w
      same : Same w w'
      sessions : t.sessions ≡ pre ++ dropped sha s w k xs
      at : o ≡ length pre

    abbrev left_of : World → World → ℕ → ℕ → Name → World
    left_of w w' k o who = world_after_all sha t w' k (abandon_steps who o (live_of w who))

    ready_stepped : (x : Step) (xs : List StepOrRestart) → IsStep sha s x → (w w' : World) (k o : ℕ) (pre : List NamedSession) → Ready w w' k o pre (Stepped x ∷ xs) → Ready (world_after sha s w k x) (world_after sha t w' k (moved_step s.sessions (length es) x)) (k + 1) o pre xs
    ready_stepped x xs good w w' k o pre r = record { holds = holds_step w k x good r.holds; same = same_step sha s es ys w w' k x r.same; sessions = r.sessions; at = r.at }

    ready_restarted : (who : Name) (xs : List StepOrRestart) (w w' : World) (k o : ℕ) (pre : List NamedSession) → Ready w w' k o pre (Restarted who ∷ xs) → Ready (world_restarted w who) (left_of w w' k o who) (k + length (live_of w who)) (o + length (live_of w who)) (pre ++ map declared (live_of w who)) xs
    ready_restarted who xs w w' k o pre r =
        let ls : List Session = live_of w who in
        let h : Holds w = r.holds in
        let live : AllByRecursion (HasLive who ls) (map shown w'.pasts) = subst (AllByRecursion (HasLive who ls)) r.same.nodes (all_on_map (HasLive who ls) shown w.pasts (has_live who w h w.pasts (h.names who))) in
        let left : Left who w' (left_of w w' k o who) = left_all sha t who ls w' k o pre (dropped sha s (world_restarted w who) (k + length ls) xs) r.sessions r.at (all_weaker CanDeclare (λ (x : Session). session_id sha x.cast ≡ x.sid) (λ x c. c.0) ls (live_can w who h)) live (past_of w' who) refl (is_there (past_of w who) (past_of w' who) (same_past w w' r.same.nodes who)) in
        record {
          holds = holds_restarted w who h;
          same = same_restarted who w w' (left_of w w' k o who) r.same left;
          sessions = r.sessions ∙ sym (append_assoc pre (map declared ls) (dropped sha s (world_restarted w who) (k + length ls) xs));
          at = (let l : length (pre ++ map declared ls) ≡ length pre + length ls = length-append pre (map declared ls) ∙ ap (λ n. length pre + n) (length_map declared ls) in let a = r.at in omega (arith, a, l));
        }

    both : (xs : List StepOrRestart) → AllByRecursion (IsStepOrRestart sha s) xs → (w w' : World) (k o : ℕ) (pre : List NamedSession) → Ready w w' k o pre xs
        → Same (world_over_restarts sha s w k xs) (world_after_all sha t w' k (plain_steps sha s (length es) o w k xs))
    both [] good w w' k o pre r = r.same
    both (Stepped x ∷ xs) good w w' k o pre r = both xs good.1 (world_after sha s w k x) (world_after sha t w' k (moved_step s.sessions (length es) x)) (k + 1) o pre (ready_stepped x xs good.0 w w' k o pre r)
    both (Restarted who ∷ xs) good w w' k o pre r =
        let n : ℕ = length (live_of w who) in
        subst (λ z. Same (world_over_restarts sha s (world_restarted w who) (k + n) xs) z) (sym (steps_append sha t who o (live_of w who) (plain_steps sha s (length es) (o + n) (world_restarted w who) (k + n) xs) w' k))
        (both xs good.1 (world_restarted w who) (left_of w w' k o who) (k + n) (o + n) (pre ++ map declared (live_of w who)) (ready_restarted who xs w w' k o pre r))

    -- what a last step adds
    both_last : (xs : List StepOrRestart) (x : Step) → AllByRecursion (IsStepOrRestart sha s) (xs ++ Stepped x ∷ []) → (w w' : World) (k o : ℕ) (pre : List NamedSession) → Ready w w' k o pre (xs ++ Stepped x ∷ [])
        → AddsSame (world_over_restarts sha s w k xs).log (world_over_restarts sha s w k (xs ++ Stepped x ∷ [])).log (world_after_all sha t w' k (plain_steps sha s (length es) o w k (xs ++ Stepped x ∷ []))).log
    both_last [] x good w w' k o pre r = last_step sha s es ys w w' k x r.same
    both_last (Stepped y ∷ xs) x good w w' k o pre r = both_last xs x good.1 (world_after sha s w k y) (world_after sha t w' k (moved_step s.sessions (length es) y)) (k + 1) o pre (ready_stepped y (xs ++ Stepped x ∷ []) good.0 w w' k o pre r)
    both_last (Restarted who ∷ xs) x good w w' k o pre r =
        let n : ℕ = length (live_of w who) in
        subst (λ (z : World). AddsSame (world_over_restarts sha s (world_restarted w who) (k + n) xs).log (world_over_restarts sha s (world_restarted w who) (k + n) (xs ++ Stepped x ∷ [])).log z.log)
        (sym (steps_append sha t who o (live_of w who) (plain_steps sha s (length es) (o + n) (world_restarted w who) (k + n) (xs ++ Stepped x ∷ [])) w' k))
        (both_last xs x good.1 (world_restarted w who) (left_of w w' k o who) (k + n) (o + n) (pre ++ map declared (live_of w who)) (ready_restarted who (xs ++ Stepped x ∷ []) w w' k o pre r))

  module _ (xs : List StepOrRestart) (good : All (IsStepOrRestart sha s) xs) where
    abbrev wr : World
    wr = run_with_restarts sha programs s xs

    abbrev more_sessions : List NamedSession
    more_sessions = dropped sha s (new_world programs s) 1 xs

    abbrev its_steps : List Step
    its_steps = plain_steps sha s (length more_sessions) (length s.sessions) (new_world programs s) 1 xs

    -- the schedule without restarts
    abbrev pub plain : Schedule
    plain = without_restarts sha programs s xs

    steps_good : AllByRecursion (IsStepOrRestart sha s) xs
    steps_good = recursion_from_All (IsStepOrRestart sha s) xs good

    new_same : Same (new_world programs s) (new_world programs plain)
    new_same = record { nodes = refl; log = refl }

    new_ready : Ready more_sessions its_steps (new_world programs s) (new_world programs plain) 1 (length s.sessions) s.sessions xs
    new_ready = record { holds = holds_new; same = new_same; sessions = refl; at = refl }

    pub same_runs : Same (run_with_restarts sha programs s xs) (run sha programs plain)
    same_runs = both more_sessions its_steps xs steps_good (new_world programs s) (new_world programs plain) 1 (length s.sessions) s.sessions new_ready

    pub is_plain : IsSchedule sha plain
    is_plain = record {
      are_graphs = sched.are_graphs;
      graph_names = sched.graph_names;
      honest_names = sched.honest_names;
      keys = sched.keys;
      pairs = sched.pairs;
      sessions = All-from_recursion (IsDeclared sha s.graphs) (s.sessions ++ more_sessions) (all-append (IsDeclared sha s.graphs) s.sessions more_sessions (recursion_from_All (IsDeclared sha s.graphs) s.sessions sched.sessions) (all_declared xs steps_good (new_world programs s) 1 holds_new));
      steps = All-from_recursion (IsStep sha plain) its_steps (all_steps more_sessions its_steps xs steps_good (length s.sessions) (new_world programs s) 1);
    }

    pub is_run_of : IsRunOf (run sha programs plain) (run_with_restarts sha programs s xs)
    is_run_of = record {
      log = same_runs.log;
      frames = sym (same_frames wr (run sha programs plain) same_runs);
      nodes = sym (map-map (λ (v : Shown). v.1) shown (run sha programs plain).pasts) ∙ sym (ap (map (λ (v : Shown). v.1)) same_runs.nodes) ∙ map-map (λ (v : Shown). v.1) shown wr.pasts;
    }

  pub same_last : (xs : List StepOrRestart) (x : Step) (good : All (IsStepOrRestart sha s) (xs ++ Stepped x ∷ [])) → AddsSame (run_with_restarts sha programs s xs).log (run_with_restarts sha programs s (xs ++ Stepped x ∷ [])).log (run sha programs (plain (xs ++ Stepped x ∷ []) good)).log
  same_last xs x good =
      let zs : List StepOrRestart = xs ++ Stepped x ∷ [] in
      both_last (more_sessions zs good) (its_steps zs good) xs x (steps_good zs good) (new_world programs s) (new_world programs (plain zs good)) 1 (length s.sessions) s.sessions (new_ready zs good)

pub restarts_are_abandonments : (sha : Hash) → IsHash sha → RestartsAreAbandonments sha
restarts_are_abandonments sha hash programs s xs compiled sched good = (is_plain sha hash programs s compiled sched xs good, is_run_of sha hash programs s compiled sched xs good)
