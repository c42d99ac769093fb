-- What the answer to one call depends on, and what the call leaves.
use Rattle.std.specs.Prelude.{◌≡◌, ℕ, ◌+◌, ◌==◌, ◌&&◌, Bool, true, false, List, [], ◌∷◌, ◌++◌, filter, find, length, refl, Option, Some, None, bytes_eq, Result, Ok, Err, if◌then◌else◌}
use Rattle.std.specs.List.{list_any}
use Rattle.std.specs.Option.{option_map_or}
use Rattle.std.proofs.Common.{sym, ◌∙◌, ap, subst, inl, inr, arith, append-nil}
use Rattle.std.proofs.lemmas.Bool.{cases_Bool}
use Rattle.std.proofs.lemmas.List.{length-append}
use Rattle.std.proofs.lemmas.List.Elements.{filter-append}
use Rattle.sg_model.specs.Last.{last, Map}
use Rattle.sg_model.specs.Lists.{first_some}
use Rattle.sg_model.specs.Values.{Opening, Value}
use Rattle.sg_model.proofs.Small.{and_left, same_bytes}
use Rattle.sg_model.proofs.Finding.{find-filter, any-filter}
use Rattle.sg_protocol.specs.Frame.{Frame, Cast, Item}
use Rattle.sg_protocol.specs.Reading.{read}
use Rattle.sg_protocol.specs.Texts.{Hash, session_id}
use Rattle.sg_protocol.specs.Session.{Session, Took, Gave, extended, new_session}
use Rattle.sg_protocol.specs.Keyring.{Program}
use Rattle.sg_protocol.specs.Node.{Node, is_for, session_with, session_for, has_joined, program_for, starter}
use Rattle.sg_protocol.specs.Calls.{Received, Call, Start, Act, Abandon, Deliver, Answer, Happened, Sends, Abandoned, NotStarted, StartFault, Refusal}
use Rattle.sg_protocol.specs.Verdict.{decided, rows_of_join, join_rows, next_rows, receipt, verdict_on}
use Rattle.sg_protocol.specs.Acting.{started, rows_of_start, answer, openings_for}
use Rattle.sg_protocol.specs.NodeAfter.{node_after, takes_read, joined, goes_on, replace, still}
use Rattle.sg_protocol.specs.Past.{is_call_of, is_frame_of}
use Rattle.sg_protocol.specs.Isolation.{joins_with, sessions_with, AreAlike, IsLeft, AnswersAreOfSessions, CallsKeepAlike, CallsLeaveOthers}
use Rattle.sg_protocol.proofs.OfSid.{of_sid, replace-other, replace-own, still-other, still-part, one-part, for_sid}

-- what has one of two equal texts has the other
moved : (a b sid : List ℕ) (v : Bool) → bytes_eq a b ≡ true → bytes_eq b sid ≡ v → bytes_eq a sid ≡ v
moved a b sid v e h = subst (λ y. bytes_eq y sid ≡ v) (sym (same_bytes a b e)) h

-- the change of a list's length shows in the part that changes
replace-length : (q which : Session → Bool) (now : Session → List Session) → ((s : Session) → which s ≡ true → q s ≡ true) → (ss : List Session) →
    length (replace which now ss) + length (filter q ss) ≡ length (replace which now (filter q ss)) + length ss
replace-length q which now h [] = refl
replace-length q which now h (s ∷ ss) = elim (cases_Bool (which s)) [
  | inl e ↦ rw (h s e, e) (let a = length-append (now s) ss in let b = length-append (now s) (filter q ss) in omega (arith, a, b))
  | inr e ↦ elim (cases_Bool (q s)) [
    | inl f ↦ rw (f, e) (let i = replace-length q which now h ss in omega (arith, i))
    | inr f ↦ rw (f, e) (let i = replace-length q which now h ss in omega (arith, i))
  ]
]

-- where the joins with the sid are the same, the same of them were joined
pub joined_with : (joins joins' : List (List ℕ × ℕ)) (sid : List ℕ) → joins_with joins sid ≡ joins_with joins' sid → (s : List ℕ) (r : ℕ) → bytes_eq s sid ≡ true → has_joined joins s r ≡ has_joined joins' s r
joined_with joins joins' sid same s r h = sym (on joins) ∙ ap (list_any (λ (j : List ℕ × ℕ). bytes_eq j.0 s && (j.1 == r))) same ∙ on joins'
  where
    on : (js : List (List ℕ × ℕ)) → has_joined (joins_with js sid) s r ≡ has_joined js s r
    on js = any-filter (λ (j : List ℕ × ℕ). bytes_eq j.0 s && (j.1 == r)) (λ (j : List ℕ × ℕ). bytes_eq j.0 sid) (λ j e. moved j.0 s sid true (and_left _ _ e) h) js

-- ---- the same answers

module _ (sha : Hash) (sid : List ℕ) (n n' : Node) (b : AreAlike sid n n') where
  has_same : (s : List ℕ) (r : ℕ) → bytes_eq s sid ≡ true → has_joined n.joins s r ≡ has_joined n'.joins s r
  has_same = joined_with n.joins n'.joins sid b.joins

  found_same : (p : Session → Bool) → ((s : Session) → p s ≡ true → of_sid sid s ≡ true) → find p n.live ≡ find p n'.live
  found_same p h = sym (find-filter p (of_sid sid) h n.live) ∙ ap (find p) b.live ∙ find-filter p (of_sid sid) h n'.live

  with_same : (s : List ℕ) → bytes_eq s sid ≡ true → session_with n.live s ≡ session_with n'.live s
  with_same s h = found_same (λ x. bytes_eq x.sid s) (λ x e. moved x.sid s sid true e h)

  for_same : (f : Frame) → bytes_eq f.sid sid ≡ true → session_for n.live f ≡ session_for n'.live f
  for_same f h = found_same (is_for f) (λ x e. moved x.sid f.sid sid true (and_left _ _ (and_left _ _ e)) h)

  start_same : (c : Cast) (o : Option Program) → bytes_eq (session_id sha c) sid ≡ true →
      option_map_or (λ p. started (session_id sha c) p.role (first_some (rows_of_start n p (session_id sha c) c))) o (NotStarted StartFault.UnknownGraph)
      ≡ option_map_or (λ p. started (session_id sha c) p.role (first_some (rows_of_start n' p (session_id sha c) c))) o (NotStarted StartFault.UnknownGraph)
  start_same c None h = refl
  start_same c (Some p) h = rw (b.keys, has_same (session_id sha c) p.role h, b.join_count, b.live_count) refl

  join_same : (f : Frame) (c : Cast) (o : Option Program) → bytes_eq f.sid sid ≡ true → option_map_or (rows_of_join sha n f c) o (Some Refusal.UnknownGraph ∷ []) ≡ option_map_or (rows_of_join sha n' f c) o (Some Refusal.UnknownGraph ∷ [])
  join_same f c None h = refl
  join_same f c (Some p) h = rw (b.keys, has_same f.sid f.receiver h, b.join_count, b.live_count) refl

  rows_same : (f : Frame) (o : Option Cast) → bytes_eq f.sid sid ≡ true → option_map_or (join_rows sha n f) o (next_rows sha n f) ≡ option_map_or (join_rows sha n' f) o (next_rows sha n' f)
  rows_same f None h = rw (for_same f h, b.keys, b.programs) refl
  rows_same f (Some c) h = rw b.programs (join_same f c (program_for n'.programs c.graph f.receiver) h)

  read_same : (r : Result Frame ℕ) → is_frame_of sid r ≡ true → verdict_on sha n r ≡ verdict_on sha n' r
  read_same (Err at) h = refl
  read_same (Ok f) h = ap (λ os. decided (receipt f) (first_some os)) (rows_same f f.join h)

  answer_same : (c : Call) → is_call_of sha sid c ≡ true → answer sha n c ≡ answer sha n' c
  answer_same (Start c) h = rw b.programs (start_same c (starter n'.programs c.graph) h)
  answer_same (Act s label values confounders) h = rw (with_same s h, b.keys, b.programs) refl
  answer_same (Abandon s) h = rw (with_same s h) refl
  answer_same (Deliver bs) h = read_same (read bs) h

-- ---- after a call

-- what an act leaves of a session
abbrev given : List Opening → List Program → Option Item → Session → List Session
given os ps o x = option_map_or (λ i. still ps (extended x (Gave i os))) o (x ∷ [])

given-part : (sid : List ℕ) (own : Bool) (os : List Opening) (ps : List Program) (o : Option Item) (x : Session) → bytes_eq x.sid sid ≡ own → filter (of_sid sid) (given os ps o x) ≡ (if own then given os ps o x else [])
given-part sid own os ps None x h = one-part sid own x h
given-part sid own os ps (Some i) x h = still-part sid own ps (extended x (Gave i os)) h

-- What holds of two nodes with the same programs, and still does once a session joins both or goes on in both, holds of them after a call. The sessions are of the sid if the call is, else of others
module _ (sha : Hash) (sid : List ℕ) (own : Bool) (R : Node → Node → Type 0) (n n' : Node) (programs : n.programs ≡ n'.programs) (before : R n n')
    (on_joined : (x : Session) → bytes_eq x.sid sid ≡ own → R (joined n x) (joined n' x))
    (on_goes : (which : Session → Bool) (now : Session → List Session) → ((s : Session) → which s ≡ true → of_sid sid s ≡ own) → ((s : Session) → which s ≡ true → filter (of_sid sid) (now s) ≡ (if own then now s else [])) → R (goes_on n which now) (goes_on n' which now)) where
  goes : (which : Session → Bool) (now : List Program → Session → List Session) → ((s : Session) → which s ≡ true → of_sid sid s ≡ own) → ((ps : List Program) (s : Session) → which s ≡ true → filter (of_sid sid) (now ps s) ≡ (if own then now ps s else [])) → R (goes_on n which (now n.programs)) (goes_on n' which (now n'.programs))
  goes which now h k = subst (λ ps. R (goes_on n which (now n.programs)) (goes_on n' which (now ps))) programs (on_goes which (now n.programs) h (k n.programs))

  after_takes : (f : Frame) (o : Option Cast) → bytes_eq f.sid sid ≡ own →
      R (option_map_or (λ c. joined n (extended (new_session f.sid c f.receiver) (Took f))) o (goes_on n (is_for f) (λ s. still n.programs (extended s (Took f)))))
      (option_map_or (λ c. joined n' (extended (new_session f.sid c f.receiver) (Took f))) o (goes_on n' (is_for f) (λ s. still n'.programs (extended s (Took f)))))
  after_takes f None h = goes (is_for f) (λ ps s. still ps (extended s (Took f))) whose (λ ps s e. still-part sid own ps (extended s (Took f)) (whose s e))
    where
      whose : (s : Session) → is_for f s ≡ true → bytes_eq s.sid sid ≡ own
      whose s e = ap (λ z. bytes_eq z sid) (for_sid f s e) ∙ h
  after_takes f (Some c) h = on_joined (extended (new_session f.sid c f.receiver) (Took f)) h

  after_read : (r : Result Frame ℕ) → is_frame_of sid r ≡ own → R (takes_read n r) (takes_read n' r)
  after_read (Err at) h = before
  after_read (Ok f) h = after_takes f f.join h

  after_deliver : (bs : List ℕ) (a : Answer) → is_frame_of sid (read bs) ≡ own → R (node_after n (Deliver bs) a) (node_after n' (Deliver bs) a)
  after_deliver bs (Happened (Received s r label time values joins)) h = after_read (read bs) h
  after_deliver bs other h = before

  after_started : (c : Cast) (r : ℕ) (o : Option StartFault) → bytes_eq (session_id sha c) sid ≡ own → R (node_after n (Start c) (started (session_id sha c) r o)) (node_after n' (Start c) (started (session_id sha c) r o))
  after_started c r None h = on_joined (new_session (session_id sha c) c r) h
  after_started c r (Some fault) h = before

  after_start : (c : Cast) (o : Option Program) → bytes_eq (session_id sha c) sid ≡ own →
      let a : Answer = option_map_or (λ p. started (session_id sha c) p.role (first_some (rows_of_start n p (session_id sha c) c))) o (NotStarted StartFault.UnknownGraph) in
      R (node_after n (Start c) a) (node_after n' (Start c) a)
  after_start c None h = before
  after_start c (Some p) h = after_started c p.role (first_some (rows_of_start n p (session_id sha c) c)) h

  after_abandon : (s : List ℕ) (a : Answer) → bytes_eq s sid ≡ own → R (node_after n (Abandon s) a) (node_after n' (Abandon s) a)
  after_abandon s Abandoned h = on_goes (λ x. bytes_eq x.sid s) (λ x. []) (λ x e. moved x.sid s sid own e h) (λ x e. none own)
    where
      none : (b : Bool) → filter (of_sid sid) [] ≡ (if b then [] else [])
      none true = refl
      none false = refl
  after_abandon s other h = before

  after_act : (s : List ℕ) (label : ℕ) (values : Map Value) (confounders : List (List ℕ)) (a : Answer) → bytes_eq s sid ≡ own → R (node_after n (Act s label values confounders) a) (node_after n' (Act s label values confounders) a)
  after_act s label values confounders (Sends e to f) h =
      goes (λ x. bytes_eq x.sid s) (λ ps x. given (openings_for values confounders) ps (last f.items) x) (λ x e. moved x.sid s sid own e h) (λ ps x e. given-part sid own (openings_for values confounders) ps (last f.items) x (moved x.sid s sid own e h))
  after_act s label values confounders other h = before

  pub after_call : (c : Call) → is_call_of sha sid c ≡ own → R (node_after n c (answer sha n c)) (node_after n' c (answer sha n c))
  after_call (Start c) h = after_start c (starter n.programs c.graph) h
  after_call (Act s label values confounders) h = after_act s label values confounders (answer sha n (Act s label values confounders)) h
  after_call (Abandon s) h = after_abandon s (answer sha n (Abandon s)) h
  after_call (Deliver bs) h = after_deliver bs (answer sha n (Deliver bs)) h

-- ---- alike afterwards

module _ (sid : List ℕ) (n n' : Node) (b : AreAlike sid n n') where
  alike_joined : (x : Session) → AreAlike sid (joined n x) (joined n' x)
  alike_joined x = record {
    keys = b.keys;
    programs = b.programs;
    joins = filter-append (λ (j : List ℕ × ℕ). bytes_eq j.0 sid) n.joins ((x.sid, x.role) ∷ []) ∙ ap (λ l. l ++ joins_with ((x.sid, x.role) ∷ []) sid) b.joins ∙ sym (filter-append (λ (j : List ℕ × ℕ). bytes_eq j.0 sid) n'.joins ((x.sid, x.role) ∷ []));
    live = filter-append (of_sid sid) n.live (still n.programs x) ∙ ap (λ l. l ++ sessions_with (still n.programs x) sid) b.live ∙ ap (λ ps. sessions_with n'.live sid ++ sessions_with (still ps x) sid) b.programs ∙ sym (filter-append (of_sid sid) n'.live (still n'.programs x));
    join_count = length-append n.joins ((x.sid, x.role) ∷ []) ∙ ap (λ k. k + 1) b.join_count ∙ sym (length-append n'.joins ((x.sid, x.role) ∷ []));
    live_count = length-append n.live (still n.programs x) ∙ ap (λ k. k + length (still n.programs x)) b.live_count ∙ ap (λ ps. length n'.live + length (still ps x)) b.programs ∙ sym (length-append n'.live (still n'.programs x));
  }

  alike_goes_on : (which : Session → Bool) (now : Session → List Session) → ((s : Session) → which s ≡ true → of_sid sid s ≡ true) → ((s : Session) → which s ≡ true → filter (of_sid sid) (now s) ≡ now s) → AreAlike sid (goes_on n which now) (goes_on n' which now)
  alike_goes_on which now h k = record {
    keys = b.keys;
    programs = b.programs;
    joins = b.joins;
    live = sym (replace-own which now h k n.live) ∙ ap (replace which now) b.live ∙ replace-own which now h k n'.live;
    join_count = b.join_count;
    live_count =
        let one = replace-length (of_sid sid) which now h n.live in
        let two = replace-length (of_sid sid) which now h n'.live in
        let parts = ap (λ l. length l) b.live in
        let news = ap (λ l. length (replace which now l)) b.live in
        let all = b.live_count in
        omega (arith, one, two, parts, news, all);
  }

-- ---- what is left

module _ (sid : List ℕ) (n : Node) where
  left_joined : (x : Session) → bytes_eq x.sid sid ≡ false → IsLeft sid n (joined n x)
  left_joined x h = record {
    keys = refl;
    programs = refl;
    joins = filter-append (λ (j : List ℕ × ℕ). bytes_eq j.0 sid) n.joins ((x.sid, x.role) ∷ []) ∙ rw h (append-nil (joins_with n.joins sid));
    live = filter-append (of_sid sid) n.live (still n.programs x) ∙ ap (λ l. sessions_with n.live sid ++ l) (still-other sid n.programs x h) ∙ append-nil (sessions_with n.live sid);
  }

  left_goes_on : (which : Session → Bool) (now : Session → List Session) → ((s : Session) → which s ≡ true → of_sid sid s ≡ false) → ((s : Session) → which s ≡ true → filter (of_sid sid) (now s) ≡ []) → IsLeft sid n (goes_on n which now)
  left_goes_on which now h k = record { keys = refl; programs = refl; joins = refl; live = replace-other which now h k n.live }

-- ---- the laws

pub answers_are_of_sessions : (sha : Hash) → AnswersAreOfSessions sha
answers_are_of_sessions sha sid n n' c h b = answer_same sha sid n n' b c h

pub calls_keep_alike : (sha : Hash) → CallsKeepAlike sha
calls_keep_alike sha sid n n' c h b =
    subst (λ a. AreAlike sid (node_after n c (answer sha n c)) (node_after n' c a)) (answer_same sha sid n n' b c h) (after_call sha sid true (AreAlike sid) n n' b.programs b (λ x e. alike_joined sid n n' b x) (alike_goes_on sid n n' b) c h)

pub calls_leave_others : (sha : Hash) → CallsLeaveOthers sha
calls_leave_others sha sid n c h =
    let before : IsLeft sid n n = record { keys = refl; programs = refl; joins = refl; live = refl } in
    after_call sha sid false (λ m m'. IsLeft sid n m') n n refl before (left_joined sid n) (left_goes_on sid n) c h
