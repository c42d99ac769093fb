-- Sessions do not disturb each other.
use Rattle.std.specs.Prelude.{◌≡◌, ℕ, ◌≤◌, ◌==◌, ◌&&◌, ◌⊎◌, nat_le, Bool, true, false, List, [], ◌∷◌, map, filter, length, refl, Option, Some, None, bytes_eq, Result, Ok, Err, All, IfSome, ⊤}
use Rattle.std.specs.Option.{option_map_or}
use Rattle.std.proofs.Common.{sym, ◌∙◌, ap, subst, inl, inr, arith}
use Rattle.std.proofs.lemmas.List.Elements.{All-head, All-tail, filter-append}
use Rattle.std.proofs.lemmas.Bool.{le-leb, leb-true, cases_Bool}
use Rattle.sg_model.specs.Lists.{first_some}
use Rattle.sg_protocol.specs.Frame.{Frame, Cast}
use Rattle.sg_model.proofs.Small.{and_left, clash, same_bytes, length_filter, length-more}
use Rattle.sg_model.proofs.Finding.{find-filter, any-append}
use Rattle.sg_protocol.specs.Reading.{read}
use Rattle.sg_protocol.specs.Texts.{Hash, session_id}
use Rattle.sg_protocol.specs.Session.{Session, new_session}
use Rattle.sg_protocol.specs.Keyring.{Program}
use Rattle.sg_protocol.specs.Node.{Node, is_for, session_with, session_for, has_joined, program_for, starter}
use Rattle.sg_protocol.specs.Calls.{Event, Call, Start, Act, Abandon, Deliver, NotStarted, NotDelivered, Refusal, StartFault, UnknownGraph, CacheFull, SessionsFull}
use Rattle.sg_protocol.specs.Verdict.{row, decided, rows_of_join, join_rows, next_rows, rows_of_session, rows, receipt, verdict_on}
use Rattle.sg_protocol.specs.Acting.{started, rows_of_start, answer}
use Rattle.sg_protocol.specs.NodeAfter.{node_after, joined, goes_on, still}
use Rattle.sg_protocol.specs.Past.{AnsweredCall, AreAnswers, calls_of_session, is_call_of, is_frame_of, answers, new_node}
use Rattle.sg_protocol.specs.Isolation.{is_for_room, SessionsAreIsolated, IsLeft}
use Rattle.sg_protocol.proofs.OfSid.{of_sid, replace-own, still-own}
use Rattle.sg_protocol.proofs.PerCall.{after_call, calls_leave_others, joined_with}
use Rattle.sg_protocol.proofs.First.{joins_grow}

-- ---- the first row that holds, with and without the rows of refusals because there was no room

abbrev Same : {F : Type 0} → (F → Bool) → Option F → Option F → Type 0
Same room x y = (x ≡ y) ⊎ ((y ≡ None) × IfSome x (λ r. room r ≡ true))

abbrev Agree : {F : Type 0} → (F → Bool) → List (Option F) → List (Option F) → Type 0
Agree room [] [] = ⊤
Agree room [] (y ∷ ys) = ⊥
Agree room (x ∷ xs) [] = ⊥
Agree room (x ∷ xs) (y ∷ ys) = Same room x y × Agree room xs ys

agree_refl : {F : Type 0} (room : F → Bool) (xs : List (Option F)) → Agree room xs xs
agree_refl room [] = tt
agree_refl room (x ∷ xs) = (inl refl, agree_refl room xs)

agreed : {F : Type 0} (room : F → Bool) (xs ys : List (Option F)) → Agree room xs ys → IfSome (first_some xs) (λ r. room r ≡ false) → first_some ys ≡ first_some xs
agreed room [] [] a h = refl
agreed room [] (y ∷ ys) a h = elim a [ ]
agreed room (None ∷ xs) [] a h = elim a [ ]
agreed room (Some r ∷ xs) [] a h = elim a [ ]
agreed room (None ∷ xs) (y ∷ ys) a h = elim a.0 [ inl e ↦ rw (sym e) (agreed room xs ys a.1 h) | inr e ↦ rw e.0 (agreed room xs ys a.1 h) ]
agreed room (Some r ∷ xs) (y ∷ ys) a h = elim a.0 [ inl e ↦ rw (sym e) refl | inr e ↦ clash (room r) e.1 h ]

limit : {F : Type 0} (room : F → Bool) (x : F) → room x ≡ true → (b b' : Bool) → (b' ≡ true → b ≡ true) → Same room (row b x) (row b' x)
limit room x r true true le = inl refl
limit room x r true false le = inr (refl, r)
limit room x r false true le = clash true refl (sym (le refl))
limit room x r false false le = inl refl

fewer_full : (k m n : ℕ) → m ≤ n → nat_le k m ≡ true → nat_le k n ≡ true
fewer_full k m n le h = le-leb k n (omega (arith, le, leb-true k m h))

-- ---- a node, and one that gets the calls of a session alone

record Beside (sid : List ℕ) (n n' : Node) : Type 0 where
  keys : n'.keys ≡ n.keys
  programs : n'.programs ≡ n.programs
  live : n'.live ≡ filter (of_sid sid) n.live
  joins : (s : List ℕ) (r : ℕ) → bytes_eq s sid ≡ true → has_joined n'.joins s r ≡ has_joined n.joins s r
  fewer : length n'.joins ≤ length n.joins

fewer_live : (sid : List ℕ) (n n' : Node) → Beside sid n n' → length n'.live ≤ length n.live
fewer_live sid n n' b = rw b.live (length_filter (of_sid sid) n.live)

-- ---- the same answers

abbrev room_start : StartFault → Bool
room_start fault = is_for_room (NotStarted fault)

abbrev room : Refusal → Bool
room r = is_for_room (NotDelivered r)

start_not_room : (sid : List ℕ) (r : ℕ) (o : Option StartFault) → is_for_room (started sid r o) ≡ false → IfSome o (λ f. room_start f ≡ false)
start_not_room sid r None h = tt
start_not_room sid r (Some f) h = h

decided_not_room : (e : Event) (o : Option Refusal) → is_for_room (decided e o) ≡ false → IfSome o (λ r. room r ≡ false)
decided_not_room e None h = tt
decided_not_room e (Some r) h = h

module _ (sha : Hash) (sid : List ℕ) (n n' : Node) (b : Beside sid n n') where
  agree_start : (p : Program) (s : List ℕ) (c : Cast) → bytes_eq s sid ≡ true → Agree room_start (rows_of_start n p s c) (rows_of_start n' p s c)
  agree_start p s c h = rw (b.keys, b.joins s p.role h) (
    inl refl,
    (
      inl refl,
      (
        inl refl,
        (
          limit room_start StartFault.CacheFull refl _ _ (fewer_full 65536 _ _ b.fewer),
          (limit room_start StartFault.SessionsFull refl _ _ (fewer_full 4096 _ _ (fewer_live sid n n' b)), tt),
        ),
      ),
    ),
  )

  same_start : (c : Cast) (o : Option Program) → bytes_eq (session_id sha c) sid ≡ true →
      is_for_room (option_map_or (λ p. started (session_id sha c) p.role (first_some (rows_of_start n p (session_id sha c) c))) o (NotStarted StartFault.UnknownGraph)) ≡ false →
      option_map_or (λ p. started (session_id sha c) p.role (first_some (rows_of_start n' p (session_id sha c) c))) o (NotStarted StartFault.UnknownGraph)
      ≡ option_map_or (λ p. started (session_id sha c) p.role (first_some (rows_of_start n p (session_id sha c) c))) o (NotStarted StartFault.UnknownGraph)
  same_start c None h k = refl
  same_start c (Some p) h k = ap (started (session_id sha c) p.role)
      (agreed room_start (rows_of_start n p (session_id sha c) c) (rows_of_start n' p (session_id sha c) c) (agree_start p (session_id sha c) c h) (start_not_room (session_id sha c) p.role _ k))

  same_session_with : (s : List ℕ) → bytes_eq s sid ≡ true → session_with n'.live s ≡ session_with n.live s
  same_session_with s h = rw b.live (find-filter (λ x. bytes_eq x.sid s) (of_sid sid) (λ x e. subst (λ y. bytes_eq y sid ≡ true) (sym (same_bytes x.sid s e)) h) n.live)

  same_session_for : (f : Frame) → bytes_eq f.sid sid ≡ true → session_for n'.live f ≡ session_for n.live f
  same_session_for f h = rw b.live (find-filter (is_for f) (of_sid sid) (λ x e. subst (λ y. bytes_eq y sid ≡ true) (sym (same_bytes x.sid f.sid (and_left _ _ (and_left _ _ e)))) h) n.live)

  agree_join : (f : Frame) (c : Cast) (o : Option Program) → bytes_eq f.sid sid ≡ true → Agree room (option_map_or (rows_of_join sha n f c) o (Some UnknownGraph ∷ [])) (option_map_or (rows_of_join sha n' f c) o (Some UnknownGraph ∷ []))
  agree_join f c None h = (inl refl, tt)
  agree_join f c (Some p) h = rw (b.keys, b.joins f.sid f.receiver h) (
    inl refl,
    (
      inl refl,
      (
        inl refl,
        (
          inl refl,
          (
            limit room CacheFull refl _ _ (fewer_full 65536 _ _ b.fewer),
            (
              limit room SessionsFull refl _ _ (fewer_full 4096 _ _ (fewer_live sid n n' b)),
              agree_refl room (rows_of_session sha n.keys p (new_session f.sid c f.receiver) f),
            ),
          ),
        ),
      ),
    ),
  )

  agree_rows : (f : Frame) (o : Option Cast) → bytes_eq f.sid sid ≡ true → Agree room (option_map_or (join_rows sha n f) o (next_rows sha n f)) (option_map_or (join_rows sha n' f) o (next_rows sha n' f))
  agree_rows f None h = rw (same_session_for f h, b.keys, b.programs) (agree_refl room (next_rows sha n f))
  agree_rows f (Some c) h = rw b.programs (agree_join f c (program_for n.programs c.graph f.receiver) h)

  same_verdict : (r : Result Frame ℕ) → is_frame_of sid r ≡ true → is_for_room (verdict_on sha n r) ≡ false → verdict_on sha n' r ≡ verdict_on sha n r
  same_verdict (Err at) h k = refl
  same_verdict (Ok f) h k = ap (decided (receipt f)) (agreed room (rows sha n f) (rows sha n' f) (agree_rows f f.join h) (decided_not_room (receipt f) _ k))

  same_answer : (c : Call) → is_call_of sha sid c ≡ true → is_for_room (answer sha n c) ≡ false → answer sha n' c ≡ answer sha n c
  same_answer (Start c) h k = rw b.programs (same_start c (starter n.programs c.graph) h k)
  same_answer (Act s label values confounders) h k = rw (same_session_with s h, b.keys, b.programs) refl
  same_answer (Abandon s) h k = rw (same_session_with s h) refl
  same_answer (Deliver bs) h k = same_verdict (read bs) h k

-- ---- the nodes after a call

module _ (sid : List ℕ) (n n' : Node) (b : Beside sid n n') where
  -- a session is joined
  own_joined : (s : Session) → bytes_eq s.sid sid ≡ true → Beside sid (joined n s) (joined n' s)
  own_joined s h = record {
    keys = b.keys;
    programs = b.programs;
    live = rw (b.live, b.programs, filter-append (of_sid sid) n.live (still n.programs s), still-own sid n.programs s h) refl;
    joins = λ t r k. any-append (λ j. bytes_eq j.0 t && (j.1 == r)) n'.joins n.joins ((s.sid, s.role) ∷ []) (b.joins t r k);
    fewer = omega (arith, b.fewer, length-more n.joins (s.sid, s.role), length-more n'.joins (s.sid, s.role));
  }

  -- a session goes on
  own_goes_on : (which : Session → Bool) (now : Session → List Session) → ((s : Session) → which s ≡ true → of_sid sid s ≡ true) → ((s : Session) → which s ≡ true → filter (of_sid sid) (now s) ≡ now s) → Beside sid (goes_on n which now) (goes_on n' which now)
  own_goes_on which now h k = record {
    keys = b.keys;
    programs = b.programs;
    live = rw b.live (replace-own which now h k n.live);
    joins = b.joins;
    fewer = b.fewer;
  }

module _ (sha : Hash) (sid : List ℕ) (n n' : Node) (b : Beside sid n n') where
  own_after : (c : Call) → is_call_of sha sid c ≡ true → Beside sid (node_after n c (answer sha n c)) (node_after n' c (answer sha n c))
  own_after c h = after_call sha sid true (Beside sid) n n' (sym b.programs) b (own_joined sid n n' b) (own_goes_on sid n n' b) c h

  other_after : (c : Call) → is_call_of sha sid c ≡ false → Beside sid (node_after n c (answer sha n c)) n'
  other_after c h =
      let l : IsLeft sid n (node_after n c (answer sha n c)) = calls_leave_others sha sid n c h in
      record {
        keys = b.keys ∙ sym l.keys;
        programs = b.programs ∙ sym l.programs;
        live = b.live ∙ sym l.live;
        joins = λ s r k. b.joins s r k ∙ sym (joined_with (node_after n c (answer sha n c)).joins n.joins sid l.joins s r k);
        fewer = (let f = b.fewer in let m = joins_grow n c (answer sha n c) in omega (arith, f, m));
      }

-- ---- whole pasts

isolated : (sha : Hash) (sid : List ℕ) (n n' : Node) (cs : List AnsweredCall) → Beside sid n n' → AreAnswers sha n cs → All (λ c. is_for_room c.answer ≡ false) cs →
    map (λ c. c.answer) (calls_of_session sha sid cs) ≡ answers sha n' (map (λ c. c.call) (calls_of_session sha sid cs))
isolated sha sid n n' [] b right free = refl
isolated sha sid n n' (c ∷ cs) b right free = elim (cases_Bool (is_call_of sha sid c.call)) [
  | inl e ↦ rw e (rw (same e) (ap (λ l. c.answer ∷ l) (isolated sha sid (node_after n c.call c.answer) (node_after n' c.call c.answer) cs (after e) right.1 rest)))
  | inr e ↦ rw e (isolated sha sid (node_after n c.call c.answer) n' cs
      (subst (λ a. Beside sid (node_after n c.call a) n') (sym right.0) (other_after sha sid n n' b c.call e)) right.1 rest)
]
  where
    rest : All (λ c. is_for_room c.answer ≡ false) cs
    rest = All-tail (λ c. is_for_room c.answer ≡ false) c cs free

    same : is_call_of sha sid c.call ≡ true → answer sha n' c.call ≡ c.answer
    same e = same_answer sha sid n n' b c.call e (subst (λ a. is_for_room a ≡ false) right.0 (All-head (λ c. is_for_room c.answer ≡ false) c cs free)) ∙ sym right.0

    after : is_call_of sha sid c.call ≡ true → Beside sid (node_after n c.call c.answer) (node_after n' c.call c.answer)
    after e = subst (λ a. Beside sid (node_after n c.call a) (node_after n' c.call a)) (sym right.0) (own_after sha sid n n' b c.call e)

pub sessions_are_isolated : (sha : Hash) → SessionsAreIsolated sha
sessions_are_isolated sha past sid right free =
    let n : Node = new_node past.keys past.programs past.first in
    isolated sha sid n n past.calls (record { keys = refl; programs = refl; live = refl; joins = λ s r h. refl; fewer = omega arith }) right free
