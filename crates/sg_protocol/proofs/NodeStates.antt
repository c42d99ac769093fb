-- What a node's state represents, before and after a call.
use Rattle.std.specs.Prelude.{◌≡◌, ℕ, ◌⊎◌, Bool, true, false, if◌then◌else◌, List, [], ◌∷◌, ◌++◌, find, bytes_eq, refl, Option, Some, None, Result, Ok, Err, IsSomeAnd, ⊤}
use Rattle.std.specs.List.{AllByRecursion}
use Rattle.std.specs.Option.{option_map_or}
use Rattle.std.proofs.Common.{sym, ◌∙◌, ap, subst, inl, inr}
use Rattle.std.proofs.lemmas.Bool.{cases_Bool}
use Rattle.std.proofs.lemmas.List.Elements.{recursion_from_All}
use Rattle.sg_model.specs.Last.{Map, last}
use Rattle.sg_model.specs.Values.{Value}
use Rattle.sg_protocol.specs.Frame.{Cast, Item, Frame}
use Rattle.sg_protocol.specs.Reading.{read}
use Rattle.sg_protocol.specs.Texts.{Hash, IsHash}
use Rattle.sg_protocol.specs.Keyring.{Program}
use Rattle.sg_protocol.specs.Session.{Session, Exchange, Took, Gave, new_session, extended, at_turn}
use Rattle.sg_protocol.specs.Calls.{Call, Answer, Start, Act, Abandon, Deliver, Happened, Sends, Abandoned, Started, Received}
use Rattle.sg_protocol.specs.Node.{Node, program_for, is_for}
use Rattle.sg_protocol.specs.Acting.{openings_for, answer}
use Rattle.sg_protocol.specs.NodeAfter.{is_over, still, replace, joined, goes_on, takes_read, node_after}
use Rattle.sg_protocol.specs.Past.{AnsweredCall, new_node, node_of}
use Rattle.sg_protocol.specs.Past as Past'
use Rattle.sg_protocol.specs.IsSchedule.{IsProgram}
use Rattle.sg_protocol.specs.Ranges.{IsCallInRange}
use Rattle.sg_protocol.specs.Representation.{Held, held, RepresentsWaiting, RepresentsAtTurn, nothing_kept, held_after}
use Rattle.sg_protocol.specs.Live.{IsSound, IsLive}
use Rattle.sg_protocol.specs.NodeStates.{NodeState, IsReachableLive, RepresentsLive, RepresentEach, RepresentsIf, RepresentsNode, has_sid, is_held_for, is_spent, unless_spent, still_held, begun, joined_by, replace_held, with_join, with_live, state_taking, state_after, NodeStatesRepresent}
use Rattle.sg_protocol.proofs.Progressing.{node_more}
use Rattle.sg_protocol.proofs.First.{programs_after}
use Rattle.sg_protocol.proofs.Live.{node_sound, all_sound}
use Rattle.sg_protocol.proofs.Reached.{Reached, ReachedIn, each_reached, node_reached}
use Rattle.sg_protocol.proofs.Representation.{held_more}
use Rattle.sg_model.proofs.Small.{some_weaker}

module _ (ps : List Program) where
  -- what is held is what the role of the session holds under its program
  abbrev HoldsLive : Held → Session → Type 0
  HoldsLive h s = IsSomeAnd (program_for ps (s.cast).graph s.role) (λ p. h ≡ held p.graph s)

  abbrev HoldEach : List Held → List Session → Type 0
  HoldEach [] [] = ⊤
  HoldEach [] (s ∷ ss) = ⊥
  HoldEach (h ∷ hs) [] = ⊥
  HoldEach (h ∷ hs) (s ∷ ss) = HoldsLive h s × HoldEach hs ss

  -- ---- from standing to holding, and back if the sessions are sound

  if_both : {A : Type 0} (P Q R : A → Type 0) (o : Option A) → ((x : A) → P x → Q x → R x) → IsSomeAnd o P → IsSomeAnd o Q → IsSomeAnd o R
  if_both P Q R None f h k = absurd h
  if_both P Q R (Some x) f h k = f x h k

  one_holds : (h : Held) (s : Session) (p : Program) → RepresentsAtTurn p.graph h s ⊎ RepresentsWaiting p.graph h s → h ≡ held p.graph s
  one_holds h s p (inl t) = t.holds
  one_holds h s p (inr w) = w.before.holds

  to_holds : (h : Held) (s : Session) → RepresentsLive ps h s → HoldsLive h s
  to_holds h s = some_weaker (λ p. RepresentsAtTurn p.graph h s ⊎ RepresentsWaiting p.graph h s) (λ p. h ≡ held p.graph s) (program_for ps (s.cast).graph s.role) (one_holds h s)

  each_holds : (hs : List Held) (ss : List Session) → RepresentEach ps hs ss → HoldEach hs ss
  each_holds [] [] e = tt
  each_holds [] (s ∷ ss) e = absurd e
  each_holds (h ∷ hs) [] e = absurd e
  each_holds (h ∷ hs) (s ∷ ss) e = (to_holds h s e.0, each_holds hs ss e.1)

  module _ (sha : Hash) where
    one_represents : (h : Held) (s : Session) (p : Program) → h ≡ held p.graph s → IsSound sha p s → RepresentsAtTurn p.graph h s ⊎ RepresentsWaiting p.graph h s
    one_represents h s p q so = elim (cases_Bool (at_turn p.graph s)) [
      | inl t ↦ inl (record { holds = q; ends = so.ends_at_turn t; turn = t })
      | inr w ↦ inr (record { before = record { holds = q; ends = so.ends_waiting w }; waits = w })
    ]

    each_represents : (hs : List Held) (ss : List Session) → HoldEach hs ss → AllByRecursion (IsLive sha ps) ss → RepresentEach ps hs ss
    each_represents [] [] e a = tt
    each_represents [] (s ∷ ss) e a = absurd e
    each_represents (h ∷ hs) [] e a = absurd e
    each_represents (h ∷ hs) (s ∷ ss) e a = (if_both (λ p. h ≡ held p.graph s) (λ p. IsSound sha p s) (λ p. RepresentsAtTurn p.graph h s ⊎ RepresentsWaiting p.graph h s) (program_for ps (s.cast).graph s.role) (one_represents h s) e.0 a.0, each_represents hs ss e.1 a.1)

  -- ---- the parts of what is held

  same_part : {X : Type 0} (F : Held → X) (G : Session → X) → ((p : Program) (s : Session) → F (held p.graph s) ≡ G s) → (h : Held) (s : Session) → HoldsLive h s → F h ≡ G s
  same_part F G e h s k = go (program_for ps (s.cast).graph s.role) k
    where
      go : (o : Option Program) → IsSomeAnd o (λ p. h ≡ held p.graph s) → F h ≡ G s
      go None k = absurd k
      go (Some p) k = ap F k ∙ e p s

  -- ---- lists

  hold-append : (hs : List Held) (ss : List Session) (ks : List Held) (ts : List Session) → HoldEach hs ss → HoldEach ks ts → HoldEach (hs ++ ks) (ss ++ ts)
  hold-append [] [] ks ts a b = b
  hold-append [] (s ∷ ss) ks ts a b = absurd a
  hold-append (h ∷ hs) [] ks ts a b = absurd a
  hold-append (h ∷ hs) (s ∷ ss) ks ts a b = (a.0, hold-append hs ss ks ts a.1 b)

  hold-replace : (which : Held → Bool) (which' : Session → Bool) (now : Held → List Held) (now' : Session → List Session) → ((h : Held) (s : Session) → HoldsLive h s → which h ≡ which' s) → ((h : Held) (s : Session) → HoldsLive h s → HoldEach (now h) (now' s))
      → (hs : List Held) (ss : List Session) → HoldEach hs ss → HoldEach (replace_held which now hs) (replace which' now' ss)
  hold-replace which which' now now' e f [] [] a = tt
  hold-replace which which' now now' e f [] (s ∷ ss) a = absurd a
  hold-replace which which' now now' e f (h ∷ hs) [] a = absurd a
  hold-replace which which' now now' e f (h ∷ hs) (s ∷ ss) a = elim (cases_Bool (which' s)) [
    | inl d ↦ rw (e h s a.0 ∙ d, d) (hold-append (now h) (now' s) hs ss (f h s a.0) a.1)
    | inr d ↦ rw (e h s a.0 ∙ d, d) (a.0, hold-replace which which' now now' e f hs ss a.1)
  ]

  found : (which : Held → Bool) (which' : Session → Bool) → ((h : Held) (s : Session) → HoldsLive h s → which h ≡ which' s) → (hs : List Held) (ss : List Session) → RepresentEach ps hs ss → RepresentsIf ps (find which hs) (find which' ss)
  found which which' e [] [] a = tt
  found which which' e [] (s ∷ ss) a = absurd a
  found which which' e (h ∷ hs) [] a = absurd a
  found which which' e (h ∷ hs) (s ∷ ss) a = elim (cases_Bool (which' s)) [
    | inl d ↦ rw (e h s (to_holds h s a.0) ∙ d, d) a.0
    | inr d ↦ rw (e h s (to_holds h s a.0) ∙ d, d) (found which which' e hs ss a.1)
  ]

  same_sid : (sid : List ℕ) (h : Held) (s : Session) → HoldsLive h s → has_sid sid h ≡ bytes_eq s.sid sid
  same_sid sid = same_part (has_sid sid) (λ s. bytes_eq s.sid sid) (λ p s. refl)

  same_for : (f : Frame) (h : Held) (s : Session) → HoldsLive h s → is_held_for f h ≡ is_for f s
  same_for f = same_part (is_held_for f) (is_for f) (λ p s. refl)

  -- ---- what goes on

  -- what is held of a session, unless it is over
  unless_over : (h : Held) (s : Session) (p : Program) → program_for ps (s.cast).graph s.role ≡ Some p → h ≡ held p.graph s → HoldEach (unless_spent p h) (still ps s)
  unless_over h s p q e = subst (λ z. HoldEach (unless_spent p z) (still ps s)) (sym e) (subst (λ b. HoldEach (unless_spent p (held p.graph s)) (if b then [] else s ∷ [])) (sym over) (go (is_spent p (held p.graph s))))
    where
      over : is_over ps s ≡ is_spent p (held p.graph s)
      over = ap (λ (o : Option Program). option_map_or (λ (p : Program). is_spent p (held p.graph s)) o true) q

      one : HoldsLive (held p.graph s) s
      one = subst (λ o. IsSomeAnd o (λ (p' : Program). held p.graph s ≡ held p'.graph s)) (sym q) refl

      go : (b : Bool) → HoldEach (if b then [] else held p.graph s ∷ []) (if b then [] else s ∷ [])
      go true = tt
      go false = (one, tt)

  no_program_over : (s : Session) → program_for ps (s.cast).graph s.role ≡ None → still ps s ≡ []
  no_program_over s q = ap (λ b. if b then [] else s ∷ []) (ap (λ (o : Option Program). option_map_or (λ (p : Program). is_spent p (held p.graph s)) o true) q)

  holds_still : (h : Held) (s : Session) (e : Exchange) → HoldsLive h s → HoldEach (still_held ps h e) (still ps (extended s e))
  holds_still h s e k = go (program_for ps (s.cast).graph s.role) refl k
    where
      go : (o : Option Program) → program_for ps (s.cast).graph s.role ≡ o → IsSomeAnd o (λ p. h ≡ held p.graph s) → HoldEach (still_held ps h e) (still ps (extended s e))
      go None q k = absurd k
      go (Some p) q k =
          let q' : program_for ps (h.cast).graph h.role ≡ Some p = ap (λ (z : Held). program_for ps (z.cast).graph z.role) k ∙ q in
          subst (λ o. HoldEach (option_map_or (λ p. unless_spent p (held_after p.graph h e)) o []) (still ps (extended s e))) (sym q')
          (unless_over (held_after p.graph h e) (extended s e) p q (ap (λ z. held_after p.graph z e) k ∙ sym (held_more p.graph s e)))

  holds_begun : (sid : List ℕ) (c : Cast) (r : ℕ) → HoldEach (begun ps sid c r) (still ps (new_session sid c r))
  holds_begun sid c r = go (program_for ps c.graph r) refl
    where
      go : (o : Option Program) → program_for ps c.graph r ≡ o → HoldEach (option_map_or (λ p. unless_spent p (record { sid = sid; cast = c; role = r; kept = nothing_kept p.graph })) o []) (still ps (new_session sid c r))
      go None q = subst (λ l. HoldEach [] l) (sym (no_program_over (new_session sid c r) q)) tt
      go (Some p) q = unless_over (record { sid = sid; cast = c; role = r; kept = nothing_kept p.graph }) (new_session sid c r) p q refl

  holds_joined : (f : Frame) (c : Cast) → HoldEach (joined_by ps f c) (still ps (extended (new_session f.sid c f.receiver) (Took f)))
  holds_joined f c = go (program_for ps c.graph f.receiver) refl
    where
      go : (o : Option Program) → program_for ps c.graph f.receiver ≡ o → HoldEach (option_map_or (λ p. unless_spent p (held_after p.graph (record { sid = f.sid; cast = c; role = f.receiver; kept = nothing_kept p.graph }) (Took f))) o []) (still ps (extended (new_session f.sid c f.receiver) (Took f)))
      go None q = subst (λ l. HoldEach [] l) (sym (no_program_over (extended (new_session f.sid c f.receiver) (Took f)) q)) tt
      go (Some p) q = unless_over (held_after p.graph (record { sid = f.sid; cast = c; role = f.receiver; kept = nothing_kept p.graph }) (Took f)) (extended (new_session f.sid c f.receiver) (Took f)) p q (sym (held_more p.graph (new_session f.sid c f.receiver) (Took f)))

-- ---- a node's state

record HoldsNode (st : NodeState) (n : Node) : Type 0 where
  keys : st.keys ≡ n.keys
  programs : st.programs ≡ n.programs
  joins : st.joins ≡ n.joins
  live : HoldEach n.programs st.live n.live

module _ (st : NodeState) (n : Node) (h : HoldsNode st n) where
  -- the first that passes goes on
  goes : (which : Held → Bool) (which' : Session → Bool) (now : List Program → Held → List Held) (now' : Session → List Session) → ((x : Held) (s : Session) → HoldsLive n.programs x s → which x ≡ which' s) → ((x : Held) (s : Session) → HoldsLive n.programs x s → HoldEach n.programs (now n.programs x) (now' s))
      → HoldsNode (with_live st which (now st.programs)) (goes_on n which' now')
  goes which which' now now' e f = record {
    keys = h.keys;
    programs = h.programs;
    joins = h.joins;
    live = subst (λ ps. HoldEach n.programs (replace_held which (now ps) st.live) (replace which' now' n.live)) (sym h.programs) (hold-replace n.programs which which' (now n.programs) now' e f st.live n.live h.live);
  }

  joined_ : (sid : List ℕ) (r : ℕ) (new : List Program → List Held) (s : Session) → s.sid ≡ sid → s.role ≡ r → HoldEach n.programs (new n.programs) (still n.programs s) → HoldsNode (with_join st sid r (new st.programs)) (joined n s)
  joined_ sid r new s a b k = record {
    keys = h.keys;
    programs = h.programs;
    joins = ap (λ l. l ++ (sid, r) ∷ []) h.joins ∙ ap (λ z. n.joins ++ (z, r) ∷ []) (sym a) ∙ ap (λ z. n.joins ++ (s.sid, z) ∷ []) (sym b);
    live = hold-append n.programs st.live n.live (new st.programs) (still n.programs s) h.live (subst (λ ps. HoldEach n.programs (new ps) (still n.programs s)) (sym h.programs) k);
  }

  taking : (r : Result Frame ℕ) → HoldsNode (state_taking st r) (takes_read n r)
  taking (Err at) = h
  taking (Ok f) = go f.join
    where
      go : (o : Option Cast) → HoldsNode (option_map_or (λ c. with_join st f.sid f.receiver (joined_by st.programs f c)) o (with_live st (is_held_for f) (λ h. still_held st.programs h (Took f))))
          (option_map_or (λ c. joined n (extended (new_session f.sid c f.receiver) (Took f))) o (goes_on n (is_for f) (λ s. still n.programs (extended s (Took f)))))
      go None = goes (is_held_for f) (is_for f) (λ ps x. still_held ps x (Took f)) (λ s. still n.programs (extended s (Took f))) (same_for n.programs f) (λ x s k. holds_still n.programs x s (Took f) k)
      go (Some c) = joined_ f.sid f.receiver (λ ps. joined_by ps f c) (extended (new_session f.sid c f.receiver) (Took f)) refl refl (holds_joined n.programs f c)

  giving : (sid : List ℕ) (values : Map Value) (confs : List (List ℕ)) (o : Option Item) → HoldsNode (with_live st (has_sid sid) (λ h. option_map_or (λ i. still_held st.programs h (Gave i (openings_for values confs))) o (h ∷ [])))
      (goes_on n (λ s. bytes_eq s.sid sid) (λ s. option_map_or (λ i. still n.programs (extended s (Gave i (openings_for values confs)))) o (s ∷ [])))
  giving sid values confs o = goes (has_sid sid) (λ s. bytes_eq s.sid sid) (λ ps h. option_map_or (λ i. still_held ps h (Gave i (openings_for values confs))) o (h ∷ [])) (λ s. option_map_or (λ i. still n.programs (extended s (Gave i (openings_for values confs)))) o (s ∷ []))
      (same_sid n.programs sid) (λ x s k. go o x s k)
    where
      go : (o : Option Item) (x : Held) (s : Session) → HoldsLive n.programs x s → HoldEach n.programs (option_map_or (λ i. still_held n.programs x (Gave i (openings_for values confs))) o (x ∷ [])) (option_map_or (λ i. still n.programs (extended s (Gave i (openings_for values confs)))) o (s ∷ []))
      go None x s k = (k, tt)
      go (Some i) x s k = holds_still n.programs x s (Gave i (openings_for values confs)) k

  -- whatever the answer
  holds_after : (c : Call) (a : Answer) → HoldsNode (state_after st c a) (node_after n c a)
  holds_after (Start c) (Happened (Started sid r)) = joined_ sid r (λ ps. begun ps sid c r) (new_session sid c r) refl refl (holds_begun n.programs sid c r)
  holds_after (Start c) other = h
  holds_after (Act sid label values confs) (Sends e to f) = giving sid values confs (last f.items)
  holds_after (Act sid label values confs) other = h
  holds_after (Abandon sid) Abandoned = goes (has_sid sid) (λ s. bytes_eq s.sid sid) (λ ps h. []) (λ s. []) (same_sid n.programs sid) (λ x s k. tt)
  holds_after (Abandon sid) other = h
  holds_after (Deliver bytes) (Happened (Received sid r label time values joins)) = taking (read bytes)
  holds_after (Deliver bytes) other = h

after_call : (sha : Hash) → IsHash sha → (st : NodeState) (n : Node) (c : Call) → AllByRecursion (IsProgram sha) n.programs → AllByRecursion (IsLive sha n.programs) n.live → IsCallInRange c → RepresentsNode st n → RepresentsNode (state_after st c (answer sha n c)) (node_after n c (answer sha n c))
after_call sha hash st n c programs live good s =
    let a : Answer = answer sha n c in
    let h : HoldsNode st n = record { keys = s.keys; programs = s.programs; joins = s.joins; live = each_holds n.programs st.live n.live s.live } in
    let r : HoldsNode (state_after st c a) (node_after n c a) = holds_after st n h c a in
    let same : (node_after n c a).programs ≡ n.programs = programs_after n c a in
    let sound : AllByRecursion (IsLive sha n.programs) (node_after n c a).live = node_sound sha hash n programs live c good in
    record {
      keys = r.keys;
      programs = r.programs;
      joins = r.joins;
      live = each_represents (node_after n c a).programs sha (state_after st c a).live (node_after n c a).live r.live (subst (λ ps. AllByRecursion (IsLive sha ps) (node_after n c a).live) (sym same) sound);
    }

-- the same, by what stands behind the things held
module _ (sha : Hash) (hash : IsHash sha) (ps : List Program) where
  one_represents' : (h : Held) (s : Session) (p : Program) → h ≡ held p.graph s → Reached sha hash p s → RepresentsAtTurn p.graph h s ⊎ RepresentsWaiting p.graph h s
  one_represents' h s p q (inl t) = inl (subst (λ z. RepresentsAtTurn p.graph z s) (sym q) t.0)
  one_represents' h s p q (inr w) = inr (subst (λ z. RepresentsWaiting p.graph z s) (sym q) w.0)

  each_represents' : (hs : List Held) (ss : List Session) → HoldEach ps hs ss → AllByRecursion (ReachedIn sha hash ps) ss → RepresentEach ps hs ss
  each_represents' [] [] e a = tt
  each_represents' [] (s ∷ ss) e a = absurd e
  each_represents' (h ∷ hs) [] e a = absurd e
  each_represents' (h ∷ hs) (s ∷ ss) e a = (
    if_both ps (λ p. h ≡ held p.graph s) (λ p. Reached sha hash p s) (λ p. RepresentsAtTurn p.graph h s ⊎ RepresentsWaiting p.graph h s) (program_for ps (s.cast).graph s.role) (one_represents' h s) e.0 a.0,
    each_represents' hs ss e.1 a.1,
  )

after_reachable : (sha : Hash) → IsHash sha → (st : NodeState) (n : Node) (c : Call) → AllByRecursion (IsProgram sha) n.programs → AllByRecursion (IsReachableLive sha n.programs) st.live → IsCallInRange c → RepresentsNode st n → RepresentsNode (state_after st c (answer sha n c)) (node_after n c (answer sha n c))
after_reachable sha hash st n c programs reachable good s =
    let a : Answer = answer sha n c in
    let h : HoldsNode st n = record { keys = s.keys; programs = s.programs; joins = s.joins; live = each_holds n.programs st.live n.live s.live } in
    let r : HoldsNode (state_after st c a) (node_after n c a) = holds_after st n h c a in
    let same : (node_after n c a).programs ≡ n.programs = programs_after n c a in
    let reached : AllByRecursion (ReachedIn sha hash n.programs) (node_after n c a).live = node_reached sha hash n programs (each_reached sha hash n.programs st.live n.live s.live reachable) c good in
    record {
      keys = r.keys;
      programs = r.programs;
      joins = r.joins;
      live = each_represents' sha hash (node_after n c a).programs (state_after st c a).live (node_after n c a).live r.live (subst (λ ps. AllByRecursion (ReachedIn sha hash ps) (node_after n c a).live) (sym same) reached);
    }

programs_past : (n : Node) (cs : List AnsweredCall) → (Past'.node_after_all n cs).programs ≡ n.programs
programs_past n [] = refl
programs_past n (c ∷ cs) = programs_past (node_after n c.call c.answer) cs ∙ programs_after n c.call c.answer

pub node_states_represent : (sha : Hash) → IsHash sha → NodeStatesRepresent sha
node_states_represent sha hash = record {
  is_new = λ keys programs first. record { keys = refl; programs = refl; joins = refl; live = tt };
  finds_session = λ ps hs ss sid a. found ps (has_sid sid) (λ s. bytes_eq s.sid sid) (same_sid ps sid) hs ss a;
  finds_for_frame = λ ps hs ss f a. found ps (is_held_for f) (is_for f) (same_for ps f) hs ss a;
  after_call = λ st n c programs live good s. after_call sha hash st n c (recursion_from_All (IsProgram sha) n.programs programs) (recursion_from_All (IsLive sha n.programs) n.live live) good s;
  after_reachable = λ st n c programs reachable good s. after_reachable sha hash st n c (recursion_from_All (IsProgram sha) n.programs programs) (recursion_from_All (IsReachableLive sha n.programs) st.live reachable) good s;
  after_past = λ st past c programs good its now s.
      let first : Node = new_node past.keys past.programs past.first in
      let same : (node_of past).programs ≡ past.programs = programs_past first past.calls in
      let ip : AllByRecursion (IsProgram sha) past.programs = recursion_from_All (IsProgram sha) past.programs programs in
      let live : AllByRecursion (IsLive sha past.programs) (node_of past).live = all_sound sha hash past.programs ip first refl tt past.calls (recursion_from_All (λ (c : AnsweredCall). IsCallInRange c.call) past.calls good) its in
      subst (RepresentsNode (state_after st c (answer sha (node_of past) c))) (sym (node_more first past.calls (record { call = c; answer = answer sha (node_of past) c })))
      (after_call sha hash st (node_of past) c (subst (AllByRecursion (IsProgram sha)) (sym same) ip) (subst (λ ps. AllByRecursion (IsLive sha ps) (node_of past).live) (sym same) live) now s);
}
