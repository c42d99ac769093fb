-- The frames that a play sends are of the joins that its calls made.
use Rattle.std.specs.Prelude.{◌≡◌, ℕ, ◌+◌, Bool, true, cond, drop, List, [], ◌∷◌, ◌++◌, find, refl, Option, Some, None, bytes_eq, Result, Ok, Err, All, Contains}
use Rattle.std.specs.List.{AllByRecursion, list_all}
use Rattle.std.specs.Option.{option_map_or}
use Rattle.std.proofs.Common.{ap, sym, ◌∙◌, subst, inl, inr, append_assoc}
use Rattle.std.proofs.lemmas.Bool.{cases_Bool}
use Rattle.std.proofs.lemmas.List.{append-nil}
use Rattle.std.proofs.lemmas.List.Concat.{flat_map-append}
use Rattle.std.proofs.lemmas.List.Elements.{All-append, All-cons, All-head, All-nil, All-tail, All-weaker, Contains-append_left, recursion_from_All}
use Rattle.sg_base.specs.declared.address.Addr.{Addr}
use Rattle.sg_cache.proofs.SameJoin.{any_of_parts}
use Rattle.sg_keys.specs.Names.{addr_of}
use Rattle.sg_ledger.specs.Format.{Join}
use Rattle.sg_model.specs.Last.{Map}
use Rattle.sg_model.specs.Lists.{first_some}
use Rattle.sg_model.specs.Names.{Name}
use Rattle.sg_model.specs.Values.{Value}
use Rattle.sg_model.proofs.Small.{and_left, and_right}
use Rattle.sg_node.specs.Answers.{IsAnsweredPast}
use Rattle.sg_play.specs.Played.{Play, answer_in, called, step_in}
use Rattle.sg_play.specs.Steps.{Step, frames_in, frames_of}
use Rattle.sg_protocol.proofs.Progressing.{node_more}
use Rattle.sg_protocol.proofs.Joins.{Owns, owns_after}
use Rattle.sg_protocol.specs.Acting.{acted, answer, openings_for, rows_of_act, rows_of_start, sent, started}
use Rattle.sg_protocol.specs.Calls as Protocol
use Rattle.sg_protocol.specs.Calls.{Event, Started, Sent, Received, Call, Answer, Start, Act, Abandon, Deliver, Happened, Sends, NotActed, ActFault, Refusal, StartFault}
use Rattle.sg_protocol.specs.Frame.{Cast, Frame}
use Rattle.sg_model.specs.Shape.{receiver}
use Rattle.sg_protocol.specs.Graph.{shape}
use Rattle.sg_protocol.specs.Keyring.{Program}
use Rattle.sg_protocol.specs.Node.{Node, has_joined, is_for, program_for, session_with, starter}
use Rattle.sg_protocol.specs.NodeAfter.{goes_on, joined, node_after, still, takes_read}
use Rattle.sg_protocol.specs.Past.{AreAnswers, AnsweredCall, Past, new_node, node_after_all, node_of}
use Rattle.sg_protocol.specs.Ranges.{IsCallInRange}
use Rattle.sg_protocol.specs.Reading.{read}
use Rattle.sg_protocol.specs.Session.{Session, Took, extended, new_session, principal, time}
use Rattle.sg_protocol.specs.Sending.{frame_sent}
use Rattle.sg_protocol.specs.Spelling.{spelling}
use Rattle.sg_protocol.specs.Texts.{Hash, real, session_id}
use Rattle.sg_protocol.specs.Verdict.{decided, receipt, rows, verdict_on}
use Rattle.sg_joins.specs.Joins.{join_in, joins_made, with_join}
use Rattle.sg_joins.specs.Joins.{IsOfJoin}
use Rattle.sg_keep.specs.KeptRuns.{AreOfJoins}
use Rattle.sg_joins.proofs.NewJoins.{IsOfTurn, any_call, turns_join_none}

-- ---- what a call adds to the joins, whatever these are

abbrev added_by : Frame → Option Cast → List Join
added_by f None = []
added_by f (Some c) = (f.sid, f.receiver) ∷ []

abbrev added_read : Result Frame ℕ → List Join
added_read (Err at) = []
added_read (Ok f) = added_by f f.join

abbrev added : Call → Answer → List Join
added (Start c) (Happened (Started sid r)) = (sid, r) ∷ []
added (Deliver bytes) (Happened (Received sid r label time values joins)) = added_read (read bytes)
added call other = []

adds_by : (n : Node) (f : Frame) (o : Option Cast) → (option_map_or (λ c. joined n (extended (new_session f.sid c f.receiver) (Took f))) o (goes_on n (is_for f) (λ s. still n.programs (extended s (Took f))))).joins ≡ n.joins ++ added_by f o
adds_by n f None = sym (append-nil n.joins)
adds_by n f (Some c) = refl

adds_read : (n : Node) (r : Result Frame ℕ) → (takes_read n r).joins ≡ n.joins ++ added_read r
adds_read n (Err at) = sym (append-nil n.joins)
adds_read n (Ok f) = adds_by n f f.join

adds : (n : Node) (c : Call) (a : Answer) → (node_after n c a).joins ≡ n.joins ++ added c a
adds n (Start c) (Happened (Started sid r)) = refl
adds n (Deliver bytes) (Happened (Received sid r label time values joins)) = adds_read n (read bytes)
adds n (Act sid label values confounders) Protocol.Abandoned = sym (append-nil n.joins)
adds n (Abandon sid) Protocol.Abandoned = sym (append-nil n.joins)
adds n call other = sym (append-nil n.joins)

-- a list behind others is the same
same_behind : (xs ys zs : List Join) → xs ++ ys ≡ xs ++ zs → ys ≡ zs
same_behind [] ys zs e = e
same_behind (x ∷ xs) ys zs e = same_behind xs ys zs (ap (λ (l : List Join). drop 1 l) e)

abbrev one : Option Join → List Join
one o = option_map_or (λ (j : Join). j ∷ []) o []

with_one : (joins : List Join) (o : Option Join) → with_join joins o ≡ joins ++ one o
with_one joins None = sym (append-nil joins)
with_one joins (Some j) = refl

-- an answer adds what it says
added_is : (sha : Hash) (n : Node) (c : Call) → IsCallInRange c → added c (answer sha n c) ≡ one (join_in (answer sha n c))
added_is sha n c range = same_behind n.joins (added c (answer sha n c)) (one (join_in (answer sha n c))) (sym (adds n c (answer sha n c)) ∙ (any_call sha n c range).0 ∙ with_one n.joins (join_in (answer sha n c)))

-- ---- a node that forgets what it was made with

abbrev with_joins_only : Node → List Join → Node
with_joins_only n joins = record n { joins = joins }

same_live : (n : Node) (joins : List Join) (c : Call) (a : Answer) → (node_after (with_joins_only n joins) c a).live ≡ (node_after n c a).live
same_live n joins (Start c) (Happened (Started sid r)) = refl
same_live n joins (Deliver bytes) (Happened (Received sid r label time values j)) = by_read (read bytes)
  where
    by_cast : (f : Frame) (o : Option Cast) → (option_map_or (λ c. joined (with_joins_only n joins) (extended (new_session f.sid c f.receiver) (Took f))) o (goes_on (with_joins_only n joins) (is_for f) (λ s. still n.programs (extended s (Took f))))).live
        ≡ (option_map_or (λ c. joined n (extended (new_session f.sid c f.receiver) (Took f))) o (goes_on n (is_for f) (λ s. still n.programs (extended s (Took f))))).live
    by_cast f None = refl
    by_cast f (Some c) = refl

    by_read : (r : Result Frame ℕ) → (takes_read (with_joins_only n joins) r).live ≡ (takes_read n r).live
    by_read (Err at) = refl
    by_read (Ok f) = by_cast f f.join
same_live n joins (Act sid label values confounders) Protocol.Abandoned = refl
same_live n joins (Abandon sid) Protocol.Abandoned = refl
same_live n joins call other = refl

-- the pairs of the live sessions are among the joins that were made
owned_by : (n : Node) (made : List Join) (c : Call) (a : Answer) → added c a ≡ one (join_in a) → Owns made n.live → Owns (made ++ one (join_in a)) (node_after n c a).live
owned_by n made c a is h =
    let m = with_joins_only n made in
    subst (λ (js : List Join). Owns js (node_after n c a).live) (adds m c a ∙ ap (λ l. made ++ l) is)
    (subst (λ (ss : List Session). Owns (node_after m c a).joins ss) (same_live n made c a) (owns_after m c a h))

owned_on : (sha : Hash) (n : Node) (made : List Join) (c : Call) → IsCallInRange c → Owns made n.live → Owns (made ++ one (join_in (answer sha n c))) (node_after n c (answer sha n c)).live
owned_on sha n made c range h = owned_by n made c (answer sha n c) (added_is sha n c range) h

added_none : (c : Call) (a : Answer) → IsOfTurn c → added c a ≡ []
added_none (Start c) a h = absurd h
added_none (Act sid label values confounders) a h = refl
added_none (Abandon sid) a h = refl
added_none (Deliver bytes) a h = absurd h

-- ---- a frame

found : {A : Type 0} (p q : A → Bool) (xs : List A) (x : A) → find p xs ≡ Some x → list_all q xs ≡ true → q x ≡ true
found p q [] x e h = cc
found p q (y ∷ ys) x e h = elim (cases_Bool (p y)) [
  | inl f ↦ subst (λ z. q z ≡ true) (some_same y x (subst (λ b. cond b (Some y) (find p ys) ≡ Some x) f e)) (and_left (q y) (list_all q ys) h)
  | inr f ↦ found p q ys x (subst (λ b. cond b (Some y) (find p ys) ≡ Some x) f e) (and_right (q y) (list_all q ys) h)
]
  where
    some_same : {A : Type 0} (a b : A) → Some a ≡ Some b → a ≡ b
    some_same a b h = cc

frame_same : (a e : Event) (b to : Name) (g f : Frame) → Sends a b g ≡ Sends e to f → g ≡ f
frame_same a e b to g f h = cc

module _ (sha : Hash) (n : Node) (made : List Join) (h : Owns made n.live) (e : Event) (to : Name) (f : Frame) where
  not_by_start : (c : Cast) (p : Program) (o : Option StartFault) → started (session_id sha c) p.role o ≡ Sends e to f → ⊥
  not_by_start c p None is = cc
  not_by_start c p (Some fault) is = cc

  not_by_starter : (c : Cast) (o : Option Program) → option_map_or (λ p. started (session_id sha c) p.role (first_some (rows_of_start n p (session_id sha c) c))) o (Protocol.NotStarted StartFault.UnknownGraph) ≡ Sends e to f → ⊥
  not_by_starter c None is = cc
  not_by_starter c (Some p) is = not_by_start c p (first_some (rows_of_start n p (session_id sha c) c)) is

  not_by_abandon : (o : Option Session) → option_map_or (λ s. Protocol.Abandoned) o Protocol.NotAbandoned ≡ Sends e to f → ⊥
  not_by_abandon None is = cc
  not_by_abandon (Some s) is = cc

  not_by_rows : (g : Frame) (o : Option Refusal) → decided (receipt g) o ≡ Sends e to f → ⊥
  not_by_rows g None is = cc
  not_by_rows g (Some why) is = cc

  not_by_read : (r : Result Frame ℕ) → verdict_on sha n r ≡ Sends e to f → ⊥
  not_by_read (Err at) is = cc
  not_by_read (Ok g) is = not_by_rows g (first_some (rows sha n g)) is

  module _ (sid : List ℕ) (label : ℕ) (values : Map Value) (confounders : List (List ℕ)) where
    by_rows : (p : Program) (s : Session) → has_joined made s.sid s.role ≡ true → (o : Option ActFault) → acted (sent sha n.keys p s label values confounders) o ≡ Sends e to f → has_joined made f.sid f.sender ≡ true
    by_rows p s j None is = subst (λ (g : Frame). has_joined made g.sid g.sender ≡ true)
        (frame_same (Sent s.sid s.role label (time s + 1) values) e (principal s.cast (receiver (shape p.graph) label)) to (frame_sent sha n.keys p s label (openings_for values confounders)) f is) j
    by_rows p s j (Some fault) is = absurd (cc)

    by_program : (s : Session) → has_joined made s.sid s.role ≡ true → (o : Option Program) → option_map_or (λ p. acted (sent sha n.keys p s label values confounders) (first_some (rows_of_act p s label values))) o (NotActed ActFault.UnknownSession) ≡ Sends e to f → has_joined made f.sid f.sender ≡ true
    by_program s j None is = absurd (cc)
    by_program s j (Some p) is = by_rows p s j (first_some (rows_of_act p s label values)) is

    by_session : (o : Option Session) → session_with n.live sid ≡ o →
        option_map_or (λ s. option_map_or (λ p. acted (sent sha n.keys p s label values confounders) (first_some (rows_of_act p s label values))) (program_for n.programs s.cast.graph s.role) (NotActed ActFault.UnknownSession)) o (NotActed ActFault.UnknownSession) ≡ Sends e to f →
        has_joined made f.sid f.sender ≡ true
    by_session None there is = absurd (cc)
    by_session (Some s) there is = by_program s (found (λ x. bytes_eq x.sid sid) (λ s. has_joined made s.sid s.role) n.live s there h) (program_for n.programs s.cast.graph s.role) is

  -- the session of a frame that is sent is live, and so its pair was joined
  sent_is_owned : (c : Call) → answer sha n c ≡ Sends e to f → has_joined made f.sid f.sender ≡ true
  sent_is_owned (Start c) is = absurd (not_by_starter c (starter n.programs c.graph) is)
  sent_is_owned (Act sid label values confounders) is = by_session sid label values confounders (session_with n.live sid) refl is
  sent_is_owned (Abandon sid) is = absurd (not_by_abandon (session_with n.live sid) is)
  sent_is_owned (Deliver bytes) is = absurd (not_by_read (read bytes) is)

-- ---- a past

abbrev InRange : List AnsweredCall → Type 0
InRange cs = AllByRecursion (λ (c : AnsweredCall). IsCallInRange c.call) cs

-- the joins that more calls made
pub made_by : (cs ds : List AnsweredCall) → joins_made (cs ++ ds) ≡ joins_made cs ++ joins_made ds
made_by cs ds = flat_map-append (λ (x : AnsweredCall). one (join_in x.answer)) cs ds

made_with : (cs : List AnsweredCall) (c : AnsweredCall) → joins_made (cs ++ c ∷ []) ≡ joins_made cs ++ one (join_in c.answer)
made_with cs c = made_by cs (c ∷ []) ∙ ap (λ (js : List Join). joins_made cs ++ js) (append-nil (one (join_in c.answer)))

owned_after_all : (sha : Hash) (n : Node) (made : List Join) (cs : List AnsweredCall) → Owns made n.live → InRange cs → AreAnswers sha n cs → Owns (made ++ joins_made cs) (node_after_all n cs).live
owned_after_all sha n made [] h r a = subst (λ (js : List Join). Owns js n.live) (sym (append-nil made)) h
owned_after_all sha n made (c ∷ cs) h r a =
    let next = subst (λ (x : Answer). Owns (made ++ one (join_in x)) (node_after n c.call x).live) (sym a.0) (owned_on sha n made c.call r.0 h) in
    subst (λ (js : List Join). Owns js (node_after_all (node_after n c.call c.answer) cs).live) (append_assoc made (one (join_in c.answer)) (joins_made cs))
    (owned_after_all sha (node_after n c.call c.answer) (made ++ one (join_in c.answer)) cs next r.1 a.1)

-- each live session of a node was joined by its calls
pub owned_past : (past : Past) → IsAnsweredPast past → Owns (joins_made past.calls) (node_of past).live
owned_past past reported =
    owned_after_all real (new_node past.keys past.programs past.first) [] past.calls refl (recursion_from_All (λ (c : AnsweredCall). IsCallInRange c.call) past.calls reported.calls) reported.answers

-- ---- the frames of a play

-- each live session was joined by the calls of the play, and so was that of each frame that was sent
pub record OwnsAll (p : Play) : Type 0 where
  pub live : Owns (joins_made p.past.calls) (node_of p.past).live
  pub sent : AreOfJoins (joins_made p.past.calls) (frames_of p.steps)

-- a prefix of a list of which it holds of each
all_prefix : {X : Type 0} (P : X → Type 0) (xs ys : List X) → All P (xs ++ ys) → All P xs
all_prefix P [] ys h = All-nil P
all_prefix P (x ∷ xs) ys h = All-cons P x xs (All-head P x (xs ++ ys) h) (all_prefix P xs ys (All-tail P x (xs ++ ys) h))

-- a frame beside an address is so
abbrev IsOf : List Join → (Addr × List ℕ) → Type 0
IsOf js x = IsOfJoin js x.1

-- none is not
pub none_sent : (js : List Join) → AreOfJoins js []
none_sent js = All-nil (IsOf js)

-- with more joins
pub of_more : (js ks : List Join) (frames : List (Addr × List ℕ)) → AreOfJoins js frames → AreOfJoins (js ++ ks) frames
of_more js ks frames h = All-weaker (IsOf js) (IsOf (js ++ ks)) (λ x k. (k.0, k.1, Contains-append_left js ks (k.0.sid, k.0.sender) k.2)) frames h

-- of the first frames
pub of_prefix : (js : List Join) (frames others : List (Addr × List ℕ)) → AreOfJoins js (frames ++ others) → AreOfJoins js frames
of_prefix js frames others h = all_prefix (IsOf js) frames others h

pub of_first_steps : (js : List Join) (ss prefix rest : List Step) → ss ≡ prefix ++ rest → AreOfJoins js (frames_of ss) → AreOfJoins js (frames_of prefix)
of_first_steps js ss prefix rest e h = of_prefix js (frames_of prefix) (frames_of rest) (subst (AreOfJoins js) (ap frames_of e ∙ flat_map-append (λ (s : Step). s.frames) prefix rest) h)

pub of_step_more : (js : List Join) (ss prefix rest : List Step) (s : Step) → ss ≡ prefix ++ s ∷ rest → AreOfJoins js (frames_of ss) → AreOfJoins js (frames_of prefix ++ s.frames)
of_step_more js ss prefix rest s e h =
    of_prefix js (frames_of prefix ++ s.frames) (frames_of rest)
    (subst (AreOfJoins js) (ap frames_of e ∙ flat_map-append (λ (x : Step). x.frames) prefix (s ∷ rest) ∙ sym (append_assoc (frames_of prefix) s.frames (frames_of rest))) h)

-- a call more
module _ (p : Play) (c : Call) (h : OwnsAll p) where
  frames_at : (f : Frame) (o : Option Addr) → Contains (joins_made p.past.calls) (f.sid, f.sender) → AreOfJoins (joins_made p.past.calls) (option_map_or (λ at. (at, spelling f) ∷ []) o [])
  frames_at f None j = none_sent (joins_made p.past.calls)
  frames_at f (Some at) j = All-cons (IsOf (joins_made p.past.calls)) (at, spelling f) [] (f, refl, j) (none_sent (joins_made p.past.calls))

  frames_by : (a : Answer) → answer_in p c ≡ a → AreOfJoins (joins_made p.past.calls) (frames_in p.past.keys a)
  frames_by (Sends e to f) is = frames_at f (addr_of p.past.keys to) ((any_of_parts (joins_made p.past.calls) f.sid f.sender).0 (sent_is_owned real (node_of p.past) (joins_made p.past.calls) h.live e to f c is))
  frames_by (Happened e) is = none_sent (joins_made p.past.calls)
  frames_by Protocol.Abandoned is = none_sent (joins_made p.past.calls)
  frames_by (Protocol.NotStarted x) is = none_sent (joins_made p.past.calls)
  frames_by (NotActed x) is = none_sent (joins_made p.past.calls)
  frames_by Protocol.NotAbandoned is = none_sent (joins_made p.past.calls)
  frames_by (Protocol.NotDelivered x) is = none_sent (joins_made p.past.calls)

  -- all frames with those of the call
  pub sent_more : AreOfJoins (joins_made (called p c).past.calls) (frames_of (called p c).steps)
  sent_more =
      subst (λ (js : List Join). AreOfJoins js (frames_of (called p c).steps)) (sym (made_with p.past.calls (record { call = c; answer = answer_in p c })))
      (of_more (joins_made p.past.calls) (one (join_in (answer_in p c))) (frames_of (called p c).steps)
      (subst (AreOfJoins (joins_made p.past.calls)) (sym (flat_map-append (λ (s : Step). s.frames) p.steps (step_in p c ∷ [])))
      (All-append (IsOf (joins_made p.past.calls)) (frames_of p.steps) (frames_of (step_in p c ∷ [])) h.sent
      (subst (AreOfJoins (joins_made p.past.calls)) (sym (append-nil (frames_in p.past.keys (answer_in p c)))) (frames_by (answer_in p c) refl)))))

  -- after a call that joins nothing, as an act or an abandonment
  pub owns_on : IsOfTurn c → OwnsAll (called p c)
  owns_on turn =
      let made = joins_made p.past.calls in
      let a = answer_in p c in
      record {
        live = subst (λ (m : Node). Owns (joins_made (called p c).past.calls) m.live) (sym (node_more (new_node p.past.keys p.past.programs p.past.first) p.past.calls (record { call = c; answer = a })))
            (subst (λ (js : List Join). Owns js (node_after (node_of p.past) c a).live) (sym (made_with p.past.calls (record { call = c; answer = a })))
            (owned_by (node_of p.past) made c a (added_none c a turn ∙ sym (ap one (turns_join_none real (node_of p.past) c turn))) h.live));
        sent = sent_more;
      }
