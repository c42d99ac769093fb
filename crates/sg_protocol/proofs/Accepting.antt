-- A frame that is awaited is accepted, and a session is never stuck.
use Rattle.std.specs.Prelude.{◌≡◌, ◌≢◌, ℕ, zero, suc, ◌<◌, ◌≤◌, ◌==◌, nat_lt, nat_le, ◌||◌, ◌&&◌, ◌⊎◌, Bool, true, false, not, if◌then◌else◌, List, [], ◌∷◌, ◌++◌, map, filter, find, length, get_or, bytes_eq, refl, Option, Some, None, option_map, option_and_then, is_some, IsTrue, All, Contains}
use Rattle.std.specs.List.{AllByRecursion, list_any}
use Rattle.std.specs.Option.{option_map_or}
use Rattle.std.proofs.Common.{sym, ◌∙◌, ap, subst, inl, inr, arith}
use Rattle.std.proofs.lemmas.Bool.{cases_Bool, eqb-true, eq-eqb, ne_eqb, and_from, lt-ltb, not-true}
use Rattle.std.proofs.lemmas.Bool.Decides.{nat_tests}
use Rattle.std.proofs.lemmas.List.Elements.{All-head, All-tail}
use Rattle.sg_model.specs.Last.{Map, has, last, after_last}
use Rattle.sg_model.specs.Lists.{all_differ, below, first_some}
use Rattle.sg_model.specs.Shape.{Arrow, role_at, source, sender, receiver}
use Rattle.sg_model.specs.Limits.{most_joins, most_live}
use Rattle.sg_model.specs.Names.{Name}
use Rattle.sg_model.specs.Values.{Opening, Value}
use Rattle.sg_model.proofs.Small.{clash, same_bytes, bytes_same, first_false, second_false, right_empty, not_empty}
use Rattle.sg_model.proofs.Members.{In, in_from_Contains, contains_from_in, all_in, in_split, split_in, rec_in}
use Rattle.sg_model.proofs.Finding.{found_in, find-filter, in_any}
use Rattle.sg_protocol.specs.Graph.{Graph, Edge, IsGraph, shape, reads}
use Rattle.sg_protocol.specs.Evidence.{View, IsView, IsViewTable, same_origin}
use Rattle.sg_protocol.specs.Targets.{IsTargetTable}
use Rattle.sg_protocol.specs.Frame.{Cast, Frame, Item}
use Rattle.sg_protocol.specs.Spelling.{spelling}
use Rattle.sg_protocol.specs.Reading.{read}
use Rattle.sg_protocol.specs.Texts.{Hash, IsHash, graph_digest, session_id}
use Rattle.sg_protocol.specs.Keyring.{Keyring, Program, key_of, targets_of, may_return}
use Rattle.sg_protocol.specs.Session.{Session, principal, origin, place, time, at_turn, new_session}
use Rattle.sg_protocol.specs.Calls.{Refusal, BadCast, UnknownPeer, BadSession, Joined, CacheFull, SessionsFull, UnknownSession, NotWaiting, Event, Call, Start, Act, Abandon, Deliver, Happened, Sends, Abandoned, NotStarted, NotActed, NotAbandoned, NotDelivered, ActFault, NotYourTurn, Send, NoSuchLabel, BadValues, TimeSpent}
use Rattle.sg_protocol.specs.Node.{Node, is_for, is_cast, stranger, session_with, session_for, program_for, starter, has_joined}
use Rattle.sg_protocol.specs.NodeAfter.{is_over}
use Rattle.sg_protocol.specs.Acting.{answer, acted, sent, is_bad, leaves, rows_of_act}
use Rattle.sg_protocol.specs.Verdict.{row, seen, rows_of_session, rows, receipt, decided, verdict_on}
use Rattle.sg_protocol.specs.Past.{Past, node_of, new_node}
use Rattle.sg_protocol.specs.Premises.{Premises}
use Rattle.sg_protocol.specs.Receipts.{IsTaken, WasSent}
use Rattle.sg_protocol.specs.LastSteps.{honest_items}
use Rattle.sg_law.proofs.Lists.{last-append}
use Rattle.sg_protocol.proofs.ReadLaws.{read-spelling}
use Rattle.sg_protocol.proofs.Finding.{one_index}
use Rattle.sg_protocol.proofs.OneWalk as W
use Rattle.sg_protocol.proofs.Reduced.{by_role, has-both, reduced}
use Rattle.sg_protocol.proofs.Relay.{StepsOk, RelayOk, OpensAt, relay_new, at_end}
use Rattle.sg_protocol.proofs.Rows.{rows_none, viewed}
use Rattle.sg_protocol.proofs.Splits.{role_small}
use Rattle.sg_protocol.proofs.Keys as Keys'
use Rattle.sg_protocol.proofs.OneTable.{one_table, reads_small}
use Rattle.sg_protocol.specs.IsSchedule.{IsProgram}
use Rattle.sg_protocol.specs.Run.{events_of, cast_of_session}
use Rattle.sg_protocol.specs.Completeness.{IsSentTo, HadAnswer}
use Rattle.sg_protocol.specs.GoesOn.{place_in, IsAtEnd, WasAbandoned, CanAct}
use Rattle.sg_protocol.specs.World.{World, Logged, Outcome, Answered, Crafted, NoFrame, keyring_of, past_of}
use Rattle.sg_protocol.specs.Schedule.{Schedule, PairKey, is_honest, honest_role, graph_with}
use Rattle.sg_protocol.proofs.Entries.{Roles}
use Rattle.sg_protocol.proofs.Ends.{after_all}
use Rattle.sg_protocol.proofs.Reduced.{has-reduced}
use Rattle.sg_protocol.proofs.RowLemmas.{roles_reduced}
use Rattle.sg_protocol.proofs.OneWalk.{FirstCast, first_cast, first_moves, node_begins}
use Rattle.sg_protocol.proofs.Agreeing.{With}
use Rattle.sg_protocol.proofs.Flight.{HonestSession, Flight, FrameOk, WasReceived, Track, New, SessOk, OnTheWay, FlightOfRun, flight_of_run}
use Rattle.sg_protocol.proofs.Flight as L
use Rattle.sg_protocol.proofs.HeldKeys.{SameFor, in_at, pair_keys, pairs_differ, pairs_hold, rows_same, targets_apart}
use Rattle.sg_protocol.proofs.Happenings.{Happening, IsCourse, IsRight, Own, HaveOneKey, HaveOneKeyEach, key_at, key_kept, keep_course, pasts_kept, run_of}
use Rattle.sg_protocol.proofs.Senders.{receipts_are_of_sends, some_event}
use Rattle.sg_protocol.proofs.Showing.{facts_of, first_progress, agree_first, of_run}
use Rattle.sg_protocol.proofs.Anew.{keys_stay}
use Rattle.sg_protocol.proofs.OfSid.{of_sid, for_sid}
use Rattle.sg_protocol.proofs.NoRows.{rows_next, program_found, starter_found, rows_join}

not_over : (a b : ℕ) → a < b → nat_le b a ≡ false
not_over a b l = elim (cases_Bool (nat_le b a)) [ inl e ↦ absurd (let m : b ≤ a = grind (arith, nat_tests) in omega (arith, l, m)) | inr e ↦ e ]

all_at : {A : Type 0} (P : A → Type 0) (xs : List A) (k : ℕ) (d : A) → All P xs → k < length xs → P (get_or xs k d)
all_at P [] k d a l = absurd (omega (arith, l))
all_at P (x ∷ xs) zero d a l = All-head P x xs a
all_at P (x ∷ xs) (suc k) d a l = all_at P xs k d (All-tail P x xs a) (omega (arith, l))

-- the principal left the session, or did not
had_left : (who : Name) (sid : List ℕ) (log : List Logged) → HadAnswer log who (Abandon sid) Abandoned ⊎ (HadAnswer log who (Abandon sid) Abandoned → ⊥)
had_left who sid log = elim (go log) [
  | inl r ↦ inl (r.0, contains_from_in log r.0 r.1, (r.2).0, (r.2).1, (r.2).2)
  | inr n ↦ inr (λ had. n had.0 (in_from_Contains log had.0 had.1) (had.2, had.3, had.4))
]
  where
    by_who : (o : Option Name) → (o ≡ Some who) ⊎ (o ≡ Some who → ⊥)
    by_who None = inr (λ e. absurd (let z : None ≡ Some who = e in cc))
    by_who (Some x) = elim (cases_Bool (bytes_eq x who)) [ inl e ↦ inl (ap (λ z. Some z) (same_bytes x who e)) | inr e ↦ inr (λ q. let z : x ≡ who = cc in clash (bytes_eq x who) (bytes_same x who z) e) ]

    by_call : (o : Option Call) → (o ≡ Some (Abandon sid)) ⊎ (o ≡ Some (Abandon sid) → ⊥)
    by_call None = inr (λ e. absurd (let z : None ≡ Some (Abandon sid) = e in cc))
    by_call (Some (Abandon x)) = elim (cases_Bool (bytes_eq x sid)) [ inl e ↦ inl (ap (λ z. Some (Abandon z)) (same_bytes x sid e)) | inr e ↦ inr (λ q. let y : Some (Abandon x) ≡ Some (Abandon sid) = q in let z : x ≡ sid = cc in clash (bytes_eq x sid) (bytes_same x sid z) e) ]
    by_call (Some (Start c)) = inr (λ e. absurd (let z : Some (Start c) ≡ Some (Abandon sid) = e in cc))
    by_call (Some (Act a b c d)) = inr (λ e. absurd (let z : Some (Act a b c d) ≡ Some (Abandon sid) = e in cc))
    by_call (Some (Deliver bs)) = inr (λ e. absurd (let z : Some (Deliver bs) ≡ Some (Abandon sid) = e in cc))

    by_outcome : (o : Outcome) → (o ≡ Answered Abandoned) ⊎ (o ≡ Answered Abandoned → ⊥)
    by_outcome (Answered Abandoned) = inl refl
    by_outcome (Answered (Happened e)) = inr (λ q. absurd (let z : Answered (Happened e) ≡ Answered Abandoned = q in cc))
    by_outcome (Answered (Sends e to f)) = inr (λ q. absurd (let z : Answered (Sends e to f) ≡ Answered Abandoned = q in cc))
    by_outcome (Answered (NotStarted f)) = inr (λ q. absurd (let z : Answered (NotStarted f) ≡ Answered Abandoned = q in cc))
    by_outcome (Answered (NotActed f)) = inr (λ q. absurd (let z : Answered (NotActed f) ≡ Answered Abandoned = q in cc))
    by_outcome (Answered NotAbandoned) = inr (λ q. absurd (let z : Answered NotAbandoned ≡ Answered Abandoned = q in cc))
    by_outcome (Answered (NotDelivered r)) = inr (λ q. absurd (let z : Answered (NotDelivered r) ≡ Answered Abandoned = q in cc))
    by_outcome Crafted = inr (λ q. absurd (let z : Crafted ≡ Answered Abandoned = q in cc))
    by_outcome NoFrame = inr (λ q. absurd (let z : NoFrame ≡ Answered Abandoned = q in cc))

    one : (l : Logged) → ((l.who ≡ Some who) × (l.call ≡ Some (Abandon sid)) × (l.outcome ≡ Answered Abandoned)) ⊎ (((l.who ≡ Some who) × (l.call ≡ Some (Abandon sid)) × (l.outcome ≡ Answered Abandoned)) → ⊥)
    one l = elim (by_who l.who) [
      | inr n ↦ inr (λ q. n q.0)
      | inl a ↦ elim (by_call l.call) [
        | inr n ↦ inr (λ q. n q.1)
        | inl b ↦ elim (by_outcome l.outcome) [ inr n ↦ inr (λ q. n q.2) | inl c ↦ inl (a, b, c) ]
      ]
    ]

    go : (ls : List Logged) → ((l : Logged) × In ls l × ((l.who ≡ Some who) × (l.call ≡ Some (Abandon sid)) × (l.outcome ≡ Answered Abandoned))) ⊎ ((l : Logged) → In ls l → ((l.who ≡ Some who) × (l.call ≡ Some (Abandon sid)) × (l.outcome ≡ Answered Abandoned)) → ⊥)
    go [] = inr (λ l i. absurd i)
    go (x ∷ xs) = elim (one x) [
      | inl q ↦ inl (x, inl refl, q)
      | inr n ↦ elim (go xs) [
        | inl r ↦ inl (r.0, inr r.1, r.2)
        | inr m ↦ inr (λ l i q. elim i [ inl e ↦ n (subst (λ (z : Logged). (z.who ≡ Some who) × (z.call ≡ Some (Abandon sid)) × (z.outcome ≡ Answered Abandoned)) e q) | inr j ↦ m l j q ])
      ]
    ]

abbrev arrow_of : Edge → Arrow
arrow_of e = record { source = e.source; target = e.target; writes = e.writes; reads = e.reads }

-- the joins that a principal of this name began with
abbrev first_of : List Past → Name → List (List ℕ × ℕ)
first_of ps who = option_map_or (λ (p : Past). p.first) (find (λ (p : Past). bytes_eq p.keys.me who) ps) []

first_kept : (sha : Hash) (ps : List Past) (course : List Happening) → AllByRecursion IsRight course → (who : Name) (p : Past) → past_of (run_of sha ps course) who ≡ Some p → p.first ≡ first_of ps who
first_kept sha ps course right = keep_course sha (run_of sha ps course) (λ w. (who : Name) (p : Past) → past_of w who ≡ Some p → p.first ≡ first_of ps who)
    (λ w k h who o fr e. h)
    (λ w k h who past q c r after. pasts_kept sha w k who past q c (λ me y. y.first ≡ first_of ps me) (h who past q) (λ me y ne e. h me y e))
    (record { pasts = ps; log = [] }) 1 (λ who p e. sym (ap (λ (o : Option Past). option_map_or (λ (p : Past). p.first) o []) e)) course right refl

-- what completeness asks of a frame, before it is delivered to a principal whose past is given
pub record Awaits (s : Schedule) (w : World) (bytes : List ℕ) (who : Name) (past : Past) (f : Frame) : Type 0 where
  pub sent : IsSentTo w.log bytes who f
  pub cast : Cast
  pub is_cast : cast_of_session f.sid w.log ≡ Some cast
  pub all_honest : All (λ n. is_honest s n ≡ true) cast.names
  pub one_key : HaveOneKeyEach w cast
  pub covered : stranger past.keys cast ≡ None
  pub not_taken : (e : Event) → HadAnswer w.log who (Deliver bytes) (Happened e) → ⊥
  pub not_left : HadAnswer w.log who (Abandon f.sid) Abandoned → ⊥
  pub not_first : IsTrue (is_some f.join) → has_joined past.first f.sid f.receiver ≡ false
  pub room : IsTrue (is_some f.join) → (length (node_of past).joins < most_joins) × (length (node_of past).live < most_live)

-- the frame that was sent last in the session was not taken
pub record LastFrame (w : World) (cast : Cast) (sid : List ℕ) : Type 0 where
  pub who : Name
  pub frame : Frame
  pub is_sent : IsSentTo w.log (spelling frame) who frame
  pub of_session : frame.sid ≡ sid
  pub receiver : principal cast frame.receiver ≡ who
  pub newest : last frame.items ≡ last (honest_items sid w.log)
  pub not_taken : (e : Event) → HadAnswer w.log who (Deliver (spelling frame)) (Happened e) → ⊥
  pub not_left : HadAnswer w.log who (Abandon frame.sid) Abandoned → ⊥

module _ (sha : Hash) (hash : IsHash sha) (s : Schedule) (ps : List Past) (course : List Happening) (is_course : IsCourse sha s ps course) (sid : List ℕ) (premises : Premises sha s (run_of sha ps course)) (first : FirstCast sha hash s ps course is_course sid)
    (all_honest : All (λ n. is_honest s n ≡ true) first.cast.names) (one_key : HaveOneKeyEach (run_of sha ps course) first.cast) where
  abbrev w0 : World
  w0 = record { pasts = ps; log = [] }

  abbrev wf : World
  wf = run_of sha ps course

  abbrev cast : Cast
  cast = first.cast

  abbrev g : Graph
  g = first.program.graph

  abbrev Own_ : List Program → Type 0
  Own_ = Own sha s

  abbrev Key : Name → Name → Option (List ℕ)
  Key = key_at (record { pasts = ps; log = [] })

  -- the keys of the cast
  abbrev keys : List PairKey
  keys = pair_keys (key_at (record { pasts = ps; log = [] })) first.cast.names

  abbrev tp : IsProgram sha first.program
  tp = W.the_program sha hash s ps course is_course sid premises first

  abbrev prog : (xs : List Program) → Own_ xs → (r : ℕ) (p : Program) → program_for xs first.cast.graph r ≡ Some p → (p.graph ≡ first.program.graph) × IsViewTable p.graph r p.views
  prog = W.prog sha hash s ps course is_course sid premises first

  abbrev targets : ℕ → List ℕ
  targets e = targets_of first.program e

  agree : (a b : Name) → In first.cast.names a → In first.cast.names b → key_at w0 a b ≡ key_at w0 b a
  agree a b i j = sym (key_kept sha ps course is_course.right a b) ∙ all_in (HaveOneKey wf a) first.cast.names b (all_in (λ a. All (HaveOneKey wf a) first.cast.names) first.cast.names a one_key i) j ∙ key_kept sha ps course is_course.right b a

  same_key : (a b : ℕ) → a < length first.cast.names → b < length first.cast.names → a ≢ b → key_of (keyring_of keys (principal first.cast a)) (principal first.cast b) ≡ key_at w0 (principal first.cast a) (principal first.cast b)
  same_key a b l m ne = pairs_hold (key_at w0) first.cast.names agree (principal first.cast a) (principal first.cast b) (in_at first.cast.names a l) (in_at first.cast.names b m) (λ e. ne (one_index first.cast.names a b first.differ l m e))

  is_program : (xs : List Program) → Own_ xs → (r : ℕ) (p : Program) → program_for xs first.cast.graph r ≡ Some p → IsProgram sha p
  is_program xs own r p e = (rec_in (λ (q : Program). IsProgram sha q × In s.graphs q.graph) xs p own (program_found xs first.cast.graph r p e).2).0

  same_targets : (xs : List Program) → Own_ xs → (r : ℕ) (p : Program) → program_for xs first.cast.graph r ≡ Some p → (e : ℕ) → targets_of p e ≡ targets_of first.program e
  same_targets xs own r p q e = one_table g p.targets first.program.targets (subst (λ z. IsTargetTable z p.targets) (prog xs own r p q).0 (is_program xs own r p q).targets) tp.targets e

  everyone : (r : ℕ) → r < length first.program.graph.roles → honest_role s first.cast r ≡ true
  everyone r l = all_at (λ n. is_honest s n ≡ true) first.cast.names r [] all_honest (let e = first.lengths in omega (arith, l, e))

  starts : (xs : List Program) → Own_ xs → (p : Program) → starter xs first.cast.graph ≡ Some p → role_at (shape first.program.graph) 0 ≡ p.role
  starts xs own p e =
      let h = starter_found xs first.cast.graph p e in
      let ip = rec_in (λ (q : Program). IsProgram sha q × In s.graphs q.graph) xs p own h.there in
      let q : p.graph ≡ first.program.graph = W.same_digest sha hash s ps course is_course sid premises first p.graph first.program.graph ip.1 (first.own).1 (sym (ip.0).digest ∙ h.digest_is ∙ sym first.digest ∙ tp.digest) in
      ap (λ z. role_at (shape z) 0) (sym q) ∙ sym h.role_is

  was_sent_ : (l : Logged) (who : Name) (bs : List ℕ) (f : Frame) → IsTaken (run_of sha ps course) l who bs f → f.sid ≡ sid → honest_role s first.cast f.sender ≡ true → In first.cast.names who → In first.cast.names (principal first.cast f.sender) → WasSent (run_of sha ps course) l.number (principal first.cast f.sender) bs f
  was_sent_ l who bs f t q h i j = (receipts_are_of_sends sha hash s ps course is_course premises l who bs f first.cast t (ap (λ z. cast_of_session z (run_of sha ps course).log) q ∙ first.is_cast) h).1
      (λ _. all_in (HaveOneKey wf who) first.cast.names (principal first.cast f.sender) (all_in (λ a. All (HaveOneKey wf a) first.cast.names) first.cast.names who one_key i) j)

  known_of_session : HonestSession sha s sid first.cast first.program.graph (run_of sha ps course) Own_ keys targets Key (first_of ps)
  known_of_session = record {
    of_run = of_run sha hash s ps course is_course sid premises first;
    facts = facts_of sha hash s ps course is_course sid premises first;
    everyone = everyone;
    same_targets = same_targets;
    other_targets = λ e l. targets_apart first.program.graph first.program.targets tp.targets e l (λ t. (t < length first.program.graph.roles) × (t ≢ sender (shape first.program.graph) e)) (λ t m ne. (m, ne));
    same_key = same_key;
    was_sent = was_sent_;
    starts = starts;
  }

  begins_flight : Flight known_of_session w0
  begins_flight = record {
    sids = λ l e to f i h. absurd i;
    keys_are = λ who p e other. ap (λ (n : Node). key_of n.keys other) (begun who p e) ∙ sym (ap (option_and_then (λ (p : Past). key_of p.keys other)) e);
    steps = record { walk = tt; roles = tt; delta_keys = tt; tags = tt; times = tt };
    tracks = λ who p e. subst (Track known_of_session [] who p.programs) (sym (begun who p e)) (inl record {
      alone = refl;
      none = λ r a b. refl;
      unjoined = λ r a b f h. clash (has_joined p.first sid r) h (ap (λ (o : Option Past). has_joined (option_map_or (λ (p : Past). p.first) o []) sid r) (sym e) ∙ f);
    });
    frames = λ before l after e to f h o i. absurd (not_empty before l after (sym h));
  }
    where
      begun : (who : Name) (p : Past) → past_of (record { pasts = ps; log = [] }) who ≡ Some p → node_of p ≡ new_node p.keys p.programs p.first
      begun who p e = node_begins sha hash s ps course is_course p (found_in (λ (p : Past). bytes_eq p.keys.me who) ps p e)

  begins_run : FlightOfRun known_of_session w0
  begins_run = record {
    flight_ = begins_flight;
    sourced = λ m f i. absurd i;
    baton = inl refl;
    left_from = λ l me i. absurd i;
    said = λ l bs e f i. absurd i;
  }

  runs_so : With (known_of_session.of_run) (OnTheWay known_of_session) wf
  unfolding known_of_session
  runs_so = flight_of_run known_of_session w0 1 (first_progress sha hash s ps course is_course sid premises first, (agree_first sha hash s ps course is_course sid premises first (first_progress sha hash s ps course is_course sid premises first) (first_moves sha hash s ps course is_course sid premises first), begins_run)) course is_course.right refl

  flown : Flight known_of_session wf
  flown = runs_so.1.1.flight_

  -- ---- who has the turn, or which frame is under way

  abandoned_by : (who : Name) → HadAnswer (run_of sha ps course).log who (Abandon sid) Abandoned → WasAbandoned first.cast sid (run_of sha ps course).log
  abandoned_by who had =
      let r = runs_so.1.1.left_from had.0 who (in_from_Contains (run_of sha ps course).log had.0 had.1) had.2 had.3 had.4 in
      (r.0, r.1, subst (λ z. HadAnswer (run_of sha ps course).log z (Abandon sid) Abandoned) (sym r.2) had)

  at_end_ : (m : ℕ) → list_any (λ (e : Edge). e.source == m) first.program.graph.edges ≡ false → (e : ℕ) → e < length first.program.graph.edges → source (shape first.program.graph) e ≢ m
  at_end_ m none = go first.program.graph.edges none
    where
      go : (es : List Edge) → list_any (λ (e : Edge). e.source == m) es ≡ false → (e : ℕ) → e < length es → (get_or {A = Arrow} (map arrow_of es) e (record { source = 0; target = 0; writes = []; reads = [] })).source ≢ m
      go [] h e l q = omega (arith, l)
      go (x ∷ es) h zero l q = clash (x.source == m) (eq-eqb x.source m q) (first_false (x.source == m) _ h)
      go (x ∷ es) h (suc e) l q = go es (second_false (x.source == m) _ h) e (omega (arith, l)) q

  -- a session at its turn sends along each edge from its place
  acts_at : (who : Name) (past : Past) → past_of (run_of sha ps course) who ≡ Some past → (x : Session) → (the_p : (p : Program) × (program_for past.programs first.cast.graph x.role ≡ Some p)) → filter (of_sid sid) (node_of past).live ≡ x ∷ [] → at_turn first.program.graph x ≡ true → L.SessOk known_of_session (run_of sha ps course).log who x → CanAct sha (run_of sha ps course) first.cast first.program.graph sid
  acts_at who past its_past x the_p alone turn ok = record {
    who = who;
    has_turn = ap (principal first.cast) (ap (role_at (shape first.program.graph)) (sym end_is) ∙ role_is) ∙ ok.is_who;
    past = past;
    is_past = its_past;
    session = x;
    is_live = found;
    program = the_p.0;
    is_program = prog_x;
    sends = λ label values confounders l src right t.
        ap (λ o. option_map_or (λ (z : Session). option_map_or (λ (p : Program). acted (sent sha (node_of past).keys p z label values confounders) (first_some (rows_of_act p z label values))) (program_for (node_of past).programs z.cast.graph z.role) (NotActed ActFault.UnknownSession)) o (NotActed ActFault.UnknownSession)) found
        ∙ ap (λ o. option_map_or (λ (p : Program). acted (sent sha (node_of past).keys p x label values confounders) (first_some (rows_of_act p x label values))) o (NotActed ActFault.UnknownSession)) prog_x
        ∙ ap (acted (sent sha (node_of past).keys the_p.0 x label values confounders)) (no_rows label values l src right t);
  }
    where
      end_is : place first.program.graph x ≡ place_in first.program.graph sid (run_of sha ps course).log
      end_is = at_end sha keys sid first.cast targets first.program.graph (honest_items sid (run_of sha ps course).log) x ok.relay turn

      role_is : role_at (shape first.program.graph) (place first.program.graph x) ≡ x.role
      role_is = eqb-true (role_at (shape first.program.graph) (place first.program.graph x)) x.role turn

      own : Own_ past.programs
      own = ((runs_so.0).nodes who past its_past).own

      p_graph : (the_p.0).graph ≡ first.program.graph
      p_graph = (prog past.programs own x.role the_p.0 the_p.1).0

      prog_x : program_for (node_of past).programs x.cast.graph x.role ≡ Some the_p.0
      prog_x = ap (λ xs. program_for xs x.cast.graph x.role) ((runs_so.0).nodes who past its_past).ok.has_programs ∙ ap (λ (c : Cast). program_for past.programs c.graph x.role) ok.same_cast ∙ the_p.1

      found : session_with (node_of past).live sid ≡ Some x
      found = sym (find-filter (λ (z : Session). bytes_eq z.sid sid) (of_sid sid) (λ z e. e) (node_of past).live) ∙ ap (find (λ (z : Session). bytes_eq z.sid sid)) alone ∙ rw (bytes_same x.sid sid ok.same_sid) refl

      none_of : (a b c d : Bool) (e : Option ℕ) → a ≡ true → b ≡ true → c ≡ false → e ≡ None → first_some (row (not a) NotYourTurn ∷ map (option_map Send) (row (not b) NoSuchLabel ∷ option_map BadValues e ∷ row c TimeSpent ∷ [])) ≡ None
      none_of a b c d e p q r t = rw (p, q, r, t) refl

      no_rows : (label : ℕ) (values : Map Value) → label < length first.program.graph.edges → source (shape first.program.graph) label ≡ place_in first.program.graph sid (run_of sha ps course).log → find (is_bad first.program.graph label values) (below 256) ≡ None → time x < 1000000 → first_some (rows_of_act the_p.0 x label values) ≡ None
      no_rows label values l src right t = none_of (at_turn (the_p.0).graph x) (leaves (the_p.0).graph x label) (nat_le 1000000 (time x)) true (find (is_bad (the_p.0).graph label values) (below 256))
          (subst (λ z. at_turn z x ≡ true) (sym p_graph) turn)
          (subst (λ z. leaves z x label ≡ true) (sym p_graph) (and_from (nat_lt label (length first.program.graph.edges)) (source (shape first.program.graph) label == place first.program.graph x) (lt-ltb label (length first.program.graph.edges) l) (eq-eqb (source (shape first.program.graph) label) (place first.program.graph x) (src ∙ sym end_is))))
          (not_over (time x) 1000000 t)
          (subst (λ z. find (is_bad z label values) (below 256) ≡ None) (sym p_graph) right)

  holds : L.Holder known_of_session (run_of sha ps course) → CanAct sha (run_of sha ps course) first.cast first.program.graph sid
  holds h = elim (flown.tracks h.who h.past h.its_past) [
    | inl t ↦ absurd (let z : h.x ∷ [] ≡ [] = sym h.alone ∙ t.alone in cc)
    | inr r ↦ elim r [
      | inl t ↦
          let z : t.x ∷ [] ≡ h.x ∷ [] = sym t.alone ∙ h.alone in
          let q : t.x ≡ h.x = cc in
          acts_at h.who h.past h.its_past t.x (h.program, ap (λ (y : Session). program_for (h.past).programs first.cast.graph y.role) q ∙ h.has_program) t.alone (ap (at_turn first.program.graph) q ∙ h.turn) t.ok
      | inr t ↦ absurd (let z : h.x ∷ [] ≡ [] = sym h.alone ∙ t.alone in cc)
    ]
  ]

  -- the last frame
  flies : L.Flying known_of_session (run_of sha ps course).log → WasAbandoned first.cast sid (run_of sha ps course).log ⊎ LastFrame (run_of sha ps course) first.cast sid
  flies fy = elim (had_left fy.to sid (run_of sha ps course).log) [
    | inl had ↦ inl (abandoned_by fy.to had)
    | inr not_left_ ↦ inr (under_way not_left_)
  ]
    where
      fo : L.FrameOk known_of_session (run_of sha ps course).log fy.before fy.after fy.l fy.to fy.f
      fo = flown.frames fy.before fy.l fy.after fy.e fy.to fy.f fy.parts fy.outcome fy.of_session

      in_log : In (run_of sha ps course).log fy.l
      in_log = subst (λ z. In z fy.l) (sym fy.parts) (split_in fy.before fy.l fy.after)

      sent_to : IsSentTo (run_of sha ps course).log (spelling fy.f) fy.to fy.f
      sent_to = (fy.l, fy.e, contains_from_in (run_of sha ps course).log fy.l in_log, fy.outcome, fo.framed)

      done_is : honest_items sid (run_of sha ps course).log ≡ honest_items sid fy.before ++ fo.item ∷ []
      done_is = ap (honest_items sid) fy.parts ∙ L.split_items known_of_session fy.before fy.l fy.after fy.e fy.to fy.f fo.item fy.outcome fy.of_session fo.its_last ∙ ap (λ l. honest_items sid fy.before ++ fo.item ∷ l) fy.nothing_later

      untaken_ : (e : Event) → HadAnswer (run_of sha ps course).log fy.to (Deliver (spelling fy.f)) (Happened e) → ⊥
      untaken_ e had =
          let i = in_from_Contains (run_of sha ps course).log had.0 had.1 in
          let q : e ≡ receipt fy.f = runs_so.1.1.said had.0 (spelling fy.f) e fy.f i had.3 had.4 (read-spelling fy.f fo.spelled) in
          fy.untaken (had.0, i, had.2, had.3, had.4 ∙ ap (λ z. Answered (Happened z)) q)

      under_way : (HadAnswer (run_of sha ps course).log fy.to (Abandon sid) Abandoned → ⊥) → LastFrame (run_of sha ps course) first.cast sid
      under_way not_left_ = record {
        who = fy.to;
        frame = fy.f;
        is_sent = sent_to;
        of_session = fo.sid_is;
        receiver = sym fo.to_is;
        newest = fo.its_last ∙ sym (ap last done_is ∙ last-append (honest_items sid fy.before) fo.item []);
        not_taken = untaken_;
        not_left = λ had. not_left_ (subst (λ z. HadAnswer (run_of sha ps course).log fy.to (Abandon z) Abandoned) fo.sid_is had);
      }

  pub is_never_stuck : events_of sid (run_of sha ps course).log ≢ [] →
      IsAtEnd first.program.graph sid (run_of sha ps course).log ⊎ (WasAbandoned first.cast sid (run_of sha ps course).log ⊎ (CanAct sha (run_of sha ps course) first.cast first.program.graph sid ⊎ LastFrame (run_of sha ps course) first.cast sid))
  is_never_stuck some = elim runs_so.1.1.baton [
    | inl n ↦ absurd (some n)
    | inr r ↦ elim r [
      | inl l ↦ inr (inl (abandoned_by l.0 l.1))
      | inr r2 ↦ elim r2 [
        | inl e ↦ inl (at_end_ (place_in first.program.graph sid (run_of sha ps course).log) e)
        | inr r3 ↦ elim r3 [ inl h ↦ inr (inr (inl (holds h))) | inr f ↦ elim (flies f) [ inl l ↦ inr (inl l) | inr u ↦ inr (inr (inr u)) ] ]
      ]
    ]
  ]

  -- ---- a frame that is awaited

  module _ (bytes : List ℕ) (who : Name) (past : Past) (f : Frame) (its_past : past_of (run_of sha ps course) who ≡ Some past) (aw : Awaits s (run_of sha ps course) bytes who past f) (of_sid_ : f.sid ≡ sid)
      (has_program : f.receiver < length first.program.graph.roles → (p : Program) × (program_for past.programs first.cast.graph f.receiver ≡ Some p)) where
    abbrev n : Node
    n = node_of past

    sp : (before : List Logged) × (after : List Logged) × ((run_of sha ps course).log ≡ before ++ (aw.sent).0 ∷ after)
    sp = in_split (run_of sha ps course).log (aw.sent).0 (in_from_Contains (run_of sha ps course).log (aw.sent).0 (aw.sent).2)

    fo : FrameOk known_of_session (run_of sha ps course).log sp.0 sp.1 (aw.sent).0 who f
    fo = flown.frames sp.0 (aw.sent).0 sp.1 (aw.sent).1 who f sp.2 (aw.sent).3 (flown.sids (aw.sent).0 (aw.sent).1 who f (in_from_Contains (run_of sha ps course).log (aw.sent).0 (aw.sent).2) (aw.sent).3 ∙ of_sid_)

    bytes_are : bytes ≡ spelling f
    bytes_are = (let z : Some bytes ≡ Some (spelling f) = sym (aw.sent).4 ∙ fo.framed in cc)

    untaken : WasReceived known_of_session (run_of sha ps course).log who f → ⊥
    untaken t = aw.not_taken (receipt f) (t.0, contains_from_in (run_of sha ps course).log t.0 t.1, t.2, t.3 ∙ ap (λ z. Some (Deliver z)) (sym bytes_are), t.4)

    nothing_after : honest_items sid sp.1 ≡ []
    nothing_after = go (honest_items sid sp.1) refl
      where
        go : (is' : List Item) → honest_items sid sp.1 ≡ is' → honest_items sid sp.1 ≡ []
        go [] e = e
        go (i ∷ is') e = absurd (untaken (fo.taken (λ z. (let y : i ∷ is' ≡ [] = sym e ∙ z in absurd (cc)))))

    done_is : honest_items sid (run_of sha ps course).log ≡ honest_items sid sp.0 ++ fo.item ∷ []
    done_is = ap (honest_items sid) sp.2
        ∙ L.split_items known_of_session sp.0 (aw.sent).0 sp.1 (aw.sent).1 who f fo.item (aw.sent).3 (flown.sids (aw.sent).0 (aw.sent).1 who f (in_from_Contains (run_of sha ps course).log (aw.sent).0 (aw.sent).2) (aw.sent).3 ∙ of_sid_) fo.its_last
        ∙ ap (λ l. honest_items sid sp.0 ++ fo.item ∷ l) nothing_after

    r_small : f.receiver < length first.program.graph.roles
    r_small = subst (λ z. z < length first.program.graph.roles) (sym fo.receiver_is) (role_small first.program.graph tp.is_graph tp.accepted _)

    r_in : f.receiver < length first.cast.names
    r_in = (let a = r_small in let b = first.lengths in omega (arith, a, b))

    sender_small : f.sender < length first.cast.names
    sender_small =
        let a : f.sender < length first.program.graph.roles = subst (λ z. z < length first.program.graph.roles) (sym (fo.sender_is ∙ Keys'.all-mid (λ (i : Item). i.role ≡ sender (shape first.program.graph) i.label) (honest_items sid sp.0) fo.item [] (subst (AllByRecursion (λ (i : Item). i.role ≡ sender (shape first.program.graph) i.label)) done_is flown.steps.roles))) (role_small first.program.graph tp.is_graph tp.accepted _) in
        let b = first.lengths in omega (arith, a, b)

    who_is : principal first.cast f.receiver ≡ who
    who_is = sym fo.to_is

    own : Own_ past.programs
    own = ((runs_so.0).nodes who past its_past).own

    cast_aw : aw.cast ≡ first.cast
    cast_aw = (let z : Some aw.cast ≡ Some first.cast = sym aw.is_cast ∙ ap (λ z. cast_of_session z (run_of sha ps course).log) of_sid_ ∙ first.is_cast in cc)

    the_p : (p : Program) × (program_for past.programs first.cast.graph f.receiver ≡ Some p)
    the_p = has_program r_small

    abbrev p : Program
    p = the_p.0

    p_graph : p.graph ≡ first.program.graph
    p_graph = (prog past.programs own f.receiver the_p.0 the_p.1).0

    n_programs : n.programs ≡ past.programs
    n_programs = ((runs_so.0).nodes who past its_past).ok.has_programs

    -- for another of the cast the receiver holds what the list of pairs says
    abbrev mine : Keyring
    mine = keyring_of keys (principal first.cast f.receiver)

    holds_ : (t : ℕ) → t < length first.program.graph.roles → t ≢ f.receiver → SameFor n.keys mine first.cast t
    holds_ t l ne = flown.keys_are who past its_past (principal first.cast t) ∙ ap (λ z. key_at w0 z (principal first.cast t)) (sym who_is) ∙ sym (same_key f.receiver t r_in (let e = first.lengths in omega (arith, l, e)) (λ q. ne (sym q)))

    -- the items that are shown are of others
    others : (c : Cast) → c ≡ first.cast → (is : List Item) → Roles (shape first.program.graph) is → has by_role f.receiver is ≡ false → AllByRecursion (λ (i : Item). SameFor n.keys mine c i.role) is
    others c q [] r h = tt
    others c q (i ∷ is) r h = elim (cases_Bool (i.role == f.receiver)) [
      | inl e ↦ absurd (let z : true ≡ false = (rw e at h) in cc)
      | inr e ↦ (
        subst (λ (z : Cast). SameFor n.keys mine z i.role) (sym q) (holds_ i.role (subst (λ z. z < length first.program.graph.roles) (sym r.0) (role_small first.program.graph tp.is_graph tp.accepted _)) (λ z. clash (i.role == f.receiver) (eq-eqb i.role f.receiver z) e)),
        others c q is r.1 (rw e at h),
      )
    ]

    -- what the rows ask of a session that waits
    module _ (x : Session) (same_sid : x.sid ≡ sid) (same_cast : x.cast ≡ first.cast) (role : x.role ≡ f.receiver) (relay : RelayOk sha keys sid first.cast targets first.program.graph (honest_items sid (run_of sha ps course).log) x) (wait : at_turn first.program.graph x ≡ false) where
      record RowsOf (z : Program) : Type 0 where
        rows_ : first_some (rows_of_session sha n.keys z x f) ≡ None
        view_ : IsView z.graph x.role (record { origin = origin x; items = map seen f.items })

      since_is : after_last by_role x.role (honest_items sid (run_of sha ps course).log) ≡ relay.since
      since_is = ap (after_last by_role x.role) relay.parts ∙ after_all x.role relay.past relay.since (relay.waits wait) relay.none

      no_own : has by_role f.receiver f.items ≡ false
      no_own = ap (has by_role f.receiver) (fo.items_are ∙ ap (λ l. reduced first.program.graph (after_last by_role f.receiver l)) (sym done_is)) ∙ has-reduced first.program.graph f.receiver (after_last by_role f.receiver (honest_items sid (run_of sha ps course).log))
          ∙ subst (λ r. has by_role r (after_last by_role r (honest_items sid (run_of sha ps course).log)) ≡ false) role (ap (has by_role x.role) since_is ∙ relay.none)

      shown_roles : Roles (shape first.program.graph) f.items
      shown_roles = subst (Roles (shape first.program.graph)) (sym (fo.items_are ∙ ap (λ l. reduced first.program.graph (after_last by_role f.receiver l)) (sym done_is))) (roles_reduced first.program.graph (after_last by_role f.receiver (honest_items sid (run_of sha ps course).log))
          (Keys'.all-after_last (λ (i : Item). i.role ≡ sender (shape first.program.graph) i.label) by_role f.receiver (honest_items sid (run_of sha ps course).log) flown.steps.roles))

      items_same : AllByRecursion (λ (i : Item). SameFor n.keys mine x.cast i.role) f.items
      items_same = others x.cast same_cast f.items shown_roles no_own

      sender_same : SameFor n.keys mine x.cast f.sender
      sender_same = subst (λ (z : Cast). SameFor n.keys mine z f.sender) (sym same_cast) (holds_ f.sender (let a = sender_small in let b = first.lengths in omega (arith, a, b)) (λ q. fo.apart (sym q ∙ fo.sender_is)))

      rows_of_ : RowsOf p
      rows_of_ =
          let views : IsViewTable (the_p.0).graph x.role (the_p.0).views = subst (λ z. IsViewTable (the_p.0).graph z (the_p.0).views) (sym role) (prog past.programs own f.receiver the_p.0 the_p.1).1 in
          let table : IsTargetTable (the_p.0).graph (the_p.0).targets = (is_program past.programs own f.receiver the_p.0 the_p.1).targets in
          let items : f.items ≡ reduced (the_p.0).graph (after_last by_role f.receiver (honest_items sid (run_of sha ps course).log)) = subst (λ z. f.items ≡ reduced z (after_last by_role f.receiver (honest_items sid (run_of sha ps course).log))) (sym p_graph) (fo.items_are ∙ ap (λ l. reduced first.program.graph (after_last by_role f.receiver l)) (sym done_is)) in
          let receives : receiver (shape (the_p.0).graph) (fo.item).label ≡ x.role = subst (λ z. receiver (shape z) (fo.item).label ≡ x.role) (sym p_graph) (sym fo.receiver_is ∙ sym role) in
          let opened = subst (λ z. (map (λ (o : Opening). o.variable) f.openings ≡ reads z (fo.item).label) × AllByRecursion (OpensAt sha keys sid first.cast targets z (honest_items sid (run_of sha ps course).log)) f.openings) (sym p_graph) (fo.opened.0, subst (λ l. AllByRecursion (OpensAt sha keys sid first.cast targets first.program.graph l) f.openings) (sym done_is) fo.opened.1) in
          let steps_ : StepsOk sha keys sid first.cast targets (the_p.0).graph (honest_items sid (run_of sha ps course).log) = subst (λ z. StepsOk sha keys sid first.cast targets z (honest_items sid (run_of sha ps course).log)) (sym p_graph) flown.steps in
          let relay_ : RelayOk sha keys sid first.cast targets (the_p.0).graph (honest_items sid (run_of sha ps course).log) x = subst (λ z. RelayOk sha keys sid first.cast targets z (honest_items sid (run_of sha ps course).log) x) (sym p_graph) relay in
          let wait_ : at_turn (the_p.0).graph x ≡ false = subst (λ z. at_turn z x ≡ false) (sym p_graph) wait in
          let is_ : IsGraph (the_p.0).graph = subst IsGraph (sym p_graph) tp.is_graph in
          let keys_ : mine ≡ keyring_of keys (principal first.cast x.role) = ap (λ r. keyring_of keys (principal first.cast r)) (sym role) in
          let apart_ : (fo.item).role ≢ x.role = λ q. fo.apart (sym role ∙ sym q) in
          let small_ : x.role < length (the_p.0).graph.roles = subst (λ (z : Graph). x.role < length z.roles) (sym p_graph) (subst (λ z. z < length first.program.graph.roles) (sym role) r_small) in
          record {
            rows_ = ap first_some (rows_same sha n.keys mine the_p.0 x f sender_same items_same) ∙ rows_none sha keys sid first.cast targets the_p.0 x f (honest_items sid (run_of sha ps course).log) (honest_items sid sp.0) fo.item mine is_ steps_ relay_ wait_ views table (same_targets past.programs own f.receiver the_p.0 the_p.1) same_sid same_cast keys_ (pairs_differ (key_at w0) first.cast.names agree) done_is items (sym role) receives fo.sender_is apart_ opened fo.tag_is sender_small small_ (reads_small (the_p.0).graph is_);
            view_ = viewed sha keys sid first.cast targets the_p.0 x f (honest_items sid (run_of sha ps course).log) (honest_items sid sp.0) fo.item mine is_ steps_ relay_ wait_ views table (same_targets past.programs own f.receiver the_p.0 the_p.1) same_sid same_cast keys_ (pairs_differ (key_at w0) first.cast.names agree) done_is items (sym role) receives fo.sender_is apart_ opened fo.tag_is sender_small small_ (reads_small (the_p.0).graph is_);
          }

    -- the receiver waits
    waits_ : (x : Session) → SessOk known_of_session (run_of sha ps course).log who x → at_turn first.program.graph x ≡ false
    waits_ x ok = elim (cases_Bool (at_turn first.program.graph x)) [
      | inl t ↦ absurd (untaken (ok.taken t (aw.sent).0 (aw.sent).1 who f (in_from_Contains (run_of sha ps course).log (aw.sent).0 (aw.sent).2) (aw.sent).3 (flown.sids (aw.sent).0 (aw.sent).1 who f (in_from_Contains (run_of sha ps course).log (aw.sent).0 (aw.sent).2) (aw.sent).3 ∙ of_sid_)))
      | inr b ↦ b
    ]

    role_of_ : (x : Session) → SessOk known_of_session (run_of sha ps course).log who x → x.role ≡ f.receiver
    role_of_ x ok = one_index first.cast.names x.role f.receiver first.differ ok.inside_ r_in (ok.is_who ∙ sym who_is)

    program_n : program_for n.programs first.cast.graph f.receiver ≡ Some the_p.0
    program_n = ap (λ ps. program_for ps first.cast.graph f.receiver) n_programs ∙ the_p.1

    -- ---- a frame that continues

    joined_before : has by_role f.receiver (honest_items sid (run_of sha ps course).log) ≡ true → f.join ≡ None
    joined_before h = fo.join_is ∙ ap (λ b. if b then None else Some first.cast) (go (has by_role f.receiver (honest_items sid sp.0)) (sym (ap (has by_role f.receiver) done_is ∙ has-both f.receiver (honest_items sid sp.0) (fo.item ∷ []) ∙ ap (λ b. has by_role f.receiver (honest_items sid sp.0) || (b || false)) (ne_eqb (fo.item).role f.receiver (λ q. fo.apart (sym q)))) ∙ h))
      where
        go : (b : Bool) → (b || (false || false)) ≡ true → b ≡ true
        go true h = refl
        go false h = absurd (let z : false ≡ true = h in cc)

    continues : (x : Session) → filter (of_sid sid) n.live ≡ x ∷ [] → SessOk known_of_session (run_of sha ps course).log who x → first_some (rows sha n f) ≡ None
    continues x alone ok =
        let role : x.role ≡ f.receiver = role_of_ x ok in
        let wt : at_turn first.program.graph x ≡ false = waits_ x ok in
        let jn : f.join ≡ None = joined_before (subst (λ r. has by_role r (honest_items sid (run_of sha ps course).log) ≡ true) role (ok.stepped wt)) in
        let for_x : is_for f x ≡ true = and_from (bytes_eq x.sid f.sid && (x.role == f.receiver)) (x.cast.version == f.version) (and_from (bytes_eq x.sid f.sid) (x.role == f.receiver) (bytes_same x.sid f.sid (ok.same_sid ∙ sym of_sid_)) (eq-eqb x.role f.receiver role)) (eq-eqb x.cast.version f.version (ap (λ (c : Cast). c.version) ok.same_cast ∙ sym fo.version_is)) in
        let found : session_for n.live f ≡ Some x = sym (find-filter (is_for f) (of_sid sid) (λ z e. own z e) n.live) ∙ ap (find (is_for f)) alone ∙ rw for_x refl in
        let prog_x : program_for n.programs x.cast.graph x.role ≡ Some the_p.0 = ap (λ (c : Cast). program_for n.programs c.graph x.role) ok.same_cast ∙ ap (program_for n.programs first.cast.graph) role ∙ program_n in
        let rs = rows_of_ x ok.same_sid ok.same_cast role ok.relay wt in
        rows_next sha n f x jn found (Some the_p.0) prog_x
        ∙ ap (λ b. first_some (row b NotWaiting ∷ rows_of_session sha n.keys the_p.0 x f)) (subst (λ z. at_turn z x ≡ false) (sym p_graph) wt) ∙ rs.rows_
      where
        own : (z : Session) → is_for f z ≡ true → of_sid sid z ≡ true
        own z e = bytes_same z.sid sid (for_sid f z e ∙ of_sid_)

    -- ---- a session that is gone

    is_over_not : (x : Session) → SessOk known_of_session (run_of sha ps course).log who x → is_over past.programs x ≡ true → ⊥
    is_over_not x ok o =
        let role : x.role ≡ f.receiver = role_of_ x ok in
        let wt : at_turn first.program.graph x ≡ false = waits_ x ok in
        let rs = rows_of_ x ok.same_sid ok.same_cast role ok.relay wt in
        let prog_x : program_for past.programs x.cast.graph x.role ≡ Some the_p.0 = ap (λ (c : Cast). program_for past.programs c.graph x.role) ok.same_cast ∙ ap (program_for past.programs first.cast.graph) role ∙ the_p.1 in
        let views : IsViewTable (the_p.0).graph x.role (the_p.0).views = subst (λ z. IsViewTable (the_p.0).graph z (the_p.0).views) (sym role) (prog past.programs own f.receiver the_p.0 the_p.1).1 in
        let there : Contains (the_p.0).views (record { origin = origin x; items = map seen f.items }) = (views.each (record { origin = origin x; items = map seen f.items })).1 rs.view_ in
        let over_ : not (option_map_or (may_return the_p.0) (origin x) true) ≡ true =
        sym (ap (λ q. option_map_or (λ (p : Program). if at_turn p.graph x then not (list_any (λ e. e.source == place p.graph x) p.graph.edges) else not (option_map_or (may_return p) (origin x) true)) q true) prog_x
        ∙ ap (λ b. if b then not (list_any (λ e. e.source == place (the_p.0).graph x) (the_p.0).graph.edges) else not (option_map_or (may_return the_p.0) (origin x) true)) (subst (λ z. at_turn z x ≡ false) (sym p_graph) wt)) ∙ o in
        returns (origin x) refl (in_from_Contains (the_p.0).views (record { origin = origin x; items = map seen f.items }) there) over_
      where
        returns : (o : Option ℕ) → origin x ≡ o → In (the_p.0).views (record { origin = origin x; items = map seen f.items }) → not (option_map_or (may_return the_p.0) (origin x) true) ≡ true → ⊥
        returns None q i h = (let z : false ≡ true = ap (λ o. not (option_map_or (may_return the_p.0) o true)) (sym q) ∙ h in absurd (cc))
        returns (Some e) q i h = clash (may_return the_p.0 e) (in_any (λ (v : View). same_origin v.origin (Some e)) (the_p.0).views (record { origin = origin x; items = map seen f.items }) i (ap (λ o. same_origin o (Some e)) q ∙ eq-eqb e e refl)) (not-true _ (ap (λ o. not (option_map_or (may_return the_p.0) o true)) (sym q) ∙ h))

    -- ---- a frame that joins

    keys_of_past : n.keys ≡ past.keys
    keys_of_past = keys_stay (new_node past.keys past.programs past.first) past.calls

    n_me : n.keys.me ≡ who
    n_me = ((runs_so.0).nodes who past its_past).ok.me

    joins : New known_of_session (run_of sha ps course).log who n → first_some (rows sha n f) ≡ None
    joins t =
        let none_r : has by_role f.receiver (honest_items sid (run_of sha ps course).log) ≡ false = t.none f.receiver who_is r_in in
        let none_before : has by_role f.receiver (honest_items sid sp.0) ≡ false = first_false (has by_role f.receiver (honest_items sid sp.0)) _ (sym (has-both f.receiver (honest_items sid sp.0) (fo.item ∷ [])) ∙ ap (has by_role f.receiver) (sym done_is) ∙ none_r) in
        let jn : f.join ≡ Some first.cast = fo.join_is ∙ ap (λ b. if b then None else Some first.cast) none_before in
        let room = aw.room (ap is_some jn) in
        let wt : at_turn first.program.graph (new_session f.sid first.cast f.receiver) ≡ false = not_first (cases_Bool (role_at (shape first.program.graph) 0 == f.receiver)) none_r in
        let relay : RelayOk sha keys sid first.cast targets first.program.graph (honest_items sid (run_of sha ps course).log) (new_session f.sid first.cast f.receiver) = relay_new sha keys sid first.cast targets first.program.graph (honest_items sid (run_of sha ps course).log) f.sid first.cast f.receiver none_r (λ e. absurd (clash (at_turn first.program.graph (new_session f.sid first.cast f.receiver)) e wt)) in
        let rs = rows_of_ (new_session f.sid first.cast f.receiver) of_sid_ refl refl relay wt in
        let cast_ok : is_cast n.keys (the_p.0).graph first.cast f.receiver ≡ true =
        and_from _ (bytes_eq (principal first.cast f.receiver) n.keys.me) (and_from _ (nat_lt f.receiver (length first.cast.names)) (and_from (length first.cast.names == length (the_p.0).graph.roles) (all_differ first.cast.names) (eq-eqb (length first.cast.names) (length (the_p.0).graph.roles) (first.lengths ∙ ap (λ (z : Graph). length z.roles) (sym p_graph))) first.differ) (lt-ltb f.receiver (length first.cast.names) r_in))
        (bytes_same (principal first.cast f.receiver) n.keys.me (who_is ∙ sym n_me)) in
        let stranger_ok : stranger n.keys first.cast ≡ None = ap (λ z. stranger z first.cast) keys_of_past ∙ ap (stranger past.keys) (sym cast_aw) ∙ aw.covered in
        rows_join sha n f first.cast jn (Some the_p.0) program_n
        ∙ all_none (rows_of_session sha n.keys the_p.0 (new_session f.sid first.cast f.receiver) f) (row (not (is_cast n.keys (the_p.0).graph first.cast f.receiver && nat_lt f.sender (length first.cast.names))) BadCast) (option_map UnknownPeer (stranger n.keys first.cast)) (row (not (bytes_eq f.sid (session_id sha first.cast))) BadSession) (row (has_joined n.joins f.sid f.receiver) Joined) (row (nat_le 65536 (length n.joins)) CacheFull) (row (nat_le 4096 (length n.live)) SessionsFull)
        (ap (λ b. row (not b) BadCast) (and_from (is_cast n.keys (the_p.0).graph first.cast f.receiver) (nat_lt f.sender (length first.cast.names)) cast_ok (lt-ltb f.sender (length first.cast.names) sender_small)))
        (ap (option_map UnknownPeer) stranger_ok)
        (ap (λ b. row (not b) BadSession) (bytes_same f.sid (session_id sha first.cast) (of_sid_ ∙ sym first.sid_is)))
        (ap (λ b. row b Joined) (ap (λ z. has_joined n.joins z f.receiver) of_sid_ ∙ not_joined (ap is_some jn) (cases_Bool (has_joined n.joins sid f.receiver))))
        (ap (λ b. row b CacheFull) (not_over (length n.joins) 65536 room.0))
        (ap (λ b. row b SessionsFull) (not_over (length n.live) 4096 room.1))
        rs.rows_
      where
        not_joined : is_some f.join ≡ true → (has_joined n.joins sid f.receiver ≡ true) ⊎ (has_joined n.joins sid f.receiver ≡ false) → has_joined n.joins sid f.receiver ≡ false
        not_joined j (inl h) = absurd (t.unjoined f.receiver who_is r_in (ap (λ z. has_joined z sid f.receiver) (sym (first_kept sha ps course is_course.right who past its_past)) ∙ ap (λ z. has_joined past.first z f.receiver) (sym of_sid_) ∙ aw.not_first j) h)
        not_joined j (inr h) = h

        not_first : ((role_at (shape first.program.graph) 0 == f.receiver) ≡ true) ⊎ ((role_at (shape first.program.graph) 0 == f.receiver) ≡ false) → has by_role f.receiver (honest_items sid (run_of sha ps course).log) ≡ false → (role_at (shape first.program.graph) 0 == f.receiver) ≡ false
        not_first (inr h) n' = h
        not_first (inl h) n' = absurd (right_empty (honest_items sid sp.0) fo.item (sym done_is ∙ begins_by (honest_items sid (run_of sha ps course).log) flown.steps n'))
          where
            begins_by : (is' : List Item) → StepsOk sha keys sid first.cast targets first.program.graph is' → has by_role f.receiver is' ≡ false → is' ≡ []
            begins_by [] so q = refl
            begins_by (i ∷ is') so q =
                let e : i.role ≡ f.receiver = so.roles.0 ∙ ap (role_at (shape first.program.graph)) so.walk.1 ∙ eqb-true (role_at (shape first.program.graph) 0) f.receiver h in
                absurd (let z : true ≡ false = (rw (eq-eqb i.role f.receiver e) at q) in cc)

        all_none : (os : List (Option Refusal)) (a b c d e g' : Option Refusal) → a ≡ None → b ≡ None → c ≡ None → d ≡ None → e ≡ None → g' ≡ None → first_some os ≡ None → first_some (a ∷ b ∷ c ∷ d ∷ e ∷ g' ∷ os) ≡ None
        all_none os a b c d e g' p1 p2 p3 p4 p5 p6 h = rw (p1, p2, p3, p4, p5, p6) h

    no_row : first_some (rows sha n f) ≡ None
    no_row = go (flown.tracks who past its_past)
      where
        go : Track known_of_session (run_of sha ps course).log who past.programs n → first_some (rows sha n f) ≡ None
        go (inl t) = joins t
        go (inr (inl t)) = continues t.x t.alone t.ok
        go (inr (inr t)) = elim t.why [
          | inl o ↦ absurd (is_over_not t.x t.ok o)
          | inr l ↦ absurd (aw.not_left (subst (λ z. HadAnswer (run_of sha ps course).log who (Abandon z) Abandoned) (sym of_sid_) l))
        ]

    pub answered : answer sha n (Deliver bytes) ≡ Happened (receipt f)
    answered = ap (λ z. verdict_on sha n (read z)) bytes_are ∙ ap (verdict_on sha n) (read-spelling f fo.spelled) ∙ ap (decided (receipt f)) no_row

-- an awaited frame that is delivered next is accepted, by a principal that has the program of its role
pub is_accepted : (sha : Hash) (hash : IsHash sha) (s : Schedule) (ps : List Past) (course : List Happening) (is_course : IsCourse sha s ps course) → Premises sha s (run_of sha ps course)
    → (bytes : List ℕ) (who : Name) (past : Past) (f : Frame) → past_of (run_of sha ps course) who ≡ Some past → (aw : Awaits s (run_of sha ps course) bytes who past f)
    → ((g : Graph) → IsGraph g → In s.graphs g → graph_digest sha g ≡ aw.cast.graph → f.receiver < length g.roles → (p : Program) × (program_for past.programs aw.cast.graph f.receiver ≡ Some p))
    → answer sha (node_of past) (Deliver bytes) ≡ Happened (receipt f)
is_accepted sha hash s ps course is_course premises bytes who past f its_past aw has_program =
    let first : FirstCast sha hash s ps course is_course f.sid = first_cast sha hash s ps course is_course f.sid (some_event f.sid (run_of sha ps course).log aw.cast aw.is_cast) in
    let two : Some first.cast ≡ Some aw.cast = sym first.is_cast ∙ aw.is_cast in
    let same : first.cast ≡ aw.cast = cc in
    answered sha hash s ps course is_course f.sid premises first (subst (λ (c : Cast). All (λ n. is_honest s n ≡ true) c.names) (sym same) aw.all_honest) (subst (HaveOneKeyEach (run_of sha ps course)) (sym same) aw.one_key) bytes who past f its_past aw refl
    (λ l. subst (λ (c : Cast). (p : Program) × (program_for past.programs c.graph f.receiver ≡ Some p)) (sym same) (has_program first.program.graph ((first.own).0).is_graph (first.own).1 (sym ((first.own).0).digest ∙ first.digest ∙ ap (λ (c : Cast). c.graph) same) l))

-- a session whose principals are all honest, and hold one key each two, is at its end, or was abandoned, or the one at its turn can act, or its last frame was not taken
pub never_stuck : (sha : Hash) (hash : IsHash sha) (s : Schedule) (ps : List Past) (course : List Happening) (is_course : IsCourse sha s ps course) → Premises sha s (run_of sha ps course)
    → (sid : List ℕ) (cast : Cast) (g : Graph) → cast_of_session sid (run_of sha ps course).log ≡ Some cast → graph_with sha s.graphs cast.graph ≡ Some g → All (λ n. is_honest s n ≡ true) cast.names → HaveOneKeyEach (run_of sha ps course) cast
    → IsAtEnd g sid (run_of sha ps course).log ⊎ (WasAbandoned cast sid (run_of sha ps course).log ⊎ (CanAct sha (run_of sha ps course) cast g sid ⊎ LastFrame (run_of sha ps course) cast sid))
never_stuck sha hash s ps course is_course premises sid cast g its_cast its_graph honest one_key =
    let some : events_of sid (run_of sha ps course).log ≢ [] = some_event sid (run_of sha ps course).log cast its_cast in
    let first : FirstCast sha hash s ps course is_course sid = first_cast sha hash s ps course is_course sid some in
    let two : Some first.cast ≡ Some cast = sym first.is_cast ∙ its_cast in
    let same : first.cast ≡ cast = cc in
    let three : Some first.program.graph ≡ Some g = sym (W.graph_is sha hash s ps course is_course sid premises first) ∙ ap (λ (c : Cast). graph_with sha s.graphs c.graph) same ∙ its_graph in
    let graph : first.program.graph ≡ g = cc in
    subst (λ z. IsAtEnd z sid (run_of sha ps course).log ⊎ (WasAbandoned cast sid (run_of sha ps course).log ⊎ (CanAct sha (run_of sha ps course) cast z sid ⊎ LastFrame (run_of sha ps course) cast sid))) graph
    (subst (λ c. IsAtEnd first.program.graph sid (run_of sha ps course).log ⊎ (WasAbandoned c sid (run_of sha ps course).log ⊎ (CanAct sha (run_of sha ps course) c first.program.graph sid ⊎ LastFrame (run_of sha ps course) c sid))) same
    (is_never_stuck sha hash s ps course is_course sid premises first (subst (λ (c : Cast). All (λ n. is_honest s n ≡ true) c.names) (sym same) honest) (subst (HaveOneKeyEach (run_of sha ps course)) (sym same) one_key) some))
