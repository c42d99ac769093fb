-- In a session of honest principals, each frame but the last one was taken, and each role holds what was done until its last step or receipt.
use Rattle.std.specs.Prelude.{◌≡◌, ◌≢◌, ℕ, ◌+◌, ◌<◌, ◌==◌, ◌⊎◌, Bool, true, false, not, if◌then◌else◌, List, [], ◌∷◌, ◌++◌, map, filter, flat_map, find, length, bytes_eq, refl, Option, Some, None, option_map, IfSome, Ok}
use Rattle.std.specs.List.{AllByRecursion, cons_option, list_any}
use Rattle.std.proofs.Common.{sym, ◌∙◌, ap, subst, inl, inr, arith, append-nil, append_assoc}
use Rattle.std.proofs.lemmas.Bool.{cases_Bool, eqb-true, eq-eqb, ne_eqb, not-true}
use Rattle.std.proofs.lemmas.List.{map-append}
use Rattle.std.proofs.lemmas.Slice.Eq.{bytes_eq-Decides}
use Rattle.sg_model.specs.Last.{has, last, last_or, last_of, after_last}
use Rattle.sg_model.specs.Lists.{first_some}
use Rattle.sg_model.specs.Shape.{end_of, role_at, source, sender, receiver}
use Rattle.sg_model.specs.Values.{Opening}
use Rattle.sg_model.specs.Names.{Name}
use Rattle.sg_model.proofs.Small.{clash, same_bytes, bytes_same, or_true, all_weaker, first_false, lt_of, not_empty}
use Rattle.sg_model.proofs.Members.{In, in_from_Contains, contains_from_in, in_left, in_parts, in_last, split_at_end, in_split, split_in, two_splits}
use Rattle.sg_model.proofs.Finding.{find_passes, find-filter, none_filter}
use Rattle.sg_protocol.specs.Graph.{Graph, IsGraph, shape, reads}
use Rattle.sg_protocol.specs.Accepted.{Accepted}
use Rattle.sg_protocol.specs.Frame.{Cast, Frame, Item}
use Rattle.sg_protocol.specs.Spelling.{HasSpelling, spelling}
use Rattle.sg_protocol.specs.Texts.{Hash}
use Rattle.sg_protocol.specs.Keyring.{Keyring, Program, key_of, targets_of, may_return}
use Rattle.sg_protocol.specs.Session.{Session, Took, Gave, principal, origin, place, time, at_turn, extended, new_session}
use Rattle.sg_protocol.specs.Reading.{read}
use Rattle.sg_protocol.specs.Sending.{tag_for, text_of, frame_sent, own_item}
use Rattle.sg_protocol.specs.Calls.{Refusal, UnknownGraph, UnknownSession, Event, Started, Sent, Call, Abandon, Deliver, Answer, Happened, Sends, Abandoned, NotAbandoned, NotDelivered, sid_of, events_of_answer}
use Rattle.sg_protocol.specs.Node.{Node, program_for, starter, is_for, has_joined, session_with}
use Rattle.sg_protocol.specs.NodeAfter.{node_after, still, is_over}
use Rattle.sg_protocol.specs.Acting.{answer, openings_for}
use Rattle.sg_protocol.specs.Verdict.{receipt, decided, rows, rows_of_join, rows_of_next, join_rows, next_rows, verdict_on}
use Rattle.sg_protocol.specs.Notes.{no_notes, notes}
use Rattle.sg_protocol.specs.Past.{Past, node_of, past_after}
use Rattle.sg_protocol.specs.Schedule.{Schedule, PairKey, honest_role}
use Rattle.sg_protocol.specs.World.{World, Logged, Outcome, Answered, past_of, keyring_of}
use Rattle.sg_protocol.specs.Run.{called, uncalled, frame_in, events_of_outcome, events_of}
use Rattle.sg_protocol.specs.Premises.{hashed}
use Rattle.sg_protocol.specs.Receipts.{IsTaken, WasSent}
use Rattle.sg_protocol.specs.LastSteps.{Bare, bare, sent_item, honest_items}
use Rattle.sg_law.specs.Run as R
use Rattle.sg_law.proofs.Upto as Upto'
use Rattle.sg_law.proofs.Cut as Cut'
use Rattle.sg_law.proofs.Lists.{last-append}
use Rattle.sg_protocol.proofs.Paths.{flat_map-append}
use Rattle.sg_protocol.proofs.ReadLaws.{read-spelling}
use Rattle.sg_protocol.proofs.Entries.{Roles}
use Rattle.sg_protocol.proofs.Moves.{step, sender_last}
use Rattle.sg_protocol.proofs.Acts as C
use Rattle.sg_protocol.proofs.Reduced.{by_role, has-both, reduced}
use Rattle.sg_protocol.proofs.Ends.{labels}
use Rattle.sg_protocol.proofs.Relay.{StepsOk, RelayOk, OpensAt, relay_new, relay_other, relay_takes, at_end}
use Rattle.sg_protocol.proofs.RelayGives as Y
use Rattle.sg_protocol.proofs.Entries as Entries'
use Rattle.sg_protocol.proofs.Keys as Keys'
use Rattle.std.specs.Option.{option_map_or}
use Rattle.std.proofs.lemmas.List.Elements.{filter-append}
use Rattle.sg_protocol.proofs.Finding.{one_index}
use Rattle.sg_protocol.proofs.Calls.{Unmoved, WasLeft, HasStarted, HasTaken, HasGiven, TakesFrame}
use Rattle.sg_protocol.proofs.KnownSession.{SessionOfCast}
use Rattle.sg_protocol.proofs.Progressing.{Suffix, past_called, next_past, in_after, in_before, suffix_trans, suffix_one, node_next}
use Rattle.sg_protocol.proofs.Going.{SessionInRun, Progress, Left}
use Rattle.sg_protocol.proofs.Agreeing.{MovesAgree, Outs, With, agree_called, agree_idle, with_all, honest_items-append}
use Rattle.sg_protocol.proofs.HeldKeys.{SameFor, in_at, own_item_same, frame_same}
use Rattle.sg_protocol.proofs.Happenings.{Happening, IsGiven, IsRight, all_happen, pasts_kept}
use Rattle.sg_protocol.proofs.Senders.{decided_none}
use Rattle.sg_protocol.proofs.Showing.{SessionFacts, shows_called}
use Rattle.sg_protocol.proofs.Splits.{rises_mid, role_small}
use Rattle.sg_protocol.proofs.First.{keys_after}
use Rattle.sg_protocol.proofs.LiveSessions.{sends_sid}
use Rattle.sg_protocol.proofs.OfSid.{of_sid, for_sid}
use Rattle.sg_protocol.proofs.NoRows.{starter_found}

next_programs : (sha : Hash) (who : Name) (c : Call) (p : Past) → (next_past sha who c p).programs ≡ p.programs
next_programs sha who c p = elim (cases_Bool (bytes_eq p.keys.me who)) [ inl e ↦ rw e refl | inr e ↦ rw e refl ]

-- what is known of a session whose principals are all honest and hold these keys for each other, in a run that ends in the world wf
pub record HonestSession (sha : Hash) (s : Schedule) (sid : List ℕ) (cast : Cast) (g : Graph) (wf : World) (Own : List Program → Type 0) (keys : List PairKey) (targets : ℕ → List ℕ) (Key : Name → Name → Option (List ℕ)) (First : Name → List (List ℕ × ℕ)) : Type 0 where
  pub of_run : SessionInRun sha s sid cast g wf Own
  pub facts : SessionFacts sha s sid cast g wf
  pub everyone : (r : ℕ) → r < length g.roles → honest_role s cast r ≡ true
  pub same_targets : (xs : List Program) → Own xs → (r : ℕ) (p : Program) → program_for xs cast.graph r ≡ Some p → (e : ℕ) → targets_of p e ≡ targets e
  pub other_targets : (e : ℕ) → e < length g.edges → AllByRecursion (λ t. (t < length g.roles) × (t ≢ sender (shape g) e)) (targets e)
  pub same_key : (a b : ℕ) → a < length cast.names → b < length cast.names → a ≢ b → key_of (keyring_of keys (principal cast a)) (principal cast b) ≡ Key (principal cast a) (principal cast b)
  pub was_sent : (l : Logged) (who : Name) (bs : List ℕ) (f : Frame) → IsTaken wf l who bs f → f.sid ≡ sid → honest_role s cast f.sender ≡ true → In cast.names who → In cast.names (principal cast f.sender) → WasSent wf l.number (principal cast f.sender) bs f
  pub starts : (xs : List Program) → Own xs → (p : Program) → starter xs cast.graph ≡ Some p → role_at (shape g) 0 ≡ p.role

module _ {sha : Hash} {s : Schedule} {sid : List ℕ} {cast : Cast} {g : Graph} {wf : World} {Own : List Program → Type 0} {keys : List PairKey} {targets : ℕ → List ℕ} {Key : Name → Name → Option (List ℕ)} {First : Name → List (List ℕ × ℕ)} (known : HonestSession sha s sid cast g wf Own keys targets Key First) where
  abbrev is : IsGraph g
  is = known.facts.is_graph

  abbrev acc : Accepted g
  acc = known.facts.accepted

  abbrev pub Prog : World → Type 0
  Prog w = Progress known.of_run w

  abbrev pub LeftBy_ : Name → Type 0
  LeftBy_ = Left known.of_run

  abbrev pub Steps_ : List Item → Type 0
  Steps_ done = StepsOk sha keys sid cast targets g done

  abbrev pub Relay_ : List Item → Session → Type 0
  Relay_ done x = RelayOk sha keys sid cast targets g done x

  abbrev pub Opens_ : List Item → Opening → Type 0
  Opens_ past o = OpensAt sha keys sid cast targets g past o

  -- the frame was taken by whom it was sent to
  abbrev pub WasReceived : List Logged → Name → Frame → Type 0
  WasReceived log to f = (m : Logged) × In log m × (m.who ≡ Some to) × (m.call ≡ Some (Deliver (spelling f))) × (m.outcome ≡ Answered (Happened (receipt f)))

  abbrev pub AllReceived : List Logged → Type 0
  AllReceived log = (l : Logged) (e : Event) (to : Name) (f : Frame) → In log l → l.outcome ≡ Answered (Sends e to f) → sid_of e ≡ sid → WasReceived log to f

  -- a frame that was sent
  pub record FrameOk (log before after : List Logged) (l : Logged) (to : Name) (f : Frame) : Type 0 where
    pub item : Item
    pub its_last : last f.items ≡ Some item
    pub receiver_is : f.receiver ≡ receiver (shape g) item.label
    pub sender_is : f.sender ≡ item.role
    pub apart : f.receiver ≢ item.role
    pub to_is : to ≡ principal cast f.receiver
    pub version_is : f.version ≡ cast.version
    pub sid_is : f.sid ≡ sid
    pub items_are : f.items ≡ reduced g (after_last by_role f.receiver (honest_items sid before ++ item ∷ []))
    pub join_is : f.join ≡ (if has by_role f.receiver (honest_items sid before) then None else Some cast)
    pub opened : (map (λ (o : Opening). o.variable) f.openings ≡ reads g item.label) × AllByRecursion (Opens_ (honest_items sid before ++ item ∷ [])) f.openings
    pub tag_is : f.tag ≡ tag_for sha (keyring_of keys (principal cast f.sender)) cast f.receiver (text_of f)
    pub spelled : HasSpelling f
    pub framed : l.frame ≡ Some (spelling f)
    pub taken : (honest_items sid after ≡ [] → ⊥) → WasReceived log to f

  -- a session of a principal
  pub record SessOk (log : List Logged) (who : Name) (x : Session) : Type 0 where
    pub same_sid : x.sid ≡ sid
    pub same_cast : x.cast ≡ cast
    pub is_who : principal cast x.role ≡ who
    pub inside_ : x.role < length cast.names
    pub relay : Relay_ (honest_items sid log) x
    pub taken : at_turn g x ≡ true → AllReceived log
    pub stepped : at_turn g x ≡ false → has by_role x.role (honest_items sid log) ≡ true

  pub record New (log : List Logged) (who : Name) (n : Node) : Type 0 where
    pub alone : filter (of_sid sid) n.live ≡ []
    pub none : (r : ℕ) → principal cast r ≡ who → r < length cast.names → has by_role r (honest_items sid log) ≡ false
    pub unjoined : (r : ℕ) → principal cast r ≡ who → r < length cast.names → has_joined (First who) sid r ≡ false → has_joined n.joins sid r ≡ true → ⊥

  pub record Here (log : List Logged) (who : Name) (n : Node) : Type 0 where
    pub x : Session
    pub alone : filter (of_sid sid) n.live ≡ x ∷ []
    pub ok : SessOk log who x
    pub was_joined : has_joined n.joins sid x.role ≡ true

  pub record Gone (log : List Logged) (who : Name) (xs : List Program) (n : Node) : Type 0 where
    pub x : Session
    pub alone : filter (of_sid sid) n.live ≡ []
    pub ok : SessOk log who x
    pub was_joined : has_joined n.joins sid x.role ≡ true
    pub why : (is_over xs x ≡ true) ⊎ LeftBy_ who

  abbrev pub Track : List Logged → Name → List Program → Node → Type 0
  Track log who xs n = New log who n ⊎ (Here log who n ⊎ Gone log who xs n)

  pub record Flight (w : World) : Type 0 where
    pub sids : (l : Logged) (e : Event) (to : Name) (f : Frame) → In w.log l → l.outcome ≡ Answered (Sends e to f) → sid_of e ≡ f.sid
    pub keys_are : (who : Name) (p : Past) → past_of w who ≡ Some p → (other : Name) → key_of (node_of p).keys other ≡ Key who other
    pub steps : Steps_ (honest_items sid w.log)
    pub tracks : (who : Name) (p : Past) → past_of w who ≡ Some p → Track w.log who p.programs (node_of p)
    pub frames : (before : List Logged) (l : Logged) (after : List Logged) (e : Event) (to : Name) (f : Frame) → w.log ≡ before ++ l ∷ after → l.outcome ≡ Answered (Sends e to f) → sid_of e ≡ sid → FrameOk w.log before after l to f

  -- ---- who has the turn, or which frame is under way

  -- a principal's session is at its turn
  pub record Holder (w : World) : Type 0 where
    pub who : Name
    pub past : Past
    pub its_past : past_of w who ≡ Some past
    pub x : Session
    pub alone : filter (of_sid sid) (node_of past).live ≡ x ∷ []
    pub turn : at_turn g x ≡ true
    pub program : Program
    pub has_program : program_for past.programs cast.graph x.role ≡ Some program

  -- the frame that was sent last was not taken
  pub record Flying (log : List Logged) : Type 0 where
    pub before : List Logged
    pub l : Logged
    pub after : List Logged
    pub e : Event
    pub to : Name
    pub f : Frame
    pub parts : log ≡ before ++ l ∷ after
    pub outcome : l.outcome ≡ Answered (Sends e to f)
    pub of_session : sid_of e ≡ sid
    pub is_sid : f.sid ≡ sid
    pub nothing_later : honest_items sid after ≡ []
    pub untaken : WasReceived log to f → ⊥

  -- no edge leaves the place where the steps end
  abbrev pub NoEdge : List Logged → Type 0
  NoEdge log = list_any (λ e. e.source == end_of (shape g) 0 (labels (honest_items sid log))) g.edges ≡ false

  abbrev pub BatonOf : List Logged → Type 0 → Type 0
  BatonOf log H = (events_of sid log ≡ []) ⊎ (((who : Name) × LeftBy_ who) ⊎ (NoEdge log ⊎ (H ⊎ Flying log)))

  -- the session has no event, or was left, or is at its end, or a role has the turn, or a frame is under way
  abbrev pub Baton : World → Type 0
  Baton w = BatonOf w.log (Holder w)

  -- what was taken in the session had been sent
  abbrev pub Sourced : List Logged → Type 0
  Sourced log = (m : Logged) (f : Frame) → In log m → m.call ≡ Some (Deliver (spelling f)) → m.outcome ≡ Answered (Happened (receipt f)) → f.sid ≡ sid → HasSpelling f → (l : Logged) × (e : Event) × (to : Name) × In log l × (l.outcome ≡ Answered (Sends e to f)) × (sid_of e ≡ sid)

  -- who abandoned the session was of the cast
  abbrev pub LeftFrom : List Logged → Type 0
  LeftFrom log = (l : Logged) (who : Name) → In log l → l.who ≡ Some who → l.call ≡ Some (Abandon sid) → l.outcome ≡ Answered Abandoned → (r : ℕ) × (r < length cast.names) × (principal cast r ≡ who)

  -- what happened at a delivery is the receipt of the frame
  abbrev pub Said : List Logged → Type 0
  Said log = (l : Logged) (bs : List ℕ) (e : Event) (f : Frame) → In log l → l.call ≡ Some (Deliver bs) → l.outcome ≡ Answered (Happened e) → read bs ≡ Ok f → e ≡ receipt f

  pub record FlightOfRun (w : World) : Type 0 where
    pub flight_ : Flight w
    pub sourced : Sourced w.log
    pub baton : Baton w
    pub left_from : LeftFrom w.log
    pub said : Said w.log

  -- ---- later logs

  taken_more : (log : List Logged) (l0 : Logged) (to : Name) (f : Frame) → WasReceived log to f → WasReceived (log ++ l0 ∷ []) to f
  taken_more log l0 to f t = (t.0, in_left log (l0 ∷ []) t.0 t.1, t.2, t.3, t.4)

  -- a log with one more entry that sends nothing in the session
  abbrev Silent : Logged → Type 0
  Silent l = (e : Event) (to : Name) (f : Frame) → l.outcome ≡ Answered (Sends e to f) → sid_of e ≡ sid → ⊥

  silent_item : (l : Logged) → Silent l → sent_item sid l.outcome ≡ None
  silent_item l q = go l.outcome refl
    where
      answered : (a : Answer) → l.outcome ≡ Answered a → sent_item sid (Answered a) ≡ None
      answered (Sends e to f) h = elim (cases_Bool (bytes_eq (sid_of e) sid)) [ inl k ↦ absurd (q e to f h (same_bytes (sid_of e) sid k)) | inr k ↦ rw k refl ]
      answered other h = refl

      go : (o : Outcome) → l.outcome ≡ o → sent_item sid o ≡ None
      go (Answered a) h = answered a h
      go other h = refl

  same_items : (log : List Logged) (l0 : Logged) → Silent l0 → honest_items sid (log ++ l0 ∷ []) ≡ honest_items sid log
  same_items log l0 q = honest_items-append sid log (l0 ∷ []) ∙ ap (λ o. honest_items sid log ++ cons_option o []) (silent_item l0 q) ∙ append-nil (honest_items sid log)

  all_taken_more : (log : List Logged) (l0 : Logged) → Silent l0 → AllReceived log → AllReceived (log ++ l0 ∷ [])
  all_taken_more log l0 q a l e to f i o h = elim (in_parts log (l0 ∷ []) l i) [
    | inl j ↦ taken_more log l0 to f (a l e to f j o h)
    | inr j ↦ elim j [ inl k ↦ absurd (q e to f (ap (λ (z : Logged). z.outcome) (sym k) ∙ o) h) | inr k ↦ absurd k ]
  ]

  sess_more : (log : List Logged) (l0 : Logged) (who : Name) (x : Session) → Silent l0 → SessOk log who x → SessOk (log ++ l0 ∷ []) who x
  sess_more log l0 who x q k = record {
    same_sid = k.same_sid;
    same_cast = k.same_cast;
    is_who = k.is_who;
    inside_ = k.inside_;
    relay = subst (λ l. Relay_ l x) (sym (same_items log l0 q)) k.relay;
    taken = λ t. all_taken_more log l0 q (k.taken t);
    stepped = λ t. ap (has by_role x.role) (same_items log l0 q) ∙ k.stepped t;
  }

  track_more : (log : List Logged) (l0 : Logged) (who : Name) (xs : List Program) (n n' : Node) → Silent l0 → filter (of_sid sid) n'.live ≡ filter (of_sid sid) n.live → ((r : ℕ) → has_joined n.joins sid r ≡ true → has_joined n'.joins sid r ≡ true) → ((r : ℕ) → has_joined n'.joins sid r ≡ true → has_joined n.joins sid r ≡ true) → Track log who xs n → Track (log ++ l0 ∷ []) who xs n'
  track_more log l0 who xs n n' q e j j' (inl t) = inl record { alone = e ∙ t.alone; none = λ r a b. ap (has by_role r) (same_items log l0 q) ∙ t.none r a b; unjoined = λ r a b f h. t.unjoined r a b f (j' r h) }
  track_more log l0 who xs n n' q e j j' (inr (inl t)) = inr (inl record { x = t.x; alone = e ∙ t.alone; ok = sess_more log l0 who t.x q t.ok; was_joined = j (t.x).role t.was_joined })
  track_more log l0 who xs n n' q e j j' (inr (inr t)) = inr (inr record { x = t.x; alone = e ∙ t.alone; ok = sess_more log l0 who t.x q t.ok; was_joined = j (t.x).role t.was_joined; why = t.why })

  frame_more : (log before after : List Logged) (l l0 : Logged) (to : Name) (f : Frame) → ((honest_items sid after ≡ []) → (honest_items sid (after ++ l0 ∷ []) ≡ [] → ⊥) → WasReceived (log ++ l0 ∷ []) to f) → FrameOk log before after l to f → FrameOk (log ++ l0 ∷ []) before (after ++ l0 ∷ []) l to f
  frame_more log before after l l0 to f t k = record {
    item = k.item;
    its_last = k.its_last;
    receiver_is = k.receiver_is;
    sender_is = k.sender_is;
    apart = k.apart;
    to_is = k.to_is;
    version_is = k.version_is;
    sid_is = k.sid_is;
    items_are = k.items_are;
    join_is = k.join_is;
    opened = k.opened;
    tag_is = k.tag_is;
    spelled = k.spelled;
    framed = k.framed;
    taken = λ ne. go (honest_items sid after) refl ne;
  }
    where
      go : (is' : List Item) → honest_items sid after ≡ is' → (honest_items sid (after ++ l0 ∷ []) ≡ [] → ⊥) → WasReceived (log ++ l0 ∷ []) to f
      go [] e ne = t e ne
      go (i ∷ is') e ne = taken_more log l0 to f (k.taken (λ z. (let q : i ∷ is' ≡ [] = sym e ∙ z in absurd (cc))))

  -- frames that were sent before an entry that sends nothing
  frames_silent : (log : List Logged) (l0 : Logged) → Silent l0 → ((before : List Logged) (l : Logged) (after : List Logged) (e : Event) (to : Name) (f : Frame) → log ≡ before ++ l ∷ after → l.outcome ≡ Answered (Sends e to f) → sid_of e ≡ sid → FrameOk log before after l to f)
      → (before : List Logged) (l : Logged) (after : List Logged) (e : Event) (to : Name) (f : Frame) → log ++ l0 ∷ [] ≡ before ++ l ∷ after → l.outcome ≡ Answered (Sends e to f) → sid_of e ≡ sid → FrameOk (log ++ l0 ∷ []) before after l to f
  frames_silent log l0 q old before l after e to f h o i = elim (split_at_end log l0 before l after h) [
    | inl r ↦ subst (λ z. FrameOk (log ++ l0 ∷ []) before z l to f) (sym r.1) (frame_more log before r.0 l l0 to f (λ a ne. absurd (ne (same_items r.0 l0 q ∙ a))) (old before l r.0 e to f r.2 o i))
    | inr r ↦ absurd (q e to f (ap (λ (z : Logged). z.outcome) (sym r.0) ∙ o) i)
  ]

  flight_idle : (w : World) (k : ℕ) → Flight w → (who : Option Name) (o : Outcome) (fr : Option (List ℕ)) → events_of_outcome o ≡ [] → Flight (uncalled w k who o fr)
  flight_idle w k fl who o fr ev =
      record {
        sids = λ l e to f i h. elim (in_parts w.log (record { number = k; who = who; call = None; outcome = o; frame = fr; notes = no_notes } ∷ []) l i) [ inl j ↦ fl.sids l e to f j h | inr j ↦ elim j [ inl q ↦ absurd (let z : e ∷ [] ≡ [] = ap events_of_outcome (sym (ap (λ (z : Logged). z.outcome) (sym q) ∙ h)) ∙ ev in cc) | inr q ↦ absurd q ] ];
        keys_are = fl.keys_are;
        steps = subst Steps_ (sym (same_items w.log (record { number = k; who = who; call = None; outcome = o; frame = fr; notes = no_notes }) quiet)) fl.steps;
        tracks = λ me y e. track_more w.log (record { number = k; who = who; call = None; outcome = o; frame = fr; notes = no_notes }) me y.programs (node_of y) (node_of y) quiet refl (λ r j. j) (λ r j. j) (fl.tracks me y e);
        frames = frames_silent w.log (record { number = k; who = who; call = None; outcome = o; frame = fr; notes = no_notes }) quiet fl.frames;
      }
    where
      quiet : Silent (record { number = k; who = who; call = None; outcome = o; frame = fr; notes = no_notes })
      quiet e to f h i = (let z : e ∷ [] ≡ [] = ap events_of_outcome (sym h) ∙ ev in absurd (cc))

  -- ---- steps that leave the session as it is

  -- an entry that takes nothing in the session
  abbrev NoTake : Logged → Type 0
  NoTake l = (f : Frame) → f.sid ≡ sid → l.outcome ≡ Answered (Happened (receipt f)) → ⊥

  events_more : (log : List Logged) (l0 : Logged) → filter (λ e. bytes_eq (sid_of e) sid) (events_of_outcome l0.outcome) ≡ [] → events_of sid (log ++ l0 ∷ []) ≡ events_of sid log
  events_more log l0 h =
      ap (filter (λ e. bytes_eq (sid_of e) sid)) (flat_map-append (λ (l : Logged). events_of_outcome l.outcome) log (l0 ∷ []) ∙ ap (λ l. flat_map (λ (l : Logged). events_of_outcome l.outcome) log ++ l) (append-nil (events_of_outcome l0.outcome)))
      ∙ filter-append (λ e. bytes_eq (sid_of e) sid) (flat_map (λ (l : Logged). events_of_outcome l.outcome) log) (events_of_outcome l0.outcome)
      ∙ ap (λ l. events_of sid log ++ l) h ∙ append-nil (events_of sid log)

  flying_more : (log : List Logged) (l0 : Logged) → Silent l0 → NoTake l0 → Flying log → Flying (log ++ l0 ∷ [])
  flying_more log l0 q nt fy = record {
    before = fy.before;
    l = fy.l;
    after = fy.after ++ l0 ∷ [];
    e = fy.e;
    to = fy.to;
    f = fy.f;
    parts = ap (λ z. z ++ l0 ∷ []) fy.parts ∙ append_assoc fy.before (fy.l ∷ fy.after) (l0 ∷ []);
    outcome = fy.outcome;
    of_session = fy.of_session;
    is_sid = fy.is_sid;
    nothing_later = same_items fy.after l0 q ∙ fy.nothing_later;
    untaken = λ t. elim (in_parts log (l0 ∷ []) t.0 t.1) [
      | inl j ↦ fy.untaken (t.0, j, t.2, t.3, t.4)
      | inr j ↦ elim j [ inl k ↦ nt fy.f fy.is_sid (ap (λ (z : Logged). z.outcome) (sym k) ∙ t.4) | inr k ↦ absurd k ]
    ];
  }

  baton_more : (log : List Logged) (l0 : Logged) (H H' : Type 0) → Silent l0 → NoTake l0 → filter (λ e. bytes_eq (sid_of e) sid) (events_of_outcome l0.outcome) ≡ [] → (H → H') → BatonOf log H → BatonOf (log ++ l0 ∷ []) H'
  baton_more log l0 H H' q nt ev t b = elim b [
    | inl n ↦ inl (events_more log l0 ev ∙ n)
    | inr r ↦ elim r [
      | inl l ↦ inr (inl l)
      | inr r2 ↦ elim r2 [
        | inl e ↦ inr (inr (inl (subst (λ is. list_any (λ e. e.source == end_of (shape g) 0 (labels is)) g.edges ≡ false) (sym (same_items log l0 q)) e)))
        | inr r3 ↦ elim r3 [ inl h ↦ inr (inr (inr (inl (t h)))) | inr f ↦ inr (inr (inr (inr (flying_more log l0 q nt f)))) ]
      ]
    ]
  ]

  sourced_more : (log : List Logged) (l0 : Logged) → NoTake l0 → Sourced log → Sourced (log ++ l0 ∷ [])
  sourced_more log l0 nt so m f i call o q sp = elim (in_parts log (l0 ∷ []) m i) [
    | inl j ↦ let r = so m f j call o q sp in (r.0, r.1, r.2, in_left log (l0 ∷ []) r.0 r.3, r.4, r.5)
    | inr j ↦ elim j [ inl k ↦ absurd (nt f q (ap (λ (z : Logged). z.outcome) (sym k) ∙ o)) | inr k ↦ absurd k ]
  ]

  run_idle : (w : World) (k : ℕ) → FlightOfRun w → (who : Option Name) (o : Outcome) (fr : Option (List ℕ)) → events_of_outcome o ≡ [] → FlightOfRun (uncalled w k who o fr)
  run_idle w k co who o fr ev = record {
    flight_ = flight_idle w k co.flight_ who o fr ev;
    sourced = sourced_more w.log (record { number = k; who = who; call = None; outcome = o; frame = fr; notes = no_notes }) untook co.sourced;
    baton = baton_more w.log (record { number = k; who = who; call = None; outcome = o; frame = fr; notes = no_notes }) (Holder w) (Holder (uncalled w k who o fr)) quiet untook (ap (filter (λ e. bytes_eq (sid_of e) sid)) ev) (λ h. record { who = h.who; past = h.past; its_past = h.its_past; x = h.x; alone = h.alone; turn = h.turn; program = h.program; has_program = h.has_program }) co.baton;
    left_from = λ l me i q call out. elim (in_parts w.log (record { number = k; who = who; call = None; outcome = o; frame = fr; notes = no_notes } ∷ []) l i) [
      | inl j ↦ co.left_from l me j q call out
      | inr j ↦ elim j [ inl e ↦ absurd (let z : None ≡ Some (Abandon sid) = ap (λ (z : Logged). z.call) (sym e) ∙ call in cc) | inr e ↦ absurd e ]
    ];
    said = λ l bs e f i call out r. elim (in_parts w.log (record { number = k; who = who; call = None; outcome = o; frame = fr; notes = no_notes } ∷ []) l i) [
      | inl j ↦ co.said l bs e f j call out r
      | inr j ↦ elim j [ inl q ↦ absurd (let z : None ≡ Some (Deliver bs) = ap (λ (z : Logged). z.call) (sym q) ∙ call in cc) | inr q ↦ absurd q ]
    ];
  }
    where
      quiet : Silent (record { number = k; who = who; call = None; outcome = o; frame = fr; notes = no_notes })
      quiet e to f h i = (let z : e ∷ [] ≡ [] = ap events_of_outcome (sym h) ∙ ev in absurd (cc))

      untook : NoTake (record { number = k; who = who; call = None; outcome = o; frame = fr; notes = no_notes })
      untook f i h = (let z : receipt f ∷ [] ≡ [] = ap events_of_outcome (sym h) ∙ ev in absurd (cc))

  -- ---- what is sent stands among the items

  sent_is : (e : Event) (to : Name) (f : Frame) → sid_of e ≡ sid → sent_item sid (Answered (Sends e to f)) ≡ last f.items
  sent_is e to f i = rw ((bytes_eq-Decides (sid_of e) sid).1 i) refl

  pub split_items : (before : List Logged) (l : Logged) (after : List Logged) (e : Event) (to : Name) (f : Frame) (item : Item) → l.outcome ≡ Answered (Sends e to f) → sid_of e ≡ sid → last f.items ≡ Some item → honest_items sid (before ++ l ∷ after) ≡ honest_items sid before ++ item ∷ honest_items sid after
  split_items before l after e to f item o i q =
      honest_items-append sid before (l ∷ after)
      ∙ ap (λ z. honest_items sid before ++ cons_option z (honest_items sid after)) (ap (sent_item sid) o ∙ sent_is e to f i ∙ q)

  in_items : (log : List Logged) (l : Logged) (e : Event) (to : Name) (f : Frame) (item : Item) → In log l → l.outcome ≡ Answered (Sends e to f) → sid_of e ≡ sid → last f.items ≡ Some item → honest_items sid log ≡ [] → ⊥
  in_items log l e to f item i o h q n =
      let r = in_split log l i in
      not_empty (honest_items sid r.0) item (honest_items sid r.1) (sym (ap (honest_items sid) r.2 ∙ split_items r.0 l r.1 e to f item o h q) ∙ n)

  -- the last of the items that are shown is the last one that was sent
  newest : (all before after : List Item) (item : Item) (k : ℕ) (shown : List Item) → R.RisesFrom 0 (map step all) → all ≡ before ++ item ∷ after → last shown ≡ Some item → map bare shown ≡ map bare (last_of by_role (after_last by_role k all)) → after ≡ []
  newest all before after item k shown r e l b = go after e
    where
      ends : (ys : List Item) → after_last by_role k all ≡ ys → option_map bare (last ys) ≡ Some (bare item) → option_map bare (last all) ≡ Some (bare item)
      ends [] q h = absurd (let z : None ≡ Some (bare item) = h in cc)
      ends (y ∷ ys) q h = ap (option_map bare) (Upto'.last-after by_role k all y ys q) ∙ h

      last_bare : option_map bare (last all) ≡ Some (bare item)
      last_bare = ends (after_last by_role k all) refl (ap (option_map bare) (sym (Cut'.last-last_of by_role (after_last by_role k all))) ∙ sym (Cut'.last-option_map bare (last_of by_role (after_last by_role k all))) ∙ ap last (sym b) ∙ Cut'.last-option_map bare shown ∙ ap (option_map bare) l)

      go : (rest : List Item) → all ≡ before ++ item ∷ rest → rest ≡ []
      go [] q = refl
      go (c ∷ cs) q =
          let m : (item).time < (last_or c cs).time = rises_mid 0 before item c cs (subst (λ z. R.RisesFrom 0 (map step z)) q r) in
          let s : Some (bare (last_or c cs)) ≡ Some (bare item) = sym (ap (λ z. option_map bare (last z)) q ∙ ap (option_map bare) (last-append before item (c ∷ cs))) ∙ last_bare in
          let s' : bare (last_or c cs) ≡ bare item = cc in
          let t : (last_or c cs).time ≡ item.time = ap (λ (z : Bare). z.time) s' in
          absurd (omega (arith, m, t))

  filter_all : (p : Item → Bool) (xs : List Item) → AllByRecursion (λ i. p i ≡ true) xs → filter p xs ≡ xs
  filter_all p [] a = refl
  filter_all p (x ∷ xs) a = rw a.0 (ap (λ l. x ∷ l) (filter_all p xs a.1))

  all_honest : (xs : List Item) → Roles (shape g) xs → AllByRecursion (λ (i : Item). honest_role s cast i.role ≡ true) xs
  all_honest [] r = tt
  all_honest (i ∷ xs) r = (known.everyone i.role (subst (λ z. z < length g.roles) (sym r.0) (role_small g is acc (source (shape g) i.label))), all_honest xs r.1)

  none_taken : (w : World) → Flight w → honest_items sid w.log ≡ [] → AllReceived w.log
  none_taken w fl none l e to f i o h =
      let r = in_split w.log l i in
      absurd (in_items w.log l e to f (fl.frames r.0 l r.1 e to f r.2 o h).item i o h (fl.frames r.0 l r.1 e to f r.2 o h).its_last none)

  -- ---- a call

  module _ (w : World) (k : ℕ) (p : Prog w) (moves_agree : MovesAgree known.of_run w p) (fl : Flight w) (who : Name) (past : Past) (its_past : past_of w who ≡ Some past) (c : Call) (range : IsGiven c) (after : Suffix (k + 1) (called sha w k who c past).log wf.log)
      (out : Outs known.of_run w k p who past its_past c range after) where
    -- the principal's programs, and the session under them
    abbrev own : Own past.programs
    own = (p.nodes who past its_past).own

    abbrev its : SessionOfCast sha past.programs sid cast g (λ t. In (hashed s wf) t)
    its = known.of_run.of_cast past.programs (p.nodes who past its_past).own

    abbrev Unmoved_ : Node → Node → Answer → Type 0
    Unmoved_ n n' a = Unmoved sid n n' a

    abbrev WasLeft_ : Name → Node → Node → Answer → Type 0
    WasLeft_ who n n' a = WasLeft its s LeftBy_ who n n' a

    abbrev HasStarted_ : Name → Node → Node → Answer → Type 0
    HasStarted_ who n n' a = HasStarted its s LeftBy_ who n n' a

    abbrev HasTaken_ : Name → Node → Node → Call → Answer → Type 0
    HasTaken_ who n n' c a = HasTaken its s LeftBy_ who n n' c a

    abbrev HasGiven_ : Name → Node → Node → Answer → Type 0
    HasGiven_ who n n' a = HasGiven its s LeftBy_ who n n' a

    abbrev n : Node
    n = node_of past

    abbrev a : Answer
    a = answer sha (node_of past) c

    abbrev n' : Node
    n' = node_after (node_of past) c (answer sha (node_of past) c)

    abbrev l0 : Logged
    l0 = record { number = k; who = Some who; call = Some c; outcome = Answered (answer sha (node_of past) c); frame = frame_in (answer sha (node_of past) c); notes = notes sha (node_of past) c }

    abbrev log' : List Logged
    log' = w.log ++ l0 ∷ []

    -- from the tracks of this principal and of others
    assemble : Steps_ (honest_items sid log') → Track log' who past.programs n' → ((me : Name) (y : Past) → (me ≡ who → ⊥) → Track w.log me y.programs (node_of y) → Track log' me y.programs (node_of y))
        → ((before : List Logged) (l : Logged) (after : List Logged) (e : Event) (to : Name) (f : Frame) → log' ≡ before ++ l ∷ after → l.outcome ≡ Answered (Sends e to f) → sid_of e ≡ sid → FrameOk log' before after l to f) → Flight (called sha w k who c past)
    assemble so mine others frames_ = record {
      sids = λ l e to f i h. elim (in_parts w.log (l0 ∷ []) l i) [
        | inl j ↦ fl.sids l e to f j h
        | inr j ↦ elim j [ inl q ↦ (let z : Answered (answer sha (node_of past) c) ≡ Answered (Sends e to f) = ap (λ (z : Logged). z.outcome) (sym q) ∙ h in sends_sid sha (node_of past) c e to f (cc)) | inr q ↦ absurd q ]
      ];
      keys_are = λ me p' e other. (pasts_kept sha w k who past its_past c After after_mine after_others me p' e).0 other;
      steps = so;
      tracks = λ me p' e. (pasts_kept sha w k who past its_past c After after_mine after_others me p' e).1;
      frames = frames_;
    }
      where
        After : Name → Past → Type 0
        After me y = ((other : Name) → key_of (node_of y).keys other ≡ Key me other) × Track log' me y.programs (node_of y)

        node_is : node_of (past_after sha past c) ≡ n'
        node_is = node_next sha past c

        after_mine : After who (past_after sha past c)
        after_mine = (
          λ other. ap (λ (z : Keyring). key_of z other) (ap (λ (m : Node). m.keys) node_is ∙ keys_after (node_of past) c (answer sha (node_of past) c)) ∙ fl.keys_are who past its_past other,
          subst (Track log' who past.programs) (sym node_is) mine,
        )

        after_others : (me : Name) (y : Past) → (me ≡ who → ⊥) → past_of w me ≡ Some y → After me y
        after_others me y ne q = (fl.keys_are me y q, others me y ne (fl.tracks me y q))

    -- if nothing is sent in the session
    assemble_silent : Silent l0 → Track log' who past.programs n' → Flight (called sha w k who c past)
    assemble_silent q mine = assemble (subst Steps_ (sym (same_items w.log l0 q)) fl.steps) mine (λ me y ne t. track_more w.log l0 me y.programs (node_of y) (node_of y) q refl (λ r j. j) (λ r j. j) t) (frames_silent w.log l0 q fl.frames)

    settled : (y : Session) → filter (of_sid sid) n'.live ≡ still past.programs y → SessOk log' who y → has_joined n'.joins sid y.role ≡ true → Track log' who past.programs n'
    settled y e ok j = elim (cases_Bool (is_over past.programs y)) [
      | inl o ↦ inr (inr record { x = y; alone = e ∙ rw o refl; ok = ok; was_joined = j; why = inl o })
      | inr o ↦ inr (inl record { x = y; alone = e ∙ rw o refl; ok = ok; was_joined = j })
    ]

    past_now : past_of (called sha w k who c past) who ≡ Some (next_past sha who c past)
    past_now = past_called sha w k who c past who ∙ ap (option_map (next_past sha who c)) its_past

    -- the node of a principal after the call
    node_now : (y : Past) → past_of w who ≡ Some y → node_of (next_past sha who c y) ≡ n'
    node_now y q =
        let two : Some y ≡ Some past = sym q ∙ its_past in
        let same : y ≡ past = cc in
        let is_me : y.keys.me ≡ who = same_bytes y.keys.me who (find_passes (λ (z : Past). bytes_eq z.keys.me who) w.pasts y q) in
        let here : bytes_eq y.keys.me who ≡ true = (bytes_eq-Decides y.keys.me who).1 is_me in
        ap node_of (ap (λ b. if b then past_after sha y c else y) here) ∙ ap (λ z. node_of (past_after sha z c)) same ∙ node_next sha past c

    -- who had the turn has it still, if the call changes nothing in the session
    holder_more : filter (of_sid sid) n'.live ≡ filter (of_sid sid) n.live → Holder w → Holder (called sha w k who c past)
    holder_more e h = record {
      who = h.who;
      past = next_past sha who c h.past;
      its_past = past_called sha w k who c past h.who ∙ ap (option_map (next_past sha who c)) h.its_past;
      x = h.x;
      alone = elim (cases_Bool (bytes_eq h.past.keys.me who)) [
        | inl b ↦
            let is_me : h.past.keys.me ≡ h.who = same_bytes h.past.keys.me h.who (find_passes (λ (z : Past). bytes_eq z.keys.me h.who) w.pasts h.past h.its_past) in
            let same : h.who ≡ who = sym is_me ∙ same_bytes h.past.keys.me who b in
            let at_who : past_of w who ≡ Some h.past = ap (past_of w) (sym same) ∙ h.its_past in
            let two : Some h.past ≡ Some past = sym at_who ∙ its_past in
            let its : h.past ≡ past = cc in
            ap (λ (z : Node). filter (of_sid sid) z.live) (node_now h.past at_who) ∙ e ∙ ap (λ z. filter (of_sid sid) (node_of z).live) (sym its) ∙ h.alone
        | inr b ↦ ap (λ z. filter (of_sid sid) (node_of (if z then past_after sha h.past c else h.past)).live) b ∙ h.alone
      ];
      turn = h.turn;
      program = h.program;
      has_program = ap (λ xs. program_for xs cast.graph (h.x).role) (next_programs sha who c h.past) ∙ h.has_program;
    }

    -- a session that comes to its turn has it, or is at its end
    held : (y : Session) → (the_p : (p : Program) × (program_for past.programs cast.graph y.role ≡ Some p)) → filter (of_sid sid) n'.live ≡ still past.programs y → y.cast ≡ cast → Relay_ (honest_items sid log') y → at_turn g y ≡ true → Baton (called sha w k who c past)
    held y the_p e its_cast relay turn = elim (cases_Bool (is_over past.programs y)) [
      | inl o ↦ inr (inr (inl (over o)))
      | inr o ↦ inr (inr (inr (inl record { who = who; past = next_past sha who c past; its_past = past_now; x = y; alone = ap (λ (z : Node). filter (of_sid sid) z.live) (node_now past its_past) ∙ e ∙ rw o refl; turn = turn; program = the_p.0; has_program = ap (λ xs. program_for xs cast.graph y.role) (next_programs sha who c past) ∙ the_p.1 })))
    ]
      where
        over : is_over past.programs y ≡ true → NoEdge log'
        over o =
            let p_graph : (the_p.0).graph ≡ g = (its.programs_of y.role the_p.0 the_p.1).0 in
            let prog_y : program_for past.programs y.cast.graph y.role ≡ Some the_p.0 = ap (λ (c : Cast). program_for past.programs c.graph y.role) its_cast ∙ the_p.1 in
            let none : not (list_any (λ e. e.source == place (the_p.0).graph y) (the_p.0).graph.edges) ≡ true =
            sym (ap (λ q. option_map_or (λ (p : Program). if at_turn p.graph y then not (list_any (λ e. e.source == place p.graph y) p.graph.edges) else not (option_map_or (may_return p) (origin y) true)) q true) prog_y
            ∙ ap (λ b. if b then not (list_any (λ e. e.source == place (the_p.0).graph y) (the_p.0).graph.edges) else not (option_map_or (may_return the_p.0) (origin y) true)) (subst (λ z. at_turn z y ≡ true) (sym p_graph) turn)) ∙ o in
            ap (λ m. list_any (λ e. e.source == m) g.edges) (sym (at_end sha keys sid cast targets g (honest_items sid log') y relay turn))
            ∙ subst (λ (z : Graph). list_any (λ e. e.source == place z y) z.edges ≡ false) p_graph (not-true _ none)

    happened_silent : (ev : Event) → a ≡ Happened ev → Silent l0
    happened_silent ev e1 e to f o i = (let z : Answered (Happened ev) ≡ Answered (Sends e to f) = ap (λ z. Answered z) (sym e1) ∙ o in absurd (cc))

    -- an answer without an event of the session
    quiet_silent : list_any (λ e. bytes_eq (sid_of e) sid) (events_of_answer a) ≡ false → Silent l0
    quiet_silent u e to f o i =
        let z : answer sha (node_of past) c ≡ Sends e to f = cc in
        clash (bytes_eq (sid_of e) sid) ((bytes_eq-Decides (sid_of e) sid).1 i) (first_false (bytes_eq (sid_of e) sid) false (subst (λ (b : Answer). list_any (λ e. bytes_eq (sid_of e) sid) (events_of_answer b) ≡ false) z u))

    on_unmoved : Unmoved_ n n' a → Flight (called sha w k who c past)
    on_unmoved u = assemble_silent (quiet_silent u.quiet) (track_more w.log l0 who past.programs n n' (quiet_silent u.quiet) u.same out.more_joins u.fewer (fl.tracks who past its_past))

    on_left : WasLeft_ who n n' a → Flight (called sha w k who c past)
    on_left u = assemble_silent quiet (left (fl.tracks who past its_past))
      where
        quiet : Silent l0
        quiet = quiet_silent u.quiet

        left : Track w.log who past.programs n → Track log' who past.programs n'
        left (inl t) = inl record { alone = u.none; none = λ r a b. ap (has by_role r) (same_items w.log l0 quiet) ∙ t.none r a b; unjoined = λ r a b f h. t.unjoined r a b f (u.fewer r h) }
        left (inr (inl t)) = inr (inr record { x = t.x; alone = u.none; ok = sess_more w.log l0 who t.x quiet t.ok; was_joined = out.more_joins (t.x).role t.was_joined; why = inr u.by })
        left (inr (inr t)) = inr (inr record { x = t.x; alone = u.none; ok = sess_more w.log l0 who t.x quiet t.ok; was_joined = out.more_joins (t.x).role t.was_joined; why = t.why })

    quiet_take : list_any (λ e. bytes_eq (sid_of e) sid) (events_of_answer a) ≡ false → NoTake l0
    quiet_take u f i o =
        let z : answer sha (node_of past) c ≡ Happened (receipt f) = cc in
        clash (bytes_eq f.sid sid) ((bytes_eq-Decides f.sid sid).1 i) (first_false (bytes_eq f.sid sid) false (subst (λ (b : Answer). list_any (λ e. bytes_eq (sid_of e) sid) (events_of_answer b) ≡ false) z u))

    unmoved_baton : Baton w → Unmoved_ n n' a → Baton (called sha w k who c past)
    unmoved_baton b u = baton_more w.log l0 (Holder w) (Holder (called sha w k who c past)) (quiet_silent u.quiet) (quiet_take u.quiet) (none_filter (λ e. bytes_eq (sid_of e) sid) (events_of_answer a) u.quiet) (holder_more u.same) b

    -- a role that has sent nothing is at its turn only at the start
    at_start : (r : ℕ) (done : List Item) → Steps_ done → has by_role r done ≡ false → (role_at (shape g) 0 == r) ≡ true → done ≡ []
    at_start r [] so h t = refl
    at_start r (i ∷ is') so h t =
        let e : i.role ≡ r = so.roles.0 ∙ ap (role_at (shape g)) so.walk.1 ∙ eqb-true (role_at (shape g) 0) r t in
        absurd (let z : true ≡ false = (rw (eq-eqb i.role r e) at h) in cc)

    -- a session before its first exchange
    record Starting (r : ℕ) : Type 0 where
      is_who_ : principal cast r ≡ who
      inside__ : r < length cast.names
      relay_ : Relay_ (honest_items sid w.log) (new_session sid cast r)
      taken_ : at_turn g (new_session sid cast r) ≡ true → AllReceived w.log

    fresh_sess : (r : ℕ) → principal cast r ≡ who → r < length cast.names → has by_role r (honest_items sid w.log) ≡ false → Starting r
    fresh_sess r q l none = record {
      is_who_ = q;
      inside__ = l;
      relay_ = relay_new sha keys sid cast targets g (honest_items sid w.log) sid cast r none (λ t. at_start r (honest_items sid w.log) fl.steps none t);
      taken_ = λ t. none_taken w fl (at_start r (honest_items sid w.log) fl.steps none t);
    }

    unjoined_new : (r : ℕ) → principal cast r ≡ who → r < length cast.names → filter (of_sid sid) n.live ≡ [] → has_joined n.joins sid r ≡ false → Track w.log who past.programs n → Starting r
    unjoined_new r q l none j (inl t) = fresh_sess r q l (t.none r q l)
    unjoined_new r q l none j (inr (inl t)) = absurd (let z : [] ≡ t.x ∷ [] = sym none ∙ t.alone in cc)
    unjoined_new r q l none j (inr (inr t)) = absurd (clash (has_joined n.joins sid r) (subst (λ z. has_joined n.joins sid z ≡ true) (one_index cast.names (t.x).role r known.facts.differ t.ok.inside_ l (t.ok.is_who ∙ sym q)) t.was_joined) j)

    on_started : HasStarted_ who n n' a → Flight (called sha w k who c past)
    on_started h =
        let q : Silent l0 = happened_silent (Started sid h.role) h.is_answer in
        let st : Starting h.role = unjoined_new h.role h.is_who h.inside h.none h.unjoined (fl.tracks who past its_past) in
        let first : at_turn g (new_session sid cast h.role) ≡ true = eq-eqb (role_at (shape g) 0) h.role (known.starts past.programs own h.program h.found_p ∙ h.its_role) in
        assemble_silent q (settled (new_session sid cast h.role) h.now (sess_more w.log l0 who (new_session sid cast h.role) q record {
          same_sid = refl;
          same_cast = refl;
          is_who = st.is_who_;
          inside_ = st.inside__;
          relay = st.relay_;
          taken = st.taken_;
          stepped = λ t. absurd (clash (at_turn g (new_session sid cast h.role)) first t);
        }) h.was_joined)

    started_baton : HasStarted_ who n n' a → Baton (called sha w k who c past)
    started_baton h =
        let q : Silent l0 = happened_silent (Started sid h.role) h.is_answer in
        let st : Starting h.role = unjoined_new h.role h.is_who h.inside h.none h.unjoined (fl.tracks who past its_past) in
        let first : at_turn g (new_session sid cast h.role) ≡ true = eq-eqb (role_at (shape g) 0) h.role (known.starts past.programs own h.program h.found_p ∙ h.its_role) in
        let its_p = subst (λ r. program_for past.programs cast.graph r ≡ Some h.program) h.its_role (starter_found past.programs cast.graph h.program h.found_p).meant in
        held (new_session sid cast h.role) (h.program, its_p) h.now refl (subst (λ l. Relay_ l (new_session sid cast h.role)) (sym (same_items w.log l0 q)) st.relay_) first

    started_take : HasStarted_ who n n' a → NoTake l0
    started_take h f i o = (let z : Answered (Happened (Started sid h.role)) ≡ Answered (Happened (receipt f)) = ap (λ z. Answered z) (sym h.is_answer) ∙ o in absurd (cc))

    -- ---- a frame is taken

    module _ (h : HasTaken_ who n n' c a) where
      abbrev f : Frame
      f = h.f

      silent_ : Silent l0
      silent_ = happened_silent (receipt h.f) h.took.is_answer

      here_wf : In wf.log l0
      here_wf = in_after (k + 1) (called sha w k who c past).log wf.log after l0 (in_last w.log l0)

      taken_wf : IsTaken wf l0 who h.took.bs h.f
      taken_wf = (contains_from_in wf.log l0 here_wf, refl, ap (λ z. Some z) h.took.is_call, h.took.is_read, ap (λ z. Answered z) h.took.is_answer)

      taken_now : IsTaken (called sha w k who c past) l0 who h.took.bs h.f
      taken_now = (contains_from_in log' l0 (in_last w.log l0), refl, ap (λ z. Some z) h.took.is_call, h.took.is_read, ap (λ z. Answered z) h.took.is_answer)

      tf : TakesFrame its s LeftBy_ who out.moves h.f
      tf = out.took h.f h.took

      last_item : (i : Item) × (last f.items ≡ Some i) × (i.role ≡ f.sender)
      last_item = sender_last f h.rows.by_sender

      sender_honest : honest_role s cast f.sender ≡ true
      sender_honest =
          let cut = Cut'.split_end f.items last_item.0 last_item.1 in
          let all = all_honest f.items tf.roles in
          ap (honest_role s cast) (sym last_item.2) ∙ Keys'.all-mid (λ (i : Item). honest_role s cast i.role ≡ true) cut.0 last_item.0 [] (subst (AllByRecursion (λ (i : Item). honest_role s cast i.role ≡ true)) cut.1 all)

      sender_small : f.sender < length cast.names
      sender_small =
          let cut = Cut'.split_end f.items last_item.0 last_item.1 in
          let r : (last_item.0).role ≡ sender (shape g) (last_item.0).label = Keys'.all-mid (λ (i : Item). i.role ≡ sender (shape g) i.label) cut.0 last_item.0 [] (subst (Roles (shape g)) cut.1 tf.roles) in
          subst (λ z. f.sender < z) (sym known.facts.lengths) (subst (λ z. z < length g.roles) (sym (sym last_item.2 ∙ r)) (role_small g is acc (source (shape g) (last_item.0).label)))

      ws : WasSent wf k (principal cast f.sender) h.took.bs h.f
      ws = known.was_sent l0 who h.took.bs h.f taken_wf h.took.is_sid sender_honest (subst (In cast.names) h.is_who (in_at cast.names (h.x).role h.inside)) (in_at cast.names f.sender sender_small)

      ws_in : In w.log ws.0
      ws_in = in_before k w.log wf.log (suffix_trans k (k + 1) w.log (called sha w k who c past).log wf.log (omega arith) (suffix_one k w.log l0 refl) after) ws.0 (in_from_Contains wf.log ws.0 ws.3) ws.4

      sp : (before : List Logged) × (rest : List Logged) × (w.log ≡ before ++ ws.0 ∷ rest)
      sp = in_split w.log ws.0 ws_in

      ws_sid : sid_of ws.1 ≡ sid
      ws_sid = ws.8 ∙ h.took.is_sid

      fo : FrameOk w.log sp.0 sp.1 ws.0 ws.2 h.f
      fo = fl.frames sp.0 ws.0 sp.1 ws.1 ws.2 h.f sp.2 ws.7 ws_sid

      items_are : honest_items sid w.log ≡ honest_items sid sp.0 ++ fo.item ∷ honest_items sid sp.1
      items_are = ap (honest_items sid) sp.2 ∙ split_items sp.0 ws.0 sp.1 ws.1 ws.2 h.f fo.item ws.7 ws_sid fo.its_last

      shows_ : map bare (filter (λ (i : Item). honest_role s cast i.role) f.items) ≡ map bare (last_of by_role (after_last by_role f.receiver (honest_items f.sid log')))
      shows_ = (shows_called known.of_run known.facts w k p moves_agree who past its_past c range after out
          l0 who h.took.bs h.f (next_past sha who c past) (last-append w.log l0 []) taken_now h.took.is_sid past_now).items

      shown_are : map bare f.items ≡ map bare (last_of by_role (after_last by_role f.receiver (honest_items sid w.log)))
      shown_are = ap (map bare) (sym (filter_all (λ (i : Item). honest_role s cast i.role) f.items (all_honest f.items tf.roles))) ∙ shows_
          ∙ ap (λ z. map bare (last_of by_role (after_last by_role f.receiver (honest_items z log')))) h.took.is_sid
          ∙ ap (λ l. map bare (last_of by_role (after_last by_role f.receiver l))) (same_items w.log l0 silent_)

      nothing_after : honest_items sid sp.1 ≡ []
      nothing_after = newest (honest_items sid w.log) (honest_items sid sp.0) (honest_items sid sp.1) fo.item f.receiver f.items fl.steps.times items_are fo.its_last shown_are

      done_is : honest_items sid w.log ≡ honest_items sid sp.0 ++ fo.item ∷ []
      done_is = items_are ∙ ap (λ l. honest_items sid sp.0 ++ fo.item ∷ l) nothing_after

      sess : Relay_ (honest_items sid w.log) h.x
      sess = elim h.before [
        | inl b ↦ here b.0 (fl.tracks who past its_past)
        | inr b ↦ subst (Relay_ (honest_items sid w.log)) (sym b.2) (unjoined_new (h.x).role h.is_who h.inside b.0 b.1 (fl.tracks who past its_past)).relay_
      ]
        where
          here : filter (of_sid sid) n.live ≡ h.x ∷ [] → Track w.log who past.programs n → Relay_ (honest_items sid w.log) h.x
          here e (inl t) = absurd (let z : h.x ∷ [] ≡ [] = sym e ∙ t.alone in cc)
          here e (inr (inl t)) = (let z : t.x ∷ [] ≡ h.x ∷ [] = sym t.alone ∙ e in let q : t.x ≡ h.x = cc in subst (Relay_ (honest_items sid w.log)) q t.ok.relay)
          here e (inr (inr t)) = absurd (let z : h.x ∷ [] ≡ [] = sym e ∙ t.alone in cc)

      bytes_are : h.took.bs ≡ spelling h.f
      bytes_are = (let z : Some h.took.bs ≡ Some (spelling h.f) = sym ws.6 ∙ fo.framed in cc)

      to_who : ws.2 ≡ who
      to_who = fo.to_is ∙ ap (principal cast) h.same_role ∙ h.is_who

      taken_this : WasReceived log' ws.2 h.f
      taken_this = (l0, in_last w.log l0, ap (λ z. Some z) (sym to_who), ap (λ z. Some z) (h.took.is_call ∙ ap (λ z. Deliver z) bytes_are), ap (λ z. Answered z) h.took.is_answer)

      all_taken : AllReceived log'
      all_taken l e to f2 i o hs = elim (in_parts w.log (l0 ∷ []) l i) [
        | inr j ↦ elim j [ inl q ↦ absurd (silent_ e to f2 (ap (λ (z : Logged). z.outcome) (sym q) ∙ o) hs) | inr q ↦ absurd q ]
        | inl j ↦ (let r = in_split w.log l j in by_after r.0 r.1 r.2 (fl.frames r.0 l r.1 e to f2 r.2 o hs) (honest_items sid r.1) refl)
      ]
        where
          by_after : (before rest : List Logged) → w.log ≡ before ++ l ∷ rest → FrameOk w.log before rest l to f2 → (is' : List Item) → honest_items sid rest ≡ is' → WasReceived log' to f2
          by_after before rest e2 fo2 (i2 ∷ is') q = taken_more w.log l0 to f2 (fo2.taken (λ z. (let y : i2 ∷ is' ≡ [] = sym q ∙ z in absurd (cc))))
          by_after before rest e2 fo2 [] q = elim (two_splits sp.0 ws.0 sp.1 before l rest (sym sp.2 ∙ e2)) [
            | inl same ↦
                (let z : Answered (Sends ws.1 ws.2 h.f) ≡ Answered (Sends e to f2) = sym ws.7 ∙ ap (λ (z : Logged). z.outcome) same ∙ o in
                let ff : h.f ≡ f2 = cc in
                let tt' : ws.2 ≡ to = cc in
                subst (λ y. WasReceived log' to y) ff (subst (λ y. WasReceived log' y h.f) tt' taken_this))
            | inr other ↦ elim other [
              | inl j2 ↦ absurd (in_items sp.1 l e to f2 fo2.item j2 o hs fo2.its_last nothing_after)
              | inr j2 ↦ absurd (in_items rest ws.0 ws.1 ws.2 h.f fo.item j2 ws.7 ws_sid fo.its_last q)
            ]
          ]

      taken_relay : Relay_ (honest_items sid w.log) (extended h.x (Took h.f))
      taken_relay = relay_takes sha keys sid cast targets g (honest_items sid w.log) h.x h.f fl.steps sess h.wait h.turn
          (subst (λ r. f.items ≡ reduced g (after_last by_role r (honest_items sid w.log))) h.same_role (fo.items_are ∙ ap (λ l. reduced g (after_last by_role f.receiver l)) (sym done_is)))
          (subst (λ r. has by_role r f.items ≡ false) h.same_role tf.no_own)
          (subst (λ o. IfSome o (λ e. map (λ (o : Opening). o.variable) f.openings ≡ reads g e)) (sym (ap (λ l. last (labels l)) done_is ∙ ap last (map-append (λ (i : Item). i.label) (honest_items sid sp.0) (fo.item ∷ [])) ∙ last-append (labels (honest_items sid sp.0)) (fo.item).label [])) fo.opened.0)
          (subst (λ l. AllByRecursion (Opens_ l) f.openings) (sym done_is) fo.opened.1)
          (λ e. not_empty (honest_items sid sp.0) fo.item [] (sym done_is ∙ e))

      on_taken : Flight (called sha w k who c past)
      on_taken = assemble_silent silent_ (settled (extended h.x (Took h.f)) h.now record {
        same_sid = h.same_sid;
        same_cast = h.same_cast;
        is_who = h.is_who;
        inside_ = h.inside;
        relay = subst (λ l. Relay_ l (extended h.x (Took h.f))) (sym (same_items w.log l0 silent_)) taken_relay;
        taken = λ e. all_taken;
        stepped = λ e. absurd (clash (at_turn g (extended h.x (Took h.f))) h.turn e);
      } h.was_joined)

      n_programs : n.programs ≡ past.programs
      n_programs = (p.nodes who past its_past).ok.has_programs

      no_row : first_some (rows sha n h.f) ≡ None
      no_row = decided_none (receipt h.f) (first_some (rows sha n h.f)) (ap (verdict_on sha n) (sym h.took.is_read) ∙ ap (answer sha n) (sym h.took.is_call) ∙ h.took.is_answer)

      abbrev Under : Type 0
      Under = (p : Program) × (program_for past.programs cast.graph (h.x).role ≡ Some p)

      under : (q : Program) → program_for n.programs cast.graph (h.x).role ≡ Some q → Under
      under q e = (q, ap (λ xs. program_for xs cast.graph (h.x).role) (sym n_programs) ∙ e)

      joins_under : (o : Option Program) → program_for n.programs cast.graph f.receiver ≡ o → first_some (option_map_or (rows_of_join sha n f cast) o (Some UnknownGraph ∷ [])) ≡ None → Under
      joins_under None q e = absurd (let z : Some UnknownGraph ≡ None = e in cc)
      joins_under (Some y) q e = under y (ap (program_for n.programs cast.graph) (sym h.same_role) ∙ q)

      goes_under : (o : Option Program) → program_for n.programs (h.x).cast.graph (h.x).role ≡ o → first_some (option_map_or (rows_of_next sha n f h.x) o (Some UnknownSession ∷ [])) ≡ None → Under
      goes_under None q e = absurd (let z : Some UnknownSession ≡ None = e in cc)
      goes_under (Some y) q e = under y (ap (λ (c : Cast). program_for n.programs c.graph (h.x).role) (sym h.same_cast) ∙ q)

      abbrev next_under : Option Session → List (Option Refusal)
      next_under o = option_map_or (λ z. option_map_or (rows_of_next sha n f z) (program_for n.programs z.cast.graph z.role) (Some UnknownSession ∷ [])) o (Some UnknownSession ∷ [])

      waits_under : (xs : List Session) → filter (of_sid sid) n.live ≡ xs → ((xs ≡ h.x ∷ []) ⊎ (xs ≡ [])) → first_some (next_under (find (is_for f) xs)) ≡ None → Under
      waits_under xs e (inr q) r = absurd (let z : Some UnknownSession ≡ None = ap (λ l. first_some (next_under (find (is_for f) l))) (sym q) ∙ r in cc)
      waits_under xs e (inl q) r = by_for (cases_Bool (is_for f h.x)) (ap (λ l. first_some (next_under (find (is_for f) l))) (sym q) ∙ r)
        where
          by_for : (is_for f h.x ≡ true) ⊎ (is_for f h.x ≡ false) → first_some (next_under (find (is_for f) (h.x ∷ []))) ≡ None → Under
          by_for (inl e) r = goes_under (program_for n.programs (h.x).cast.graph (h.x).role) refl (rw e at r)
          by_for (inr e) r = absurd (let z : Some UnknownSession ≡ None = rw e at r in cc)

      of_session : (z : Session) → is_for f z ≡ true → of_sid sid z ≡ true
      of_session z e = bytes_same z.sid sid (for_sid f z e ∙ h.took.is_sid)

      taken_program : Under
      taken_program = elim (cases_Bool (has by_role f.receiver (honest_items sid sp.0))) [
        | inr e ↦ joins_under (program_for n.programs cast.graph f.receiver) refl (sym (ap (λ o. first_some (option_map_or (join_rows sha n f) o (next_rows sha n f))) (fo.join_is ∙ ap (λ b. if b then None else Some cast) e)) ∙ no_row)
        | inl e ↦
            waits_under (filter (of_sid sid) n.live) refl (elim h.before [ inl b ↦ inl b.0 | inr b ↦ inr b.0 ])
            (ap (λ o. first_some (next_under o)) (find-filter (is_for f) (of_sid sid) of_session n.live) ∙ sym (ap (λ o. first_some (option_map_or (join_rows sha n f) o (next_rows sha n f))) (fo.join_is ∙ ap (λ b. if b then None else Some cast) e)) ∙ no_row)
      ]

      taken_baton : Baton (called sha w k who c past)
      taken_baton = held (extended h.x (Took h.f)) taken_program h.now h.same_cast (subst (λ l. Relay_ l (extended h.x (Took h.f))) (sym (same_items w.log l0 silent_)) taken_relay) h.turn

      taken_sourced : Sourced w.log → Sourced log'
      taken_sourced so m f2 i call o q sp2 = elim (in_parts w.log (l0 ∷ []) m i) [
        | inl j ↦ let r = so m f2 j call o q sp2 in (r.0, r.1, r.2, in_left w.log (l0 ∷ []) r.0 r.3, r.4, r.5)
        | inr j ↦ elim j [ inl e ↦ this e | inr e ↦ absurd e ]
      ]
        where
          this : m ≡ l0 → (l : Logged) × (e : Event) × (to : Name) × In log' l × (l.outcome ≡ Answered (Sends e to f2)) × (sid_of e ≡ sid)
          this e =
              let one : Some (Deliver (spelling f2)) ≡ Some (Deliver h.took.bs) = sym call ∙ ap (λ (z : Logged). z.call) e ∙ ap (λ z. Some z) h.took.is_call in
              let two : spelling f2 ≡ h.took.bs = cc in
              let three : Ok f2 ≡ Ok h.f = sym (read-spelling f2 sp2) ∙ ap read two ∙ h.took.is_read in
              let same : h.f ≡ f2 = cc in
              (ws.0, ws.1, ws.2, in_left w.log (l0 ∷ []) ws.0 ws_in, subst (λ (y : Frame). (ws.0).outcome ≡ Answered (Sends ws.1 ws.2 y)) same ws.7, ws_sid)

    -- ---- a step is sent

    module _ (h : HasGiven_ who n n' a) where
      abbrev os : List Opening
      os = openings_for h.values (map h.F h.values)

      abbrev fr : Frame
      fr = frame_sent sha n.keys h.p h.x h.label (openings_for h.values (map h.F h.values))

      abbrev done : List Item
      done = honest_items sid w.log

      -- what the step gives, in the graph z
      record GivenAt (z : Graph) : Type 0 where
        steps_ : StepsOk sha keys sid cast targets z (done ++ h.item ∷ [])
        relay_ : RelayOk sha keys sid cast targets z (done ++ h.item ∷ []) (extended h.x (Gave h.item os))
        receiver_ : fr.receiver ≡ receiver (shape z) h.label
        apart_ : receiver (shape z) h.label ≢ (h.x).role
        items_ : fr.items ≡ reduced z (after_last by_role (receiver (shape z) h.label) (done ++ h.item ∷ []))
        join_ : fr.join ≡ (if has by_role (receiver (shape z) h.label) done then None else Some cast)
        opened_ : (map (λ (o : Opening). o.variable) fr.openings ≡ reads z h.label) × AllByRecursion (OpensAt sha keys sid cast targets z (done ++ h.item ∷ [])) fr.openings
        tag_ : fr.tag ≡ tag_for sha (keyring_of keys (principal cast (h.x).role)) cast (receiver (shape z) h.label) (text_of fr)
        item_label : (h.item).label ≡ h.label
        item_role : (h.item).role ≡ (h.x).role

      here : Track w.log who past.programs n → (SessOk w.log who h.x) × (has_joined n.joins sid (h.x).role ≡ true)
      here (inl t) = absurd (let z : h.x ∷ [] ≡ [] = sym h.before ∙ t.alone in cc)
      here (inr (inl t)) = (let z : t.x ∷ [] ≡ h.x ∷ [] = sym t.alone ∙ h.before in let q : t.x ≡ h.x = cc in subst (λ (y : Session). SessOk w.log who y × (has_joined n.joins sid y.role ≡ true)) q (t.ok, t.was_joined))
      here (inr (inr t)) = absurd (let z : h.x ∷ [] ≡ [] = sym h.before ∙ t.alone in cc)

      sess_ : SessOk w.log who h.x
      sess_ = (here (fl.tracks who past its_past)).0

      abbrev mine : Keyring
      mine = keyring_of keys (principal cast (h.x).role)

      by_x : sender (shape g) h.label ≡ (h.x).role
      by_x = ap (role_at (shape g)) h.rows.leaves ∙ eqb-true (role_at (shape g) (place g h.x)) (h.x).role h.rows.turn

      in_edges : h.label < length g.edges
      in_edges = lt_of h.label (length g.edges) h.rows.edge

      -- for another of the cast the principal holds what the list of pairs says
      holds : (t : ℕ) → t < length g.roles → t ≢ (h.x).role → SameFor n.keys mine (h.x).cast t
      holds t l ne = subst (λ (c : Cast). SameFor n.keys (keyring_of keys (principal cast (h.x).role)) c t) (sym h.same_cast)
          (fl.keys_are who past its_past (principal cast t) ∙ ap (λ z. Key z (principal cast t)) (sym h.is_who) ∙ sym (known.same_key (h.x).role t h.inside (subst (λ z. t < z) (sym known.facts.lengths) l) (λ q. ne (sym q))))

      holds_targets : AllByRecursion (SameFor n.keys mine (h.x).cast) (targets_of h.p h.label)
      holds_targets = subst (AllByRecursion (SameFor n.keys (keyring_of keys (principal cast (h.x).role)) (h.x).cast)) (sym (known.same_targets past.programs own (h.x).role h.p h.found_p h.label))
          (all_weaker (λ t. (t < length g.roles) × (t ≢ sender (shape g) h.label)) (SameFor n.keys (keyring_of keys (principal cast (h.x).role)) (h.x).cast) (λ t q. holds t q.0 (λ e. q.1 (e ∙ sym by_x))) (targets h.label) (known.other_targets h.label in_edges))

      holds_receiver : SameFor n.keys mine (h.x).cast (receiver (shape (h.p).graph) h.label)
      holds_receiver = subst (λ (z : Graph). SameFor n.keys (keyring_of keys (principal cast (h.x).role)) (h.x).cast (receiver (shape z) h.label)) (sym h.is_graph) (holds (receiver (shape g) h.label) (role_small g is acc _) (λ e. acc.no_self_edge h.label in_edges (by_x ∙ sym e)))

      frame_is : frame_sent sha n.keys h.p h.x h.label os ≡ frame_sent sha (keyring_of keys (principal cast (h.x).role)) h.p h.x h.label os
      frame_is = frame_same sha n.keys (keyring_of keys (principal cast (h.x).role)) h.p h.x h.label os holds_targets holds_receiver

      own_is : own_item sha n.keys h.p h.x h.label os ≡ own_item sha (keyring_of keys (principal cast (h.x).role)) h.p h.x h.label os
      own_is = own_item_same sha n.keys (keyring_of keys (principal cast (h.x).role)) h.p h.x h.label os holds_targets

      given : GivenAt g
      given =
          let is' : IsGraph (h.p).graph = subst IsGraph (sym h.is_graph) is in
          let acc' : Accepted (h.p).graph = subst Accepted (sym h.is_graph) acc in
          let so' : StepsOk sha keys sid cast targets (h.p).graph done = subst (λ z. StepsOk sha keys sid cast targets z done) (sym h.is_graph) fl.steps in
          let k' : RelayOk sha keys sid cast targets (h.p).graph done h.x = subst (λ z. RelayOk sha keys sid cast targets z done h.x) (sym h.is_graph) sess_.relay in
          let rows' : C.ActRows (h.p).graph h.x h.label h.values = subst (λ z. C.ActRows z h.x h.label h.values) (sym h.is_graph) h.rows in
          let tg : targets_of h.p h.label ≡ targets h.label = known.same_targets past.programs own (h.x).role h.p h.found_p h.label in
          let last' : last (frame_sent sha (keyring_of keys (principal cast (h.x).role)) h.p h.x h.label os).items ≡ Some h.item = subst (λ (y : Frame). last y.items ≡ Some h.item) frame_is h.its_last in
          let entry' : Entries'.entry h.item ≡ Entries'.entry (own_item sha (keyring_of keys (principal cast (h.x).role)) h.p h.x h.label os) = subst (λ (y : Item). Entries'.entry h.item ≡ Entries'.entry y) own_is h.is_entry in
          let wait' : at_turn (h.p).graph (extended h.x (Gave h.item os)) ≡ false = subst (λ z. at_turn z (extended h.x (Gave h.item os)) ≡ false) (sym h.is_graph) h.wait in
          subst GivenAt h.is_graph record {
            steps_ = Y.steps_ok sha keys sid cast targets h.p h.x h.label h.values h.F done is' acc' so' k' sess_.same_sid sess_.same_cast rows' h.small tg h.item last' entry' wait';
            relay_ = Y.gives sha keys sid cast targets h.p h.x h.label h.values h.F done is' acc' so' k' sess_.same_sid sess_.same_cast rows' h.small tg h.item last' entry' wait';
            receiver_ = refl;
            apart_ = Y.apart sha keys sid cast targets h.p h.x h.label h.values h.F done is' acc' so' k' sess_.same_sid sess_.same_cast rows' h.small tg h.item last' entry' wait';
            items_ = subst (λ (y : Frame). y.items ≡ reduced (h.p).graph (after_last by_role (receiver (shape (h.p).graph) h.label) (done ++ h.item ∷ []))) (sym frame_is)
                (Y.frame_items sha keys sid cast targets h.p h.x h.label h.values h.F done is' acc' so' k' sess_.same_sid sess_.same_cast rows' h.small tg h.item last' entry' wait');
            join_ = Y.frame_join sha keys sid cast targets h.p h.x h.label h.values h.F done is' acc' so' k' sess_.same_sid sess_.same_cast rows' h.small tg h.item last' entry' wait';
            opened_ = Y.frame_opened sha keys sid cast targets h.p h.x h.label h.values h.F done is' acc' so' k' sess_.same_sid sess_.same_cast rows' h.small tg h.item last' entry' wait';
            tag_ = subst (λ (y : Frame). y.tag ≡ tag_for sha (keyring_of keys (principal cast (h.x).role)) cast (receiver (shape (h.p).graph) h.label) (text_of y)) (sym frame_is)
                (Y.frame_tag sha keys sid cast targets h.p h.x h.label h.values h.F done is' acc' so' k' sess_.same_sid sess_.same_cast rows' h.small tg h.item last' entry' wait');
            item_label = ap (λ (z : Item). z.label) (Y.item_is sha keys sid cast targets h.p h.x h.label h.values h.F done is' acc' so' k' sess_.same_sid sess_.same_cast rows' h.small tg h.item last' entry' wait');
            item_role = ap (λ (z : Item). z.role) (Y.item_is sha keys sid cast targets h.p h.x h.label h.values h.F done is' acc' so' k' sess_.same_sid sess_.same_cast rows' h.small tg h.item last' entry' wait');
          }

      abbrev ev : Event
      ev = Sent (h.x).sid (h.x).role h.label (time h.x + 1) h.values

      items_now : honest_items sid log' ≡ done ++ h.item ∷ []
      items_now = split_items w.log l0 [] ev (principal (h.x).cast (receiver (shape (h.p).graph) h.label)) fr h.item (ap (λ z. Answered z) h.is_answer) h.same_sid h.its_last

      -- another role has no turn now
      other_turn : (y : Session) → Relay_ done y → principal cast y.role ≢ who → at_turn g y ≡ true → ⊥
      other_turn y ry ne t =
          let one : place g y ≡ end_of (shape g) 0 (labels done) = at_end sha keys sid cast targets g done y ry t in
          let two : place g h.x ≡ end_of (shape g) 0 (labels done) = at_end sha keys sid cast targets g done h.x sess_.relay h.rows.turn in
          let roles : y.role ≡ (h.x).role = sym (eqb-true (role_at (shape g) (place g y)) y.role t) ∙ ap (role_at (shape g)) (one ∙ sym two) ∙ eqb-true (role_at (shape g) (place g h.x)) (h.x).role h.rows.turn in
          ne (ap (principal cast) roles ∙ h.is_who)

      other_role : (r : ℕ) → principal cast r ≢ who → ((h.item).role == r) ≡ false
      other_role r ne = ne_eqb (h.item).role r (λ q. ne (ap (principal cast) (sym q ∙ given.item_role) ∙ h.is_who))

      other_sess : (me : Name) (y : Session) → (me ≡ who → ⊥) → SessOk w.log me y → SessOk log' me y
      other_sess me y ne ok =
          let ne' : principal cast y.role ≢ who = λ q. ne (sym ok.is_who ∙ q) in
          record {
            same_sid = ok.same_sid;
            same_cast = ok.same_cast;
            is_who = ok.is_who;
            inside_ = ok.inside_;
            relay = subst (λ l. Relay_ l y) (sym items_now) (relay_other sha keys sid cast targets g done y h.item ok.relay (other_role y.role ne') (other_turn y ok.relay ne'));
            taken = λ t. absurd (other_turn y ok.relay ne' t);
            stepped = λ t. ap (has by_role y.role) items_now ∙ has-both y.role done (h.item ∷ []) ∙ rw (ok.stepped t) refl;
          }

      others : (me : Name) (y : Past) → (me ≡ who → ⊥) → Track w.log me y.programs (node_of y) → Track log' me y.programs (node_of y)
      others me y ne (inl t) = inl record { alone = t.alone; none = λ r q l. ap (has by_role r) items_now ∙ has-both r done (h.item ∷ []) ∙ rw (t.none r q l, other_role r (λ z. ne (sym q ∙ z))) refl; unjoined = t.unjoined }
      others me y ne (inr (inl t)) = inr (inl record { x = t.x; alone = t.alone; ok = other_sess me t.x ne t.ok; was_joined = t.was_joined })
      others me y ne (inr (inr t)) = inr (inr record { x = t.x; alone = t.alone; ok = other_sess me t.x ne t.ok; was_joined = t.was_joined; why = t.why })

      new_frame : (before : List Logged) (l : Logged) (rest : List Logged) (e : Event) (to : Name) (f : Frame) → l ≡ l0 → before ≡ w.log → rest ≡ [] → l.outcome ≡ Answered (Sends e to f) → FrameOk log' before rest l to f
      new_frame before l rest e to f le be re o =
          let z : Answered (Sends ev (principal (h.x).cast (receiver (shape (h.p).graph) h.label)) fr) ≡ Answered (Sends e to f) = ap (λ z. Answered z) (sym h.is_answer) ∙ ap (λ (z : Logged). z.outcome) (sym le) ∙ o in
          let ff : fr ≡ f = cc in
          let tt' : principal (h.x).cast (receiver (shape (h.p).graph) h.label) ≡ to = cc in
          subst (λ b. FrameOk log' b rest l to f) (sym be) (subst (λ r. FrameOk log' w.log r l to f) (sym re) (subst (λ y. FrameOk log' w.log [] y to f) (sym le) (subst (λ y. FrameOk log' w.log [] l0 to y) ff (subst (λ y. FrameOk log' w.log [] l0 y fr) tt' record {
            item = h.item;
            its_last = h.its_last;
            receiver_is = given.receiver_ ∙ ap (receiver (shape g)) (sym given.item_label);
            sender_is = sym given.item_role;
            apart = λ q. given.apart_ (sym given.receiver_ ∙ q ∙ given.item_role);
            to_is = ap (λ (c : Cast). principal c fr.receiver) h.same_cast;
            version_is = ap (λ (c : Cast). c.version) h.same_cast;
            sid_is = h.same_sid;
            items_are = given.items_ ∙ ap (λ r. reduced g (after_last by_role r (done ++ h.item ∷ []))) (sym given.receiver_);
            join_is = given.join_ ∙ ap (λ r. if has by_role r done then None else Some cast) (sym given.receiver_);
            opened = (given.opened_.0 ∙ ap (reads g) (sym given.item_label), given.opened_.1);
            tag_is = given.tag_ ∙ ap (λ r. tag_for sha (keyring_of keys (principal cast (h.x).role)) cast r (text_of fr)) (sym given.receiver_);
            spelled = h.spelled;
            framed = ap frame_in h.is_answer;
            taken = λ ne. absurd (ne refl);
          }))))

      frames_ : (before : List Logged) (l : Logged) (rest : List Logged) (e : Event) (to : Name) (f : Frame) → log' ≡ before ++ l ∷ rest → l.outcome ≡ Answered (Sends e to f) → sid_of e ≡ sid → FrameOk log' before rest l to f
      frames_ before l rest e to f q o i = elim (split_at_end w.log l0 before l rest q) [
        | inl r ↦ subst (λ z. FrameOk log' before z l to f) (sym r.1) (frame_more w.log before r.0 l l0 to f (λ _ _. taken_more w.log l0 to f (sess_.taken h.rows.turn l e to f (subst (λ z. In z l) (sym r.2) (split_in before l r.0)) o i)) (fl.frames before l r.0 e to f r.2 o i))
        | inr r ↦ new_frame before l rest e to f r.0 r.1 r.2 o
      ]

      on_given : Flight (called sha w k who c past)
      on_given = assemble (subst Steps_ (sym items_now) given.steps_)
          (settled (extended h.x (Gave h.item os)) h.now record {
            same_sid = h.same_sid;
            same_cast = h.same_cast;
            is_who = h.is_who;
            inside_ = h.inside;
            relay = subst (λ l. Relay_ l (extended h.x (Gave h.item os))) (sym items_now) given.relay_;
            taken = λ t. absurd (clash (at_turn g (extended h.x (Gave h.item os))) t h.wait);
            stepped = λ t. ap (has by_role (h.x).role) items_now ∙ has-both (h.x).role done (h.item ∷ []) ∙ rw (eq-eqb (h.item).role (h.x).role given.item_role) (or_true (has by_role (h.x).role done));
          } (out.more_joins (h.x).role (here (fl.tracks who past its_past)).1)) others frames_

      -- the frame is new, so nobody has taken it
      given_untaken : Sourced w.log → WasReceived log' (principal (h.x).cast (receiver (shape (h.p).graph) h.label)) fr → ⊥
      given_untaken so t = elim (in_parts w.log (l0 ∷ []) t.0 t.1) [
        | inl j ↦ old (so t.0 fr j t.3 t.4 h.same_sid h.spelled)
        | inr j ↦ elim j [ inl e ↦ absurd (let z : Answered (Sends ev (principal (h.x).cast (receiver (shape (h.p).graph) h.label)) fr) ≡ Answered (Happened (receipt fr)) = ap (λ z. Answered z) (sym h.is_answer) ∙ ap (λ (z : Logged). z.outcome) (sym e) ∙ t.4 in cc) | inr e ↦ absurd e ]
      ]
        where
          ends : (b : List Item) (i : Item) → (c0 : Item) × (cs : List Item) × (b ++ i ∷ [] ≡ c0 ∷ cs) × (last_or c0 cs ≡ i)
          ends [] i = (i, [], refl, refl)
          ends (c0 ∷ cs) i = (c0, cs ++ i ∷ [], refl, go c0 cs)
            where
              go : (d : Item) (ds : List Item) → last_or d (ds ++ i ∷ []) ≡ i
              go d [] = refl
              go d (d' ∷ ds) = go d' ds

          old : (l : Logged) × (e : Event) × (to : Name) × In w.log l × (l.outcome ≡ Answered (Sends e to fr)) × (sid_of e ≡ sid) → ⊥
          old r =
              let sp = in_split w.log r.0 r.3 in
              let fo : FrameOk w.log sp.0 sp.1 r.0 r.2 fr = fl.frames sp.0 r.0 sp.1 r.1 r.2 fr sp.2 r.4 r.5 in
              let z : Some fo.item ≡ Some h.item = sym fo.its_last ∙ h.its_last in
              let same : fo.item ≡ h.item = cc in
              let parts : done ≡ honest_items sid sp.0 ++ fo.item ∷ honest_items sid sp.1 = ap (honest_items sid) sp.2 ∙ split_items sp.0 r.0 sp.1 r.1 r.2 fr fo.item r.4 r.5 fo.its_last in
              let en = ends (honest_items sid sp.1) h.item in
              let all : done ++ h.item ∷ [] ≡ honest_items sid sp.0 ++ fo.item ∷ en.0 ∷ en.1 = ap (λ l. l ++ h.item ∷ []) parts ∙ append_assoc (honest_items sid sp.0) (fo.item ∷ honest_items sid sp.1) (h.item ∷ []) ∙ ap (λ l. honest_items sid sp.0 ++ fo.item ∷ l) en.2 in
              let lt : (fo.item).time < (last_or en.0 en.1).time = rises_mid 0 (honest_items sid sp.0) fo.item en.0 en.1 (subst (λ l. R.RisesFrom 0 (map step l)) all given.steps_.times) in
              let eq : (last_or en.0 en.1).time ≡ (fo.item).time = ap (λ (i : Item). i.time) (en.3 ∙ sym same) in
              absurd (omega (arith, lt, eq))

      given_take : NoTake l0
      given_take f2 i o = (let z : Answered (Sends ev (principal (h.x).cast (receiver (shape (h.p).graph) h.label)) fr) ≡ Answered (Happened (receipt f2)) = ap (λ z. Answered z) (sym h.is_answer) ∙ o in absurd (cc))

      given_baton : Sourced w.log → Baton (called sha w k who c past)
      given_baton so = inr (inr (inr (inr record {
        before = w.log;
        l = l0;
        after = [];
        e = ev;
        to = principal (h.x).cast (receiver (shape (h.p).graph) h.label);
        f = fr;
        parts = refl;
        outcome = ap (λ z. Answered z) h.is_answer;
        of_session = h.same_sid;
        is_sid = h.same_sid;
        nothing_later = refl;
        untaken = given_untaken so;
      })))

    pub flight_called : Flight (called sha w k who c past)
    flight_called = elim out.life [
      | inl u ↦ on_unmoved u
      | inr r ↦ elim r [
        | inl u ↦ on_left u
        | inr r2 ↦ elim r2 [
          | inl u ↦ on_started u
          | inr r3 ↦ elim r3 [ inl u ↦ on_taken u | inr u ↦ on_given u ]
        ]
      ]
    ]

    run_called : Sourced w.log → Baton w → LeftFrom w.log → Said w.log → FlightOfRun (called sha w k who c past)
    run_called so b lf sd = record {
      flight_ = flight_called;
      sourced = both.0;
      baton = both.1;
      left_from = λ l me i q call out'. elim (in_parts w.log (l0 ∷ []) l i) [
        | inl j ↦ lf l me j q call out'
        | inr j ↦ elim j [
          | inl e ↦
              let z : Some who ≡ Some me = ap (λ (z : Logged). z.who) (sym e) ∙ q in
              let same : who ≡ me = cc in
              let y : Some c ≡ Some (Abandon sid) = ap (λ (z : Logged). z.call) (sym e) ∙ call in
              let c_is : c ≡ Abandon sid = cc in
              let x' : Answered (answer sha (node_of past) c) ≡ Answered Abandoned = ap (λ (z : Logged). z.outcome) (sym e) ∙ out' in
              let a_is : answer sha (node_of past) c ≡ Abandoned = cc in
              let r = leaves_ (fl.tracks who past its_past) (ap (answer sha (node_of past)) (sym c_is) ∙ a_is) in (r.0, r.1, r.2 ∙ same)
          | inr e ↦ absurd e
        ]
      ];
      said = λ l bs e f i call out' r. elim (in_parts w.log (l0 ∷ []) l i) [
        | inl j ↦ sd l bs e f j call out' r
        | inr j ↦ elim j [
          | inl q ↦
              let y : Some c ≡ Some (Deliver bs) = ap (λ (z : Logged). z.call) (sym q) ∙ call in
              let c_is : c ≡ Deliver bs = cc in
              let x' : Answered (answer sha (node_of past) c) ≡ Answered (Happened e) = ap (λ (z : Logged). z.outcome) (sym q) ∙ out' in
              let a_is : answer sha (node_of past) c ≡ Happened e = cc in
              decided_is (receipt f) (first_some (rows sha (node_of past) f)) e (ap (verdict_on sha (node_of past)) (sym r) ∙ ap (answer sha (node_of past)) (sym c_is) ∙ a_is)
          | inr q ↦ absurd q
        ]
      ];
    }
      where
        decided_is : (r : Event) (o : Option Refusal) (e : Event) → decided r o ≡ Happened e → e ≡ r
        decided_is r None e h = (let z : r ≡ e = cc in sym z)
        decided_is r (Some x) e h = absurd (let z : NotDelivered x ≡ Happened e = h in cc)

        leaves_ : Track w.log who past.programs n → answer sha (node_of past) (Abandon sid) ≡ Abandoned → (r : ℕ) × (r < length cast.names) × (principal cast r ≡ who)
        leaves_ (inl t) q =
            let none : session_with (node_of past).live sid ≡ None = sym (find-filter (λ (z : Session). bytes_eq z.sid sid) (of_sid sid) (λ z e. e) (node_of past).live) ∙ ap (find (λ (z : Session). bytes_eq z.sid sid)) t.alone in
            absurd (let z : NotAbandoned ≡ Abandoned = sym (ap (λ o. option_map_or (λ s. Abandoned) o NotAbandoned) none) ∙ q in cc)
        leaves_ (inr (inl t)) q = ((t.x).role, t.ok.inside_, t.ok.is_who)
        leaves_ (inr (inr t)) q = ((t.x).role, t.ok.inside_, t.ok.is_who)

        both : Sourced log' × Baton (called sha w k who c past)
        both = elim out.life [
          | inl u ↦ (sourced_more w.log l0 (quiet_take u.quiet) so, unmoved_baton b u)
          | inr r ↦ elim r [
            | inl u ↦ (sourced_more w.log l0 (quiet_take u.quiet) so, inr (inl (who, u.by)))
            | inr r2 ↦ elim r2 [
              | inl u ↦ (sourced_more w.log l0 (started_take u) so, started_baton u)
              | inr r3 ↦ elim r3 [ inl u ↦ (taken_sourced u so, taken_baton u) | inr u ↦ (sourced_more w.log l0 (given_take u) so, given_baton u so) ]
            ]
          ]
        ]

  -- what is known of a world on the way
  abbrev pub OnTheWay : (w : World) → Prog w → Type 0
  OnTheWay w p = MovesAgree known.of_run w p × FlightOfRun w

  pub flight_of_run : (w : World) (k : ℕ) → With known.of_run OnTheWay w → (hs : List Happening) → AllByRecursion IsRight hs → all_happen sha w k hs ≡ wf → With known.of_run OnTheWay wf
  flight_of_run = with_all known.of_run OnTheWay
      (λ w k p h who o fr e. (agree_idle known.of_run w k p h.0 who o fr e, run_idle w k h.1 who o fr e))
      (λ w k p h who past its_past c r after out. (agree_called known.of_run w k p who past its_past c r after h.0 out, run_called w k p h.0 h.1.flight_ who past its_past c r after out h.1.sourced h.1.baton h.1.left_from h.1.said))
