-- What a call at a node is to the law: how a node fits its state, what became of a session in the call, and what the call gives.
use Rattle.sg_law.specs.Accept.{TimedLabel}
use Rattle.std.specs.Prelude.{filter_map, ◌≡◌, ℕ, ◌+◌, ◌<◌, ◌||◌, ◌⊎◌, Bool, true, false, List, [], ◌∷◌, ◌++◌, map, filter, flat_map, length, bytes_eq, refl, Some, None, option_map}
use Rattle.std.specs.List.{list_any, AllByRecursion}
use Rattle.std.proofs.Common.{subst}
use Rattle.std.proofs.lemmas.Slice.Eq.{bytes_eq-Decides}
use Rattle.sg_model.specs.Last.{Map, has, last}
use Rattle.sg_model.specs.Shape.{receiver}
use Rattle.sg_model.specs.Values.{Value, Opening}
use Rattle.sg_model.specs.Names.{Name}
use Rattle.sg_protocol.specs.Graph.{Graph, shape}
use Rattle.sg_protocol.specs.Evidence.{IsView}
use Rattle.sg_protocol.specs.Frame.{Cast, Item, Frame}
use Rattle.sg_protocol.specs.Spelling.{HasSpelling}
use Rattle.sg_protocol.specs.Texts.{Hash, commitment, commitment_text_of}
use Rattle.sg_protocol.specs.TextLaws.{OpeningFits}
use Rattle.sg_protocol.specs.Keyring.{Program}
use Rattle.sg_protocol.specs.Session.{Session, Took, Gave, principal, items_of, time, at_turn, extended, new_session, origin}
use Rattle.sg_protocol.specs.Sending.{frame_sent, own_item}
use Rattle.sg_protocol.specs.Calls.{Event, Started, Sent, Call, Deliver, Answer, Happened, Sends, events_of_answer, sid_of}
use Rattle.sg_protocol.specs.Verdict.{seen, receipt}
use Rattle.sg_protocol.specs.Notes.{Note, Notes, session_of_frame}
use Rattle.sg_protocol.specs.Walk.{acts_of_event}
use Rattle.sg_protocol.specs.Schedule.{Schedule, honest_role}
use Rattle.sg_protocol.specs.World.{Answered}
use Rattle.sg_protocol.specs.LastSteps.{exchanges_of, sent_item}
use Rattle.sg_law.specs.Run as R
use Rattle.sg_law.specs.Values.{State, SentItem, Move, Commit}
use Rattle.sg_law.specs.Values.Move.{Takes}
use Rattle.sg_protocol.proofs.Entries.{entry, entries, Roles}
use Rattle.sg_protocol.proofs.Moves.{step, NoteOk, Matches}
use Rattle.sg_model.specs.Lists.{keys_of}
use Rattle.sg_protocol.specs.Acting.{openings_for}
use Rattle.std.specs.Prelude.{Ok}
use Rattle.sg_model.proofs.Small.{clash, first_false}
use Rattle.sg_model.proofs.Members.{In}
use Rattle.sg_protocol.specs.Reading.{read}
use Rattle.sg_protocol.specs.Node.{Node, has_joined, program_for, starter}
use Rattle.sg_protocol.specs.NodeAfter.{node_after, still, is_over}
use Rattle.sg_law.specs.Values.{AllMay, moved_all, deed_of, all_openings}
use Rattle.sg_protocol.proofs.Paths.{acts_of, TypedDeed}
use Rattle.sg_protocol.proofs.KnownSession.{SessionOfCast}
use Rattle.sg_protocol.proofs.Takes as T
use Rattle.sg_protocol.proofs.Acts as C
use Rattle.sg_protocol.proofs.OfSid.{of_sid}

module _ (sid : List ℕ) where
  -- the items of the session that role r took or gave in a call
  abbrev pub transcript_in : ℕ → Call → Answer → List Item
  transcript_in r c a = flat_map items_of (exchanges_of sid r (record { call = c; answer = a } ∷ []))

  -- the own item that was sent in a call
  abbrev pub sent_in : Answer → List Item
  sent_in a = filter_map (sent_item sid) (Answered a ∷ [])

  -- no event of the session
  abbrev pub Quiet : Answer → Type 0
  Quiet a = list_any (λ e. bytes_eq (sid_of e) sid) (events_of_answer a) ≡ false

  pub quiet_event : (e : Event) → bytes_eq (sid_of e) sid ≡ false → (bytes_eq (sid_of e) sid || false) ≡ false
  quiet_event e h = rw h refl

  pub quiet_transcript : (r : ℕ) (c : Call) (a : Answer) → Quiet a → transcript_in r c a ≡ []
  quiet_transcript r c (Happened e) q = rw (first_false (bytes_eq (sid_of e) sid) false q) refl
  quiet_transcript r c (Sends e to f) q = rw (first_false (bytes_eq (sid_of e) sid) false q) refl
  quiet_transcript r c other q = refl

  pub quiet_items : (a : Answer) → Quiet a → sent_in a ≡ []
  quiet_items (Sends e to f) q = rw (first_false (bytes_eq (sid_of e) sid) false q) refl
  quiet_items other q = refl

  -- the call took a frame of the session
  pub record TookFrame (c : Call) (a : Answer) (f : Frame) : Type 0 where
    pub bs : List ℕ
    pub is_call : c ≡ Deliver bs
    pub is_read : read bs ≡ Ok f
    pub is_answer : a ≡ Happened (receipt f)
    pub is_sid : f.sid ≡ sid

  pub quiet_took : (c : Call) (a : Answer) (f : Frame) → Quiet a → TookFrame c a f → ⊥
  quiet_took c a f q t = clash (bytes_eq f.sid sid) ((bytes_eq-Decides f.sid sid).1 t.is_sid) (first_false (bytes_eq f.sid sid) false (subst Quiet t.is_answer q))

  -- nothing became of the session
  pub record Unmoved (n n' : Node) (a : Answer) : Type 0 where
    pub quiet : Quiet a
    pub same : filter (of_sid sid) n'.live ≡ filter (of_sid sid) n.live
    pub fewer : (r : ℕ) → has_joined n'.joins sid r ≡ true → has_joined n.joins sid r ≡ true

module _ {sha : Hash} {programs : List Program} {sid : List ℕ} {cast : Cast} {g : Graph} {Hashed : List ℕ → Type 0} (known : SessionOfCast sha programs sid cast g Hashed) (s : Schedule) (LeftBy : Name → Type 0) where
  abbrev pub commit : Commit
  commit o = commitment sha sid o

  abbrev pub honest : ℕ → Bool
  honest h = honest_role s cast h

  -- the law has nothing of the role yet
  pub record Untouched (st : State) (h : ℕ) : Type 0 where
    pub none : st.transcript h ≡ []
    pub start : st.machine.at h ≡ (R.start (shape g)).at h

  pub record Fresh (st : State) (who : Name) (n : Node) : Type 0 where
    pub alone : filter (of_sid sid) n.live ≡ []
    pub all : (h : ℕ) → principal cast h ≡ who → h < length cast.names → Untouched st h

  pub record Here (st : State) (who : Name) (n : Node) : Type 0 where
    pub x : Session
    pub alone : filter (of_sid sid) n.live ≡ x ∷ []
    pub matches : Matches g sid cast st who x
    pub was_joined : has_joined n.joins sid x.role ≡ true

  -- the session was over, or was left
  pub record Gone (st : State) (who : Name) (n : Node) : Type 0 where
    pub alone : filter (of_sid sid) n.live ≡ []
    pub x : Session
    pub matches : Matches g sid cast st who x
    pub was_joined : has_joined n.joins sid x.role ≡ true
    pub why : (is_over programs x ≡ true) ⊎ LeftBy who

  abbrev pub Status : State → Name → Node → Type 0
  Status st who n = Fresh st who n ⊎ (Here st who n ⊎ Gone st who n)

  -- a node and the law's state fit
  pub record NodeOk (st : State) (who : Name) (n : Node) : Type 0 where
    pub me : n.keys.me ≡ who
    pub has_programs : n.programs ≡ programs
    pub lengths : AllByRecursion (λ (x : Session). length x.sid ≡ 32) n.live
    pub status : Status st who n

  -- only roles of who have changed
  pub record Kept (who : Name) (st st' : State) : Type 0 where
    pub transcript : (h : ℕ) → (principal cast h ≡ who → ⊥) → st'.transcript h ≡ st.transcript h
    pub machine : (h : ℕ) → (principal cast h ≡ who → ⊥) → st'.machine.at h ≡ st.machine.at h

  -- the law's role takes the frame
  pub record TakesFrame (who : Name) (moves : List Move) (f : Frame) : Type 0 where
    pub node : ℕ
    pub are : moves ≡ Takes f.receiver node (entries f.items) f.openings ∷ []
    pub is_who : principal cast f.receiver ≡ who
    pub inside : f.receiver < length cast.names
    pub no_own : has (λ (i : Item). i.role) f.receiver f.items ≡ false
    pub roles : Roles (shape g) f.items

  -- the session was left
  pub record WasLeft (who : Name) (n n' : Node) (a : Answer) : Type 0 where
    pub quiet : Quiet sid a
    pub none : filter (of_sid sid) n'.live ≡ []
    pub by : LeftBy who
    pub fewer : (r : ℕ) → has_joined n'.joins sid r ≡ true → has_joined n.joins sid r ≡ true

  -- a role started the session
  pub record HasStarted (who : Name) (n n' : Node) (a : Answer) : Type 0 where
    pub role : ℕ
    pub program : Program
    pub found_p : starter programs cast.graph ≡ Some program
    pub its_role : program.role ≡ role
    pub is_answer : a ≡ Happened (Started sid role)
    pub is_who : principal cast role ≡ who
    pub inside : role < length cast.names
    pub none : filter (of_sid sid) n.live ≡ []
    pub unjoined : has_joined n.joins sid role ≡ false
    pub now : filter (of_sid sid) n'.live ≡ still programs (new_session sid cast role)
    pub was_joined : has_joined n'.joins sid role ≡ true

  -- a role took a frame, in the session that was there or in a new one
  pub record HasTaken (who : Name) (n n' : Node) (c : Call) (a : Answer) : Type 0 where
    pub f : Frame
    pub spelled : HasSpelling f
    pub took : TookFrame sid c a f
    pub x : Session
    pub same_sid : x.sid ≡ sid
    pub same_cast : x.cast ≡ cast
    pub same_role : f.receiver ≡ x.role
    pub is_who : principal cast x.role ≡ who
    pub inside : x.role < length cast.names
    pub wait : at_turn g x ≡ false
    pub p : Program
    pub is_graph : p.graph ≡ g
    pub rows : T.Rows sha n.keys p x f
    pub before : ((filter (of_sid sid) n.live ≡ x ∷ []) × (f.join ≡ None)) ⊎ ((filter (of_sid sid) n.live ≡ []) × (has_joined n.joins sid x.role ≡ false) × (x ≡ new_session sid cast x.role))
    pub now : filter (of_sid sid) n'.live ≡ still programs (extended x (Took f))
    pub was_joined : has_joined n'.joins sid x.role ≡ true
    pub turn : at_turn g (extended x (Took f)) ≡ true

  -- a role sent a step
  pub record HasGiven (who : Name) (n n' : Node) (a : Answer) : Type 0 where
    pub x : Session
    pub same_sid : x.sid ≡ sid
    pub same_cast : x.cast ≡ cast
    pub is_who : principal cast x.role ≡ who
    pub inside : x.role < length cast.names
    pub p : Program
    pub found_p : program_for programs cast.graph x.role ≡ Some p
    pub is_graph : p.graph ≡ g
    pub label : ℕ
    pub values : Map Value
    pub F : ℕ × Value → List ℕ
    pub small : AllByRecursion (λ k. k < 256) (keys_of values)
    pub rows : C.ActRows g x label values
    pub item : Item
    pub its_last : last (frame_sent sha n.keys p x label (openings_for values (map F values))).items ≡ Some item
    pub is_entry : entry item ≡ entry (own_item sha n.keys p x label (openings_for values (map F values)))
    pub its_role : item.role ≡ x.role
    pub is_answer : a ≡ Sends (Sent x.sid x.role label (time x + 1) values) (principal x.cast (receiver (shape p.graph) label)) (frame_sent sha n.keys p x label (openings_for values (map F values)))
    pub spelled : HasSpelling (frame_sent sha n.keys p x label (openings_for values (map F values)))
    pub before : filter (of_sid sid) n.live ≡ x ∷ []
    pub now : filter (of_sid sid) n'.live ≡ still programs (extended x (Gave item (openings_for values (map F values))))
    pub wait : at_turn g (extended x (Gave item (openings_for values (map F values)))) ≡ false

  -- what became of the session in a call
  abbrev pub Life : Name → Node → Node → Call → Answer → Type 0
  Life who n n' c a = Unmoved sid n n' a ⊎ (WasLeft who n n' a ⊎ (HasStarted who n n' a ⊎ (HasTaken who n n' c a ⊎ HasGiven who n n' a)))

  -- what a call gives
  pub record Out (st : State) (who : Name) (n : Node) (c : Call) (a : Answer) (nts : Notes) : Type 0 where
    pub moves : List Move
    pub may : AllMay (shape g) honest commit st moves
    pub node : NodeOk (moved_all commit st moves) who (node_after n c a)
    pub kept : Kept who st (moved_all commit st moves)
    pub events : flat_map acts_of_event (filter (λ e. bytes_eq (sid_of e) sid) (events_of_answer a)) ≡ flat_map (acts_of g) (map deed_of moves)
    pub typed : AllByRecursion (TypedDeed g honest) (map deed_of moves)
    pub used : AllByRecursion (λ (o : Opening). In nts.hashed (commitment_text_of sid o) × OpeningFits o) (all_openings moves)
    pub made : (nt : Note) → In nts.made nt → NoteOk g sid (moved_all commit st moves).log nt
    pub log : (mk : SentItem) → In st.log mk → In (moved_all commit st moves).log mk
    pub transcript : (r : ℕ) → principal cast r ≡ who → r < length cast.names → ((moved_all commit st moves).transcript r ≡ st.transcript r ++ entries (transcript_in sid r c a)) × Roles (shape g) (transcript_in sid r c a)
    pub sent : ((moved_all commit st moves).machine.sent ≡ st.machine.sent ++ map step (sent_in sid a)) × Roles (shape g) (sent_in sid a)
    pub took : (f : Frame) → TookFrame sid c a f → TakesFrame who moves f
    pub views : (f : Frame) → TookFrame sid c a f → IsView g f.receiver (record { origin = option_map (λ (t : TimedLabel). t.label) (st.machine.at f.receiver).own; items = map seen f.items })
    pub origins : (f : Frame) (p : Program) (x : Session) → TookFrame sid c a f → session_of_frame n f ≡ Some (p, x) → origin x ≡ option_map (λ (t : TimedLabel). t.label) (st.machine.at f.receiver).own
    pub life : Life who n (node_after n c a) c a
    pub more_joins : (r : ℕ) → has_joined n.joins sid r ≡ true → has_joined (node_after n c a).joins sid r ≡ true
