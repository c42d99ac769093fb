-- What a node answers to an act, and what is live after it.
use Rattle.std.specs.Prelude.{◌≡◌, ℕ, ◌+◌, ◌==◌, true, false, not, if◌then◌else◌, List, [], ◌∷◌, map, find, refl, Option, Some, None, option_map, Ok}
use Rattle.std.specs.List.{AllByRecursion, list_any}
use Rattle.std.specs.Option.{option_or, option_map_or}
use Rattle.std.proofs.Common.{sym, ◌∙◌, ap, subst, append-nil}
use Rattle.std.proofs.lemmas.Bool.{eq-eqb}
use Rattle.indexmap.specs.IndexMap.{set_value_at}
use Rattle.sg_model.specs.Last.{Map, last}
use Rattle.sg_model.specs.Lists.{first_some}
use Rattle.sg_model.specs.Shape.{receiver}
use Rattle.sg_model.specs.Values.{Value, Opening}
use Rattle.sg_protocol.specs.Graph.{shape}
use Rattle.sg_protocol.specs.Frame.{Item, Frame}
use Rattle.sg_protocol.specs.Spelling.{spelling}
use Rattle.sg_protocol.specs.Keyring.{Keyring, Program, may_return}
use Rattle.sg_protocol.specs.Session.{Session, principal, time, at_turn, last_label, Gave}
use Rattle.sg_protocol.specs.Sending.{own_item, frame_sent}
use Rattle.sg_protocol.specs.Verdict.{row}
use Rattle.sg_protocol.specs.Calls.{Answer, Act, Sent as SentEvent, Sends, NotActed, UnknownSession, NotYourTurn, Send, SendFault, ActFault, NoSuchLabel, BadValues, TimeSpent}
use Rattle.sg_protocol.specs.Acting.{openings_for, sent, acted, rows_of_send, rows_of_act, answer}
use Rattle.sg_protocol.specs.Node.{Node, program_for, session_with}
use Rattle.sg_protocol.specs.Notes.{Notes, no_notes, notes, notes_of_act, notes_of_sent}
use Rattle.sg_protocol.specs.Past.{Past, node_of}
use Rattle.sg_protocol.specs.IsSchedule.{IsProgram}
use Rattle.sg_protocol.specs.Bounds.{IsShortFrame}
use Rattle.sg_protocol.specs.Ranges.{AreValues}
use Rattle.sg_protocol.specs.Texts.{real}
use Rattle.sg_protocol.specs.Representation.{Held, RepresentsAtTurn, held_after}
use Rattle.sg_protocol.specs.Reachable.{IsReachableAtTurn, IsReachableWaiting}
use Rattle.sg_protocol.specs.NodeStates.{RepresentsNode, RepresentsPast, RepresentsIf, has_sid, is_spent, unless_spent, still_held, state_after}
use Rattle.sg_protocol.proofs.Reachable.{states_are_reachable}
use Rattle.sg_protocol.proofs.NodeStates.{node_states_represent}
use Rattle.sg_protocol.proofs.RealHash.{real_hash}
use Rattle.sg_walk.specs.Model.{event_of}
use Rattle.sg_role.specs.Model.{RoleState}
use Rattle.sg_role.specs.Sending.{WaitsOrEnds, with_notes, step_of}
use Rattle.sg_role.specs.declared.sent.Sent.{Sent}
use Rattle.sg_role.specs.declared.sent.Sent.TheVariants as Done
use Rattle.sg_node.specs.declared.node.Node.TheInside.{Inside}
use Rattle.sg_node.specs.declared.sessions.Live.{Live}
use Rattle.sg_node.specs.declared.sessions.Live.TheVariants.{AtTurn, Waiting}
use Rattle.sg_node.specs.Slots.{Slot, state_in, held_at, held_in, is_of, first_index, left_by}
use Rattle.sg_role.specs.Faults.{RefusesToSend}
use Rattle.sg_role.specs.declared.fault.SendFault.{SendFault as RoleFault}
use Rattle.sg_role.specs.declared.fault.SendFault.TheVariants as sending
use Rattle.sg_receipt.specs.declared.answer.Happened.{Happened}
use Rattle.sg_receipt.specs.Answers.{IsAnswerOfAct}
use Rattle.sg_node.specs.Answers.{GoesOn, is_sending}
use Rattle.sg_node.specs.Faults.{send_fault}
use Rattle.sg_node.specs.Invariant.{IsLiveAt, IfLive, IsSlot, HoldsNode, node_state}
use Rattle.sg_node.proofs.Indices.{live_at, Tests, First, held_first}
use Rattle.sg_node.proofs.Leaving.{tests_sid}
use Rattle.sg_node.proofs.Going.{all_reachable, goes_on}
use Rattle.sg_node.proofs.InSlots.{Its, turn_held, AtIndex, none_here, its_slot, replaced, its_program, session_here}

mapped : {A B : Type 0} (f : A → B) (os : List (Option A)) → first_some (map (option_map f) os) ≡ option_map f (first_some os)
mapped f [] = refl
mapped f (None ∷ os) = mapped f os
mapped f (Some x ∷ os) = refl

-- what is noted beside nothing
pub with_none : (n : Notes) → n ≡ with_notes n no_notes
with_none n = λ i. record { made = sym (append-nil n.made) i; found = sym (append-nil n.found) i; hashed = sym (append-nil n.hashed) i }

-- ---- the answer

module _ (m : Node) (sid : List ℕ) (label : ℕ) (values : Map Value) (confs : List (List ℕ)) where
  abbrev under : Session → Option Program → Answer
  under s o = option_map_or (λ p. acted (sent real m.keys p s label values confs) (first_some (rows_of_act p s label values))) o (NotActed UnknownSession)

  abbrev with : Option Session → Answer
  with o = option_map_or (λ (s : Session). under s (program_for m.programs (s.cast).graph s.role)) o (NotActed UnknownSession)

  no_such : session_with m.live sid ≡ None → answer real m (Act sid label values confs) ≡ NotActed UnknownSession
  no_such e = ap with e

  -- a refusal notes nothing
  pub quiet : (fault : ActFault) → answer real m (Act sid label values confs) ≡ NotActed fault → notes real m (Act sid label values confs) ≡ no_notes
  quiet fault e = ap (notes_of_act m sid (openings_for values confs)) e

  module _ (s : Session) (p : Program) (e : session_with m.live sid ≡ Some s) (q : program_for m.programs (s.cast).graph s.role ≡ Some p) where
    by_rows : answer real m (Act sid label values confs) ≡ acted (sent real m.keys p s label values confs) (first_some (rows_of_act p s label values))
    by_rows = ap with e ∙ ap (under s) q

    waiting : at_turn p.graph s ≡ false → answer real m (Act sid label values confs) ≡ NotActed NotYourTurn
    waiting w = by_rows ∙ ap (λ b. acted (sent real m.keys p s label values confs) (first_some (row (not b) NotYourTurn ∷ map (option_map Send) (rows_of_send p s label values)))) w

    rows_at_turn : at_turn p.graph s ≡ true → first_some (rows_of_act p s label values) ≡ option_map Send (first_some (rows_of_send p s label values))
    rows_at_turn t = ap (λ b. first_some (row (not b) NotYourTurn ∷ map (option_map Send) (rows_of_send p s label values))) t ∙ mapped Send (rows_of_send p s label values)

    refused : at_turn p.graph s ≡ true → (fault : SendFault) → first_some (rows_of_send p s label values) ≡ Some fault → answer real m (Act sid label values confs) ≡ NotActed (Send fault)
    refused t fault f = by_rows ∙ ap (acted (sent real m.keys p s label values confs)) (rows_at_turn t ∙ ap (option_map Send) f)

    is_sent : at_turn p.graph s ≡ true → first_some (rows_of_send p s label values) ≡ None → answer real m (Act sid label values confs) ≡ sent real m.keys p s label values confs
    is_sent t f = by_rows ∙ ap (acted (sent real m.keys p s label values confs)) (rows_at_turn t ∙ ap (option_map Send) f)

    noted : at_turn p.graph s ≡ true → first_some (rows_of_send p s label values) ≡ None →
        notes real m (Act sid label values confs) ≡ notes_of_sent m.keys p s (frame_sent real m.keys p s label (openings_for values confs)) (openings_for values confs)
    noted t f =
        let written : List Opening = openings_for values confs in
        let frame : Frame = frame_sent real m.keys p s label written in
        ap (notes_of_act m sid written) (is_sent t f)
        ∙ ap (λ (o : Option Session). option_map_or (λ s. option_map_or (λ p. notes_of_sent m.keys p s frame written) (program_for m.programs (s.cast).graph s.role) no_notes) o no_notes) e
        ∙ ap (λ (o : Option Program). option_map_or (λ p. notes_of_sent m.keys p s frame written) o no_notes) q

-- ---- what is left

module _ (p : Program) (h : Held) (s : Session) (keys : Keyring) (label : ℕ) (values : Map Value) (confs : List (List ℕ))
    (ip : IsProgram real p) (b : IsReachableAtTurn real p h) (st : RepresentsAtTurn p.graph h s) (none : first_some (rows_of_send p s label values) ≡ None) (good : AreValues values confs) where
  abbrev own : Item
  own = own_item real keys p s label (openings_for values confs)

  abbrev now : Held
  now = held_after p.graph h (Gave own (openings_for values confs))

  given : (last (frame_sent real keys p s label (openings_for values confs)).items ≡ Some own) × IsShortFrame (frame_sent real keys p s label (openings_for values confs)) × IsReachableWaiting real p now
  given = (states_are_reachable real real_hash).gives keys p h s label values confs ip b st
      (ap (λ b. first_some (row (not b) NotYourTurn ∷ map (option_map Send) (rows_of_send p s label values))) st.turn ∙ mapped Send (rows_of_send p s label values) ∙ ap (option_map Send) none) good

  origin_now : (now.kept).origin ≡ Some label
  origin_now = ap (λ b. option_or (last_label (if b then own ∷ [] else [])) (h.kept).origin) (eq-eqb s.role h.role (sym (ap (λ (z : Held). z.role) st.holds)))

  spent : is_spent p now ≡ not (may_return p label)
  spent =
      let w : IsReachableWaiting real p now = given.2 in
      ap (λ b. if b then not (list_any (λ e. e.source == (now.kept).place) p.graph.edges) else not (option_map_or (may_return p) (now.kept).origin true)) (turn_held p.graph now w.session w.represents.before.holds ∙ w.represents.waits)
      ∙ ap (λ o. not (option_map_or (may_return p) o true)) origin_now

  unless : (x : Sent) → WaitsOrEnds (may_return p label) (record { program = p; held = now }) x → unless_spent p now ≡ held_at (left_by x)
  unless (Done.Waiting a e f) w = ap (λ b. if b then [] else now ∷ []) (spent ∙ ap not w.0) ∙ ap (λ (z : RoleState). z.held ∷ []) (sym w.1)
  unless (Done.Ended d e f) w = ap (λ b. if b then [] else now ∷ []) (spent ∙ ap not w)

  left_live : (ps : List Program) (id : List ℕ) (r : ℕ) → IsLiveAt ps id r (AtTurn (record { program = p; held = h })) → (x : Sent) → WaitsOrEnds (may_return p label) (record { program = p; held = now }) x → IfLive ps id r (left_by x)
  left_live ps id r l (Done.Waiting a e f) w = subst (λ (z : RoleState). IsLiveAt ps id r (Waiting z)) (sym w.1) (record { sid = l.sid; role = l.role; program = l.program; reachable = given.2 })
  left_live ps id r l (Done.Ended d e f) w = tt

-- ---- by the state of a node

-- what a turn's sending says of each session that it represents
pub record SentBy (keys : Keyring) (t : RoleState) (label : ℕ) (values : Map Value) (confs : List (List ℕ)) (x : Sent) : Type 0 where
  pub accepted : (s : Session) → RepresentsAtTurn t.program.graph t.held s → first_some (rows_of_send t.program s label values) ≡ None
  pub state : (s : Session) → RepresentsAtTurn t.program.graph t.held s → WaitsOrEnds (may_return t.program label)
      (record { program = t.program; held = held_after t.program.graph t.held (Gave (own_item real keys t.program s label (openings_for values confs)) (openings_for values confs)) }) x

module _ (n : Inside) (h : HoldsNode n) (sid : List ℕ) where
  pub tests : AllByRecursion (Tests (has_sid sid) (is_of false sid)) n.sessions.slots
  tests = tests_sid n.programs.now n.joins.pairs sid n.sessions.slots h.slots

  pub represents_if : (m : Node) → RepresentsNode (node_state n) m → RepresentsIf m.programs (find (has_sid sid) (held_in n.sessions.slots)) (session_with m.live sid)
  represents_if m st = (node_states_represent real real_hash).finds_session m.programs (held_in n.sessions.slots) m.live sid st.live

  pub first_at : (i : ℕ) → first_index (is_of false sid) n.sessions.slots ≡ Some i → First (has_sid sid) (is_of false sid) n.sessions.slots i
  first_at i e = held_first (has_sid sid) (is_of false sid) n.sessions.slots i tests e

  module _ (i : ℕ) (l : Live) (e : first_index (is_of false sid) n.sessions.slots ≡ Some i) (there : live_at n.sessions.slots i ≡ Some l) where
    at : AtIndex n.programs.now n.joins.pairs n.sessions.slots i l
    at = its_slot n h (has_sid sid) (is_of false sid) tests i l e there

    program_at : IsProgram real (state_in l).program
    program_at = its_program n h (has_sid sid) (is_of false sid) tests i l e there

    pub session_at : (m : Node) → RepresentsNode (node_state n) m → Its m.programs l (session_with m.live sid)
    session_at m st = session_here n h (has_sid sid) (is_of false sid) tests i l e there m st (session_with m.live sid) (represents_if m st)

module _ (n : Inside) (h : HoldsNode n) (m : Node) (st : RepresentsNode (node_state n) m) (sid : List ℕ) (label : ℕ) (values : Map Value) (confs : List (List ℕ)) where
  -- no session has the sid
  pub not_there : first_index (is_of false sid) n.sessions.slots ≡ None → answer real m (Act sid label values confs) ≡ NotActed UnknownSession
  not_there e = no_such m sid label values confs (none_here n h (has_sid sid) (is_of false sid) (tests n h sid) e m.programs (session_with m.live sid) (represents_if n h sid m st))

  module _ (i : ℕ) (e : first_index (is_of false sid) n.sessions.slots ≡ Some i) (t : RoleState) where
    -- it waits
    pub not_its_turn : live_at n.sessions.slots i ≡ Some (Waiting t) → answer real m (Act sid label values confs) ≡ NotActed NotYourTurn
    not_its_turn there =
        let x = session_at n h sid i (Waiting t) e there m st in
        waiting m sid label values confs x.session t.program x.is x.program x.represents.waits

    module _ (there : live_at n.sessions.slots i ≡ Some (AtTurn t)) where
      pub its_session : Its m.programs (AtTurn t) (session_with m.live sid)
      its_session = session_at n h sid i (AtTurn t) e there m st

      -- it is at its turn, and sends the step
      pub would_send : ((s : Session) → RepresentsAtTurn t.program.graph t.held s → first_some (rows_of_send t.program s label values) ≡ None) → is_sending (answer real m (Act sid label values confs)) ≡ true
      would_send f = let x = its_session in ap is_sending (is_sent m sid label values confs x.session t.program x.is x.program x.represents.turn (f x.session x.represents))

      -- it is at its turn, and does not send the step
      pub not_sent : (fault : SendFault) → ((s : Session) → RepresentsAtTurn t.program.graph t.held s → first_some (rows_of_send t.program s label values) ≡ Some fault) → answer real m (Act sid label values confs) ≡ NotActed (Send fault)
      not_sent fault f = let x = its_session in refused m sid label values confs x.session t.program x.is x.program x.represents.turn fault (f x.session x.represents)

      -- for the fault that the role answers
      pub not_sent_by : (x : RoleFault) → ((s : Session) → RepresentsAtTurn t.program.graph t.held s → RefusesToSend (first_some (rows_of_send t.program s label values)) x) → (o : SendFault) → send_fault x ≡ Some o → answer real m (Act sid label values confs) ≡ NotActed (Send o)
      not_sent_by sending.NoSuchLabel f o k = let same : NoSuchLabel ≡ o = cc in not_sent NoSuchLabel f ∙ ap (λ z. NotActed (Send z)) same
      not_sent_by (sending.BadValues var) f o k = let same : BadValues var ≡ o = cc in not_sent (BadValues var) f ∙ ap (λ z. NotActed (Send z)) same
      not_sent_by sending.TimeSpent f o k = let same : TimeSpent ≡ o = cc in not_sent TimeSpent f ∙ ap (λ z. NotActed (Send z)) same
      not_sent_by sending.OutOfMemory f o k = absurd (cc)

      module _ (good : AreValues values confs) (x : Sent) (d : SentBy n.keys t label values confs x) where
        abbrev written : List Opening
        written = openings_for values confs

        abbrev frame : Frame
        frame = frame_sent real n.keys t.program its_session.session label written

        none : first_some (rows_of_send t.program its_session.session label values) ≡ None
        none = d.accepted its_session.session its_session.represents

        answered : answer real m (Act sid label values confs) ≡ Sends (step_of t.held label values) (principal (its_session.session).cast (receiver (shape t.program.graph) label)) frame
        answered =
            let s : Session = its_session.session in
            is_sent m sid label values confs s t.program its_session.is its_session.program its_session.represents.turn none
            ∙ ap (λ k. Sends (SentEvent s.sid s.role label (time s + 1) values) (principal s.cast (receiver (shape t.program.graph) label)) (frame_sent real k t.program s label written)) (sym st.keys)
            ∙ ap (λ (z : Held). Sends (SentEvent z.sid z.role label ((z.kept).time + 1) values) (principal s.cast (receiver (shape t.program.graph) label)) frame) (sym its_session.represents.holds)

        -- the event and the frame are those of the definition
        pub act_answer : (r : Happened × (List ℕ × List ℕ)) → event_of (r.0).event ≡ step_of t.held label values →
            ((s : Session) → RepresentsAtTurn t.program.graph t.held s → r.1 ≡ (principal s.cast (receiver (shape t.program.graph) label), spelling (frame_sent real n.keys t.program s label written))) →
            IsAnswerOfAct (answer real m (Act sid label values confs)) (Ok r)
        act_answer r e f =
            let g = f its_session.session its_session.represents in
            (frame, answered ∙ ap (λ z. Sends z (principal (its_session.session).cast (receiver (shape t.program.graph) label)) frame) (sym e) ∙ ap (λ (z : List ℕ × List ℕ). Sends (event_of (r.0).event) z.0 frame) (sym g), ap (λ (z : List ℕ × List ℕ). z.1) g)

        reachable_here : IsReachableAtTurn real t.program t.held
        reachable_here = (at n h sid i (AtTurn t) e there).live.reachable

        next_held : option_map_or (λ it. still_held n.programs.now t.held (Gave it written)) (last frame.items) (t.held ∷ []) ≡ held_at (left_by x)
        next_held =
            let s : Session = its_session.session in
            let ip : IsProgram real t.program = program_at n h sid i (AtTurn t) e there in
            ap (λ (o : Option Item). option_map_or (λ it. still_held n.programs.now t.held (Gave it written)) o (t.held ∷ [])) (given t.program t.held s n.keys label values confs ip reachable_here its_session.represents none good).0
            ∙ ap (λ (o : Option Program). option_map_or (λ p. unless_spent p (held_after p.graph t.held (Gave (own_item real n.keys t.program s label written) written))) o []) (at n h sid i (AtTurn t) e there).live.program
            ∙ unless t.program t.held s n.keys label values confs ip reachable_here its_session.represents none good x (d.state s its_session.represents)

        -- the state after it
        pub act_state : record { keys = n.keys; programs = n.programs.now; joins = n.joins.pairs; live = held_in (set_value_at n.sessions.slots i (left_by x)) } ≡ state_after (node_state n) (Act sid label values confs) (answer real m (Act sid label values confs))
        act_state =
            ap (λ hs. record { keys = n.keys; programs = n.programs.now; joins = n.joins.pairs; live = hs })
            (replaced n h (has_sid sid) (is_of false sid) (tests n h sid) i (AtTurn t) e there (left_by x) (λ z. option_map_or (λ it. still_held n.programs.now z (Gave it written)) (last frame.items) (z ∷ [])) next_held)
            ∙ ap (state_after (node_state n) (Act sid label values confs)) (sym answered)

        -- what is noted
        pub act_notes : notes real m (Act sid label values confs) ≡ notes_of_sent n.keys t.program its_session.session frame written
        act_notes =
            noted m sid label values confs its_session.session t.program its_session.is its_session.program its_session.represents.turn none
            ∙ ap (λ k. notes_of_sent k t.program its_session.session (frame_sent real k t.program its_session.session label written) written) (sym st.keys)

-- the table after it
module _ (n : Inside) (h : HoldsNode n) (sid : List ℕ) (label : ℕ) (values : Map Value) (confs : List (List ℕ)) (i : ℕ) (e : first_index (is_of false sid) n.sessions.slots ≡ Some i) (t : RoleState) (there : live_at n.sessions.slots i ≡ Some (AtTurn t))
    (good : AreValues values confs) (x : Sent) (d : SentBy n.keys t label values confs x) where
  pub act_slots : AllByRecursion (IsSlot n.programs.now n.joins.pairs) (set_value_at n.sessions.slots i (left_by x))
  act_slots =
      let a : AtIndex n.programs.now n.joins.pairs n.sessions.slots i (AtTurn t) = at n h sid i (AtTurn t) e there in
      let b : IsReachableAtTurn real t.program t.held = a.live.reachable in
      a.put (left_by x) (left_live t.program t.held b.session n.keys label values confs (program_at n h sid i (AtTurn t) e there) b b.represents (d.accepted b.session b.represents) good
      n.programs.now (a.key).0 (a.key).1 a.live x (d.state b.session b.represents))

-- ---- how the node goes on

module _ (n : Inside) (h : HoldsNode n) (past : Past) (st : RepresentsPast (node_state n) past) (sid : List ℕ) (label : ℕ) (values : Map Value) (confs : List (List ℕ)) (good : AreValues values confs) (ss : List Slot) where
  -- by a refusal
  pub stays_by : ss ≡ n.sessions.slots → (fault : ActFault) → answer real (node_of past) (Act sid label values confs) ≡ NotActed fault →
      GoesOn (node_state n) (record { keys = n.keys; programs = n.programs.now; joins = n.joins.pairs; live = held_in ss }) (Act sid label values confs) past
  stays_by e fault a = goes_on (node_state n) (record { keys = n.keys; programs = n.programs.now; joins = n.joins.pairs; live = held_in ss }) (Act sid label values confs) past h.programs (all_reachable n h) good st
      (ap (λ z. record { keys = n.keys; programs = n.programs.now; joins = n.joins.pairs; live = held_in z }) e ∙ ap (state_after (node_state n) (Act sid label values confs)) (sym a))

  -- by a step
  pub goes_by : (i : ℕ) (e : first_index (is_of false sid) n.sessions.slots ≡ Some i) (t : RoleState) (there : live_at n.sessions.slots i ≡ Some (AtTurn t)) (x : Sent) (d : SentBy n.keys t label values confs x) → ss ≡ set_value_at n.sessions.slots i (left_by x) →
      GoesOn (node_state n) (record { keys = n.keys; programs = n.programs.now; joins = n.joins.pairs; live = held_in ss }) (Act sid label values confs) past
  goes_by i e t there x d q = goes_on (node_state n) (record { keys = n.keys; programs = n.programs.now; joins = n.joins.pairs; live = held_in ss }) (Act sid label values confs) past h.programs (all_reachable n h) good st
      (ap (λ z. record { keys = n.keys; programs = n.programs.now; joins = n.joins.pairs; live = held_in z }) q ∙ act_state n h (node_of past) st sid label values confs i e t there good x d)
