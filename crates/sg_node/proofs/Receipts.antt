-- What a node answers to a frame, and what is live after it.
use Rattle.std.specs.Prelude.{◌≡◌, ℕ, ◌==◌, ◌&&◌, nat_lt, nat_le, not, Bool, true, false, if◌then◌else◌, List, [], ◌∷◌, ◌++◌, length, bytes_eq, refl, Option, Some, None, option_map, option_and_then, Result, Ok, Err, is_ok, IfOk, OnOk, OnErr}
use Rattle.std.specs.Option.{option_map_or}
use Rattle.std.specs.List.{list_any}
use Rattle.std.proofs.Common.{sym, ◌∙◌, ap, subst, take, append-nil}
use Rattle.std.proofs.Math.Seq.{take-append_seam, take-length}
use Rattle.sg_model.proofs.Small.{clash}
use Rattle.sg_model.specs.Lists.{first_some}
use Rattle.sg_protocol.specs.Calls.{Event, NotDelivered, Refusal, UnknownGraph, BadCast, UnknownPeer, BadSession, Joined, CacheFull, SessionsFull, UnknownSession, NotWaiting}
use Rattle.sg_protocol.specs.Frame.{Cast, Frame}
use Rattle.sg_protocol.specs.Keyring.{Keyring, Program, may_return}
use Rattle.sg_protocol.specs.Node.{Node, program_for, session_for, is_cast, stranger, has_joined}
use Rattle.sg_protocol.specs.NodeStates.{is_spent, unless_spent}
use Rattle.sg_protocol.specs.Notes.{Notes, no_notes, row_number, notes_in_session, session_of_frame, hashed_of_join, notes_of_read}
use Rattle.sg_protocol.specs.Session.{Session, new_session, at_turn}
use Rattle.sg_protocol.specs.Representation.{Held}
use Rattle.sg_protocol.specs.Reachable.{IsReachableAtTurn}
use Rattle.sg_protocol.specs.Texts.{real, session_id, session_text_of}
use Rattle.sg_protocol.specs.Verdict.{row, rows, rows_of_session, rows_of_join, rows_of_next, join_rows, next_rows, receipt, decided, verdict_on}
use Rattle.sg_role.specs.Accepting.{Acceptance, goes_on, state_after}
use Rattle.sg_role.specs.Faults.{Refuses}
use Rattle.sg_role.specs.Model.{RoleState}
use Rattle.sg_role.specs.declared.fault.Refusal.{Refusal as RoleRefusal}
use Rattle.sg_role.specs.declared.fault.Refusal.TheVariants as role
use Rattle.sg_protocol.specs.Graph.{Graph}
use Rattle.sg_receipt.specs.declared.refusal.DeliveryRefusal.{DeliveryRefusal}
use Rattle.sg_receipt.specs.Answers.{answer_of_delivery, graph_named, graph_of_delivery}
use Rattle.sg_node.specs.Answers.{may_take_memory}
use Rattle.sg_receipt.specs.Receipts.{Receipt}
use Rattle.sg_node.specs.declared.sessions.Live.TheVariants.{AtTurn}
use Rattle.sg_node.specs.Faults.{role_refusal}
use Rattle.sg_node.specs.Slots.{held_at, left_after}
use Rattle.sg_node.specs.Invariant.{IfLive}
use Rattle.sg_node.proofs.InSlots.{turn_held}
use Rattle.sg_node.proofs.Memory.{by_session, by_join}

-- a refusal of the role is what the node answers
pub role_refused : (e : Event) (x : Option Refusal) (r : RoleRefusal) (o : Refusal) → Refuses x r → role_refusal r ≡ Some o → decided e x ≡ NotDelivered o
role_refused e x role.BadFrameTag o h k = ap (decided e) (h ∙ k)
role_refused e x role.NoSuchView o h k = ap (decided e) (h ∙ k)
role_refused e x (role.BadTime item got least) o h k = ap (decided e) (h ∙ k)
role_refused e x (role.BadEvidence item) o h k = ap (decided e) (h ∙ k)
role_refused e x (role.BadOpening var) o h k = ap (decided e) (h ∙ k)
role_refused e x role.OutOfMemory o h k = absurd (cc)

-- whatever holds holds after a refusal
pub all_refused : {A B E : Type 0} (P : Type 0) (res : Result (Result A B) E) → P → IfOk res (λ r. OnErr r P)
all_refused P (Ok (Ok x)) p = tt
all_refused P (Ok (Err why)) p = p
all_refused P (Err y) p = tt

-- the graph beside it is that of the session, if it names a variable
pub same_graph : {E : Type 0} (res : Result (Result Receipt DeliveryRefusal) E) (g h : Option Graph) → IfOk res (λ r. graph_of_delivery r ≡ graph_named (answer_of_delivery r) g) → g ≡ h → IfOk res (λ r. graph_of_delivery r ≡ graph_named (answer_of_delivery r) h)
same_graph (Ok r) g h k e = k ∙ ap (graph_named (answer_of_delivery r)) e
same_graph (Err y) g h k e = tt

-- ---- what a call gives that does not fail

pub in_err : {T E : Type 0} (P : Type 0) (r : Result T E) → P → OnErr r P
in_err P (Ok x) p = tt
in_err P (Err y) p = p

pub on_ok : {T E : Type 0} (P Q : Type 0) (r : Result T E) → (P → Q) → OnOk r P → OnOk r Q
on_ok P Q (Ok x) f h = f h
on_ok P Q (Err y) f h = tt

pub no_ok : {T E : Type 0} (P : Type 0) (r : Result T E) → is_ok r ≡ false → OnOk r P
no_ok P (Ok x) k = clash true refl k
no_ok P (Err y) k = tt

pub no_err : {T E : Type 0} (P : Type 0) (r : Result T E) → is_ok r ≡ true → OnErr r P
no_err P (Ok x) k = tt
no_err P (Err y) k = clash true refl (sym k)

pub err_gives : {T E : Type 0} (P : Type 0) (r : Result T E) → is_ok r ≡ false → OnErr r P → P
err_gives P (Ok x) k p = clash true refl k
err_gives P (Err y) k p = p

-- ---- notes

-- what was noted beside one more text, if as many are kept as there were
pub restored : (n mid : Notes) (a b h : ℕ) (t : List ℕ) → a ≡ length n.made → b ≡ length n.found → h ≡ length n.hashed →
    mid ≡ record n { hashed = n.hashed ++ t ∷ [] } → record { made = take a mid.made; found = take b mid.found; hashed = take h mid.hashed } ≡ n
restored n mid a b h t ea eb eh e =
    ap (λ (m : Notes). record { made = take a m.made; found = take b m.found; hashed = take h m.hashed }) e
    ∙ (λ i. record {
      made = (ap (λ k. take k n.made) ea ∙ take-length n.made) i;
      found = (ap (λ k. take k n.found) eb ∙ take-length n.found) i;
      hashed = (ap (λ k. take k (n.hashed ++ t ∷ [])) eh ∙ take-append_seam n.hashed (t ∷ [])) i;
    })

module _ (m : Node) (f : Frame) where
  abbrev noted_by : ℕ → Option (Program × Session) → Notes
  noted_by k o =
      let rest = option_map_or (λ (x : Program × Session). notes_in_session real m.keys x.0 x.1 f k) o no_notes in
      record rest { hashed = hashed_of_join f k ++ rest.hashed }

  early_in : (keys : Keyring) (p : Program) (s : Session) (k : ℕ) → nat_lt 11 k ≡ false → nat_lt 13 k ≡ false → nat_lt 14 k ≡ false → notes_in_session real keys p s f k ≡ no_notes
  early_in keys p s k a b c = rw (a, b, c) refl

  early_by : (k : ℕ) (o : Option (Program × Session)) → nat_lt 11 k ≡ false → nat_lt 13 k ≡ false → nat_lt 14 k ≡ false → noted_by k o ≡ record { made = []; found = []; hashed = hashed_of_join f k }
  early_by k None a b c = ap (λ h. record { made = []; found = []; hashed = h }) (append-nil (hashed_of_join f k))
  early_by k (Some x) a b c = ap (λ (z : Notes). record z { hashed = hashed_of_join f k ++ z.hashed }) (early_in m.keys x.0 x.1 k a b c) ∙ ap (λ h. record { made = []; found = []; hashed = h }) (append-nil (hashed_of_join f k))

  -- before a tag is looked at only the session text may be noted
  pub early : (r : Refusal) → first_some (rows real m f) ≡ Some r → nat_lt 11 (row_number (Some r)) ≡ false → nat_lt 13 (row_number (Some r)) ≡ false → nat_lt 14 (row_number (Some r)) ≡ false →
      notes_of_read real m (Ok f) ≡ record { made = []; found = []; hashed = hashed_of_join f (row_number (Some r)) }
  early r e a b c = ap (λ x. noted_by (row_number x) (session_of_frame m f)) e ∙ early_by (row_number (Some r)) (session_of_frame m f) a b c

  -- ---- a frame that continues

  module _ (j : f.join ≡ None) where
    abbrev next_by : Session → Option Program → List (Option Refusal)
    next_by s o = option_map_or (rows_of_next real m f s) o (Some UnknownSession ∷ [])

    abbrev next_in : Option Session → List (Option Refusal)
    next_in o = option_map_or (λ (s : Session). next_by s (program_for m.programs (s.cast).graph s.role)) o (Some UnknownSession ∷ [])

    next_is : rows real m f ≡ next_in (session_for m.live f)
    next_is = ap (λ o. option_map_or (join_rows real m f) o (next_rows real m f)) j

    pub no_text : (k : ℕ) → hashed_of_join f k ≡ []
    no_text k = ap (λ (o : Option Cast). option_map_or (λ c. if nat_lt 4 k then session_text_of c ∷ [] else []) o []) j

    pub no_session : session_for m.live f ≡ None → first_some (rows real m f) ≡ Some UnknownSession
    no_session e = ap first_some (next_is ∙ ap next_in e)

    module _ (s : Session) (p : Program) (e : session_for m.live f ≡ Some s) (q : program_for m.programs (s.cast).graph s.role ≡ Some p) where
      next_rows_are : rows real m f ≡ row (at_turn p.graph s) NotWaiting ∷ rows_of_session real m.keys p s f
      next_rows_are = next_is ∙ ap next_in e ∙ ap (next_by s) q

      pub not_waiting : at_turn p.graph s ≡ true → first_some (rows real m f) ≡ Some NotWaiting
      not_waiting t = ap first_some next_rows_are ∙ ap (λ b. first_some (row b NotWaiting ∷ rows_of_session real m.keys p s f)) t

      pub next_rows_waiting : at_turn p.graph s ≡ false → first_some (rows real m f) ≡ first_some (rows_of_session real m.keys p s f)
      next_rows_waiting t = ap first_some next_rows_are ∙ ap (λ b. first_some (row b NotWaiting ∷ rows_of_session real m.keys p s f)) t

      pub session_is : session_of_frame m f ≡ Some (p, s)
      session_is =
          ap (λ (o : Option Cast). option_and_then (λ (s : Session). option_map (λ (p : Program). (p, s)) (program_for m.programs (s.cast).graph s.role)) (option_map_or (λ c. Some (new_session f.sid c f.receiver)) o (session_for m.live f))) j
          ∙ ap (λ (o : Option Session). option_and_then (λ (s : Session). option_map (λ (p : Program). (p, s)) (program_for m.programs (s.cast).graph s.role)) o) e
          ∙ ap (λ (o : Option Program). option_map (λ (p : Program). (p, s)) o) q

      pub next_notes : at_turn p.graph s ≡ false → notes_of_read real m (Ok f) ≡ notes_in_session real m.keys p s f (row_number (first_some (rows_of_session real m.keys p s f)))
      next_notes t =
          let k : ℕ = row_number (first_some (rows_of_session real m.keys p s f)) in
          ap (λ x. noted_by (row_number x) (session_of_frame m f)) (next_rows_waiting t) ∙ ap (noted_by k) session_is
          ∙ ap (λ h. record (notes_in_session real m.keys p s f k) { hashed = h ++ (notes_in_session real m.keys p s f k).hashed }) (no_text k)

  -- ---- a frame that joins

  module _ (c : Cast) (j : f.join ≡ Some c) where
    abbrev join_by : Option Program → List (Option Refusal)
    join_by o = option_map_or (rows_of_join real m f c) o (Some UnknownGraph ∷ [])

    join_is : rows real m f ≡ join_by (program_for m.programs c.graph f.receiver)
    join_is = ap (λ o. option_map_or (join_rows real m f) o (next_rows real m f)) j

    pub text : (k : ℕ) → nat_lt 4 k ≡ true → hashed_of_join f k ≡ session_text_of c ∷ []
    text k l = ap (λ (o : Option Cast). option_map_or (λ c. if nat_lt 4 k then session_text_of c ∷ [] else []) o []) j ∙ ap (λ b. if b then session_text_of c ∷ [] else []) l

    pub no_text_yet : (k : ℕ) → nat_lt 4 k ≡ false → hashed_of_join f k ≡ []
    no_text_yet k l = ap (λ (o : Option Cast). option_map_or (λ c. if nat_lt 4 k then session_text_of c ∷ [] else []) o []) j ∙ ap (λ b. if b then session_text_of c ∷ [] else []) l

    pub no_program : program_for m.programs c.graph f.receiver ≡ None → first_some (rows real m f) ≡ Some UnknownGraph
    no_program e = ap first_some (join_is ∙ ap join_by e)

    module _ (p : Program) (q : program_for m.programs c.graph f.receiver ≡ Some p) where
      abbrev later_rows : Bool → List (Option Refusal)
      later_rows b =
          row (not b) BadSession
          ∷ row (has_joined m.joins f.sid f.receiver) Joined
          ∷ row (nat_le 65536 (length m.joins)) CacheFull
          ∷ row (nat_le 4096 (length m.live)) SessionsFull
          ∷ rows_of_session real m.keys p (new_session f.sid c f.receiver) f

      abbrev by_test : Bool → Option (List ℕ) → List (Option Refusal)
      by_test b o = row (not b) BadCast ∷ option_map UnknownPeer o ∷ later_rows (bytes_eq f.sid (session_id real c))

      join_rows_are : rows real m f ≡ by_test (is_cast m.keys p.graph c f.receiver && nat_lt f.sender (length c.names)) (stranger m.keys c)
      join_rows_are = join_is ∙ ap join_by q

      pub bad_cast : (is_cast m.keys p.graph c f.receiver && nat_lt f.sender (length c.names)) ≡ false → first_some (rows real m f) ≡ Some BadCast
      bad_cast t = ap first_some join_rows_are ∙ ap (λ b. first_some (by_test b (stranger m.keys c))) t

      pub no_key : (is_cast m.keys p.graph c f.receiver && nat_lt f.sender (length c.names)) ≡ true → (name : List ℕ) → stranger m.keys c ≡ Some name → first_some (rows real m f) ≡ Some (UnknownPeer name)
      no_key t name g = ap first_some join_rows_are ∙ ap (λ b. first_some (by_test b (stranger m.keys c))) t ∙ ap (λ o. first_some (by_test true o)) g

      module _ (t : (is_cast m.keys p.graph c f.receiver && nat_lt f.sender (length c.names)) ≡ true) (g : stranger m.keys c ≡ None) where
        known_rows : first_some (rows real m f) ≡ first_some (later_rows (bytes_eq f.sid (session_id real c)))
        known_rows = ap first_some join_rows_are ∙ ap (λ b. first_some (by_test b (stranger m.keys c))) t ∙ ap (λ o. first_some (by_test true o)) g

        -- once the graph, the cast and the keys are right, memory may be taken
        pub may_take : may_take_memory (verdict_on real m (Ok f)) ≡ true
        may_take =
            ap (λ x. may_take_memory (decided (receipt f) x)) known_rows
            ∙ by_join (receipt f) (not (bytes_eq f.sid (session_id real c))) (has_joined m.joins f.sid f.receiver) (nat_le 65536 (length m.joins)) (nat_le 4096 (length m.live))
            (rows_of_session real m.keys p (new_session f.sid c f.receiver) f) (by_session (receipt f) m.keys p (new_session f.sid c f.receiver) f)

        pub bad_session : bytes_eq f.sid (session_id real c) ≡ false → first_some (rows real m f) ≡ Some BadSession
        bad_session b = known_rows ∙ ap (λ b. first_some (later_rows b)) b

        module _ (b : bytes_eq f.sid (session_id real c) ≡ true) where
          abbrev obstacle_rows : Bool → Bool → Bool → List (Option Refusal)
          obstacle_rows x y z = row x Joined ∷ row y CacheFull ∷ row z SessionsFull ∷ rows_of_session real m.keys p (new_session f.sid c f.receiver) f

          pub joining_rows : first_some (rows real m f) ≡ first_some (obstacle_rows (has_joined m.joins f.sid f.receiver) (nat_le 65536 (length m.joins)) (nat_le 4096 (length m.live)))
          joining_rows = known_rows ∙ ap (λ b. first_some (later_rows b)) b

      pub join_session_is : session_of_frame m f ≡ option_map (λ (p : Program). (p, new_session f.sid c f.receiver)) (program_for m.programs c.graph f.receiver)
      join_session_is = ap (λ (o : Option Cast). option_and_then (λ (s : Session). option_map (λ (p : Program). (p, s)) (program_for m.programs (s.cast).graph s.role)) (option_map_or (λ c. Some (new_session f.sid c f.receiver)) o (session_for m.live f))) j

      -- the session text, and what is noted of the session
      pub join_notes : first_some (rows real m f) ≡ first_some (rows_of_session real m.keys p (new_session f.sid c f.receiver) f) → nat_lt 4 (row_number (first_some (rows_of_session real m.keys p (new_session f.sid c f.receiver) f))) ≡ true →
          let noted = notes_in_session real m.keys p (new_session f.sid c f.receiver) f (row_number (first_some (rows_of_session real m.keys p (new_session f.sid c f.receiver) f))) in
          notes_of_read real m (Ok f) ≡ record noted { hashed = session_text_of c ∷ noted.hashed }
      join_notes e l =
          let k : ℕ = row_number (first_some (rows_of_session real m.keys p (new_session f.sid c f.receiver) f)) in
          ap (λ x. noted_by (row_number x) (session_of_frame m f)) e
          ∙ ap (noted_by k) (join_session_is ∙ ap (λ (o : Option Program). option_map (λ (p : Program). (p, new_session f.sid c f.receiver)) o) q)
          ∙ ap (λ h. record (notes_in_session real m.keys p (new_session f.sid c f.receiver) f k) { hashed = h ++ (notes_in_session real m.keys p (new_session f.sid c f.receiver) f k).hashed }) (text k l)

-- ---- what is left

module _ (p : Program) (h : Held) (b : IsReachableAtTurn real p h) (a : Acceptance) (same : state_after a ≡ record { program = p; held = h }) where
  spent : is_spent p h ≡ not (goes_on p.graph (h.kept).place)
  spent = ap (λ b. if b then not (list_any (λ e. e.source == (h.kept).place) p.graph.edges) else not (option_map_or (may_return p) (h.kept).origin true)) (turn_held p.graph h b.session b.represents.holds ∙ b.represents.turn)

  by_turn : (b : Bool) → (if not b then [] else h ∷ []) ≡ held_at (if b then Some (AtTurn (record { program = p; held = h })) else None)
  by_turn true = refl
  by_turn false = refl

  left_is : left_after a ≡ (if goes_on p.graph (h.kept).place then Some (AtTurn (record { program = p; held = h })) else None)
  left_is = ap (λ (s : RoleState). if goes_on s.program.graph ((s.held).kept).place then Some (AtTurn s) else None) same

  pub unless_left : unless_spent p h ≡ held_at (left_after a)
  unless_left = ap (λ b. if b then [] else h ∷ []) spent ∙ by_turn (goes_on p.graph (h.kept).place) ∙ ap held_at (sym left_is)

  pub left_live : (ps : List Program) (id : List ℕ) (r : ℕ) → h.sid ≡ id → h.role ≡ r → program_for ps (h.cast).graph h.role ≡ Some p → IfLive ps id r (left_after a)
  left_live ps id r x y z = subst (IfLive ps id r) (sym left_is) (go (goes_on p.graph (h.kept).place))
    where
      go : (t : Bool) → IfLive ps id r (if t then Some (AtTurn (record { program = p; held = h })) else None)
      go true = record { sid = x; role = y; program = z; reachable = b }
      go false = tt
