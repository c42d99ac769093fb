-- What is known of the live sessions of nodes, and what a receipt checked.
use Rattle.std.specs.Prelude.{◌≡◌, ◌≢◌, ℕ, ◌+◌, ◌==◌, nat_lt, ◌&&◌, ◌⊎◌, true, false, not, List, [], ◌∷◌, filter, flat_map, length, find, position, bytes_eq, refl, Option, Some, None, option_map, IfSome, Ok}
use Rattle.std.specs.List.{list_any, AllByRecursion}
use Rattle.std.specs.Option.{option_map_or}
use Rattle.std.proofs.Common.{sym, ◌∙◌, ap, subst, inl, inr}
use Rattle.std.proofs.lemmas.Bool.{eqb-true, cases_Bool, and_parts, not-false}
use Rattle.std.proofs.lemmas.List.Elements.{filter-append}
use Rattle.sg_model.specs.Last.{Map, last}
use Rattle.sg_model.specs.Lists.{first_some}
use Rattle.sg_model.specs.Values.{Value}
use Rattle.sg_model.specs.Names.{Name}
use Rattle.sg_protocol.specs.Frame.{Cast, Frame, IsCastOf}
use Rattle.sg_protocol.specs.Spelling.{HasSpelling}
use Rattle.sg_protocol.specs.Texts.{Hash, session_id, session_text_of}
use Rattle.sg_protocol.specs.TextLaws.{CastFits}
use Rattle.sg_protocol.specs.Keyring.{Keyring, Program, key_of}
use Rattle.sg_protocol.specs.Session.{Session, Exchange, Took, Gave, principal, own_time, time, at_turn, extended, new_session}
use Rattle.sg_protocol.specs.Sending.{text_of, frame_sent, tag_for}
use Rattle.sg_protocol.specs.Checks.{texts_checked}
use Rattle.sg_protocol.specs.Calls.{BadFrameTag, NoSuchView, BadEvidence, BadOpening, ActFault, Event, Sent, Call, Start, Act, Abandon, Deliver, Sends, NotActed, UnknownGraph, UnknownSession, NotWaiting, sid_of, role_of}
use Rattle.sg_protocol.specs.Verdict.{row, rows_of_session, has_frame_tag, is_shown, bad_time, has_item_tag, is_right, rows_of_join, rows_of_next, join_rows, next_rows, rows}
use Rattle.sg_protocol.specs.Notes.{note_of, notes_in_session, Notes, notes, notes_of_start, no_notes, notes_of_read, session_of_frame, row_number}
use Rattle.sg_protocol.specs.Schedule.{PairKey}
use Rattle.sg_protocol.proofs.Moves.{row_none}
use Rattle.sg_protocol.specs.Acting.{rows_of_act, openings_for, answer, acted, sent}
use Rattle.sg_model.proofs.Small.{same_bytes, none_parts, both_nil, if_any}
use Rattle.sg_model.proofs.Members.{In}
use Rattle.sg_model.proofs.Finding.{find_passes, find_all, none_any}
use Rattle.sg_protocol.specs.Node.{Node, is_for, session_with, session_for, program_for}
use Rattle.sg_protocol.specs.NodeAfter.{node_after}
use Rattle.sg_protocol.specs.World.{Logged, keyring_of}
use Rattle.sg_protocol.specs.Run.{events_of, events_of_outcome}
use Rattle.sg_protocol.proofs.Sent.{FitSession}
use Rattle.sg_protocol.proofs.TextLaws as TL
use Rattle.sg_protocol.proofs.Nodes.{start_sends, abandon_sends, deliver_sends, start_all, act_all, abandon_all, deliver_all}
use Rattle.sg_protocol.proofs.NoRows.{JoinRows, no_join_row, joining_session, continued_session, text_hashed, join_fits, cast_parts}

-- if a session has no event, no entry is of it
pub no_entry : (sid : List ℕ) (log : List Logged) → events_of sid log ≡ [] → find (λ (l : Logged). list_any (λ e. bytes_eq (sid_of e) sid) (events_of_outcome l.outcome)) log ≡ None
no_entry sid [] h = refl
no_entry sid (l ∷ ls) h =
    let p = both_nil (filter (λ e. bytes_eq (sid_of e) sid) (events_of_outcome l.outcome)) (events_of sid ls) (sym (filter-append (λ e. bytes_eq (sid_of e) sid) (events_of_outcome l.outcome) (flat_map (λ (l : Logged). events_of_outcome l.outcome) ls)) ∙ h) in
    rw (none_any (λ e. bytes_eq (sid_of e) sid) (events_of_outcome l.outcome) p.0) (no_entry sid ls p.1)

-- ---- a key is shared both ways

pub key_same : (ks : List PairKey) → AllByRecursion (λ (k : PairKey). k.one ≢ k.two) ks → (a b : Name) → key_of (keyring_of ks a) b ≡ key_of (keyring_of ks b) a
key_same [] h a b = refl
key_same (k ∷ ks) h a b = go (cases_Bool (bytes_eq k.one a)) (cases_Bool (bytes_eq k.one b)) (cases_Bool (bytes_eq k.two a)) (cases_Bool (bytes_eq k.two b)) (key_same ks h.1 a b)
  where
    differ : (x : Name) → bytes_eq k.one x ≡ true → bytes_eq k.two x ≡ true → ⊥
    differ x p q = h.0 (same_bytes k.one x p ∙ sym (same_bytes k.two x q))

    go : ((bytes_eq k.one a ≡ true) ⊎ (bytes_eq k.one a ≡ false)) → ((bytes_eq k.one b ≡ true) ⊎ (bytes_eq k.one b ≡ false)) → ((bytes_eq k.two a ≡ true) ⊎ (bytes_eq k.two a ≡ false)) → ((bytes_eq k.two b ≡ true) ⊎ (bytes_eq k.two b ≡ false)) → key_of (keyring_of ks a) b ≡ key_of (keyring_of ks b) a → key_of (keyring_of (k ∷ ks) a) b ≡ key_of (keyring_of (k ∷ ks) b) a
    go (inl p) (inl q) (inl r) (inl t) ih = absurd (differ a p r)
    go (inl p) (inl q) (inl r) (inr t) ih = absurd (differ a p r)
    go (inl p) (inl q) (inr r) (inl t) ih = absurd (differ b q t)
    go (inl p) (inl q) (inr r) (inr t) ih = rw (p, q, r, t) ih
    go (inl p) (inr q) (inl r) (inl t) ih = absurd (differ a p r)
    go (inl p) (inr q) (inl r) (inr t) ih = absurd (differ a p r)
    go (inl p) (inr q) (inr r) (inl t) ih = rw (p, q, t, p) refl
    go (inl p) (inr q) (inr r) (inr t) ih = rw (p, q, t) ih
    go (inr p) (inl q) (inl r) (inl t) ih = absurd (differ b q t)
    go (inr p) (inl q) (inl r) (inr t) ih = rw (p, q, r, q) refl
    go (inr p) (inl q) (inr r) (inl t) ih = absurd (differ b q t)
    go (inr p) (inl q) (inr r) (inr t) ih = rw (p, q, r) ih
    go (inr p) (inr q) (inl r) (inl t) ih = rw (p, q, r, t) (rw (q, p) ih)
    go (inr p) (inr q) (inl r) (inr t) ih = rw (p, q, r, t) (rw q ih)
    go (inr p) (inr q) (inr r) (inl t) ih = rw (p, q, r, t) (rw p ih)
    go (inr p) (inr q) (inr r) (inr t) ih = rw (p, q, r, t) ih

-- the event of a sending says what its frame says
pub act_event : (sha : Hash) (n : Node) (sid0 : List ℕ) (label : ℕ) (values : Map Value) (confs : List (List ℕ)) (e : Event) (to : Name) (f : Frame) → answer sha n (Act sid0 label values confs) ≡ Sends e to f → (sid_of e ≡ f.sid) × (role_of e ≡ f.sender)
act_event sha n sid0 label values confs e to f a = by_session (session_with n.live sid0) a
  where
    by_rows : (x : Session) (p : Program) (o : Option ActFault) → acted (sent sha n.keys p x label values confs) o ≡ Sends e to f → (sid_of e ≡ f.sid) × (role_of e ≡ f.sender)
    by_rows x p (Some fault) a = absurd (cc)
    by_rows x p None a =
        let q : Sent x.sid x.role label (time x + 1) values ≡ e = cc in
        let r : frame_sent sha n.keys p x label (openings_for values confs) ≡ f = cc in
        (ap sid_of (sym q) ∙ ap (λ (z : Frame). z.sid) r, ap role_of (sym q) ∙ ap (λ (z : Frame). z.sender) r)

    by_session : (o : Option Session) → option_map_or (λ x. option_map_or (λ p. acted (sent sha n.keys p x label values confs) (first_some (rows_of_act p x label values))) (program_for n.programs x.cast.graph x.role) (NotActed ActFault.UnknownSession)) o (NotActed ActFault.UnknownSession) ≡ Sends e to f → (sid_of e ≡ f.sid) × (role_of e ≡ f.sender)
    by_session None a = absurd (cc)
    by_session (Some x) a = by_program (program_for n.programs x.cast.graph x.role) a
      where
        by_program : (o : Option Program) → option_map_or (λ p. acted (sent sha n.keys p x label values confs) (first_some (rows_of_act p x label values))) o (NotActed ActFault.UnknownSession) ≡ Sends e to f → (sid_of e ≡ f.sid) × (role_of e ≡ f.sender)
        by_program None a = absurd (cc)
        by_program (Some p) a = by_rows x p (first_some (rows_of_act p x label values)) a

pub sends_sid : (sha : Hash) (n : Node) (c : Call) (e : Event) (to : Name) (f : Frame) → answer sha n c ≡ Sends e to f → sid_of e ≡ f.sid
sends_sid sha n (Start c) e to f a = absurd (start_sends sha n c e to f a)
sends_sid sha n (Abandon sid0) e to f a = absurd (abandon_sends sha n sid0 e to f a)
sends_sid sha n (Deliver bs) e to f a = absurd (deliver_sends sha n bs e to f a)
sends_sid sha n (Act sid0 label values confs) e to f a = (act_event sha n sid0 label values confs e to f a).0

-- Hashed says which texts were hashed
module _ (sha : Hash) (Hashed : List ℕ → Type 0) where
  -- what is known of a live session of a principal
  pub record Known (who : Name) (x : Session) : Type 0 where
    pub id : session_id sha x.cast ≡ x.sid
    pub is_hashed : Hashed (session_text_of x.cast)
    pub me : principal x.cast x.role ≡ who

  more_known : (who : Name) (x : Session) (e : Exchange) → Known who x → Known who (extended x e)
  more_known who x e h = record { id = h.id; is_hashed = h.is_hashed; me = h.me }

  module _ (who : Name) (n : Node) (me : n.keys.me ≡ who) (live : AllByRecursion (Known who) n.live) where
    pub call_known : (c : Call) → ((t : List ℕ) → In (notes sha n c).hashed t → Hashed t) → AllByRecursion (Known who) (node_after n c (answer sha n c)).live
    call_known (Start c) hs = start_all sha n (Known who) live c (λ p b. record {
      id = refl;
      is_hashed = hs (session_text_of c) (subst (λ a. In (notes_of_start c a).hashed (session_text_of c)) (sym b.is_answer) (inl refl));
      me = (cast_parts n.keys p.graph c p.role b.cast).1 ∙ me;
    })
    call_known (Act sid0 label values confs) hs = act_all sha n (Known who) live sid0 label values confs (λ f a k. if_any (last f.items) (λ i. Known who (extended a.x (Gave i (openings_for values confs)))) (λ i. more_known who a.x (Gave i (openings_for values confs)) k))
    call_known (Abandon sid0) hs = abandon_all sha n (Known who) live sid0
    call_known (Deliver bs) hs = deliver_all sha n (Known who) live bs (λ f x rd t k. more_known who x (Took f) k) (λ f c rd j t. record {
      id = sym t.sid;
      is_hashed = hs (session_text_of c) (subst (λ r. In (notes_of_read sha n r).hashed (session_text_of c)) (sym rd) (text_hashed sha n f c j t.accepted));
      me = (cast_parts n.keys (t.p).graph c f.receiver t.cast).1 ∙ me;
    })

  -- ---- what a receipt checked

  pub record Took_ (who : Name) (n : Node) (f : Frame) (nts : Notes) : Type 0 where
    pub cast : Cast
    pub fits : CastFits cast
    pub id : session_id sha cast ≡ f.sid
    pub is_hashed : Hashed (session_text_of cast)
    pub me : principal cast f.receiver ≡ who
    pub version : cast.version ≡ f.version
    pub found : In nts.found (note_of n.keys.me (principal cast f.sender) (text_of f))
    pub tag_is : tag_for sha n.keys cast f.sender (text_of f) ≡ f.tag
    pub joins : (c : Cast) → f.join ≡ Some c → c ≡ cast

  tag_row : (keys : Keyring) (p : Program) (x : Session) (f : Frame) → first_some (rows_of_session sha keys p x f) ≡ None → tag_for sha keys x.cast f.sender (text_of f) ≡ f.tag
  tag_row keys p x f h =
      let one = none_parts (row (not (has_frame_tag sha keys x f)) BadFrameTag) (row (not (is_shown p x f)) NoSuchView ∷ bad_time 1 (own_time x) f.items ∷ option_map (λ n. BadEvidence (n + 1)) (position (λ c. not (has_item_tag sha keys x c)) (texts_checked p.graph x f)) ∷ option_map (λ o. BadOpening o.variable) (find (λ o. not (is_right sha p.graph x f o)) f.openings) ∷ []) h in
      same_bytes (tag_for sha keys x.cast f.sender (text_of f)) f.tag (and_parts (nat_lt f.sender (length x.cast.names)) (bytes_eq (tag_for sha keys x.cast f.sender (text_of f)) f.tag) (not-false (has_frame_tag sha keys x f) (row_none _ _ one.0))).1

  module _ (who : Name) (n : Node) (me : n.keys.me ≡ who) (live : AllByRecursion (Known who) n.live) (fit : AllByRecursion FitSession n.live) (f : Frame) (spelled : HasSpelling f) (none : first_some (rows sha n f) ≡ None)
      (hs : (t : List ℕ) → In (notes_of_read sha n (Ok f)).hashed t → Hashed t) where
    abbrev nts_in : ℕ → Option (Program × Session) → Notes
    nts_in k o = option_map_or (λ (y : Program × Session). notes_in_session sha n.keys y.0 y.1 f k) o no_notes

    note_there : (p : Program) (x : Session) → session_of_frame n f ≡ Some (p, x) → In (notes_of_read sha n (Ok f)).found (note_of n.keys.me (principal x.cast f.sender) (text_of f))
    note_there p x e = subst (λ o. In (nts_in (row_number o) (session_of_frame n f)).found (note_of n.keys.me (principal x.cast f.sender) (text_of f))) (sym none) (subst (λ o. In (nts_in 16 o).found (note_of n.keys.me (principal x.cast f.sender) (text_of f))) (sym e) (inl refl))

    took_join : (c : Cast) → f.join ≡ Some c → (o : Option Program) → program_for n.programs c.graph f.receiver ≡ o → first_some (option_map_or (rows_of_join sha n f c) o (Some UnknownGraph ∷ [])) ≡ None → Took_ who n f (notes_of_read sha n (Ok f))
    took_join c j None pc e = absurd (cc)
    took_join c j (Some p) pc e =
        let r : JoinRows sha n f c p = no_join_row sha n f c p e in
        let x : Session = new_session f.sid c f.receiver in
        let co = subst (λ o. IfSome o (IsCastOf f.version)) j spelled.fields.join in
        record {
          cast = c;
          fits = join_fits sha n f c j spelled;
          id = sym r.sid;
          is_hashed = hs (session_text_of c) (text_hashed sha n f c j none);
          me = (cast_parts n.keys p.graph c f.receiver r.cast).1 ∙ me;
          version = co.version;
          found = note_there p x (joining_session sha n f c j p pc);
          tag_is = tag_row n.keys p x f r.rows;
          joins = λ c' e'. (let q : Some c ≡ Some c' = sym j ∙ e' in cc);
        }

    took_next : f.join ≡ None → (o : Option Session) → session_for n.live f ≡ o → first_some (option_map_or (λ z. option_map_or (rows_of_next sha n f z) (program_for n.programs z.cast.graph z.role) (Some UnknownSession ∷ [])) o (Some UnknownSession ∷ [])) ≡ None → Took_ who n f (notes_of_read sha n (Ok f))
    took_next j None sx e = absurd (cc)
    took_next j (Some x) sx e = by_program (program_for n.programs x.cast.graph x.role) refl e
      where
        by_program : (o : Option Program) → program_for n.programs x.cast.graph x.role ≡ o → first_some (option_map_or (rows_of_next sha n f x) o (Some UnknownSession ∷ [])) ≡ None → Took_ who n f (notes_of_read sha n (Ok f))
        by_program None px e = absurd (cc)
        by_program (Some p) px e =
            let r1 = none_parts (row (at_turn p.graph x) NotWaiting) (rows_of_session sha n.keys p x f) e in
            let k : Known who x = find_all (is_for f) (Known who) n.live x live sx in
            let fx : FitSession x = find_all (is_for f) FitSession n.live x fit sx in
            let w1 = and_parts (bytes_eq x.sid f.sid && (x.role == f.receiver)) (x.cast.version == f.version) (find_passes (is_for f) n.live x sx) in
            let w2 = and_parts (bytes_eq x.sid f.sid) (x.role == f.receiver) w1.0 in
            record {
              cast = x.cast;
              fits = TL.cast_fits x.cast fx.version fx.cast;
              id = k.id ∙ same_bytes x.sid f.sid w2.0;
              is_hashed = k.is_hashed;
              me = ap (principal x.cast) (sym (eqb-true x.role f.receiver w2.1)) ∙ k.me;
              version = eqb-true x.cast.version f.version w1.1;
              found = note_there p x (continued_session sha n f x j sx p px);
              tag_is = tag_row n.keys p x f r1.1;
              joins = λ c' e'. (let q : None ≡ Some c' = sym j ∙ e' in absurd (cc));
            }

    pub took : Took_ who n f (notes_of_read sha n (Ok f))
    took = by_join f.join refl
      where
        by_join : (o : Option Cast) → f.join ≡ o → Took_ who n f (notes_of_read sha n (Ok f))
        by_join None j = took_next j (session_for n.live f) refl (sym (ap (λ o. first_some (option_map_or (join_rows sha n f) o (next_rows sha n f))) j) ∙ none)
        by_join (Some c) j = took_join c j (program_for n.programs c.graph f.receiver) refl (sym (ap (λ o. first_some (option_map_or (join_rows sha n f) o (next_rows sha n f))) j) ∙ none)
