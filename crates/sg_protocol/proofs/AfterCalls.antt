-- What a call leaves of a session.
use Rattle.sg_law.specs.Accept.{TimedLabel}
use Rattle.std.specs.Prelude.{◌≡◌, ℕ, ◌<◌, ◌⊎◌, Bool, true, false, List, [], ◌∷◌, ◌++◌, filter, flat_map, length, find, bytes_eq, refl, Some}
use Rattle.std.proofs.Common.{sym, ◌∙◌, ap, subst, inl, inr, append-nil}
use Rattle.std.proofs.lemmas.Bool.{ne_eqb, cases_Bool}
use Rattle.std.proofs.lemmas.List.{map-append}
use Rattle.std.proofs.lemmas.Slice.Eq.{bytes_eq-Decides}
use Rattle.sg_model.specs.Lists.{all_differ}
use Rattle.sg_model.specs.Values.{Opening, Code}
use Rattle.sg_model.specs.Names.{Name}
use Rattle.sg_protocol.specs.Graph.{Graph, shape}
use Rattle.sg_protocol.specs.Frame.{Cast, Item}
use Rattle.sg_protocol.specs.Texts.{Hash, commitment}
use Rattle.sg_protocol.specs.Keyring.{Program}
use Rattle.sg_protocol.specs.Session.{Session, Exchange, principal, items_of, transcript, extended, new_session}
use Rattle.sg_protocol.specs.Calls.{Event, Call, Answer, events_of_answer, sid_of}
use Rattle.sg_protocol.specs.Notes.{Note, Notes}
use Rattle.sg_protocol.specs.Walk.{acts_of_event}
use Rattle.sg_protocol.specs.Schedule.{Schedule}
use Rattle.sg_law.specs.Last as B
use Rattle.sg_law.specs.Run as R
use Rattle.sg_law.specs.Values.{State, Commit, moved}
use Rattle.sg_law.specs.Values.Move.{Writes, Takes}
use Rattle.sg_protocol.proofs.Entries.{entry, entries, Roles}
use Rattle.sg_protocol.proofs.Moves.{NoteOk, Matches}
use Rattle.std.proofs.lemmas.List.Elements.{filter-append}
use Rattle.sg_model.proofs.Small.{clash, all-append}
use Rattle.sg_model.proofs.Members.{In}
use Rattle.sg_model.proofs.Finding.{find_head, find_nil, find_passes, find-filter}
use Rattle.sg_protocol.specs.Node.{Node, has_joined}
use Rattle.sg_protocol.specs.NodeAfter.{node_after, joined, goes_on, replace, still, is_over}
use Rattle.sg_protocol.proofs.Paths.{flat_map-append}
use Rattle.sg_protocol.proofs.KnownSession.{SessionOfCast}
use Rattle.sg_protocol.proofs.Finding.{one_index, joined_more, joined_now}
use Rattle.sg_protocol.proofs.Calls.{Quiet, quiet_transcript, quiet_items, quiet_took, Untouched, Fresh, Here, Status, NodeOk, Kept, WasLeft, Out}
use Rattle.sg_protocol.proofs.OfSid.{of_sid, replace-own, still-own, still-other}
use Rattle.sg_protocol.proofs.Nodes.{all_still}

module _ (sid : List ℕ) where
  pub event_other : (e : Event) → bytes_eq (sid_of e) sid ≡ false → flat_map acts_of_event (filter (λ e. bytes_eq (sid_of e) sid) (e ∷ [])) ≡ []
  event_other e h = rw h refl

  pub joined_other : (n : Node) (x : Session) → bytes_eq x.sid sid ≡ false → filter (of_sid sid) (joined n x).live ≡ filter (of_sid sid) n.live
  joined_other n x h = filter-append (of_sid sid) n.live (still n.programs x) ∙ ap (λ l. filter (of_sid sid) n.live ++ l) (still-other sid n.programs x h) ∙ append-nil (filter (of_sid sid) n.live)

module _ {sha : Hash} {programs : List Program} {sid : List ℕ} {cast : Cast} {g : Graph} {Hashed : List ℕ → Type 0} (known : SessionOfCast sha programs sid cast g Hashed) (s : Schedule) (LeftBy : Name → Type 0) where
  abbrev differ : all_differ cast.names ≡ true
  differ = known.names_differ

  abbrev commit : Commit
  commit o = commitment sha sid o

  pub kept_same : (who : Name) (st : State) → Kept known s LeftBy who st st
  kept_same who st = record { transcript = λ h ne. refl; machine = λ h ne. refl }

  pub kept_writes : (who : Name) (st : State) (r e : ℕ) (os : List Opening) → principal cast r ≡ who → Kept known s LeftBy who st (moved commit st (Writes r e os))
  kept_writes who st r e os is = record {
    transcript = λ h ne. rw (ne_eqb h r (λ q. ne (ap (principal cast) q ∙ is))) refl;
    machine = λ h ne. rw (ne_eqb h r (λ q. ne (ap (principal cast) q ∙ is))) refl;
  }

  pub kept_takes : (who : Name) (st : State) (r k : ℕ) (items : List (B.Entry TimedLabel Code)) (os : List Opening) → principal cast r ≡ who → Kept known s LeftBy who st (moved commit st (Takes r k items os))
  kept_takes who st r k items os is = record {
    transcript = λ h ne. rw (ne_eqb h r (λ q. ne (ap (principal cast) q ∙ is))) refl;
    machine = λ h ne. rw (ne_eqb h r (λ q. ne (ap (principal cast) q ∙ is))) refl;
  }

  -- a node of another principal
  pub node_kept : (st st' : State) (who me : Name) (n : Node) → (me ≡ who → ⊥) → Kept known s LeftBy who st st' → NodeOk known s LeftBy st me n → NodeOk known s LeftBy st' me n
  node_kept st st' who me n ne k ok = record { me = ok.me; has_programs = ok.has_programs; lengths = ok.lengths; status = go ok.status }
    where
      matches_kept : (x : Session) → Matches g sid cast st me x → Matches g sid cast st' me x
      matches_kept x m =
          let other : principal cast x.role ≡ who → ⊥ = λ q. ne (sym m.is_who ∙ q) in
          let t : st'.transcript x.role ≡ st.transcript x.role = k.transcript x.role other in
          let w : st'.machine.at x.role ≡ st.machine.at x.role = k.machine x.role other in
          record {
            same_sid = m.same_sid;
            same_cast = m.same_cast;
            is_who = m.is_who;
            inside = m.inside;
            is_transcript = t ∙ m.is_transcript;
            is_own = ap (λ (l : R.Local). l.own) w ∙ m.is_own;
            turns = λ e. ap (λ (l : R.Local). l.turn) w ∙ m.turns e;
            waits = λ e. ap (λ (l : R.Local). l.turn) w ∙ m.waits e;
            roles = m.roles;
            fits = m.fits;
            last_edge = m.last_edge;
          }

      go : Status known s LeftBy st me n → Status known s LeftBy st' me n
      go (inl f) = inl record { alone = f.alone; all = λ h is l. let u = f.all h is l in record { none = k.transcript h (λ q. ne (sym is ∙ q)) ∙ u.none; start = k.machine h (λ q. ne (sym is ∙ q)) ∙ u.start } }
      go (inr (inl h)) = inr (inl record { x = h.x; alone = h.alone; was_joined = h.was_joined; matches = matches_kept h.x h.matches })
      go (inr (inr h)) = inr (inr record { x = h.x; alone = h.alone; was_joined = h.was_joined; matches = matches_kept h.x h.matches; why = h.why })

  -- a new session
  pub new_matches : (st : State) (who : Name) (c : Cast) (sid' : List ℕ) (r : ℕ) → sid' ≡ sid → c ≡ cast → principal cast r ≡ who → r < length cast.names → Untouched known s LeftBy st r → Matches g sid cast st who (new_session sid' c r)
  new_matches st who c sid' r e d p l u = record {
    same_sid = e;
    same_cast = d;
    is_who = p;
    inside = l;
    is_transcript = u.none;
    is_own = ap (λ (z : R.Local). z.own) u.start;
    turns = λ t. ap (λ (z : R.Local). z.turn) u.start ∙ rw t refl;
    waits = λ t. ap (λ (z : R.Local). z.turn) u.start ∙ rw t refl;
    roles = tt;
    fits = tt;
    last_edge = tt;
  }

  -- what is left of the session
  settle : (st : State) (who : Name) (n : Node) (x : Session) → Matches g sid cast st who x → filter (of_sid sid) n.live ≡ still programs x → has_joined n.joins sid x.role ≡ true → Status known s LeftBy st who n
  settle st who n x m e j = elim (cases_Bool (is_over programs x)) [
    | inl o ↦ inr (inr record { alone = e ∙ rw o refl; x = x; matches = m; was_joined = j; why = inl o })
    | inr o ↦ inr (inl record { x = x; alone = e ∙ rw o refl; matches = m; was_joined = j })
  ]

  roles_right : (xs ys : List Item) → Roles (shape g) (xs ++ ys) → Roles (shape g) ys
  roles_right [] ys h = h
  roles_right (x ∷ xs) ys h = roles_right xs ys h.1

  -- what an exchange adds to the transcript
  pub transcript_step : (st st' : State) (who : Name) (x : Session) (e : Exchange) → Matches g sid cast st who x → Matches g sid cast st' who (extended x e) → (st'.transcript x.role ≡ st.transcript x.role ++ entries (items_of e)) × Roles (shape g) (items_of e)
  transcript_step st st' who x e m m' =
      let more : transcript (extended x e) ≡ transcript x ++ items_of e = flat_map-append items_of x.exchanges (e ∷ []) ∙ ap (λ l. transcript x ++ l) (append-nil (items_of e)) in
      (m'.is_transcript ∙ ap entries more ∙ map-append entry (transcript x) (items_of e) ∙ ap (λ l. l ++ entries (items_of e)) (sym m.is_transcript), roles_right (transcript x) (items_of e) (subst (Roles (shape g)) more m'.roles))

  is_sid : (x : Session) → x.sid ≡ sid → bytes_eq x.sid sid ≡ true
  is_sid x e = (bytes_eq-Decides x.sid sid).1 e

  pub join_now : (n : Node) (x : Session) → n.programs ≡ programs → filter (of_sid sid) n.live ≡ [] → x.sid ≡ sid → filter (of_sid sid) (joined n x).live ≡ still programs x
  join_now n x ps f q = filter-append (of_sid sid) n.live (still n.programs x) ∙ ap (λ l. l ++ filter (of_sid sid) (still n.programs x)) f ∙ still-own sid n.programs x (is_sid x q) ∙ ap (λ ps. still ps x) ps

  pub goes_now : (n : Node) (x : Session) (which : Session → Bool) (now : Session → List Session) (x' : Session) → filter (of_sid sid) n.live ≡ x ∷ [] → n.programs ≡ programs → ((z : Session) → which z ≡ true → of_sid sid z ≡ true) → ((z : Session) → which z ≡ true → filter (of_sid sid) (now z) ≡ now z) → which x ≡ true → now x ≡ still n.programs x' → filter (of_sid sid) (goes_on n which now).live ≡ still programs x'
  goes_now n x which now x' a ps own own' w e = sym (replace-own which now own own' n.live) ∙ ap (replace which now) a ∙ rw w (append-nil (now x) ∙ e ∙ ap (λ ps. still ps x') ps)

  -- joining, if nothing was there
  pub join_status : (st : State) (who : Name) (n : Node) (x : Session) → n.programs ≡ programs → filter (of_sid sid) n.live ≡ [] → Matches g sid cast st who x → Status known s LeftBy st who (joined n x)
  join_status st who n x ps f m =
      settle st who (joined n x) x m
      (filter-append (of_sid sid) n.live (still n.programs x) ∙ ap (λ l. l ++ filter (of_sid sid) (still n.programs x)) f ∙ still-own sid n.programs x (is_sid x m.same_sid) ∙ ap (λ ps. still ps x) ps)
      (subst (λ z. has_joined (n.joins ++ (z, x.role) ∷ []) sid x.role ≡ true) (sym m.same_sid) (joined_now n.joins sid x.role))

  -- the session goes on
  pub goes_status : (st : State) (who : Name) (n : Node) (h : Here known s LeftBy st who n) (which : Session → Bool) (now : Session → List Session) (st' : State) (x' : Session) → n.programs ≡ programs → ((z : Session) → which z ≡ true → of_sid sid z ≡ true) → ((z : Session) → which z ≡ true → filter (of_sid sid) (now z) ≡ now z)
      → which h.x ≡ true → now h.x ≡ still n.programs x' → x'.role ≡ (h.x).role → Matches g sid cast st' who x' → Status known s LeftBy st' who (goes_on n which now)
  goes_status st who n h which now st' x' ps own own' w e r m =
      settle st' who (goes_on n which now) x' m
      (sym (replace-own which now own own' n.live) ∙ ap (replace which now) h.alone ∙ rw w (append-nil (now h.x) ∙ e ∙ ap (λ ps. still ps x') ps))
      (subst (λ z. has_joined n.joins sid z ≡ true) (sym r) h.was_joined)

  -- another session
  pub other_status : (st : State) (who : Name) (n n' : Node) → filter (of_sid sid) n'.live ≡ filter (of_sid sid) n.live → ((r : ℕ) → has_joined n.joins sid r ≡ true → has_joined n'.joins sid r ≡ true) → Status known s LeftBy st who n → Status known s LeftBy st who n'
  other_status st who n n' e j (inl f) = inl record { alone = e ∙ f.alone; all = f.all }
  other_status st who n n' e j (inr (inl h)) = inr (inl record { x = h.x; alone = e ∙ h.alone; matches = h.matches; was_joined = j (h.x).role h.was_joined })
  other_status st who n n' e j (inr (inr h)) = inr (inr record { alone = e ∙ h.alone; x = h.x; matches = h.matches; was_joined = j (h.x).role h.was_joined; why = h.why })

  -- nothing is known of the session in this call
  pub nothing : (st : State) (who : Name) (n : Node) (c : Call) (a : Answer) (nts : Notes) → NodeOk known s LeftBy st who (node_after n c a) → flat_map acts_of_event (filter (λ e. bytes_eq (sid_of e) sid) (events_of_answer a)) ≡ [] → Quiet sid a → ((nt : Note) → In nts.made nt → NoteOk g sid st.log nt) → (filter (of_sid sid) (node_after n c a).live ≡ filter (of_sid sid) n.live) ⊎ WasLeft known s LeftBy who n (node_after n c a) a → ((r : ℕ) → has_joined n.joins sid r ≡ true → has_joined (node_after n c a).joins sid r ≡ true) → ((r : ℕ) → has_joined (node_after n c a).joins sid r ≡ true → has_joined n.joins sid r ≡ true) → Out known s LeftBy st who n c a nts
  nothing st who n c a nts ok ev q md lf mj fj = record {
    moves = [];
    may = tt;
    node = ok;
    kept = kept_same who st;
    events = ev;
    typed = tt;
    used = tt;
    made = md;
    log = λ mk i. i;
    transcript = λ r e l. rw (quiet_transcript sid r c a q) (sym (append-nil (st.transcript r)), tt);
    sent = rw (quiet_items sid a q) (sym (append-nil st.machine.sent), tt);
    took = λ f t. absurd (quiet_took sid c a f q t);
    views = λ f t. absurd (quiet_took sid c a f q t);
    origins = λ f p x t e. absurd (quiet_took sid c a f q t);
    life = elim lf [ inl e ↦ inl record { quiet = q; same = e; fewer = fj } | inr w ↦ inr (inl w) ];
    more_joins = mj;
  }

  pub no_two : (st : State) (who : Name) (n : Node) (r : ℕ) → Status known s LeftBy st who n → principal cast r ≡ who → r < length cast.names → has_joined n.joins sid r ≡ false → Fresh known s LeftBy st who n
  no_two st who n r (inl f) p l j = f
  no_two st who n r (inr (inl h)) p l j =
      let same : (h.x).role ≡ r = one_index cast.names (h.x).role r differ h.matches.inside l (h.matches.is_who ∙ sym p) in
      absurd (clash (has_joined n.joins sid r) (subst (λ z. has_joined n.joins sid z ≡ true) same h.was_joined) j)
  no_two st who n r (inr (inr h)) p l j =
      let same : (h.x).role ≡ r = one_index cast.names (h.x).role r differ h.matches.inside l (h.matches.is_who ∙ sym p) in
      absurd (clash (has_joined n.joins sid r) (subst (λ z. has_joined n.joins sid z ≡ true) same h.was_joined) j)

  module _ (st : State) (who : Name) (n : Node) (ok : NodeOk known s LeftBy st who n) where
    pub joined_ok : (x : Session) (st' : State) → length x.sid ≡ 32 → Status known s LeftBy st' who (joined n x) → NodeOk known s LeftBy st' who (joined n x)
    joined_ok x st' l h = record { me = ok.me; has_programs = ok.has_programs; lengths = all-append (λ (x : Session). length x.sid ≡ 32) n.live (still n.programs x) ok.lengths (all_still (λ (x : Session). length x.sid ≡ 32) n.programs x l); status = h }

    pub other_joined : (x : Session) → bytes_eq x.sid sid ≡ false → length x.sid ≡ 32 → NodeOk known s LeftBy st who (joined n x)
    other_joined x h l = joined_ok x st l (other_status st who n (joined n x) (joined_other sid n x h) (λ r j. joined_more n.joins (x.sid, x.role) sid r j) ok.status)

    -- the live session with this sid
    pub the_session : (which : Session → Bool) → ((z : Session) → which z ≡ true → of_sid sid z ≡ true) → (x : Session) → find which n.live ≡ Some x → (h : Here known s LeftBy st who n) × (x ≡ h.x) × (which h.x ≡ true)
    the_session which own x e = go ok.status
      where
        in_filter : find which (filter (of_sid sid) n.live) ≡ Some x
        in_filter = find-filter which (of_sid sid) own n.live ∙ e

        go : Status known s LeftBy st who n → (h : Here known s LeftBy st who n) × (x ≡ h.x) × (which h.x ≡ true)
        go (inl f) = absurd (find_nil which (filter (of_sid sid) n.live) x f.alone in_filter)
        go (inr (inl h)) = let q : x ≡ h.x = find_head which (filter (of_sid sid) n.live) h.x x h.alone in_filter in (h, q, ap which (sym q) ∙ find_passes which n.live x e)
        go (inr (inr g')) = absurd (find_nil which (filter (of_sid sid) n.live) x g'.alone in_filter)
