-- What a start is to the law.
use Rattle.std.specs.Prelude.{◌≡◌, ℕ, ◌<◌, ◌==◌, ◌&&◌, true, false, List, [], ◌∷◌, ◌++◌, length, bytes_eq, refl, Option, Some, None}
use Rattle.std.specs.Option.{option_map_or}
use Rattle.std.proofs.Common.{sym, ◌∙◌, ap, subst, inl, inr, append-nil}
use Rattle.std.proofs.lemmas.Bool.{cases_Bool}
use Rattle.sg_model.specs.Lists.{first_some}
use Rattle.sg_model.specs.Names.{Name}
use Rattle.sg_protocol.specs.Graph.{Graph, shape}
use Rattle.sg_protocol.specs.Frame.{Cast}
use Rattle.sg_protocol.specs.Texts.{Hash, IsHash, session_id, session_text_of}
use Rattle.sg_protocol.specs.TextLaws.{CastFits}
use Rattle.sg_protocol.specs.Keyring.{Program}
use Rattle.sg_protocol.specs.Session.{principal, new_session}
use Rattle.sg_protocol.specs.Calls.{Started, Start, Answer, Happened, NotStarted, StartFault}
use Rattle.sg_protocol.specs.Notes.{Note, notes, notes_of_start}
use Rattle.sg_protocol.specs.Schedule.{Schedule}
use Rattle.sg_law.specs.Values.{State}
use Rattle.sg_protocol.proofs.Entries.{entries, Roles}
use Rattle.sg_protocol.proofs.Moves.{Matches}
use Rattle.sg_protocol.specs.Acting.{answer, started, rows_of_start}
use Rattle.sg_model.proofs.Small.{same_bytes}
use Rattle.sg_model.proofs.Members.{In}
use Rattle.sg_protocol.specs.Node.{Node, has_joined, starter}
use Rattle.sg_protocol.specs.NodeAfter.{still}
use Rattle.sg_protocol.proofs.KnownSession.{SessionOfCast}
use Rattle.sg_protocol.proofs.Finding.{joined_more, joined_less, joined_now}
use Rattle.sg_protocol.proofs.Calls.{transcript_in, quiet_event, Fresh, NodeOk, Out}
use Rattle.sg_protocol.proofs.AfterCalls.{event_other, joined_other, kept_same, new_matches, join_now, join_status, nothing, no_two, joined_ok, other_joined}
use Rattle.sg_protocol.proofs.NoRows.{StartRows, no_start_row, cast_parts}

pub start_made : (c : Cast) (a : Answer) (nt : Note) → In (notes_of_start c a).made nt → ⊥
start_made c (NotStarted StartFault.UnknownGraph) nt i = i
start_made c (NotStarted StartFault.BadCast) nt i = i
start_made c (NotStarted (StartFault.UnknownPeer name)) nt i = i
start_made c other nt i = i

module _ {sha : Hash} {programs : List Program} {sid : List ℕ} {cast : Cast} {g : Graph} {Hashed : List ℕ → Type 0} (known : SessionOfCast sha programs sid cast g Hashed) (s : Schedule) (LeftBy : Name → Type 0) (st : State) (who : Name) (n : Node) (ok : NodeOk known s LeftBy st who n) where
  abbrev hash : IsHash sha
  hash = known.is_hash

  abbrev one_cast : (c : Cast) → CastFits c → Hashed (session_text_of c) → session_id sha c ≡ sid → c ≡ cast
  one_cast = known.one_cast

  module _ (c : Cast) (fits : CastFits c) where
    start_done : (p : Program) → starter n.programs c.graph ≡ Some p → first_some (rows_of_start n p (session_id sha c) c) ≡ None → ((t : List ℕ) → In (session_text_of c ∷ []) t → Hashed t) → Out known s LeftBy st who n (Start c) (Happened (Started (session_id sha c) p.role)) (record { made = []; found = []; hashed = session_text_of c ∷ [] })
    start_done p sp e hs = elim (cases_Bool (bytes_eq (session_id sha c) sid)) [
      | inl h ↦ mine h
      | inr h ↦ nothing known s LeftBy st who n (Start c) (Happened (Started (session_id sha c) p.role)) (record { made = []; found = []; hashed = session_text_of c ∷ [] })
          (other_joined known s LeftBy st who n ok (new_session (session_id sha c) c p.role) h (hash (session_text_of c)).0) (event_other sid (Started (session_id sha c) p.role) h) (quiet_event sid (Started (session_id sha c) p.role) h) (λ nt i. absurd i) (inl (joined_other sid n (new_session (session_id sha c) c p.role) h)) (λ r j. joined_more n.joins (session_id sha c, p.role) sid r j) (λ r j. joined_less n.joins (session_id sha c, p.role) sid r h j)
    ]
      where
        mine : bytes_eq (session_id sha c) sid ≡ true → Out known s LeftBy st who n (Start c) (Happened (Started (session_id sha c) p.role)) (record { made = []; found = []; hashed = session_text_of c ∷ [] })
        mine h =
            let same : session_id sha c ≡ sid = same_bytes (session_id sha c) sid h in
            let its : c ≡ cast = one_cast c fits (hs (session_text_of c) (inl refl)) same in
            let r : StartRows sha n c p = no_start_row sha n c p e in
            let cp = cast_parts n.keys p.graph c p.role r.cast in
            let free : has_joined n.joins sid p.role ≡ false = subst (λ z. has_joined n.joins z p.role ≡ false) same r.unjoined in
            let is_who : principal cast p.role ≡ who = subst (λ (z : Cast). principal z p.role ≡ who) its (cp.1 ∙ ok.me) in
            let inside : p.role < length cast.names = subst (λ (z : Cast). p.role < length z.names) its cp.0 in
            let fresh : Fresh known s LeftBy st who n = no_two known s LeftBy st who n p.role ok.status is_who inside free in
            let m : Matches g sid cast st who (new_session (session_id sha c) c p.role) = new_matches known s LeftBy st who c (session_id sha c) p.role same its is_who inside (fresh.all p.role is_who inside) in
            record {
              moves = [];
              may = tt;
              node = joined_ok known s LeftBy st who n ok (new_session (session_id sha c) c p.role) st (hash (session_text_of c)).0 (join_status known s LeftBy st who n (new_session (session_id sha c) c p.role) ok.has_programs fresh.alone m);
              kept = kept_same known s LeftBy who st;
              events = rw h refl;
              typed = tt;
              used = tt;
              made = λ nt i. absurd i;
              log = λ mk i. i;
              transcript = λ r e l. start_transcript r;
              sent = (sym (append-nil st.machine.sent), tt);
              took = λ f t. (let e = t.is_call in absurd (cc));
              views = λ f t. (let e = t.is_call in absurd (cc));
              origins = λ f q y t s. (let e = t.is_call in absurd (cc));
              life = inr (inr (inl record {
                role = p.role;
                program = p;
                found_p = subst (λ ps. starter ps cast.graph ≡ Some p) ok.has_programs (subst (λ (z : Cast). starter n.programs z.graph ≡ Some p) its sp);
                its_role = refl;
                is_answer = ap (λ z. Happened (Started z p.role)) same;
                is_who = is_who;
                inside = inside;
                none = fresh.alone;
                unjoined = free;
                now = join_now known s LeftBy n (new_session (session_id sha c) c p.role) ok.has_programs fresh.alone same ∙ ap (λ z. still programs (new_session z c p.role)) same ∙ ap (λ z. still programs (new_session sid z p.role)) its;
                was_joined = subst (λ z. has_joined (n.joins ++ (z, p.role) ∷ []) sid p.role ≡ true) (sym same) (joined_now n.joins sid p.role);
              }));
              more_joins = λ r j. joined_more n.joins (session_id sha c, p.role) sid r j;
            }
          where
            start_transcript : (r : ℕ) → (st.transcript r ≡ st.transcript r ++ entries (transcript_in sid r (Start c) (Happened (Started (session_id sha c) p.role)))) × Roles (shape g) (transcript_in sid r (Start c) (Happened (Started (session_id sha c) p.role)))
            start_transcript r = elim (cases_Bool (bytes_eq (session_id sha c) sid && (p.role == r))) [ inl k ↦ rw k (sym (append-nil (st.transcript r)), tt) | inr k ↦ rw k (sym (append-nil (st.transcript r)), tt) ]

    start_rows : (p : Program) → starter n.programs c.graph ≡ Some p → (o : Option StartFault) → first_some (rows_of_start n p (session_id sha c) c) ≡ o → ((t : List ℕ) → In (notes_of_start c (started (session_id sha c) p.role o)).hashed t → Hashed t)
        → Out known s LeftBy st who n (Start c) (started (session_id sha c) p.role o) (notes_of_start c (started (session_id sha c) p.role o))
    start_rows p sp None e hs = start_done p sp e hs
    start_rows p sp (Some f) e hs = nothing known s LeftBy st who n (Start c) (NotStarted f) (notes_of_start c (NotStarted f)) ok refl refl (λ nt i. absurd (start_made c (NotStarted f) nt i)) (inl refl) (λ r j. j) (λ r j. j)

    start_program : (o : Option Program) → starter n.programs c.graph ≡ o → let a : Answer = option_map_or (λ (p : Program). started (session_id sha c) p.role (first_some (rows_of_start n p (session_id sha c) c))) o (NotStarted StartFault.UnknownGraph) in
        ((t : List ℕ) → In (notes_of_start c a).hashed t → Hashed t) → Out known s LeftBy st who n (Start c) a (notes_of_start c a)
    start_program None sp hs = nothing known s LeftBy st who n (Start c) (NotStarted StartFault.UnknownGraph) (notes_of_start c (NotStarted StartFault.UnknownGraph)) ok refl refl (λ nt i. absurd i) (inl refl) (λ r j. j) (λ r j. j)
    start_program (Some p) sp hs = start_rows p sp (first_some (rows_of_start n p (session_id sha c) c)) refl hs

  pub start_out : (c : Cast) → CastFits c → ((t : List ℕ) → In (notes sha n (Start c)).hashed t → Hashed t) → Out known s LeftBy st who n (Start c) (answer sha n (Start c)) (notes sha n (Start c))
  start_out c fits hs = start_program c fits (starter n.programs c.graph) refl hs
