-- The first event of a session, at whichever node, starts or joins it.
use Rattle.std.specs.Prelude.{◌≡◌, ℕ, ◌==◌, nat_lt, ◌⊎◌, Bool, true, false, List, [], ◌∷◌, ◌++◌, filter, length, find, bytes_eq, refl, Option, Some, None}
use Rattle.std.specs.List.{list_any}
use Rattle.std.specs.Option.{option_map_or}
use Rattle.std.proofs.Common.{sym, ◌∙◌, ap, subst, inl, inr}
use Rattle.std.proofs.lemmas.Bool.{eqb-true, cases_Bool, and_parts}
use Rattle.std.proofs.lemmas.Slice.Eq.{bytes_eq-Decides}
use Rattle.sg_model.specs.Last.{Map, last}
use Rattle.sg_model.specs.Lists.{first_some, all_differ}
use Rattle.sg_model.specs.Values.{Value}
use Rattle.sg_protocol.specs.Graph.{Graph}
use Rattle.sg_protocol.specs.Frame.{Cast, Item, Frame}
use Rattle.sg_protocol.specs.Spelling.{HasSpelling}
use Rattle.sg_protocol.specs.Texts.{Hash, session_id, session_text_of}
use Rattle.sg_protocol.specs.TextLaws.{CastFits}
use Rattle.sg_protocol.specs.Keyring.{Keyring, Program}
use Rattle.sg_protocol.specs.Session.{Session, Took, Gave, principal, extended, new_session}
use Rattle.sg_protocol.specs.Calls.{Refusal, ActFault, Started, Call, Start, Act, Abandon, Deliver, Answer, Happened, Abandoned, NotStarted, NotActed, NotAbandoned, StartFault, UnknownGraph, UnknownSession, events_of_answer, sid_of}
use Rattle.sg_protocol.specs.Verdict.{decided, receipt, verdict_on, rows_of_join, rows_of_next, join_rows, next_rows, rows}
use Rattle.sg_protocol.specs.Sending.{frame_sent}
use Rattle.sg_protocol.specs.Acting.{rows_of_act, openings_for, answer, started, acted, sent, rows_of_start}
use Rattle.sg_protocol.specs.Notes.{Notes, notes, notes_of_start, notes_of_read}
use Rattle.std.specs.Prelude.{Result, Ok, Err, option_and_then}
use Rattle.sg_model.specs.Bytes.{IsBytes}
use Rattle.sg_model.proofs.Small.{same_bytes}
use Rattle.sg_model.proofs.Members.{In}
use Rattle.sg_model.proofs.Finding.{find_passes, nil_none, find-filter}
use Rattle.sg_protocol.specs.Reading.{read}
use Rattle.sg_protocol.specs.Node.{Node, is_for, is_cast, session_with, session_for, program_for, starter}
use Rattle.sg_protocol.specs.NodeAfter.{node_after, joined, goes_on, replace, still, takes_read}
use Rattle.sg_protocol.proofs.ReadBack.{read-SpellsFrame}
use Rattle.sg_protocol.specs.Run.{cast_in}
use Rattle.sg_protocol.proofs.Happenings.{IsGiven, cast_given}
use Rattle.sg_protocol.proofs.OfSid.{of_sid, replace-other, replace-own, still-other, for_sid}
use Rattle.sg_protocol.proofs.NoRows.{JoinRows, no_start_row, no_join_row, rows_join, text_hashed, join_fits, program_found, starter_found}
use Rattle.std.specs.Result.{result_ok}
use Rattle.std.proofs.lemmas.List.Elements.{filter-append}

module _ (sha : Hash) (sid : List ℕ) where
  pub record BegunBy (n : Node) (c : Call) (a : Answer) (nts : Notes) : Type 0 where
    pub has_event : list_any (λ e. bytes_eq (sid_of e) sid) (events_of_answer a) ≡ true
    pub cast : Cast
    pub in_call : cast_in c ≡ Some cast
    pub sid_is : session_id sha cast ≡ sid
    pub fits : CastFits cast
    pub is_hashed : In nts.hashed (session_text_of cast)
    pub program : Program
    pub there : In n.programs program
    pub digest : program.digest ≡ cast.graph
    pub differ : all_differ cast.names ≡ true
    pub lengths : length cast.names ≡ length program.graph.roles

  abbrev pub Still : Node → Call → Answer → Type 0
  Still n c a = (filter (λ e. bytes_eq (sid_of e) sid) (events_of_answer a) ≡ []) × (filter (of_sid sid) (node_after n c a).live ≡ [])

  abbrev pub Either : Node → Call → Answer → Notes → Type 0
  Either n c a nts = Still n c a ⊎ BegunBy n c a nts

  cast_length : (keys : Keyring) (g : Graph) (c : Cast) (r : ℕ) → is_cast keys g c r ≡ true → length c.names ≡ length g.roles
  cast_length keys g c r h = eqb-true (length c.names) (length g.roles) (and_parts (length c.names == length g.roles) (all_differ c.names) (and_parts _ (nat_lt r (length c.names)) (and_parts _ (bytes_eq (principal c r) keys.me) h).0).0).0

  cast_differ : (keys : Keyring) (g : Graph) (c : Cast) (r : ℕ) → is_cast keys g c r ≡ true → all_differ c.names ≡ true
  cast_differ keys g c r h = (and_parts (length c.names == length g.roles) (all_differ c.names) (and_parts _ (nat_lt r (length c.names)) (and_parts _ (bytes_eq (principal c r) keys.me) h).0).0).1

  module _ (n : Node) (quiet : filter (of_sid sid) n.live ≡ []) where
    -- a start
    start_done : (c : Cast) → CastFits c → (p : Program) → starter n.programs c.graph ≡ Some p → first_some (rows_of_start n p (session_id sha c) c) ≡ None → Either n (Start c) (Happened (Started (session_id sha c) p.role)) (record { made = []; found = []; hashed = session_text_of c ∷ [] })
    start_done c fits p sp e = elim (cases_Bool (bytes_eq (session_id sha c) sid)) [
      | inl h ↦
          inr record {
            cast = c;
            has_event = rw h refl;
            in_call = refl;
            sid_is = same_bytes (session_id sha c) sid h;
            fits = fits;
            is_hashed = inl refl;
            program = p;
            there = (starter_found n.programs c.graph p sp).there;
            digest = (starter_found n.programs c.graph p sp).digest_is;
            differ = cast_differ n.keys p.graph c p.role (no_start_row sha n c p e).cast;
            lengths = cast_length n.keys p.graph c p.role (no_start_row sha n c p e).cast;
          }
      | inr h ↦ inl (rw h refl, filter-append (of_sid sid) n.live (still n.programs (new_session (session_id sha c) c p.role)) ∙ ap (λ l. l ++ filter (of_sid sid) (still n.programs (new_session (session_id sha c) c p.role))) quiet ∙ still-other sid n.programs (new_session (session_id sha c) c p.role) h)
    ]

    start_first : (c : Cast) → CastFits c → Either n (Start c) (answer sha n (Start c)) (notes sha n (Start c))
    start_first c fits = by_program (starter n.programs c.graph) refl
      where
        by_rows : (p : Program) → starter n.programs c.graph ≡ Some p → (o : Option StartFault) → first_some (rows_of_start n p (session_id sha c) c) ≡ o → Either n (Start c) (started (session_id sha c) p.role o) (notes_of_start c (started (session_id sha c) p.role o))
        by_rows p sp None e = start_done c fits p sp e
        by_rows p sp (Some f) e = inl (refl, quiet)

        by_program : (o : Option Program) → starter n.programs c.graph ≡ o → Either n (Start c) (answer sha n (Start c)) (notes sha n (Start c))
        by_program None e = subst (λ o. let a : Answer = option_map_or (λ (p : Program). started (session_id sha c) p.role (first_some (rows_of_start n p (session_id sha c) c))) o (NotStarted StartFault.UnknownGraph) in Either n (Start c) a (notes_of_start c a)) (sym e) (inl (refl, quiet))
        by_program (Some p) e = subst (λ o. let a : Answer = option_map_or (λ (p : Program). started (session_id sha c) p.role (first_some (rows_of_start n p (session_id sha c) c))) o (NotStarted StartFault.UnknownGraph) in Either n (Start c) a (notes_of_start c a)) (sym e) (by_rows p e (first_some (rows_of_start n p (session_id sha c) c)) refl)

    -- no session has the sid
    none_with : (which : Session → Bool) → ((z : Session) → which z ≡ true → of_sid sid z ≡ true) → find which n.live ≡ None
    none_with which own = sym (find-filter which (of_sid sid) own n.live) ∙ nil_none which (filter (of_sid sid) n.live) quiet

    abandon_first : (sid0 : List ℕ) (nts : Notes) → Either n (Abandon sid0) (answer sha n (Abandon sid0)) nts
    abandon_first sid0 nts = go (session_with n.live sid0)
      where
        left : filter (of_sid sid) (replace (λ (x : Session). bytes_eq x.sid sid0) (λ x. []) n.live) ≡ []
        left = elim (cases_Bool (bytes_eq sid0 sid)) [
          | inl h ↦ sym (replace-own (λ (x : Session). bytes_eq x.sid sid0) (λ x. []) (λ x e. subst (λ y. bytes_eq x.sid y ≡ true) (same_bytes sid0 sid h) e) (λ x e. refl) n.live) ∙ ap (replace (λ (x : Session). bytes_eq x.sid sid0) (λ x. [])) quiet
          | inr h ↦ replace-other (λ (x : Session). bytes_eq x.sid sid0) (λ x. []) (λ x e. subst (λ y. bytes_eq y sid ≡ false) (sym (same_bytes x.sid sid0 e)) h) (λ x e. refl) n.live ∙ quiet
        ]

        go : (o : Option Session) → Either n (Abandon sid0) (option_map_or (λ (x : Session). Abandoned) o NotAbandoned) nts
        go None = inl (refl, quiet)
        go (Some x) = inl (refl, left)

    act_first : (sid0 : List ℕ) (label : ℕ) (values : Map Value) (confs : List (List ℕ)) (nts : Notes) → Either n (Act sid0 label values confs) (answer sha n (Act sid0 label values confs)) nts
    act_first sid0 label values confs nts = elim (cases_Bool (bytes_eq sid0 sid)) [
      | inl h ↦ subst (λ o. Either n (Act sid0 label values confs) (option_map_or (λ x. option_map_or (λ p. acted (sent sha n.keys p x label values confs) (first_some (rows_of_act p x label values))) (program_for n.programs x.cast.graph x.role) (NotActed ActFault.UnknownSession)) o (NotActed ActFault.UnknownSession)) nts) (sym (none_with (λ (z : Session). bytes_eq z.sid sid0) (λ z e. subst (λ y. bytes_eq z.sid y ≡ true) (same_bytes sid0 sid h) e))) (inl (refl, quiet))
      | inr h ↦ by_session h (session_with n.live sid0) refl
    ]
      where
        by_rows : bytes_eq sid0 sid ≡ false → (x : Session) → x.sid ≡ sid0 → (p : Program) (o : Option ActFault) → Either n (Act sid0 label values confs) (acted (sent sha n.keys p x label values confs) o) nts
        by_rows h x xs p (Some f) = inl (refl, quiet)
        by_rows h x xs p None = inl (
          rw (ap (λ y. bytes_eq y sid) xs ∙ h) refl,
          replace-other (λ (z : Session). bytes_eq z.sid sid0) (λ z. option_map_or (λ (i : Item). still n.programs (extended z (Gave i (openings_for values confs)))) (last (frame_sent sha n.keys p x label (openings_for values confs)).items) (z ∷ []))
              (λ z e. subst (λ y. bytes_eq y sid ≡ false) (sym (same_bytes z.sid sid0 e)) h) (λ z e. other_now z (subst (λ y. bytes_eq y sid ≡ false) (sym (same_bytes z.sid sid0 e)) h) (last (frame_sent sha n.keys p x label (openings_for values confs)).items)) n.live ∙ quiet,
        )
          where
            other_now : (z : Session) → bytes_eq z.sid sid ≡ false → (o : Option Item) → filter (of_sid sid) (option_map_or (λ (i : Item). still n.programs (extended z (Gave i (openings_for values confs)))) o (z ∷ [])) ≡ []
            other_now z k None = rw k refl
            other_now z k (Some i) = still-other sid n.programs (extended z (Gave i (openings_for values confs))) k

        by_program : bytes_eq sid0 sid ≡ false → (x : Session) → x.sid ≡ sid0 → (o : Option Program) → Either n (Act sid0 label values confs) (option_map_or (λ p. acted (sent sha n.keys p x label values confs) (first_some (rows_of_act p x label values))) o (NotActed ActFault.UnknownSession)) nts
        by_program h x xs None = inl (refl, quiet)
        by_program h x xs (Some p) = by_rows h x xs p (first_some (rows_of_act p x label values))

        by_session : bytes_eq sid0 sid ≡ false → (o : Option Session) → session_with n.live sid0 ≡ o → Either n (Act sid0 label values confs) (answer sha n (Act sid0 label values confs)) nts
        by_session h None e = subst (λ o. Either n (Act sid0 label values confs) (option_map_or (λ x. option_map_or (λ p. acted (sent sha n.keys p x label values confs) (first_some (rows_of_act p x label values))) (program_for n.programs x.cast.graph x.role) (NotActed ActFault.UnknownSession)) o (NotActed ActFault.UnknownSession)) nts) (sym e) (inl (refl, quiet))
        by_session h (Some x) e = subst (λ o. Either n (Act sid0 label values confs) (option_map_or (λ x. option_map_or (λ p. acted (sent sha n.keys p x label values confs) (first_some (rows_of_act p x label values))) (program_for n.programs x.cast.graph x.role) (NotActed ActFault.UnknownSession)) o (NotActed ActFault.UnknownSession)) nts) (sym e)
            (by_program h x (same_bytes x.sid sid0 (find_passes (λ (z : Session). bytes_eq z.sid sid0) n.live x e)) (program_for n.programs x.cast.graph x.role))

    module _ (bs : List ℕ) (f : Frame) (spelled : HasSpelling f) (is_read : read bs ≡ Ok f) where
      abbrev nexts : Option Cast → Node
      nexts o = option_map_or (λ c. joined n (extended (new_session f.sid c f.receiver) (Took f))) o (goes_on n (is_for f) (λ z. still n.programs (extended z (Took f))))

      other_quiet : bytes_eq f.sid sid ≡ false → (o : Option Cast) → filter (of_sid sid) (nexts o).live ≡ []
      other_quiet h None = replace-other (is_for f) (λ z. still n.programs (extended z (Took f))) (λ z e. subst (λ y. bytes_eq y sid ≡ false) (sym (for_sid f z e)) h) (λ z e. still-other sid n.programs (extended z (Took f)) (subst (λ y. bytes_eq y sid ≡ false) (sym (for_sid f z e)) h)) n.live ∙ quiet
      other_quiet h (Some c) = filter-append (of_sid sid) n.live (still n.programs (extended (new_session f.sid c f.receiver) (Took f))) ∙ ap (λ l. l ++ filter (of_sid sid) (still n.programs (extended (new_session f.sid c f.receiver) (Took f)))) quiet ∙ still-other sid n.programs (extended (new_session f.sid c f.receiver) (Took f)) h

      join_first : first_some (rows sha n f) ≡ None → f.sid ≡ sid → (c : Cast) → f.join ≡ Some c → (p : Program) → program_for n.programs c.graph f.receiver ≡ Some p → first_some (rows_of_join sha n f c p) ≡ None → BegunBy n (Deliver bs) (Happened (receipt f)) (notes_of_read sha n (Ok f))
      join_first e fs c jc p pc rj =
          let r : JoinRows sha n f c p = no_join_row sha n f c p rj in
          record {
            cast = c;
            has_event = rw ((bytes_eq-Decides f.sid sid).1 fs) refl;
            in_call = ap (λ r. option_and_then (λ (f : Frame). f.join) (result_ok r)) is_read ∙ jc;
            sid_is = sym r.sid ∙ fs;
            fits = join_fits sha n f c jc spelled;
            is_hashed = text_hashed sha n f c jc e;
            program = p;
            there = (program_found n.programs c.graph f.receiver p pc).2;
            digest = (program_found n.programs c.graph f.receiver p pc).0;
            differ = cast_differ n.keys p.graph c f.receiver r.cast;
            lengths = cast_length n.keys p.graph c f.receiver r.cast;
          }

      by_program : first_some (rows sha n f) ≡ None → f.sid ≡ sid → (c : Cast) → f.join ≡ Some c → (o : Option Program) → program_for n.programs c.graph f.receiver ≡ o → BegunBy n (Deliver bs) (Happened (receipt f)) (notes_of_read sha n (Ok f))
      by_program e fs c jc None pc = (let q : first_some (rows sha n f) ≡ Some UnknownGraph = rows_join sha n f c jc None pc in absurd (cc))
      by_program e fs c jc (Some p) pc = join_first e fs c jc p pc (sym (rows_join sha n f c jc (Some p) pc) ∙ e)

      by_join : first_some (rows sha n f) ≡ None → f.sid ≡ sid → (o : Option Cast) → f.join ≡ o → BegunBy n (Deliver bs) (Happened (receipt f)) (notes_of_read sha n (Ok f))
      by_join e fs None jn =
          (let none : session_for n.live f ≡ None = none_with (is_for f) (λ z w. (bytes_eq-Decides z.sid sid).1 (for_sid f z w ∙ fs)) in
          let q : first_some (rows sha n f) ≡ Some UnknownSession = ap (λ o. first_some (option_map_or (join_rows sha n f) o (next_rows sha n f))) jn ∙ ap (λ o. first_some (option_map_or (λ z. option_map_or (rows_of_next sha n f z) (program_for n.programs z.cast.graph z.role) (Some UnknownSession ∷ [])) o (Some UnknownSession ∷ []))) none in absurd (cc))
      by_join e fs (Some c) jc = by_program e fs c jc (program_for n.programs c.graph f.receiver) refl

      by_rows_ : (o : Option Refusal) → first_some (rows sha n f) ≡ o → Either n (Deliver bs) (decided (receipt f) o) (notes_of_read sha n (Ok f))
      by_rows_ (Some r) e = inl (refl, quiet)
      by_rows_ None e = elim (cases_Bool (bytes_eq f.sid sid)) [
        | inl h ↦ inr (by_join e (same_bytes f.sid sid h) f.join refl)
        | inr h ↦ inl (rw h refl, ap (λ (m : Node). filter (of_sid sid) m.live) (ap (takes_read n) is_read) ∙ other_quiet h f.join)
      ]

    deliver_first : (bs : List ℕ) → IsBytes bs → Either n (Deliver bs) (answer sha n (Deliver bs)) (notes sha n (Deliver bs))
    deliver_first bs bytes = go (read bs) refl
      where
        go : (r : Result Frame ℕ) → read bs ≡ r → Either n (Deliver bs) (answer sha n (Deliver bs)) (notes sha n (Deliver bs))
        go (Err at) e = subst (λ r. Either n (Deliver bs) (verdict_on sha n r) (notes_of_read sha n r)) (sym e) (inl (refl, quiet))
        go (Ok f) e = subst (λ r. Either n (Deliver bs) (verdict_on sha n r) (notes_of_read sha n r)) (sym e) (by_rows_ bs f (read-SpellsFrame bs f bytes e).is_frame e (first_some (rows sha n f)) refl)

    -- a call
    pub call_first : (c : Call) → IsGiven c → Either n c (answer sha n c) (notes sha n c)
    call_first (Start c) h = start_first c (cast_given c h)
    call_first (Act sid0 label values confs) h = act_first sid0 label values confs (notes sha n (Act sid0 label values confs))
    call_first (Abandon sid0) h = abandon_first sid0 (notes sha n (Abandon sid0))
    call_first (Deliver bs) h = deliver_first bs h
