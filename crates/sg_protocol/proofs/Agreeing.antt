-- What the law has of each role in a run is what its principal took and gave.
use Rattle.std.specs.Prelude.{◌≡◌, ℕ, ◌+◌, ◌<◌, true, List, [], ◌∷◌, ◌++◌, map, filter, flat_map, length, refl, Option, Some, None, option_map}
use Rattle.std.specs.List.{AllByRecursion, cons_option}
use Rattle.std.proofs.Common.{sym, ◌∙◌, ap, subst, append-nil}
use Rattle.std.proofs.lemmas.List.{map-append}
use Rattle.std.proofs.lemmas.List.Elements.{filter-append, filter_map-append}
use Rattle.sg_model.specs.Names.{Name}
use Rattle.sg_law.specs.Values as V
use Rattle.sg_law.specs.Values.{State, Commit, Move, moved_all}
use Rattle.sg_protocol.specs.Graph.{Graph, shape}
use Rattle.sg_protocol.specs.Frame.{Cast, Item}
use Rattle.sg_protocol.specs.Texts.{Hash, commitment}
use Rattle.sg_protocol.specs.Keyring.{Program}
use Rattle.sg_protocol.specs.Session.{principal, items_of}
use Rattle.sg_protocol.specs.Calls.{Call, Sends}
use Rattle.sg_protocol.specs.Acting.{answer}
use Rattle.sg_protocol.specs.Notes.{notes}
use Rattle.sg_protocol.specs.Past.{AnsweredCall, Past, node_of, past_after}
use Rattle.sg_protocol.specs.Schedule.{Schedule, is_honest}
use Rattle.sg_protocol.specs.World.{World, Logged, Outcome, Answered, past_of}
use Rattle.sg_protocol.specs.Run.{called, uncalled, frame_in, events_of_outcome}
use Rattle.sg_protocol.specs.LastSteps.{exchanges_of, exchanges_in, is_of, honest_items, sent_item}
use Rattle.sg_protocol.proofs.Calls.{Out}
use Rattle.sg_protocol.proofs.Progressing.{Suffix, next_past, past_called, moved-append}
use Rattle.sg_protocol.proofs.Entries.{entry, entries, Roles}
use Rattle.sg_protocol.proofs.Moves.{step, roles-append}
use Rattle.sg_protocol.proofs.Paths.{flat_map-append}
use Rattle.sg_protocol.proofs.Going.{SessionInRun, Progress, Left, idle, out_of, progress_called, progress_moves}
use Rattle.sg_protocol.proofs.Happenings.{Happening, IsGiven, IsRight, all_happen, keep_course, pasts_kept}

module _ (sid : List ℕ) where
  -- the items of the session that role r took or gave
  abbrev pub transcript_by : ℕ → List AnsweredCall → List Item
  transcript_by r calls = flat_map items_of (exchanges_of sid r calls)

  transcript_by-append : (r : ℕ) (cs : List AnsweredCall) (c : AnsweredCall) → transcript_by r (cs ++ c ∷ []) ≡ transcript_by r cs ++ transcript_by r (c ∷ [])
  transcript_by-append r cs c =
      ap (λ l. flat_map items_of (flat_map (λ (c : AnsweredCall). exchanges_in c.call c.answer) l)) (filter-append (is_of sid r) cs (c ∷ []))
      ∙ ap (flat_map items_of) (flat_map-append (λ (c : AnsweredCall). exchanges_in c.call c.answer) (filter (is_of sid r) cs) (filter (is_of sid r) (c ∷ [])))
      ∙ flat_map-append items_of (exchanges_of sid r cs) (exchanges_of sid r (c ∷ []))

  pub honest_items-append : (xs ys : List Logged) → honest_items sid (xs ++ ys) ≡ honest_items sid xs ++ honest_items sid ys
  honest_items-append xs ys = filter_map-append (λ (l : Logged). sent_item sid l.outcome) xs ys

  -- the law has what the role took and gave
  abbrev pub IsTranscript : Graph → State → ℕ → List AnsweredCall → Type 0
  IsTranscript g st r calls = (st.transcript r ≡ entries (transcript_by r calls)) × Roles (shape g) (transcript_by r calls)

module _ {sha : Hash} {s : Schedule} {sid : List ℕ} {cast : Cast} {g : Graph} {wf : World} {Own : List Program → Type 0} (known : SessionInRun sha s sid cast g wf Own) where
  abbrev commit : Commit
  commit o = commitment sha sid o

  -- the state of the law after these moves
  abbrev pub after_moves : List Move → State
  after_moves ms = moved_all (λ o. commitment sha sid o) (V.at_first (shape g)) ms

  pub record MovesAgree (w : World) (p : Progress known w) : Type 0 where
    pub transcript : (who : Name) (y : Past) → past_of w who ≡ Some y → (r : ℕ) → principal cast r ≡ who → r < length cast.names → IsTranscript sid g (after_moves p.moves) r y.calls
    pub sent : ((after_moves p.moves).machine.sent ≡ map step (honest_items sid w.log)) × Roles (shape g) (honest_items sid w.log)
    pub pasts : (who : Name) → is_honest s who ≡ true → (y : Past) × (past_of w who ≡ Some y)

  -- an entry without a call
  pub agree_idle : (w : World) (k : ℕ) (p : Progress known w) → MovesAgree w p → (who : Option Name) (o : Outcome) (fr : Option (List ℕ)) (e : events_of_outcome o ≡ []) → MovesAgree (uncalled w k who o fr) (idle known w k who o fr e p)
  unfolding idle
  agree_idle w k p agree who o fr e = record {
    transcript = agree.transcript;
    sent = subst (λ l. ((after_moves p.moves).machine.sent ≡ map step l) × Roles (shape g) l) (sym (honest_items-append sid w.log _ ∙ ap (λ z. honest_items sid w.log ++ cons_option z []) (no_item o e) ∙ append-nil (honest_items sid w.log))) agree.sent;
    pasts = agree.pasts;
  }
    where
      no_item : (o : Outcome) → events_of_outcome o ≡ [] → sent_item sid o ≡ None
      no_item (Answered (Sends ev to f)) h = absurd (cc)
      no_item other h = refl

  module _ (w : World) (k : ℕ) (p : Progress known w) (who : Name) (past : Past) (its_past : past_of w who ≡ Some past) (c : Call) (range : IsGiven c) (after : Suffix (k + 1) (called sha w k who c past).log wf.log) where
    abbrev pub Outs : Type 0
    Outs = Out (known.of_cast past.programs (p.nodes who past its_past).own) s (Left known) (after_moves p.moves) who (node_of past) c (answer sha (node_of past) c) (notes sha (node_of past) c)

    abbrev entry_ : Logged
    entry_ = record { number = k; who = Some who; call = Some c; outcome = Answered (answer sha (node_of past) c); frame = frame_in (answer sha (node_of past) c); notes = notes sha (node_of past) c }

    pub agree_called : MovesAgree w p → (out : Outs) → MovesAgree (called sha w k who c past) (progress_called known w k p who past its_past c range after out)
    agree_called moves_agree out = record {
      transcript = λ me p' e r is l. subst (λ z. IsTranscript sid g z r p'.calls) (sym moved) (pasts_kept sha w k who past its_past c (λ me p'. (r : ℕ) → principal cast r ≡ me → r < length cast.names → IsTranscript sid g (moved_all commit (after_moves p.moves) out.moves) r p'.calls) mine (λ me y ne e r is l. others me y ne e r is l) me p' e r is l);
      sent = subst (λ l. ((after_moves (progress_called known w k p who past its_past c range after out).moves).machine.sent ≡ map step l) × Roles (shape g) l) (sym (honest_items-append sid w.log (entry_ ∷ [])))
          (ap (λ (z : State). z.machine.sent) moved ∙ out.sent.0 ∙ ap (λ l. l ++ map step (honest_items sid (entry_ ∷ []))) moves_agree.sent.0 ∙ sym (map-append step (honest_items sid w.log) (honest_items sid (entry_ ∷ []))), roles-append (shape g) (honest_items sid w.log) (honest_items sid (entry_ ∷ [])) moves_agree.sent.1 out.sent.1);
      pasts = λ me is. (let o = moves_agree.pasts me is in (next_past sha who c o.0, past_called sha w k who c past me ∙ ap (option_map (next_past sha who c)) o.1));
    }
      where
        moved : after_moves (progress_called known w k p who past its_past c range after out).moves ≡ moved_all commit (after_moves p.moves) out.moves
        moved = ap after_moves (progress_moves known w k p who past its_past c range after out) ∙ moved-append commit (V.at_first (shape g)) p.moves out.moves

        mine : (r : ℕ) → principal cast r ≡ who → r < length cast.names → IsTranscript sid g (moved_all commit (after_moves p.moves) out.moves) r (past_after sha past c).calls
        mine r is l =
            let old : IsTranscript sid g (after_moves p.moves) r past.calls = moves_agree.transcript who past its_past r is l in
            let new = out.transcript r is l in
            subst (λ l. ((moved_all commit (after_moves p.moves) out.moves).transcript r ≡ entries l) × Roles (shape g) l) (sym (transcript_by-append sid r past.calls (record { call = c; answer = answer sha (node_of past) c })))
            (new.0 ∙ ap (λ l. l ++ entries (transcript_by sid r (record { call = c; answer = answer sha (node_of past) c } ∷ []))) old.0 ∙ sym (map-append entry (transcript_by sid r past.calls) (transcript_by sid r (record { call = c; answer = answer sha (node_of past) c } ∷ []))), roles-append (shape g) (transcript_by sid r past.calls) (transcript_by sid r (record { call = c; answer = answer sha (node_of past) c } ∷ [])) old.1 new.1)

        others : (me : Name) (y : Past) → (me ≡ who → ⊥) → past_of w me ≡ Some y → (r : ℕ) → principal cast r ≡ me → r < length cast.names → IsTranscript sid g (moved_all commit (after_moves p.moves) out.moves) r y.calls
        others me y ne e r is l =
            let old : IsTranscript sid g (after_moves p.moves) r y.calls = moves_agree.transcript me y e r is l in
            (out.kept.transcript r (λ z. ne (sym is ∙ z)) ∙ old.0, old.1)

  -- a world, and what it is to the law, of which this holds
  abbrev pub With : ((w : World) → Progress known w → Type 0) → World → Type 0
  With P w = (p : Progress known w) × P w p

  -- what each call keeps, and each entry without a call, holds in the end
  pub with_all : (P : (w : World) → Progress known w → Type 0)
      → ((w : World) (k : ℕ) (p : Progress known w) → P w p → (who : Option Name) (o : Outcome) (fr : Option (List ℕ)) (e : events_of_outcome o ≡ []) → P (uncalled w k who o fr) (idle known w k who o fr e p))
      → ((w : World) (k : ℕ) (p : Progress known w) → P w p → (who : Name) (past : Past) (its_past : past_of w who ≡ Some past) (c : Call) (range : IsGiven c) (after : Suffix (k + 1) (called sha w k who c past).log wf.log) (out : Outs w k p who past its_past c range after)
      → P (called sha w k who c past) (progress_called known w k p who past its_past c range after out))
      → (w : World) (k : ℕ) → With P w → (hs : List Happening) → AllByRecursion IsRight hs → all_happen sha w k hs ≡ wf → With P wf
  with_all P P_idle P_called = keep_course sha wf (With P) (λ w k h who o fr e. (idle known w k who o fr e h.0, P_idle w k h.0 h.1 who o fr e))
      (λ w k h who past q c r after. (let out = out_of known w k h.0 who past q c r after in (progress_called known w k h.0 who past q c r after out, P_called w k h.0 h.1 who past q c r after out)))
