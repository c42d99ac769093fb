-- What the calls of a node come to, and what is kept of all its live sessions.
use Rattle.std.specs.Prelude.{◌≡◌, ℕ, Bool, true, false, List, [], ◌∷◌, find, bytes_eq, refl, Option, Some, None, IfSome, Result, Ok, Err}
use Rattle.std.specs.List.{AllByRecursion}
use Rattle.std.specs.Option.{option_map_or}
use Rattle.std.proofs.Common.{sym, ◌∙◌, ap, subst, inl, inr}
use Rattle.std.proofs.lemmas.Bool.{cases_Bool}
use Rattle.sg_model.specs.Last.{Map, last}
use Rattle.sg_model.specs.Lists.{first_some}
use Rattle.sg_model.specs.Values.{Value}
use Rattle.sg_model.specs.Names.{Name}
use Rattle.sg_model.proofs.Small.{none_parts, all-append}
use Rattle.sg_protocol.specs.Frame.{Cast, Item, Frame}
use Rattle.sg_protocol.specs.Reading.{read}
use Rattle.sg_protocol.specs.Texts.{Hash, session_id}
use Rattle.sg_protocol.specs.Keyring.{Program}
use Rattle.sg_protocol.specs.Session.{Session, Took, Gave, extended, new_session, at_turn}
use Rattle.sg_protocol.specs.Sending.{frame_sent}
use Rattle.sg_protocol.specs.Calls.{Refusal, ActFault, StartFault, Event, Start, Act, Abandon, Deliver, Answer, Happened, Started, Sends, Abandoned, NotStarted, NotActed, NotAbandoned}
use Rattle.sg_protocol.specs.Node.{Node, is_for, is_cast, session_with, session_for, program_for, starter}
use Rattle.sg_protocol.specs.Verdict.{row, rows, rows_of_session, rows_of_join, rows_of_next, join_rows, next_rows, decided, receipt, verdict_on}
use Rattle.sg_protocol.specs.Acting.{rows_of_start, rows_of_act, openings_for, answer, started, acted, sent}
use Rattle.sg_protocol.specs.NodeAfter.{node_after, joined, goes_on, replace, still, is_over, takes_read}
use Rattle.sg_protocol.proofs.Moves.{row_none}
use Rattle.sg_protocol.proofs.NoRows.{JoinRows, no_start_row, no_join_row}

-- ---- what holds of all sessions of a list

pub all_still : (P : Session → Type 0) (ps : List Program) (x : Session) → P x → AllByRecursion P (still ps x)
all_still P ps x h = elim (cases_Bool (is_over ps x)) [ inl e ↦ rw e tt | inr e ↦ rw e (h, tt) ]

pub all_replaced : (P : Session → Type 0) (which : Session → Bool) (now : Session → List Session) (xs : List Session) → ((z : Session) → find which xs ≡ Some z → P z → AllByRecursion P (now z)) → AllByRecursion P xs → AllByRecursion P (replace which now xs)
all_replaced P which now [] f a = tt
all_replaced P which now (x ∷ xs) f a = elim (cases_Bool (which x)) [
  | inl e ↦ rw e (all-append P (now x) xs (f x (rw e refl) a.0) a.1)
  | inr e ↦ rw e (a.0, all_replaced P which now xs (λ z q. f z (rw e q)) a.1)
]

module _ (sha : Hash) (n : Node) where
  -- ---- a start

  pub record Begun (c : Cast) (p : Program) : Type 0 where
    pub found : starter n.programs c.graph ≡ Some p
    pub cast : is_cast n.keys p.graph c p.role ≡ true
    pub is_answer : answer sha n (Start c) ≡ Happened (Started (session_id sha c) p.role)

  begun : (c : Cast) (p : Program) → starter n.programs c.graph ≡ Some p → first_some (rows_of_start n p (session_id sha c) c) ≡ None → Begun c p
  begun c p q e = record {
    found = q;
    cast = (no_start_row sha n c p e).cast;
    is_answer = ap (λ o. option_map_or (λ (p : Program). started (session_id sha c) p.role (first_some (rows_of_start n p (session_id sha c) c))) o (NotStarted StartFault.UnknownGraph)) q ∙ ap (started (session_id sha c) p.role) e;
  }

  -- ---- an act

  pub record ActSent (sid0 : List ℕ) (label : ℕ) (values : Map Value) (confs : List (List ℕ)) (f : Frame) : Type 0 where
    pub x : Session
    pub found : session_with n.live sid0 ≡ Some x
    pub p : Program
    pub found_p : program_for n.programs x.cast.graph x.role ≡ Some p
    pub rows : first_some (rows_of_act p x label values) ≡ None
    pub its : frame_sent sha n.keys p x label (openings_for values confs) ≡ f

  pub act_sends : (sid0 : List ℕ) (label : ℕ) (values : Map Value) (confs : List (List ℕ)) (e : Event) (to : Name) (f : Frame) → answer sha n (Act sid0 label values confs) ≡ Sends e to f → ActSent sid0 label values confs f
  act_sends sid0 label values confs e to f a = by_session (session_with n.live sid0) refl a
    where
      by_rows : (x : Session) → session_with n.live sid0 ≡ Some x → (p : Program) → program_for n.programs x.cast.graph x.role ≡ Some p → (o : Option ActFault) → first_some (rows_of_act p x label values) ≡ o → acted (sent sha n.keys p x label values confs) o ≡ Sends e to f → ActSent sid0 label values confs f
      by_rows x q p q2 (Some fault) q3 a = absurd (cc)
      by_rows x q p q2 None q3 a = record { x = x; found = q; p = p; found_p = q2; rows = q3; its = cc }

      by_program : (x : Session) → session_with n.live sid0 ≡ Some x → (o : Option Program) → program_for n.programs x.cast.graph x.role ≡ o → option_map_or (λ p. acted (sent sha n.keys p x label values confs) (first_some (rows_of_act p x label values))) o (NotActed ActFault.UnknownSession) ≡ Sends e to f → ActSent sid0 label values confs f
      by_program x q None q2 a = absurd (cc)
      by_program x q (Some p) q2 a = by_rows x q p q2 (first_some (rows_of_act p x label values)) refl a

      by_session : (o : Option Session) → session_with n.live sid0 ≡ o → option_map_or (λ x. option_map_or (λ p. acted (sent sha n.keys p x label values confs) (first_some (rows_of_act p x label values))) (program_for n.programs x.cast.graph x.role) (NotActed ActFault.UnknownSession)) o (NotActed ActFault.UnknownSession) ≡ Sends e to f → ActSent sid0 label values confs f
      by_session None q a = absurd (cc)
      by_session (Some x) q a = by_program x q (program_for n.programs x.cast.graph x.role) refl a

  pub start_sends : (c : Cast) (e : Event) (to : Name) (f : Frame) → answer sha n (Start c) ≡ Sends e to f → ⊥
  start_sends c e to f a = by_program (starter n.programs c.graph) a
    where
      by_rows : (p : Program) (o : Option StartFault) → started (session_id sha c) p.role o ≡ Sends e to f → ⊥
      by_rows p None a = absurd (cc)
      by_rows p (Some x) a = absurd (cc)

      by_program : (o : Option Program) → option_map_or (λ (p : Program). started (session_id sha c) p.role (first_some (rows_of_start n p (session_id sha c) c))) o (NotStarted StartFault.UnknownGraph) ≡ Sends e to f → ⊥
      by_program None a = absurd (cc)
      by_program (Some p) a = by_rows p (first_some (rows_of_start n p (session_id sha c) c)) a

  pub abandon_sends : (sid0 : List ℕ) (e : Event) (to : Name) (f : Frame) → answer sha n (Abandon sid0) ≡ Sends e to f → ⊥
  abandon_sends sid0 e to f a = go (session_with n.live sid0) a
    where
      go : (o : Option Session) → option_map_or (λ (x : Session). Abandoned) o NotAbandoned ≡ Sends e to f → ⊥
      go None a = absurd (cc)
      go (Some x) a = absurd (cc)

  pub deliver_sends : (bs : List ℕ) (e : Event) (to : Name) (f : Frame) → answer sha n (Deliver bs) ≡ Sends e to f → ⊥
  deliver_sends bs e to f a = go (read bs) a
    where
      by_rows : (g : Frame) (o : Option Refusal) → decided (receipt g) o ≡ Sends e to f → ⊥
      by_rows g None a = absurd (cc)
      by_rows g (Some r) a = absurd (cc)

      go : (r : Result Frame ℕ) → verdict_on sha n r ≡ Sends e to f → ⊥
      go (Err at) a = absurd (cc)
      go (Ok g) a = by_rows g (first_some (rows sha n g)) a

  -- ---- a delivery

  -- a frame that continues the session
  pub record NextTaken (f : Frame) (s : Session) : Type 0 where
    pub found : session_for n.live f ≡ Some s
    pub p : Program
    pub found_p : program_for n.programs s.cast.graph s.role ≡ Some p
    pub waits : at_turn p.graph s ≡ false
    pub rows : first_some (rows_of_session sha n.keys p s f) ≡ None

  -- a frame that joins with the cast
  pub record JoinTaken (f : Frame) (c : Cast) : Type 0 where
    pub p : Program
    pub found_p : program_for n.programs c.graph f.receiver ≡ Some p
    pub cast : is_cast n.keys p.graph c f.receiver ≡ true
    pub sid : f.sid ≡ session_id sha c
    pub accepted : first_some (rows sha n f) ≡ None
    pub rows : first_some (rows_of_session sha n.keys p (new_session f.sid c f.receiver) f) ≡ None

  next_taken : (f : Frame) (s : Session) → session_for n.live f ≡ Some s → first_some (next_rows sha n f) ≡ None → NextTaken f s
  next_taken f s q h = by_program (program_for n.programs s.cast.graph s.role) refl (subst (λ o. first_some (option_map_or (λ s. option_map_or (rows_of_next sha n f s) (program_for n.programs s.cast.graph s.role) (Some Refusal.UnknownSession ∷ [])) o (Some Refusal.UnknownSession ∷ [])) ≡ None) q h)
    where
      by_program : (o : Option Program) → program_for n.programs s.cast.graph s.role ≡ o → first_some (option_map_or (rows_of_next sha n f s) o (Some Refusal.UnknownSession ∷ [])) ≡ None → NextTaken f s
      by_program None q2 h = absurd (cc)
      by_program (Some p) q2 h =
          let one = none_parts (row (at_turn p.graph s) Refusal.NotWaiting) (rows_of_session sha n.keys p s f) h in
          record { found = q; p = p; found_p = q2; waits = row_none _ _ one.0; rows = one.1 }

  join_taken : (f : Frame) (c : Cast) → f.join ≡ Some c → first_some (join_rows sha n f c) ≡ None → JoinTaken f c
  join_taken f c j none = by_program (program_for n.programs c.graph f.receiver) refl none
    where
      by_program : (o : Option Program) → program_for n.programs c.graph f.receiver ≡ o → first_some (option_map_or (rows_of_join sha n f c) o (Some Refusal.UnknownGraph ∷ [])) ≡ None → JoinTaken f c
      by_program None q h = absurd (cc)
      by_program (Some p) q h =
          let r : JoinRows sha n f c p = no_join_row sha n f c p h in
          record { p = p; found_p = q; cast = r.cast; sid = r.sid; accepted = ap (λ o. first_some (option_map_or (join_rows sha n f) o (next_rows sha n f))) j ∙ none; rows = r.rows }

  -- ---- what is kept of all live sessions

  module _ (P : Session → Type 0) where
    module _ (live : AllByRecursion P n.live) where
      pub start_all : (c : Cast) → ((p : Program) → Begun c p → P (new_session (session_id sha c) c p.role)) → AllByRecursion P (node_after n (Start c) (answer sha n (Start c))).live
      start_all c new = by_program (starter n.programs c.graph) refl
        where
          by_rows : (p : Program) → starter n.programs c.graph ≡ Some p → (o : Option StartFault) → first_some (rows_of_start n p (session_id sha c) c) ≡ o → AllByRecursion P (node_after n (Start c) (started (session_id sha c) p.role o)).live
          by_rows p sp None e = all-append P n.live (still n.programs (new_session (session_id sha c) c p.role)) live (all_still P n.programs (new_session (session_id sha c) c p.role) (new p (begun c p sp e)))
          by_rows p sp (Some f) e = live

          by_program : (o : Option Program) → starter n.programs c.graph ≡ o → AllByRecursion P (node_after n (Start c) (option_map_or (λ (p : Program). started (session_id sha c) p.role (first_some (rows_of_start n p (session_id sha c) c))) o (NotStarted StartFault.UnknownGraph))).live
          by_program None e = live
          by_program (Some p) e = by_rows p e (first_some (rows_of_start n p (session_id sha c) c)) refl

      pub abandon_all : (sid0 : List ℕ) → AllByRecursion P (node_after n (Abandon sid0) (answer sha n (Abandon sid0))).live
      abandon_all sid0 = go (session_with n.live sid0)
        where
          go : (o : Option Session) → AllByRecursion P (node_after n (Abandon sid0) (option_map_or (λ (x : Session). Abandoned) o NotAbandoned)).live
          go None = live
          go (Some x) = all_replaced P (λ (z : Session). bytes_eq z.sid sid0) (λ z. []) n.live (λ z q h. tt) live

      pub act_all : (sid0 : List ℕ) (label : ℕ) (values : Map Value) (confs : List (List ℕ)) → ((f : Frame) (a : ActSent sid0 label values confs f) → P a.x → IfSome (last f.items) (λ i. P (extended a.x (Gave i (openings_for values confs)))))
          → AllByRecursion P (node_after n (Act sid0 label values confs) (answer sha n (Act sid0 label values confs))).live
      act_all sid0 label values confs gives = by_answer (answer sha n (Act sid0 label values confs)) refl
        where
          now : (z : Session) → P z → (o : Option Item) → IfSome o (λ i. P (extended z (Gave i (openings_for values confs)))) → AllByRecursion P (option_map_or (λ (i : Item). still n.programs (extended z (Gave i (openings_for values confs)))) o (z ∷ []))
          now z h None a = (h, tt)
          now z h (Some i) a = all_still P n.programs _ a

          by_answer : (a : Answer) → answer sha n (Act sid0 label values confs) ≡ a → AllByRecursion P (node_after n (Act sid0 label values confs) a).live
          by_answer (Sends e to f) q =
              let s : ActSent sid0 label values confs f = act_sends sid0 label values confs e to f q in
              all_replaced P (λ (z : Session). bytes_eq z.sid sid0) (λ z. option_map_or (λ (i : Item). still n.programs (extended z (Gave i (openings_for values confs)))) (last f.items) (z ∷ [])) n.live
              (λ z found h. let same : Some s.x ≡ Some z = sym s.found ∙ found in let xz : s.x ≡ z = cc in
              now z h (last f.items) (subst (λ y. IfSome (last f.items) (λ i. P (extended y (Gave i (openings_for values confs))))) xz (gives f s (subst P (sym xz) h)))) live
          by_answer other q = live

      pub deliver_all : (bs : List ℕ) → ((f : Frame) (s : Session) → read bs ≡ Ok f → NextTaken f s → P s → P (extended s (Took f))) → ((f : Frame) (c : Cast) → read bs ≡ Ok f → f.join ≡ Some c → JoinTaken f c → P (extended (new_session f.sid c f.receiver) (Took f)))
          → AllByRecursion P (node_after n (Deliver bs) (answer sha n (Deliver bs))).live
      deliver_all bs next join = go (read bs) refl
        where
          by_join : (f : Frame) → read bs ≡ Ok f → (o : Option Cast) → f.join ≡ o → first_some (option_map_or (join_rows sha n f) o (next_rows sha n f)) ≡ None
              → AllByRecursion P (option_map_or (λ c. joined n (extended (new_session f.sid c f.receiver) (Took f))) o (goes_on n (is_for f) (λ z. still n.programs (extended z (Took f))))).live
          by_join f rd None e h = all_replaced P (is_for f) (λ z. still n.programs (extended z (Took f))) n.live (λ z found k. all_still P n.programs (extended z (Took f)) (next f z rd (next_taken f z found h) k)) live
          by_join f rd (Some c) e h = all-append P n.live (still n.programs (extended (new_session f.sid c f.receiver) (Took f))) live (all_still P n.programs (extended (new_session f.sid c f.receiver) (Took f)) (join f c rd e (join_taken f c e h)))

          by_rows : (f : Frame) → read bs ≡ Ok f → (o : Option Refusal) → first_some (rows sha n f) ≡ o → AllByRecursion P (node_after n (Deliver bs) (decided (receipt f) o)).live
          by_rows f rd None h = subst (λ r. AllByRecursion P (takes_read n r).live) (sym rd) (by_join f rd f.join refl h)
          by_rows f rd (Some r) h = live

          go : (r : Result Frame ℕ) → read bs ≡ r → AllByRecursion P (node_after n (Deliver bs) (verdict_on sha n r)).live
          go (Err at) e = live
          go (Ok f) e = by_rows f e (first_some (rows sha n f)) refl
