-- What is known of a start or a frame that no row refuses, and of the program that is found for it.
use Rattle.std.specs.Prelude.{◌≡◌, ℕ, ◌<◌, nat_lt, nat_le, ◌&&◌, ◌==◌, Bool, true, false, if◌then◌else◌, not, List, [], ◌∷◌, length, bytes_eq, find, refl, Option, Some, None, option_map, option_and_then, IfSome, Ok}
use Rattle.std.specs.Option.{option_map_or}
use Rattle.std.specs.List.{AllByRecursion}
use Rattle.std.proofs.Common.{sym, ◌∙◌, ap, subst, inl, inr}
use Rattle.std.proofs.lemmas.Bool.{cases_Bool, and_parts, eqb-true, eq-eqb, not-false}
use Rattle.sg_model.specs.Lists.{first_some}
use Rattle.sg_model.specs.Shape.{role_at}
use Rattle.sg_model.proofs.Finding.{find_passes, found_in}
use Rattle.sg_model.proofs.Members.{In, in_left, rec_in}
use Rattle.sg_model.proofs.Small.{clash, lt_of, none_parts, same_bytes, some_same}
use Rattle.sg_protocol.specs.Graph.{Graph, shape}
use Rattle.sg_protocol.specs.Frame.{Cast, Frame, IsCastOf}
use Rattle.sg_protocol.specs.Spelling.{HasSpelling}
use Rattle.sg_protocol.specs.Texts.{Hash, session_id, session_text_of}
use Rattle.sg_protocol.specs.TextLaws.{IsVersion, CastFits}
use Rattle.sg_protocol.specs.Keyring.{Keyring, Program}
use Rattle.sg_protocol.specs.Session.{Session, new_session, principal}
use Rattle.sg_protocol.specs.Calls.{Refusal, StartFault}
use Rattle.sg_protocol.specs.Calls.Refusal.{UnknownSession, UnknownGraph, BadCast, UnknownPeer, BadSession, Joined, CacheFull, SessionsFull}
use Rattle.sg_protocol.specs.Node.{Node, is_cast, stranger, has_joined, program_for, starts, starter, session_for}
use Rattle.sg_protocol.specs.Verdict.{row, rows, rows_of_session, rows_of_join, rows_of_next, join_rows, next_rows}
use Rattle.sg_protocol.specs.Acting.{rows_of_start}
use Rattle.sg_protocol.specs.Notes.{session_of_frame, notes_of_read, hashed_of_join, row_number}
use Rattle.sg_protocol.specs.IsSchedule.{IsProgram}
use Rattle.sg_protocol.proofs.Moves.{row_none}
use Rattle.sg_protocol.proofs.TextLaws.{cast_fits}

-- ---- programs

-- a program that is found for a graph and a role
pub program_found : (ps : List Program) (digest : List ℕ) (r : ℕ) (p : Program) → program_for ps digest r ≡ Some p → (p.digest ≡ digest) × (p.role ≡ r) × In ps p
program_found ps digest r p e =
    let b = and_parts (bytes_eq p.digest digest) (p.role == r) (find_passes (λ (p : Program). bytes_eq p.digest digest && (p.role == r)) ps p e) in
    (same_bytes p.digest digest b.0, eqb-true p.role r b.1, found_in (λ (p : Program). bytes_eq p.digest digest && (p.role == r)) ps p e)

pub record IsFor (sha : Hash) (ps : List Program) (digest : List ℕ) (r : ℕ) (p : Program) : Type 0 where
  pub is_program : IsProgram sha p
  pub digest_is : digest ≡ p.digest
  pub role_is : r ≡ p.role
  pub there : In ps p

pub found_for : (sha : Hash) (ps : List Program) → AllByRecursion (IsProgram sha) ps → (digest : List ℕ) (r : ℕ) (p : Program) → program_for ps digest r ≡ Some p → IsFor sha ps digest r p
found_for sha ps are digest r p e = let b = program_found ps digest r p e in record { is_program = rec_in (IsProgram sha) ps p are b.2; digest_is = sym b.0; role_is = sym b.1; there = b.2 }

-- two that are found first, each of which passes the other's test, are one
same_first : {A : Type 0} (p q : A → Bool) (xs : List A) (a b : A) → find p xs ≡ Some a → find q xs ≡ Some b → q a ≡ true → p b ≡ true → b ≡ a
same_first p q [] a b e f g h = absurd (cc)
same_first p q (x ∷ xs) a b e f g h = elim (cases_Bool (p x)) [
  | inl i ↦
      let xa : x ≡ a = some_same (sym (ap (λ t. if t then Some x else find p xs) i) ∙ e) in
      let qx : q x ≡ true = ap q xa ∙ g in
      sym (some_same (sym (ap (λ t. if t then Some x else find q xs) qx) ∙ f)) ∙ xa
  | inr i ↦ elim (cases_Bool (q x)) [
    | inl j ↦ clash (p x) (ap p (some_same (sym (ap (λ t. if t then Some x else find q xs) j) ∙ f)) ∙ h) i
    | inr j ↦ same_first p q xs a b (sym (ap (λ t. if t then Some x else find p xs) i) ∙ e) (sym (ap (λ t. if t then Some x else find q xs) j) ∙ f) g h
  ]
]

-- a program that is found for a graph and the role that starts it, is the program for them
pub record IsStarter (ps : List Program) (digest : List ℕ) (p : Program) : Type 0 where
  pub digest_is : p.digest ≡ digest
  pub role_is : p.role ≡ role_at (shape p.graph) 0
  pub there : In ps p
  pub meant : program_for ps digest p.role ≡ Some p

pub starter_found : (ps : List Program) (digest : List ℕ) (p : Program) → starter ps digest ≡ Some p → IsStarter ps digest p
starter_found ps digest p e = by (program_for ps digest p.role) refl
  where
    begins : Program → Bool
    begins z = bytes_eq z.digest digest && option_map_or starts (program_for ps digest z.role) false

    its : (bytes_eq p.digest digest ≡ true) × (option_map_or starts (program_for ps digest p.role) false ≡ true)
    its = and_parts (bytes_eq p.digest digest) (option_map_or starts (program_for ps digest p.role) false) (find_passes begins ps p e)

    by : (o : Option Program) → program_for ps digest p.role ≡ o → IsStarter ps digest p
    by None f = clash (option_map_or starts (program_for ps digest p.role) false) its.1 (ap (λ o. option_map_or starts o false) f)
    by (Some z) f =
        let h = program_found ps digest p.role z f in
        let s : starts z ≡ true = sym (ap (λ o. option_map_or starts o false) f) ∙ its.1 in
        let same : z ≡ p = same_first begins (λ (q : Program). bytes_eq q.digest digest && (q.role == p.role)) ps p z e f
        (ap (λ t. t && (p.role == p.role)) its.0 ∙ eq-eqb p.role p.role refl)
        (ap (λ d. bytes_eq d digest && option_map_or starts (program_for ps digest z.role) false) (h.0 ∙ sym (same_bytes p.digest digest its.0))
        ∙ ap (λ t. t && option_map_or starts (program_for ps digest z.role) false) its.0
        ∙ ap (λ r. option_map_or starts (program_for ps digest r) false) h.1 ∙ its.1) in
        record {
          digest_is = same_bytes p.digest digest its.0;
          role_is = eqb-true p.role (role_at (shape p.graph) 0) (sym (ap starts same) ∙ s);
          there = found_in begins ps p e;
          meant = f ∙ ap (λ z. Some z) same;
        }

-- ---- casts

-- what the test of a cast says
pub cast_parts : (keys : Keyring) (g' : Graph) (c : Cast) (r : ℕ) → is_cast keys g' c r ≡ true → (r < length c.names) × (principal c r ≡ keys.me)
cast_parts keys g' c r h =
    let a = and_parts _ (bytes_eq (principal c r) keys.me) h in
    let b = and_parts _ (nat_lt r (length c.names)) a.0 in
    (lt_of r (length c.names) b.1, same_bytes (principal c r) keys.me a.1)

module _ (sha : Hash) (n : Node) where
  -- ---- a start

  pub record StartRows (c : Cast) (p : Program) : Type 0 where
    pub cast : is_cast n.keys p.graph c p.role ≡ true
    pub unjoined : has_joined n.joins (session_id sha c) p.role ≡ false

  pub no_start_row : (c : Cast) (p : Program) → first_some (rows_of_start n p (session_id sha c) c) ≡ None → StartRows c p
  no_start_row c p e =
      let full : List (Option StartFault) = row (nat_le 65536 (length n.joins)) StartFault.CacheFull ∷ row (nat_le 4096 (length n.live)) StartFault.SessionsFull ∷ [] in
      let twice : Option StartFault = row (has_joined n.joins (session_id sha c) p.role) StartFault.Joined in
      let peer : Option StartFault = option_map StartFault.UnknownPeer (stranger n.keys c) in
      let one = none_parts (row (not (is_cast n.keys p.graph c p.role)) StartFault.BadCast) (peer ∷ twice ∷ full) e in
      let two = none_parts peer (twice ∷ full) one.1 in
      let three = none_parts twice full two.1 in
      record { cast = not-false (is_cast n.keys p.graph c p.role) (row_none _ _ one.0); unjoined = row_none _ _ three.0 }

  -- ---- a frame that joins

  module _ (f : Frame) (c : Cast) where
    pub record JoinRows (p : Program) : Type 0 where
      pub cast : is_cast n.keys p.graph c f.receiver ≡ true
      pub sid : f.sid ≡ session_id sha c
      pub unjoined : has_joined n.joins f.sid f.receiver ≡ false
      pub rows : first_some (rows_of_session sha n.keys p (new_session f.sid c f.receiver) f) ≡ None

    pub no_join_row : (p : Program) → first_some (rows_of_join sha n f c p) ≡ None → JoinRows p
    no_join_row p e =
        let later : List (Option Refusal) = rows_of_session sha n.keys p (new_session f.sid c f.receiver) f in
        let full : Option Refusal = row (nat_le 4096 (length n.live)) SessionsFull in
        let cache : Option Refusal = row (nat_le 65536 (length n.joins)) CacheFull in
        let twice : Option Refusal = row (has_joined n.joins f.sid f.receiver) Joined in
        let other : Option Refusal = row (not (bytes_eq f.sid (session_id sha c))) BadSession in
        let peer : Option Refusal = option_map UnknownPeer (stranger n.keys c) in
        let one = none_parts (row (not (is_cast n.keys p.graph c f.receiver && nat_lt f.sender (length c.names))) BadCast) (peer ∷ other ∷ twice ∷ cache ∷ full ∷ later) e in
        let two = none_parts peer (other ∷ twice ∷ cache ∷ full ∷ later) one.1 in
        let three = none_parts other (twice ∷ cache ∷ full ∷ later) two.1 in
        let four = none_parts twice (cache ∷ full ∷ later) three.1 in
        let five = none_parts cache (full ∷ later) four.1 in
        let six = none_parts full later five.1 in
        record {
          cast = (and_parts (is_cast n.keys p.graph c f.receiver) (nat_lt f.sender (length c.names)) (not-false _ (row_none _ _ one.0))).0;
          sid = same_bytes f.sid (session_id sha c) (not-false (bytes_eq f.sid (session_id sha c)) (row_none _ _ three.0));
          unjoined = row_none _ _ four.0;
          rows = six.1;
        }

    -- its rows, its session, and the text that is hashed for it
    module _ (j : f.join ≡ Some c) where
      pub rows_join : (o : Option Program) → program_for n.programs c.graph f.receiver ≡ o → first_some (rows sha n f) ≡ first_some (option_map_or (rows_of_join sha n f c) o (Some UnknownGraph ∷ []))
      rows_join o e = ap (λ o. first_some (option_map_or (join_rows sha n f) o (next_rows sha n f))) j ∙ ap (λ o. first_some (option_map_or (rows_of_join sha n f c) o (Some UnknownGraph ∷ []))) e

      pub joining_session : (p : Program) → program_for n.programs c.graph f.receiver ≡ Some p → session_of_frame n f ≡ Some (p, new_session f.sid c f.receiver)
      joining_session p e = ap (λ o. option_and_then (λ (z : Session). option_map (λ (q : Program). (q, z)) (program_for n.programs z.cast.graph z.role)) (option_map_or (λ c. Some (new_session f.sid c f.receiver)) o (session_for n.live f))) j ∙ ap (λ o. option_map (λ (q : Program). (q, new_session f.sid c f.receiver)) o) e

      pub text_hashed : first_some (rows sha n f) ≡ None → In (notes_of_read sha n (Ok f)).hashed (session_text_of c)
      text_hashed none = in_left (hashed_of_join f (row_number (first_some (rows sha n f)))) _ (session_text_of c) (subst (λ o. In (hashed_of_join f (row_number o)) (session_text_of c)) (sym none) (subst (λ o. In (option_map_or (λ c. session_text_of c ∷ []) o []) (session_text_of c)) (sym j) (inl refl)))

      pub join_fits : HasSpelling f → CastFits c
      join_fits spelled = let co = subst (λ o. IfSome o (IsCastOf f.version)) j spelled.fields.join in cast_fits c (subst IsVersion (sym co.version) spelled.fields.version) (subst (λ v. IsCastOf v c) (sym co.version) co)

  -- ---- a frame that continues a session

  module _ (f : Frame) (x : Session) (j : f.join ≡ None) (is : session_for n.live f ≡ Some x) where
    pub rows_next : (o : Option Program) → program_for n.programs x.cast.graph x.role ≡ o → first_some (rows sha n f) ≡ first_some (option_map_or (rows_of_next sha n f x) o (Some UnknownSession ∷ []))
    rows_next o e =
        ap (λ o. first_some (option_map_or (join_rows sha n f) o (next_rows sha n f))) j
        ∙ ap (λ o. first_some (option_map_or (λ z. option_map_or (rows_of_next sha n f z) (program_for n.programs z.cast.graph z.role) (Some UnknownSession ∷ [])) o (Some UnknownSession ∷ []))) is
        ∙ ap (λ o. first_some (option_map_or (rows_of_next sha n f x) o (Some UnknownSession ∷ []))) e

    pub continued_session : (p : Program) → program_for n.programs x.cast.graph x.role ≡ Some p → session_of_frame n f ≡ Some (p, x)
    continued_session p e =
        ap (λ o. option_and_then (λ (z : Session). option_map (λ (q : Program). (q, z)) (program_for n.programs z.cast.graph z.role)) (option_map_or (λ c. Some (new_session f.sid c f.receiver)) o (session_for n.live f))) j
        ∙ ap (λ o. option_and_then (λ (z : Session). option_map (λ (q : Program). (q, z)) (program_for n.programs z.cast.graph z.role)) o) is ∙ ap (λ o. option_map (λ (q : Program). (q, x)) o) e
