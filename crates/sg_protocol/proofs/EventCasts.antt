-- The cast of each event that a principal's node answers.
use Rattle.std.specs.Prelude.{◌≡◌, ℕ, ◌<◌, true, List, length, refl, Option, Some, None, option_and_then, Result, Ok, Err}
use Rattle.std.specs.Option.{option_map_or}
use Rattle.std.specs.Result.{result_ok}
use Rattle.std.proofs.Common.{sym, ◌∙◌, ap, subst, inl, inr}
use Rattle.sg_model.specs.Lists.{first_some}
use Rattle.sg_model.specs.Names.{Name}
use Rattle.sg_model.proofs.Small.{contradicts}
use Rattle.sg_model.proofs.Members.{In, contains_from_in, rec_in}
use Rattle.sg_protocol.specs.Graph.{Graph}
use Rattle.sg_protocol.specs.Frame.{Cast, Frame}
use Rattle.sg_protocol.specs.Reading.{read}
use Rattle.sg_protocol.specs.Texts.{Hash, IsHash, session_id, session_text_of}
use Rattle.sg_protocol.specs.TextLaws.{CastFits}
use Rattle.sg_protocol.specs.Keyring.{Program}
use Rattle.sg_protocol.specs.Session.{Session, principal}
use Rattle.sg_protocol.specs.Calls.{Refusal, StartFault, Event, Started, Call, Start, Act, Abandon, Deliver, Answer, Happened, Sends, NotStarted, events_of_answer, does_join, role_of, sid_of}
use Rattle.sg_protocol.specs.Node.{Node, has_joined, starter}
use Rattle.sg_protocol.specs.Verdict.{rows, decided, receipt, verdict_on}
use Rattle.sg_protocol.specs.Acting.{answer, rows_of_start, started}
use Rattle.sg_protocol.specs.Notes.{notes, notes_of_read}
use Rattle.sg_protocol.specs.Schedule.{Schedule}
use Rattle.sg_protocol.specs.World.{World}
use Rattle.sg_protocol.specs.Run.{cast_in}
use Rattle.sg_protocol.specs.Bounds.{IsSession}
use Rattle.sg_protocol.specs.Named.{GivesVariables, HasNamed, names_numbers}
use Rattle.sg_protocol.proofs.Progressing.{small_values}
use Rattle.sg_protocol.proofs.ReadBack.{read-SpellsFrame}
use Rattle.sg_protocol.proofs.LiveSessions.{took}
use Rattle.sg_protocol.proofs.Named.{call_named}
use Rattle.sg_protocol.proofs.KnownNodes.{Hashed, IsKnown, KnownNode, compiled, fits_cast, fresh, owned}
use Rattle.sg_protocol.proofs.Happenings.{IsGiven, cast_given}
use Rattle.sg_protocol.proofs.NoRows.{no_start_row, cast_parts}

-- an answer with an event names its numbers
names : (a : Answer) (e : Event) → In (events_of_answer a) e → names_numbers a ≡ true
names (Happened e') e i = refl
names (Sends e' to f) e i = refl
names other e i = absurd i

-- the graph that has what an answer names has its event's role
has_role : (g : Graph) (c : Call) (a : Answer) (e : Event) → In (events_of_answer a) e → HasNamed g c a → role_of e < length g.roles
has_role g c (Happened e') e (inr i) h = absurd i
has_role g c (Happened e') e (inl i) h = subst (λ (z : Event). role_of z < length g.roles) (sym i) (go e' h)
  where
    go : (v : Event) → HasNamed g c (Happened v) → role_of v < length g.roles
    go (Started sid r) h = h
    go (Event.Sent sid r label time values) h = h.0
    go (Event.Received sid r label time values joins) h = h.0
has_role g c (Sends e' to f) e (inr i) h = absurd i
has_role g c (Sends e' to f) e (inl i) h = subst (λ (z : Event). role_of z < length g.roles) (sym i) (go e' h)
  where
    go : (v : Event) → HasNamed g c (Sends v to f) → role_of v < length g.roles
    go (Started sid r) h = h
    go (Event.Sent sid r label time values) h = h.0
    go (Event.Received sid r label time values joins) h = h.0
has_role g c other e i h = absurd i

module _ (sha : Hash) (hash : IsHash sha) (s : Schedule) (wf : World) (who : Name) (n : Node) (k : KnownNode sha hash s wf who n) (c : Call) (range : IsGiven c) (hs : (t : List ℕ) → In (notes sha n c).hashed t → Hashed sha hash s wf t) where
  -- the cast that an event is of
  pub record EventCast (e : Event) : Type 0 where
    pub cast : Cast
    pub fits : CastFits cast
    pub id : session_id sha cast ≡ sid_of e
    pub is_hashed : Hashed sha hash s wf (session_text_of cast)
    pub me : principal cast (role_of e) ≡ who
    pub program : Program
    pub there : In n.programs program
    pub digest : cast.graph ≡ program.digest
    pub role : role_of e < length program.graph.roles
    pub joins : does_join e ≡ true → cast_in c ≡ Some cast

  -- what an event says of the cast of a call that begins a session
  abbrev Begins : Cast → Event → Type 0
  Begins d e = CastFits d × (principal d (role_of e) ≡ who)

  start_begins : (d : Cast) (e : Event) → IsGiven (Start d) → In (events_of_answer (answer sha n (Start d))) e → Begins d e
  start_begins d e h i = (cast_given d h, by_program (starter n.programs d.graph) i)
    where
      by_rows : (p : Program) (o : Option StartFault) → first_some (rows_of_start n p (session_id sha d) d) ≡ o → In (events_of_answer (started (session_id sha d) p.role o)) e → principal d (role_of e) ≡ who
      by_rows p (Some f) q i = absurd i
      by_rows p None q (inr i) = absurd i
      by_rows p None q (inl i) =
          ap (λ z. principal d (role_of z)) i ∙ (cast_parts n.keys p.graph d p.role (no_start_row sha n d p q).cast).1 ∙ k.me

      by_program : (o : Option Program) → In (events_of_answer (option_map_or (λ (p : Program). started (session_id sha d) p.role (first_some (rows_of_start n p (session_id sha d) d))) o (NotStarted StartFault.UnknownGraph))) e → principal d (role_of e) ≡ who
      by_program None i = absurd i
      by_program (Some p) i = by_rows p (first_some (rows_of_start n p (session_id sha d) d)) refl i

  deliver_begins : (bs : List ℕ) (d : Cast) (e : Event) → IsGiven (Deliver bs) → ((t : List ℕ) → In (notes_of_read sha n (read bs)).hashed t → Hashed sha hash s wf t) → cast_in (Deliver bs) ≡ Some d → In (events_of_answer (answer sha n (Deliver bs))) e → Begins d e
  deliver_begins bs d e h hs_ j i = by_read (read bs) refl i
    where
      by_rows : (f : Frame) → read bs ≡ Ok f → (o : Option Refusal) → first_some (rows sha n f) ≡ o → In (events_of_answer (decided (receipt f) o)) e → Begins d e
      by_rows f rd (Some r) q i = absurd i
      by_rows f rd None q (inr i) = absurd i
      by_rows f rd None q (inl i) =
          let t = took sha (Hashed sha hash s wf) who n k.me k.known k.fits f (read-SpellsFrame bs f h rd).is_frame q (λ y z. hs_ y (subst (λ r. In (notes_of_read sha n r).hashed y) (sym rd) z)) in
          let same : d ≡ t.cast = t.joins d (sym (ap (λ r. option_and_then (λ (f : Frame). f.join) (result_ok r)) rd) ∙ j) in
          (subst CastFits (sym same) t.fits, ap (λ z. principal z (role_of e)) same ∙ ap (λ z. principal t.cast (role_of z)) i ∙ t.me)

      by_read : (r : Result Frame ℕ) → read bs ≡ r → In (events_of_answer (verdict_on sha n r)) e → Begins d e
      by_read (Err at) q i = absurd i
      by_read (Ok f) q i = by_rows f q (first_some (rows sha n f)) refl i

  call_begins : (b : Call) → IsGiven b → ((t : List ℕ) → In (notes sha n b).hashed t → Hashed sha hash s wf t) → (d : Cast) (e : Event) → cast_in b ≡ Some d → In (events_of_answer (answer sha n b)) e → Begins d e
  call_begins (Start c') h hs_ d e j i = (let same : c' ≡ d = cc in subst (λ z. Begins z e) same (start_begins c' e h i))
  call_begins (Act sid label values confs) h hs_ d e j i = absurd (let z : None ≡ Some d = j in cc)
  call_begins (Abandon sid) h hs_ d e j i = absurd (let z : None ≡ Some d = j in cc)
  call_begins (Deliver bs) h hs_ d e j i = deliver_begins bs d e h hs_ j i

  gives : (b : Call) → IsGiven b → GivesVariables b
  gives (Start d) h = tt
  gives (Act sid label values confs) h = small_values values h.each
  gives (Abandon sid) h = tt
  gives (Deliver bs) h = tt

  pub event_cast : (e : Event) → In (events_of_answer (answer sha n c)) e → EventCast e
  event_cast e i =
      let t = call_named sha n (compiled sha hash s wf who n k c range hs) c (gives c range) (answer sha n c) refl (names (answer sha n c) e i) in
      let same = t.is_named.event e (contains_from_in (events_of_answer (answer sha n c)) e i) in
      let x : Session = t.is_named.session in
      let within : role_of e < length (t.is_named.program).graph.roles = has_role (t.is_named.program).graph c (answer sha n c) e i t.is_named.named in
      elim t.is_from [
        | inl j ↦
            let kx : IsKnown sha hash s wf who x = rec_in (IsKnown sha hash s wf who) n.live x k.known j in
            record {
              cast = x.cast;
              fits = fits_cast sha hash s wf x (rec_in IsSession n.live x k.fits j);
              id = kx.id ∙ sym same.0;
              is_hashed = kx.is_hashed;
              me = ap (principal x.cast) same.1 ∙ kx.me;
              program = t.is_named.program;
              there = t.there;
              digest = t.is_named.is_graph;
              role = within;
              joins = λ d. absurd (contradicts (owned n.joins n.live x k.owns j) (ap (λ z. has_joined n.joins z x.role) (sym same.0) ∙ ap (has_joined n.joins (sid_of e)) (sym same.1) ∙ fresh sha hash s wf who n k c range hs e i d));
            }
        | inr b ↦
            let both = call_begins c range hs x.cast e b.0 i in
            record {
              cast = x.cast;
              fits = both.0;
              id = b.1 ∙ sym same.0;
              is_hashed = hs (session_text_of x.cast) b.2;
              me = both.1;
              program = t.is_named.program;
              there = t.there;
              digest = t.is_named.is_graph;
              role = within;
              joins = λ d. b.0;
            }
      ]
