-- A receipt from an honest sender has its sending.
use Rattle.std.specs.Prelude.{◌≡◌, ◌≢◌, ℕ, true, List, [], ◌∷◌, ◌++◌, map, flat_map, bytes_eq, refl, Option, Some, None, option_and_then, unwrap_or, Result, Ok, Err, ◌⊎◌}
use Rattle.std.specs.Option.{option_map_or}
use Rattle.std.proofs.Common.{sym, ◌∙◌, ap, subst, inl, inr}
use Rattle.sg_model.specs.Last.{last}
use Rattle.sg_model.specs.Names.{Name}
use Rattle.sg_protocol.specs.Frame.{Cast, Item, Frame}
use Rattle.sg_protocol.specs.Spelling.{SpellsFrame, spelling, body}
use Rattle.sg_protocol.specs.Reading.{read}
use Rattle.sg_protocol.specs.Texts.{Hash, IsHash, cut, hmac, frame_text_of, graph_text_of, session_id, session_text_of}
use Rattle.sg_protocol.specs.TextLaws.{CastFits, untagged}
use Rattle.sg_protocol.specs.Keyring.{Program, targets_of, key_of}
use Rattle.sg_protocol.specs.Session.{Session, principal, transcript, commitments}
use Rattle.sg_protocol.specs.Sending.{tag_for, text_of, text_to}
use Rattle.sg_protocol.specs.Calls.{Event, Call, Start, Act, Abandon, Deliver, Answer, Happened, Sends, Refusal, sid_of, role_of}
use Rattle.sg_protocol.specs.Node.{Node, program_for}
use Rattle.sg_protocol.specs.Acting.{answer, answer_act, openings_for}
use Rattle.sg_protocol.specs.Verdict.{decided, receipt, rows, verdict_on}
use Rattle.sg_model.specs.Lists.{first_some}
use Rattle.sg_protocol.specs.Notes.{Note, Notes, note_of, notes, no_notes, notes_of_act, notes_of_sent, notes_of_read, notes_in_session, session_of_frame, row_number}
use Rattle.sg_protocol.specs.Past.{Past}
use Rattle.sg_protocol.specs.Schedule.{Schedule, is_honest, honest_role}
use Rattle.sg_protocol.specs.World.{World, Logged, Answered}
use Rattle.sg_protocol.specs.Run.{frame_in, events_of, cast_in, cast_of_session}
use Rattle.sg_protocol.specs.Premises.{hashed, MadeBefore, Premises}
use Rattle.sg_protocol.specs.Bounds.{IsSession}
use Rattle.sg_protocol.specs.Receipts.{IsTaken, WasSent}
use Rattle.sg_protocol.proofs.Moves.{note_text, note_both}
use Rattle.sg_protocol.proofs.Nodes.{ActSent, act_sends, start_sends, abandon_sends, deliver_sends}
use Rattle.sg_protocol.proofs.ReadBack.{read-SpellsFrame}
use Rattle.sg_protocol.proofs.LiveSessions.{Known, Took_, act_event, no_entry, took}
use Rattle.sg_protocol.proofs.KnownLogs.{Origin, Silent, logs_known}
use Rattle.sg_protocol.proofs.TextLaws as TL
use Rattle.sg_protocol.proofs.TextLaws.{kinds_differ}
use Rattle.sg_protocol.proofs.OneWalk.{FirstCast, first_cast}
use Rattle.sg_protocol.proofs.Happenings.{Happening, IsCourse, IsGiven, are_programs, given_sends, key_at, key_kept, HaveOneKey, run_of}
use Rattle.sg_protocol.proofs.StartCall.{start_made}
use Rattle.sg_model.proofs.Members.{In, in_from_Contains, contains_from_in, in_right, in_parts, in_flat, rec_in, map_in}
use Rattle.sg_model.proofs.Finding.{found_in}

-- ---- where a note was made

module _ (sha : Hash) (n : Node) where
  record Gave (c : Call) (text : List ℕ) : Type 0 where
    e : Event
    to : Name
    f : Frame
    x : Session
    there : In n.live x
    is_answer : answer sha n c ≡ Sends e to f
    sid_is : f.sid ≡ x.sid
    sender_is : f.sender ≡ x.role
    tag_is : f.tag ≡ tag_for sha n.keys x.cast f.receiver (text_of f)
    is_text : text ≡ text_of f

  read_none : (r : Result Frame ℕ) (nt : Note) → In (notes_of_read sha n r).made nt → ⊥
  read_none (Err at) nt i = i
  read_none (Ok f) nt i = go (row_number (first_some (rows sha n f))) (session_of_frame n f) i
    where
      go : (k : ℕ) (o : Option (Program × Session)) → In (option_map_or (λ (y : Program × Session). notes_in_session sha n.keys y.0 y.1 f k) o no_notes).made nt → ⊥
      go k None i = i
      go k (Some y) i = i

  gave : (c : Call) (nt : Note) (v : ℕ) (body_ : List ℕ) → In (notes sha n c).made nt → nt.text ≡ frame_text_of v body_ → Gave c nt.text
  gave (Start c) nt v b i t = absurd (start_made c (answer sha n (Start c)) nt i)
  gave (Abandon sid0) nt v b i t = absurd i
  gave (Deliver bs) nt v b i t = absurd (read_none (read bs) nt i)
  gave (Act sid0 label values confs) nt v b i t = by_answer (answer_act sha n sid0 label values confs) refl i
    where
      of_sent : (x : Session) (p : Program) (f : Frame) → In (notes_of_sent n.keys p x f (openings_for values confs)).made nt → nt.text ≡ text_of f
      of_sent x p f i = elim (in_parts _ (note_of n.keys.me (principal x.cast f.receiver) (text_of f) ∷ []) nt i) [
        | inl j ↦ absurd (items_ (last f.items) j)
        | inr j ↦ elim j [ inl e ↦ ap (λ (z : Note). z.text) e ∙ note_text n.keys.me (principal x.cast f.receiver) (text_of f) | inr k ↦ absurd k ]
      ]
        where
          items_ : (o : Option Item) → In (option_map_or (λ (i : Item). map (λ t. note_of n.keys.me (principal x.cast t) (text_to p.graph x (transcript x) i t)) (targets_of p i.label)) o []) nt → ⊥
          items_ None j = j
          items_ (Some i) j = let r = map_in (λ t. note_of n.keys.me (principal x.cast t) (text_to p.graph x (transcript x) i t)) (targets_of p i.label) nt j in
              absurd (kinds_differ.item_frame x.cast.version x.sid i.role r.0 i.label i.time (commitments p.graph (transcript x ++ i ∷ [])) v b (sym (note_text n.keys.me (principal x.cast r.0) (text_to p.graph x (transcript x) i r.0)) ∙ ap (λ (z : Note). z.text) (sym r.2) ∙ t))

      by_answer : (a : Answer) → answer_act sha n sid0 label values confs ≡ a → In (notes_of_act n sid0 (openings_for values confs) a).made nt → Gave (Act sid0 label values confs) nt.text
      by_answer (Sends e to f) q i =
          let a : ActSent sha n sid0 label values confs f = act_sends sha n sid0 label values confs e to f q in
          let one : In (option_map_or (λ p. notes_of_sent n.keys p a.x f (openings_for values confs)) (program_for n.programs (a.x).cast.graph (a.x).role) no_notes).made nt = subst (λ o. In (option_map_or (λ z. option_map_or (λ p. notes_of_sent n.keys p z f (openings_for values confs)) (program_for n.programs z.cast.graph z.role) no_notes) o no_notes).made nt) a.found i in
          let two : In (notes_of_sent n.keys a.p a.x f (openings_for values confs)).made nt = subst (λ o. In (option_map_or (λ p. notes_of_sent n.keys p a.x f (openings_for values confs)) o no_notes).made nt) a.found_p one in
          record {
            e = e;
            to = to;
            f = f;
            x = a.x;
            there = found_in (λ (z : Session). bytes_eq z.sid sid0) n.live a.x a.found;
            is_answer = q;
            sid_is = ap (λ (z : Frame). z.sid) (sym a.its);
            sender_is = ap (λ (z : Frame). z.sender) (sym a.its);
            tag_is = subst (λ (z : Frame). z.tag ≡ tag_for sha n.keys (a.x).cast z.receiver (text_of z)) a.its refl;
            is_text = of_sent a.x a.p f two;
          }
      by_answer other q i = absurd i

pub decided_none : (e : Event) (o : Option Refusal) → decided e o ≡ Happened e → o ≡ None
decided_none e None h = refl
decided_none e (Some r) h = absurd (cc)

-- the sender sent this frame before, perhaps with another tag of the frame, and just these bytes if it and the receiver hold one key
abbrev pub SentBefore : Schedule → World → Logged → Name → Name → List ℕ → Frame → Type 0
SentBefore s w l who sender bs f =
    ((tag : List ℕ) × WasSent w l.number sender (spelling (record f { tag = tag })) (record f { tag = tag })) × ((is_honest s who ≡ true → HaveOneKey w who sender) → WasSent w l.number sender bs f)

-- ---- a run

module _ (sha : Hash) (hash : IsHash sha) (s : Schedule) (ps : List Past) (course : List Happening) (is_course : IsCourse sha s ps course) where
  abbrev w0 : World
  w0 = record { pasts = ps; log = [] }

  abbrev wf : World
  wf = run_of sha ps course

  abbrev Hashed : List ℕ → Type 0
  Hashed t = In (hashed s (run_of sha ps course)) t

  logs : (l : Logged) → In wf.log l → Silent sha hash s ps course is_course l ⊎ Origin sha hash s ps course is_course l
  logs = (logs_known sha hash s ps course is_course).logs

  -- ---- the receipt and the sending

  module _ (premises : Premises sha s (run_of sha ps course)) (l : Logged) (who : Name) (bs : List ℕ) (f : Frame) (cast : Cast) (taken : IsTaken (run_of sha ps course) l who bs f) (first : FirstCast sha hash s ps course is_course f.sid) (is_cast_ : cast_of_session f.sid (run_of sha ps course).log ≡ Some cast)
      (hon : honest_role s cast f.sender ≡ true) where
    l_in : In wf.log l
    l_in = in_from_Contains wf.log l taken.0

    o : Origin sha hash s ps course is_course l
    o = elim (logs l l_in) [ inl q ↦ absurd (let z : None ≡ Some (Deliver bs) = sym q.call ∙ taken.2 in cc) | inr r ↦ r ]

    call_is : o.c ≡ Deliver bs
    call_is = (let a : Some o.c ≡ Some (Deliver bs) = sym o.is_call ∙ taken.2 in cc)

    who_same : o.who ≡ who
    who_same = (let a : Some o.who ≡ Some who = sym o.is_who ∙ taken.1 in cc)

    first_is : first.cast ≡ cast
    first_is = (let a : Some first.cast ≡ Some cast = sym first.is_cast ∙ is_cast_ in cc)

    with_sid : (c : Cast) → CastFits c → In (hashed s wf) (session_text_of c) → session_id sha c ≡ f.sid → c ≡ cast
    with_sid c fits i e = TL.one_cast c first.cast fits first.fits (premises.collision_free (session_text_of c) (session_text_of first.cast) (contains_from_in (hashed s wf) (session_text_of c) i) (contains_from_in (hashed s wf) (session_text_of first.cast) first.is_hashed) (e ∙ sym first.sid_is)) ∙ first_is

    spells : SpellsFrame bs f
    spells = read-SpellsFrame bs f (subst IsGiven call_is o.in_range) taken.3

    rows_none : first_some (rows sha o.n f) ≡ None
    rows_none = (let a : Answered (answer sha o.n o.c) ≡ Answered (Happened (receipt f)) = sym o.is_outcome ∙ taken.4 in let b : answer sha o.n o.c ≡ Happened (receipt f) = cc in decided_none (receipt f) (first_some (rows sha o.n f)) (ap (verdict_on sha o.n) (sym taken.3) ∙ ap (answer sha o.n) (sym call_is) ∙ b))

    notes_l : l.notes ≡ notes_of_read sha o.n (Ok f)
    notes_l = o.is_notes ∙ ap (notes sha o.n) call_is ∙ ap (notes_of_read sha o.n) taken.3

    t : Took_ sha Hashed o.who o.n f (notes_of_read sha o.n (Ok f))
    t = took sha Hashed o.who o.n (o.known).me (o.known).known (o.known).fits f spells.is_frame rows_none
        (λ y i. in_right (map graph_text_of s.graphs) (flat_map (λ (z : Logged). z.notes.hashed) wf.log) y (in_flat (λ (z : Logged). z.notes.hashed) wf.log l y l_in (subst (λ (z : Notes). In z.hashed y) (sym notes_l) i)))

    cast_is : t.cast ≡ cast
    cast_is = with_sid t.cast t.fits t.is_hashed t.id

    abbrev its_note : Note
    its_note = note_of (o.n).keys.me (principal t.cast f.sender) (text_of f)

    made_before : MadeBefore l.number its_note wf.log
    made_before =
        let both = note_both (λ z. is_honest s z ≡ true) (o.n).keys.me (principal t.cast f.sender) (text_of f) (ap (is_honest s) (o.known).me ∙ o.honest) (ap (λ (c : Cast). is_honest s (principal c f.sender)) cast_is ∙ hon) in
        premises.unforged l its_note taken.0 (contains_from_in l.notes.found _ (subst (λ (z : Notes). In z.found its_note) (sym notes_l) t.found)) both.0 both.1

    -- it was noted of a call
    o' : Origin sha hash s ps course is_course made_before.0
    o' = elim (logs made_before.0 (in_from_Contains wf.log made_before.0 made_before.1)) [
      | inl q ↦ absurd (subst (λ (z : Notes). In z.made its_note) q.notes (in_from_Contains (made_before.0).notes.made its_note made_before.3))
      | inr r ↦ r
    ]

    -- the frame whose text the sender had tagged
    g : Gave sha o'.n o'.c its_note.text
    g = gave sha o'.n o'.c its_note f.version (body f) (subst (λ (z : Notes). In z.made its_note) o'.is_notes (in_from_Contains (made_before.0).notes.made its_note made_before.3)) (note_text (o.n).keys.me (principal t.cast f.sender) (text_of f))

    same_text_ : frame_text_of f.version (body f) ≡ frame_text_of (g.f).version (body g.f)
    same_text_ = sym (note_text (o.n).keys.me (principal t.cast f.sender) (text_of f)) ∙ g.is_text

    same_but_tag : untagged f ≡ untagged g.f
    same_but_tag = TL.one_frame f.version (g.f).version f g.f spells.is_frame (given_sends sha hash o'.n (are_programs sha s (o'.n).programs (o'.known).programs) (o'.known).fits o'.c o'.in_range g.e g.to g.f g.is_answer).spelled same_text_

    its_known : Known sha Hashed o'.who g.x
    its_known = rec_in (Known sha Hashed o'.who) (o'.n).live g.x (o'.known).known g.there

    in_range_ : IsSession g.x
    in_range_ = rec_in IsSession (o'.n).live g.x (o'.known).fits g.there

    sid_same : f.sid ≡ (g.f).sid
    sid_same = ap (λ (z : Frame). z.sid) same_but_tag

    x_cast : (g.x).cast ≡ cast
    x_cast = with_sid (g.x).cast (TL.cast_fits (g.x).cast in_range_.version in_range_.cast) its_known.is_hashed (its_known.id ∙ sym g.sid_is ∙ sym sid_same)

    x_role : (g.x).role ≡ f.sender
    x_role = sym g.sender_is ∙ sym (ap (λ (z : Frame). z.sender) same_but_tag)

    sender_is : o'.who ≡ principal cast f.sender
    sender_is = sym its_known.me ∙ ap (λ (c : Cast). principal c (g.x).role) x_cast ∙ ap (principal cast) x_role

    receiver_is : who ≡ principal cast f.receiver
    receiver_is = sym who_same ∙ sym t.me ∙ ap (λ (c : Cast). principal c f.receiver) cast_is

    with_its : record f { tag = (g.f).tag } ≡ g.f
    with_its = ap (λ (z : Frame). record z { tag = (g.f).tag }) same_but_tag

    event_of : (n : Node) (c : Call) (e : Event) (to : Name) (f : Frame) → answer sha n c ≡ Sends e to f → (sid_of e ≡ f.sid) × (role_of e ≡ f.sender)
    event_of n (Act sid0 label values confs) e to f a = act_event sha n sid0 label values confs e to f a
    event_of n (Start c) e to f a = absurd (start_sends sha n c e to f a)
    event_of n (Abandon sid0) e to f a = absurd (abandon_sends sha n sid0 e to f a)
    event_of n (Deliver bs) e to f a = absurd (deliver_sends sha n bs e to f a)

    -- the sender sent what is this frame
    sent_as : (y : Frame) → g.f ≡ y → (f.sid ≡ y.sid) → (f.sender ≡ y.sender) → WasSent wf l.number (principal cast f.sender) (spelling y) y
    sent_as y e q r = (
      made_before.0,
      g.e,
      g.to,
      made_before.1,
      made_before.2,
      o'.is_who ∙ ap (λ z. Some z) sender_is,
      o'.is_frame ∙ ap frame_in g.is_answer ∙ ap (λ (z : Frame). Some (spelling z)) e,
      o'.is_outcome ∙ ap (λ z. Answered z) (g.is_answer ∙ ap (Sends g.e g.to) e),
      (event_of o'.n o'.c g.e g.to g.f g.is_answer).0 ∙ sym sid_same ∙ q,
      (event_of o'.n o'.c g.e g.to g.f g.is_answer).1 ∙ sym (ap (λ (z : Frame). z.sender) same_but_tag) ∙ r,
    )

    -- by one key there is one tag
    module _ (one_key : HaveOneKey wf who (principal cast f.sender)) where
      sender_key : key_of (o'.n).keys (principal cast f.receiver) ≡ key_at wf (principal cast f.sender) who
      sender_key = o'.held (principal cast f.receiver) ∙ ap (λ z. key_at w0 z (principal cast f.receiver)) sender_is ∙ ap (key_at w0 (principal cast f.sender)) (sym receiver_is) ∙ sym (key_kept sha ps course is_course.right (principal cast f.sender) who)

      receiver_key : key_of (o.n).keys (principal cast f.sender) ≡ key_at wf who (principal cast f.sender)
      receiver_key = o.held (principal cast f.sender) ∙ ap (λ z. key_at w0 z (principal cast f.sender)) who_same ∙ sym (key_kept sha ps course is_course.right who (principal cast f.sender))

      key_same : key_of (o'.n).keys (principal cast f.receiver) ≡ key_of (o.n).keys (principal cast f.sender)
      key_same = sender_key ∙ sym one_key ∙ sym receiver_key

      sent_tag : (g.f).tag ≡ tag_for sha (o'.n).keys cast f.receiver (text_of f)
      sent_tag = g.tag_is ∙ ap (λ (c : Cast). tag_for sha (o'.n).keys c (g.f).receiver (text_of g.f)) x_cast ∙ ap (λ r. tag_for sha (o'.n).keys cast r (text_of g.f)) (ap (λ (z : Frame). z.receiver) (sym same_but_tag)) ∙ ap (tag_for sha (o'.n).keys cast f.receiver) (sym same_text_)

      tag_same : (g.f).tag ≡ f.tag
      tag_same = sent_tag ∙ ap (λ y. cut cast.version (hmac sha (unwrap_or y []) (text_of f))) key_same ∙ ap (λ (c : Cast). tag_for sha (o.n).keys c f.sender (text_of f)) (sym cast_is) ∙ t.tag_is

      whole_ : g.f ≡ f
      whole_ = sym with_its ∙ ap (λ y. record f { tag = y }) tag_same

    was_sent : SentBefore s wf l who (principal cast f.sender) bs f
    was_sent = (
      ((g.f).tag, sent_as (record f { tag = (g.f).tag }) (sym with_its) refl refl),
      λ one_key. subst (λ z. WasSent wf l.number (principal cast f.sender) z f) spells.spelled (sent_as f (whole_ (one_key (ap (is_honest s) (sym who_same) ∙ o.honest))) refl refl),
    )

-- a session with a cast has an event
pub some_event : (sid : List ℕ) (log : List Logged) (cast : Cast) → cast_of_session sid log ≡ Some cast → events_of sid log ≢ []
some_event sid log cast e none = (let n : cast_of_session sid log ≡ None = ap (option_and_then (λ (l : Logged). option_and_then cast_in l.call)) (no_entry sid log none) in absurd (cc))

pub receipts_are_of_sends : (sha : Hash) (hash : IsHash sha) (s : Schedule) (ps : List Past) (course : List Happening) (is_course : IsCourse sha s ps course) → Premises sha s (run_of sha ps course)
    → (l : Logged) (who : Name) (bs : List ℕ) (f : Frame) (cast : Cast) → IsTaken (run_of sha ps course) l who bs f → cast_of_session f.sid (run_of sha ps course).log ≡ Some cast → honest_role s cast f.sender ≡ true
    → SentBefore s (run_of sha ps course) l who (principal cast f.sender) bs f
receipts_are_of_sends sha hash s ps course is_course premises l who bs f cast taken is hon =
    was_sent sha hash s ps course is_course premises l who bs f cast taken (first_cast sha hash s ps course is_course f.sid (some_event f.sid (run_of sha ps course).log cast is)) is hon
