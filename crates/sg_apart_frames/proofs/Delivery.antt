-- A frame that is awaited is accepted, and a session is never stuck, of honest principals that run apart.
use Rattle.std.specs.Prelude.{◌≡◌, ℕ, ◌+◌, All, List, [], map, length, Some, option_map, true}
use Rattle.std.specs.Option.{option_map_or}
use Rattle.std.proofs.Common.{◌∙◌, ap, inl, inr}
use Rattle.sg_model.specs.Last.{last}
use Rattle.sg_law.proofs.Lists.{last-append}
use Rattle.sg_protocol.specs.Frame.{Cast}
use Rattle.sg_protocol.specs.Texts.{Hash, IsHash}
use Rattle.sg_protocol.specs.Calls.{Deliver, Happened}
use Rattle.sg_protocol.specs.Node.{has_joined}
use Rattle.sg_protocol.specs.Acting.{answer}
use Rattle.sg_protocol.specs.Verdict.{receipt}
use Rattle.sg_protocol.specs.Notes.{notes}
use Rattle.sg_protocol.specs.Past.{Past, node_of}
use Rattle.sg_protocol.specs.Schedule.{is_honest}
use Rattle.sg_protocol.specs.World.{World, Logged, Answered, past_of}
use Rattle.sg_protocol.specs.Run.{called, cast_of_session, frame_in}
use Rattle.sg_protocol.specs.Premises.{Premises}
use Rattle.sg_protocol.proofs.Accepting.{LastFrame, is_accepted, never_stuck}
use Rattle.sg_apart.specs.Apart.{honest_are, run_apart}
use Rattle.sg_apart.proofs.Whole.{asks, is_course, of_course}
use Rattle.sg_apart_frames.specs.Delivery.{HoldOneKeyEach, IsAwaitedApart, DeliveryIsCompleteApart}
use Rattle.sg_apart_frames.specs.GoesOn.{IsUnderWayApart, AreNotStuck, SessionsGoOnApart}
use Rattle.sg_apart_frames.proofs.Beginnings.{one_later}

pub delivery_is_complete_apart : (sha : Hash) → IsHash sha → DeliveryIsCompleteApart sha
delivery_is_complete_apart sha hash ps calls are range premises bytes who past f its_past awaited =
    let accepted : answer sha (node_of past) (Deliver bytes) ≡ Happened (receipt f) = of_course sha ps calls (λ w. Premises sha (honest_are ps) w → past_of w who ≡ Some past → IsAwaitedApart (honest_are ps) w bytes who past f → answer sha (node_of past) (Deliver bytes) ≡ Happened (receipt f))
    (λ premises its_past aw. is_accepted sha hash (honest_are ps) ps (map asks calls) (is_course sha ps are calls range) premises bytes who past f its_past
    (record { sent = aw.sent; cast = aw.cast; is_cast = aw.is_cast; all_honest = aw.all_honest; one_key = aw.one_key; covered = aw.covered; not_taken = aw.not_taken; not_left = aw.not_left; not_first = aw.not_first; room = aw.room })
    (λ g is i d l. (aw.program, aw.has_program))) premises its_past awaited in
    ap (λ (w : World). option_map (λ (l : Logged). l.outcome) (last w.log)) (
    one_later sha (record { pasts = ps; log = [] }) 1 calls (record { who = who; call = Deliver bytes })
    ∙ ap (λ o. option_map_or (called sha (run_apart sha ps calls) (1 + length calls) who (Deliver bytes)) o (run_apart sha ps calls)) its_past)
    ∙ ap (option_map (λ (l : Logged). l.outcome)) (last-append (run_apart sha ps calls).log (record { number = 1 + length calls; who = Some who; call = Some (Deliver bytes); outcome = Answered (answer sha (node_of past) (Deliver bytes)); frame = frame_in (answer sha (node_of past) (Deliver bytes)); notes = notes sha (node_of past) (Deliver bytes) }) [])
    ∙ ap (λ z. Some (Answered z)) accepted

-- the last frame is under way
under_way : (sha : Hash) (ps : List Past) (w : World) (sid : List ℕ) (cast : Cast) → cast_of_session sid w.log ≡ Some cast → All (λ n. is_honest (honest_are ps) n ≡ true) cast.names → HoldOneKeyEach w cast → LastFrame w cast sid → IsUnderWayApart (honest_are ps) w cast sid
under_way sha ps w sid cast is_cast honest one_key l = record {
  who = l.who;
  frame = l.frame;
  is_sent = l.is_sent;
  of_session = l.of_session;
  receiver = l.receiver;
  newest = l.newest;
  not_taken = l.not_taken;
  awaited = λ past p its_past has covered may_join. record {
    sent = l.is_sent;
    cast = cast;
    is_cast = ap (λ z. cast_of_session z w.log) l.of_session ∙ is_cast;
    all_honest = honest;
    one_key = one_key;
    program = p;
    has_program = has;
    covered = covered;
    not_taken = l.not_taken;
    not_left = l.not_left;
    not_first = λ j. ap (λ z. has_joined past.first z (l.frame).receiver) l.of_session ∙ (may_join j).0;
    room = λ j. ((may_join j).1, (may_join j).2);
  };
}

pub sessions_go_on_apart : (sha : Hash) → IsHash sha → SessionsGoOnApart sha
sessions_go_on_apart sha hash ps calls are range = of_course sha ps calls (λ w. Premises sha (honest_are ps) w → AreNotStuck sha (honest_are ps) w)
    (λ premises sid cast g is_cast is_graph honest one_key. elim (never_stuck sha hash (honest_are ps) ps (map asks calls) (is_course sha ps are calls range) premises sid cast g is_cast is_graph honest one_key) [
      | inl e ↦ inl e
      | inr r ↦ elim r [ inl a ↦ inr (inl a) | inr r2 ↦ elim r2 [ inl c ↦ inr (inr (inl c)) | inr l ↦ inr (inr (inr (under_way sha ps _ sid cast is_cast honest one_key l))) ] ]
    ])
