-- In a schedule's run a frame that is awaited is accepted, and a session is never stuck.
use Rattle.std.specs.Prelude.{◌≡◌, ◌⊎◌, ℕ, zero, suc, ◌-◌, ◌+◌, ◌<◌, ◌≤◌, ◌==◌, if◌then◌else◌, ◌&&◌, All, true, List, [], ◌∷◌, ◌++◌, map, filter_map, length, bytes_eq, slice_get, Some, None, option_map}
use Rattle.std.specs.List.{cons_option}
use Rattle.std.specs.Option.{option_map_or}
use Rattle.std.proofs.Common.{sym, ◌∙◌, ap, subst, inl, inr, arith}
use Rattle.std.proofs.lemmas.Bool.{and_from, cases_Bool, eq-eqb, eqb-true, ne_eqb}
use Rattle.std.proofs.lemmas.Bool.Decides.{nat_tests}
use Rattle.std.proofs.lemmas.List.Elements.{filter_map-append}
use Rattle.sg_model.specs.Lists.{below, range_from}
use Rattle.sg_model.specs.Names.{Name}
use Rattle.sg_model.proofs.Small.{bytes_same, at_length}
use Rattle.sg_model.proofs.Members.{In, in_from_Contains, in_map, in_flat, all_in, map_in, in_split}
use Rattle.sg_model.proofs.Finding.{find_some}
use Rattle.sg_law.proofs.Lists.{last-append}
use Rattle.sg_model.specs.Last.{last}
use Rattle.sg_protocol.specs.Graph.{Graph}
use Rattle.sg_protocol.specs.Frame.{Cast, Frame}
use Rattle.sg_protocol.specs.Spelling.{spelling}
use Rattle.sg_protocol.specs.Texts.{Hash, IsHash, graph_digest}
use Rattle.sg_protocol.specs.Keyring.{Program}
use Rattle.sg_protocol.specs.Calls.{Deliver, Happened}
use Rattle.sg_protocol.specs.Node.{has_joined, program_for}
use Rattle.sg_protocol.specs.Acting.{answer}
use Rattle.sg_protocol.specs.Verdict.{receipt}
use Rattle.sg_protocol.specs.Notes.{notes}
use Rattle.sg_protocol.specs.Past.{Past, node_of}
use Rattle.sg_protocol.specs.Schedule.{Schedule, graph_with, is_honest}
use Rattle.sg_protocol.specs.World.{World, Logged, Answered, frame_at, frames, new_world, past_of}
use Rattle.sg_protocol.specs.Run.{called_if, cast_of_session, frame_in, run}
use Rattle.sg_protocol.specs.Premises.{Premises}
use Rattle.sg_protocol.specs.IsSchedule.{AreCompiled, IsProgram, IsSchedule, parts}
use Rattle.sg_protocol.specs.Completeness.{IsAwaited, IsSentTo, DeliveryIsComplete}
use Rattle.sg_protocol.specs.GoesOn.{IsAtEnd, WasAbandoned, CanAct, IsUnderWay, SessionsGoOn}
use Rattle.sg_protocol.proofs.Accepting.{LastFrame, is_accepted, never_stuck}
use Rattle.sg_protocol.proofs.Courses.{as_begun, course, is_course, one_key_each, same_run}
use Rattle.sg_protocol.proofs.Happenings.{run_of}

in_below : (n x : ℕ) → x < n → In (below n) x
in_below n x l = go 0 n (omega arith) (omega (arith, l))
  where
    go : (k j : ℕ) → k ≤ x → x < k + j → In (range_from k j) x
    go k zero a b = absurd (omega (arith, a, b))
    go k (suc j) a b = elim (cases_Bool (k == x)) [ inl e ↦ inl (sym (eqb-true k x e)) | inr e ↦ inr (go (suc k) j (grind (arith, nat_tests)) (omega (arith, b))) ]

at_number : (w : World) (k : ℕ) → frame_at w (suc k) ≡ slice_get (frames w) k
at_number w k = ap (λ b. if b then None else slice_get (frames w) (suc k - 1)) (ne_eqb (suc k) 0 (λ q. omega (arith, q))) ∙ ap (slice_get (frames w)) (let e : suc k - 1 ≡ k = omega arith in e)

-- a frame that was sent is recorded
recorded_at : (w : World) (bs : List ℕ) (to : Name) (f : Frame) → IsSentTo w.log bs to f → (number : ℕ) × (frame_at w number ≡ Some bs)
recorded_at w bs to f sent =
    let sp = in_split w.log sent.0 (in_from_Contains w.log sent.0 sent.2) in
    let all : frames w ≡ filter_map (λ (l : Logged). l.frame) sp.0 ++ bs ∷ filter_map (λ (l : Logged). l.frame) sp.1 = ap (filter_map (λ (l : Logged). l.frame)) sp.2 ∙ filter_map-append (λ (l : Logged). l.frame) sp.0 (sent.0 ∷ sp.1) ∙ ap (λ o. filter_map (λ (l : Logged). l.frame) sp.0 ++ cons_option o (filter_map (λ (l : Logged). l.frame) sp.1)) sent.4 in (
      suc (length (filter_map (λ (l : Logged). l.frame) sp.0)),
      at_number w (length (filter_map (λ (l : Logged). l.frame) sp.0)) ∙ ap (λ l. slice_get l (length (filter_map (λ (l : Logged). l.frame) sp.0))) all ∙ at_length (filter_map (λ (l : Logged). l.frame) sp.0) bs (filter_map (λ (l : Logged). l.frame) sp.1),
    )

-- each role of a graph has a program
has_program : (sha : Hash) (s : Schedule) (programs : List Program) → AreCompiled sha s.graphs programs → (g : Graph) → In s.graphs g → (digest : List ℕ) → graph_digest sha g ≡ digest → (r : ℕ) → r < length g.roles → (p : Program) × (program_for programs digest r ≡ Some p)
has_program sha s programs compiled g there digest d r l =
    let i : In (parts s.graphs) (g, r) = in_flat (λ (g : Graph). map (λ r. (g, r)) (below (length g.roles))) s.graphs g (g, r) there (in_map (λ r. (g, r)) (below (length g.roles)) r (in_below (length g.roles) r l)) in
    let b = map_in (λ (p : Program). (p.graph, p.role)) programs (g, r) (subst (λ z. In z (g, r)) (sym compiled.all) i) in
    let ip : IsProgram sha b.0 = all_in (IsProgram sha) programs b.0 compiled.each b.1 in
    find_some (λ (p : Program). bytes_eq p.digest digest && (p.role == r)) programs b.0 b.1
    (and_from (bytes_eq (b.0).digest digest) ((b.0).role == r) (bytes_same (b.0).digest digest (ip.digest ∙ ap (λ (y : Graph × ℕ). graph_digest sha y.0) (sym b.2) ∙ d)) (eq-eqb (b.0).role r (ap (λ (y : Graph × ℕ). y.1) (sym b.2))))

module _ (sha : Hash) (hash : IsHash sha) (programs : List Program) (s : Schedule) (compiled : AreCompiled sha s.graphs programs) (sched : IsSchedule sha s) where
  abbrev w : World
  w = run_of sha (new_world programs s).pasts (course sha hash programs s compiled sched)

  abbrev Accepts : World → Type 0
  Accepts w = Premises sha s w → (number : ℕ) (who : Name) (past : Past) (f : Frame) → past_of w who ≡ Some past → (aw : IsAwaited sha s w number who past f) → answer sha (node_of past) (Deliver aw.bytes) ≡ Happened (receipt f)

  accepts : Accepts w
  accepts premises number who past f its_past aw =
      let begun = as_begun sha hash programs s compiled sched who past its_past in
      is_accepted sha hash s (new_world programs s).pasts (course sha hash programs s compiled sched) (is_course sha hash programs s compiled sched) premises aw.bytes who past f its_past
      (record {
        sent = aw.sent;
        cast = aw.cast;
        is_cast = aw.is_cast;
        all_honest = aw.all_honest;
        one_key = one_key_each sha hash programs s compiled sched aw.cast.names aw.all_honest;
        covered = aw.covered;
        not_taken = aw.not_taken;
        not_left = aw.not_left;
        not_first = λ j. ap (λ (z : Past). has_joined z.first f.sid f.receiver) begun;
        room = aw.room;
      })
      (λ g is i d l. subst (λ xs. (p : Program) × (program_for xs aw.cast.graph f.receiver ≡ Some p)) (sym (ap (λ (z : Past). z.programs) begun)) (has_program sha s programs compiled g i aw.cast.graph d f.receiver l))

  abbrev GoesOn : World → Type 0
  GoesOn w = Premises sha s w → (sid : List ℕ) (cast : Cast) (g : Graph) → cast_of_session sid w.log ≡ Some cast → graph_with sha s.graphs cast.graph ≡ Some g → All (λ n. is_honest s n ≡ true) cast.names
      → IsAtEnd g sid w.log ⊎ (WasAbandoned cast sid w.log ⊎ (CanAct sha w cast g sid ⊎ IsUnderWay sha s w cast sid))

  goes_on : GoesOn w
  goes_on premises sid cast g is_cast is_graph honest = elim (never_stuck sha hash s (new_world programs s).pasts (course sha hash programs s compiled sched) (is_course sha hash programs s compiled sched) premises sid cast g is_cast is_graph honest (one_key_each sha hash programs s compiled sched cast.names honest)) [
    | inl e ↦ inl e
    | inr r ↦ elim r [ inl a ↦ inr (inl a) | inr r2 ↦ elim r2 [ inl c ↦ inr (inr (inl c)) | inr l ↦ inr (inr (inr (under_way l))) ] ]
  ]
    where
      under_way : LastFrame w cast sid → IsUnderWay sha s w cast sid
      under_way l =
          let r = recorded_at w (spelling l.frame) l.who l.frame l.is_sent in
          record {
            number = r.0;
            who = l.who;
            frame = l.frame;
            recorded = r.1;
            is_sent = l.is_sent;
            of_session = l.of_session;
            receiver = l.receiver;
            newest = l.newest;
            not_taken = l.not_taken;
            awaited = λ past its_past covered room. record {
              bytes = spelling l.frame;
              recorded = r.1;
              sent = l.is_sent;
              cast = cast;
              is_cast = ap (λ z. cast_of_session z w.log) l.of_session ∙ is_cast;
              all_honest = honest;
              covered = covered;
              not_taken = l.not_taken;
              not_left = l.not_left;
              room = room;
            };
          }

pub delivery_is_complete : (sha : Hash) → IsHash sha → DeliveryIsComplete sha
delivery_is_complete sha hash programs s compiled sched premises number who past f its_past aw =
    let accepted : answer sha (node_of past) (Deliver aw.bytes) ≡ Happened (receipt f) = subst (Accepts sha hash programs s compiled sched) (same_run sha hash programs s compiled sched) (accepts sha hash programs s compiled sched) premises number who past f its_past aw in
    ap (λ (w : World). option_map (λ (l : Logged). l.outcome) (last w.log)) (
    ap (λ o. option_map_or (called_if sha (run sha programs s) (length s.steps + 1) who (option_map Deliver (frame_at (run sha programs s) number))) o (run sha programs s)) its_past
    ∙ ap (λ o. called_if sha (run sha programs s) (length s.steps + 1) who (option_map Deliver o) past) aw.recorded)
    ∙ ap (option_map (λ (l : Logged). l.outcome)) (last-append (run sha programs s).log (record { number = length s.steps + 1; who = Some who; call = Some (Deliver aw.bytes); outcome = Answered (answer sha (node_of past) (Deliver aw.bytes)); frame = frame_in (answer sha (node_of past) (Deliver aw.bytes)); notes = notes sha (node_of past) (Deliver aw.bytes) }) [])
    ∙ ap (λ z. Some (Answered z)) accepted

pub sessions_go_on : (sha : Hash) → IsHash sha → SessionsGoOn sha
sessions_go_on sha hash programs s compiled sched = subst (GoesOn sha hash programs s compiled sched) (same_run sha hash programs s compiled sched) (goes_on sha hash programs s compiled sched)
