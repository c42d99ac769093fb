-- One walk explains each session of a run.
use Rattle.std.specs.Prelude.{◌≡◌, ◌≢◌, ℕ, ◌+◌, ◌⊎◌, Bool, true, false, List, [], ◌∷◌, ◌++◌, map, filter, flat_map, length, find, bytes_eq, refl, Option, Some, None, option_and_then}
use Rattle.std.specs.List.{AllByRecursion, list_any}
use Rattle.std.specs.Option.{option_map_or}
use Rattle.std.proofs.Common.{sym, ◌∙◌, ap, subst, inl, inr, append_assoc, append-nil}
use Rattle.std.proofs.lemmas.Bool.{cases_Bool}
use Rattle.std.proofs.lemmas.List.Elements.{filter-append}
use Rattle.std.proofs.lemmas.Slice.Eq.{bytes_eq-Decides}
use Rattle.sg_model.specs.Lists.{all_differ}
use Rattle.sg_model.specs.Names.{Name}
use Rattle.sg_model.specs.Values.{Opening}
use Rattle.sg_model.proofs.Small.{same_bytes, both_nil}
use Rattle.sg_model.proofs.Members.{In, in_from_Contains, contains_from_in, in_left, in_right, in_map, in_flat, rec_in}
use Rattle.sg_model.proofs.Finding.{find_passes, found_in, find_some, none_any}
use Rattle.sg_law.specs.Values as V
use Rattle.sg_law.specs.Values.{Binding, Commit, Followed, Move, all_openings}
use Rattle.sg_law.proofs.Follow.{followed}
use Rattle.sg_protocol.specs.Graph.{Graph, IsGraph, shape}
use Rattle.sg_protocol.specs.Evidence.{IsViewTable}
use Rattle.sg_protocol.specs.Frame.{Cast}
use Rattle.sg_protocol.specs.Texts.{Hash, IsHash, commitment, commitment_text_of, session_id, session_text_of, graph_text_of, graph_digest}
use Rattle.sg_protocol.specs.TextLaws.{CastFits, OpeningFits}
use Rattle.sg_protocol.specs.Keyring.{Program}
use Rattle.sg_protocol.specs.Session.{Session}
use Rattle.sg_protocol.specs.Calls.{Call, Answer, events_of_answer, sid_of}
use Rattle.sg_protocol.specs.Node.{Node, program_for}
use Rattle.sg_protocol.specs.NodeAfter.{node_after}
use Rattle.sg_protocol.specs.Acting.{answer}
use Rattle.sg_protocol.specs.Notes.{notes}
use Rattle.sg_protocol.specs.Past.{Past, node_of, new_node, node_after_all, past_after}
use Rattle.sg_protocol.specs.Schedule.{Schedule, honest_role, graph_with}
use Rattle.sg_protocol.specs.World.{World, Logged, Answered, past_of}
use Rattle.sg_protocol.specs.Run.{called, frame_in, events_of, events_of_outcome, cast_in, cast_of_session}
use Rattle.sg_protocol.specs.Premises.{hashed, Premises}
use Rattle.sg_protocol.specs.Headline.{IsExplained}
use Rattle.sg_protocol.specs.IsSchedule.{IsProgram}
use Rattle.sg_protocol.specs.Bounds.{IsSession}
use Rattle.sg_protocol.proofs.Progressing.{Suffix, node_next}
use Rattle.sg_protocol.proofs.Calls.{NodeOk}
use Rattle.sg_protocol.proofs.First.{programs_after}
use Rattle.sg_protocol.proofs.GraphText.{one_graph}
use Rattle.sg_protocol.proofs.Paths.{one_path, steps_of, flat_map-append}
use Rattle.sg_protocol.proofs.TextLaws.{one_cast, one_opening}
use Rattle.sg_protocol.proofs.Begun.{BegunBy, Either, call_first}
use Rattle.sg_protocol.proofs.Going.{SessionInRun, Progress, Left, all_moves}
use Rattle.sg_protocol.proofs.Happenings.{Happening, Asked, Idle, IsCourse, IsGiven, IsRight, Own, are_programs, happens, all_happen, pasts_kept, run_of, suffix_course}
use Rattle.sg_protocol.proofs.OfSid.{of_sid}
use Rattle.sg_protocol.proofs.NoRows.{program_found}

module _ (sha : Hash) (hash : IsHash sha) (s : Schedule) (ps : List Past) (course : List Happening) (is_course : IsCourse sha s ps course) where
  abbrev pub w0 : World
  w0 = record { pasts = ps; log = [] }

  abbrev pub wf : World
  wf = run_of sha ps course

  -- the node of a principal that begins
  pub node_begins : (p : Past) → In ps p → node_of p ≡ new_node p.keys p.programs p.first
  node_begins p i = ap (node_after_all (new_node p.keys p.programs p.first)) (is_course.calls p i)

  module _ (sid : List ℕ) where
    -- ---- the run until the session's first event

    abbrev of_session : Logged → Bool
    of_session l = list_any (λ e. bytes_eq (sid_of e) sid) (events_of_outcome l.outcome)

    skip : (before ys : List Logged) → events_of sid before ≡ [] → find of_session (before ++ ys) ≡ find of_session ys
    skip [] ys e = refl
    skip (l ∷ ls) ys e =
        let p = both_nil (filter (λ e. bytes_eq (sid_of e) sid) (events_of_outcome l.outcome)) (events_of sid ls) (sym (filter-append (λ e. bytes_eq (sid_of e) sid) (events_of_outcome l.outcome) (flat_map (λ (l : Logged). events_of_outcome l.outcome) ls)) ∙ e) in
        rw (none_any (λ e. bytes_eq (sid_of e) sid) (events_of_outcome l.outcome) p.0) (skip ls ys p.1)

    find_here : (l : Logged) (rest : List Logged) → of_session l ≡ true → find of_session (l ∷ rest) ≡ Some l
    find_here l rest h = rw h refl

    no_events : (xs ys : List Logged) → events_of sid xs ≡ [] → filter (λ e. bytes_eq (sid_of e) sid) (flat_map (λ (l : Logged). events_of_outcome l.outcome) ys) ≡ [] → events_of sid (xs ++ ys) ≡ []
    no_events xs ys e f =
        ap (filter (λ e. bytes_eq (sid_of e) sid)) (flat_map-append (λ (l : Logged). events_of_outcome l.outcome) xs ys)
        ∙ filter-append (λ e. bytes_eq (sid_of e) sid) (flat_map (λ (l : Logged). events_of_outcome l.outcome) xs) (flat_map (λ (l : Logged). events_of_outcome l.outcome) ys)
        ∙ ap (λ l. l ++ filter (λ e. bytes_eq (sid_of e) sid) (flat_map (λ (l : Logged). events_of_outcome l.outcome) ys)) e ∙ f

    -- the principal's node has no session of the sid
    abbrev Quiet : Past → Type 0
    Quiet p = (Own sha s) p.programs × ((node_of p).programs ≡ p.programs) × (filter (of_sid sid) (node_of p).live ≡ [])

    record QuietIn (w : World) : Type 0 where
      nodes : (who : Name) (p : Past) → past_of w who ≡ Some p → Quiet p
      none : events_of sid w.log ≡ []

    record BegunIn (w : World) : Type 0 where
      before : List Logged
      l : Logged
      rest : List Logged
      is : w.log ≡ before ++ l ∷ rest
      none : events_of sid before ≡ []
      node : Node
      own : (Own sha s) node.programs
      call : Call
      answer_ : Answer
      is_call : l.call ≡ Some call
      is_outcome : l.outcome ≡ Answered answer_
      begun : BegunBy sha sid node call answer_ l.notes

    module _ (w : World) (k : ℕ) (q : QuietIn w) (who : Name) (past : Past) (its_past : past_of w who ≡ Some past) (c : Call) where
      abbrev n : Node
      n = node_of past

      at : Quiet past
      at = q.nodes who past its_past

      called_first : Either sha sid n c (answer sha n c) (notes sha n c) → QuietIn (called sha w k who c past) ⊎ BegunIn (called sha w k who c past)
      called_first (inr b) = inr record { before = w.log; l = record { number = k; who = Some who; call = Some c; outcome = Answered (answer sha n c); frame = frame_in (answer sha n c); notes = notes sha n c }; rest = []; is = refl; none = q.none; node = n; own = subst (Own sha s) (sym at.1) at.0; call = c; answer_ = answer sha n c; is_call = refl; is_outcome = refl; begun = b }
      called_first (inl a) = inl record {
        nodes = pasts_kept sha w k who past its_past c (λ me y. Quiet y) mine (λ me y ne e. q.nodes me y e);
        none = no_events w.log _ q.none (ap (filter (λ e. bytes_eq (sid_of e) sid)) (append-nil (events_of_answer (answer sha n c))) ∙ a.0);
      }
        where
          node_is : node_of (past_after sha past c) ≡ node_after n c (answer sha n c)
          node_is = node_next sha past c

          mine : Quiet (past_after sha past c)
          mine = (at.0, ap (λ (m : Node). m.programs) node_is ∙ programs_after n c (answer sha n c) ∙ at.1, ap (λ (m : Node). filter (of_sid sid) m.live) node_is ∙ a.1)

    by_past : (w : World) (k : ℕ) → QuietIn w → (who : Name) (c : Call) → IsGiven c → (o : Option Past) → past_of w who ≡ o → QuietIn (option_map_or (called sha w k who c) o w) ⊎ BegunIn (option_map_or (called sha w k who c) o w)
    by_past w k q who c h None e = inl q
    by_past w k q who c h (Some past) e = called_first w k q who past e c (call_first sha sid (node_of past) (q.nodes who past e).2 c h)

    one_first : (w : World) (k : ℕ) → QuietIn w → (h : Happening) → IsRight h → QuietIn (happens sha w k h) ⊎ BegunIn (happens sha w k h)
    one_first w k q (Asked who c) right = by_past w k q who c right (past_of w who) refl
    one_first w k q (Idle who o fr) right = inl record { nodes = q.nodes; none = no_events w.log _ q.none (ap (λ l. filter (λ e. bytes_eq (sid_of e) sid) (l ++ [])) right) }

    begun_later : (k : ℕ) (w w' : World) → Suffix k w.log w'.log → BegunIn w → BegunIn w'
    begun_later k w w' t b = record { before = b.before; l = b.l; rest = b.rest ++ t.rest; is = t.is ∙ ap (λ z. z ++ t.rest) b.is ∙ append_assoc b.before (b.l ∷ b.rest) t.rest; none = b.none; node = b.node; own = b.own; call = b.call; answer_ = b.answer_; is_call = b.is_call; is_outcome = b.is_outcome; begun = b.begun }

    all_first : (w : World) (k : ℕ) → QuietIn w → (hs : List Happening) → AllByRecursion IsRight hs → QuietIn (all_happen sha w k hs) ⊎ BegunIn (all_happen sha w k hs)
    all_first w k q [] right = inl q
    all_first w k q (h ∷ hs) right = elim (one_first w k q h right.0) [
      | inl q' ↦ all_first (happens sha w k h) (k + 1) q' hs right.1
      | inr b ↦ inr (begun_later (k + 1) (happens sha w k h) (all_happen sha (happens sha w k h) (k + 1) hs) (suffix_course sha (happens sha w k h) (k + 1) hs) b)
    ]

    quiet_new : QuietIn w0
    quiet_new = record {
      nodes = λ who p e. let i = found_in (λ (p : Past). bytes_eq p.keys.me who) ps p e in let b = node_begins p i in (is_course.own p i, ap (λ (n : Node). n.programs) b, ap (λ (n : Node). filter (of_sid sid) n.live) b);
      none = refl;
    }

    -- what the first event of the session says
    pub record FirstCast : Type 0 where
      pub cast : Cast
      pub is_cast : cast_of_session sid wf.log ≡ Some cast
      pub sid_is : session_id sha cast ≡ sid
      pub fits : CastFits cast
      pub is_hashed : In (hashed s wf) (session_text_of cast)
      pub program : Program
      pub own : IsProgram sha program × In s.graphs program.graph
      pub digest : program.digest ≡ cast.graph
      pub differ : all_differ cast.names ≡ true
      pub lengths : length cast.names ≡ length program.graph.roles

    from_begun : BegunIn wf → FirstCast
    from_begun b = record {
      cast = (b.begun).cast;
      is_cast = ap (option_and_then (λ (l : Logged). option_and_then cast_in l.call)) (ap (find of_session) b.is ∙ skip b.before (b.l ∷ b.rest) b.none ∙ find_here b.l b.rest (ap (λ o. list_any (λ e. bytes_eq (sid_of e) sid) (events_of_outcome o)) b.is_outcome ∙ (b.begun).has_event)) ∙ ap (option_and_then cast_in) b.is_call ∙ (b.begun).in_call;
      sid_is = (b.begun).sid_is;
      fits = (b.begun).fits;
      is_hashed = in_right (map graph_text_of s.graphs) (flat_map (λ (l : Logged). l.notes.hashed) wf.log) (session_text_of (b.begun).cast) (in_flat (λ (l : Logged). l.notes.hashed) wf.log b.l (session_text_of (b.begun).cast) (subst (λ z. In z b.l) (sym b.is) (in_right b.before (b.l ∷ b.rest) b.l (inl refl))) (b.begun).is_hashed);
      program = (b.begun).program;
      own = rec_in (λ (q : Program). IsProgram sha q × In s.graphs q.graph) (b.node).programs (b.begun).program b.own (b.begun).there;
      digest = (b.begun).digest;
      differ = (b.begun).differ;
      lengths = (b.begun).lengths;
    }

    pub first_cast : events_of sid wf.log ≢ [] → FirstCast
    first_cast some = elim (all_first w0 1 quiet_new course is_course.right) [
      | inl q ↦ absurd (some q.none)
      | inr b ↦ from_begun b
    ]

    none_there : (p : Session → Bool) (xs : List Session) (x : Session) → filter p xs ≡ [] → In xs x → p x ≡ true → ⊥
    none_there p [] x e i h = i
    none_there p (y ∷ ys) x e i h = elim (cases_Bool (p y)) [
      | inl k ↦ (let f = rw k at e in absurd (cc))
      | inr k ↦ elim i [ inl q ↦ absurd (let f : true ≡ false = sym h ∙ ap p q ∙ k in cc) | inr j ↦ none_there p ys x (rw k at e) j h ]
    ]

    -- if a node has a live session, the session has had an event
    begun_live : (w : World) (k : ℕ) → QuietIn w → (hs gs : List Happening) → AllByRecursion IsRight (hs ++ gs) → (who : Name) (p : Past) → past_of (all_happen sha w k hs) who ≡ Some p → (x : Session) → In (node_of p).live x → of_sid sid x ≡ true → BegunIn (all_happen sha w k (hs ++ gs))
    begun_live w k q [] gs right who p e x i h = absurd (none_there (of_sid sid) (node_of p).live x (q.nodes who p e).2 i h)
    begun_live w k q (g ∷ hs) gs right who p e x i h = elim (one_first w k q g right.0) [
      | inl q' ↦ begun_live (happens sha w k g) (k + 1) q' hs gs right.1 who p e x i h
      | inr b ↦ begun_later (k + 1) (happens sha w k g) (all_happen sha (happens sha w k g) (k + 1) (hs ++ gs)) (suffix_course sha (happens sha w k g) (k + 1) (hs ++ gs)) b
    ]

    pub first_of_live : (hs gs : List Happening) → course ≡ hs ++ gs → (who : Name) (p : Past) → past_of (run_of sha ps hs) who ≡ Some p → (x : Session) → In (node_of p).live x → of_sid sid x ≡ true → FirstCast
    first_of_live hs gs e who p its x i h = from_begun (subst (λ c. BegunIn (run_of sha ps c)) (sym e) (begun_live w0 1 quiet_new hs gs (subst (AllByRecursion IsRight) e is_course.right) who p its x i h))

    -- ---- the session

    module _ (premises : Premises sha s wf) (first : FirstCast) where
      abbrev pub g : Graph
      g = (first.program).graph

      pub the_program : IsProgram sha first.program
      the_program = (first.own).0

      same_text_same : (a b : List ℕ) → In (hashed s wf) a → In (hashed s wf) b → sha a ≡ sha b → a ≡ b
      same_text_same a b i j e = premises.collision_free a b (contains_from_in (hashed s wf) a i) (contains_from_in (hashed s wf) b j) e

      pub same_digest : (a b : Graph) → In s.graphs a → In s.graphs b → graph_digest sha a ≡ graph_digest sha b → a ≡ b
      same_digest a b i j e = one_graph a b (rec_in IsGraph s.graphs a is_course.graphs i) (rec_in IsGraph s.graphs b is_course.graphs j)
          (same_text_same (graph_text_of a) (graph_text_of b) (in_left (map graph_text_of s.graphs) _ (graph_text_of a) (in_map graph_text_of s.graphs a i)) (in_left (map graph_text_of s.graphs) _ (graph_text_of b) (in_map graph_text_of s.graphs b j)) e)

      pub prog : (xs : List Program) → (Own sha s) xs → (r : ℕ) (q : Program) → program_for xs first.cast.graph r ≡ Some q → (q.graph ≡ g) × IsViewTable q.graph r q.views
      prog xs own r q e =
          let t = program_found xs first.cast.graph r q e in
          let both = rec_in (λ (q : Program). IsProgram sha q × In s.graphs q.graph) xs q own t.2 in
          (same_digest q.graph g both.1 (first.own).1 (sym (both.0).digest ∙ t.0 ∙ sym first.digest ∙ the_program.digest), subst (λ z. IsViewTable q.graph z q.views) t.1 (both.0).views)

      the_cast : (c : Cast) → CastFits c → In (hashed s wf) (session_text_of c) → session_id sha c ≡ sid → c ≡ first.cast
      the_cast c fits i e = one_cast c first.cast fits first.fits (same_text_same (session_text_of c) (session_text_of first.cast) i first.is_hashed (e ∙ sym first.sid_is))

      long : length sid ≡ 32
      long = subst (λ z. length z ≡ 32) first.sid_is (hash (session_text_of first.cast)).0

      abbrev pub commit : Commit
      commit o = commitment sha sid o

      pub binding : (ms : List Move) → AllByRecursion (λ (o : Opening). In (hashed s wf) (commitment_text_of sid o) × OpeningFits o) (all_openings ms) → Binding (λ o. commitment sha sid o) (all_openings ms)
      binding ms used o p i j v e =
          let a = rec_in _ (all_openings ms) o used (in_from_Contains (all_openings ms) o i) in
          let b = rec_in _ (all_openings ms) p used (in_from_Contains (all_openings ms) p j) in
          ap (λ (z : Opening). z.value) (one_opening sid sid o p long long a.1 b.1 (same_text_same (commitment_text_of sid o) (commitment_text_of sid p) a.0 b.0 e)).1

      pub known : SessionInRun sha s sid first.cast g wf (Own sha s)
      known = record {
        is_hash = hash;
        of_cast = λ xs own. record {
          is_hash = hash;
          is_graph = the_program.is_graph;
          accepted = the_program.accepted;
          is_version = (first.fits).version;
          long_sid = long;
          names_differ = first.differ;
          programs_of = prog xs own;
          one_cast = the_cast;
        };
        programs = are_programs sha s;
        unforged = premises.unforged;
      }

      pub begins : Progress known w0
      begins = record {
        moves = [];
        may = tt;
        nodes = λ who p e. let i = found_in (λ (p : Past). bytes_eq p.keys.me who) ps p e in record {
          own = is_course.own p i;
          ok = subst (NodeOk (known.of_cast p.programs (is_course.own p i)) s (Left known) (V.at_first (shape g)) who) (sym (node_begins p i)) (fresh who p i (same_bytes p.keys.me who (find_passes (λ (p : Past). bytes_eq p.keys.me who) ps p e)));
          honest = is_course.honest who p e;
          live = subst (λ (n : Node). AllByRecursion IsSession n.live) (sym (node_begins p i)) tt;
        };
        noted = λ l nt i j. absurd i;
        events = refl;
        typed = tt;
        used = tt;
      }
        where
          fresh : (who : Name) (p : Past) (i : In ps p) → p.keys.me ≡ who → NodeOk (known.of_cast p.programs (is_course.own p i)) s (Left known) (V.at_first (shape g)) who (new_node p.keys p.programs p.first)
          fresh who p i e = record { me = e; has_programs = refl; lengths = tt; status = inl record { alone = refl; all = λ h q l. record { none = refl; start = refl } } }

      pub first_moves : begins.moves ≡ []
      unfolding begins
      first_moves = refl

      found_graph : (y : Graph) × (graph_with sha s.graphs first.cast.graph ≡ Some y)
      found_graph = find_some (λ z. bytes_eq (graph_digest sha z) first.cast.graph) s.graphs g (first.own).1 ((bytes_eq-Decides (graph_digest sha g) first.cast.graph).1 (sym the_program.digest ∙ first.digest))

      pub graph_is : graph_with sha s.graphs first.cast.graph ≡ Some g
      graph_is = found_graph.1 ∙ ap (λ z. Some z) (same_digest found_graph.0 g (found_in _ s.graphs found_graph.0 found_graph.1) (first.own).1
          (same_bytes (graph_digest sha found_graph.0) first.cast.graph (find_passes (λ z. bytes_eq (graph_digest sha z) first.cast.graph) s.graphs found_graph.0 found_graph.1) ∙ sym first.digest ∙ the_program.digest))

      pub explained : IsExplained sha s wf sid
      explained =
          let q : Progress known wf = all_moves known w0 1 begins course is_course.right refl in
          let f : Followed (shape g) (honest_role s first.cast) commit q.moves = followed (shape g) (honest_role s first.cast) commit q.moves (the_program.accepted).sighted (binding q.moves q.used) q.may in
          record {
            cast = first.cast;
            is_cast = first.is_cast;
            graph = g;
            is_graph = graph_is;
            steps = steps_of f.steps;
            path = one_path g (honest_role s first.cast) commit q.moves (events_of sid wf.log) the_program.is_graph f q.events q.typed;
          }
