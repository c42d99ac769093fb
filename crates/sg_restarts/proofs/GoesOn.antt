-- Sessions go on over restarts.
use Rattle.std.specs.Prelude.{◌≡◌, ◌⊎◌, ℕ, zero, suc, ◌<◌, ◌+◌, true, false, List, [], ◌∷◌, map, find, length, bytes_eq, get_or, refl, Option, Some, None, All}
use Rattle.std.specs.Option.{option_map_or}
use Rattle.std.proofs.Common.{sym, ◌∙◌, ap, subst, inl, inr, arith}
use Rattle.std.proofs.lemmas.Bool.{cases_Bool, or_right}
use Rattle.sg_model.specs.Last.{last}
use Rattle.sg_model.specs.Lists.{has_text}
use Rattle.sg_model.specs.Names.{Name}
use Rattle.sg_model.specs.Limits.{most_joins, most_live}
use Rattle.sg_model.specs.Shape.{role_at, end_of}
use Rattle.sg_model.proofs.Small.{same_bytes, bytes_same}
use Rattle.sg_model.proofs.Members.{In, in_from_Contains, contains_from_in, in_parts}
use Rattle.sg_protocol.specs.Frame.{Cast, Item}
use Rattle.sg_protocol.specs.Graph.{Graph, shape}
use Rattle.sg_protocol.specs.Spelling.{spelling}
use Rattle.sg_protocol.specs.Texts.{Hash, IsHash}
use Rattle.sg_protocol.specs.Keyring.{Program}
use Rattle.sg_protocol.specs.Session.{Session, principal}
use Rattle.sg_protocol.specs.Calls.{Act, Abandon, Deliver, Abandoned, Happened}
use Rattle.sg_protocol.specs.Node.{Node, session_with, program_for, stranger}
use Rattle.sg_protocol.specs.Acting.{answer, sent}
use Rattle.sg_protocol.specs.Past.{Past, node_of}
use Rattle.sg_protocol.specs.Schedule.{Schedule, NamedSession, Step, is_honest}
use Rattle.sg_protocol.specs.World.{World, past_of, new_world}
use Rattle.sg_protocol.specs.Run.{world_after, run}
use Rattle.sg_protocol.specs.Completeness.{IsAwaited}
use Rattle.sg_protocol.specs.GoesOn.{place_in, IsAtEnd, WasAbandoned, CanAct, IsUnderWay}
use Rattle.sg_protocol.specs.IsSchedule.{IsSchedule, AreCompiled}
use Rattle.sg_protocol.specs.LastSteps.{honest_items}
use Rattle.sg_protocol.specs.Restarts.{StepOrRestart, Stepped, Restarted, live_of, world_restarted, run_with_restarts, IsStepOrRestart, dropped, without_restarts}
use Rattle.sg_protocol.proofs.Awaited.{sessions_go_on}
use Rattle.sg_protocol.proofs.Moved.{more, frame_same_at}
use Rattle.sg_protocol.proofs.OverRestarts.{cast_same, premises_same}
use Rattle.sg_protocol.proofs.Restarts.{Same, same_frames, plain, same_runs, is_plain}
use Rattle.sg_protocol.proofs.Whole.{honest_inside}
use Rattle.sg_restarts.specs.Dropped.{drops, WasDropped, WasDroppedByOne}
use Rattle.sg_restarts.specs.OverRestarts.{SessionsGoOnOverRestarts}
use Rattle.sg_restarts.proofs.Logs.{items_more, answer_there, sent_back, past_there}
use Rattle.sg_restarts.proofs.Owns.{names, names_after, names_restarted}
use Rattle.sg_restarts.proofs.Drops.{abandoned_or_dropped}

-- ---- whether one was dropped

abbrev Drops : Type 0
Drops = List (Name × List ℕ)

in_or_not : (ds : Drops) (who : Name) (sid : List ℕ) → In ds (who, sid) ⊎ (In ds (who, sid) → ⊥)
in_or_not [] who sid = inr (λ i. i)
in_or_not (d ∷ ds) who sid = elim (in_or_not ds who sid) [
  | inl i ↦ inl (inr i)
  | inr n ↦ elim (cases_Bool (bytes_eq who d.0)) [
    | inl e ↦ elim (cases_Bool (bytes_eq sid d.1)) [
      | inl f ↦ inl (inl (let a : who ≡ d.0 = same_bytes who d.0 e in let b : sid ≡ d.1 = same_bytes sid d.1 f in λ i. (a i, b i)))
      | inr f ↦ inr (λ i. elim i [ inl q ↦ absurd (let z : true ≡ false = sym (bytes_same sid d.1 (ap (λ (p : Name × List ℕ). p.1) q)) ∙ f in cc) | inr j ↦ n j ])
    ]
    | inr e ↦ inr (λ i. elim i [ inl q ↦ absurd (let z : true ≡ false = sym (bytes_same who d.0 (ap (λ (p : Name × List ℕ). p.0) q)) ∙ e in cc) | inr j ↦ n j ])
  ]
]

-- one of these was dropped, or none
one_or_none : (ds : Drops) (sid : List ℕ) (ns : List Name) → ((r : ℕ) × (r < length ns) × In ds (get_or ns r [], sid)) ⊎ ((r : ℕ) → r < length ns → In ds (get_or ns r [], sid) → ⊥)
one_or_none ds sid [] = inr (λ r l i. absurd (omega (arith, l)))
one_or_none ds sid (n ∷ ns) = elim (in_or_not ds n sid) [
  | inl i ↦ inl (0, omega arith, i)
  | inr none ↦ elim (one_or_none ds sid ns) [
    | inl h ↦ inl (suc h.0, (let l = h.1 in omega (arith, l)), h.2)
    | inr h ↦ inr (λ r l i. later none h r l i)
  ]
]
  where
    later : (In ds (n, sid) → ⊥) → ((r : ℕ) → r < length ns → In ds (get_or ns r [], sid) → ⊥) → (r : ℕ) → r < length (n ∷ ns) → In ds (get_or (n ∷ ns) r [], sid) → ⊥
    later none h zero l i = none i
    later none h (suc r) l i = h r (omega (arith, l)) i

-- ---- who drops is honest

named : (who : Name) (ps : List Past) (p : Past) → find (λ p. bytes_eq p.keys.me who) ps ≡ Some p → has_text who (names ps) ≡ true
named who [] p e = absurd (cc)
named who (x ∷ ps) p e = elim (cases_Bool (bytes_eq x.keys.me who)) [
  | inl h ↦ rw (bytes_same who x.keys.me (sym (same_bytes x.keys.me who h))) refl
  | inr h ↦ or_right (bytes_eq who x.keys.me) (has_text who (names ps)) (named who ps p (rw h at e))
]

-- the principal with the sids of these sessions
abbrev sids : Name → List Session → Drops
sids me xs = map (λ x. (me, x.sid)) xs

has_live : (w : World) (me who : Name) (sid : List ℕ) → In (sids me (live_of w me)) (who, sid) → has_text who (names w.pasts) ≡ true
has_live w me who sid i = go (past_of w me) refl i
  where
    first : (xs : List Session) → In (sids me xs) (who, sid) → who ≡ me
    first [] i = absurd i
    first (x ∷ xs) (inl q) = ap (λ (p : Name × List ℕ). p.0) q
    first (x ∷ xs) (inr j) = first xs j

    go : (o : Option Past) → past_of w me ≡ o → In (sids me (option_map_or (λ (p : Past). (node_of p).live) o [])) (who, sid) → has_text who (names w.pasts) ≡ true
    go None e i = absurd i
    go (Some p) e i = subst (λ n. has_text n (names w.pasts) ≡ true) (sym (first (node_of p).live i)) (named me w.pasts p e)

drops_named : (sha : Hash) (s : Schedule) (xs : List StepOrRestart) (w : World) (k : ℕ) (who : Name) (sid : List ℕ) → In (drops sha s w k xs) (who, sid) → has_text who (names w.pasts) ≡ true
drops_named sha s [] w k who sid i = absurd i
drops_named sha s (Stepped x ∷ xs) w k who sid i = subst (λ ns. has_text who ns ≡ true) (names_after sha s w k x) (drops_named sha s xs (world_after sha s w k x) (k + 1) who sid i)
drops_named sha s (Restarted me ∷ xs) w k who sid i = elim (in_parts (sids me (live_of w me)) (drops sha s (world_restarted w me) (k + length (live_of w me)) xs) (who, sid) i) [
  | inl j ↦ has_live w me who sid j
  | inr j ↦ subst (λ ns. has_text who ns ≡ true) (names_restarted w me) (drops_named sha s xs (world_restarted w me) (k + length (live_of w me)) who sid j)
]

names_new : (programs : List Program) (s : Schedule) → names (new_world programs s).pasts ≡ s.honest
names_new programs s = go s.honest
  where
    go : (ns : List Name) → names (new_world programs (record s { honest = ns })).pasts ≡ ns
    go [] = refl
    go (n ∷ ns) = ap (λ l. n ∷ l) (go ns)

-- ---- the one at its turn, and the frame under way

module _ (sha : Hash) (s : Schedule) (es : List NamedSession) (ys : List Step) (w w' : World) (same : Same w w') (sid : List ℕ) (cast : Cast) where
  items_same : honest_items sid w.log ≡ honest_items sid w'.log
  items_same = items_more sid w'.log w.log same.log

  can_act : (g : Graph) → CanAct sha w' cast g sid → CanAct sha w cast g sid
  can_act g c =
      let there : (q : Past) × (past_of w c.who ≡ Some q) × (c.past.keys ≡ q.keys) × (node_of c.past ≡ node_of q) = past_there w'.pasts w.pasts (sym same.nodes) c.who c.past c.is_past in
      let place : place_in g sid w.log ≡ place_in g sid w'.log = ap (λ is. end_of (shape g) 0 (map (λ (i : Item). i.label) is)) items_same in
      let node : node_of there.0 ≡ node_of c.past = sym there.3 in
      record {
        who = c.who;
        has_turn = ap (λ n. principal cast (role_at (shape g) n)) place ∙ c.has_turn;
        past = there.0;
        is_past = there.1;
        session = c.session;
        is_live = ap (λ (n : Node). session_with n.live sid) node ∙ c.is_live;
        program = c.program;
        is_program = ap (λ (n : Node). program_for n.programs c.session.cast.graph c.session.role) node ∙ c.is_program;
        sends = λ label values confounders is_edge leaves right early.
            ap (λ (n : Node). answer sha n (Act sid label values confounders)) node
            ∙ c.sends label values confounders is_edge (leaves ∙ place) right early
            ∙ sym (ap (λ (n : Node). sent sha n.keys c.program c.session label values confounders) node);
      }

  under_way : IsUnderWay sha (more sha s es ys) w' cast sid → IsUnderWay sha s w cast sid
  under_way u = record {
    number = u.number;
    who = u.who;
    frame = u.frame;
    recorded = frame_same_at sha s es ys w w' (same_frames w w' same) u.number ∙ u.recorded;
    is_sent = sent_back w w' same (spelling u.frame) u.who u.frame u.is_sent;
    of_session = u.of_session;
    receiver = u.receiver;
    newest = u.newest ∙ ap last (sym items_same);
    not_taken = λ e h. u.not_taken e (answer_there w w' same u.who (Deliver (spelling u.frame)) (Happened e) h);
    awaited = λ past its_past covered room.
        let there : (q : Past) × (past_of w' u.who ≡ Some q) × (past.keys ≡ q.keys) × (node_of past ≡ node_of q) = past_there w.pasts w'.pasts same.nodes u.who past its_past in
        let a : IsAwaited sha (more sha s es ys) w' u.number u.who there.0 u.frame = u.awaited there.0 there.1 (ap (λ k. stranger k cast) (sym there.2) ∙ covered)
        (λ j. subst (λ (n : Node). (length n.joins < most_joins) × (length n.live < most_live)) there.3 (room j)) in
        record {
          bytes = a.bytes;
          recorded = frame_same_at sha s es ys w w' (same_frames w w' same) u.number ∙ a.recorded;
          sent = sent_back w w' same a.bytes u.who u.frame a.sent;
          cast = a.cast;
          is_cast = cast_same w w' same u.frame.sid ∙ a.is_cast;
          all_honest = a.all_honest;
          covered = ap (λ k. stranger k a.cast) there.2 ∙ a.covered;
          not_taken = λ e h. a.not_taken e (answer_there w w' same u.who (Deliver a.bytes) (Happened e) h);
          not_left = λ h. a.not_left (answer_there w w' same u.who (Abandon u.frame.sid) Abandoned h);
          room = room;
        };
  }

module _ (sha : Hash) (hash : IsHash sha) (programs : List Program) (s : Schedule) (compiled : AreCompiled sha s.graphs programs) (sched : IsSchedule sha s) (xs : List StepOrRestart) (good : All (IsStepOrRestart sha s) xs) where
  abbrev ds : Drops
  ds = drops sha s (new_world programs s) 1 xs

  abbrev w : World
  w = run_with_restarts sha programs s xs

  abbrev more_sessions : List NamedSession
  more_sessions = dropped sha s (new_world programs s) 1 xs

  abbrev its : List Step
  its = (without_restarts sha programs s xs).steps

  abbrev t : Schedule
  t = plain sha hash programs s compiled sched xs good

  abbrev w' : World
  w' = run sha programs t

  same : Same w w'
  same = same_runs sha hash programs s compiled sched xs good

  module _ (sid : List ℕ) (cast : Cast) (none : (r : ℕ) → r < length cast.names → In ds (principal cast r, sid) → ⊥) where
    -- no restart of the receiver dropped it either
    not_one : (u : IsUnderWay sha t w' cast sid) → In ds (u.who, sid) → ⊥
    not_one u i =
        let its_name : has_text u.who s.honest ≡ true = subst (λ ns. has_text u.who ns ≡ true) (names_new programs s) (drops_named sha s xs (new_world programs s) 1 u.who sid i) in
        let inside : u.frame.receiver < length cast.names = honest_inside sha s sched cast u.frame.receiver (subst (λ n. is_honest s n ≡ true) (sym u.receiver) its_name) in
        none u.frame.receiver inside (subst (λ n. In ds (n, sid)) (sym u.receiver) i)

    -- what is one of these cases in the run without restarts is so in the run with them
    brought_back : (g : Graph) → IsAtEnd g sid w'.log ⊎ (WasAbandoned cast sid w'.log ⊎ (CanAct sha w' cast g sid ⊎ IsUnderWay sha t w' cast sid))
        → IsAtEnd g sid w.log ⊎ (WasAbandoned cast sid w.log ⊎ (WasDroppedByOne sha programs s xs cast sid ⊎ (CanAct sha w cast g sid ⊎ ((u : IsUnderWay sha s w cast sid) × (WasDropped sha programs s xs u.who sid → ⊥)))))
    unfolding under_way
    brought_back g (inl e) = inl (λ i l q. e i l (q ∙ ap (λ is. end_of (shape g) 0 (map (λ (i : Item). i.label) is)) (items_more sid w'.log w.log same.log)))
    brought_back g (inr (inl a)) = inr (inl (
      a.0,
      a.1,
      elim (abandoned_or_dropped sha hash programs s xs compiled sched good (principal cast a.0) sid a.2) [
        | inl l ↦ l
        | inr d ↦ absurd (none a.0 a.1 (in_from_Contains ds (principal cast a.0, sid) d))
      ],
    ))
    brought_back g (inr (inr (inl c))) = inr (inr (inr (inl (can_act sha s more_sessions its w w' same sid cast g c))))
    brought_back g (inr (inr (inr u))) = inr (inr (inr (inr (under_way sha s more_sessions its w w' same sid cast u, λ d. not_one u (in_from_Contains ds (u.who, sid) d)))))

pub sessions_go_on_over_restarts : (sha : Hash) → IsHash sha → SessionsGoOnOverRestarts sha
sessions_go_on_over_restarts sha hash programs s xs compiled sched good premises sid cast g is gr honest =
    let pairs : Drops = drops sha s (new_world programs s) 1 xs in
    let one : World = run_with_restarts sha programs s xs in
    let its_steps : List Step = (without_restarts sha programs s xs).steps in
    let p : Schedule = plain sha hash programs s compiled sched xs good in
    let other : World = run sha programs p in
    let alike : Same one other = same_runs sha hash programs s compiled sched xs good in
    elim (one_or_none pairs sid cast.names) [
      | inl d ↦ inr (inr (inl (d.0, d.1, contains_from_in pairs (principal cast d.0, sid) d.2)))
      | inr none ↦ brought_back sha hash programs s compiled sched xs good sid cast none g
          (sessions_go_on sha hash programs p compiled (is_plain sha hash programs s compiled sched xs good) (premises_same one other alike sha s (dropped sha s (new_world programs s) 1 xs) its_steps premises) sid cast g (sym (cast_same one other alike sid) ∙ is) gr honest)
    ]
