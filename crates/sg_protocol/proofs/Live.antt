-- The live sessions of any node are sound.
use Rattle.std.specs.Prelude.{◌≡◌, ◌≢◌, ℕ, ◌<◌, ◌==◌, ◌&&◌, true, false, List, [], ◌∷◌, map, length, bytes_eq, refl, Some, None, IfSome, IsSomeAnd}
use Rattle.std.specs.List.{AllByRecursion}
use Rattle.std.proofs.Common.{sym, ◌∙◌, ap, subst, arith}
use Rattle.std.proofs.lemmas.Bool.{eqb-true, and_parts}
use Rattle.std.proofs.lemmas.List.Elements.{All-from_recursion, recursion_from_All}
use Rattle.sg_model.specs.Last.{Map, last}
use Rattle.sg_model.specs.Lists.{first_some, rises_from}
use Rattle.sg_model.specs.Shape.{role_at}
use Rattle.sg_model.specs.Values.{Value, Opening}
use Rattle.sg_model.proofs.Small.{clash}
use Rattle.sg_model.proofs.Members.{rec_in}
use Rattle.sg_model.proofs.LastOf.{eqb_same}
use Rattle.sg_model.proofs.Finding.{find_passes}
use Rattle.sg_protocol.specs.Graph.{shape, writes}
use Rattle.sg_protocol.specs.Evidence.{View}
use Rattle.sg_protocol.specs.Frame.{Cast, Item, Frame, IsCastOf}
use Rattle.sg_protocol.specs.Spelling.{HasSpelling}
use Rattle.sg_protocol.specs.Texts.{Hash, IsHash, session_id, session_text_of}
use Rattle.sg_protocol.specs.Keyring.{Keyring, Program}
use Rattle.sg_protocol.specs.Session.{Session, Took, Gave, new_session, extended, origin, at_turn}
use Rattle.sg_protocol.specs.Sending.{own_item, frame_sent}
use Rattle.sg_protocol.specs.Kept.{kept}
use Rattle.sg_protocol.specs.Calls.{Call, Start, Act, Abandon, Deliver}
use Rattle.sg_protocol.specs.Node.{Node, program_for, is_for}
use Rattle.sg_protocol.specs.Verdict.{seen, rows_of_session}
use Rattle.sg_protocol.specs.Acting.{openings_for, rows_of_act, leaves, answer}
use Rattle.sg_protocol.specs.NodeAfter.{node_after}
use Rattle.sg_protocol.specs.Past.{AnsweredCall, node_after_all, new_node, node_of, AreAnswers}
use Rattle.sg_protocol.specs.IsSchedule.{IsProgram}
use Rattle.sg_protocol.specs.Bounds.{IsSession, IsShortFrame}
use Rattle.sg_protocol.specs.Following.{FollowsWalk}
use Rattle.sg_protocol.specs.Ranges.{IsCast, AreValues, IsCallInRange}
use Rattle.sg_protocol.specs.Representation.{EndsWithOwn, EndsWithOther}
use Rattle.sg_protocol.specs.Live.{IsSound, IsLive, SessionsAreSound, NodesAreSound}
use Rattle.sg_protocol.proofs.Acts as C
use Rattle.sg_protocol.proofs.Bridge.{has_view-Contains}
use Rattle.sg_protocol.proofs.Entries.{not_start}
use Rattle.sg_protocol.proofs.Enough.{below_reads}
use Rattle.sg_protocol.proofs.First.{programs_after}
use Rattle.sg_protocol.proofs.Following.{new_follows, not_me, own_part_now, waits_now, gives_follows, turn_later, other_later, takes_follows}
use Rattle.sg_protocol.proofs.Moves.{writes_below}
use Rattle.sg_protocol.proofs.Nodes.{Begun, ActSent, NextTaken, JoinTaken, start_all, abandon_all, act_all, deliver_all}
use Rattle.sg_protocol.proofs.OwnItem.{own_item_is_last}
use Rattle.sg_protocol.proofs.Paths.{writes_rise}
use Rattle.sg_protocol.proofs.Ranges.{new_in_range, extended_in_range, taken_in_range, joined_in_range, GivesInRange, gives_in_range}
use Rattle.sg_protocol.proofs.ReadBack.{read-SpellsFrame}
use Rattle.sg_protocol.proofs.Takes.{Rows, rows_of}
use Rattle.sg_protocol.proofs.NoRows.{found_for, starter_found}

-- ---- sessions

pub new_sound : (sha : Hash) (p : Program) (s : Session) → s.exchanges ≡ [] → IsSession s → (s.cast).graph ≡ p.digest → s.role ≡ p.role → IsSound sha p s
new_sound sha p s e h g r = record {
  graph = g;
  role = r;
  in_range = h;
  follows = subst (λ x. FollowsWalk sha p.graph s.sid s.role (at_turn p.graph s) (kept p.graph (record s { exchanges = x }))) (sym e) (new_follows sha p.graph s.sid s.cast s.role (at_turn p.graph s));
  ends_at_turn = λ _. subst (λ x. EndsWithOther (record s { exchanges = x })) (sym e) tt;
  ends_waiting = λ _. subst (λ x. EndsWithOwn (record s { exchanges = x })) (sym e) refl;
}

pub record GivesSound (sha : Hash) (keys : Keyring) (p : Program) (s : Session) (label : ℕ) (written : List Opening) : Type 0 where
  pub own_last : last (frame_sent sha keys p s label written).items ≡ Some (own_item sha keys p s label written)
  pub short : IsShortFrame (frame_sent sha keys p s label written)
  pub sound : IsSound sha p (extended s (Gave (own_item sha keys p s label written) written))
  pub waits : at_turn p.graph (extended s (Gave (own_item sha keys p s label written) written)) ≡ false

pub gives_sound : (sha : Hash) → IsHash sha → (keys : Keyring) (p : Program) (s : Session) (label : ℕ) (values : Map Value) (confounders : List (List ℕ)) → IsProgram sha p → IsSound sha p s →
    first_some (rows_of_act p s label values) ≡ None → AreValues values confounders → GivesSound sha keys p s label (openings_for values confounders)
gives_sound sha hash keys p s label values confounders ip so none good =
    let written : List Opening = openings_for values confounders in
    let rs : C.ActRows p.graph s label values = C.act_rows p s label values none in
    let leave : leaves p.graph s label ≡ true = rw (rs.edge, rs.leaves) (eqb_same _) in
    let r : GivesInRange sha keys p s label written = gives_in_range sha hash keys p s label values confounders ip so.in_range none good in
    let i : Item = own_item sha keys p s label written in
    let wait : at_turn p.graph (extended s (Gave i written)) ≡ false = waits_now sha p.graph ip.accepted s label rs.turn leave written i refl refl in
    record {
      own_last = own_item_is_last sha keys p s label written (not_me sha p.graph ip.accepted s label rs.turn leave) (so.ends_at_turn rs.turn) (ap (rises_from 0) r.names ∙ writes_rise p.graph ip.is_graph label)
          (below_reads (length p.graph.variables) written (writes p.graph label) r.names (writes_below p.graph ip.is_graph label));
      short = r.short;
      sound = record {
        graph = so.graph;
        role = so.role;
        in_range = extended_in_range s (Gave i written) so.in_range (r.own, tt) r.openings;
        follows = gives_follows sha p.graph ip.accepted s label rs.turn leave ip.is_graph so.follows written r.names i refl refl refl;
        ends_at_turn = λ t. clash (at_turn p.graph (extended s (Gave i written))) t wait;
        ends_waiting = λ _. own_part_now sha p.graph ip.accepted s label rs.turn leave written i refl refl;
      };
      waits = wait;
    }

-- a frame for a session that ends with an own item
pub taken_sound : (sha : Hash) (keys : Keyring) (p : Program) (s : Session) (f : Frame) → IsProgram sha p → (s.cast).graph ≡ p.digest → s.role ≡ p.role → IsSession s → FollowsWalk sha p.graph s.sid s.role false (kept p.graph s) → EndsWithOwn s →
    HasSpelling f → f.version ≡ (s.cast).version → first_some (rows_of_session sha keys p s f) ≡ None → IsSound sha p (extended s (Took f)) × (at_turn p.graph (extended s (Took f)) ≡ true)
taken_sound sha keys p s f ip g r h fo own_ sp v none =
    let rows : Rows sha keys p s f = rows_of sha keys p s f none in
    let turn : at_turn p.graph (extended s (Took f)) ≡ true = turn_later sha keys p ip s f (sym r) rows in (
      record {
        graph = g;
        role = r;
        in_range = taken_in_range s f h sp v;
        follows = takes_follows sha keys p ip s f (sym r) rows own_ fo;
        ends_at_turn = λ _. other_later sha keys p ip s f (sym r) rows;
        ends_waiting = λ w. clash (at_turn p.graph (extended s (Took f))) turn w;
      },
      turn,
    )

takes_sound : (sha : Hash) (keys : Keyring) (p : Program) (s : Session) (f : Frame) → IsProgram sha p → IsSound sha p s → at_turn p.graph s ≡ false → HasSpelling f → f.version ≡ (s.cast).version → first_some (rows_of_session sha keys p s f) ≡ None →
    IsSound sha p (extended s (Took f)) × (at_turn p.graph (extended s (Took f)) ≡ true)
takes_sound sha keys p s f ip so wait sp v none = taken_sound sha keys p s f ip so.graph so.role so.in_range (subst (λ t. FollowsWalk sha p.graph s.sid s.role t (kept p.graph s)) wait so.follows) (so.ends_waiting wait) sp v none

joins_sound : (sha : Hash) (keys : Keyring) (p : Program) (f : Frame) (c : Cast) → IsProgram sha p → HasSpelling f → f.join ≡ Some c → c.graph ≡ p.digest → f.receiver ≡ p.role → first_some (rows_of_session sha keys p (new_session f.sid c f.receiver) f) ≡ None →
    IsSound sha p (extended (new_session f.sid c f.receiver) (Took f)) × (at_turn p.graph (extended (new_session f.sid c f.receiver) (Took f)) ≡ true)
joins_sound sha keys p f c ip sp e g r none =
    let co : IsCastOf f.version c = subst (λ o. IfSome o (IsCastOf f.version)) e sp.fields.join in
    taken_sound sha keys p (new_session f.sid c f.receiver) f ip g r (joined_in_range f c sp e) (new_follows sha p.graph f.sid c f.receiver false) refl sp (sym co.version) none

not_at_start : (sha : Hash) (keys : Keyring) (p : Program) (s : Session) (f : Frame) → IsProgram sha p → s.role ≡ p.role → origin s ≡ None → first_some (rows_of_session sha keys p s f) ≡ None → role_at (shape p.graph) 0 ≢ s.role
not_at_start sha keys p s f ip r o none at =
    let rows : Rows sha keys p s f = rows_of sha keys p s f none in
    let v : View = record { origin = origin s; items = map seen f.items } in
    not_start p.graph p.role v ((ip.views.each v).0 (has_view-Contains p.views v rows.viewed)) o (at ∙ r)

pub sessions_are_sound : (sha : Hash) → IsHash sha → SessionsAreSound sha
sessions_are_sound sha hash = record {
  begins = λ p sid c ip b h g. new_sound sha p (new_session sid c p.role) refl (new_in_range sid c p.role b h (role_in sha p ip)) g refl;
  gives = λ keys p s label values confounders ip so none good. let r = gives_sound sha hash keys p s label values confounders ip so none good in (r.own_last, r.short, r.sound, r.waits);
  takes = takes_sound sha;
  joins = joins_sound sha;
  not_at_start = not_at_start sha;
}
  where
    role_in : (sha : Hash) (p : Program) → IsProgram sha p → p.role < 16
    role_in sha p ip = let a = ip.role in let b = ip.is_graph.sizes.0 in omega (arith, a, b)

-- ---- nodes

module _ (sha : Hash) (hash : IsHash sha) (n : Node) (programs : AllByRecursion (IsProgram sha) n.programs) where
  abbrev Live : Session → Type 0
  Live s = IsLive sha n.programs s

  live_at : (s : Session) (p : Program) → program_for n.programs (s.cast).graph s.role ≡ Some p → Live s → IsSound sha p s
  live_at s p q h = subst (λ o. IsSomeAnd o (λ p. IsSound sha p s)) q h

  at_live : (s : Session) (p : Program) → program_for n.programs (s.cast).graph s.role ≡ Some p → IsSound sha p s → Live s
  at_live s p q h = subst (λ o. IsSomeAnd o (λ p. IsSound sha p s)) (sym q) h

  pub start_sound : (c : Cast) → IsCast c → (p : Program) → Begun sha n c p → IsLive sha n.programs (new_session (session_id sha c) c p.role)
  start_sound c h p b =
      let is = starter_found n.programs c.graph p b.found in
      let ip : IsProgram sha p = rec_in (IsProgram sha) n.programs p programs is.there in
      let s : Session = new_session (session_id sha c) c p.role in
      at_live s p is.meant (new_sound sha p s refl (new_in_range (session_id sha c) c p.role (hash (session_text_of c)) h (role_in p ip)) (sym is.digest_is) refl)
    where
      role_in : (p : Program) → IsProgram sha p → p.role < 16
      role_in p ip = let a = ip.role in let b = ip.is_graph.sizes.0 in omega (arith, a, b)

  pub join_sound : (f : Frame) (c : Cast) → HasSpelling f → f.join ≡ Some c → JoinTaken sha n f c → IsLive sha n.programs (extended (new_session f.sid c f.receiver) (Took f))
  join_sound f c sp e t =
      let q = found_for sha n.programs programs c.graph f.receiver t.p t.found_p in
      at_live (extended (new_session f.sid c f.receiver) (Took f)) t.p t.found_p (joins_sound sha n.keys t.p f c q.is_program sp e q.digest_is q.role_is t.rows).0

  module _ (live : AllByRecursion (IsLive sha n.programs) n.live) where
    act_sound : (sid0 : List ℕ) (label : ℕ) (values : Map Value) (confs : List (List ℕ)) → AreValues values confs → (f : Frame) (a : ActSent sha n sid0 label values confs f) → Live a.x → IfSome (last f.items) (λ i. Live (extended a.x (Gave i (openings_for values confs))))
    act_sound sid0 label values confs good f a h =
        let r = gives_sound sha hash n.keys a.p a.x label values confs (found_for sha n.programs programs (a.x).cast.graph (a.x).role a.p a.found_p).is_program (live_at a.x a.p a.found_p h) a.rows good in
        let own_last : last f.items ≡ Some (own_item sha n.keys a.p a.x label (openings_for values confs)) = ap (λ (z : Frame). last z.items) (sym a.its) ∙ r.own_last in
        subst (λ o. IfSome o (λ i. Live (extended a.x (Gave i (openings_for values confs))))) (sym own_last)
        (at_live (extended a.x (Gave (own_item sha n.keys a.p a.x label (openings_for values confs)) (openings_for values confs))) a.p a.found_p r.sound)

    next_sound : (f : Frame) (s : Session) → HasSpelling f → NextTaken sha n f s → Live s → Live (extended s (Took f))
    next_sound f s sp t h =
        let v : s.cast.version ≡ f.version = eqb-true s.cast.version f.version (and_parts (bytes_eq s.sid f.sid && (s.role == f.receiver)) (s.cast.version == f.version) (find_passes (is_for f) n.live s t.found)).1 in
        at_live (extended s (Took f)) t.p t.found_p (takes_sound sha n.keys t.p s f (found_for sha n.programs programs s.cast.graph s.role t.p t.found_p).is_program (live_at s t.p t.found_p h) t.waits sp (sym v) t.rows).0

    pub node_sound : (c : Call) → IsCallInRange c → AllByRecursion (IsLive sha n.programs) (node_after n c (answer sha n c)).live
    node_sound (Start c) h = start_all sha n (IsLive sha n.programs) live c (start_sound c h)
    node_sound (Act sid0 label values confs) h = act_all sha n (IsLive sha n.programs) live sid0 label values confs (act_sound sid0 label values confs h)
    node_sound (Abandon sid0) h = abandon_all sha n (IsLive sha n.programs) live sid0
    node_sound (Deliver bs) h = deliver_all sha n (IsLive sha n.programs) live bs (λ f s rd. next_sound f s (read-SpellsFrame bs f h rd).is_frame) (λ f c rd. join_sound f c (read-SpellsFrame bs f h rd).is_frame)

pub all_sound : (sha : Hash) → IsHash sha → (ps : List Program) → AllByRecursion (IsProgram sha) ps → (n : Node) → n.programs ≡ ps → AllByRecursion (IsLive sha ps) n.live → (cs : List AnsweredCall) → AllByRecursion (λ (c : AnsweredCall). IsCallInRange c.call) cs → AreAnswers sha n cs →
    AllByRecursion (IsLive sha ps) (node_after_all n cs).live
all_sound sha hash ps ip n e live [] good its = live
all_sound sha hash ps ip n e live (c ∷ cs) good its =
    let next : Node = node_after n c.call c.answer in
    let same : next.programs ≡ ps = programs_after n c.call c.answer ∙ e in
    let one : AllByRecursion (IsLive sha ps) (node_after n c.call (answer sha n c.call)).live =
    subst (λ z. AllByRecursion (IsLive sha z) (node_after n c.call (answer sha n c.call)).live) e (node_sound sha hash n (subst (AllByRecursion (IsProgram sha)) (sym e) ip) (subst (λ z. AllByRecursion (IsLive sha z) n.live) (sym e) live) c.call good.0) in
    all_sound sha hash ps ip next same (subst (λ a. AllByRecursion (IsLive sha ps) (node_after n c.call a).live) (sym its.0) one) cs good.1 its.1

pub nodes_are_sound : (sha : Hash) → IsHash sha → NodesAreSound sha
nodes_are_sound sha hash = record {
  after_call = λ n c programs live h. All-from_recursion (IsLive sha n.programs) (node_after n c (answer sha n c)).live (node_sound sha hash n (recursion_from_All (IsProgram sha) n.programs programs) (recursion_from_All (IsLive sha n.programs) n.live live) c h);
  in_pasts = λ past programs good its. All-from_recursion (IsLive sha past.programs) (node_of past).live
      (all_sound sha hash past.programs (recursion_from_All (IsProgram sha) past.programs programs) (new_node past.keys past.programs past.first) refl tt past.calls (recursion_from_All (λ (c : AnsweredCall). IsCallInRange c.call) past.calls good) its);
}
