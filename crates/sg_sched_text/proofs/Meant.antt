-- What right lines declare is a schedule as the protocol has them.
use Rattle.std.proofs.Common.{◌≡◌, ℕ, zero, suc, ◌<◌, Bool, true, false, ◌&&◌, List, [], ◌∷◌, ◌++◌, map, length, refl, sym, ap, ◌∙◌, subst, arith, if◌then◌else◌, inl, inr, append-nil}
use Rattle.std.specs.Prelude.{Option, Some, None, option_map, option_and_then, bytes_eq, slice_get, nat_lt, nat_le, IsSomeAnd, IsTrue, Contains}
use Rattle.std.specs.List.{list_all, AllByRecursion}
use Rattle.std.specs.Option.{option_map_or}
use Rattle.std.proofs.lemmas.Bool.{leb-false, and_parts, cases_Bool, or_parts}
use Rattle.std.proofs.lemmas.List.{length-map}
use Rattle.std.proofs.lemmas.List.Elements.{All-from_recursion}
use Rattle.std.proofs.lemmas.Option.{slice_get-map, slice_get_within, get_or_from_slice_get}
use Rattle.sg_model.specs.Limits.{most_steps}
use Rattle.sg_model.specs.Bytes.{AreBytes}
use Rattle.sg_model.specs.Lists.{has_text}
use Rattle.sg_model.specs.Names.{Name, is_name}
use Rattle.sg_model.proofs.Small.{bytes_same, all_weaker}
use Rattle.sg_protocol.specs.Graph.{Graph, IsGraph}
use Rattle.sg_protocol.specs.Frame.{Cast, IsCastOf}
use Rattle.sg_protocol.specs.Spelling.{HasSpelling}
use Rattle.sg_protocol.specs.Texts.{real, graph_digest, session_id}
use Rattle.sg_protocol.specs.Session.{new_session}
use Rattle.sg_protocol.specs.Schedule.{PairKey, NamedSession, Schedule, Craft, Step, StartStep, ActStep, AbandonStep, DeliverStep, CraftStep, Whole, Flipped, Cut, Bytes, cast_of, graph_with}
use Rattle.sg_protocol.specs.World.{new_world}
use Rattle.sg_protocol.specs.Crafted.{crafted, crafted_frame}
use Rattle.sg_protocol.specs.IsSchedule.{IsSchedule, IsDeclared, IsPairKey, IsStep}
use Rattle.sg_protocol.proofs.RealHash.{real_hash}
use Rattle.sg_sched.specs.Pair.{edge}
use Rattle.sg_sched.specs.Format.LineContents.{Assignment, LineContent, BlockLine, EdgeLine, HonestLine, KeyLine, SessionLine, StartLine, ActLine, AbandonLine, DeliverLine, MakeLine}
use Rattle.sg_sched.specs.Format.Forms.{is_form, is_assignment, are_names}
use Rattle.sg_sched.specs.Format.Items.{Session, Item, GraphItem, EdgeItem, HonestItem, KeyItem, SessionItem, StepItem, SoFar, so_far, graphs_declared, graph_names, index, session_names, graph_for, labels_of, declared, digest_at}
use Rattle.sg_sched.specs.Format.Numbered.{made_after, values, craft, what_of}
use Rattle.sg_sched.specs.Format.Faults.{knows_variable}
use Rattle.sg_sched.specs.Format.Spells.{Line, Add, Skip, Say, Show, Declare, Nothing, Next, SpellsSchedule}
use Rattle.sg_sched.specs.Format.Values.{bytes_of}
use Rattle.sg_sched_text.specs.Plus.{plus}
use Rattle.sg_sched_text.specs.Whole.{schedule_declared}
use Rattle.sg_sched_text.proofs.CraftSpelled.{nonce_has, index_below}
use Rattle.sg_sched_text.proofs.Growing.{one_more}
use Rattle.sg_sched_text.proofs.RightLines.{IsRight, right, in_group}
use Rattle.sg_sched_text.proofs.SessionsDeclared.{HasFewRoles, IsOf, Sound, sound, statement_more, graph_more}
use Rattle.sg_sched.specs.Format.Kinds.{TooManySteps}
use Rattle.sg_sched_text.specs.Holding.{HasRoles}
use Rattle.sg_sched.specs.Steps.{IsDeclaredIn, CanBeTaken}
use Rattle.sg_sched_text.specs.Meant.{SameDeclared, IsMeant}
use Rattle.sg_sched_text.proofs.MeantParts.{FitsCraft, FitsStep, Meant, graph_meant, edge_meant, honest_meant, key_meant, session_meant, step_meant}
use Rattle.sg_sched_text.proofs.MeantSteps.{values_fit, delivered_fits, session_in, all_graphs, craft_fits}

-- ---- all lines

-- there is room for a step
room : (n : ℕ) → (if nat_le most_steps n then Some TooManySteps else None) ≡ None → n < most_steps
room n h = by (nat_le most_steps n) refl h
  where
    by : (b : Bool) → nat_le most_steps n ≡ b → (if b then Some TooManySteps else None) ≡ None → n < most_steps
    by true e h = absurd (cc)
    by false e h = leb-false most_steps n e

statement_meant : (p : SoFar) (m : Meant p) (statement : LineContent) (i : Item) → is_form statement ≡ true → IsRight p statement → made_after p statement ≡ Some i → Meant (plus p i)
statement_meant p m statement i form r e = by statement form r e (statement_more p m.sound statement i form r e)
  where
    act_form : (who session label : Name) (vs : List Assignment) → is_form (ActLine who session label vs) ≡ true → list_all is_assignment vs ≡ true
    act_form who session label vs h = (and_parts (are_names (who ∷ session ∷ label ∷ [])) (list_all is_assignment vs) h).1

    step : (s : Step) → StepItem s ≡ i → (if nat_le most_steps (length p.steps) then Some TooManySteps else None) ≡ None → FitsStep p.sessions s → Sound (plus p i) → Meant (plus p i)
    step s same few fits sound = subst (λ i. Meant (plus p i)) same (step_meant p m s (room (length p.steps) few) fits (subst (λ i. Sound (plus p i)) (sym same) sound))

    -- the index of a session that is declared
    there : (session : Name) → has_text session (session_names p) ≡ true → index session (session_names p) < length p.sessions
    there session h = let l = length-map p.sessions (λ (s : Session). s.name) in index_below session (session_names p) (length p.sessions) (omega (arith, l)) h

    by : (statement : LineContent) → is_form statement ≡ true → IsRight p statement → made_after p statement ≡ Some i → Sound (plus p i) → Meant (plus p i)
    by BlockLine form r e sound = absurd (cc)
    by (EdgeLine label from to) form r e sound =
        let same : EdgeItem (edge label from to) ≡ i = cc in
        subst (λ i. Meant (plus p i)) same (edge_meant p m label from to form r (subst (λ i. Sound (plus p i)) (sym same) sound))
    by (HonestLine who) form r e sound = let same : HonestItem who ≡ i = cc in subst (λ i. Meant (plus p i)) same (honest_meant p m who form r (subst (λ i. Sound (plus p i)) (sym same) sound))
    by (KeyLine one two digits) form r e sound =
        let k : PairKey = record { one = one; two = two; key = bytes_of digits } in
        let same : KeyItem k ≡ i = cc in
        subst (λ i. Meant (plus p i)) same (key_meant p m one two digits form r k refl (subst (λ i. Sound (plus p i)) (sym same) sound))
    by (SessionLine name graph nonce names version) form r e sound =
        let s : Session = record { name = name; graph = index graph (graph_names (graphs_declared p)); nonce = nonce; names = names; version = version } in
        let same : SessionItem s ≡ i = cc in
        let late = (or_parts (nat_lt 3 p.group) _ r.form).0 in
        subst (λ i. Meant (plus p i)) same (session_meant p m s (in_group p 3 late) (subst (λ i. Sound (plus p i)) (sym same) sound))
    by (StartLine who session) form r e sound = step (StartStep who (index session (session_names p))) (cc) r.few (there session r.known) sound
    by (ActLine who session label vs) form r e sound =
        let g = graph_for session p in
        let known = and_parts (has_text session (session_names p) && has_text label (labels_of g)) (list_all (λ v. knows_variable g v.variable) vs) r.known in
        let session_known = (and_parts (has_text session (session_names p)) (has_text label (labels_of g)) known.0).0 in
        step (ActStep who (index session (session_names p)) (index label (labels_of g)) (values g vs)) (cc) r.few (there session session_known, values_fit g vs (act_form who session label vs form)) sound
    by (AbandonLine who session) form r e sound = step (AbandonStep who (index session (session_names p))) (cc) r.few (there session r.known) sound
    by (DeliverLine who what) form r e sound = step (DeliverStep who (what_of what)) (cc) r.few (delivered_fits p.sessions who what) sound
    by (MakeLine c) form r e sound = step (CraftStep (craft p (graph_for c.session p) c)) (cc) r.few (craft_fits p m c form r) sound

pub meant : {ls : List Line} {items : List Item} → Declare ls items → Meant (so_far items)
meant Nothing = record {
  sound = sound Nothing;
  blocks = tt;
  edges = record { labels = refl; ends = tt; few = omega arith };
  names = refl;
  honest = record { differ = refl; named = refl };
  keys = record { each = tt; apart = λ i j d l k. absurd (omega (arith, l, k)) };
  steps = record { fit = tt; few = omega arith; none_yet = λ h. refl };
}
meant (Next {first = first} {more = more} {items = items} {new = new} d a) = added items more new a (meant d)
  where
    added : (items : List Item) (more : List Line) (new : List Item) → Add items more new → Meant (so_far items) → Meant (so_far (items ++ new))
    added items _ _ (Skip h) m = subst (λ is. Meant (so_far is)) (sym (append-nil items)) m
    added items _ _ (Say {statement = statement} {item = item} says no_fault makes) m =
        subst Meant (sym (one_more items item)) (statement_meant (so_far items) m statement item says.form (right (so_far items) statement no_fault) makes)
    added items _ _ (Show {g = g} b spelled fresh) m =
        let r = right (so_far items) BlockLine b.opened.in_group in
        let early = in_group (so_far items) 0 r.form in
        subst Meant (sym (one_more items (GraphItem g)))
        (graph_meant (so_far items) m g early (graph_more (so_far items) m.sound g early (record { some = spelled.two_roles; few = spelled.is_graph.sizes.0 })) spelled.is_graph fresh)

-- ---- the schedule

cast_at : (gs : List Graph) (ss : List Session) (n : ℕ) (s : Session) → slice_get ss n ≡ Some s
    → option_map (λ (d : NamedSession). d.cast) (slice_get (map (declared real gs) ss) n) ≡ Some ((declared real gs s).cast)
cast_at gs ss n s e = ap (option_map (λ (d : NamedSession). d.cast)) (slice_get-map (declared real gs) ss n ∙ ap (option_map (declared real gs)) e)

digest_is : (gs : List Graph) (i : ℕ) (g : Graph) → slice_get gs i ≡ Some g → digest_at real gs i ≡ graph_digest real g
digest_is gs i g e = ap (λ (o : Option Graph). option_map_or (graph_digest real) o []) e

-- a graph of the digest
graph_there : (gs : List Graph) (i : ℕ) (g : Graph) (digest : List ℕ) → AllByRecursion IsGraph gs → slice_get gs i ≡ Some g → graph_digest real g ≡ digest
    → (h : Graph) × (graph_with real gs digest ≡ Some h) × IsGraph h
graph_there [] i g digest a e d = absurd (cc)
graph_there (x ∷ gs) zero g digest a e d =
    let same : x ≡ g = cc in
    let yes : bytes_eq (graph_digest real x) digest ≡ true = bytes_same (graph_digest real x) digest (ap (graph_digest real) same ∙ d) in
    (x, ap (λ b. if b then Some x else graph_with real gs digest) yes, a.0)
graph_there (x ∷ gs) (suc i) g digest a e d =
    let rest = graph_there gs i g digest a.1 e d in
    elim (cases_Bool (bytes_eq (graph_digest real x) digest)) [
      | inl q ↦ (x, ap (λ b. if b then Some x else graph_with real gs digest) q, a.0)
      | inr q ↦ (rest.0, ap (λ b. if b then Some x else graph_with real gs digest) q ∙ rest.1, rest.2)
    ]

names_held : (ns : List Name) → list_all is_name ns ≡ true → AllByRecursion (λ n. IsTrue (is_name n)) ns
names_held [] h = tt
names_held (n ∷ ns) h = let k = and_parts (is_name n) (list_all is_name ns) h in (k.0, names_held ns k.1)

module _ (p : SoFar) (m : Meant p) where
  abbrev s : Schedule
  s = schedule_declared real p

  abbrev gs : List Graph
  gs = graphs_declared p

  cast_has : (x : Session) → IsOf gs x → IsCastOf x.version ((declared real gs x).cast)
  cast_has x o =
      let c = o.count in
      let some = o.roles.some in
      let few = o.roles.few in
      record {
        version = refl;
        graph = subst (AreBytes 32) (sym (digest_is gs x.graph o.graph o.there)) (real_hash _);
        nonce = nonce_has x.nonce;
        count = (omega (arith, c, some), omega (arith, c, few));
        names = names_held x.names o.names;
      }

  -- with any steps, keys and honest principals beside the graphs and sessions
  module _ (t : Schedule) (graphs : t.graphs ≡ gs) (sessions : t.sessions ≡ map (declared real gs) p.sessions) where
    craft_is : (c : Craft) → FitsCraft p.sessions c → IsSomeAnd (crafted real t (new_world [] t) c) HasSpelling
    craft_is c f =
        let x : Session = f.session in
        let o : IsOf gs x = session_in gs p.sessions c.session x m.sound.sessions f.there in
        let cast : Cast = (declared real gs x).cast in
        let h = graph_there gs x.graph o.graph cast.graph (all_graphs p m) o.there (sym (digest_is gs x.graph o.graph o.there)) in
        let its_cast : cast_of t c.session ≡ Some cast = ap (λ (ds : List NamedSession). option_map (λ (d : NamedSession). d.cast) (slice_get ds c.session)) sessions ∙ cast_at gs p.sessions c.session x f.there in
        let its_graph : graph_with real t.graphs cast.graph ≡ Some h.0 = ap (λ (hs : List Graph). graph_with real hs cast.graph) graphs ∙ h.1 in
        let at : crafted real t (new_world [] t) c ≡ Some (crafted_frame real t (new_world [] t) c h.0 (new_session (session_id real cast) cast c.from)) =
        ap (option_and_then (λ (cast : Cast). option_map (λ g. crafted_frame real t (new_world [] t) c g (new_session (session_id real cast) cast c.from)) (graph_with real t.graphs cast.graph))) its_cast
        ∙ ap (option_map (λ g. crafted_frame real t (new_world [] t) c g (new_session (session_id real cast) cast c.from))) its_graph in
        subst (λ o. IsSomeAnd o HasSpelling) (sym at) (f.spelled [] t h.0 h.2 (new_session (session_id real cast) cast c.from) refl refl (cast_has x o) (real_hash _))

    step_is : (x : Step) → FitsStep p.sessions x → IsStep real t x
    step_is (StartStep who n) f = tt
    step_is (ActStep who n label values) f = f.1
    step_is (AbandonStep who n) f = tt
    step_is (DeliverStep who (Whole n)) f = tt
    step_is (DeliverStep who (Flipped n i)) f = tt
    step_is (DeliverStep who (Cut n i)) f = tt
    step_is (DeliverStep who (Bytes bs)) f = f
    step_is (CraftStep c) f = craft_is c f

    its_session : (n : ℕ) → n < length p.sessions → n < length t.sessions
    its_session n l = let k = ap length sessions in let m = length-map p.sessions (declared real gs) in omega (arith, k, l, m)

    its_declared : (x : Step) → FitsStep p.sessions x → IsDeclaredIn t x
    its_declared (StartStep who n) f = its_session n f
    its_declared (ActStep who n label values) f = its_session n f.0
    its_declared (AbandonStep who n) f = its_session n f
    its_declared (DeliverStep who what) f = tt
    its_declared (CraftStep c) f = its_session c.session (slice_get_within p.sessions c.session f.session f.there)

    can_be_taken : (x : Step) → FitsStep p.sessions x → CanBeTaken t x
    can_be_taken x f = record { declared = its_declared x f; range = step_is x f }

  graph_contained : (hs : List Graph) (i : ℕ) (g : Graph) → slice_get hs i ≡ Some g → Contains hs g
  graph_contained hs i g e = (i, slice_get_within hs i g e, get_or_from_slice_get hs i g g e)

  declared_are : (xs : List Session) → AllByRecursion (IsOf gs) xs → AllByRecursion (IsDeclared real gs) (map (declared real gs) xs)
  declared_are [] a = tt
  declared_are (x ∷ xs) a =
      let o = a.0 in (
        record {
          graph = o.graph;
          is_there = graph_contained gs x.graph o.graph o.there;
          digest = digest_is gs x.graph o.graph o.there;
          count = o.count;
          names = (λ i. o.differ i && o.names i);
          nonce = nonce_has x.nonce;
          version = o.version;
        },
        declared_are xs a.1,
      )

  pub meant_schedule : IsSchedule real s
  meant_schedule = record {
    are_graphs = All-from_recursion IsGraph gs (all_graphs p m);
    graph_names = m.names;
    honest_names = (λ i. m.honest.differ i && m.honest.named i);
    keys = All-from_recursion IsPairKey p.keys m.keys.each;
    pairs = m.keys.apart;
    sessions = All-from_recursion (IsDeclared real gs) (map (declared real gs) p.sessions) (declared_are p.sessions m.sound.sessions);
    steps = All-from_recursion (IsStep real s) p.steps (all_weaker (FitsStep p.sessions) (IsStep real s) (step_is s refl refl) p.steps m.steps.fit);
  }

  pub meant_whole : IsMeant s
  meant_whole = record {
    schedule = meant_schedule;
    roles = All-from_recursion HasRoles gs (all_weaker HasFewRoles HasRoles (λ g h. h.some) gs m.sound.graphs);
    few = m.steps.few;
    steps = All-from_recursion (λ x. (t : Schedule) → SameDeclared s t → CanBeTaken t x) p.steps
        (all_weaker (FitsStep p.sessions) (λ x. (t : Schedule) → SameDeclared s t → CanBeTaken t x) (λ x f t d. can_be_taken t (sym d.graphs) (sym d.sessions) x f) p.steps m.steps.fit);
  }

-- what bytes spell is meant
pub spelled_is_meant : (bytes : List ℕ) (s : Schedule) → SpellsSchedule real bytes s → IsMeant s
spelled_is_meant bytes s h = subst IsMeant h.schedule (meant_whole (so_far h.items) (meant h.declared))

-- ---- what follows
