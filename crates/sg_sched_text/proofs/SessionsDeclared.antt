-- Each session that is declared is of a graph of at least two roles, and has a principal for each of them.
use Rattle.std.proofs.Common.{◌≡◌, ℕ, zero, suc, ◌<◌, ◌≤◌, ◌==◌, Bool, true, false, not, ◌&&◌, ◌||◌, List, [], ◌∷◌, ◌++◌, length, refl, sym, ap, ◌∙◌, subst, arith, if◌then◌else◌, inl, inr, get_or}
use Rattle.std.specs.Prelude.{Option, Some, None, position, bytes_eq, slice_get, nat_lt, nat_le, unwrap_or, is_some}
use Rattle.std.specs.List.{list_all, AllByRecursion}
use Rattle.std.specs.Option.{option_map_or}
use Rattle.std.proofs.lemmas.Bool.{eqb-true, or_parts, not-false}
use Rattle.std.proofs.lemmas.List.{length-map}
use Rattle.std.proofs.lemmas.List.Quantifiers.{position-Some}
use Rattle.std.proofs.lemmas.Option.{slice_get-get_or, slice_get_within}
use Rattle.sg_model.specs.Lists.{has_text, all_differ}
use Rattle.sg_model.specs.Names.{Name, is_name}
use Rattle.sg_model.proofs.Small.{all-append, and_left, and_right}
use Rattle.sg_protocol.specs.Graph.{Graph, Edge}
use Rattle.sg_protocol.specs.TextLaws.{IsVersion}
use Rattle.sg_sched.specs.Pair.{graphs_of, pair_graph, edge}
use Rattle.sg_sched.specs.Format.LineContents.{LineContent, BlockLine, EdgeLine, HonestLine, KeyLine, SessionLine, StartLine, ActLine, AbandonLine, DeliverLine, MakeLine}
use Rattle.sg_sched.specs.Format.Forms.{is_form, is_wide, are_names}
use Rattle.sg_sched.specs.Format.Items.{Session, Item, GraphItem, EdgeItem, HonestItem, KeyItem, SessionItem, StepItem, SoFar, so_far, graphs_declared, graph_names, session_names, graph_for, labels_of, index}
use Rattle.sg_protocol.specs.Schedule.{Step, StartStep, ActStep, AbandonStep, DeliverStep, CraftStep}
use Rattle.sg_sched.specs.Format.Numbered.{made_after, values, what_of, craft}
use Rattle.sg_sched.specs.Format.Values.{bytes_of}
use Rattle.sg_sched.specs.Format.Faults.{fits_graph}
use Rattle.sg_sched.specs.Format.Spells.{Line, Add, Skip, Say, Show, Declare, Nothing, Next}
use Rattle.sg_sched_text.specs.Plus.{plus}
use Rattle.sg_sched_text.specs.Whole.{HaveCasts}
use Rattle.sg_sched_text.proofs.Growing.{one_more}
use Rattle.sg_sched_text.proofs.Indices.{some_index}
use Rattle.sg_sched_text.proofs.RightLines.{IsRight, right, in_group}

-- ---- what is held of graphs and sessions

-- from 2 to 16 roles
pub record HasFewRoles (g : Graph) : Type 0 where
  pub some : 2 ≤ length g.roles
  pub few : length g.roles ≤ 16

-- a session of one of these graphs, with a principal for each role
pub record IsOf (gs : List Graph) (s : Session) : Type 0 where
  pub graph : Graph
  pub there : slice_get gs s.graph ≡ Some graph
  pub roles : HasFewRoles graph
  pub count : length s.names ≡ length graph.roles
  pub differ : all_differ s.names ≡ true
  pub names : list_all is_name s.names ≡ true
  pub version : IsVersion s.version

-- what is held of all that is declared
pub record Sound (p : SoFar) : Type 0 where
  pub graphs : AllByRecursion HasFewRoles (graphs_declared p)
  pub sessions : AllByRecursion (IsOf (graphs_declared p)) p.sessions
  pub none_yet : p.group ≤ 2 → p.sessions ≡ []

-- ---- graphs

some_at : (gs : List Graph) (i : ℕ) (g : Graph) → AllByRecursion HasFewRoles gs → slice_get gs i ≡ Some g → HasFewRoles g
some_at [] i g a h = absurd (cc)
some_at (x ∷ gs) zero g a h = let same : x ≡ g = cc in subst HasFewRoles same a.0
some_at (x ∷ gs) (suc i) g a h = some_at gs i g a.1 h

pair_few : (es : List Edge) → AllByRecursion HasFewRoles (graphs_of es)
pair_few [] = tt
pair_few (e ∷ es) = (record { some = omega arith; few = omega arith }, tt)

two_parts : (gs hs : List Graph) → AllByRecursion HasFewRoles (gs ++ hs) → AllByRecursion HasFewRoles gs
two_parts [] hs a = tt
two_parts (g ∷ gs) hs a = (a.0, two_parts gs hs a.1)

-- the graph of a name that is there
named : (n : Name) (gs : List Graph) → has_text n (graph_names gs) ≡ true → (g : Graph) × (slice_get gs (index n (graph_names gs)) ≡ Some g)
named n gs h = by (position (bytes_eq n) (graph_names gs)) refl (some_index (bytes_eq n) (graph_names gs) ∙ h)
  where
    by : (o : Option ℕ) → position (bytes_eq n) (graph_names gs) ≡ o → is_some (position (bytes_eq n) (graph_names gs)) ≡ true → (g : Graph) × (slice_get gs (index n (graph_names gs)) ≡ Some g)
    by None e s = absurd (let no = ap is_some e in cc)
    by (Some i) e s =
        let w = (position-Some (bytes_eq n) (graph_names gs) i [] e).0 in
        let l = length-map gs (λ (g : Graph). g.name) in
        let within : i < length gs = omega (arith, w, l) in
        let d : Graph = pair_graph [] in
        (get_or gs i d, ap (slice_get gs) (ap (λ (o : Option ℕ). unwrap_or o 0) e) ∙ slice_get-get_or gs i d within)

fits : (p : SoFar) (graph : Name) (names : List Name) (g : Graph) → has_text graph (graph_names (graphs_declared p)) ≡ true → slice_get (graphs_declared p) (index graph (graph_names (graphs_declared p))) ≡ Some g
    → fits_graph p graph names ≡ true → length names ≡ length g.roles
fits p graph names g known there h =
    let o : Option Graph = if has_text graph (graph_names (graphs_declared p)) then slice_get (graphs_declared p) (index graph (graph_names (graphs_declared p))) else None in
    let e : o ≡ Some g = ap (λ b. if b then slice_get (graphs_declared p) (index graph (graph_names (graphs_declared p))) else None) known ∙ there in
    eqb-true (length names) (length g.roles) (sym (ap (λ o. option_map_or (λ (g : Graph). length names == length g.roles) o true) e) ∙ h)

-- ---- one item more

nothing_of : (gs : List Graph) (ss : List Session) → ss ≡ [] → AllByRecursion (IsOf gs) ss
nothing_of gs [] e = tt
nothing_of gs (s ∷ ss) e = absurd (cc)

version_of : (v : ℕ) → (v == 1 || v == 2) ≡ true → IsVersion v
version_of v h = by (v == 1) refl h
  where
    by : (b : Bool) → (v == 1) ≡ b → (b || v == 2) ≡ true → IsVersion v
    by true e h = inl (eqb-true v 1 e)
    by false e h = inr (eqb-true v 2 h)

module _ (p : SoFar) (s : Sound p) where
  pub graph_more : (g : Graph) → p.group ≤ 0 → HasFewRoles g → Sound (plus p (GraphItem g))
  graph_more g early few =
      let none : p.sessions ≡ [] = s.none_yet (omega (arith, early)) in
      let blocks : AllByRecursion HasFewRoles (p.blocks ++ g ∷ []) = all-append HasFewRoles p.blocks (g ∷ []) (two_parts p.blocks (graphs_of p.edges) s.graphs) (few, tt) in
      record {
        graphs = all-append HasFewRoles (p.blocks ++ g ∷ []) (graphs_of p.edges) blocks (pair_few p.edges);
        sessions = nothing_of (graphs_declared (plus p (GraphItem g))) p.sessions none;
        none_yet = λ h. none;
      }

  edge_more : (e : Edge) → p.group ≤ 0 → Sound (plus p (EdgeItem e))
  edge_more e early =
      let none : p.sessions ≡ [] = s.none_yet (omega (arith, early)) in
      record {
        graphs = all-append HasFewRoles p.blocks (graphs_of (p.edges ++ e ∷ [])) (two_parts p.blocks (graphs_of p.edges) s.graphs) (pair_few (p.edges ++ e ∷ []));
        sessions = nothing_of (graphs_declared (plus p (EdgeItem e))) p.sessions none;
        none_yet = λ h. none;
      }

  session_more : (name graph : Name) (nonce : ℕ) (names : List Name) (version : ℕ) → is_form (SessionLine name graph nonce names version) ≡ true
      → IsRight p (SessionLine name graph nonce names version) → Sound (plus p (SessionItem (record { name = name; graph = index graph (graph_names (graphs_declared p)); nonce = nonce; names = names; version = version })))
  session_more name graph nonce names version form r =
      let gs = graphs_declared p in
      let f = or_parts _ (not (fits_graph p graph names)) r.form in
      let at = named graph gs r.known in
      let a = is_name name && is_name graph && is_wide nonce && nat_le 1 (length names) in
      let b = are_names names in
      let c = all_differ names in
      let v = version == 1 || version == 2 in
      let abc : a && b && c ≡ true = and_left (a && b && c) v form in
      let ab : a && b ≡ true = and_left (a && b) c abc in
      record {
        graphs = s.graphs;
        sessions = all-append (IsOf gs) p.sessions _ s.sessions (
          record {
            graph = at.0;
            there = at.1;
            roles = some_at gs (index graph (graph_names gs)) at.0 s.graphs at.1;
            count = fits p graph names at.0 r.known at.1 (not-false (fits_graph p graph names) f.1);
            differ = and_right (a && b) c abc;
            names = and_right a b ab;
            version = version_of version (and_right (a && b && c) v form);
          },
          tt,
        );
        none_yet = λ h. absurd (omega (arith, h));
      }

  -- an item that is neither a graph nor a session
  other_more : (q : SoFar) → graphs_declared q ≡ graphs_declared p → q.sessions ≡ p.sessions → p.group ≤ q.group → Sound q
  other_more q gs ss later = record {
    graphs = subst (AllByRecursion HasFewRoles) (sym gs) s.graphs;
    sessions = subst (λ gs. AllByRecursion (IsOf gs) q.sessions) (sym gs) (subst (AllByRecursion (IsOf (graphs_declared p))) (sym ss) s.sessions);
    none_yet = λ h. ss ∙ s.none_yet (omega (arith, h, later));
  }

  step_more : (x : Step) (i : Item) → StepItem x ≡ i → Sound (plus p i)
  step_more x i same = subst (λ i. Sound (plus p i)) same (other_more (plus p (StepItem x)) refl refl (omega arith))

  -- a line that is right
  pub statement_more : (statement : LineContent) (i : Item) → is_form statement ≡ true → IsRight p statement → made_after p statement ≡ Some i → Sound (plus p i)
  statement_more BlockLine i form r m = absurd (cc)
  statement_more (EdgeLine label from to) i form r m =
      let same : EdgeItem (edge label from to) ≡ i = cc in
      let late = (or_parts (nat_lt 0 p.group) _ r.form).0 in
      subst (λ i. Sound (plus p i)) same (edge_more (edge label from to) (in_group p 0 late))
  statement_more (HonestLine who) i form r m = let same : HonestItem who ≡ i = cc in subst (λ i. Sound (plus p i)) same (other_more (plus p (HonestItem who)) refl refl (omega arith))
  statement_more (KeyLine one two digits) i form r m =
      let k : Item = KeyItem (record { one = one; two = two; key = bytes_of digits }) in
      let same : k ≡ i = cc in
      subst (λ i. Sound (plus p i)) same (other_more (plus p k) refl refl (omega arith))
  statement_more (SessionLine name graph nonce names version) i form r m =
      let s : Item = SessionItem (record { name = name; graph = index graph (graph_names (graphs_declared p)); nonce = nonce; names = names; version = version }) in
      let same : s ≡ i = cc in
      subst (λ i. Sound (plus p i)) same (session_more name graph nonce names version form r)
  statement_more (StartLine who session) i form r m = step_more (StartStep who (index session (session_names p))) i (cc)
  statement_more (ActLine who session label vs) i form r m = step_more (ActStep who (index session (session_names p)) (index label (labels_of (graph_for session p))) (values (graph_for session p) vs)) i (cc)
  statement_more (AbandonLine who session) i form r m = step_more (AbandonStep who (index session (session_names p))) i (cc)
  statement_more (DeliverLine who what) i form r m = step_more (DeliverStep who (what_of what)) i (cc)
  statement_more (MakeLine c) i form r m = step_more (CraftStep (craft p (graph_for c.session p) c)) i (cc)

-- ---- lines

pub sound : {ls : List Line} {items : List Item} → Declare ls items → Sound (so_far items)
sound Nothing = record { graphs = tt; sessions = tt; none_yet = λ h. refl }
sound (Next {first = first} {more = more} {items = items} {new = new} d a) = added items more new a (sound d)
  where
    nil : (is : List Item) → is ++ [] ≡ is
    nil [] = refl
    nil (i ∷ is) = ap (λ js. i ∷ js) (nil is)

    added : (items : List Item) (more : List Line) (new : List Item) → Add items more new → Sound (so_far items) → Sound (so_far (items ++ new))
    added items _ _ (Skip h) s = subst (λ is. Sound (so_far is)) (sym (nil items)) s
    added items _ _ (Say {statement = statement} {item = item} says no_fault makes) s =
        subst Sound (sym (one_more items item)) (statement_more (so_far items) s statement item says.form (right (so_far items) statement no_fault) makes)
    added items _ _ (Show {g = g} b spelled fresh) s =
        let r = right (so_far items) BlockLine b.opened.in_group in
        subst Sound (sym (one_more items (GraphItem g))) (graph_more (so_far items) s g (in_group (so_far items) 0 r.form) (record { some = spelled.two_roles; few = spelled.is_graph.sizes.0 }))

cast_of : (gs : List Graph) (ss : List Session) → AllByRecursion (IsOf gs) ss → HaveCasts (length gs) ss
cast_of gs [] a = tt
cast_of gs (s ∷ ss) a =
    let h = a.0 in
    let c = h.count in
    let f = h.roles.few in
    let m = h.roles.some in
    (record { graph = slice_get_within gs s.graph h.graph h.there; version = h.version; some = omega (arith, c, m); few = omega (arith, c, f) }, cast_of gs ss a.1)

-- each session has a cast
pub casts : {ls : List Line} {items : List Item} → Declare ls items → HaveCasts (length (graphs_declared (so_far items))) (so_far items).sessions
casts {items = items} d = cast_of (graphs_declared (so_far items)) (so_far items).sessions (sound d).sessions
