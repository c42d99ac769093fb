-- Walks to the states of a search, and what a search that has followed each edge has found.
use Rattle.std.proofs.Common.{◌≡◌, ◌≢◌, ℕ, zero, suc, ◌<◌, ◌≤◌, ◌==◌, nat_lt, Bool, true, false, ◌||◌, List, [], ◌∷◌, ◌++◌, map, length, get_or, refl, sym, ap, ◌∙◌, subst, inl, inr, arith, append_assoc, append-nil, All, AllPairs, Contains}
use Rattle.std.specs.Option.{is_some}
use Rattle.std.proofs.lemmas.Bool.{cases_Bool, eqb-true, eq-eqb}
use Rattle.std.proofs.lemmas.Bool.Decides.{nat_tests}
use Rattle.std.proofs.lemmas.List.{length-map, get_or-map}
use Rattle.std.proofs.lemmas.List.Elements.{Contains-get_or, filter_passes, All-filter, All-map}
use Rattle.std.proofs.lemmas.List.Kept.{AllPairs-filter}
use Rattle.sg_model.specs.Shape.{Shape, Walk, end_of, role_at, source, target, sender, receiver}
use Rattle.sg_protocol.specs.Graph.{Graph, IsGraph, shape}
use Rattle.sg_protocol.specs.Evidence.{Seen, View, view_of, IsView, IsOpenView, IsViewTable}
use Rattle.sg_protocol.proofs.Entries.{edges_same}
use Rattle.sg_views.specs.declared.states.State.{State}
use Rattle.sg_views.specs.declared.open_view.OpenView.{OpenView}
use Rattle.sg_views.specs.Limits.{FewOpen, ManyOpen}
use Rattle.sg_views.specs.Search.{nothing, is_open, open_view, settled, next_state, HasState, Arrives, Searched, open_states, Followed, FollowedBelow, ShowsNext, ShownBelow, AreRows}
use Rattle.sg_views.specs.Steps.{items_after, joined, next_view}
use Rattle.sg_vis.specs.Table.{ShownView, Shows, views_of}
use Rattle.sg_graph.proofs.Leaving.{Contains-filter}
use Rattle.sg_views.proofs.Next.{view_of-snoc}
use Rattle.sg_vis.proofs.Ordered.{ordered}

-- a place where none is asked for
abbrev pub no_state : State
no_state = record { node = 0; view = nothing; before = 0; label = 0 }

-- ---- walks with one edge more

pub end_of-snoc : (g : Shape) (m : ℕ) (es : List ℕ) (e : ℕ) → end_of g m (es ++ e ∷ []) ≡ target g e
end_of-snoc g m [] e = refl
end_of-snoc g m (x ∷ xs) e = end_of-snoc g (target g x) xs e

Walk-snoc : (g : Shape) (m : ℕ) (es : List ℕ) (e : ℕ) → Walk g m es → e < length g.edges → source g e ≡ end_of g m es → Walk g m (es ++ e ∷ [])
Walk-snoc g m [] e w l s = (l, s, tt)
Walk-snoc g m (x ∷ xs) e w l s = (w.0, w.1, Walk-snoc g (target g x) xs e w.2 l s)

-- a walk that has an edge, as the edges before its last one, and the last
record Parts (es : List ℕ) : Type 0 where
  prefix : List ℕ
  final : ℕ
  whole : es ≡ prefix ++ final ∷ []

parts : (es : List ℕ) → es ≢ [] → Parts es
parts [] h = absurd (h refl)
parts (x ∷ xs) h = by x xs
  where
    by : (x : ℕ) (xs : List ℕ) → Parts (x ∷ xs)
    by x [] = record { prefix = []; final = x; whole = refl }
    by x (y ∷ ys) = let p = by y ys in record { prefix = x ∷ p.prefix; final = p.final; whole = ap (λ l. x ∷ l) p.whole }

record WalkParts (g : Graph) (es : List ℕ) : Type 0 where
  prefix : List ℕ
  final : ℕ
  whole : es ≡ prefix ++ final ∷ []
  follows : Walk (shape g) 0 prefix
  label : final < length g.edges
  leaves : source (shape g) final ≡ end_of (shape g) 0 prefix

Walk-parts : (g : Graph) (es : List ℕ) → Walk (shape g) 0 es → es ≢ [] → WalkParts g es
Walk-parts g es w h =
    let p = parts es h in
    let cut = back (shape g) 0 p.prefix p.final (subst (Walk (shape g) 0) p.whole w) in
    record { prefix = p.prefix; final = p.final; whole = p.whole; follows = cut.0; label = subst (λ n. p.final < n) (edges_same g) cut.1; leaves = cut.2 }
  where
    back : (s : Shape) (m : ℕ) (es : List ℕ) (e : ℕ) → Walk s m (es ++ e ∷ []) → Walk s m es × (e < length s.edges) × (source s e ≡ end_of s m es)
    back s m [] e w = (tt, w.0, w.1)
    back s m (x ∷ xs) e w = let r = back s (target s x) xs e w.2 in ((w.0, w.1, r.0), r.1, r.2)

-- ---- what is kept of a view is enough for the next

pub settled-next : (g : Graph) (r n : ℕ) (v : View) (e : ℕ) → source (shape g) e ≡ n → next_view g r (settled g r n v) e ≡ next_view g r v e
settled-next g r n v e s =
    elim (cases_Bool (role_at (shape g) n == r)) [
      | inl y ↦ (let own : (sender (shape g) e == r) ≡ true = ap (λ m. role_at (shape g) m == r) s ∙ y in rw own refl)
      | inr z ↦ rw z refl
    ]

-- a walk to a state goes on along an edge to the next state
pub arrives_on : (g : Graph) (r : ℕ) (p : State) (walk : List ℕ) (i e : ℕ) → IsGraph g → Arrives g r p walk → e < length g.edges → source (shape g) e ≡ p.node
    → Arrives g r (next_state g r p i e) (walk ++ e ∷ [])
arrives_on g r p walk i e h a l s =
    let seen : view_of g r (walk ++ e ∷ []) ≡ next_view g r p.view e =
    view_of-snoc g r walk e h l ∙ sym (settled-next g r p.node (view_of g r walk) e s) ∙ ap (λ v. next_view g r v e) a.seen in
    record {
      follows = Walk-snoc (shape g) 0 walk e a.follows (subst (λ n. e < n) (sym (edges_same g)) l) (s ∙ sym a.ends);
      ends = end_of-snoc (shape g) 0 walk e;
      seen = ap (settled g r (target (shape g) e)) seen;
    }

-- a walk shows what the state before its last edge and that edge say
pub shown_on : (g : Graph) (r : ℕ) (p : State) (walk : List ℕ) (e : ℕ) → IsGraph g → Arrives g r p walk → e < length g.edges → source (shape g) e ≡ p.node → receiver (shape g) e ≡ r
    → Shows g r (walk ++ e ∷ []) (next_view g r p.view e)
shown_on g r p walk e h a l s t = record {
  follows = Walk-snoc (shape g) 0 walk e a.follows (subst (λ n. e < n) (sym (edges_same g)) l) (s ∙ sym a.ends);
  moves = moves walk;
  ends = ap (role_at (shape g)) (end_of-snoc (shape g) 0 walk e) ∙ t;
  seen = view_of-snoc g r walk e h l ∙ sym (settled-next g r p.node (view_of g r walk) e s) ∙ ap (λ v. next_view g r v e) a.seen;
}
  where
    moves : (es : List ℕ) → es ++ e ∷ [] ≢ []
    moves [] f = absurd (cc)
    moves (x ∷ xs) f = absurd (cc)

settled-nothing : (g : Graph) (r n : ℕ) → settled g r n nothing ≡ nothing
settled-nothing g r n = elim (cases_Bool (role_at (shape g) n == r)) [ inl y ↦ rw y refl | inr z ↦ rw z refl ]

-- a walk without edges is at the first state
pub arrives_first : (g : Graph) (r : ℕ) (states : List State) (d : State) → Searched g r states → Arrives g r (get_or states 0 d) []
arrives_first g r states d s = record {
  follows = tt;
  ends = sym (s.first d).0;
  seen = settled-nothing g r (get_or states 0 d).node ∙ sym (s.first d).1;
}

-- a walk to the state before another goes on to that
pub arrives_linked : (g : Graph) (r : ℕ) (states : List State) (i : ℕ) (d : State) (walk : List ℕ) → Searched g r states → 0 < i → i < length states
    → Arrives g r (get_or states (get_or states i d).before d) walk → Arrives g r (get_or states i d) (walk ++ (get_or states i d).label ∷ [])
arrives_linked g r states i d walk s l m a =
    let p = get_or states i d in
    let link = s.linked i d l m in
    subst (λ q. Arrives g r q (walk ++ p.label ∷ [])) (sym link.next)
    (arrives_on g r (get_or states p.before d) walk p.before p.label s.graph a link.label link.source)

-- some walk leads to each place
pub arrives : (g : Graph) (r : ℕ) (states : List State) (d : State) → Searched g r states → (i : ℕ) → i < length states → (walk : List ℕ) × Arrives g r (get_or states i d) walk
arrives g r states d s i l = upto (suc i) i (omega arith) l
  where
    upto : (n i : ℕ) → i < n → i < length states → (walk : List ℕ) × Arrives g r (get_or states i d) walk
    upto zero i m l = absurd (omega arith)
    upto (suc n) zero m l = ([], arrives_first g r states d s)
    upto (suc n) (suc i) m l =
        let p = get_or states (suc i) d in
        let back : p.before < suc i = s.back (suc i) d (omega arith) l in
        let before = upto n p.before (omega arith) (omega arith) in
        (before.0 ++ p.label ∷ [], arrives_linked g r states (suc i) d before.0 s (omega arith) l before.1)

-- ---- a search that has followed each edge from each place has found a place for each walk

pub found : (g : Graph) (r : ℕ) (states : List State) (d : State) → Searched g r states → FollowedBelow g r states (length states)
    → (walk : List ℕ) → Walk (shape g) 0 walk → HasState states (end_of (shape g) 0 walk) (settled g r (end_of (shape g) 0 walk) (view_of g r walk))
found g r states d s f walk w =
    let start : HasState states 0 (settled g r 0 (view_of g r [])) = record {
      state = get_or states 0 d;
      there = Contains-get_or states 0 d s.some;
      node = (s.first d).0;
      view = (s.first d).1 ∙ sym (settled-nothing g r 0);
    } in
    on [] walk start w
  where
    on : (pre es : List ℕ) → HasState states (end_of (shape g) 0 pre) (settled g r (end_of (shape g) 0 pre) (view_of g r pre)) → Walk (shape g) (end_of (shape g) 0 pre) es
        → HasState states (end_of (shape g) 0 (pre ++ es)) (settled g r (end_of (shape g) 0 (pre ++ es)) (view_of g r (pre ++ es)))
    on pre [] h w = subst (λ l. HasState states (end_of (shape g) 0 l) (settled g r (end_of (shape g) 0 l) (view_of g r l))) (sym (append-nil pre)) h
    on pre (e ∷ es) h w =
        let label : e < length g.edges = subst (λ n. e < n) (edges_same g) w.0 in
        let there = h.there in
        let followed : Followed g r states h.state = subst (Followed g r states) there.2 (f there.0 h.state there.1 there.1) in
        let into = followed e label (w.1 ∙ sym h.node) in
        let seen : next_view g r h.state.view e ≡ view_of g r (pre ++ e ∷ []) =
        ap (λ v. next_view g r v e) h.view ∙ settled-next g r (end_of (shape g) 0 pre) (view_of g r pre) e w.1 ∙ sym (view_of-snoc g r pre e s.graph label) in
        let node : target (shape g) e ≡ end_of (shape g) 0 (pre ++ e ∷ []) = sym (end_of-snoc (shape g) 0 pre e) in
        let next : HasState states (end_of (shape g) 0 (pre ++ e ∷ [])) (settled g r (end_of (shape g) 0 (pre ++ e ∷ [])) (view_of g r (pre ++ e ∷ []))) =
        record { state = into.state; there = into.there; node = into.node ∙ node; view = into.view ∙ (λ i. settled g r (node i) (seen i)) } in
        subst (λ l. HasState states (end_of (shape g) 0 l) (settled g r (end_of (shape g) 0 l) (view_of g r l))) (append_assoc pre (e ∷ []) es)
        (on (pre ++ e ∷ []) es next (subst (λ m. Walk (shape g) m es) node w.2))

-- ---- which states are open views

-- after a step something is seen
open_after : (g : Graph) (r : ℕ) (v : View) (e : ℕ) → is_open (next_view g r v e) ≡ true
open_after g r v e =
    elim (cases_Bool (sender (shape g) e == r)) [
      | inl y ↦ rw y refl
      | inr z ↦ rw z (some (is_some v.origin) (length (items_after g e [] v.items)) (long [] v.items))
    ]
  where
    long : (c : List ℕ) (is : List Seen) → 0 < length (items_after g e c is)
    long c [] = omega arith
    long c (i ∷ is) =
        elim (cases_Bool (sender (shape g) i.label == sender (shape g) e)) [
          | inl y ↦ rw y (long (joined c i.delta) is)
          | inr z ↦ rw z (omega arith)
        ]

    some : (b : Bool) (n : ℕ) → 0 < n → (b || nat_lt 0 n) ≡ true
    some true n l = refl
    some false n l = grind (arith, nat_tests)

-- at a node of another role the view is kept
settled-other : (g : Graph) (r n : ℕ) (v : View) → role_at (shape g) n ≢ r → settled g r n v ≡ v
settled-other g r n v h =
    elim (cases_Bool (role_at (shape g) n == r)) [
      | inl y ↦ absurd (h (eqb-true (role_at (shape g) n) r y))
      | inr z ↦ rw z refl
    ]

Contains-map : {A B : Type 0} (f : A → B) (xs : List A) (x : A) → Contains xs x → Contains (map f xs) (f x)
Contains-map f xs x h = (h.0, subst (λ n. h.0 < n) (sym (length-map xs f)) h.1, get_or-map f xs h.0 x (f x) h.1 ∙ ap f h.2)

-- a complete search has each open view, so they are few if it has few
pub few_open : (g : Graph) (r : ℕ) (states : List State) → Searched g r states → FollowedBelow g r states (length states) → length (open_states states) ≤ 65536 → FewOpen g r
few_open g r states s f few = record {
  list = map open_view (open_states states);
  few = subst (λ n. n ≤ 65536) (sym (length-map (open_states states) open_view)) few;
  each = each;
}
  where
    each : (o : OpenView) → IsOpenView g r o.node o.view → Contains (map open_view (open_states states)) o
    each o i =
        let d : State = no_state in
        let h = found g r states d s f i.walk i.follows in
        let p = Walk-parts g i.walk i.follows i.moves in
        let others : role_at (shape g) (end_of (shape g) 0 i.walk) ≢ r = subst (λ n. role_at (shape g) n ≢ r) (sym i.ends) i.others in
        let view : h.state.view ≡ o.view = h.view ∙ settled-other g r (end_of (shape g) 0 i.walk) (view_of g r i.walk) others ∙ i.seen in
        let node : h.state.node ≡ o.node = h.node ∙ i.ends in
        let same : open_view h.state ≡ o = λ j. record { node = node j; view = view j } in
        let open' : is_open h.state.view ≡ true =
        ap is_open (view ∙ sym i.seen ∙ ap (view_of g r) p.whole ∙ view_of-snoc g r p.prefix p.final s.graph p.label) ∙ open_after g r (view_of g r p.prefix) p.final in
        subst (Contains (map open_view (open_states states))) same
        (Contains-map open_view (open_states states) h.state (Contains-filter (λ (q : State). is_open q.view) states h.state h.there open'))

-- a state at which something is seen is an open view
is_open_view : (g : Graph) (r : ℕ) (p : State) (walk : List ℕ) → Arrives g r p walk → is_open p.view ≡ true → IsOpenView g r p.node p.view
is_open_view g r p walk a o =
    let others : role_at (shape g) p.node ≢ r =
    λ e. (let own : (role_at (shape g) p.node == r) ≡ true = eq-eqb (role_at (shape g) p.node) r e in
    let none : settled g r p.node (view_of g r walk) ≡ nothing = rw own refl in
    let shut : is_open p.view ≡ false = ap is_open (sym a.seen ∙ none) in absurd (cc)) in
    record {
      walk = walk;
      follows = a.follows;
      moves = λ e. (let none : p.view ≡ nothing = sym a.seen ∙ ap (λ l. settled g r p.node (view_of g r l)) e ∙ settled-nothing g r p.node in
          let shut : is_open p.view ≡ false = ap is_open none in absurd (cc));
      ends = a.ends;
      others = others;
      seen = sym (settled-other g r p.node (view_of g r walk) others) ∙ a.seen;
    }

AllPairs-map : {A B : Type 0} (f : A → B) (R : B → B → Type 0) (xs : List A) → AllPairs (λ a b. R (f a) (f b)) xs → AllPairs R (map f xs)
AllPairs-map f R [] h = λ i j d l m. absurd (omega arith)
AllPairs-map f R (x ∷ xs) h = λ i j d l m.
    (let m' : j < length (x ∷ xs) = subst (λ n. j < n) (length-map (x ∷ xs) f) m in
    let one : get_or (map f (x ∷ xs)) i d ≡ f (get_or (x ∷ xs) i x) = get_or-map f (x ∷ xs) i x d (omega arith) in
    let two : get_or (map f (x ∷ xs)) j d ≡ f (get_or (x ∷ xs) j x) = get_or-map f (x ∷ xs) j x d m' in
    subst (λ b. R b (get_or (map f (x ∷ xs)) j d)) (sym one) (subst (R (f (get_or (x ∷ xs) i x))) (sym two) (h i j x l m')))

-- a search with 65,537 open views among its states shows that there are as many
pub many_open : (g : Graph) (r : ℕ) (states : List State) → Searched g r states → length (open_states states) ≡ 65537 → ManyOpen g r (map open_view (open_states states))
many_open g r states s n = record {
  many = length-map (open_states states) open_view ∙ n;
  different = AllPairs-map open_view (λ a b. a ≢ b) (open_states states)
      (AllPairs-filter (λ a b. open_view a ≢ open_view b) (λ (p : State). is_open p.view) states
      (λ i j d l m e. s.differ i j d l m (ap (λ (o : OpenView). o.node) e) (ap (λ (o : OpenView). o.view) e)));
  each = All-map (λ (o : OpenView). IsOpenView g r o.node o.view) open_view (open_states states) each;
}
  where
    all : (k : ℕ) (d : State) → k < length states → is_open (get_or states k d).view ≡ true → IsOpenView g r (get_or states k d).node (get_or states k d).view
    all k d l o = let a = arrives g r states d s k l in is_open_view g r (get_or states k d) a.0 a.1 o

    each : All (λ (p : State). IsOpenView g r p.node p.view) (open_states states)
    each = λ k d l.
        (let passes : is_open (get_or (open_states states) k d).view ≡ true = filter_passes (λ (p : State). is_open p.view) states k d l in
        All-filter (λ (p : State). is_open p.view) (λ (p : State). is_open p.view ≡ true → IsOpenView g r p.node p.view) states (λ k d l. all k d l) k d l passes)

-- ---- the table

-- rows that are shown and have what each edge from each place shows are the table of views
pub is_table : (g : Graph) (r : ℕ) (states : List State) (table : List ShownView) → Searched g r states → FollowedBelow g r states (length states)
    → AreRows g r table → ShownBelow g r (views_of table) states (length states) → IsViewTable g r (views_of table)
is_table g r states table s f rows shown = record { ordered = ordered table rows.holds.ordered; each = λ v. (from v, to v) }
  where
    from : (v : View) → Contains (views_of table) v → IsView g r v
    from v h =
        let d : ShownView = record { view = v; walk = [] } in
        let l : h.0 < length table = subst (λ n. h.0 < n) (length-map table (λ (x : ShownView). x.view)) h.1 in
        let shows = rows.shows h.0 d l in
        let same : (get_or table h.0 d).view ≡ v = sym (get_or-map (λ (x : ShownView). x.view) table h.0 d v l) ∙ h.2 in
        record { walk = (get_or table h.0 d).walk; follows = shows.follows; moves = shows.moves; ends = shows.ends; seen = shows.seen ∙ same }

    to : (v : View) → IsView g r v → Contains (views_of table) v
    to v i =
        let d : State = no_state in
        let p = Walk-parts g i.walk i.follows i.moves in
        let h = found g r states d s f p.prefix p.follows in
        let state : ShowsNext g r (views_of table) h.state = subst (ShowsNext g r (views_of table)) h.there.2 (shown h.there.0 h.state h.there.1 h.there.1) in
        let turn : receiver (shape g) p.final ≡ r = ap (role_at (shape g)) (sym (end_of-snoc (shape g) 0 p.prefix p.final) ∙ ap (end_of (shape g) 0) (sym p.whole)) ∙ i.ends in
        let seen : next_view g r h.state.view p.final ≡ v =
        ap (λ w. next_view g r w p.final) h.view ∙ settled-next g r (end_of (shape g) 0 p.prefix) (view_of g r p.prefix) p.final p.leaves
        ∙ sym (view_of-snoc g r p.prefix p.final s.graph p.label) ∙ ap (view_of g r) (sym p.whole) ∙ i.seen in
        subst (Contains (views_of table)) seen (state p.final p.label (p.leaves ∙ sym h.node) turn)
