-- A search with one state more.
use Rattle.std.proofs.Common.{◌≡◌, ℕ, ◌+◌, ◌-◌, ◌<◌, ◌≤◌, ◌==◌, Bool, true, false, if◌then◌else◌, List, [], ◌∷◌, ◌++◌, length, get_or, refl, sym, ap, ◌∙◌, subst, inl, inr, arith, All, Contains, length-append, append-nil, append_assoc, Result, Ok, Err, Some, slice_get, map, take}
use Rattle.std.specs.Result.{OnOk}
use Rattle.std.specs.Option.{IfSome}
use Rattle.std.proofs.lemmas.Option.{slice_get-get_or, get_or_from_slice_get}
use Rattle.std.proofs.lemmas.Bool.{cases_Bool}
use Rattle.std.proofs.lemmas.List.{get_or_append_left, get_or-append_right, map-append, take_more}
use Rattle.std.proofs.lemmas.List.Elements.{All-nil, All-cons, All-push, All-head, All-tail, Contains-get_or, Contains-append_left, Contains-push, filter-append}
use Rattle.std.proofs.lemmas.List.Quantifiers.{all_pairs_push}
use Rattle.sg_model.specs.Shape.{role_at, source, sender}
use Rattle.sg_model.proofs.Small.{length-more, same_at, upto}
use Rattle.sg_protocol.specs.Graph.{Graph, shape}
use Rattle.sg_protocol.specs.Evidence.{Seen, View}
use Rattle.sg_views.specs.declared.states.State.{State}
use Rattle.sg_views.specs.declared.open_view.OpenView.{OpenView}
use Rattle.sg_views.specs.Search.{nothing, settled, next_state, HasState, Searched, IsLinked, LeadsInto, Followed, FollowedBelow, Extends, Adds, Puts, is_open, open_states, open_view}
use Rattle.sg_views.specs.Steps.{items_after, joined, next_view, HasLabels}

-- ---- labels of edges

items-labels : (g : Graph) (e : ℕ) → e < length g.edges → (c : List ℕ) (is : List Seen) → All (λ s. s.label < length g.edges) is → All (λ s. s.label < length g.edges) (items_after g e c is)
items-labels g e l c [] h = All-cons (λ (s : Seen). s.label < length g.edges) (record { label = e; delta = _ }) [] l (All-nil (λ (s : Seen). s.label < length g.edges))
items-labels g e l c (i ∷ is) h =
    let rest = All-tail (λ (s : Seen). s.label < length g.edges) i is h in
    elim (cases_Bool (sender (shape g) i.label == sender (shape g) e)) [
      | inl y ↦ rw y (items-labels g e l (joined c i.delta) is rest)
      | inr z ↦ rw z (All-cons (λ (s : Seen). s.label < length g.edges) (record { label = i.label; delta = joined c i.delta }) (items_after g e [] is)
          (All-head (λ (s : Seen). s.label < length g.edges) i is h) (items-labels g e l [] is rest))
    ]

next-labels : (g : Graph) (r : ℕ) (v : View) (e : ℕ) → e < length g.edges → HasLabels g v → HasLabels g (next_view g r v e)
next-labels g r v e l h =
    elim (cases_Bool (sender (shape g) e == r)) [
      | inl y ↦ rw y (All-nil (λ (s : Seen). s.label < length g.edges))
      | inr z ↦ rw z (items-labels g e l [] v.items h)
    ]

settled-labels : (g : Graph) (r n : ℕ) (v : View) → HasLabels g v → HasLabels g (settled g r n v)
settled-labels g r n v h =
    elim (cases_Bool (role_at (shape g) n == r)) [
      | inl y ↦ rw y (All-nil (λ (s : Seen). s.label < length g.edges))
      | inr z ↦ rw z h
    ]

-- ---- one state more

pub on_ok : {T E : Type 0} (r : Result T E) (P Q : Type 0) → OnOk r P → (P → Q) → OnOk r Q
on_ok (Ok x) P Q h f = f h
on_ok (Err e) P Q h f = tt

pub both_ok : {T E : Type 0} (r : Result T E) (P Q R : Type 0) → OnOk r P → OnOk r Q → (P → Q → R) → OnOk r R
both_ok (Ok x) P Q R h k f = f h k
both_ok (Err e) P Q R h k f = tt

at_end : {A : Type 0} (xs : List A) (x d : A) → get_or (xs ++ x ∷ []) (length xs) d ≡ x
at_end xs x d = get_or-append_right xs (x ∷ []) (length xs) (length xs) d refl (omega arith) ∙ ap (λ k. get_or (x ∷ []) k d) (let z : length xs - length xs ≡ 0 = omega arith in z)

-- the state that an edge leads to, if it is new
searched-more : (g : Graph) (r : ℕ) (states : List State) (at e : ℕ) (p : State) → Searched g r states → at < length states → p ≡ get_or states at p → e < length g.edges → source (shape g) e ≡ p.node
    → (HasState states (next_state g r p at e).node (next_state g r p at e).view → ⊥) → Searched g r (states ++ next_state g r p at e ∷ [])
searched-more g r states at e p s l is label leaves new = record {
  graph = s.graph;
  some = omega (arith, s.some, length-more states next);
  first = λ d. subst (λ (q : State). (q.node ≡ 0) × (q.view ≡ nothing)) (sym (before 0 d s.some)) (s.first d);
  back = λ i d o m. elim (upto i (length states) (subst (λ n. i < n) (length-more states next) m)) [
    | inl b ↦ subst (λ (q : State). q.before < i) (sym (before i d b)) (s.back i d o b)
    | inr b ↦ subst (λ (q : State). q.before < i) (sym (last i d b)) (subst (λ n. at < n) (sym b) l)
  ];
  linked = λ i d o m. elim (upto i (length states) (subst (λ n. i < n) (length-more states next) m)) [
    | inl b ↦
        (let back = s.back i d o b in
        subst (λ (q : State). IsLinked g r q (get_or (states ++ next ∷ []) q.before d)) (sym (before i d b))
        (subst (IsLinked g r (get_or states i d)) (sym (before (get_or states i d).before d (omega arith))) (s.linked i d o b)))
    | inr b ↦
        (let p' : get_or (states ++ next ∷ []) at d ≡ p = before at d l ∙ same_at states at d p l ∙ sym is in
        subst (λ (q : State). IsLinked g r q (get_or (states ++ next ∷ []) q.before d)) (sym (last i d b))
        (subst (IsLinked g r next) (sym p') (record { label = label; source = leaves; next = refl })))
  ];
  labels = All-push (λ (q : State). HasLabels g q.view) states next s.labels (settled-labels g r next.node (next_view g r p.view e) (next-labels g r p.view e label (subst (λ (q : State). HasLabels g q.view) (sym is) (s.labels at p l))));
  differ = all_pairs_push (λ (a b : State). a.node ≡ b.node → a.view ≡ b.view → ⊥) states next s.differ
      (λ k d m node view. new (record { state = get_or states k d; there = Contains-get_or states k d m; node = node; view = view }));
}
  where
    next : State
    next = next_state g r p at e

    before : (i : ℕ) (d : State) → i < length states → get_or (states ++ next ∷ []) i d ≡ get_or states i d
    before i d b = get_or_append_left states (next ∷ []) d i b

    last : (i : ℕ) (d : State) → i ≡ length states → get_or (states ++ next ∷ []) i d ≡ next
    last i d b = ap (λ k. get_or (states ++ next ∷ []) k d) b ∙ at_end states next d

-- the same, whether the state is new or not
pub searched-added : (g : Graph) (r : ℕ) (old new : List State) (at e : ℕ) (p : State) → Searched g r old → at < length old → p ≡ get_or old at p → e < length g.edges → source (shape g) e ≡ p.node
    → Adds old new (next_state g r p at e) → Searched g r new
searched-added g r old new at e p s l is label leaves adds = by adds.0 adds.1
  where
    by : (b : Bool) → Puts old new (next_state g r p at e) b → Searched g r new
    by true h = subst (Searched g r) (sym h.1) (searched-more g r old at e p s l is label leaves h.0)
    by false h = subst (Searched g r) (sym h.1) s

-- the open views are at most one more
pub one_more-added : (old new : List State) (p : State) → Adds old new p → length (open_states new) ≤ length (open_states old) + 1
one_more-added old new p adds = by adds.0 adds.1
  where
    by : (b : Bool) → Puts old new p b → length (open_states new) ≤ length (open_states old) + 1
    by true h =
        let whole : open_states new ≡ open_states old ++ open_states (p ∷ []) = ap open_states h.1 ∙ filter-append (λ (q : State). is_open q.view) old (p ∷ []) in
        let long : length (open_states new) ≡ length (open_states old) + length (open_states (p ∷ [])) = ap length whole ∙ length-append (open_states old) (open_states (p ∷ [])) in
        let one : length (open_states (p ∷ [])) ≤ 1 = elim (cases_Bool (is_open p.view)) [ inl y ↦ rw y (omega arith) | inr z ↦ rw z (omega arith) ] in
        omega arith
    by false h = let same : length (open_states new) ≡ length (open_states old) = ap (λ ps. length (open_states ps)) h.1 in omega arith

-- all that was there stays in its place
pub extends-added : (old new : List State) (p : State) → Adds old new p → Extends old new
extends-added old new p adds = by adds.0 adds.1
  where
    by : (b : Bool) → Puts old new p b → Extends old new
    by true h = (p ∷ [], h.1)
    by false h = ([], h.1 ∙ sym (append-nil old))

-- the state is there then
pub has-added : (old new : List State) (p : State) → Adds old new p → HasState new p.node p.view
has-added old new p adds = by adds.0 adds.1
  where
    by : (b : Bool) → Puts old new p b → HasState new p.node p.view
    by true h = record { state = p; there = subst (λ ps. Contains ps p) (sym h.1) (Contains-push old p); node = refl; view = refl }
    by false h = subst (λ ps. HasState ps p.node p.view) (sym h.1) h.0

-- a state that is there stays
pub has-extends : (old new : List State) (n : ℕ) (v : View) → Extends old new → HasState old n v → HasState new n v
has-extends old new n v x h = record { state = h.state; there = subst (λ ps. Contains ps h.state) (sym x.1) (Contains-append_left old x.0 h.state h.there); node = h.node; view = h.view }

pub extends-trans : (a b c : List State) → Extends a b → Extends b c → Extends a c
extends-trans a b c x y = (x.0 ++ y.0, y.1 ∙ ap (λ l. l ++ y.0) x.1 ∙ append_assoc a x.0 y.0)

-- the states that were followed are followed still, and one more
pub followed-more : (g : Graph) (r : ℕ) (old new : List State) (n : ℕ) (p : State) → Extends old new → n < length old → p ≡ get_or old n p → FollowedBelow g r old n → Followed g r new p → FollowedBelow g r new (n + 1)
followed-more g r old new n p x l is f more i d m w =
    elim (upto i n m) [
      | inl b ↦
          (let same : get_or new i d ≡ get_or old i d = ap (λ ps. get_or ps i d) x.1 ∙ get_or_append_left old x.0 d i (omega arith) in
          subst (Followed g r new) (sym same) (λ e u s. has-extends old new _ _ x (f i d b (omega arith) e u s)))
      | inr b ↦
          (let same : get_or new i d ≡ p =
          ap (λ k. get_or new k d) b ∙ ap (λ ps. get_or ps n d) x.1 ∙ get_or_append_left old x.0 d n l ∙ same_at old n d p l ∙ sym is in
          subst (Followed g r new) (sym same) more)
    ]

-- the same, of the state of a number
pub followed-next : (g : Graph) (r : ℕ) (old new : List State) (n : ℕ) (d : State) → Extends old new → n < length old → IfSome (slice_get old n) (Followed g r new) → FollowedBelow g r old n → FollowedBelow g r new (n + 1)
followed-next g r old new n d x l more f =
    followed-more g r old new n (get_or old n d) x l (same_at old n d (get_or old n d) l) f (subst (λ o. IfSome o (Followed g r new)) (slice_get-get_or old n d l) more)

-- one edge more is followed from a state
pub leads-more : (g : Graph) (r : ℕ) (first before after : List State) (at i : ℕ) (labels : List ℕ) (e : ℕ) → at < length first → Extends first before → Extends before after → i < length labels → e ≡ get_or labels i e
    → IfSome (slice_get before at) (λ p. LeadsInto g r after p e)
    → ((k : ℕ) (d : State) → k < i → LeadsInto g r before (get_or first at d) (get_or labels k 0))
    → (k : ℕ) (d : State) → k < i + 1 → LeadsInto g r after (get_or first at d) (get_or labels k 0)
leads-more g r first before after at i labels e l x y m is leads inv k d u =
    elim (upto k i u) [
      | inl b ↦ has-extends before after _ _ y (inv k d b)
      | inr b ↦
          (let l' : at < length before = omega (arith, l, ap length x.1, length-append first x.0) in
          let state : get_or before at d ≡ get_or first at d = ap (λ ps. get_or ps at d) x.1 ∙ get_or_append_left first x.0 d at l in
          let label : get_or labels k 0 ≡ e = ap (λ j. get_or labels j 0) b ∙ same_at labels i 0 e m ∙ sym is in
          let here : LeadsInto g r after (get_or before at d) e = subst (λ o. IfSome o (λ p. LeadsInto g r after p e)) (slice_get-get_or before at d l') leads in
          subst (λ f. LeadsInto g r after (get_or first at d) f) (sym label) (subst (λ (p : State). LeadsInto g r after p e) state here))
    ]

-- if each label of an edge from a state is followed, the state is
pub followed-all : (g : Graph) (r : ℕ) (first states : List State) (at i : ℕ) (p : State) (labels : List ℕ) → slice_get first at ≡ Some p
    → ((e : ℕ) → e < length g.edges → source (shape g) e ≡ p.node → Contains labels e) → length labels ≤ i
    → ((k : ℕ) (d : State) → k < i → LeadsInto g r states (get_or first at d) (get_or labels k 0))
    → IfSome (slice_get first at) (Followed g r states)
followed-all g r first states at i p labels is all m inv =
    subst (λ o. IfSome o (Followed g r states)) (sym is)
    (λ e l s.
    (let c = all e l s in
    let label : get_or labels c.0 0 ≡ e = same_at labels c.0 0 e c.1 ∙ c.2 in
    let state : get_or first at p ≡ p = get_or_from_slice_get first at p p is in
    let leads = inv c.0 p (omega (arith, c.1, m)) in
    subst (λ (q : State). LeadsInto g r states q e) state (subst (λ f. LeadsInto g r states (get_or first at p) f) label leads)))

-- the open view of one state more, if it is one
pub open-more : (states : List State) (i : ℕ) (p : State) (now next : List OpenView) (b : Bool) → i < length states → get_or states i p ≡ p → is_open p.view ≡ b
    → now ≡ map open_view (open_states (take i states)) → next ≡ (if b then now ++ open_view p ∷ [] else now) → next ≡ map open_view (open_states (take (i + 1) states))
open-more states i p now next true l is o before more =
    more ∙ ap (λ os. os ++ open_view p ∷ []) before ∙ sym (map-append open_view (open_states (take i states)) (p ∷ [])) ∙ ap (map open_view) (sym whole)
  where
    whole : open_states (take (i + 1) states) ≡ open_states (take i states) ++ p ∷ []
    whole =
        ap open_states (take_more states i p l ∙ ap (λ q. take i states ++ q ∷ []) is) ∙ filter-append (λ (q : State). is_open q.view) (take i states) (p ∷ [])
        ∙ ap (λ t. open_states (take i states) ++ (if t then p ∷ [] else [])) o
open-more states i p now next false l is o before more = more ∙ before ∙ ap (map open_view) (sym whole)
  where
    whole : open_states (take (i + 1) states) ≡ open_states (take i states)
    whole =
        ap open_states (take_more states i p l ∙ ap (λ q. take i states ++ q ∷ []) is) ∙ filter-append (λ (q : State). is_open q.view) (take i states) (p ∷ [])
        ∙ ap (λ t. open_states (take i states) ++ (if t then p ∷ [] else [])) o ∙ append-nil (open_states (take i states))
