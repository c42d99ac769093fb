-- Lists of states that edges lead to, and the walks that lead there.
use Rattle.std.proofs.Common.{◌≡◌, ℕ, ◌+◌, ◌<◌, ◌≤◌, List, [], ◌∷◌, ◌++◌, length, get_or, refl, sym, ap, ◌∙◌, subst, inl, inr, append_assoc, append-nil, arith, length-append}
use Rattle.std.specs.Prelude.{Option, Some, None, MatchOption}
use Rattle.std.proofs.lemmas.Bool.{cases_lt}
use Rattle.std.proofs.lemmas.List.{get_or_append_left, get_or_push, length_push, length-map}
use Rattle.sg_model.specs.Shape.{Shape, Walk, end_of, source, target}
use Rattle.sg_protocol.specs.Graph.{Graph, shape}
use Rattle.sg_know.specs.declared.states.WalkState.{WalkState}
use Rattle.sg_know.specs.declared.states.Arrival.{Arrival}
use Rattle.sg_know.specs.declared.states.ReachedState.{ReachedState}
use Rattle.sg_know.specs.States.{AreReached, AreThere, ComesBy, Enters, Extends, Has, IsPath, begin, state_after, state_along, state_at, step_at}
use Rattle.sg_know.specs.States.IsPath.{Begins, Goes}
use Rattle.sg_know.proofs.Knowing.{state_after-more}

-- ---- walks

-- one edge more on a walk
pub walk_more : (g : Shape) (m e : ℕ) (walk : List ℕ) → Walk g m walk → e < length g.edges → source g e ≡ end_of g m walk → Walk g m (walk ++ e ∷ [])
walk_more g m e [] w l s = (l, s, tt)
walk_more g m e (f ∷ walk) w l s = (w.0, w.1, walk_more g (target g f) e walk w.2 l s)

-- the first edge behind a walk is there and leaves its end
pub walk_next : (g : Shape) (m e : ℕ) (before rest : List ℕ) → Walk g m (before ++ e ∷ rest) → (e < length g.edges) × (source g e ≡ end_of g m before)
walk_next g m e [] rest w = (w.0, w.1)
walk_next g m e (f ∷ before) rest w = walk_next g (target g f) e before rest w.2

-- the last edge of a walk, and the walk before it
pub walk_before : (g : Shape) (m e : ℕ) (before : List ℕ) → Walk g m (before ++ e ∷ []) → Walk g m before
walk_before g m e [] w = tt
walk_before g m e (f ∷ before) w = (w.0, w.1, walk_before g (target g f) e before w.2)

-- ---- paths

-- a list of states that are reached has a walk for each path
pub path_walks : (g : Graph) (r x : ℕ) (states : List ReachedState) → AreReached g r x states → (i : ℕ) (labels : List ℕ) → i < length states → IsPath states i labels
    → Walk (shape g) 0 labels × (state_after g r x labels ≡ state_at states i)
path_walks g r x states h i labels l (Begins e) = let at = h i l in let is = rw e at at in (tt, sym is)
path_walks g r x states h i labels l (Goes {s = s} {labels = before} e p) =
    let at = h i l in
    let comes : ComesBy g r x states i s = rw e at at in
    let ih = path_walks g r x states h s.from before (omega (arith, comes.earlier)) p in
    let leaves : source (shape g) s.label ≡ end_of (shape g) 0 before = comes.leaves ∙ ap (λ (t : WalkState). t.node) (sym ih.1) in
    let there : s.label < length (shape g).edges = rw length-map comes.there in (
      walk_more (shape g) 0 s.label before ih.0 there leaves,
      state_after-more g r x s.label before ∙ ap (state_along g r x s.label) ih.1 ∙ sym comes.state,
    )

-- ---- lists that go on

-- a list that goes on from one that goes on from a third goes on from this
pub Extends-more : (one two three : List ReachedState) → Extends one two → Extends two three → Extends one three
Extends-more one two three a b = (a.0 ++ b.0, b.1 ∙ ap (λ l. l ++ b.0) a.1 ∙ append_assoc one a.0 b.0)

-- the elements of a list that goes on stay where they are
same_there : (old new : List ReachedState) (i : ℕ) → Extends old new → i < length old → get_or new i begin ≡ get_or old i begin
same_there old new i e l = rw (e.1) (get_or_append_left old e.0 begin i l)

-- so do their states
pub state_stays : (old new : List ReachedState) (i : ℕ) → Extends old new → i < length old → state_at new i ≡ state_at old i
state_stays old new i e l = ap (λ (t : ReachedState). t.state) (same_there old new i e l)

-- and it is no shorter
pub Extends-length : (old new : List ReachedState) → Extends old new → length old ≤ length new
Extends-length old new e = rw (e.1) (omega (arith, length-append old e.0))

-- what the list had it has
pub Has-extends : (old new : List ReachedState) (s : WalkState) → Extends old new → Has old s → Has new s
Has-extends old new s e h = (h.0, omega (arith, h.1, Extends-length old new e), state_stays old new h.0 e h.1 ∙ h.2)

-- a list with a state more goes on
pub Extends-enters : (old new : List ReachedState) (t : ReachedState) → Enters old t new → Extends old new
Extends-enters old new t (inl h) = ([], h.1 ∙ sym (append-nil old))
Extends-enters old new t (inr h) = (t ∷ [], h.1)

-- and has the state
pub Has-enters : (old new : List ReachedState) (t : ReachedState) → Enters old t new → Has new t.state
Has-enters old new t (inl h) = rw (h.1) (h.0)
Has-enters old new t (inr h) =
    (length old, rw (h.1) (omega (arith, length_push old t)), rw (h.1) (ap (λ (t : ReachedState). t.state) (get_or_push old t begin (length old) refl)))

-- a state that was reached is reached in a list that goes on
reached_still : (g : Graph) (r x : ℕ) (old new : List ReachedState) (i : ℕ) → Extends old new → i < length old
    → MatchOption (step_at old i) (state_at old i ≡ begin.state) (ComesBy g r x old i) → MatchOption (step_at new i) (state_at new i ≡ begin.state) (ComesBy g r x new i)
reached_still g r x old new i e l m =
    subst (λ (o : Option Arrival). MatchOption o (state_at new i ≡ begin.state) (ComesBy g r x new i)) (sym (ap (λ (t : ReachedState). t.by) (same_there old new i e l))) (onto (step_at old i) m)
  where
    onto : (o : Option Arrival) → MatchOption o (state_at old i ≡ begin.state) (ComesBy g r x old i) → MatchOption o (state_at new i ≡ begin.state) (ComesBy g r x new i)
    onto None b = state_stays old new i e l ∙ b
    onto (Some s) b =
        let before : state_at new s.from ≡ state_at old s.from = state_stays old new s.from e (omega (arith, b.earlier)) in
        record {
          earlier = b.earlier;
          there = b.there;
          leaves = b.leaves ∙ ap (λ (t : WalkState). t.node) (sym before);
          state = state_stays old new i e l ∙ b.state ∙ ap (state_along g r x s.label) (sym before);
        }

-- a state that an edge leads to from one of the list comes in: each is reached still
pub AreReached-enters : (g : Graph) (r x at e : ℕ) (old new : List ReachedState) → AreReached g r x old → at < length old → e < length g.edges → source (shape g) e ≡ (state_at old at).node
    → Enters old (record { state = state_along g r x e (state_at old at); by = Some (record { from = at; label = e }) }) new → AreReached g r x new
AreReached-enters g r x at e old new h l there leaves (inl k) = subst (AreReached g r x) (sym (k.1)) h
AreReached-enters g r x at e old new h l there leaves (inr k) = subst (AreReached g r x) (sym (k.1)) (λ i li. elim (cases_lt i (length old)) [ inl w ↦ reached_still g r x old (old ++ t ∷ []) i goes_on w (h i w) | inr w ↦ last i w li ])
  where
    t : ReachedState
    t = record { state = state_along g r x e (state_at old at); by = Some (record { from = at; label = e }) }

    goes_on : Extends old (old ++ t ∷ [])
    goes_on = (t ∷ [], refl)

    last : (i : ℕ) → length old ≤ i → i < length (old ++ t ∷ []) → MatchOption (step_at (old ++ t ∷ []) i) (state_at (old ++ t ∷ []) i ≡ begin.state) (ComesBy g r x (old ++ t ∷ []) i)
    last i w li =
        let end : length old ≡ i = omega (arith, length_push old t) in
        let here : get_or (old ++ t ∷ []) i begin ≡ t = get_or_push old t begin i end in
        let before : state_at (old ++ t ∷ []) at ≡ state_at old at = state_stays old (old ++ t ∷ []) at goes_on l in
        subst (λ (o : Option Arrival). MatchOption o (state_at (old ++ t ∷ []) i ≡ begin.state) (ComesBy g r x (old ++ t ∷ []) i)) (sym (ap (λ (t : ReachedState). t.by) here))
        (record {
          earlier = omega arith;
          there = there;
          leaves = leaves ∙ ap (λ (t : WalkState). t.node) (sym before);
          state = ap (λ (t : ReachedState). t.state) here ∙ ap (state_along g r x e) (sym before);
        })

-- a state at a node of the graph comes in: each is at one still
pub AreThere-enters : (g : Graph) (old new : List ReachedState) (t : ReachedState) → AreThere g old → t.state.node < length g.nodes → Enters old t new → AreThere g new
AreThere-enters g old new t h l (inl k) = subst (AreThere g) (sym (k.1)) h
AreThere-enters g old new t h l (inr k) =
    subst (AreThere g) (sym (k.1)) (λ i li.
    elim (cases_lt i (length old)) [
      | inl w ↦ (let same : (state_at (old ++ t ∷ []) i).node ≡ (state_at old i).node = ap (λ (s : WalkState). s.node) (state_stays old (old ++ t ∷ []) i (t ∷ [], refl) w) in rw same (h i w))
      | inr w ↦
          (let end : length old ≡ i = omega (arith, length_push old t) in
          let same : (state_at (old ++ t ∷ []) i).node ≡ t.state.node = ap (λ (s : ReachedState). s.state.node) (get_or_push old t begin i end) in rw same l)
    ])

-- ---- closures

-- each edge that leaves one of the first n states leads to a state of the list
abbrev pub AreFollowed : Graph → ℕ → ℕ → ℕ → List ReachedState → Type 0
AreFollowed g r x n states = (i e : ℕ) → i < n → e < length g.edges → source (shape g) e ≡ (state_at states i).node → Has states (state_along g r x e (state_at states i))

-- one state more whose edges lead to states of the list
pub AreFollowed-more : (g : Graph) (r x n : ℕ) (old new : List ReachedState) → Extends old new → n < length old → AreFollowed g r x n old
    → ((e : ℕ) → e < length g.edges → source (shape g) e ≡ (state_at old n).node → Has new (state_along g r x e (state_at old n))) → AreFollowed g r x (n + 1) new
AreFollowed-more g r x n old new goes_on l before here i e li there leaves =
    let same : state_at new i ≡ state_at old i = state_stays old new i goes_on (omega arith) in
    let leaves' : source (shape g) e ≡ (state_at old i).node = leaves ∙ ap (λ (s : WalkState). s.node) same in
    subst (λ (s : WalkState). Has new (state_along g r x e s)) (sym same) (elim (cases_lt i n) [
      | inl w ↦ Has-extends old new (state_along g r x e (state_at old i)) goes_on (before i e w there leaves')
      | inr w ↦ (let last : n ≡ i = omega arith in
          let at = subst (λ (k : ℕ). source (shape g) e ≡ (state_at old k).node) (sym last) leaves' in
          subst (λ (k : ℕ). Has new (state_along g r x e (state_at old k))) last (here e there at))
    ])

-- a list that has the start's state and each state that an edge leads to has the state of each walk
pub followed_whole : (g : Graph) (r x : ℕ) (states : List ReachedState) → Has states begin.state → AreFollowed g r x (length states) states
    → (walk : List ℕ) → Walk (shape g) 0 walk → Has states (state_after g r x walk)
followed_whole g r x states start f walk w = onwards [] walk w start
  where
    onwards : (before rest : List ℕ) → Walk (shape g) 0 (before ++ rest) → Has states (state_after g r x before) → Has states (state_after g r x (before ++ rest))
    onwards before [] w h = subst (λ (l : List ℕ). Has states (state_after g r x l)) (sym (append-nil before)) h
    onwards before (e ∷ rest) w h =
        let next = walk_next (shape g) 0 e before rest w in
        let leaves : source (shape g) e ≡ (state_at states h.0).node = next.1 ∙ ap (λ (t : WalkState). t.node) (sym h.2) in
        let there : e < length g.edges = simp length-map at next.0 in
        let one = f h.0 e h.1 there leaves in
        let same : state_along g r x e (state_at states h.0) ≡ state_after g r x (before ++ e ∷ []) = ap (state_along g r x e) h.2 ∙ sym (state_after-more g r x e before) in
        let joined : (before ++ e ∷ []) ++ rest ≡ before ++ e ∷ rest = append_assoc before (e ∷ []) rest in
        subst (λ (l : List ℕ). Has states (state_after g r x l)) joined
        (onwards (before ++ e ∷ []) rest (subst (Walk (shape g) 0) (sym joined) w) (one.0, one.1, one.2 ∙ same))
