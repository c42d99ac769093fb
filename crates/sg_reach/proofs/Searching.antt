-- Steps of a search.
use Rattle.std.proofs.Common.{◌≡◌, ◌≢◌, ℕ, zero, suc, ◌+◌, ◌<◌, true, false, ◌⊎◌, List, [], ◌∷◌, length, get_or, replicate, refl, sym, ◌∙◌, ap, subst, inl, inr, arith}
use Rattle.std.specs.Prelude.{Option, Some, None, is_some, option_map, count_by, sum_by}
use Rattle.std.proofs.lemmas.List.Sums.{sum_by-set, sum_by-cons, count_by-le-length}
use Rattle.std.proofs.Math.ListN.{set, length-set}
use mathlib.Core.Bool.{cond}
use Rattle.std.proofs.lemmas.List.{get_or-set_same, get_or-set_other, get_or-replicate, length-replicate, get_or_past}
use Rattle.sg_model.specs.Lists.{is_in}
use Rattle.sg_model.specs.Shape.{Shape, source, target, sender, role_at}
use Rattle.sg_model.proofs.Small.{same_or_not}
use Rattle.sg_reach.specs.WalkEnd.{found_at, IsFound, edges_to, IsFoundBy, Waits, IsSearch}
use Rattle.sg_reach.specs.declared.search.WalkEnd.{WalkEnd}
use Rattle.sg_reach.specs.declared.search.Search.{Search}
use Rattle.sg_reach.proofs.Cases.{less_or}

-- what an index of a list counts
abbrev one_if_there : {A : Type 0} → Option A → ℕ
one_if_there o = cond (is_some o) 1 0

-- one more is there if an entry is put in an index that had none
pub count-set : {A : Type 0} (xs : List (Option A)) (i : ℕ) (x : A) → i < length xs → get_or xs i None ≡ None → count_by is_some (set xs i (Some x)) ≡ suc (count_by is_some xs)
count-set {A} xs i x h n =
    let e : sum_by (one_if_there {A = A}) (set xs i (Some x)) + one_if_there (get_or xs i None) ≡ sum_by one_if_there xs + 1 = sum_by-set one_if_there xs i (Some x) None h in
    let e' : sum_by (one_if_there {A = A}) (set xs i (Some x)) + 0 ≡ sum_by one_if_there xs + 1 = rw n at e in
    omega arith

-- not all indices are taken if one is free
pub count_free : {A : Type 0} (xs : List (Option A)) (i : ℕ) (x : A) → i < length xs → get_or xs i None ≡ None → count_by is_some xs < length xs
count_free xs i x h n =
    let more = count-set xs i x h n in
    let most = count_by-le-length is_some (set xs i (Some x)) in
    let same = length-set xs i (Some x) in
    omega (arith, more, most, same)

-- none is there if each slot has none
pub count-none : {A : Type 0} (xs : List (Option A)) → ((i : ℕ) → get_or xs i None ≡ None) → count_by is_some xs ≡ 0
count-none [] h = refl
count-none {A} (x ∷ xs) h =
    let first : x ≡ None = h 0 in
    let rest = count-none xs (λ i. h (suc i)) in
    sum_by-cons (one_if_there {A = A}) x xs ∙ rw (first, rest) refl

-- a list of none has none in each slot
pub get_or-none : {A : Type 0} (size i : ℕ) (none : Option A) → none ≡ None → get_or (replicate size none) i None ≡ None
get_or-none size i none same =
    elim (less_or i size) [
      | inl l ↦ get_or-replicate size i none None l ∙ same
      | inr m ↦ get_or_past (replicate size none) i None (omega (arith, length-replicate size none))
    ]

-- a node that is entered is found by its walk
pub found_here : (found : List (Option WalkEnd)) (n : ℕ) (w : WalkEnd) → n < length found → found_at (set found n (Some w)) n ≡ Some w
found_here found n w h = get_or-set_same found n (Some w) None h

-- another node stays as it was
pub found_other : (found : List (Option WalkEnd)) (n k : ℕ) (w : WalkEnd) → k ≢ n → found_at (set found n (Some w)) k ≡ found_at found k
found_other found n k w d = get_or-set_other found n k (Some w) None d

-- what was found stays found
pub found_still : (found : List (Option WalkEnd)) (n k : ℕ) (w : WalkEnd) → n < length found → IsFound found k → IsFound (set found n (Some w)) k
found_still found n k w h f =
    elim (same_or_not k n) [
      | inl s ↦ rw (s, found_here found n w h) refl
      | inr d ↦ rw (found_other found n k w d) f
    ]

-- a node that was found and one that wasn't differ
pub found_differs : (found : List (Option WalkEnd)) (n k : ℕ) → found_at found n ≡ None → IsFound found k → k ≢ n
found_differs found n k none f same =
    let e : is_some (found_at found n) ≡ true = subst (λ x. IsFound found x) same f in
    let e' : false ≡ true = rw none at e in absurd (cc)

-- a node to which a walk has some edges was found
pub found_of_edges : (found : List (Option WalkEnd)) (n k : ℕ) → edges_to found n ≡ Some k → IsFound found n
found_of_edges found n k h = of (found_at found n) h
  where
    of : (o : Option WalkEnd) → option_map (λ (f : WalkEnd). f.edges) o ≡ Some k → is_some o ≡ true
    of (Some f) h = refl
    of None h = absurd (cc)

-- a walk stays one when another node is entered
pub walk_still : (g : Shape) (m : ℕ) (past : List ℕ) (found : List (Option WalkEnd)) (n : ℕ) (w : WalkEnd) (k edges last : ℕ) → found_at found n ≡ None → IsFoundBy g m past found k edges last → IsFoundBy g m past (set found n (Some w)) k edges last
walk_still g m past found n w k zero last none x = x
walk_still g m past found n w k (suc i) last none x =
    (x.0, x.1, x.2, rw (found_other found n (source g last) w (found_differs found n (source g last) none (found_of_edges found (source g last) i x.3))) (x.3))

-- if what was left is done, or is still left, the search goes on with what is still left
pub search_with : (g : Shape) (left left' : ℕ → Type 0) (s : Search) → IsSearch g left s
    → ((e : ℕ) → e < length g.edges → is_in (sender g e) s.past ≡ false → left e → IsFound s.found (target g e) ⊎ left' e) → IsSearch g left' s
search_with g left left' s x h = record {
  found = x.found;
  passed = x.passed;
  closed = λ e l f p. elim (x.closed e l f p) [ inl t ↦ inl t | inr r ↦ elim r [ inl w ↦ inr (inl w) | inr y ↦ elim (h e l p y) [ inl t ↦ inl t | inr z ↦ inr (inr z) ] ] ];
}

-- the node whose turn it is waits no longer, and its edges are left
pub taken : (g : Shape) (s : Search) (at : ℕ) → IsSearch g (λ _. ⊥) s → s.at < s.count → at ≡ s.at + 1 → IsSearch g (λ e. source g e ≡ get_or s.queue s.at 0) (record s { at = at })
taken g s at x h next = record {
  found = record {
    sizes = x.found.sizes;
    begun = x.found.begun;
    walks = x.found.walks;
    short = x.found.short;
    queued = x.found.queued;
    there = x.found.there;
    counted = x.found.counted;
  };
  passed = omega (arith, next);
  closed = λ e l f p. elim (x.closed e l f p) [ inl t ↦ inl t | inr r ↦ inr (elim r [ inl w ↦ waits e w | inr y ↦ absurd y ]) ];
}
  where
    waits : (e : ℕ) → Waits s (source g e) → Waits (record s { at = at }) (source g e) ⊎ (source g e ≡ get_or s.queue s.at 0)
    waits e w =
        elim (same_or_not w.0 s.at) [
          | inl same ↦ inr (sym (subst (λ i. get_or s.queue i 0 ≡ source g e) same w.3))
          | inr d ↦ inl (w.0, omega (arith, w.1, next), w.2, w.3)
        ]

-- a node that wasn't found is entered by an edge
pub entered : (g : Shape) (left left' : ℕ → Type 0) (s : Search) (n k : ℕ) (w : WalkEnd) (count : ℕ) → IsSearch g left s → found_at s.found n ≡ None → n < length g.roles → n < 256
    → w.edges ≡ suc k → w.last < length g.edges → target g w.last ≡ n → is_in (sender g w.last) s.past ≡ false → edges_to s.found (source g w.last) ≡ Some k → count ≡ s.count + 1
    → ((e : ℕ) → e < length g.edges → left e → (e ≡ w.last) ⊎ left' e)
    → IsSearch g left' (record s { found = set s.found n (Some w); queue = set s.queue s.count n; count = count })
entered g left left' s n k w count x none role small edges there to free before more rest = record {
  found = record {
    sizes = (length-set s.found n (Some w) ∙ x.found.sizes.0, length-set s.queue s.count n ∙ x.found.sizes.1);
    begun = found_still s.found n s.from w fits x.found.begun;
    walks = λ i f h. elim (same_or_not i n) [
      | inl same ↦ new i f same h
      | inr d ↦ walk_still g s.from s.past s.found n w i f.edges f.last none (x.found.walks i f (sym (found_other s.found n i w d) ∙ h))
    ];
    short = λ i f h. elim (same_or_not i n) [
      | inl same ↦ (let e : Some w ≡ Some f = sym (found_here s.found n w fits) ∙ subst (λ j. found_at (set s.found n (Some w)) j ≡ Some f) same h in
          let e' : w ≡ f = cc in let e'' : w.edges ≡ f.edges = ap (λ (v : WalkEnd). v.edges) e' in omega (arith, shorter (found_at s.found (source g w.last)) refl before))
      | inr d ↦ omega (arith, x.found.short i f (sym (found_other s.found n i w d) ∙ h))
    ];
    queued = λ i h. elim (same_or_not i s.count) [
      | inl same ↦ rw (same, get_or-set_same s.queue s.count n 0 room, found_here s.found n w fits) refl
      | inr d ↦ rw (get_or-set_other s.queue s.count i n 0 d) (found_still s.found n (get_or s.queue i 0) w fits (x.found.queued i (omega arith)))
    ];
    there = λ i h. elim (same_or_not i s.count) [
      | inl same ↦ rw (same, get_or-set_same s.queue s.count n 0 room) role
      | inr d ↦ rw (get_or-set_other s.queue s.count i n 0 d) (x.found.there i (omega arith))
    ];
    counted = rw (count-set s.found n w fits none) (omega (arith, x.found.counted));
  };
  passed = omega (arith, x.passed);
  closed = λ e l f p. elim (same_or_not (source g e) n) [
    | inl same ↦ inr (inl (s.count, x.passed, omega arith, get_or-set_same s.queue s.count n 0 room ∙ sym same))
    | inr d ↦ elim (x.closed e l (rw (found_other s.found n (source g e) w d) at f) p) [
      | inl t ↦ inl (found_still s.found n (target g e) w fits t)
      | inr r ↦ elim r [
        | inl q ↦ inr (inl (q.0, q.1, omega (arith, q.2), get_or-set_other s.queue s.count q.0 n 0 (apart q.0 q.2) ∙ q.3))
        | inr y ↦ elim (rest e l y) [
          | inl same ↦ inl (subst (λ j. IsFound (set s.found n (Some w)) (target g j)) (sym same) (rw (to, found_here s.found n w fits) refl))
          | inr z ↦ inr (inr z)
        ]
      ]
    ]
  ];
}
  where
    fits : n < length s.found
    fits = omega (arith, x.found.sizes.0)

    free_indices : count_by is_some s.found < length s.found
    free_indices = count_free s.found n w fits none

    room : s.count < length s.queue
    room = omega (arith, x.found.sizes.0, x.found.sizes.1, x.found.counted, free_indices)

    apart : (i : ℕ) → i < s.count → i ≢ s.count
    apart i l = omega arith

    shorter : (o : Option WalkEnd) → found_at s.found (source g w.last) ≡ o → option_map (λ (f : WalkEnd). f.edges) o ≡ Some k → k < s.count
    shorter (Some f) is h = (let e : f.edges ≡ k = cc in omega (arith, x.found.short (source g w.last) f is, e))
    shorter None is h = absurd (cc)

    new : (i : ℕ) (f : WalkEnd) → i ≡ n → found_at (set s.found n (Some w)) i ≡ Some f → IsFoundBy g s.from s.past (set s.found n (Some w)) i f.edges f.last
    new i f same h =
        let e : Some w ≡ Some f = sym (found_here s.found n w fits) ∙ subst (λ j. found_at (set s.found n (Some w)) j ≡ Some f) same h in
        let e' : w ≡ f = cc in
        let old : IsFoundBy g s.from s.past s.found n (suc k) w.last = (there, to, free, before) in
        let now : IsFoundBy g s.from s.past (set s.found n (Some w)) n (suc k) w.last = walk_still g s.from s.past s.found n w n (suc k) w.last none old in
        let now' : IsFoundBy g s.from s.past (set s.found n (Some w)) n w.edges w.last = subst (λ j. IsFoundBy g s.from s.past (set s.found n (Some w)) n j w.last) (sym edges) now in
        let now'' : IsFoundBy g s.from s.past (set s.found n (Some w)) n f.edges f.last = subst (λ (v : WalkEnd). IsFoundBy g s.from s.past (set s.found n (Some w)) n v.edges v.last) e' now' in
        subst (λ j. IsFoundBy g s.from s.past (set s.found n (Some w)) j f.edges f.last) (sym same) now''

-- a search begins with one node, which waits
pub begins : (g : Shape) (s : Search) (at : ℕ) (blank : List (Option WalkEnd)) (first : WalkEnd) → at ≡ s.from → length blank ≡ 256 → ((i : ℕ) → get_or blank i None ≡ None) → first.edges ≡ 0
    → s.found ≡ set blank at (Some first) → s.queue ≡ replicate 256 s.from → s.count ≡ 1 → s.at ≡ 0 → s.from < 256 → s.from < length g.roles → IsSearch g (λ _. ⊥) s
begins g s at blank first begun size empty short found' queue count at' small role = record {
  found = record {
    sizes = (ap length found ∙ length-set blank s.from (Some first) ∙ size, ap length queue ∙ length-replicate 256 s.from);
    begun = rw (here s.from refl) refl;
    walks = λ n f h. (let alone = only n f h in subst (λ (v : WalkEnd). IsFoundBy g s.from s.past s.found n v.edges v.last) alone.1
        (subst (λ k. IsFoundBy g s.from s.past s.found n k first.last) (sym short) alone.0));
    short = λ n f h. (let alone = only n f h in let none : f.edges ≡ 0 = sym (ap (λ (v : WalkEnd). v.edges) alone.1) ∙ short in omega (arith, count, none));
    queued = λ i h. rw (waiting i h) (rw (here s.from refl) refl);
    there = λ i h. rw (waiting i h) role;
    counted = rw found (omega (arith, count, count-set blank s.from first room (empty s.from), count-none blank empty));
  };
  passed = omega (arith, at');
  closed = λ e l f p. inr (inl (0, omega (arith, at'), omega (arith, count), waiting 0 (omega (arith, count)) ∙ sym (from e (found_at s.found (source g e)) refl f)));
}
  where
    found : s.found ≡ set blank s.from (Some first)
    found = found' ∙ ap (λ i. set blank i (Some first)) begun

    waiting : (i : ℕ) → i < s.count → get_or s.queue i 0 ≡ s.from
    waiting i h = rw queue (get_or-replicate 256 i s.from 0 (omega (arith, count)))

    room : s.from < length blank
    room = omega (arith, size)

    here : (n : ℕ) → n ≡ s.from → found_at s.found n ≡ Some first
    here n same = rw (found, same) (get_or-set_same blank s.from (Some first) None room)

    only : (n : ℕ) (f : WalkEnd) → found_at s.found n ≡ Some f → (n ≡ s.from) × (first ≡ f)
    only n f h =
        elim (same_or_not n s.from) [
          | inl same ↦ (same, (let e : Some first ≡ Some f = sym (here n same) ∙ h in cc))
          | inr d ↦ (let e : None ≡ Some f = sym (empty n) ∙ sym (get_or-set_other blank s.from n (Some first) None d) ∙ (rw found at h) in absurd (cc))
        ]

    from : (e : ℕ) (p : Option WalkEnd) → found_at s.found (source g e) ≡ p → is_some p ≡ true → source g e ≡ s.from
    from e (Some f) is h = (only (source g e) f is).0
    from e None is h = absurd (cc)

-- one more edge that leaves a node is followed
pub followed : (g : Shape) (s s' : Search) (n l t k : ℕ) (w : WalkEnd) (left left' : ℕ → Type 0) → IsSearch g left s → l < length g.edges → source g l ≡ n → target g l ≡ t → t < length g.roles → t < 256
    → is_in (role_at g n) s.past ≡ false → edges_to s.found n ≡ Some k → w.edges ≡ suc k → w.last ≡ l → ((e : ℕ) → left e → (e ≡ l) ⊎ left' e)
    → (IsFound s.found t → s' ≡ s) → (found_at s.found t ≡ None → s' ≡ record s { found = set s.found t (Some w); queue = set s.queue s.count t; count = s.count + 1 })
    → IsSearch g left' s' × (edges_to s'.found n ≡ Some k) × (s'.from ≡ s.from) × (s'.past ≡ s.past) × (s'.at ≡ s.at)
followed g s s' n l t k w left left' x there leaves to role small free before edges last rest stays enters = by (found_at s.found t) refl
  where
    Good : Search → Type 0
    Good v = IsSearch g left' v × (edges_to v.found n ≡ Some k) × (v.from ≡ s.from) × (v.past ≡ s.past) × (v.at ≡ s.at)

    by : (p : Option WalkEnd) → found_at s.found t ≡ p → Good s'
    by (Some f) is =
        let f : IsFound s.found t = rw is refl in
        let same : IsSearch g left' s = search_with g left left' s x (λ e h p y. elim (rest e y) [ inl same ↦ inl (rw (same, to) f) | inr z ↦ inr z ]) in
        subst Good (sym (stays f)) (same, before, refl, refl, refl)
    by None is =
        let now : IsSearch g left' (record s { found = set s.found t (Some w); queue = set s.queue s.count t; count = s.count + 1 }) =
        entered g left left' s t k w (s.count + 1) x is role small edges (rw last there) (rw last to) (rw (last, leaves) free) (rw (last, leaves) before) refl
        (λ e h y. elim (rest e y) [ inl same ↦ inl (same ∙ sym last) | inr z ↦ inr z ]) in
        let kept : edges_to (set s.found t (Some w)) n ≡ Some k = rw (found_other s.found t n w (found_differs s.found t n is (found_of_edges s.found n k before))) before in
        subst Good (sym (enters is)) (now, kept, refl, refl, refl)
