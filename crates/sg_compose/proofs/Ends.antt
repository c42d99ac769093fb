-- What the end of a graph that can be used says of its edges, and how many of its nodes are added.
use Rattle.std.proofs.Common.{◌≡◌, ◌≢◌, ℕ, zero, suc, ◌+◌, ◌-◌, ◌<◌, ◌≤◌, ◌==◌, nat_le, nat_lt, not, Bool, true, false, ◌&&◌, ◌||◌, inl, inr, List, [], ◌∷◌, ◌++◌, filter, length, get_or, set, take, Some, None, refl, sym, ap, subst, ◌∙◌, arith, if◌then◌else◌, length-append}
use Rattle.std.specs.List.{list_any}
use Rattle.std.proofs.lemmas.Bool.{eq-eqb, cases_Bool, and_parts, not-true, or_right}
use Rattle.std.proofs.lemmas.Bool.Decides.{nat_tests}
use Rattle.std.proofs.lemmas.List.{get_or-map}
use Rattle.sg_base.proofs.SetLaws.{is_in-filter}
use Rattle.sg_model.specs.Lists.{below, range_from, is_in}
use Rattle.sg_model.specs.Shape.{source, target}
use Rattle.sg_model.specs.Shape as Shapes
use Rattle.sg_protocol.specs.Graph.{Graph, Edge, shape}
use Rattle.sg_graph.specs.Parts.{edge_at}
use Rattle.sg_model.proofs.Numbers.{filter_below_in, filter_below_out}
use Rattle.sg_model.proofs.Small.{first_false, second_false, or_true, or_false}
use Rattle.std.proofs.lemmas.List.Folds.{list_any_more, list_any-append}
use Rattle.std.proofs.lemmas.List.{get_or-set_same, get_or-set_other}
use Rattle.std.proofs.Math.Seq.{get_or-append_seam}
use Rattle.sg_compose.specs.Expansion.{is_inside, is_entered, is_final, finals, sole, end_of, inside}
use Rattle.sg_compose.proofs.Split.{arrow_of}

-- none passes, so the one at an index doesn't
pub none-at : {A : Type 0} (p : A → Bool) (xs : List A) (k : ℕ) (d : A) → list_any p xs ≡ false → k < length xs → p (get_or xs k d) ≡ false
none-at p [] k d h l = absurd (omega arith)
none-at p (x ∷ xs) zero d h l = first_false (p x) (list_any p xs) h
none-at p (x ∷ xs) (suc k) d h l = none-at p xs k d (second_false (p x) (list_any p xs) h) (omega (arith, l))

-- the source and the target of an edge
pub source_at : (g : Graph) (e : ℕ) → e < length g.edges → source (shape g) e ≡ (edge_at g e).source
source_at g e l = ap (λ (a : Shapes.Arrow). a.source) (get_or-map arrow_of g.edges e (record { name = []; source = 0; target = 0; writes = []; reads = [] }) _ l)

pub target_at : (g : Graph) (e : ℕ) → e < length g.edges → target (shape g) e ≡ (edge_at g e).target
target_at g e l = ap (λ (a : Shapes.Arrow). a.target) (get_or-map arrow_of g.edges e (record { name = []; source = 0; target = 0; writes = []; reads = [] }) _ l)

-- a graph that can be used ends so
pub record EndsAt (g : Graph) (m : ℕ) : Type 0 where
  pub late : m ≢ 0
  pub there : m < length g.nodes
  pub not_entered : (e : ℕ) → e < length g.edges → target (shape g) e ≢ 0
  pub not_left : (e : ℕ) → e < length g.edges → source (shape g) e ≢ m

sole-one : (ns : List ℕ) (m : ℕ) → sole ns ≡ Some m → (ns ≡ m ∷ []) × (m ≢ 0)
sole-one [] m h = absurd (cc)
sole-one (zero ∷ []) m h = absurd (cc)
sole-one (zero ∷ n ∷ ns) m h = absurd (cc)
sole-one (suc k ∷ []) m h = (let same : suc k ≡ m = cc in (ap (λ x. x ∷ []) same, subst (λ x. x ≢ 0) same (λ e. absurd (omega (arith, e)))))
sole-one (suc k ∷ n ∷ ns) m h = absurd (cc)

pub ends-at : (g : Graph) (m : ℕ) → end_of g ≡ Some m → EndsAt g m
ends-at g m h = pick (is_entered g) refl h
  where
    pick : (b : Bool) → is_entered g ≡ b → (if b then None else sole (finals g)) ≡ Some m → EndsAt g m
    pick true e h = absurd (cc)
    pick false e h =
        let one = sole-one (finals g) m h in
        let yes : (m == m) ≡ true = eq-eqb m m refl in
        let listed : is_in m (finals g) ≡ true = ap (is_in m) one.0 ∙ rw yes refl in
        let parts = and_parts (nat_le 0 m && nat_lt m (0 + length g.nodes)) (is_final g m) (sym (is_in-filter (is_final g) 0 (length g.nodes) m) ∙ listed) in
        let within = and_parts (nat_le 0 m) (nat_lt m (0 + length g.nodes)) parts.0 in
        let below' : m < length g.nodes = grind (arith, nat_tests, within.1) in
        record {
          late = one.1;
          there = below';
          not_entered = λ k l z. (let no = none-at (λ e. e.target == 0) g.edges k (record { name = []; source = 0; target = 0; writes = []; reads = [] }) e l in
              let same : (edge_at g k).target ≡ 0 = sym (target_at g k l) ∙ z in let yes : ((edge_at g k).target == 0) ≡ true = eq-eqb (edge_at g k).target 0 same in absurd (cc));
          not_left = λ k l z. (let no = none-at (λ e. e.source == m) g.edges k (record { name = []; source = 0; target = 0; writes = []; reads = [] }) (not-true (list_any (λ e. e.source == m) g.edges) parts.1) l in
              let same : (edge_at g k).source ≡ m = sym (source_at g k l) ∙ z in let yes : ((edge_at g k).source == m) ≡ true = eq-eqb (edge_at g k).source m same in absurd (cc));
        }

-- ---- how many nodes are added

kept-at : (m a : ℕ) → a ≢ 0 → a ≢ m → is_inside m a ≡ true
kept-at m a x y = grind (arith, nat_tests, x, y)

none-left : (m a k : ℕ) → a ≢ 0 → m < a → length (filter (is_inside m) (range_from a k)) ≡ k
none-left m a zero x l = refl
none-left m a (suc k) x l =
    let keep = kept-at m a x (λ e. absurd (omega (arith, e, l))) in
    rw keep (ap suc (none-left m (suc a) k (λ e. absurd (omega (arith, e))) (omega (arith, l))))

one-left : (m a k : ℕ) → a ≢ 0 → a ≤ m → m < a + k → suc (length (filter (is_inside m) (range_from a k))) ≡ k
one-left m a zero x l r = absurd (omega (arith, l, r))
one-left m a (suc k) x l r = elim (cases_Bool (a == m)) [
  | inl y ↦
      (let same : a ≡ m = grind (arith, nat_tests, y) in
      let drop : is_inside m a ≡ false = outside (a == 0) (a == m) y in
      rw drop (ap suc (none-left m (suc a) k (λ e. absurd (omega (arith, e))) (omega (arith, same)))))
  | inr d ↦
      (let apart : a ≢ m = grind (arith, nat_tests, d) in
      let keep = kept-at m a x apart in
      let less : suc a ≤ m = omega (arith, l, apart) in
      rw keep (ap suc (one-left m (suc a) k (λ e. absurd (omega (arith, e))) less (omega (arith, r)))))
]
  where
    outside : (p q : Bool) → q ≡ true → (not p && not q) ≡ false
    outside true q h = refl
    outside false q h = rw h refl

-- all nodes but two are added
pub inside_length : (g : Graph) (m : ℕ) → m ≢ 0 → m < length g.nodes → length (inside g m) ≡ length g.nodes - 2
inside_length g m late l = go (length g.nodes) l
  where
    go : (n : ℕ) → m < n → length (filter (is_inside m) (below n)) ≡ n - 2
    go zero l = absurd (omega (arith, l))
    go (suc n) l = (let one = one-left m 1 n (λ e. absurd (omega (arith, e))) (omega (arith, late)) (omega (arith, l)) in omega (arith, one))

-- ---- as the code finds it

-- marks of the nodes that edges leave
pub mark-more : (g : Graph) (left : List Bool) (i s : ℕ) → length left ≡ 256 → i < length g.edges → s ≡ (edge_at g i).source → s < 256
    → ((n : ℕ) → n < 256 → get_or left n false ≡ list_any (λ e. e.source == n) (take i g.edges))
    → (n : ℕ) → n < 256 → get_or (set left s true) n false ≡ list_any (λ e. e.source == n) (take (i + 1) g.edges)
mark-more g left i s long lt at few so_far n ln =
    let more = list_any_more (λ (e : Edge). e.source == n) g.edges i (record { name = []; source = 0; target = 0; writes = []; reads = [] }) lt in
    let more' : list_any (λ e. e.source == n) (take (i + 1) g.edges) ≡ (list_any (λ e. e.source == n) (take i g.edges) || (s == n)) = more ∙ ap (λ k. list_any (λ e. e.source == n) (take i g.edges) || (k == n)) (sym at) in
    elim (cases_Bool (s == n)) [
      | inl y ↦
          (let same : n ≡ s = grind (arith, nat_tests, y) in
          let inside' : s < length left = omega (arith, long, few) in
          let here : get_or (set left s true) n false ≡ true = ap (λ k. get_or (set left s true) k false) same ∙ get_or-set_same left s true false inside' in
          here ∙ sym (more' ∙ rw y (or_true (list_any (λ e. e.source == n) (take i g.edges)))))
      | inr d ↦
          (let other : n ≢ s = grind (arith, nat_tests, d) in
          get_or-set_other left s n true false other ∙ so_far n ln ∙ sym (more' ∙ rw d (or_false (list_any (λ e. e.source == n) (take i g.edges)))))
    ]

-- what was counted
pub record Counted (p : ℕ → Bool) (n count last : ℕ) : Type 0 where
  pub many : count ≡ length (filter p (below n))
  pub latest : 0 < count → last ≡ get_or (filter p (below n)) (count - 1) 0

pub counted-there : (p : ℕ → Bool) (n count last : ℕ) → p n ≡ true → Counted p n count last → Counted p (n + 1) (count + 1) n
counted-there p n count last h c =
    let more = filter_below_in p n h in
    let long : length (filter p (below n) ++ n ∷ []) ≡ length (filter p (below n)) + 1 = length-append (filter p (below n)) (n ∷ []) in
    let before : (count + 1) - 1 ≡ length (filter p (below n)) = omega (arith, c.many) in
    record {
      many = omega (arith, c.many, long, ap length more);
      latest = λ l. sym (ap (λ xs. get_or xs ((count + 1) - 1) 0) more ∙ ap (λ k. get_or (filter p (below n) ++ n ∷ []) k 0) before ∙ get_or-append_seam (filter p (below n)) n [] 0);
    }

pub counted-away : (p : ℕ → Bool) (n count last : ℕ) → p n ≡ false → Counted p n count last → Counted p (n + 1) count last
counted-away p n count last h c =
    let same = filter_below_out p n h in
    record { many = c.many ∙ ap length (sym same); latest = λ l. c.latest l ∙ ap (λ xs. get_or xs (count - 1) 0) (sym same) }

-- ---- tests of the nodes that pass another test

-- none of the elements so far, and not the next
pub any-more : {A : Type 0} (p : A → Bool) (xs : List A) (n : ℕ) (d : A) → n < length xs → list_any p (take n xs) ≡ false → p (get_or xs n d) ≡ false → list_any p (take (n + 1) xs) ≡ false
any-more p xs n d l none away = list_any_more p xs n d l ∙ rw (none, away) refl

-- none of those so far, and not the next
pub any-inside-more : (p q : ℕ → Bool) (n : ℕ) → list_any p (filter q (below n)) ≡ false → (q n && p n) ≡ false → list_any p (filter q (below (n + 1))) ≡ false
any-inside-more p q n none h = elim (cases_Bool (q n)) [
  | inl y ↦
      (let away : p n ≡ false = rw y at h in
      ap (list_any p) (filter_below_in q n y) ∙ list_any-append p (filter q (below n)) (n ∷ []) ∙ rw (none, away) refl)
  | inr d ↦ ap (list_any p) (filter_below_out q n d) ∙ none
]

-- one of them
pub any-inside-hit : (p q : ℕ → Bool) (n k : ℕ) → n < k → (q n && p n) ≡ true → list_any p (filter q (below k)) ≡ true
any-inside-hit p q n k l h = go 0 k (omega arith) (omega (arith, l))
  where
    parts : (q n ≡ true) × (p n ≡ true)
    parts = and_parts (q n) (p n) h

    tail : (b : Bool) (a : ℕ) (xs : List ℕ) → list_any p xs ≡ true → list_any p (if b then a ∷ xs else xs) ≡ true
    tail true a xs h = or_right (p a) (list_any p xs) h
    tail false a xs h = h

    go : (a k : ℕ) → a ≤ n → n < a + k → list_any p (filter q (range_from a k)) ≡ true
    go a zero le lt = absurd (omega (arith, le, lt))
    go a (suc k) le lt = elim (cases_Bool (a == n)) [
      | inl y ↦ (let same : a ≡ n = grind (arith, nat_tests, y) in rw (same, parts.0, parts.1) refl)
      | inr d ↦ (let apart : a ≢ n = grind (arith, nat_tests, d) in tail (q a) a (filter q (range_from (suc a) k)) (go (suc a) k (omega (arith, le, apart)) (omega (arith, lt))))
    ]
