-- The walks of a graph into which others are put, by one step after another.
use Rattle.std.proofs.Common.{◌≡◌, ◌≢◌, ℕ, ◌+◌, ◌<◌, ◌≤◌, ◌==◌, true, false, ◌⊎◌, inl, inr, List, [], ◌∷◌, ◌++◌, length, Option, Some, None, refl, sym, ap, subst, ◌∙◌, arith, append_assoc}
use Rattle.std.specs.Prelude.{All, Contains}
use Rattle.std.proofs.lemmas.Bool.Decides.{nat_tests}
use Rattle.std.proofs.lemmas.List.{length-map}
use Rattle.std.proofs.lemmas.List.Elements.{All-contains}
use Rattle.sg_model.specs.Shape.{Shape, Walk, source, target}
use Rattle.sg_model.specs.Shape as Shapes
use Rattle.sg_model.proofs.Small.{same_or_not}
use Rattle.sg_protocol.specs.Graph.{Edge, shape}
use Rattle.sg_compose.specs.Expansion.{end_of, replaced}
use Rattle.sg_compose.specs.Walks.{Inset, renamed, IsComplete, Pending, Filled, Here, Along, Through}

-- the node at which the graph that is put in ends
abbrev pub or_zero : Option ℕ → ℕ
or_zero None = 0
or_zero (Some m) = m

abbrev pub finish : Inset → ℕ
finish i = or_zero (end_of i.inner)

-- the node for a node of the graph that is put in
abbrev pub spot : Inset → ℕ → ℕ
spot i x = replaced i.nodes i.from i.to (finish i) x

-- an edge without its name
abbrev pub arrow_of : Edge → Shapes.Arrow
arrow_of e = record { source = e.source; target = e.target; writes = e.writes; reads = e.reads }

-- a label of what is put in
few : (i : Inset) (e : ℕ) → e < length i.inner.edges → e < length (shape i.inner).edges
few i e l = subst (λ n. e < n) (sym (length-map i.inner.edges arrow_of)) l

-- the graph i is put into h between two of N outer nodes, and the owner of a node knows which of its nodes stands there
pub record Sits (h : Shape) (N : ℕ) (owner : ℕ → Inset × ℕ) (i : Inset) : Type 0 where
  pub ends : end_of i.inner ≡ Some (finish i)
  pub late : finish i ≢ 0
  pub from : i.from < N
  pub to : i.to < N
  pub not_entered : (e : ℕ) → e < length i.inner.edges → target (shape i.inner) e ≢ 0
  pub not_left : (e : ℕ) → e < length i.inner.edges → source (shape i.inner) e ≢ finish i
  pub ranged : (e : ℕ) → e < length i.inner.edges → (source (shape i.inner) e < length i.inner.nodes) × (target (shape i.inner) e < length i.inner.nodes)
  pub edge : (e : ℕ) → e < length i.inner.edges
      → (i.edges + e < length h.edges) × (source h (i.edges + e) ≡ spot i (source (shape i.inner) e)) × (target h (i.edges + e) ≡ spot i (target (shape i.inner) e))
  pub inside : (x : ℕ) → x < length i.inner.nodes → x ≢ 0 → x ≢ finish i → (N ≤ spot i x) × (owner (spot i x) ≡ (i, x))

-- h is g with N nodes, and these graphs put in
pub record Joins (h g : Shape) (N : ℕ) (is : List Inset) (owner : ℕ → Inset × ℕ) : Type 0 where
  pub sits : All (Sits h N owner) is
  pub own : (e : ℕ) → e < length g.edges → (e < length h.edges) × (source h e ≡ source g e) × (target h e ≡ target g e) × (source g e < N) × (target g e < N)
  pub every : (l : ℕ) → l < length h.edges → (l < length g.edges) ⊎ ((i : Inset) × Contains is i × (e : ℕ) × (e < length i.inner.edges) × (l ≡ i.edges + e))

-- a walk from m is filled or pends
abbrev pub Splits : Shape → List Inset → ℕ → List ℕ → Type 0
Splits g is m w = ((n : ℕ) × Filled g is m w n) ⊎ Pending g is m w

pub spot-end : (i : Inset) → finish i ≢ 0 → spot i (finish i) ≡ i.to
spot-end i late = go (finish i) late
  where
    go : (m : ℕ) → m ≢ 0 → replaced i.nodes i.from i.to m m ≡ i.to
    go m late =
        let no : (m == 0) ≡ false = grind (arith, nat_tests, late) in
        let yes : (m == m) ≡ true = grind (arith, nat_tests) in
        rw (no, yes) refl

module _ (h g : Shape) (N : ℕ) (is : List Inset) (owner : ℕ → Inset × ℕ) (j : Joins h g N is owner) where
  seat : (i : Inset) → Contains is i → Sits h N owner i
  seat i c = All-contains (Sits h N owner) is i j.sits c

  -- within a graph that is put in, the walk stays there, or it comes to the end and goes on outside
  abbrev Within : Inset → ℕ → List ℕ → Type 0
  Within i x w =
      ((v : List ℕ) × Walk (shape i.inner) x v × (Shapes.end_of (shape i.inner) x v ≢ finish i) × (w ≡ renamed i v))
      ⊎ ((v : List ℕ) × (w' : List ℕ) × Walk (shape i.inner) x v × (Shapes.end_of (shape i.inner) x v ≡ finish i) × (w ≡ renamed i v ++ w') × Splits g is i.to w')

  -- an outer edge before
  along : (e : ℕ) (w : List ℕ) → e < length g.edges → Splits g is (target g e) w → Splits g is (source g e) (e ∷ w)
  along e w l (inl (n, f)) = inl (n, Along l f)
  along e w l (inr p) = inr (record { prefix = e ∷ p.prefix; put = p.put; there = p.there; filled = Along l p.filled; inner = p.inner; unfinished = p.unfinished; joined = ap (λ l. e ∷ l) p.joined })

  -- a complete walk of what is put in before
  through : (i : Inset) (v w : List ℕ) → Contains is i → IsComplete i.inner v → Splits g is i.to w → Splits g is i.from (renamed i v ++ w)
  through i v w c full (inl (n, f)) = inl (n, Through c full f)
  through i v w c full (inr p) = inr (record {
    prefix = renamed i v ++ p.prefix;
    put = p.put;
    there = p.there;
    filled = Through c full p.filled;
    inner = p.inner;
    unfinished = p.unfinished;
    joined = ap (λ l. renamed i v ++ l) p.joined ∙ sym (append_assoc (renamed i v) p.prefix (renamed p.put p.inner));
  })

  -- one edge of what is put in, and then within
  steps : (i : Inset) (e : ℕ) (w : List ℕ) → e < length i.inner.edges → Within i (target (shape i.inner) e) w → Within i (source (shape i.inner) e) ((i.edges + e) ∷ w)
  steps i e w l (inl (v, walk, out, same)) = inl (e ∷ v, (few i e l, refl, walk), out, ap (λ k. (i.edges + e) ∷ k) same)
  steps i e w l (inr (v, w', walk, ends, same, rest)) = inr (e ∷ v, w', (few i e l, refl, walk), ends, ap (λ k. (i.edges + e) ∷ k) same, rest)

  -- what begins at the start of what is put in begins outside
  enters : (i : Inset) (w : List ℕ) → Contains is i → w ≢ [] → Within i 0 w → Splits g is i.from w
  enters i w c some (inl (v, walk, out, same)) = inr (record {
    prefix = [];
    put = i;
    there = c;
    filled = Here;
    inner = v;
    unfinished = record { walk = walk; begun = λ e. some (same ∙ ap (renamed i) e); unfinished = λ e. out (is_end (finish i) _ (sym (seat i c).ends ∙ e)) };
    joined = same;
  })
    where
      is_end : (m n : ℕ) → Some m ≡ Some n → n ≡ m
      is_end m n e = cc
  enters i w c some (inr (v, w', walk, ends, same, rest)) =
      subst (Splits g is i.from) (sym same) (through i v w' c (record { walk = walk; ends = (seat i c).ends ∙ ap Some (sym ends) }) rest)

  -- the node of an edge's source that isn't the start stands inside
  source_inside : (i : Inset) (c : Contains is i) (e : ℕ) → e < length i.inner.edges → source (shape i.inner) e ≢ 0
      → (N ≤ spot i (source (shape i.inner) e)) × (owner (spot i (source (shape i.inner) e)) ≡ (i, source (shape i.inner) e))
  source_inside i c e l other = (seat i c).inside (source (shape i.inner) e) ((seat i c).ranged e l).0 other ((seat i c).not_left e l)

  -- what is said of a walk
  abbrev pub IsSplit : List ℕ → Type 0
  IsSplit w = ((m : ℕ) → m < N → Walk h m w → Splits g is m w)
      × ((i : Inset) → Contains is i → (x : ℕ) → x < length i.inner.nodes → x ≢ 0 → x ≢ finish i → Walk h (spot i x) w → Within i x w)

  -- from behind an edge of what is put in
  behind : (w : List ℕ) → IsSplit w → (i : Inset) (c : Contains is i) (e : ℕ) → e < length i.inner.edges → Walk h (spot i (target (shape i.inner) e)) w → Within i (target (shape i.inner) e) w
  behind w rest i c e le walk = elim (same_or_not (target (shape i.inner) e) (finish i)) [
    | inl y ↦
        (let at : Walk h i.to w = subst (λ m. Walk h m w) (ap (spot i) y ∙ spot-end i (seat i c).late) walk in
        inr ([], w, tt, y, refl, rest.0 i.to (seat i c).to at))
    | inr d ↦ rest.1 i c (target (shape i.inner) e) ((seat i c).ranged e le).1 ((seat i c).not_entered e le) d walk
  ]

  outer : (l : ℕ) (w : List ℕ) → IsSplit w → (m : ℕ) → m < N → Walk h m (l ∷ w) → Splits g is m (l ∷ w)
  outer l w rest m lt walk = pick (j.every l walk.0)
    where
      pick : (l < length g.edges) ⊎ ((i : Inset) × Contains is i × (e : ℕ) × (e < length i.inner.edges) × (l ≡ i.edges + e)) → Splits g is m (l ∷ w)
      pick (inl le) =
          let own = j.own l le in
          let here : source g l ≡ m = sym own.1 ∙ walk.1 in
          subst (λ n. Splits g is n (l ∷ w)) here (along l w le (rest.0 (target g l) own.4 (subst (λ n. Walk h n w) own.2 walk.2)))
      pick (inr (i, c, e, le, same)) =
          let edge = (seat i c).edge e le in
          let at : spot i (source (shape i.inner) e) ≡ m = sym edge.1 ∙ ap (source h) (sym same) ∙ walk.1 in
          elim (same_or_not (source (shape i.inner) e) 0) [
            | inl y ↦
                (let here : i.from ≡ m = sym (ap (spot i) y) ∙ at in
                let back : Within i (target (shape i.inner) e) w = behind w rest i c e le (subst (λ n. Walk h n w) (ap (target h) same ∙ edge.2) walk.2) in
                let all : Within i 0 ((i.edges + e) ∷ w) = subst (λ n. Within i n ((i.edges + e) ∷ w)) y (steps i e w le back) in
                let some : ((i.edges + e) ∷ w) ≢ [] = λ q. absurd (cc) in
                subst (λ n. Splits g is n (l ∷ w)) here (subst (λ k. Splits g is i.from (k ∷ w)) (sym same) (enters i ((i.edges + e) ∷ w) c some all)))
            | inr d ↦ (let s = source_inside i c e le d in absurd (omega (arith, s.0, at, lt)))
          ]

  -- if the edge is of the graph that is put in here
  goes : (l : ℕ) (w : List ℕ) → IsSplit w → (i : Inset) (x : ℕ) → Walk h (spot i x) (l ∷ w) → (k : Inset) → k ≡ i → Contains is k → (e : ℕ) → e < length k.inner.edges → l ≡ k.edges + e
      → source (shape k.inner) e ≡ x → Within i x (l ∷ w)
  goes l w rest i x walk k k_i ck e le same at =
      let edge = (seat k ck).edge e le in
      let back : Within k (target (shape k.inner) e) w = behind w rest k ck e le (subst (λ n. Walk h n w) (ap (target h) same ∙ edge.2) walk.2) in
      let all : Within k x ((k.edges + e) ∷ w) = subst (λ n. Within k n ((k.edges + e) ∷ w)) at (steps k e w le back) in
      subst (λ q. Within q x (l ∷ w)) k_i (subst (λ q. Within k x (q ∷ w)) (sym same) all)

  inner : (l : ℕ) (w : List ℕ) → IsSplit w → (i : Inset) → Contains is i → (x : ℕ) → x < length i.inner.nodes → x ≢ 0 → x ≢ finish i → Walk h (spot i x) (l ∷ w) → Within i x (l ∷ w)
  inner l w rest i c x lx other out walk = pick ((seat i c).inside x lx other out) (j.every l walk.0)
    where
      pick : (N ≤ spot i x) × (owner (spot i x) ≡ (i, x)) → (l < length g.edges) ⊎ ((i : Inset) × Contains is i × (e : ℕ) × (e < length i.inner.edges) × (l ≡ i.edges + e)) → Within i x (l ∷ w)
      pick here (inl le) = (let own = j.own l le in let at : source g l ≡ spot i x = sym own.1 ∙ walk.1 in absurd (omega (arith, at, own.3, here.0)))
      pick here (inr (k, ck, e, le, same)) =
          let edge = (seat k ck).edge e le in
          let at : spot k (source (shape k.inner) e) ≡ spot i x = sym edge.1 ∙ ap (source h) (sym same) ∙ walk.1 in
          elim (same_or_not (source (shape k.inner) e) 0) [
            | inl y ↦ (let outside : spot k (source (shape k.inner) e) ≡ k.from = ap (spot k) y in absurd (omega (arith, outside, at, (seat k ck).from, here.0)))
            | inr d ↦
                (let s = source_inside k ck e le d in
                let both : (k, source (shape k.inner) e) ≡ (i, x) = sym s.1 ∙ ap owner at ∙ here.1 in
                goes l w rest i x walk k (ap (λ (p : Inset × ℕ). p.0) both) ck e le same (ap (λ (p : Inset × ℕ). p.1) both))
          ]

  -- each walk is split
  pub split : (w : List ℕ) → IsSplit w
  split [] = (λ m l walk. inl (m, Here), λ i c x l other out walk. inl ([], walk, out, refl))
  split (l ∷ w) = (outer l w (split w), inner l w (split w))

  -- ---- and back

  walk-join : (m : ℕ) (a b : List ℕ) → Walk h m a → Walk h (Shapes.end_of h m a) b → Walk h m (a ++ b)
  walk-join m [] b wa wb = wb
  walk-join m (e ∷ a) b wa wb = (wa.0, wa.1, walk-join (target h e) a b wa.2 wb)

  end-join : (m : ℕ) (a b : List ℕ) → Shapes.end_of h m (a ++ b) ≡ Shapes.end_of h (Shapes.end_of h m a) b
  end-join m [] b = refl
  end-join m (e ∷ a) b = end-join (target h e) a b

  -- a walk of what is put in is a walk
  put-walk : (i : Inset) → Contains is i → (x : ℕ) (v : List ℕ) → Walk (shape i.inner) x v → Walk h (spot i x) (renamed i v) × (Shapes.end_of h (spot i x) (renamed i v) ≡ spot i (Shapes.end_of (shape i.inner) x v))
  put-walk i c x [] walk = (tt, refl)
  put-walk i c x (e ∷ v) walk =
      let few : e < length i.inner.edges = subst (λ n. e < n) (length-map i.inner.edges arrow_of) walk.0 in
      let edge = (seat i c).edge e few in
      let rest = put-walk i c (target (shape i.inner) e) v walk.2 in (
        (edge.0, edge.1 ∙ ap (spot i) walk.1, subst (λ n. Walk h n (renamed i v)) (sym edge.2) rest.0),
        ap (λ n. Shapes.end_of h n (renamed i v)) edge.2 ∙ rest.1,
      )

  -- a complete one leads from the one node of the use to the other
  put-complete : (i : Inset) → Contains is i → (v : List ℕ) → IsComplete i.inner v → Walk h i.from (renamed i v) × (Shapes.end_of h i.from (renamed i v) ≡ i.to)
  put-complete i c v full =
      let w = put-walk i c 0 v full.walk in
      let ends : Shapes.end_of (shape i.inner) 0 v ≡ finish i = is_end (finish i) _ (sym (seat i c).ends ∙ full.ends) in
      (w.0, w.1 ∙ ap (spot i) ends ∙ spot-end i (seat i c).late)
    where
      is_end : (m n : ℕ) → Some m ≡ Some n → n ≡ m
      is_end m n e = cc

  -- a filled walk is a walk to an outer node
  pub filled-walks : (m : ℕ) (w : List ℕ) (n : ℕ) → m < N → Filled g is m w n → Walk h m w × (Shapes.end_of h m w ≡ n) × (n < N)
  filled-walks m w n lt Here = (tt, refl, lt)
  filled-walks m w n lt (Along {e = e} {w = back} l f) =
      let own = j.own e l in
      let rest = filled-walks (target g e) back n own.4 f in
      ((own.0, own.1, subst (λ k. Walk h k back) (sym own.2) rest.0), ap (λ k. Shapes.end_of h k back) own.2 ∙ rest.1, rest.2)
  filled-walks m w n lt (Through {i = i} {v = v} {w = back} c full f) =
      let first = put-complete i c v full in
      let rest = filled-walks i.to back n (seat i c).to f in (
        walk-join i.from (renamed i v) back first.0 (subst (λ k. Walk h k back) (sym first.1) rest.0),
        end-join i.from (renamed i v) back ∙ ap (λ k. Shapes.end_of h k back) first.1 ∙ rest.1,
        rest.2,
      )

  -- so is one that pends
  pub pending-walks : (m : ℕ) (w : List ℕ) → m < N → Pending g is m w → Walk h m w
  pending-walks m w lt p =
      let first = filled-walks m p.prefix p.put.from lt p.filled in
      let back = put-walk p.put p.there 0 p.inner p.unfinished.walk in
      subst (Walk h m) (sym p.joined) (walk-join m p.prefix (renamed p.put p.inner) first.0 (subst (λ k. Walk h k (renamed p.put p.inner)) (sym first.1) back.0))
