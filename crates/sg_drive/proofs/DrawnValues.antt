-- What is drawn: numbers below 65,536, values in range, labels of the graph.
use Rattle.std.proofs.Common.{◌≡◌, ℕ, zero, suc, ◌+◌, ◌-◌, ◌%◌, ◌<◌, ◌≤◌, ◌==◌, Bool, true, false, not, nat_lt, List, [], ◌∷◌, ◌++◌, length, map, filter, get_or, pos, FitsSigned, refl, subst, inl, inr, arith}
use Rattle.std.specs.Fmt.{decimal}
use Rattle.std.specs.Int.{w64}
use Rattle.std.specs.List.{AllByRecursion, list_all}
use Rattle.std.proofs.lemmas.Bool.{and_parts, cases_Bool}
use Rattle.std.proofs.lemmas.Bool.Decides.{nat_tests}
use Rattle.std.proofs.lemmas.Int.{ints}
use Rattle.std.proofs.lemmas.Fmt.{IsAscii-decimal, length-decimal-le}
use Rattle.std.proofs.lemmas.List.{length-map}
use Rattle.std.proofs.lemmas.List.Elements.{recursion_from_All}
use Rattle.std.proofs.lemmas.Str.{IsUtf8-from_ascii, is_utf8-from_IsUtf8}
use Rattle.sg_graph.specs.Edges.{leaving_from}
use Rattle.sg_model.specs.Bytes.{AreBytes}
use Rattle.sg_model.specs.Last.{Map}
use Rattle.sg_model.specs.Lists.{below, range_from, rises_from}
use Rattle.sg_model.specs.Shape.{Arrow, source}
use Rattle.sg_model.specs.Values.{Value}
use Rattle.sg_protocol.proofs.Progressing.{confounder_length}
use Rattle.sg_protocol.proofs.Moves.{writes_below}
use Rattle.sg_protocol.proofs.Spelled.{bytes-append, to_bytes, u64_bytes}
use Rattle.sg_protocol.specs.Frame.{IsValue}
use Rattle.sg_protocol.specs.Graph.{AreNumbers, Edge, Graph, Int, IsGraph, Text, VariableKind, kind_of, shape, writes}
use Rattle.sg_protocol.specs.Ranges.{AreValues}
use Rattle.sg_protocol.specs.Schedule.{confounder}
use Rattle.sg_protocol.specs.Spelling.{u64}
use Rattle.sg_sessions.specs.Draws.{draw}
use Rattle.sg_drive.specs.Generated.{chosen, value_drawn, values_drawn}

-- ---- values

pub draw_small : (seed i : ℕ) → draw seed i < 65536
draw_small seed i = omega arith

small_fits : (n : ℕ) → n ≤ 9223372036854775807 → FitsSigned w64 (pos n)
small_fits n h = omega (arith, ints, h)

drawn_is_value : (kind : VariableKind) (d : ℕ) → d < 65536 → IsValue (value_drawn kind d)
drawn_is_value Int d h = small_fits d (omega arith)
drawn_is_value Text d h =
    let a = IsAscii-decimal d (omega arith) in
    let l = length-decimal-le 5 d (omega arith) (omega arith) (omega arith) in
    (is_utf8-from_IsUtf8 (decimal d) (IsUtf8-from_ascii (decimal d) a), omega (arith, l), λ i. let b = a i in omega (arith, b))

pub drawn_are_values : (seed i : ℕ) (g : Graph) (xs : List ℕ) → AllByRecursion (λ x. x < 256) xs → AllByRecursion (λ (w : ℕ × Value). (w.0 < 256) × IsValue w.1) (values_drawn seed i g xs)
drawn_are_values seed i g [] a = tt
drawn_are_values seed i g (x ∷ xs) a = ((a.0, drawn_is_value (kind_of g x) (draw seed i) (draw_small seed i)), drawn_are_values seed (i + 1) g xs a.1)

all_below : (m n : ℕ) → m ≤ n → (xs : List ℕ) → AllByRecursion (λ x. x < m) xs → AllByRecursion (λ x. x < n) xs
all_below m n l [] a = tt
all_below m n l (x ∷ xs) a = ((let b = a.0 in omega (arith, b, l)), all_below m n l xs a.1)

-- the variables that a label writes are few
pub written_small : (g : Graph) → IsGraph g → (e : ℕ) → AllByRecursion (λ x. x < 256) (writes g e)
written_small g is e = all_below (length g.variables) 256 (let s = is.sizes.1 in omega (arith, s)) (writes g e) (writes_below g is e)

-- numbers that rise are no more than there are
few_rising : (k n : ℕ) (xs : List ℕ) → rises_from k xs ≡ true → AllByRecursion (λ x. x < n) xs → length xs ≤ n - k
few_rising k n [] r a = omega arith
few_rising k n (x ∷ xs) r a =
    let b = and_parts (not (nat_lt x k)) (rises_from (suc x) xs) r in
    let above : k ≤ x = not_below x k b.0 in
    let rest = few_rising (suc x) n xs b.1 a.1 in
    let here : x < n = a.0 in
    omega (arith, above, rest, here)
  where
    not_below : (x k : ℕ) → not (nat_lt x k) ≡ true → k ≤ x
    not_below x k h = elim (cases_Bool (nat_lt x k)) [ inl e ↦ absurd (let z : false ≡ true = rw e at h in cc) | inr e ↦ grind (arith, nat_tests) ]

pub written_few : (g : Graph) → IsGraph g → (e : ℕ) → length (writes g e) ≤ 32
written_few g is e =
    let few = few_rising 0 (length g.variables) (writes g e) (go g.edges (recursion_from_All (λ (e : Edge). AreNumbers (length g.variables) e.writes × AreNumbers (length g.variables) e.reads) g.edges is.variables) e) (writes_below g is e) in
    let most = is.sizes.1 in
    omega (arith, few, most)
  where
    go : (es : List Edge) → AllByRecursion (λ (e : Edge). AreNumbers (length g.variables) e.writes × AreNumbers (length g.variables) e.reads) es → (k : ℕ) →
        rises_from 0 (get_or (map {B = Arrow} (λ (e : Edge). record { source = e.source; target = e.target; writes = e.writes; reads = e.reads }) es) k (record { source = 0; target = 0; writes = []; reads = [] })).writes ≡ true
    go [] a k = refl
    go (e ∷ es) a zero = (and_parts (rises_from 0 e.writes) (list_all (λ k. nat_lt k (length g.variables)) e.writes) a.0.0).0
    go (e ∷ es) a (suc k) = go es a.1 k

-- each has a confounder
pub confounded : (k : ℕ) (vs : Map Value) → AllByRecursion (λ (w : ℕ × Value). (w.0 < 256) × IsValue w.1) vs → AreValues vs (map (λ (v : ℕ × Value). confounder k v.0) vs)
confounded k vs a = record { each = a; count = length-map vs (λ (v : ℕ × Value). confounder k v.0); bytes = bytes vs }
  where
    bytes : (vs : Map Value) → AllByRecursion (AreBytes 16) (map (λ (v : ℕ × Value). confounder k v.0) vs)
    bytes [] = tt
    bytes (v ∷ vs) = ((confounder_length k v.0, to_bytes (u64 k ++ u64 v.0) (bytes-append (u64 k) (u64 v.0) (u64_bytes k) (u64_bytes v.0))), bytes vs)

-- ---- labels

filter_all : (P : ℕ → Type 0) (q : ℕ → Bool) (xs : List ℕ) → AllByRecursion P xs → AllByRecursion P (filter q xs)
filter_all P q [] a = tt
filter_all P q (x ∷ xs) a = elim (cases_Bool (q x)) [ inl e ↦ rw e (a.0, filter_all P q xs a.1) | inr e ↦ rw e (filter_all P q xs a.1) ]

range_below : (k n m : ℕ) → k + n ≤ m → AllByRecursion (λ x. x < m) (range_from k n)
range_below k zero m l = tt
range_below k (suc n) m l = (omega (arith, l), range_below (suc k) n m (omega (arith, l)))

get_all : (P : ℕ → Type 0) (xs : List ℕ) (i d : ℕ) → AllByRecursion P xs → i < length xs → P (get_or xs i d)
get_all P [] i d a l = absurd (omega (arith, l))
get_all P (x ∷ xs) zero d a l = a.0
get_all P (x ∷ xs) (suc i) d a l = get_all P xs i d a.1 (omega (arith, l))

-- the chosen one of the labels that leave a node is one of the graph
pub chosen_there : (g : Graph) (node : ℕ) (e : ℕ) (es : List ℕ) (d : ℕ) → leaving_from g node ≡ e ∷ es → chosen (e ∷ es) d < length g.edges
chosen_there g node e es d h =
    get_all (λ x. x < length g.edges) (e ∷ es) (d % length (e ∷ es)) 0
    (subst (AllByRecursion (λ x. x < length g.edges)) h (filter_all (λ x. x < length g.edges) (λ x. source (shape g) x == node) (below (length g.edges)) (range_below 0 (length g.edges) (length g.edges) (omega arith))))
    (omega arith)
