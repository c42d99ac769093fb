-- The variables that a label writes, one after another, and their values.
use Rattle.std.proofs.Common.{◌≡◌, ℕ, ◌+◌, ◌<◌, ◌≤◌, List, [], ◌∷◌, ◌++◌, filter, length, sym, ap, ◌∙◌, arith, add-one, length-append}
use Rattle.std.proofs.lemmas.List.Elements.{filter-append}
use Rattle.sg_model.proofs.Numbers.{length-range_from, range_from-suc}
use Rattle.sg_model.proofs.Small.{length_filter}
use Rattle.sg_model.specs.Last.{Map}
use Rattle.sg_model.specs.Lists.{below, is_in, range_from}
use Rattle.sg_model.specs.Values.{Value}
use Rattle.sg_protocol.specs.Graph.{AreNumbers, Graph, kind_of, writes}
use Rattle.sg_role.proofs.Rising.{numbers_self}
use Rattle.sg_sessions.specs.Draws.{draw, if_in}
use Rattle.sg_drive.specs.Generated.{value_drawn, values_drawn}
use Rattle.sg_drive.specs.Going.{Going, drawing}
use Rattle.sg_drive.specs.Machine.{Machine}

-- those of these below a number
abbrev pub written_below : List ℕ → ℕ → List ℕ
written_below ws n = filter (λ x. is_in x ws) (below n)

pub below_more : (ws : List ℕ) (n : ℕ) → written_below ws (n + 1) ≡ written_below ws n ++ if_in n ws
below_more ws n =
    ap (λ k. filter (λ x. is_in x ws) (range_from 0 k)) (add-one n) ∙ ap (filter (λ x. is_in x ws)) (range_from-suc 0 n)
    ∙ filter-append (λ x. is_in x ws) (below n) ((0 + n) ∷ []) ∙ ap (λ k. written_below ws n ++ if_in k ws) (let z : 0 + n ≡ n = omega arith in z)

pub few_below : (ws : List ℕ) (n : ℕ) → length (written_below ws n) ≤ n
few_below ws n = let few = length_filter (λ x. is_in x ws) (below n) in let many = length-range_from 0 n in omega (arith, few, many)

values_both : (seed i : ℕ) (g : Graph) (xs ys : List ℕ) → values_drawn seed i g (xs ++ ys) ≡ values_drawn seed i g xs ++ values_drawn seed (i + length xs) g ys
values_both seed i g [] ys = ap (λ k. values_drawn seed k g ys) (let z : i ≡ i + 0 = omega arith in z)
values_both seed i g (x ∷ xs) ys =
    ap (λ (z : Map Value). (x, value_drawn (kind_of g x) (draw seed i)) ∷ z) (values_both seed (i + 1) g xs ys)
    ∙ ap (λ k. ((x, value_drawn (kind_of g x) (draw seed i)) ∷ values_drawn seed (i + 1) g xs) ++ values_drawn seed k g ys) (let z : (i + 1) + length xs ≡ i + length (x ∷ xs) = omega arith in z)

-- the run with so many draws more, twice
pub drawing_both : (m m1 m2 : Machine) (xs ys : List ℕ) → m1 ≡ record m { going = drawing (length xs) m.going } → m2 ≡ record m1 { going = drawing (length ys) m1.going } → m2 ≡ record m { going = drawing (length (xs ++ ys)) m.going }
drawing_both m m1 m2 xs ys a b =
    b ∙ ap (λ (z : Machine). let y : Machine = record z { going = drawing (length ys) z.going } in y) a
    ∙ ap (λ k. let x : Going = record (m.going) { draws = k } in let y : Machine = record m { going = x } in y)
    (let many = length-append xs ys in let z : (m.going.draws + length xs) + length ys ≡ m.going.draws + length (xs ++ ys) = omega (arith, many) in z)

-- and the values with more of them
pub values_more : (m m1 : Machine) (xs ys : List ℕ) (before now : Map Value) → m1 ≡ record m { going = drawing (length xs) m.going } → before ≡ values_drawn m.seed m.going.draws m.graph xs
    → now ≡ before ++ values_drawn m1.seed m1.going.draws m1.graph ys → now ≡ values_drawn m.seed m.going.draws m.graph (xs ++ ys)
values_more m m1 xs ys before now a b c =
    c ∙ (λ i. b i ++ values_drawn (a i).seed (a i).going.draws (a i).graph ys) ∙ sym (values_both m.seed m.going.draws m.graph xs ys)

-- ---- the loop

pub draws_few : (ws : List ℕ) (m m1 : Machine) (n : ℕ) → m1 ≡ record m { going = drawing (length (written_below ws n)) m.going } → m.going.draws ≤ 600000000 → n ≤ 256 → m1.going.draws < 1000000000
draws_few ws m m1 n e h k =
    let now : m1.going.draws ≡ m.going.draws + length (written_below ws n) = ap (λ (z : Machine). z.going.draws) e in
    let few = few_below ws n in
    omega (arith, now, few, h, k)

pub both_more : (ws : List ℕ) (n : ℕ) (m m1 m2 : Machine) (before now : Map Value) → m1 ≡ record m { going = drawing (length (written_below ws n)) m.going } → before ≡ values_drawn m.seed m.going.draws m.graph (written_below ws n)
    → m2 ≡ record m1 { going = drawing (length (if_in n ws)) m1.going } → now ≡ before ++ values_drawn m1.seed m1.going.draws m1.graph (if_in n ws)
    → (m2 ≡ record m { going = drawing (length (written_below ws (n + 1))) m.going }) × (now ≡ values_drawn m.seed m.going.draws m.graph (written_below ws (n + 1)))
both_more ws n m m1 m2 before now a b c d = (
  drawing_both m m1 m2 (written_below ws n) (if_in n ws) a c ∙ ap (λ (xs : List ℕ). let y : Machine = record m { going = drawing (length xs) m.going } in y) (sym (below_more ws n)),
  values_more m m1 (written_below ws n) (if_in n ws) before now a b d ∙ ap (λ (xs : List ℕ). values_drawn m.seed m.going.draws m.graph xs) (sym (below_more ws n)),
)

pub all_written : (g : Graph) (label : ℕ) (ws : List ℕ) (n : ℕ) → ws ≡ writes g label → AreNumbers (length g.variables) ws → n ≡ length g.variables → written_below ws n ≡ writes g label
all_written g label ws n e a q = ap (λ k. written_below ws k) q ∙ numbers_self (length g.variables) ws a ∙ e
