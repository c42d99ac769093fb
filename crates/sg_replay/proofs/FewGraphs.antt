-- A schedule has no more graphs than its text has bytes.
use Rattle.std.proofs.Common.{ℕ, suc, ◌+◌, ◌≤◌, ◌==◌, Bool, true, false, List, [], ◌∷◌, length, if◌then◌else◌, ap, subst, arith}
use Rattle.std.specs.List.{onto_first}
use Rattle.std.proofs.lemmas.List.{length-append}
use Rattle.sg_protocol.specs.Graph.{Edge}
use Rattle.sg_protocol.specs.Schedule.{Schedule}
use Rattle.sg_protocol.specs.Texts.{Hash}
use Rattle.sg_sched.specs.Pair.{graphs_of}
use Rattle.sg_sched.specs.Text.{lines}
use Rattle.sg_sched.specs.Format.Items.{Item, GraphItem, EdgeItem, HonestItem, KeyItem, SessionItem, StepItem, blocks, edges}
use Rattle.sg_sched.specs.Format.Spells.{Line, Add, Skip, Say, Show, Declare, Nothing, Next, SpellsSchedule}

-- ---- lines

onto : (c : ℕ) (ls : List Line) → length (onto_first c ls) ≤ suc (length ls)
onto c [] = omega arith
onto c (l ∷ ls) = omega arith

few_lines : (bytes : List ℕ) → length (lines bytes) ≤ length bytes
few_lines [] = omega arith
few_lines (c ∷ cs) = by (c == 10) (few_lines cs)
  where
    by : (b : Bool) → length (lines cs) ≤ length cs → length (if b then (c ∷ []) ∷ lines cs else onto_first c (lines cs)) ≤ suc (length cs)
    by true h = omega (arith, h)
    by false h = let k = onto c (lines cs) in omega (arith, h, k)

-- ---- items

few_new : (before : List Item) (ls : List Line) (new : List Item) → Add before ls new → length new ≤ length ls
few_new before _ _ (Skip h) = omega arith
few_new before _ _ (Say says no_fault makes) = omega arith
few_new before _ _ (Show b spelled fresh) = let k = ap (λ (ls : List Line). length ls) b.all in omega (arith, k)

few_items : {ls : List Line} {items : List Item} → Declare ls items → length items ≤ length ls
few_items Nothing = omega arith
few_items (Next {first = first} {more = more} {items = items} {new = new} d a) =
    let h = few_items d in
    let k = few_new items more new a in
    let l = length-append first more in
    let m = length-append items new in
    omega (arith, h, k, l, m)

few_parts : (items : List Item) → length (blocks items) + length (edges items) ≤ length items
few_parts [] = omega arith
few_parts (GraphItem g ∷ is) = let h = few_parts is in omega (arith, h)
few_parts (EdgeItem e ∷ is) = let h = few_parts is in omega (arith, h)
few_parts (HonestItem who ∷ is) = let h = few_parts is in omega (arith, h)
few_parts (KeyItem k ∷ is) = let h = few_parts is in omega (arith, h)
few_parts (SessionItem s ∷ is) = let h = few_parts is in omega (arith, h)
few_parts (StepItem s ∷ is) = let h = few_parts is in omega (arith, h)

one_pair : (es : List Edge) → length (graphs_of es) ≤ length es
one_pair [] = omega arith
one_pair (e ∷ es) = omega arith

-- ---- the schedule

pub few_graphs : (sha : Hash) (bytes : List ℕ) (s : Schedule) → SpellsSchedule sha bytes s → length s.graphs ≤ length bytes
few_graphs sha bytes s h =
    subst (λ (t : Schedule). length t.graphs ≤ length bytes) h.schedule
    (let a = length-append (blocks h.items) (graphs_of (edges h.items)) in
    let b = one_pair (edges h.items) in
    let c = few_parts h.items in
    let d = few_items h.declared in
    let e = few_lines bytes in
    omega (arith, a, b, c, d, e))
