-- How many sessions are live.
use Rattle.std.specs.Prelude.{◌≡◌, ℕ, zero, suc, ◌+◌, ◌-◌, ◌<◌, ◌≤◌, List, [], ◌∷◌, ◌++◌, length, refl, Option, None, Some}
use Rattle.std.specs.List.{AllByRecursion}
use Rattle.std.proofs.Common.{ap, arith}
use Rattle.std.proofs.lemmas.List.{length-append}
use Rattle.indexmap.specs.IndexMap.{set_value_at}
use Rattle.sg_node.specs.declared.sessions.Live.{Live}
use Rattle.sg_node.specs.Slots.{Slot, held_at, held_in, HoldsTable}
use Rattle.sg_node.proofs.Indices.{live_at}

at_most_one : (o : Option Live) → length (held_at o) ≤ 1
at_most_one None = omega arith
at_most_one (Some l) = omega arith

-- no more than there are slots
pub few_held : (ss : List Slot) → length (held_in ss) ≤ length ss
few_held [] = omega arith
few_held (s ∷ ss) = let a = length-append (held_at s.1) (held_in ss) in let b = at_most_one s.1 in let c = few_held ss in omega (arith, a, b, c)

-- a slot that is written
pub held_set : (ss : List Slot) (i : ℕ) (w : Option Live) → i < length ss → length (held_in ss) + length (held_at w) ≡ length (held_in (set_value_at ss i w)) + length (held_at (live_at ss i))
held_set [] i w l = absurd (omega (arith, l))
held_set (s ∷ ss) zero w l = let a = length-append (held_at s.1) (held_in ss) in let b = length-append (held_at w) (held_in ss) in omega (arith, a, b)
held_set (s ∷ ss) (suc i) w l = let a = length-append (held_at s.1) (held_in ss) in let b = length-append (held_at s.1) (held_in (set_value_at ss i w)) in let c = held_set ss i w (omega (arith, l)) in omega (arith, a, b, c)

roles_set : (n : ℕ) (ss : List Slot) (i : ℕ) (w : Option Live) → AllByRecursion (λ (s : Slot). (s.0).1 < n) ss → AllByRecursion (λ (s : Slot). (s.0).1 < n) (set_value_at ss i w)
roles_set n [] i w h = tt
roles_set n (s ∷ ss) zero w h = h
roles_set n (s ∷ ss) (suc i) w h = (h.0, roles_set n ss i w h.1)

roles_last : (n m : ℕ) (ss : List Slot) (s : Slot) → n ≤ m → (s.0).1 < m → AllByRecursion (λ (s : Slot). (s.0).1 < n) ss → AllByRecursion (λ (s : Slot). (s.0).1 < m) (ss ++ s ∷ [])
roles_last n m [] s w l h = (l, tt)
roles_last n m (t ∷ ss) s w l h = let first = h.0 in (omega (arith, first, w), roles_last n m ss s w l h.1)

held_last : (ss : List Slot) (k : List ℕ × ℕ) (l : Live) → length (held_in (ss ++ (k, Some l) ∷ [])) ≡ length (held_in ss) + 1
held_last [] k l = refl
held_last (s ∷ ss) k l = let a = length-append (held_at s.1) (held_in ss) in let b = length-append (held_at s.1) (held_in (ss ++ (k, Some l) ∷ [])) in let c = held_last ss k l in omega (arith, a, b, c)

module _ (ss : List Slot) (n bound : ℕ) (h : HoldsTable ss n bound) where
  pub holds_put : (i : ℕ) (l : Live) → i < length ss → live_at ss i ≡ None → HoldsTable (set_value_at ss i (Some l)) (n + 1) bound
  holds_put i l w e = record {
    count = let a = held_set ss i (Some l) w in let b : length (held_at (live_at ss i)) ≡ 0 = ap (λ o. length (held_at o)) e in let c = h.count in omega (arith, a, b, c);
    roles = roles_set bound ss i (Some l) h.roles;
  }

  pub holds_last : (k : List ℕ × ℕ) (l : Live) (m : ℕ) → bound ≤ m → k.1 < m → HoldsTable (ss ++ (k, Some l) ∷ []) (n + 1) m
  holds_last k l m more w = record {
    count = let a = held_last ss k l in let c = h.count in omega (arith, a, c);
    roles = roles_last bound m ss (k, Some l) more w h.roles;
  }

  pub holds_taken : (i : ℕ) (l : Live) → i < length ss → live_at ss i ≡ Some l → HoldsTable (set_value_at ss i None) (n - 1) bound × (1 ≤ n)
  holds_taken i l w e =
      let a = held_set ss i None w in let b : length (held_at (live_at ss i)) ≡ 1 = ap (λ o. length (held_at o)) e in let c = h.count in
      (record { count = omega (arith, a, b, c); roles = roles_set bound ss i None h.roles }, omega (arith, a, b, c))

  pub holds_empty : (i : ℕ) → i < length ss → live_at ss i ≡ None → HoldsTable (set_value_at ss i None) n bound
  holds_empty i w e = record {
    count = let a = held_set ss i None w in let b : length (held_at (live_at ss i)) ≡ 0 = ap (λ o. length (held_at o)) e in let c = h.count in omega (arith, a, b, c);
    roles = roles_set bound ss i None h.roles;
  }
