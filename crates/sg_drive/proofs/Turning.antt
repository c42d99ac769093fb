-- Turns of a group: nothing changes if no frame is pending, so there is one end, and what stops before it stops the whole.
use Rattle.std.proofs.Common.{◌≡◌, ℕ, zero, suc, ◌+◌, ◌-◌, ◌*◌, ◌%◌, ◌<◌, ◌≤◌, nat_le, inl, inr, List, [], length, min, slice_get, refl, sym, ap, ◌∙◌, subst, arith}
use Rattle.std.proofs.lemmas.Bool.{cases_Bool}
use Rattle.std.proofs.lemmas.Bool.Decides.{nat_tests}
use Rattle.sg_protocol.specs.Graph.{Graph}
use Rattle.sg_sessions.specs.Draws.{draw}
use Rattle.sg_drive.specs.Faults.{IsStopped}
use Rattle.sg_drive.specs.Generated.{AreGroups, IsGroup, begin_all, take_out, turn, turns}
use Rattle.sg_drive.specs.Going.{Going, Pending, beginning}
use Rattle.sg_drive.specs.Laws.{GeneratedIsOne}
use Rattle.sg_drive.specs.declared.fault.GenerateFault.{GenerateFault}
use Rattle.sg_drive.proofs.Extends.{Goes, extends_both, extends_itself, goes_turn, stopped_more}

module _ (seed : ℕ) (g : Graph) where
  -- if no frame is pending, a turn changes nothing
  pub turn_none : (x : Going) → x.pending ≡ [] → turn seed g x ≡ x
  turn_none x h = let index : ℕ = draw seed x.draws % length x.pending in ap (λ (ps : List Pending). take_out seed g index (slice_get ps index) x) h

  -- nor do more
  later : (n k m : ℕ) (x : Going) → (turns n seed g x).pending ≡ [] → m ≡ n + k → turns m seed g x ≡ turns n seed g x
  later n zero m x h e = let same : m ≡ n = omega (arith, e) in ap (λ z. turns z seed g x) same
  later n (suc k) zero x h e = absurd (omega (arith, e))
  later n (suc k) (suc m) x h e =
      let before : turns m seed g x ≡ turns n seed g x = later n k m x h (omega (arith, e)) in
      ap (turn seed g) before ∙ turn_none (turns n seed g x) h

  later_than : (n m : ℕ) (x : Going) → (turns n seed g x).pending ≡ [] → n ≤ m → turns m seed g x ≡ turns n seed g x
  later_than n m x h l = later n (m - n) m x h (omega (arith, l))

  -- there is one end
  pub one_end : (n m : ℕ) (x : Going) → (turns n seed g x).pending ≡ [] → (turns m seed g x).pending ≡ [] → turns n seed g x ≡ turns m seed g x
  one_end n m x h k = elim (cases_Bool (nat_le n m)) [
    | inl e ↦ sym (later_than n m x h (grind (arith, nat_tests)))
    | inr e ↦ later_than m n x k (grind (arith, nat_tests))
  ]

  pub goes_on_turns : (n m : ℕ) (x : Going) → n ≤ m → Goes (turns n seed g x) (turns m seed g x)
  goes_on_turns n zero x l = let same : n ≡ zero = omega (arith, l) in subst (λ z. Goes (turns z seed g x) x) (sym same) (extends_itself x.replay)
  goes_on_turns n (suc m) x l = elim (cases_Bool (nat_le n m)) [
    | inl e ↦ extends_both (turns n seed g x).replay (turns m seed g x).replay (turn seed g (turns m seed g x)).replay (goes_on_turns n m x (grind (arith, nat_tests))) (goes_turn seed g (turns m seed g x))
    | inr e ↦ (let above : m < n = grind (arith, nat_tests) in let same : n ≡ suc m = omega (arith, l, above) in subst (λ z. Goes (turns z seed g x) (turns (suc m) seed g x)) (sym same) (extends_itself (turns (suc m) seed g x).replay))
  ]

  -- a turn that is stopped, if a frame is pending before it, stops the whole
  pub turn_stopped : (i n : ℕ) (x : Going) (e : GenerateFault) → ((turns i seed g x).pending ≡ [] → ⊥) → (turns n seed g x).pending ≡ [] → IsStopped (turn seed g (turns i seed g x)).replay e → IsStopped (turns n seed g x).replay e
  turn_stopped i n x e some over stopped = elim (cases_Bool (nat_le n i)) [
    | inl q ↦ absurd (some (ap (λ (z : Going). z.pending) (later_than n i x over (grind (arith, nat_tests))) ∙ over))
    | inr q ↦ stopped_more (turns (suc i) seed g x).replay (turns n seed g x).replay e (goes_on_turns (suc i) n x (let l : i < n = grind (arith, nat_tests) in omega (arith, l))) stopped
  ]

  -- ---- groups

  pub group_is_one : (first count : ℕ) (x y z : Going) → IsGroup seed g first count x y → IsGroup seed g first count x z → y ≡ z
  group_is_one first count x y z a b =
      a.is ∙ one_end a.count_of_turns b.count_of_turns (begin_all seed g first count x) (ap (λ (w : Going). w.pending) (sym a.is) ∙ a.over) (ap (λ (w : Going). w.pending) (sym b.is) ∙ b.over) ∙ sym b.is

  groups_are_one : (n sessions : ℕ) (x y z : Going) → AreGroups n seed sessions g x y → AreGroups n seed sessions g x z → y ≡ z
  groups_are_one zero sessions x y z a b = a ∙ sym b
  groups_are_one (suc n) sessions x y z a b =
      let same : b.0 ≡ a.0 = groups_are_one n sessions x b.0 a.0 b.1 a.1 in
      group_is_one (16 * n) (min 16 (sessions - 16 * n)) a.0 y z a.2 (subst (λ (w : Going). IsGroup seed g (16 * n) (min 16 (sessions - 16 * n)) w z) same b.2)

  -- after some groups no frame is pending, if none was before them
  none_pending : (n sessions : ℕ) (x y : Going) → x.pending ≡ [] → AreGroups n seed sessions g x y → y.pending ≡ []
  none_pending zero sessions x y h a = ap (λ (w : Going). w.pending) a ∙ h
  none_pending (suc n) sessions x y h a = a.2.over

  -- groups after all sessions have begun change nothing
  group_of_none : (first : ℕ) (x y : Going) → x.pending ≡ [] → IsGroup seed g first 0 x y → y ≡ x
  group_of_none first x y h a = a.is ∙ later_than 0 a.count_of_turns x h (omega arith)

  more_groups : (n k m sessions : ℕ) (x y z : Going) → x.pending ≡ [] → sessions ≤ 16 * n → m ≡ n + k → AreGroups n seed sessions g x y → AreGroups m seed sessions g x z → z ≡ y
  more_groups n zero m sessions x y z h few e a b = let same : m ≡ n = omega (arith, e) in sym (groups_are_one n sessions x y z a (subst (λ w. AreGroups w seed sessions g x z) same b))
  more_groups n (suc k) zero sessions x y z h few e a b = absurd (omega (arith, e))
  more_groups n (suc k) (suc m) sessions x y z h few e a b =
      let none : min 16 (sessions - 16 * m) ≡ 0 = omega (arith, few, e) in
      let last : IsGroup seed g (16 * m) 0 b.0 z = subst (λ w. IsGroup seed g (16 * m) w b.0 z) none b.2 in
      group_of_none (16 * m) b.0 z (none_pending m sessions x b.0 h b.1) last ∙ more_groups n k m sessions x y b.0 h few (omega (arith, e)) a b.1

pub generated_is_one : GeneratedIsOne
generated_is_one seed sessions g programs x y a b = elim (cases_Bool (nat_le a.groups b.groups)) [
  | inl e ↦ sym (more_groups seed g a.groups (b.groups - a.groups) b.groups sessions (beginning sessions g programs) x y refl a.all (let l : a.groups ≤ b.groups = grind (arith, nat_tests) in omega (arith, l)) a.are b.are)
  | inr e ↦ more_groups seed g b.groups (a.groups - b.groups) a.groups sessions (beginning sessions g programs) y x refl b.all (let l : b.groups < a.groups = grind (arith, nat_tests) in omega (arith, l)) b.are a.are
]
