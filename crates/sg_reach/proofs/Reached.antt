-- What a search has found at its end.
use Rattle.std.proofs.Common.{◌≡◌, ℕ, zero, suc, ◌<◌, ◌≤◌, true, List, [], ◌∷◌, refl, sym, subst, inl, inr, arith}
use Rattle.std.specs.Prelude.{Option, Some, None, is_some, option_map}
use Rattle.sg_model.specs.Shape.{Shape, source, target}
use Rattle.sg_reach.specs.WalkEnd.{found_at, IsFound, edges_to, IsFoundBy, AreWalks, IsSearch}
use Rattle.sg_reach.specs.Reaches.{LeadsPast, Reaches}
use Rattle.sg_reach.specs.declared.search.WalkEnd.{WalkEnd}
use Rattle.sg_reach.specs.declared.search.Search.{Search}
use Rattle.sg_reach.proofs.Leads.{leads_nowhere, leads_by, first_free, first_off}

-- how a node was found to which a walk has some edges
pub found_with : (found : List (Option WalkEnd)) (n k : ℕ) → edges_to found n ≡ Some k → (f : WalkEnd) × (found_at found n ≡ Some f) × (f.edges ≡ k)
found_with found n k h = of (found_at found n) refl h
  where
    of : (o : Option WalkEnd) → found_at found n ≡ o → option_map (λ (f : WalkEnd). f.edges) o ≡ Some k → (f : WalkEnd) × (found_at found n ≡ Some f) × (f.edges ≡ k)
    of (Some f) is h = (f, is, cc)
    of None is h = absurd (cc)

-- what leads on from a node that was found leads on from the beginning too
pub leads_from : (g : Shape) (m : ℕ) (past : List ℕ) (found : List (Option WalkEnd)) (t k n last : ℕ) (es : List ℕ) → AreWalks g m past found → IsFoundBy g m past found n k last → LeadsPast g n past t es → Reaches g m past t
leads_from g m past found t zero n last es walks by x = (es, subst (λ j. LeadsPast g j past t es) by x)
leads_from g m past found t (suc k) n last es walks by x =
    let before = found_with found (source g last) k by.3 in
    let x' : LeadsPast g (target g last) past t es = subst (λ j. LeadsPast g j past t es) (sym by.1) x in
    let more : LeadsPast g (source g last) past t (last ∷ es) = leads_by g past t last es by.0 by.2 x' in
    let by' : IsFoundBy g m past found (source g last) before.0.edges before.0.last = walks (source g last) before.0 before.1 in
    let by'' : IsFoundBy g m past found (source g last) k before.0.last = subst (λ j. IsFoundBy g m past found (source g last) j before.0.last) before.2 by' in
    leads_from g m past found t k (source g last) before.0.last (last ∷ es) walks by'' more

-- a node that was found is reached
pub is_reached : (g : Shape) (left : ℕ → Type 0) (s : Search) (n : ℕ) → IsSearch g left s → IsFound s.found n → Reaches g s.from s.past n
is_reached g left s n x f = of (found_at s.found n) refl f
  where
    of : (o : Option WalkEnd) → found_at s.found n ≡ o → is_some o ≡ true → Reaches g s.from s.past n
    of (Some w) is h = leads_from g s.from s.past s.found n w.edges n w.last [] x.found.walks (x.found.walks n w is) (leads_nowhere g n s.past)
    of None is h = absurd (cc)

-- once no node waits, a walk from a node that was found ends at one
pub found_at_end : (g : Shape) (s : Search) (m n : ℕ) (es : List ℕ) → IsSearch g (λ _. ⊥) s → s.count ≤ s.at → IsFound s.found m → LeadsPast g m s.past n es → IsFound s.found n
found_at_end g s m n [] x over f w = subst (IsFound s.found) w.ends f
found_at_end g s m n (e ∷ es) x over f w =
    let f' : IsFound s.found (source g e) = subst (IsFound s.found) (sym w.walk.1) f in
    elim (x.closed e w.walk.0 f' (first_free g m s.past n e es w)) [
      | inl t ↦ found_at_end g s (target g e) n es x over t (first_off g m s.past n e es w)
      | inr r ↦ elim r [ inl q ↦ absurd (omega (arith, q.1, q.2, over)) | inr y ↦ absurd y ]
    ]

-- the last edge of a walk that has one
pub last_edge : (g : Shape) (m : ℕ) (past : List ℕ) (found : List (Option WalkEnd)) (n : ℕ) (f : WalkEnd) → AreWalks g m past found → found_at found n ≡ Some f → 0 < f.edges
    → (k : ℕ) × (f.edges ≡ suc k) × IsFoundBy g m past found n (suc k) f.last
last_edge g m past found n f walks is some = of f.edges refl some (walks n f is)
  where
    of : (e : ℕ) → f.edges ≡ e → 0 < e → IsFoundBy g m past found n e f.last → (k : ℕ) × (f.edges ≡ suc k) × IsFoundBy g m past found n (suc k) f.last
    of zero same h by = absurd (omega arith)
    of (suc k) same h by = (k, same, by)

-- a walk without edges stays at m
pub no_edge : (g : Shape) (m : ℕ) (past : List ℕ) (found : List (Option WalkEnd)) (n : ℕ) (f : WalkEnd) → AreWalks g m past found → found_at found n ≡ Some f → f.edges ≤ 0 → n ≡ m
no_edge g m past found n f walks is none = of f.edges none (walks n f is)
  where
    of : (e : ℕ) → e ≤ 0 → IsFoundBy g m past found n e f.last → n ≡ m
    of zero h by = by
    of (suc k) h by = absurd (omega arith)
