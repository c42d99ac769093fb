-- A node and a view are known by their key.
use Rattle.std.proofs.Common.{◌≡◌, ℕ, zero, suc, ◌<◌, nat_eq, Bool, true, false, List, [], ◌∷◌, map, length, get_or, Option, Some, None, Vec, Global, refl, sym, ap, ◌∙◌, subst, inl, inr, arith, true≢false}
use Rattle.std.specs.List.{flat_map}
use Rattle.std.specs.Map.{lookup}
use Rattle.std.specs.Option.{is_some}
use Rattle.std.specs.Cmp.Lexicographic.{pointwise}
use Rattle.std.proofs.lemmas.Bool.{cases_Bool}
use Rattle.std.proofs.lemmas.Bool.Decides.{Decides-eqb}
use Rattle.std.proofs.lemmas.List.{length-map, get_or-map}
use Rattle.std.proofs.lemmas.List.Elements.{All-head, All-tail}
use Rattle.std.proofs.lemmas.Slice.Eq.{slice_eq-Decides}
use Rattle.sg_base.specs.Sets.{members}
use Rattle.sg_protocol.specs.Evidence.{Seen, View, mask}
use Rattle.sg_views.specs.Keys.{key_of, AreSets, AreKeyed}
use Rattle.sg_vis.specs.Order.{origin_number}
use Rattle.sg_views.specs.Search.{HasState}
use Rattle.sg_views.specs.declared.states.State.{State}

same_origin : (o p : Option ℕ) → origin_number o ≡ origin_number p → o ≡ p
same_origin None None e = refl
same_origin None (Some b) e = absurd (omega arith)
same_origin (Some a) None e = absurd (omega arith)
same_origin (Some a) (Some b) e = let f : a ≡ b = omega arith in ap Some f

same_items : (xs ys : List Seen) → flat_map (λ (s : Seen). s.label ∷ mask s.delta ∷ []) xs ≡ flat_map (λ (s : Seen). s.label ∷ mask s.delta ∷ []) ys → AreSets xs → AreSets ys → xs ≡ ys
same_items [] [] e h k = refl
same_items [] (y ∷ ys) e h k = absurd (cc)
same_items (x ∷ xs) [] e h k = absurd (cc)
same_items (x ∷ xs) (y ∷ ys) e h k =
    let label : x.label ≡ y.label = cc in
    let masks : mask x.delta ≡ mask y.delta = cc in
    let rest : flat_map (λ (s : Seen). s.label ∷ mask s.delta ∷ []) xs ≡ flat_map (λ (s : Seen). s.label ∷ mask s.delta ∷ []) ys = cc in
    let delta : x.delta ≡ y.delta =
    sym (All-head (λ (s : Seen). members 32 (mask s.delta) ≡ s.delta) x xs h) ∙ ap (members 32) masks ∙ All-head (λ (s : Seen). members 32 (mask s.delta) ≡ s.delta) y ys k in
    let tail : xs ≡ ys = same_items xs ys rest (All-tail (λ (s : Seen). members 32 (mask s.delta) ≡ s.delta) x xs h) (All-tail (λ (s : Seen). members 32 (mask s.delta) ≡ s.delta) y ys k) in
    λ i. record { label = label i; delta = delta i } ∷ tail i

-- nodes and views with one key are the same
same_key : (n m : ℕ) (v w : View) → key_of n v ≡ key_of m w → AreSets v.items → AreSets w.items → (n ≡ m) × (v ≡ w)
same_key n m v w e h k =
    let node : n ≡ m = cc in
    let number : origin_number v.origin ≡ origin_number w.origin = cc in
    let numbers : flat_map (λ (s : Seen). s.label ∷ mask s.delta ∷ []) v.items ≡ flat_map (λ (s : Seen). s.label ∷ mask s.delta ∷ []) w.items = cc in
    let origin = same_origin v.origin w.origin number in
    let items = same_items v.items w.items numbers h k in
    (node, λ i. record { origin = origin i; items = items i })

-- if a key is looked up and found, an entry passes; if it is not, none does
looked_up : {K X : Type 0} (test : K → Bool) (es : List (K × X)) (d : K × X) → is_some (lookup test es) ≡ true → (k : ℕ) × (k < length es) × (test (get_or es k d).0 ≡ true)
looked_up test [] d h = absurd (cc)
looked_up test (e ∷ es) d h =
    elim (cases_Bool (test e.0)) [
      | inl y ↦ (0, omega arith, y)
      | inr z ↦ (let r = looked_up test es d (rw z at h) in (suc r.0, omega (arith, r.1), r.2))
    ]

missed : {K X : Type 0} (test : K → Bool) (es : List (K × X)) (k : ℕ) (d : K × X) → is_some (lookup test es) ≡ false → k < length es → test (get_or es k d).0 ≡ false
missed test [] k d h l = absurd (omega arith)
missed test (e ∷ es) k d h l =
    elim (cases_Bool (test e.0)) [
      | inl y ↦ (let bad : true ≡ false = rw y at h in absurd (cc))
      | inr z ↦ at k l z (λ i m. missed test es i d (rw z at h) m)
    ]
  where
    at : (k : ℕ) → k < length (e ∷ es) → test e.0 ≡ false → ((i : ℕ) → i < length es → test (get_or es i d).0 ≡ false) → test (get_or (e ∷ es) k d).0 ≡ false
    at zero l z later = z
    at (suc k) l z later = later k (omega arith)

-- the test of a key
abbrev pub same_as : Vec ℕ Global → Vec ℕ Global → Bool
same_as a b = pointwise nat_eq a.items b.items

module _ (entries : List (Vec ℕ Global × State)) (key : Vec ℕ Global) (n : ℕ) (v : View) (keyed : AreKeyed entries) (is : key.items ≡ key_of n v) (sets : AreSets v.items) (d : Vec ℕ Global × State) where
  -- a key that is found is that of a state with the node and the view
  pub there : is_some (lookup (same_as key) entries) ≡ true → HasState (map (λ (e : Vec ℕ Global × State). e.1) entries) n v
  there h =
      let r = looked_up (same_as key) entries d h in
      let e = get_or entries r.0 d in
      let keys : key.items ≡ e.0.items = (slice_eq-Decides Decides-eqb key.items e.0.items _ refl).0 r.2 in
      let k = keyed r.0 d r.1 in
      let same = same_key e.1.node n e.1.view v (sym k.0 ∙ sym keys ∙ is) k.1 sets in
      let long : r.0 < length (map (λ (e : Vec ℕ Global × State). e.1) entries) = subst (λ m. r.0 < m) (sym (length-map entries (λ (e : Vec ℕ Global × State). e.1))) r.1 in
      record {
        state = e.1;
        there = (r.0, long, get_or-map (λ (e : Vec ℕ Global × State). e.1) entries r.0 d e.1 r.1);
        node = same.0;
        view = same.1;
      }

  -- a key that isn't is that of no state
  pub away : is_some (lookup (same_as key) entries) ≡ false → HasState (map (λ (e : Vec ℕ Global × State). e.1) entries) n v → ⊥
  away h p =
      let t = p.there in
      let l : t.0 < length entries = subst (λ m. t.0 < m) (length-map entries (λ (e : Vec ℕ Global × State). e.1)) t.1 in
      let e = get_or entries t.0 d in
      let state : e.1 ≡ p.state = sym (get_or-map (λ (e : Vec ℕ Global × State). e.1) entries t.0 d p.state l) ∙ t.2 in
      let k = keyed t.0 d l in
      let node : e.1.node ≡ n = ap (λ (q : State). q.node) state ∙ p.node in
      let view : e.1.view ≡ v = ap (λ (q : State). q.view) state ∙ p.view in
      let keys : key.items ≡ e.0.items = is ∙ (λ i. key_of (sym node i) (sym view i)) ∙ sym k.0 in
      let hit : same_as key e.0 ≡ true = (slice_eq-Decides Decides-eqb key.items e.0.items _ refl).1 keys in
      let miss = missed (same_as key) entries t.0 d h l in
      absurd (true≢false (sym hit ∙ miss))
