-- The walks of the entries of a search.
use Rattle.std.proofs.Common.{◌≡◌, ℕ, zero, suc, ◌<◌, ◌≤◌, Bool, false, List, [], ◌∷◌, ◌++◌, length, refl, sym, ◌∙◌, ap, subst, inl, inr, arith}
use Rattle.sg_model.specs.Shape.{Shape, Walk, source, target, end_of}
use Rattle.sg_model.specs.Claims.{Claim, bit_after, bit_after_all}
use Rattle.sg_model.proofs.Small.{length-more}
use Rattle.sg_model.proofs.Walks.{walk_join, end_of-append}
use Rattle.sg_model.proofs.OneBit.{bit-append}
use Rattle.sg_claims.specs.Search.{entry_at, AreWalks, IsSearch}
use Rattle.sg_claims.specs.declared.search.Entry.{Entry}
use Rattle.sg_claims.proofs.Order.{IsBefore, before_more, before_last}

-- the walk of an entry, in at most some steps
abbrev walk_within : List Entry → ℕ → ℕ → List ℕ
walk_within entries zero i = []
walk_within entries (suc k) zero = []
walk_within entries (suc k) (suc i) = walk_within entries k (entry_at entries (suc i)).from ++ (entry_at entries (suc i)).last ∷ []

-- the walk of an entry
abbrev pub walk_of : List Entry → ℕ → List ℕ
walk_of entries i = walk_within entries i i

none : (entries : List Entry) (k : ℕ) → walk_within entries k zero ≡ []
none entries zero = refl
none entries (suc k) = refl

-- steps that are enough are as good as others
enough : (entries : List Entry) → ((i : ℕ) → 0 < i → i < length entries → (entry_at entries i).from < i) → (k m i : ℕ) → i ≤ k → i ≤ m → i < length entries → walk_within entries k i ≡ walk_within entries m i
enough entries h k m zero a b l = none entries k ∙ sym (none entries m)
enough entries h zero m (suc i) a b l = absurd (omega arith)
enough entries h (suc k) zero (suc i) a b l = absurd (omega arith)
enough entries h (suc k) (suc m) (suc i) a b l =
    let f = h (suc i) (omega arith) l in
    ap (λ w. w ++ (entry_at entries (suc i)).last ∷ []) (enough entries h k m (entry_at entries (suc i)).from (omega (arith, f)) (omega (arith, f)) (omega (arith, f)))

-- the walks of the entries are walks for them
pub have_walks : (entries : List Entry) → ((i : ℕ) → 0 < i → i < length entries → (entry_at entries i).from < i) → AreWalks entries (walk_of entries)
have_walks entries h = record { first = refl; others = others }
  where
    others : (i : ℕ) → 0 < i → i < length entries → walk_of entries i ≡ walk_of entries (entry_at entries i).from ++ (entry_at entries i).last ∷ []
    others zero p l = absurd (omega arith)
    others (suc i) p l =
        let f = h (suc i) p l in
        ap (λ w. w ++ (entry_at entries (suc i)).last ∷ []) (enough entries h i (entry_at entries (suc i)).from (entry_at entries (suc i)).from (omega (arith, f)) (omega arith) (omega (arith, f)))

-- the walk comes from the start to the node, and leaves the bit
pub record Comes (g : Shape) (c : Claim) (walk : List ℕ) (n : ℕ) (bit : Bool) : Type 0 where
  pub follows : Walk g 0 walk
  pub ends : end_of g 0 walk ≡ n
  pub has_bit : bit_after_all c false walk ≡ bit

-- and with one edge more to its target
pub comes_on : (g : Shape) (c : Claim) (walk : List ℕ) (n : ℕ) (bit : Bool) (e : ℕ) → Comes g c walk n bit → e < length g.edges → source g e ≡ n → Comes g c (walk ++ e ∷ []) (target g e) (bit_after c bit e)
comes_on g c walk n bit e x l s = record {
  follows = walk_join g 0 walk (e ∷ []) x.follows (l, s ∙ sym x.ends, tt);
  ends = end_of-append g 0 walk (e ∷ []);
  has_bit = bit-append c false walk (e ∷ []) ∙ ap (λ b. bit_after c b e) x.has_bit;
}

module _ (g : Shape) (c : Claim) (at : ℕ) (left : ℕ → Type 0) (entries : List Entry) (seen : List Bool) (x : IsSearch g c at left entries seen) (walks : ℕ → List ℕ) (w : AreWalks entries walks) where
  comes_within : (k i : ℕ) → i < k → i < length entries → Comes g c (walks i) (entry_at entries i).node (entry_at entries i).bit
  comes_within zero i a l = absurd (omega arith)
  comes_within (suc k) zero a l = record {
    follows = subst (Walk g 0) (sym w.first) tt;
    ends = ap (end_of g 0) w.first ∙ sym x.found.start.0;
    has_bit = ap (bit_after_all c false) w.first ∙ sym x.found.start.1;
  }
  comes_within (suc k) (suc i) a l =
      let e = x.found.led (suc i) (omega arith) l in
      let f = e.earlier in
      let before = comes_within k (entry_at entries (suc i)).from (omega arith) (omega arith) in
      let on = comes_on g c (walks (entry_at entries (suc i)).from) (entry_at entries (entry_at entries (suc i)).from).node (entry_at entries (entry_at entries (suc i)).from).bit (entry_at entries (suc i)).last before e.is_edge e.leaves in
      let on' : Comes g c (walks (suc i)) (target g (entry_at entries (suc i)).last) (bit_after c (entry_at entries (entry_at entries (suc i)).from).bit (entry_at entries (suc i)).last) =
      subst (λ v. Comes g c v (target g (entry_at entries (suc i)).last) (bit_after c (entry_at entries (entry_at entries (suc i)).from).bit (entry_at entries (suc i)).last)) (sym (w.others (suc i) (omega arith) l)) on in
      record { follows = on'.follows; ends = on'.ends ∙ e.leads; has_bit = on'.has_bit ∙ e.has_bit }

  -- the walk of an entry comes to its node with its bit
  pub comes : (i : ℕ) → i < length entries → Comes g c (walks i) (entry_at entries i).node (entry_at entries i).bit
  comes i l = comes_within (suc i) i (omega arith) l

  -- the walk of an entry is before that of a later one
  rise_within : (k i j : ℕ) → j < k → i < j → j < length entries → IsBefore (walks i) (walks j)
  rise_within zero i j a b l = absurd (omega arith)
  rise_within (suc k) zero j a b l =
      let e = ap length (w.others j b l) ∙ length-more (walks (entry_at entries j).from) (entry_at entries j).last in
      let z : length (walks zero) ≡ 0 = ap length w.first in
      inl (omega (arith, e, z))
  rise_within (suc k) (suc i) j a b l =
      let f = (x.found.led j (omega arith) l).earlier in
      let ei = w.others (suc i) (omega arith) (omega arith) in
      let ej = w.others j (omega arith) l in
      let of : IsBefore (walks (entry_at entries (suc i)).from ++ (entry_at entries (suc i)).last ∷ []) (walks (entry_at entries j).from ++ (entry_at entries j).last ∷ []) =
      elim (x.found.rises (suc i) j (omega arith) b l) [
        | inl less ↦ before_more (walks (entry_at entries (suc i)).from) (walks (entry_at entries j).from) (entry_at entries (suc i)).last (entry_at entries j).last
            (rise_within k (entry_at entries (suc i)).from (entry_at entries j).from (omega arith) less (omega arith))
        | inr same ↦ subst (λ n. IsBefore (walks (entry_at entries (suc i)).from ++ (entry_at entries (suc i)).last ∷ []) (walks n ++ (entry_at entries j).last ∷ [])) same.0
            (before_last (walks (entry_at entries (suc i)).from) (entry_at entries (suc i)).last (entry_at entries j).last same.1)
      ] in
      subst (λ v. IsBefore v (walks j)) (sym ei) (subst (λ v. IsBefore (walks (entry_at entries (suc i)).from ++ (entry_at entries (suc i)).last ∷ []) v) (sym ej) of)

  pub walks_rise : (i j : ℕ) → i < j → j < length entries → IsBefore (walks i) (walks j)
  walks_rise i j b l = rise_within (suc j) i j (omega arith) b l
