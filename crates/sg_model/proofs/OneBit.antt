-- Claims are decided by one bit.
use Rattle.std.specs.Prelude.{◌≡◌, ℕ, ◌<◌, Bool, true, false, not, ◌&&◌, ◌||◌, List, [], ◌∷◌, ◌++◌, length, IsTrue, ◌↔◌, refl}
use Rattle.std.specs.List.{list_any}
use Rattle.std.proofs.Common.{◌∙◌, ◌⊎◌, sym, ap, subst, inl, inr}
use Rattle.std.proofs.lemmas.Bool.{cases_Bool, and_parts, or_parts}
use Rattle.sg_model.specs.Lists.{is_in}
use Rattle.sg_model.specs.Shape.{Shape, Walk, source, target, end_of}
use Rattle.sg_model.specs.Claims.{ClaimKind, Needs, Bars, Claim, OccursSince, IsRight, HoldsOn, HoldsOnWalks, bit_after, bit_after_all, right_bit, IsBroken, Confined}
use Rattle.sg_model.proofs.Small.{clash}
use Rattle.sg_model.proofs.Walks.{walk-append, walk_join}

module _ (c : Claim) where
  -- without a label of `since` the bit stays
  bit_stays : (ls : List ℕ) → list_any (λ l. is_in l c.since) ls ≡ false → bit_after_all c true ls ≡ true
  bit_stays [] none = refl
  bit_stays (l ∷ ls) none =
      let p = or_parts (is_in l c.since) (list_any (λ l. is_in l c.since) ls) none in
      ap (λ b. bit_after_all c b ls) (kept (is_in l c.earlier) (is_in l c.since) p.0) ∙ bit_stays ls p.1
    where
      kept : (b s : Bool) → s ≡ false → (b || (true && not s)) ≡ true
      kept true s e = refl
      kept false s e = rw e refl

  pub bit-append : (bit : Bool) (xs ys : List ℕ) → bit_after_all c bit (xs ++ ys) ≡ bit_after_all c (bit_after_all c bit xs) ys
  bit-append bit [] ys = refl
  bit-append bit (x ∷ xs) ys = bit-append (bit_after c bit x) xs ys

  -- a label of `earlier` with none of `since` after it sets the bit
  pub bit_from : (bit : Bool) (ls : List ℕ) → OccursSince c.earlier c.since ls → bit_after_all c bit ls ≡ true
  bit_from bit ls s =
      ap (bit_after_all c bit) s.there ∙ bit-append bit s.prefix (s.label ∷ s.rest)
      ∙ ap (λ (b : Bool). bit_after_all c (b || (bit_after_all c bit s.prefix && not (is_in s.label c.since))) s.rest) s.is_earlier ∙ bit_stays s.rest s.none_since

  -- the bit is set by such a label, or was set before
  bit_or : (bit : Bool) (ls : List ℕ) → bit_after_all c bit ls ≡ true → OccursSince c.earlier c.since ls ⊎ ((bit ≡ true) × (list_any (λ l. is_in l c.since) ls ≡ false))
  bit_or bit [] e = inr (e, refl)
  bit_or bit (l ∷ ls) e = elim (bit_or (bit_after c bit l) ls e) [
    | inl s ↦ inl record { prefix = l ∷ s.prefix; label = s.label; rest = s.rest; there = ap (λ z. l ∷ z) s.there; is_earlier = s.is_earlier; none_since = s.none_since }
    | inr p ↦ elim (cases_Bool (is_in l c.earlier)) [
      | inl y ↦ inl record { prefix = []; label = l; rest = ls; there = refl; is_earlier = y; none_since = p.1 }
      | inr n ↦ (let q = and_parts bit (not (is_in l c.since)) (sym (ap (λ (b : Bool). b || (bit && not (is_in l c.since))) n) ∙ p.0) in inr (q.0, none (is_in l c.since) (list_any (λ l. is_in l c.since) ls) q.1 p.1))
    ]
  ]
    where
      none : (a b : Bool) → not a ≡ true → b ≡ false → (a || b) ≡ false
      none true b f g = absurd (cc)
      none false b f g = g

  pub stands_from : (ls : List ℕ) → bit_after_all c false ls ≡ true → OccursSince c.earlier c.since ls
  stands_from ls e = elim (bit_or false ls e) [ inl s ↦ s | inr p ↦ absurd (let z : false ≡ true = p.0 in cc) ]

-- what is right is what the bit says
pub right_from : (kind : ClaimKind) (later earlier since before : List ℕ) → bit_after_all (record { kind = kind; later = later; earlier = earlier; since = since }) false before ≡ right_bit kind → IsRight kind earlier since before
right_from Needs later earlier since before e = stands_from (record { kind = Needs; later = later; earlier = earlier; since = since }) before e
right_from Bars later earlier since before e = λ s. clash (bit_after_all (record { kind = Bars; later = later; earlier = earlier; since = since }) false before) (bit_from (record { kind = Bars; later = later; earlier = earlier; since = since }) false before s) e

pub right_to : (kind : ClaimKind) (later earlier since before : List ℕ) → IsRight kind earlier since before → bit_after_all (record { kind = kind; later = later; earlier = earlier; since = since }) false before ≡ right_bit kind
right_to Needs later earlier since before s = bit_from (record { kind = Needs; later = later; earlier = earlier; since = since }) false before s
right_to Bars later earlier since before n = elim (cases_Bool (bit_after_all (record { kind = Bars; later = later; earlier = earlier; since = since }) false before)) [
  | inl y ↦ absurd (n (stands_from (record { kind = Bars; later = later; earlier = earlier; since = since }) before y))
  | inr f ↦ f
]

-- a bit is the right one or the other
pub right_or : (bit right : Bool) → (bit ≡ right) ⊎ (bit ≡ not right)
right_or true true = inl refl
right_or true false = inr refl
right_or false true = inr refl
right_or false false = inl refl

not_both : (right : Bool) → right ≡ not right → ⊥
not_both true e = cc
not_both false e = cc

module _ (g : Shape) (c : Claim) where
  -- a broken claim doesn't hold
  broken_fails : IsBroken g c → HoldsOnWalks g c → ⊥
  broken_fails b h =
      let r = b.reached in
      let w : Walk g 0 (r.walk ++ b.label ∷ []) = walk_join g 0 r.walk (b.label ∷ []) r.follows (b.is_edge, b.leaves ∙ sym r.ends, tt) in
      let right = h (r.walk ++ b.label ∷ []) w r.walk b.label [] refl b.is_later in
      not_both (right_bit c.kind) (sym (right_to c.kind c.later c.earlier c.since r.walk right) ∙ r.has_bit)

  holds_unbroken : (IsBroken g c → ⊥) → HoldsOnWalks g c
  holds_unbroken n walk w before l after e i = elim (right_or (bit_after_all c false before) (right_bit c.kind)) [
    | inl y ↦ right_from c.kind c.later c.earlier c.since before y
    | inr z ↦ (let p = walk-append g 0 before (l ∷ after) (subst (Walk g 0) e w) in absurd (n record {
      node = end_of g 0 before;
      reached = record { walk = before; follows = p.0; ends = refl; has_bit = z };
      label = l;
      is_edge = p.1.0;
      leaves = p.1.1;
      is_later = i;
    }))
  ]

  pub bits_decide : HoldsOnWalks g c ↔ (IsBroken g c → ⊥)
  bits_decide = ((λ h b. broken_fails b h), holds_unbroken)

  -- what confines is never left
  stays : (k : Confined g c) (m : ℕ) (bit : Bool) (before : List ℕ) (l : ℕ) (after : List ℕ) → Walk g m (before ++ l ∷ after) → k.within m bit ≡ true → (l < length g.edges) × (k.within (source g l) (bit_after_all c bit before) ≡ true)
  stays k m bit [] l after w at = (w.0, ap (λ n. k.within n bit) w.1 ∙ at)
  stays k m bit (x ∷ before) l after w at = stays k (target g x) (bit_after c bit x) before l after w.2 (k.closed x bit w.0 (ap (λ n. k.within n bit) w.1 ∙ at))

  pub confined_holds : Confined g c → HoldsOnWalks g c
  confined_holds k walk w before l after e i =
      let s = stays k 0 false before l after (subst (Walk g 0) e w) k.begins in
      right_from c.kind c.later c.earlier c.since before (k.right l (bit_after_all c false before) s.0 s.1 i)

-- since a label of `since` there is a label of `earlier` before each of `later`
pub has_its_own : (c : Claim) (before : List ℕ) (k : ℕ) (between : List ℕ) (l : ℕ) (after : List ℕ) → c.kind ≡ Needs → HoldsOn c (before ++ k ∷ between ++ l ∷ after) → IsTrue (is_in k c.since) → IsTrue (is_in l c.later) → OccursSince c.earlier c.since (k ∷ between)
has_its_own c before k between l after kind h is i =
    let right : OccursSince c.earlier c.since (before ++ k ∷ between) = subst (λ z. IsRight z c.earlier c.since (before ++ k ∷ between)) kind (h (before ++ k ∷ between) l after refl i) in
    let e = sym (bit-append c false before (k ∷ between)) ∙ bit_from c false (before ++ k ∷ between) right in
    stands_from c (k ∷ between) (ap (λ b. bit_after_all c b between) (forgets false (bit_after_all c false before) (is_in k c.earlier) (is_in k c.since) is) ∙ e)
  where
    forgets : (a b y s : Bool) → s ≡ true → (y || (a && not s)) ≡ (y || (b && not s))
    forgets a b true s e = refl
    forgets true true false s e = refl
    forgets true false false s e = rw e refl
    forgets false true false s e = rw e refl
    forgets false false false s e = refl
