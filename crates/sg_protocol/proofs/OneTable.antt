-- A graph has one table of targets, and what it reads are its variables.
use Rattle.std.specs.Prelude.{◌≡◌, ℕ, zero, suc, ◌<◌, ◌≤◌, ◌==◌, nat_lt, Bool, true, false, List, [], ◌∷◌, map, length, get_or, refl, All}
use Rattle.std.specs.List.{AllByRecursion, list_all}
use Rattle.std.proofs.Common.{sym, ◌∙◌, ap, subst, inl, inr, arith}
use Rattle.std.proofs.lemmas.Bool.{cases_Bool, eqb-true, and_parts}
use Rattle.std.proofs.lemmas.Bool.Decides.{nat_tests}
use Rattle.std.proofs.lemmas.List.Elements.{All-head, All-tail}
use Rattle.sg_model.specs.Last.{Map}
use Rattle.sg_model.specs.Lists.{keys_of, is_in, rises_from}
use Rattle.sg_model.specs.Shape.{Arrow}
use Rattle.sg_model.proofs.Small.{all_below}
use Rattle.sg_protocol.specs.Graph.{Graph, Edge, IsGraph, AreNumbers, reads}
use Rattle.sg_protocol.specs.Evidence.{View, IsView, IsViewTable, same_origin}
use Rattle.sg_protocol.specs.Targets.{IsTargetTable}
use Rattle.sg_protocol.proofs.Gives.{in_order-all}
use Rattle.sg_protocol.proofs.SeenItems.{keys_in_order, rising_same}
use Rattle.sg_protocol.specs.Evidence as Evidence'

-- numbers that rise are known by their set
pub numbers_by_set : (n : ℕ) (xs ys : List ℕ) → AreNumbers n xs → AreNumbers n ys → ((t : ℕ) → t < n → is_in t xs ≡ is_in t ys) → xs ≡ ys
numbers_by_set n xs ys a b e = sym (own xs a) ∙ rising_same n xs ys e ∙ own ys b
  where
    keys_named : (zs : List ℕ) → keys_of {A = List ℕ} (map (λ z. (z, [])) zs) ≡ zs
    keys_named [] = refl
    keys_named (z ∷ zs) = ap (λ l. z ∷ l) (keys_named zs)

    own : (zs : List ℕ) → AreNumbers n zs → Evidence'.rising n zs ≡ zs
    own zs h =
        let ps = and_parts (rises_from 0 zs) (list_all (λ k. nat_lt k n) zs) h in
        let m : Map (List ℕ) = map (λ z. (z, [])) zs in
        ap (Evidence'.rising n) (sym (keys_named zs)) ∙ sym (keys_in_order n (map (λ z. (z, [])) zs))
        ∙ ap keys_of (in_order-all n (map (λ z. (z, [])) zs) (ap (rises_from 0) (keys_named zs) ∙ ps.0) (subst (AllByRecursion (λ x. x < n)) (sym (keys_named zs)) (all_below n zs ps.1)))
        ∙ keys_named zs

get_out : (ts : List (List ℕ)) (e : ℕ) → length ts ≤ e → get_or ts e [] ≡ []
get_out [] e l = refl
get_out (t ∷ ts) zero l = absurd (omega (arith, l))
get_out (t ∷ ts) (suc e) l = get_out ts e (omega (arith, l))

pub one_table : (g : Graph) (one two : List (List ℕ)) → IsTargetTable g one → IsTargetTable g two → (e : ℕ) → get_or one e [] ≡ get_or two e []
one_table g one two a b e = elim (cases_Bool (nat_lt e (length g.edges))) [
  | inl h ↦
      let l : e < length g.edges = grind (arith, nat_tests) in
      numbers_by_set (length g.roles) (get_or one e []) (get_or two e []) (a.rising e) (b.rising e) (λ t lt. both (is_in t (get_or one e [])) (is_in t (get_or two e [])) (λ i. (b.each e t l lt).1 ((a.each e t l lt).0 i)) (λ i. (a.each e t l lt).1 ((b.each e t l lt).0 i)))
  | inr h ↦
      let l : length g.edges ≤ e = grind (arith, nat_tests) in
      get_out one e (let s = a.size in omega (arith, l, s)) ∙ sym (get_out two e (let s = b.size in omega (arith, l, s)))
]
  where
    both : (x y : Bool) → (x ≡ true → y ≡ true) → (y ≡ true → x ≡ true) → x ≡ y
    both true y f h = sym (f refl)
    both false true f h = absurd (let z = h refl in cc)
    both false false f h = refl

-- what is read is a variable
pub reads_small : (g : Graph) → IsGraph g → (e v : ℕ) → is_in v (reads g e) ≡ true → v < length g.variables
reads_small g is e v h = go g.edges is.variables e h
  where
    in_less : (xs : List ℕ) → AllByRecursion (λ x. x < length g.variables) xs → is_in v xs ≡ true → v < length g.variables
    in_less [] a i = absurd (cc)
    in_less (x ∷ xs) a i = elim (cases_Bool (x == v)) [ inl d ↦ subst (λ z. z < length g.variables) (eqb-true x v d) a.0 | inr d ↦ in_less xs a.1 (rw d at i) ]

    go : (es : List Edge) → All (λ (e : Edge). AreNumbers (length g.variables) e.writes × AreNumbers (length g.variables) e.reads) es → (k : ℕ)
        → is_in v (get_or {A = Arrow} (map (λ (e : Edge). record { source = e.source; target = e.target; writes = e.writes; reads = e.reads }) es) k (record { source = 0; target = 0; writes = []; reads = [] })).reads ≡ true → v < length g.variables
    go [] a k i = absurd (cc)
    go (x ∷ es) a zero i = in_less x.reads (all_below (length g.variables) x.reads (and_parts (rises_from 0 x.reads) (list_all (λ k. nat_lt k (length g.variables)) x.reads) (All-head (λ (e : Edge). AreNumbers (length g.variables) e.writes × AreNumbers (length g.variables) e.reads) x es a).1).1) i
    go (x ∷ es) a (suc k) i = go es (All-tail (λ (e : Edge). AreNumbers (length g.variables) e.writes × AreNumbers (length g.variables) e.reads) x es a) k i
