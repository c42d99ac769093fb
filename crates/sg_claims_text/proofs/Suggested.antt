-- The text of claims that are suggested spells them.
use Rattle.std.proofs.Common.{◌≡◌, ◌≢◌, ℕ, zero, suc, ◌+◌, ◌*◌, ◌<◌, ◌≤◌, not, Bool, true, false, ◌&&◌, ◌||◌, if◌then◌else◌, inl, inr, List, [], ◌∷◌, ◌++◌, map, length, get_or, bytes_eq, refl, sym, ap, subst, ◌∙◌, arith}
use Rattle.std.specs.Prelude.{All, Option, Some, None}
use Rattle.std.specs.Fmt.{decimal}
use Rattle.std.specs.List.{list_all}
use Rattle.std.proofs.lemmas.Bool.{and_from, cases_Bool, not-true}
use Rattle.std.proofs.lemmas.Fmt.{decimal_injective}
use Rattle.std.proofs.lemmas.List.{get_or-map, length-append, length-map}
use Rattle.std.proofs.lemmas.List.Elements.{All-append, All-push}
use Rattle.std.proofs.lemmas.Slice.Eq.{bytes_eq-Decides}
use Rattle.sg_claims.specs.Dominators.{IsNearestOf}
use Rattle.sg_claims.specs.Suggestions.{AreFor, AreForAll, AreNumbered, AreSuggested, bars_itself, can_be_named, claims_of, itself, needs_label, needs_nearest}
use Rattle.sg_claims.specs.declared.claim.NamedClaim.{NamedClaim}
use Rattle.sg_claims.proofs.Dominating.{dominator_there}
use Rattle.sg_claims.proofs.Numbered.{is_name-numbered}
use Rattle.sg_claims_text.specs.Grammar.{AreLabels, IsClaim, SpellsClaims, between, claim_names}
use Rattle.sg_claims_text.specs.Written.{written}
use Rattle.sg_claims_text.proofs.Among.{name_at, within}
use Rattle.sg_claims_text.proofs.Lexed.{written-spells}
use Rattle.sg_graph.specs.Parts.{edge_name, edge_names}
use Rattle.sg_model.specs.Claims.{Claim}
use Rattle.sg_model.specs.Lists.{all_differ, has_text, range_from}
use Rattle.sg_model.specs.Names.{Name, is_name, reserved}
use Rattle.sg_protocol.specs.Graph.{AreNames, Graph, IsGraph, shape}

-- ---- names

-- the name of the claim of a number
abbrev name_of : ℕ → Name
name_of n = 99 ∷ decimal n

names_are : (k : ℕ) (cs : List NamedClaim) → ((i : ℕ) (d : NamedClaim) → i < length cs → (get_or cs i d).name ≡ name_of (k + i)) → claim_names cs ≡ map name_of (range_from k (length cs))
names_are k [] h = refl
names_are k (c ∷ cs) h =
    let first : c.name ≡ name_of k = h 0 c (omega arith) ∙ ap name_of (let z : k + 0 ≡ k = omega arith in z) in
    let rest : claim_names cs ≡ map name_of (range_from (suc k) (length cs)) = names_are (suc k) cs (λ i d l. h (suc i) d (omega (arith, l)) ∙ ap name_of (let z : k + suc i ≡ suc k + i = omega arith in z)) in
    ap (λ n. n ∷ claim_names cs) first ∙ ap (λ ns. name_of k ∷ ns) rest

-- different numbers have different names
other : (i j : ℕ) → i < j → j < 2000 → name_of i ≢ name_of j
other i j l u e =
    let same : decimal i ≡ decimal j = cc in
    let one : i ≡ j = decimal_injective i j (omega arith) (omega arith) same in
    omega arith

other_test : (i j : ℕ) → i < j → j < 2000 → bytes_eq (name_of i) (name_of j) ≡ false
other_test i j l u = elim (cases_Bool (bytes_eq (name_of i) (name_of j))) [
  | inl e ↦ absurd (other i j l u ((bytes_eq-Decides (name_of i) (name_of j)).0 e))
  | inr e ↦ e
]

neither : (a b : Bool) → a ≡ false → b ≡ false → (a || b) ≡ false
neither a b p q = cc (ap (λ x. x || b) p)

not_later : (i k n : ℕ) → i < k → k + n ≤ 2000 → has_text (name_of i) (map name_of (range_from k n)) ≡ false
not_later i k zero l u = refl
not_later i k (suc n) l u =
    neither (bytes_eq (name_of i) (name_of k)) (has_text (name_of i) (map name_of (range_from (suc k) n))) (other_test i k l (omega arith)) (not_later i (suc k) n (omega arith) (omega arith))

all_other : (k n : ℕ) → k + n ≤ 2000 → all_differ (map name_of (range_from k n)) ≡ true
all_other k zero u = refl
all_other k (suc n) u =
    and_from (not (has_text (name_of k) (map name_of (range_from (suc k) n)))) (all_differ (map name_of (range_from (suc k) n))) (ap not (not_later k (suc k) n (omega arith) (omega arith))) (all_other (suc k) n (omega arith))

-- none is a word that the text reserves
free : (n : ℕ) → has_text (name_of n) reserved ≡ false
free n = refl

all_named : (k n : ℕ) → k + n ≤ 2000 → list_all (λ n. is_name n && not (has_text n reserved)) (map name_of (range_from k n)) ≡ true
all_named k zero u = refl
all_named k (suc n) u =
    and_from (is_name (name_of k) && not (has_text (name_of k) reserved)) (list_all (λ n. is_name n && not (has_text n reserved)) (map name_of (range_from (suc k) n)))
    (and_from (is_name (name_of k)) (not (has_text (name_of k) reserved)) (is_name-numbered 99 k refl (omega arith)) (ap not (free k))) (all_named (suc k) n (omega arith))

are_names : (cs : List NamedClaim) → AreNumbered cs → length cs ≤ 1024 → AreNames (claim_names cs)
are_names cs h few =
    let names : List Name = map name_of (range_from 1 (length cs)) in
    let same : claim_names cs ≡ names = names_are 1 cs (λ i d l. h i d l ∙ ap name_of (let z : i + 1 ≡ 1 + i = omega arith in z)) in
    subst AreNames (sym same) (and_from (list_all (λ n. is_name n && not (has_text n reserved)) names) (all_differ names) (all_named 1 (length cs) (omega arith)) (all_other 1 (length cs) (omega arith)))

-- ---- how many there are

kept : {A : Type 0} (t : Bool) (xs : List A) → length (if t then xs else []) ≤ length xs
kept true xs = omega arith
kept false xs = omega arith

few_nearest : (g : Graph) (a : ℕ) (near : Option ℕ) → length (needs_nearest g a near) ≤ 1
few_nearest g a None = omega arith
few_nearest g a (Some b) = kept (can_be_named g b) (needs_label a b ∷ [])

few_itself : (a : ℕ) (once : Bool) → length (itself a once) ≤ 1
few_itself a once = kept once (bars_itself a ∷ [])

few_for : (g : Graph) (a : ℕ) (claims : List Claim) → AreFor g a claims → length claims ≤ 2
few_for g a claims x =
    let one : List Claim = needs_nearest g a x.nearest in
    let two : List Claim = itself a x.once in
    let same : length claims ≡ length (if can_be_named g a then one ++ two else []) = ap (λ (cs : List Claim). length cs) x.there in
    let less : length (if can_be_named g a then one ++ two else []) ≤ length (one ++ two) = kept (can_be_named g a) (one ++ two) in
    let both : length (one ++ two) ≡ length one + length two = length-append one two in
    let a' : length one ≤ 1 = few_nearest g a x.nearest in
    let b' : length two ≤ 1 = few_itself a x.once in
    omega (arith, same, less, both, a', b')

few_all : (g : Graph) (k : ℕ) (claims : List Claim) → AreForAll g k claims → length claims ≤ 2 * k
few_all g zero claims e = (let none : length claims ≡ 0 = ap (λ (cs : List Claim). length cs) e in omega (arith, none))
few_all g (suc k) claims x =
    let same : length claims ≡ length (x.0 ++ x.1) = ap (λ (cs : List Claim). length cs) x.2 in
    let both : length (x.0 ++ x.1) ≡ length x.0 + length x.1 = length-append x.0 x.1 in
    let a' : length x.0 ≤ 2 * k = few_all g k x.0 x.3 in
    let b' : length x.1 ≤ 2 = few_for g k x.1 x.4 in
    omega (arith, same, both, a', b')

-- ---- labels

no_elements : {X : Type 0} (P : X → Type 0) → All P []
no_elements P = λ k d l. absurd (omega arith)

one_element : {X : Type 0} (P : X → Type 0) (x : X) → P x → All P (x ∷ [])
one_element P x p = All-push P [] x (no_elements P) p

module _ (g : Graph) where
  one_label : (a : ℕ) → a < length g.edges → can_be_named g a ≡ true → AreLabels (edge_names g) (a ∷ [])
  one_label a l t = record {
    some = omega arith;
    there = one_element (λ l. l < length (edge_names g)) a (within g a l);
    differ = refl;
    spelled = one_element (λ l. has_text (get_or (edge_names g) l []) between ≡ false) a (ap (λ n. has_text n between) (name_at g a l) ∙ not-true (has_text (edge_name g a) between) t);
  }

  nearest_claims : (a : ℕ) (near : Option ℕ) → a < length g.edges → can_be_named g a ≡ true → IsNearestOf (shape g) a near → All (IsClaim (edge_names g)) (needs_nearest g a near)
  nearest_claims a None l t n = no_elements (IsClaim (edge_names g))
  nearest_claims a (Some b) l t n = of (can_be_named g b) refl
    where
      there : b < length g.edges
      there = (let h = dominator_there (shape g) a b n.walk n.comes n.dominates in rw length-map at h)

      of : (u : Bool) → can_be_named g b ≡ u → All (IsClaim (edge_names g)) (if u then needs_label a b ∷ [] else [])
      of true u = one_element (IsClaim (edge_names g)) (needs_label a b) record { later = one_label a l t; earlier = one_label b there u; since = inl refl }
      of false u = no_elements (IsClaim (edge_names g))

  itself_claims : (a : ℕ) (once : Bool) → a < length g.edges → can_be_named g a ≡ true → All (IsClaim (edge_names g)) (itself a once)
  itself_claims a true l t = one_element (IsClaim (edge_names g)) (bars_itself a) record { later = one_label a l t; earlier = one_label a l t; since = inl refl }
  itself_claims a false l t = no_elements (IsClaim (edge_names g))

  for_claims : (a : ℕ) (claims : List Claim) → a < length g.edges → AreFor g a claims → All (IsClaim (edge_names g)) claims
  for_claims a claims l x = subst (All (IsClaim (edge_names g))) (sym x.there) (of (can_be_named g a) refl)
    where
      of : (t : Bool) → can_be_named g a ≡ t → All (IsClaim (edge_names g)) (if t then needs_nearest g a x.nearest ++ itself a x.once else [])
      of true t = All-append (IsClaim (edge_names g)) (needs_nearest g a x.nearest) (itself a x.once) (nearest_claims a x.nearest l t x.is_nearest) (itself_claims a x.once l t)
      of false t = no_elements (IsClaim (edge_names g))

  all_claims : (k : ℕ) (claims : List Claim) → k ≤ length g.edges → AreForAll g k claims → All (IsClaim (edge_names g)) claims
  all_claims zero claims l e = subst (All (IsClaim (edge_names g))) (sym e) (no_elements (IsClaim (edge_names g)))
  all_claims (suc k) claims l x =
      subst (All (IsClaim (edge_names g))) (sym x.2) (All-append (IsClaim (edge_names g)) x.0 x.1 (all_claims k x.0 (omega arith) x.3) (for_claims k x.1 (omega arith) x.4))

-- what holds of the claims holds of those with names
of_named : (P : Claim → Type 0) (cs : List NamedClaim) → All P (claims_of cs) → All (λ (c : NamedClaim). P c.claim) cs
of_named P cs h = λ k d l. subst P (get_or-map (λ (n : NamedClaim). n.claim) cs k d d.claim l) (h k d.claim (rw length-map l))

-- so they are spelled
pub suggestion-spells : (g : Graph) (cs : List NamedClaim) → IsGraph g → AreSuggested g (length g.edges) cs → SpellsClaims g (written g cs) cs
suggestion-spells g cs is s =
    let same : length (claims_of cs) ≡ length cs = length-map cs (λ (n : NamedClaim). n.claim) in
    let most : length (claims_of cs) ≤ 2 * length g.edges = few_all g (length g.edges) (claims_of cs) s.are in
    let few : length cs ≤ 1024 = omega (arith, same, most, is.sizes.3) in
    written-spells g is cs few (are_names cs s.numbered few) (of_named (IsClaim (edge_names g)) cs (all_claims g (length g.edges) (claims_of cs) (omega arith) s.are))
