-- What is seen of a walk with one edge more, as what is seen of the walk and the edge say.
use Rattle.std.proofs.Common.{◌≡◌, ℕ, ◌<◌, ◌==◌, nat_lt, Bool, true, false, ◌||◌, if◌then◌else◌, List, [], ◌∷◌, ◌++◌, map, length, get_or, Some, refl, sym, ap, ◌∙◌, inl, inr}
use Rattle.std.specs.Bool.{⊤}
use Rattle.std.specs.List.{list_all}
use Rattle.std.proofs.lemmas.Bool.{cases_Bool, eqb-true, eq-eqb, and_parts}
use Rattle.std.proofs.lemmas.List.{get_or-map, map-append}
use Rattle.sg_model.specs.Last.{has, last, last_or, after_last, up_to_last, Map, Entry, merge, carry, evidence}
use Rattle.sg_model.specs.Lists.{keys_of, rises_from}
use Rattle.sg_model.specs.Shape.{Arrow, sender}
use Rattle.sg_model.proofs.LastOf.{has-append}
use Rattle.sg_model.proofs.Evidence.{has-evidence, evidence-drop, evidence-keep, evidence_again, carry-carry}
use Rattle.sg_model.proofs.Small.{or_false, or_true}
use Rattle.sg_protocol.specs.Evidence.{Seen, view_of, walked, rising}
use Rattle.sg_protocol.specs.Graph.{Graph, IsGraph, AreNumbers, Edge, shape, writes}
use Rattle.sg_views.specs.Steps.{items_after, joined, next_view}
use Rattle.sg_views.proofs.Unions.{units, rising-nothing, rising-merge, rising-written}

-- the last of a list with one element more
last-snoc : {A : Type 0} (xs : List A) (x : A) → last (xs ++ x ∷ []) ≡ Some x
last-snoc [] x = refl
last-snoc (y ∷ ys) x = ap Some (by y ys x)
  where
    by : {A : Type 0} (y : A) (ys : List A) (x : A) → last_or y (ys ++ x ∷ []) ≡ x
    by y [] x = refl
    by y (z ∷ zs) x = by z zs x

-- one element more, of the key or of another
module _ {A : Type 0} (key : A → ℕ) (k : ℕ) (x : A) where
  has-snoc : (xs : List A) (b : Bool) → (key x == k) ≡ b → has key k (xs ++ x ∷ []) ≡ (has key k xs || b)
  has-snoc xs b e = has-append key k xs (x ∷ []) ∙ ap (λ t. has key k xs || t) (or_false (key x == k) ∙ e)

  after_last-own : (key x == k) ≡ true → (xs : List A) → after_last key k (xs ++ x ∷ []) ≡ []
  after_last-own e [] = rw e
  after_last-own e (y ∷ ys) = rw (has-snoc ys true e ∙ or_true (has key k ys)) (after_last-own e ys)

  after_last-other : (key x == k) ≡ false → (xs : List A) → after_last key k (xs ++ x ∷ []) ≡ after_last key k xs ++ x ∷ []
  after_last-other e [] = rw e
  after_last-other e (y ∷ ys) =
      rw (has-snoc ys false e ∙ or_false (has key k ys)) (
      elim (cases_Bool (has key k ys)) [
        | inl f ↦ rw f (after_last-other e ys)
        | inr f ↦ rw f (elim (cases_Bool (key y == k)) [ inl h ↦ rw h refl | inr h ↦ rw h refl ])
      ])

  up_to_last-own : (key x == k) ≡ true → (xs : List A) → up_to_last key k (xs ++ x ∷ []) ≡ xs ++ x ∷ []
  up_to_last-own e [] = rw e
  up_to_last-own e (y ∷ ys) = rw (has-snoc ys true e ∙ or_true (has key k ys)) (ap (λ l. y ∷ l) (up_to_last-own e ys))

  up_to_last-other : (key x == k) ≡ false → (xs : List A) → up_to_last key k (xs ++ x ∷ []) ≡ up_to_last key k xs
  up_to_last-other e [] = rw e
  up_to_last-other e (y ∷ ys) =
      rw (has-snoc ys false e ∙ or_false (has key k ys)) (
      elim (cases_Bool (has key k ys)) [
        | inl f ↦ rw f (ap (λ l. y ∷ l) (up_to_last-other e ys))
        | inr f ↦ rw f refl
      ])

-- ---- evidence has one entry of each role

-- no two entries have one role
abbrev Apart : {K A : Type 0} → (K → ℕ) → List (Entry K A) → Type 0
Apart role [] = ⊤
Apart role (x ∷ xs) = (has (λ y. role y.step) (role x.step) xs ≡ false) × Apart role xs

Apart-carry : {K A : Type 0} (role : K → ℕ) (v : Map A) (xs : List (Entry K A)) → Apart role xs → Apart role (carry v xs)
Apart-carry role v [] h = tt
Apart-carry role v (x ∷ xs) h = h

Apart-evidence : {K A : Type 0} (role : K → ℕ) (xs : List (Entry K A)) → Apart role (evidence role xs)
Apart-evidence role [] = tt
Apart-evidence {K = K} {A = A} role (x ∷ xs) =
    elim (cases_Bool (has (λ (y : Entry K A). role y.step) (role x.step) xs)) [
      | inl e ↦ rw (evidence-drop role x xs e) (Apart-carry role x.writes (evidence role xs) (Apart-evidence role xs))
      | inr e ↦ rw (evidence-keep role x xs e) (has-evidence role (role x.step) xs ∙ e, Apart-evidence role xs)
    ]

-- ---- one entry more

-- the entries with one more: that of its role goes, and what it wrote is taken over
abbrev with_entry : {K A : Type 0} → (K → ℕ) → Map A → List (Entry K A) → Entry K A → List (Entry K A)
with_entry role v [] x = record { step = x.step; writes = merge v x.writes } ∷ []
with_entry role v (i ∷ is) x =
    if role i.step == role x.step
    then with_entry role (merge v i.writes) is x
    else (record { step = i.step; writes = merge v i.writes } ∷ with_entry role [] is x)

carry-nothing : {K A : Type 0} (xs : List (Entry K A)) → carry [] xs ≡ xs
carry-nothing [] = refl
carry-nothing (x ∷ xs) = refl

turned : (a b : ℕ) (t : Bool) → (a == b) ≡ t → (b == a) ≡ t
turned a b true e = eq-eqb b a (sym (eqb-true a b e))
turned a b false e = by (b == a) refl
  where
    by : (t : Bool) → (b == a) ≡ t → t ≡ false
    by true f = let g : (a == b) ≡ true = eq-eqb a b (sym (eqb-true b a f)) in absurd (cc)
    by false f = refl

evidence-snoc : {K A : Type 0} (role : K → ℕ) (v : Map A) (xs : List (Entry K A)) (x : Entry K A) → Apart role xs → carry v (evidence role (xs ++ x ∷ [])) ≡ with_entry role v xs x
evidence-snoc role v [] x h = refl
evidence-snoc {K = K} {A = A} role v (i ∷ is) x h =
    elim (cases_Bool (role i.step == role x.step)) [
      | inl e ↦
          (let there : has (λ (y : Entry K A). role y.step) (role i.step) (is ++ x ∷ []) ≡ true =
          has-snoc (λ (y : Entry K A). role y.step) (role i.step) x is true (turned (role i.step) (role x.step) true e) ∙ ap (λ b. b || true) h.0 in
          rw e (ap (carry v) (evidence-drop role i (is ++ x ∷ []) there) ∙ carry-carry v i.writes (evidence role (is ++ x ∷ [])) ∙ evidence-snoc role (merge v i.writes) is x h.1))
      | inr e ↦
          (let away : has (λ (y : Entry K A). role y.step) (role i.step) (is ++ x ∷ []) ≡ false =
          has-snoc (λ (y : Entry K A). role y.step) (role i.step) x is false (turned (role i.step) (role x.step) false e) ∙ ap (λ b. b || false) h.0 in
          rw e (ap (carry v) (evidence-keep role i (is ++ x ∷ []) away)
          ∙ ap (λ l. record { step = i.step; writes = merge v i.writes } ∷ l) (sym (carry-nothing (evidence role (is ++ x ∷ []))) ∙ evidence-snoc role [] is x h.1)))
    ]

-- ---- the same of views

-- an entry as a step that is seen
abbrev seen_of : Graph → Entry ℕ (Unit {0}) → Seen
seen_of g i = record { label = i.step; delta = rising (length g.variables) (keys_of i.writes) }

-- the entry of an edge
abbrev entry_of : Graph → ℕ → Entry ℕ (Unit {0})
entry_of g e = record { step = e; writes = units (writes g e) }

-- what an edge writes are numbers of variables
pub written : (g : Graph) (e : ℕ) → IsGraph g → e < length g.edges → list_all (λ k. nat_lt k (length g.variables)) (writes g e) ≡ true
written g e h l =
    let plain : Edge = record { name = []; source = 0; target = 0; writes = []; reads = [] } in
    let edge : writes g e ≡ (get_or g.edges e plain).writes = ap (λ (a : Arrow). a.writes) (get_or-map (λ (e : Edge). record { source = e.source; target = e.target; writes = e.writes; reads = e.reads }) g.edges e plain (record { source = 0; target = 0; writes = []; reads = [] }) l) in
    let numbers : AreNumbers (length g.variables) (get_or g.edges e plain).writes = (h.variables e plain l).0 in
    ap (list_all (λ k. nat_lt k (length g.variables))) edge ∙ (and_parts (rises_from 0 (get_or g.edges e plain).writes) (list_all (λ k. nat_lt k (length g.variables)) (get_or g.edges e plain).writes) numbers).1

seen-with_entry : (g : Graph) (e : ℕ) → IsGraph g → e < length g.edges → (v : Map (Unit {0})) (is : List (Entry ℕ (Unit {0}))) →
    map (seen_of g) (with_entry (sender (shape g)) v is (entry_of g e)) ≡ items_after g e (rising (length g.variables) (keys_of v)) (map (seen_of g) is)
seen-with_entry g e h l v [] = ap (λ d. record { label = e; delta = d } ∷ []) (rising-written (length g.variables) v (writes g e) h.sizes.1 (written g e h l))
seen-with_entry g e h l v (i ∷ is) =
    let both : rising (length g.variables) (keys_of (merge v i.writes)) ≡ joined (rising (length g.variables) (keys_of v)) (rising (length g.variables) (keys_of i.writes)) = rising-merge (length g.variables) v i.writes h.sizes.1 in
    elim (cases_Bool (sender (shape g) i.step == sender (shape g) e)) [
      | inl f ↦ rw f (seen-with_entry g e h l (merge v i.writes) is ∙ ap (λ d. items_after g e d (map (seen_of g) is)) both)
      | inr f ↦ rw f (
          ap (λ d. record { label = i.step; delta = d } ∷ map (seen_of g) (with_entry (sender (shape g)) [] is (entry_of g e))) both
          ∙ ap (λ rest. record { label = i.step; delta = joined (rising (length g.variables) (keys_of v)) (rising (length g.variables) (keys_of i.writes)) } ∷ rest)
          (seen-with_entry g e h l [] is ∙ ap (λ d. items_after g e d (map (seen_of g) is)) (rising-nothing (length g.variables))))
    ]

-- what r sees after one edge more
pub view_of-snoc : (g : Graph) (r : ℕ) (es : List ℕ) (e : ℕ) → IsGraph g → e < length g.edges → view_of g r (es ++ e ∷ []) ≡ next_view g r (view_of g r es) e
view_of-snoc g r es e h l =
    elim (cases_Bool (sender (shape g) e == r)) [
      | inl own ↦ rw own (by_own own)
      | inr other ↦ rw other (by_other other)
    ]
  where
    ent : Type 0
    ent = Entry ℕ (Unit {0})

    more : walked g (es ++ e ∷ []) ≡ walked g es ++ entry_of g e ∷ []
    more = map-append (entry_of g) es (e ∷ [])

    by_own : (sender (shape g) e == r) ≡ true → view_of g r (es ++ e ∷ []) ≡ record { origin = Some e; items = [] }
    by_own own =
        let o : last (up_to_last (sender (shape g)) r (es ++ e ∷ [])) ≡ Some e = ap last (up_to_last-own (sender (shape g)) r e own es) ∙ last-snoc es e in
        let a : after_last (λ (y : Entry ℕ (Unit {0})). sender (shape g) y.step) r (walked g (es ++ e ∷ [])) ≡ [] =
        ap (after_last (λ (y : Entry ℕ (Unit {0})). sender (shape g) y.step) r) more ∙ after_last-own (λ (y : Entry ℕ (Unit {0})). sender (shape g) y.step) r (entry_of g e) own (walked g es) in
        λ i. record { origin = o i; items = map (seen_of g) (evidence (sender (shape g)) (a i)) }

    by_other : (sender (shape g) e == r) ≡ false → view_of g r (es ++ e ∷ []) ≡ record { origin = (view_of g r es).origin; items = items_after g e [] (view_of g r es).items }
    by_other other =
        let o : last (up_to_last (sender (shape g)) r (es ++ e ∷ [])) ≡ last (up_to_last (sender (shape g)) r es) = ap last (up_to_last-other (sender (shape g)) r e other es) in
        let since = after_last (λ (y : Entry ℕ (Unit {0})). sender (shape g) y.step) r (walked g es) in
        let a : after_last (λ (y : Entry ℕ (Unit {0})). sender (shape g) y.step) r (walked g (es ++ e ∷ [])) ≡ since ++ entry_of g e ∷ [] =
        ap (after_last (λ (y : Entry ℕ (Unit {0})). sender (shape g) y.step) r) more ∙ after_last-other (λ (y : Entry ℕ (Unit {0})). sender (shape g) y.step) r (entry_of g e) other (walked g es) in
        let b : evidence (sender (shape g)) (since ++ entry_of g e ∷ []) ≡ with_entry (sender (shape g)) [] (evidence (sender (shape g)) since) (entry_of g e) =
        sym (evidence_again (sender (shape g)) since (entry_of g e ∷ []))
        ∙ sym (carry-nothing (evidence (sender (shape g)) (evidence (sender (shape g)) since ++ entry_of g e ∷ [])))
        ∙ evidence-snoc (sender (shape g)) [] (evidence (sender (shape g)) since) (entry_of g e) (Apart-evidence (sender (shape g)) since) in
        let c : map (seen_of g) (evidence (sender (shape g)) (after_last (λ (y : Entry ℕ (Unit {0})). sender (shape g) y.step) r (walked g (es ++ e ∷ [])))) ≡ items_after g e [] (map (seen_of g) (evidence (sender (shape g)) since)) =
        ap (λ xs. map (seen_of g) (evidence (sender (shape g)) xs)) a ∙ ap (map (seen_of g)) b
        ∙ seen-with_entry g e h l [] (evidence (sender (shape g)) since)
        ∙ ap (λ d. items_after g e d (map (seen_of g) (evidence (sender (shape g)) since))) (rising-nothing (length g.variables)) in
        λ i. record { origin = o i; items = c i }
