-- What a role knows on a walk, and what opens it.
use Rattle.std.specs.Prelude.{◌≡◌, ℕ, ◌==◌, ◌||◌, ◌⊎◌, Bool, true, false, if◌then◌else◌, List, [], ◌∷◌, ◌++◌, map, refl, Some, None, option_map, IfSome}
use Rattle.std.specs.List.{AllByRecursion, list_any}
use Rattle.std.proofs.Common.{sym, ◌∙◌, ap, subst, inl, inr, append_assoc, append-nil}
use Rattle.std.proofs.lemmas.Bool.{cases_Bool, eqb-true}
use Rattle.sg_model.specs.Last.{Map, has, last}
use Rattle.sg_model.specs.Lists.{value_at, keys_of, is_in, from_last}
use Rattle.sg_model.specs.Shape.{Walk, role_at, target, sender, receiver}
use Rattle.sg_model.specs.Values.{Opening}
use Rattle.sg_model.proofs.Small.{clash, or_false, or_assoc, first_false, second_false, and_false}
use Rattle.sg_protocol.specs.Graph.{Graph, shape, writes, reads}
use Rattle.sg_protocol.specs.Knowledge.{learns, knows}
use Rattle.sg_protocol.specs.Frame.{Item}
use Rattle.sg_protocol.specs.Session.{committed, opening_in}
use Rattle.sg_protocol.proofs.Ends.{labels}

any-append : {A : Type 0} (p : A → Bool) (xs ys : List A) → list_any p (xs ++ ys) ≡ (list_any p xs || list_any p ys)
any-append p [] ys = refl
any-append p (x ∷ xs) ys = ap (λ b. p x || b) (any-append p xs ys) ∙ or_assoc (p x) (list_any p xs) (list_any p ys)

from_last-no : {A : Type 0} (p : A → Bool) (xs : List A) (y : A) → p y ≡ false → from_last p (xs ++ y ∷ []) ≡ (if list_any p xs then from_last p xs ++ y ∷ [] else [])
from_last-no p [] y e = rw e refl
from_last-no p (x ∷ xs) y e =
    let a : list_any p (xs ++ y ∷ []) ≡ list_any p xs = any-append p xs (y ∷ []) ∙ ap (λ b. list_any p xs || (b || false)) e ∙ or_false (list_any p xs) in
    let ih : from_last p (xs ++ y ∷ []) ≡ (if list_any p xs then from_last p xs ++ y ∷ [] else []) = from_last-no p xs y e in
    elim (cases_Bool (list_any p xs)) [
      | inl h ↦ rw (a ∙ h, h) ((rw h at ih) ∙ both (p x))
      | inr h ↦ rw (a ∙ h, h) (elim (cases_Bool (p x)) [ inl k ↦ rw k refl | inr k ↦ rw k refl ])
    ]
  where
    both : (b : Bool) → from_last p xs ++ y ∷ [] ≡ (if b || true then from_last p xs ++ y ∷ [] else [])
    both true = refl
    both false = refl

from_last-yes : {A : Type 0} (p : A → Bool) (xs : List A) (y : A) → p y ≡ true → from_last p (xs ++ y ∷ []) ≡ y ∷ []
from_last-yes p [] y e = rw e refl
from_last-yes p (x ∷ xs) y e = rw (any-append p xs (y ∷ []) ∙ ap (λ b. list_any p xs || (b || false)) e ∙ right (list_any p xs)) (from_last-yes p xs y e)
  where
    right : (b : Bool) → (b || (true || false)) ≡ true
    right true = refl
    right false = refl

module _ (g : Graph) (r v : ℕ) where
  abbrev wrote : ℕ → Bool
  wrote e = is_in v (writes g e)

  pub knows_more : (w : List ℕ) (e : ℕ) → knows g r v (w ++ e ∷ []) ≡ true → learns g r v e ≡ false → (knows g r v w ≡ true) × (is_in v (writes g e) ≡ false)
  knows_more w e k l = elim (cases_Bool (is_in v (writes g e))) [
    | inl h ↦ absurd (clash (list_any (learns g r v) (e ∷ [])) (ap (list_any (learns g r v)) (sym (from_last-yes wrote w e h)) ∙ k) (rw l refl))
    | inr h ↦ (old (cases_Bool (list_any wrote w)) (ap (list_any (learns g r v)) (sym (from_last-no wrote w e h)) ∙ k), h)
  ]
    where
      old : (list_any wrote w ≡ true) ⊎ (list_any wrote w ≡ false) → list_any (learns g r v) (if list_any wrote w then from_last wrote w ++ e ∷ [] else []) ≡ true → knows g r v w ≡ true
      old (inl a) q = sym (or_false (list_any (learns g r v) (from_last wrote w))) ∙ ap (λ b. list_any (learns g r v) (from_last wrote w) || (b || false)) (sym l) ∙ sym (any-append (learns g r v) (from_last wrote w) (e ∷ [])) ∙ (rw a at q)
      old (inr a) q = absurd (let f : false ≡ true = rw a at q in cc)

  pub knows_past : (w es : List ℕ) → list_any (learns g r v) es ≡ false → knows g r v (w ++ es) ≡ true → (knows g r v w ≡ true) × (list_any wrote es ≡ false)
  knows_past w [] l k = (subst (λ z. knows g r v z ≡ true) (append-nil w) k, refl)
  knows_past w (e ∷ es) l k =
      let le : learns g r v e ≡ false = first_false (learns g r v e) (list_any (learns g r v) es) l in
      let ls : list_any (learns g r v) es ≡ false = second_false (learns g r v e) (list_any (learns g r v) es) l in
      let ih = knows_past (w ++ e ∷ []) es ls (subst (λ z. knows g r v z ≡ true) (sym (append_assoc w (e ∷ []) es)) k) in
      let m = knows_more w e ih.0 le in
      (m.0, rw (m.1, ih.1) refl)

  -- a role that sends none of the steps learns only from the last one
  pub unlearned : (m : ℕ) (es : List ℕ) → Walk (shape g) m es → has (sender (shape g)) r es ≡ false → IfSome (last es) (λ e. is_in v (reads g e) ≡ false) → list_any (learns g r v) es ≡ false
  unlearned m [] w n l = refl
  unlearned m (e ∷ []) w n l = (let s : (sender (shape g) e == r) ≡ false = first_false (sender (shape g) e == r) false n in rw (s, l) (ap (λ b. b || false) (and_false (receiver (shape g) e == r))))
  unlearned m (e ∷ f ∷ es) w n l =
      let s : (sender (shape g) e == r) ≡ false = first_false (sender (shape g) e == r) (has (sender (shape g)) r (f ∷ es)) n in
      let n' : has (sender (shape g)) r (f ∷ es) ≡ false = second_false (sender (shape g) e == r) (has (sender (shape g)) r (f ∷ es)) n in
      let s' : (receiver (shape g) e == r) ≡ false = ap (λ k. role_at (shape g) k == r) (sym w.2.1) ∙ first_false (sender (shape g) f == r) (has (sender (shape g)) r es) n' in
      rw (s, s') (unlearned (target (shape g) e) (f ∷ es) w.2 n' l)

-- ---- openings

-- an opening of a variable among openings of these variables
pub opening_there : (os : List Opening) (x : ℕ) → is_in x (map (λ (o : Opening). o.variable) os) ≡ true → (o : Opening) × (opening_in os x ≡ Some o) × (o.variable ≡ x)
opening_there [] x h = absurd (cc)
opening_there (o ∷ os) x h = elim (cases_Bool (o.variable == x)) [
  | inl e ↦ (o, rw e refl, eqb-true o.variable x e)
  | inr e ↦ (let r = opening_there os x (rw e at h) in (r.0, rw e r.1, r.2))
]

pub opening_not : (os : List Opening) (x : ℕ) → is_in x (map (λ (o : Opening). o.variable) os) ≡ false → opening_in os x ≡ None
opening_not [] x h = refl
opening_not (o ∷ os) x h = elim (cases_Bool (o.variable == x)) [
  | inl e ↦ absurd (let f : true ≡ false = rw e at h in cc)
  | inr e ↦ rw e (opening_not os x (rw e at h))
]

pub opening_all : (P : Opening → Type 0) (os : List Opening) (x : ℕ) (o : Opening) → AllByRecursion P os → opening_in os x ≡ Some o → P o
opening_all P [] x o a e = absurd (cc)
opening_all P (z ∷ os) x o a e = elim (cases_Bool (z.variable == x)) [
  | inl h ↦ (let f : Some z ≡ Some o = rw h at e in let q : z ≡ o = cc in subst P q a.0)
  | inr h ↦ opening_all P os x o a.1 (rw h at e)
]

pub value_of_opening : (C : Opening → List ℕ) (os : List Opening) (x : ℕ) → value_at (map (λ (o : Opening). (o.variable, C o)) os) x ≡ option_map C (opening_in os x)
value_of_opening C [] x = refl
value_of_opening C (o ∷ os) x = elim (cases_Bool (o.variable == x)) [ inl e ↦ rw e refl | inr e ↦ rw e (value_of_opening C os x) ]

pub value_none : {A : Type 0} (m : Map A) (x : ℕ) → is_in x (keys_of m) ≡ false → value_at m x ≡ None
value_none [] x h = refl
value_none (w ∷ ws) x h = elim (cases_Bool (w.0 == x)) [ inl e ↦ absurd (let f : true ≡ false = rw e at h in cc) | inr e ↦ rw e (value_none ws x (rw e at h)) ]

-- items that write nothing to a variable
pub not_committed : (g : Graph) (x : ℕ) (is : List Item) → AllByRecursion (λ (i : Item). keys_of i.delta ≡ writes g i.label) is → list_any (λ e. is_in x (writes g e)) (labels is) ≡ false → committed x is ≡ None
not_committed g x [] k h = refl
not_committed g x (i ∷ is) k h = elim (cases_Bool (is_in x (writes g i.label))) [
  | inl e ↦ absurd (let f : true ≡ false = rw e at h in cc)
  | inr e ↦ rw (not_committed g x is k.1 (rw e at h)) (value_none i.delta x (ap (is_in x) k.0 ∙ e))
]
