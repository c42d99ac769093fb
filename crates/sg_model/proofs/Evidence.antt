-- The laws of evidence.
use Rattle.std.proofs.Common.{◌≡◌, ◌⊎◌, ℕ, ◌==◌, Bool, true, false, not, ◌||◌, ◌&&◌, List, [], ◌∷◌, ◌++◌, filter, map, refl, sym, ap, ◌∙◌, subst, inl, inr, append_assoc, append-nil, IfSome}
use Rattle.std.proofs.lemmas.Bool.{cases_Bool, eqb-true, eq-eqb, or_parts, or_cases, or_right}
use Rattle.std.proofs.lemmas.List.Elements.{filter-append}
use Rattle.sg_model.specs.Last.{has, last_of, last_or, last, after_last, Map, Entry, merge, carry, evidence}
use Rattle.sg_model.proofs.LastOf.{has-append, last_of-drop, last_of-keep}

-- a name that is written by neither
pub has-kept : {A : Type 0} (k : ℕ) (xs later : Map A) → (has (λ (x : ℕ × A). x.0) k (filter (λ (w : ℕ × A). not (has (λ (x : ℕ × A). x.0) w.0 later)) xs) || has (λ (x : ℕ × A). x.0) k later) ≡ (has (λ (x : ℕ × A). x.0) k xs || has (λ (x : ℕ × A). x.0) k later)
has-kept k [] later = refl
has-kept {A = A} k (w ∷ ws) later =
    elim (cases_Bool (has (λ (x : ℕ × A). x.0) w.0 later)) [
      | inl e ↦ rw e (has-kept k ws later ∙ dropped (cases_Bool (w.0 == k)) e)
      | inr e ↦ rw e (or_again (w.0 == k) _ _ _ (has-kept k ws later))
    ]
  where
    or_again : (a b c d : Bool) → (b || d) ≡ (c || d) → ((a || b) || d) ≡ ((a || c) || d)
    or_again true b c d e = refl
    or_again false b c d e = e

    dropped : ((w.0 == k) ≡ true) ⊎ ((w.0 == k) ≡ false) → has (λ (x : ℕ × A). x.0) w.0 later ≡ true → (has (λ (x : ℕ × A). x.0) k ws || has (λ (x : ℕ × A). x.0) k later) ≡ (((w.0 == k) || has (λ (x : ℕ × A). x.0) k ws) || has (λ (x : ℕ × A). x.0) k later)
    dropped (inl same) e = rw same (or_right _ _ (subst (λ n. has (λ (x : ℕ × A). x.0) n later ≡ true) (eqb-true w.0 k same) e))
    dropped (inr other) e = rw other

-- two tests in turn
filter_twice : {X : Type 0} (p q r : X → Bool) → ((x : X) → (q x && p x) ≡ r x) → (xs : List X) → filter p (filter q xs) ≡ filter r xs
filter_twice p q r same [] = refl
filter_twice p q r same (x ∷ xs) =
    elim (cases_Bool (q x)) [
      | inl e ↦ elim (cases_Bool (p x)) [
        | inl f ↦ rw (e, ← same x, e, f) (ap (λ l. x ∷ l) (filter_twice p q r same xs))
        | inr f ↦ rw (e, ← same x, e, f) (filter_twice p q r same xs)
      ]
      | inr e ↦ rw (e, ← same x, e) (filter_twice p q r same xs)
    ]

not_or : (a b : Bool) → (not a && not b) ≡ not (b || a)
not_or true true = refl
not_or true false = refl
not_or false true = refl
not_or false false = refl

pub merge_assoc : {A : Type 0} (xs ys zs : Map A) → merge xs (merge ys zs) ≡ merge (merge xs ys) zs
merge_assoc {A = A} xs ys zs =
    ap (λ l. l ++ merge ys zs) (sym (filter_twice (unless zs) (unless ys) (unless (merge ys zs)) both xs))
    ∙ sym (append_assoc (filter (unless zs) (filter (unless ys) xs)) (filter (unless zs) ys) zs)
    ∙ ap (λ l. l ++ zs) (sym (filter-append (unless zs) (filter (unless ys) xs) ys))
  where
    unless : Map A → ℕ × A → Bool
    unless later w = not (has (λ (x : ℕ × A). x.0) w.0 later)

    both : (w : ℕ × A) → (unless ys w && unless zs w) ≡ unless (merge ys zs) w
    both w = not_or (has (λ (x : ℕ × A). x.0) w.0 ys) (has (λ (x : ℕ × A). x.0) w.0 zs) ∙ ap not (turned w.0 ∙ sym (has-append (λ (x : ℕ × A). x.0) w.0 (filter (unless zs) ys) zs))
      where
        or_comm : (a b : Bool) → (a || b) ≡ (b || a)
        or_comm true true = refl
        or_comm true false = refl
        or_comm false true = refl
        or_comm false false = refl

        turned : (k : ℕ) → (has (λ (x : ℕ × A). x.0) k zs || has (λ (x : ℕ × A). x.0) k ys) ≡ (has (λ (x : ℕ × A). x.0) k (filter (unless zs) ys) || has (λ (x : ℕ × A). x.0) k zs)
        turned k = or_comm (has (λ (x : ℕ × A). x.0) k zs) (has (λ (x : ℕ × A). x.0) k ys) ∙ sym (has-kept k ys zs)

-- one entry more
module _ {K A : Type 0} (role : K → ℕ) (x : Entry K A) (xs : List (Entry K A)) where
  pub evidence-drop : has (λ y. role y.step) (role x.step) xs ≡ true → evidence role (x ∷ xs) ≡ carry x.writes (evidence role xs)
  evidence-drop e = rw e

  pub evidence-keep : has (λ y. role y.step) (role x.step) xs ≡ false → evidence role (x ∷ xs) ≡ x ∷ evidence role xs
  evidence-keep e = rw e

pub carry-carry : {K A : Type 0} (v w : Map A) (xs : List (Entry K A)) → carry v (carry w xs) ≡ carry (merge v w) xs
carry-carry v w [] = refl
carry-carry v w (x ∷ xs) = ap (λ z. record { step = x.step; writes = z } ∷ xs) (merge_assoc v w x.writes)

pub has-carry : {K A : Type 0} (role : K → ℕ) (k : ℕ) (v : Map A) (xs : List (Entry K A)) → has (λ y. role y.step) k (carry v xs) ≡ has (λ y. role y.step) k xs
has-carry role k v [] = refl
has-carry role k v (x ∷ xs) = refl

-- the evidence has the roles of all entries
pub has-evidence : {K A : Type 0} (role : K → ℕ) (k : ℕ) (xs : List (Entry K A)) → has (λ y. role y.step) k (evidence role xs) ≡ has (λ y. role y.step) k xs
has-evidence role k [] = refl
has-evidence {K = K} {A = A} role k (x ∷ xs) =
    elim (cases_Bool (has (λ y. role y.step) (role x.step) xs)) [
      | inl e ↦ rw (evidence-drop role x xs e) (has-carry role k x.writes (evidence role xs) ∙ has-evidence role k xs ∙ dropped (cases_Bool (role x.step == k)) e)
      | inr e ↦ rw (evidence-keep role x xs e) (ap (λ b. (role x.step == k) || b) (has-evidence role k xs))
    ]
  where
    dropped : ((role x.step == k) ≡ true) ⊎ ((role x.step == k) ≡ false) → has (λ (y : Entry K A). role y.step) (role x.step) xs ≡ true → has (λ (y : Entry K A). role y.step) k xs ≡ ((role x.step == k) || has (λ (y : Entry K A). role y.step) k xs)
    dropped (inl same) e = rw same (subst (λ n. has (λ (y : Entry K A). role y.step) n xs ≡ true) (eqb-true (role x.step) k same) e)
    dropped (inr other) e = rw other

-- what is taken over at the front is taken over by the evidence
evidence-carry : {K A : Type 0} (role : K → ℕ) (v : Map A) (y : Entry K A) (ys : List (Entry K A)) → evidence role (carry v (y ∷ ys)) ≡ carry v (evidence role (y ∷ ys))
evidence-carry role v y ys =
    elim (cases_Bool (has (λ z. role z.step) (role y.step) ys)) [
      | inl e ↦ rw e (sym (carry-carry v y.writes (evidence role ys)))
      | inr e ↦ rw e
    ]

pub evidence_again : {K A : Type 0} (role : K → ℕ) (xs ys : List (Entry K A)) → evidence role (evidence role xs ++ ys) ≡ evidence role (xs ++ ys)
evidence_again role [] ys = refl
evidence_again {K = K} {A = A} role (x ∷ xs) ys =
    elim (cases_Bool (has (λ y. role y.step) (role x.step) xs)) [
      | inl e ↦ rw (evidence-drop role x xs e) (
          taken (evidence role xs) (has-evidence role (role x.step) xs ∙ e) ∙ ap (carry x.writes) (evidence_again role xs ys)
          ∙ sym (evidence-drop role x (xs ++ ys) (has-append (λ y. role y.step) (role x.step) xs ys ∙ ap (λ b. b || has (λ y. role y.step) (role x.step) ys) e))
          )
      | inr e ↦ rw (evidence-keep role x xs e) (step (cases_Bool (has (λ y. role y.step) (role x.step) (xs ++ ys))) (evidence_again role xs ys))
    ]
  where
    taken : (zs : List (Entry K A)) → has (λ (y : Entry K A). role y.step) (role x.step) zs ≡ true → evidence role (carry x.writes zs ++ ys) ≡ carry x.writes (evidence role (zs ++ ys))
    taken [] h = absurd (cc)
    taken (z ∷ zs) h = evidence-carry role x.writes z (zs ++ ys)

    same : has (λ (y : Entry K A). role y.step) (role x.step) (evidence role xs ++ ys) ≡ has (λ (y : Entry K A). role y.step) (role x.step) (xs ++ ys)
    same = has-append (λ y. role y.step) (role x.step) (evidence role xs) ys ∙ ap (λ b. b || has (λ y. role y.step) (role x.step) ys) (has-evidence role (role x.step) xs) ∙ sym (has-append (λ y. role y.step) (role x.step) xs ys)

    step : (has (λ (y : Entry K A). role y.step) (role x.step) (xs ++ ys) ≡ true) ⊎ (has (λ (y : Entry K A). role y.step) (role x.step) (xs ++ ys) ≡ false) → evidence role (evidence role xs ++ ys) ≡ evidence role (xs ++ ys) → evidence role (x ∷ (evidence role xs ++ ys)) ≡ evidence role (x ∷ (xs ++ ys))
    step (inl f) ih = evidence-drop role x (evidence role xs ++ ys) (same ∙ f) ∙ ap (carry x.writes) ih ∙ sym (evidence-drop role x (xs ++ ys) f)
    step (inr f) ih = evidence-keep role x (evidence role xs ++ ys) (same ∙ f) ∙ ap (λ l. x ∷ l) ih ∙ sym (evidence-keep role x (xs ++ ys) f)

-- the steps of the evidence
pub has-steps : {K A : Type 0} (role : K → ℕ) (k : ℕ) (xs : List (Entry K A)) → has role k (map (λ (y : Entry K A). y.step) xs) ≡ has (λ y. role y.step) k xs
has-steps role k [] = refl
has-steps role k (x ∷ xs) = ap (λ b. (role x.step == k) || b) (has-steps role k xs)

pub steps-carry : {K A : Type 0} (v : Map A) (xs : List (Entry K A)) → map (λ (y : Entry K A). y.step) (carry v xs) ≡ map (λ (y : Entry K A). y.step) xs
steps-carry v [] = refl
steps-carry v (x ∷ xs) = refl

pub steps-evidence : {K A : Type 0} (role : K → ℕ) (xs : List (Entry K A)) → map (λ (y : Entry K A). y.step) (evidence role xs) ≡ last_of role (map (λ (y : Entry K A). y.step) xs)
steps-evidence role [] = refl
steps-evidence {K = K} {A = A} role (x ∷ xs) =
    elim (cases_Bool (has (λ (y : Entry K A). role y.step) (role x.step) xs)) [
      | inl e ↦ rw (evidence-drop role x xs e) (steps-carry x.writes (evidence role xs) ∙ steps-evidence role xs ∙ sym (last_of-drop role x.step (map (λ (y : Entry K A). y.step) xs) (has-steps role (role x.step) xs ∙ e)))
      | inr e ↦ rw (evidence-keep role x xs e) (ap (λ l. x.step ∷ l) (steps-evidence role xs) ∙ sym (last_of-keep role x.step (map (λ (y : Entry K A). y.step) xs) (has-steps role (role x.step) xs ∙ e)))
    ]

-- what is added may be reduced too
evidence_right : {K A : Type 0} (role : K → ℕ) (xs ys : List (Entry K A)) → evidence role (xs ++ evidence role ys) ≡ evidence role (xs ++ ys)
evidence_right role [] ys = ap (evidence role) (sym (append-nil (evidence role ys))) ∙ evidence_again role ys [] ∙ ap (evidence role) (append-nil ys)
evidence_right {K = K} {A = A} role (x ∷ xs) ys =
    elim (cases_Bool (has (λ y. role y.step) (role x.step) (xs ++ ys))) [
      | inl f ↦ evidence-drop role x (xs ++ evidence role ys) (same ∙ f) ∙ ap (carry x.writes) (evidence_right role xs ys) ∙ sym (evidence-drop role x (xs ++ ys) f)
      | inr f ↦ evidence-keep role x (xs ++ evidence role ys) (same ∙ f) ∙ ap (λ l. x ∷ l) (evidence_right role xs ys) ∙ sym (evidence-keep role x (xs ++ ys) f)
    ]
  where
    same : has (λ (y : Entry K A). role y.step) (role x.step) (xs ++ evidence role ys) ≡ has (λ (y : Entry K A). role y.step) (role x.step) (xs ++ ys)
    same = has-append (λ y. role y.step) (role x.step) xs (evidence role ys) ∙ ap (λ b. has (λ y. role y.step) (role x.step) xs || b) (has-evidence role (role x.step) ys) ∙ sym (has-append (λ y. role y.step) (role x.step) xs ys)

pub evidence_joined : {K A : Type 0} (role : K → ℕ) (xs ys : List (Entry K A)) → evidence role (evidence role xs ++ evidence role ys) ≡ evidence role (xs ++ ys)
evidence_joined role xs ys = evidence_again role xs (evidence role ys) ∙ evidence_right role xs ys

pub after_last_none : {A : Type 0} (key : A → ℕ) (k : ℕ) (xs : List A) → has key k xs ≡ false → after_last key k xs ≡ xs
after_last_none key k [] free = refl
after_last_none key k (x ∷ xs) free = rw ((or_parts (key x == k) (has key k xs) free).1, (or_parts (key x == k) (has key k xs) free).0)

-- the part since a role's last entry, of a list that is cut there
pub after_last-append : {A : Type 0} (key : A → ℕ) (k : ℕ) (before since : List A) → has key k since ≡ false → IfSome (last before) (λ x. key x ≡ k) → after_last key k (before ++ since) ≡ since
after_last-append key k [] since free is = after_last_none key k since free
after_last-append key k (x ∷ []) since free is = rw (free, eq-eqb (key x) k is)
after_last-append key k (x ∷ y ∷ ys) since free is = rw (has-append key k (y ∷ ys) since ∙ ap (λ b. b || has key k since) (has_last key k y ys is)) (after_last-append key k (y ∷ ys) since free is)
  where
    has_last : {A : Type 0} (key : A → ℕ) (k : ℕ) (y : A) (ys : List A) → key (last_or y ys) ≡ k → has key k (y ∷ ys) ≡ true
    has_last key k y [] e = rw (eq-eqb (key y) k e)
    has_last key k y (z ∷ zs) e = or_right (key y == k) (has key k (z ∷ zs)) (has_last key k z zs e)

after_last-carry : {K A : Type 0} (role : K → ℕ) (k : ℕ) (v : Map A) (xs : List (Entry K A)) → has (λ y. role y.step) k xs ≡ true → after_last (λ y. role y.step) k (carry v xs) ≡ after_last (λ y. role y.step) k xs
after_last-carry role k v [] h = absurd (cc)
after_last-carry role k v (x ∷ xs) h =
    elim (or_cases (role x.step == k) (has (λ y. role y.step) k xs) h) [
      | inl e ↦ elim (cases_Bool (has (λ y. role y.step) k xs)) [ inl f ↦ rw f | inr f ↦ rw (f, e) ]
      | inr f ↦ rw f
    ]

-- the evidence for a role is read off the evidence of all
pub evidence_since : {K A : Type 0} (role : K → ℕ) (k : ℕ) (xs : List (Entry K A)) → after_last (λ y. role y.step) k (evidence role xs) ≡ evidence role (after_last (λ y. role y.step) k xs)
evidence_since role k [] = refl
evidence_since {K = K} {A = A} role k (x ∷ xs) =
    elim (cases_Bool (has (λ y. role y.step) k xs)) [
      | inl f ↦ later f (evidence_since role k xs)
      | inr f ↦ elim (cases_Bool (role x.step == k)) [ inl e ↦ here f e | inr e ↦ nowhere f e ]
    ]
  where
    key : Entry K A → ℕ
    key y = role y.step

    later : has (λ (y : Entry K A). role y.step) k xs ≡ true → after_last (λ (y : Entry K A). role y.step) k (evidence role xs) ≡ evidence role (after_last (λ y. role y.step) k xs) → after_last (λ (y : Entry K A). role y.step) k (evidence role (x ∷ xs)) ≡ evidence role (after_last (λ y. role y.step) k (x ∷ xs))
    later f ih =
        let f' : has (λ (y : Entry K A). role y.step) k (evidence role xs) ≡ true = has-evidence role k xs ∙ f in
        elim (cases_Bool (has (λ (y : Entry K A). role y.step) (role x.step) xs)) [
          | inl d ↦ rw (evidence-drop role x xs d, f) (after_last-carry role k x.writes (evidence role xs) f' ∙ ih)
          | inr d ↦ rw (evidence-keep role x xs d, f, f') ih
        ]

    here : has (λ (y : Entry K A). role y.step) k xs ≡ false → (role x.step == k) ≡ true → after_last (λ (y : Entry K A). role y.step) k (evidence role (x ∷ xs)) ≡ evidence role (after_last (λ y. role y.step) k (x ∷ xs))
    here f e =
        let d : has (λ (y : Entry K A). role y.step) (role x.step) xs ≡ false = ap (λ n. has (λ (y : Entry K A). role y.step) n xs) (eqb-true (role x.step) k e) ∙ f in
        let f' : has (λ (y : Entry K A). role y.step) k (evidence role xs) ≡ false = has-evidence role k xs ∙ f in
        rw (evidence-keep role x xs d, f', f, e)

    nowhere : has (λ (y : Entry K A). role y.step) k xs ≡ false → (role x.step == k) ≡ false → after_last (λ (y : Entry K A). role y.step) k (evidence role (x ∷ xs)) ≡ evidence role (after_last (λ y. role y.step) k (x ∷ xs))
    nowhere f e =
        let all : has (λ (y : Entry K A). role y.step) k (x ∷ xs) ≡ false = rw e f in
        after_last_none (λ (y : Entry K A). role y.step) k (evidence role (x ∷ xs)) (has-evidence role k (x ∷ xs) ∙ all) ∙ sym (ap (evidence role) (after_last_none (λ (y : Entry K A). role y.step) k (x ∷ xs) all))
