-- Tags, times and tests of reduced items.
use Rattle.std.specs.Prelude.{◌≡◌, ℕ, ◌+◌, ◌<◌, ◌≤◌, ◌==◌, nat_lt, nat_le, ◌⊎◌, Bool, true, false, not, List, [], ◌∷◌, map, filter, find, position, length, refl, Option, Some, None, IfSome}
use Rattle.std.specs.List.{list_all, prefix_len}
use Rattle.std.proofs.Common.{sym, ◌∙◌, ap, subst, inl, inr, arith}
use Rattle.std.proofs.lemmas.Bool.{cases_Bool, eqb-true, eq-eqb, and_parts}
use Rattle.std.proofs.lemmas.Bool.Decides.{nat_tests}
use Rattle.sg_model.specs.Last.{Map, has, last, up_to_last}
use Rattle.sg_model.specs.Lists.{value_at, keys_of, is_in, first_some}
use Rattle.sg_model.specs.Shape.{sender}
use Rattle.sg_model.proofs.Small.{cases_Option, no_last}
use Rattle.sg_protocol.specs.Graph.{Graph, shape}
use Rattle.sg_protocol.specs.Frame.{Item}
use Rattle.sg_protocol.specs.Verdict.{bad_time}
use Rattle.sg_law.specs.Run as R
use Rattle.sg_law.proofs.Times as Times
use Rattle.sg_law.proofs.Cut as Cut'
use Rattle.sg_law.proofs.Upto as Upto'
use Rattle.sg_protocol.proofs.Entries.{Roles}
use Rattle.sg_protocol.proofs.Moves.{step}
use Rattle.sg_protocol.proofs.Reduced.{by_role, tags_but, lead, reduced, lead-lead, lead-in_order}
use Rattle.sg_protocol.proofs.KeptLaws.{in_order-in_order}

-- ---- tests that all pass

pub all_position : {A : Type 0} (p : A → Bool) (xs : List A) → list_all p xs ≡ true → position (λ c. not (p c)) xs ≡ None
all_position {A = A} p xs h = rw (go xs h, not_less (length xs)) refl
  where
    not_less : (n : ℕ) → nat_lt n n ≡ false
    not_less n = elim (cases_Bool (nat_lt n n)) [ inl e ↦ absurd (let l : n < n = grind (arith, nat_tests) in omega (arith, l)) | inr e ↦ e ]

    go : (xs : List A) → list_all p xs ≡ true → prefix_len (λ c. not (not (p c))) xs ≡ length xs
    go [] h = refl
    go (x ∷ xs) h = let q = and_parts (p x) (list_all p xs) h in rw q.0 (ap (λ n. 1 + n) (go xs q.1) ∙ omega arith)

pub all_find : {A : Type 0} (p : A → Bool) (xs : List A) → list_all p xs ≡ true → find (λ c. not (p c)) xs ≡ None
all_find p [] h = refl
all_find p (x ∷ xs) h = elim (cases_Bool (p x)) [ inl e ↦ rw e (all_find p xs (rw e at h)) | inr e ↦ absurd (let f : false ≡ true = rw e at h in cc) ]

-- ---- tags

pub tags_keys : (xs : List Item) (ts : Map (List ℕ)) → keys_of (tags_but xs ts) ≡ filter (λ t. not (has by_role t xs)) (keys_of ts)
tags_keys xs [] = refl
tags_keys xs (t ∷ ts) = elim (cases_Bool (has by_role t.0 xs)) [ inl e ↦ rw e (tags_keys xs ts) | inr e ↦ rw e (ap (λ l. t.0 ∷ l) (tags_keys xs ts)) ]

pub tag_kept : (xs : List Item) (ts : Map (List ℕ)) (r : ℕ) → has by_role r xs ≡ false → value_at (tags_but xs ts) r ≡ value_at ts r
tag_kept xs [] r h = refl
tag_kept xs (t ∷ ts) r h = elim (cases_Bool (t.0 == r)) [
  | inl d ↦ (let n : has by_role t.0 xs ≡ false = subst (λ z. has by_role z xs ≡ false) (sym (eqb-true t.0 r d)) h in rw (n, d) refl)
  | inr d ↦ elim (cases_Bool (has by_role t.0 xs)) [ inl e ↦ rw (e, d) (tag_kept xs ts r h) | inr e ↦ rw (e, d) (tag_kept xs ts r h) ]
]

pub tag_there : (T : ℕ → List ℕ) (ts : List ℕ) (r : ℕ) → is_in r ts ≡ true → value_at (map (λ t. (t, T t)) ts) r ≡ Some (T r)
tag_there T [] r h = absurd (cc)
tag_there T (t ∷ ts) r h = elim (cases_Bool (t == r)) [ inl e ↦ rw e (ap (λ z. Some (T z)) (eqb-true t r e)) | inr e ↦ rw e (tag_there T ts r (rw e at h)) ]

pub lead_nil : (g : Graph) (xs : List Item) → lead g [] (reduced g xs) ≡ reduced g xs
lead_nil g [] = refl
lead_nil g (i ∷ xs) = elim (cases_Bool (has by_role i.role xs)) [
  | inl e ↦ rw e (sym (lead-lead g [] i.delta (reduced g xs)) ∙ lead-in_order g i.delta (reduced g xs))
  | inr e ↦ rw e (ap (λ m. record i { delta = m; tags = tags_but xs i.tags } ∷ reduced g xs) (in_order-in_order (length g.variables) i.delta))
]

roles_lead : (g : Graph) (d : Map (List ℕ)) (xs : List Item) → Roles (shape g) xs → Roles (shape g) (lead g d xs)
roles_lead g d [] r = tt
roles_lead g d (x ∷ xs) r = r

pub roles_reduced : (g : Graph) (xs : List Item) → Roles (shape g) xs → Roles (shape g) (reduced g xs)
roles_reduced g [] r = tt
roles_reduced g (i ∷ xs) r = elim (cases_Bool (has by_role i.role xs)) [
  | inl e ↦ rw e (roles_lead g i.delta (reduced g xs) (roles_reduced g xs r.1))
  | inr e ↦ rw e (r.0, roles_reduced g xs r.1)
]

pub roles_test : (g : Graph) (xs : List Item) → Roles (shape g) xs → list_all (λ (i : Item). i.role == sender (shape g) i.label) xs ≡ true
roles_test g [] r = refl
roles_test g (i ∷ xs) r = rw (eq-eqb i.role (sender (shape g) i.label) r.0) (roles_test g xs r.1)

-- ---- times

less_weak : (t u : ℕ) (xs : List Item) → t ≤ u → R.RisesFrom u (map step xs) → R.RisesFrom t (map step xs)
less_weak t u xs l r = Times.rises_from_less t u (map step xs) l r

pub rises_reduced : (g : Graph) (t : ℕ) (xs : List Item) → R.RisesFrom t (map step xs) → R.RisesFrom t (map step (reduced g xs))
rises_reduced g t [] r = tt
rises_reduced g t (i ∷ xs) r = elim (cases_Bool (has by_role i.role xs)) [
  | inl e ↦ rw e (led (reduced g xs) (rises_reduced g t xs (less_weak t i.time xs (let l = r.0 in omega (arith, l)) r.1)))
  | inr e ↦ rw e (r.0, rises_reduced g i.time xs r.1)
]
  where
    led : (zs : List Item) → R.RisesFrom t (map step zs) → R.RisesFrom t (map step (lead g i.delta zs))
    led [] h = tt
    led (z ∷ zs) h = h

pub times_good : (n t : ℕ) (xs : List Item) → R.RisesFrom t (map step xs) → bad_time n t xs ≡ None
times_good n t [] r = refl
times_good n t (i ∷ xs) r = rw (above i.time t r.0) (times_good (n + 1) i.time xs r.1)
  where
    above : (a b : ℕ) → b < a → nat_le a b ≡ false
    above a b l = elim (cases_Bool (nat_le a b)) [ inl e ↦ absurd (let m : a ≤ b = grind (arith, nat_tests) in omega (arith, l, m)) | inr e ↦ e ]

-- ---- the last of a list

pub last_of_role : (k : ℕ) (xs : List Item) → IfSome (last xs) (λ (i : Item). i.role ≡ k) → up_to_last by_role k xs ≡ xs
last_of_role k xs h = go (cases_Option (last xs))
  where
    go : (last xs ≡ None) ⊎ ((i : Item) × (last xs ≡ Some i)) → up_to_last by_role k xs ≡ xs
    go (inl e) = let n : xs ≡ [] = no_last xs e in ap (up_to_last by_role k) n ∙ sym n
    go (inr e) =
        let c = Cut'.split_end xs e.0 e.1 in
        let r : (e.0).role ≡ k = subst (λ o. IfSome o (λ (i : Item). i.role ≡ k)) e.1 h in
        ap (up_to_last by_role k) c.1 ∙ Upto'.upto-at by_role k c.0 e.0 [] r refl ∙ sym c.1

pub none5 : {F : Type 0} (a b c d e : Option F) → a ≡ None → b ≡ None → c ≡ None → d ≡ None → e ≡ None → first_some (a ∷ b ∷ c ∷ d ∷ e ∷ []) ≡ None
none5 a b c d e p q r s t = rw (p, q, r, s, t) refl
