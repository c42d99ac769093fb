-- Lists of different names, read name by name.
use Rattle.std.proofs.Common.{◌≡◌, ℕ, Bool, true, false, not, ◌&&◌, ◌||◌, List, [], ◌∷◌, ◌++◌, length, get_or, position, zero, suc, ◌<◌, nat_lt, bytes_eq, Option, Some, None, refl, sym, ap, ◌∙◌, arith, if◌then◌else◌, subst, true≢false}
use Rattle.std.specs.List.{list_all, list_any, position_or_len}
use Rattle.std.proofs.lemmas.Grind.{common_steps}
use Rattle.std.proofs.lemmas.List.Folds.{list_any_at}
use Rattle.std.proofs.lemmas.List.{append_assoc, append-nil}
use Rattle.std.proofs.lemmas.Slice.Eq.{bytes_eq-Decides}
use Rattle.std.proofs.lemmas.Bool.Decides.{nat_tests}
use Rattle.std.proofs.lemmas.List.Sums.{passes_at_first}
use Rattle.sg_model.specs.Names.{is_name}
use Rattle.sg_model.specs.Lists.{has_text, all_differ}
use Rattle.sg_model.proofs.Small.{bytes_eq-swap}

-- a text of the list after it
pub has_text-middle : (t : List ℕ) (prefix rest : List (List ℕ)) → has_text t (prefix ++ t ∷ rest) ≡ true
has_text-middle t [] rest = ap (λ b. b || has_text t rest) ((bytes_eq-Decides t t).1 refl)
has_text-middle t (f ∷ fs) rest = let ih = has_text-middle t fs rest in by (bytes_eq t f) refl ih
  where
    by : (b : Bool) → bytes_eq t f ≡ b → has_text t (fs ++ t ∷ rest) ≡ true → has_text t (f ∷ (fs ++ t ∷ rest)) ≡ true
    by true e ih = ap (λ b. b || has_text t (fs ++ t ∷ rest)) e
    by false e ih = ap (λ b. b || has_text t (fs ++ t ∷ rest)) e ∙ ih

-- a text that stands before
pub differ_twice : (t : List ℕ) (prefix rest : List (List ℕ)) → has_text t prefix ≡ true → all_differ (prefix ++ t ∷ rest) ≡ false
differ_twice t [] rest h = absurd (cc)
differ_twice t (f ∷ fs) rest h = by (bytes_eq t f) refl (differ_twice t fs rest)
  where
    by : (b : Bool) → bytes_eq t f ≡ b → (has_text t fs ≡ true → all_differ (fs ++ t ∷ rest) ≡ false) → all_differ (f ∷ (fs ++ t ∷ rest)) ≡ false
    by true e ih =
        let same : t ≡ f = (bytes_eq-Decides t f).0 e in
        let there : has_text f (fs ++ t ∷ rest) ≡ true = subst (λ x. has_text x (fs ++ t ∷ rest) ≡ true) same (has_text-middle t fs rest) in
        ap (λ b. not b && all_differ (fs ++ t ∷ rest)) there
    by false e ih =
        let later : has_text t fs ≡ true = sym (ap (λ b. b || has_text t fs) e) ∙ h in
        grind (arith, common_steps, ih later)

-- a text that does not stand before
pub differ_push : (t : List ℕ) (prefix : List (List ℕ)) → has_text t prefix ≡ false → all_differ prefix ≡ true → all_differ (prefix ++ t ∷ []) ≡ true
differ_push t [] h d = refl
differ_push t (f ∷ fs) h d = step (bytes_eq t f) (has_text t fs) (has_text f fs) (all_differ fs) refl refl refl refl h d (differ_push t fs)
  where
    any_push : (p : List ℕ → Bool) (xs : List (List ℕ)) → list_any p xs ≡ false → p t ≡ false → list_any p (xs ++ t ∷ []) ≡ false
    any_push p xs a b = grind (arith, common_steps)

    step : (s u v w : Bool) → bytes_eq t f ≡ s → has_text t fs ≡ u → has_text f fs ≡ v → all_differ fs ≡ w → s || u ≡ false → not v && w ≡ true →
        (has_text t fs ≡ false → all_differ fs ≡ true → all_differ (fs ++ t ∷ []) ≡ true) → not (has_text f (fs ++ t ∷ [])) && all_differ (fs ++ t ∷ []) ≡ true
    step false false false true es eu ev ew h d ih =
        let apart : bytes_eq f t ≡ false = bytes_eq-swap f t ∙ es in
        let other : has_text f (fs ++ t ∷ []) ≡ false = any_push (bytes_eq f) fs ev apart in
        let rest = ih eu ew in
        (λ i. not (other i) && rest i)
    step true u v w es eu ev ew h d ih = absurd (true≢false h)
    step false true v w es eu ev ew h d ih = absurd (true≢false h)
    step false false true w es eu ev ew h d ih = absurd (true≢false (sym d))
    step false false false false es eu ev ew h d ih = absurd (true≢false (sym d))

-- the names so far, and those that parts spell
abbrev pub names_with : List (List ℕ) → List (List ℕ) → Option (List (List ℕ))
names_with prefix parts = if list_all is_name parts && all_differ (prefix ++ parts) then Some (prefix ++ parts) else None

pub names_twice : (prefix : List (List ℕ)) (t : List ℕ) (parts : List (List ℕ)) → has_text t prefix ≡ true → names_with prefix (t ∷ parts) ≡ None
names_twice prefix t parts h = by (list_all is_name (t ∷ parts)) (all_differ (prefix ++ t ∷ parts)) (differ_twice t prefix parts h)
  where
    by : (a d : Bool) → d ≡ false → (if a && d then Some (prefix ++ t ∷ parts) else None) ≡ None
    by true d e = ap (λ b. if b then Some (prefix ++ t ∷ parts) else None) e
    by false d e = refl

pub names_more : (prefix : List (List ℕ)) (t : List ℕ) (parts : List (List ℕ)) → is_name t ≡ true → names_with prefix (t ∷ parts) ≡ names_with (prefix ++ t ∷ []) parts
names_more prefix t parts h =
    ap (λ b. if b && list_all is_name parts && all_differ (prefix ++ t ∷ parts) then Some (prefix ++ t ∷ parts) else None) h
    ∙ ap (λ l. if list_all is_name parts && all_differ l then Some l else None) (sym (append_assoc prefix (t ∷ []) parts))

pub names_end : (prefix : List (List ℕ)) → all_differ prefix ≡ true → names_with prefix [] ≡ Some prefix
names_end prefix h = ap (λ l. if all_differ l then Some l else None) (append-nil prefix) ∙ ap (λ b. if b then Some prefix else None) h

-- the same, if a name was read from the first part
pub read_twice : (all : Option (List (List ℕ))) (prefix parts rest : List (List ℕ)) (t name : List ℕ) → all ≡ names_with prefix parts → parts ≡ t ∷ rest → name ≡ t → has_text name prefix ≡ true → None ≡ all
read_twice all prefix parts rest t name a p n h =
    sym (a ∙ ap (names_with prefix) p ∙ names_twice prefix t rest (subst (λ x. has_text x prefix ≡ true) n h))

pub read_more : (all : Option (List (List ℕ))) (prefix parts rest : List (List ℕ)) (t name : List ℕ) → all ≡ names_with prefix parts → parts ≡ t ∷ rest → name ≡ t → is_name t ≡ true → all ≡ names_with (prefix ++ name ∷ []) rest
read_more all prefix parts rest t name a p n h =
    a ∙ ap (names_with prefix) p ∙ names_more prefix t rest h ∙ ap (λ x. names_with (prefix ++ x ∷ []) rest) (sym n)

-- in a list of different names each stands at its index
index_in : (names : List (List ℕ)) (i : ℕ) → all_differ names ≡ true → i < length names → position_or_len (bytes_eq (get_or names i [])) names ≡ i
index_in [] i d h = absurd (omega arith)
index_in (n ∷ ns) zero d h = let e : bytes_eq n n ≡ true = (bytes_eq-Decides n n).1 refl in grind (arith, common_steps)
index_in (n ∷ ns) (suc i) d h = step (has_text n ns) (bytes_eq (get_or ns i []) n) refl refl d (λ k. index_in ns i k (omega arith))
  where
    step : (u v : Bool) → has_text n ns ≡ u → bytes_eq (get_or ns i []) n ≡ v → all_differ (n ∷ ns) ≡ true → (all_differ ns ≡ true → position_or_len (bytes_eq (get_or ns i [])) ns ≡ i) →
        position_or_len (bytes_eq (get_or ns i [])) (n ∷ ns) ≡ suc i
    step true v eu ev d ih = absurd (true≢false (sym (ap (λ b. not b && all_differ ns) (sym eu) ∙ d)))
    step false true eu ev d ih =
        let same : bytes_eq n (get_or ns i []) ≡ true = bytes_eq-swap n (get_or ns i []) ∙ ev in
        absurd (true≢false (sym (list_any_at (bytes_eq n) ns i [] (omega arith) same) ∙ eu))
    step false false eu ev d ih =
        let rest = ih (ap (λ b. not b && all_differ ns) (sym eu) ∙ d) in
        grind (arith, common_steps)

-- so the index of a name that stands at i is i
pub position_in : (names : List (List ℕ)) (i : ℕ) (name : List ℕ) → all_differ names ≡ true → i < length names → get_or names i [] ≡ name → position (bytes_eq name) names ≡ Some i
position_in names i name d h e =
    let p : position_or_len (bytes_eq name) names ≡ i = subst (λ x. position_or_len (bytes_eq x) names ≡ i) e (index_in names i d h) in
    grind (arith, common_steps)

-- a name that is not there has no index
pub position_out : (names : List (List ℕ)) (name : List ℕ) → has_text name names ≡ false → position (bytes_eq name) names ≡ None
position_out names name h = by (nat_lt (position_or_len (bytes_eq name) names) (length names)) refl
  where
    by : (b : Bool) → nat_lt (position_or_len (bytes_eq name) names) (length names) ≡ b → position (bytes_eq name) names ≡ None
    by true e =
        let inside : position_or_len (bytes_eq name) names < length names = grind (arith, nat_tests) in
        let there = passes_at_first (bytes_eq name) names [] inside in
        absurd (true≢false (sym (list_any_at (bytes_eq name) names _ [] inside there) ∙ h))
    by false e = ap (λ b. if b then Some (position_or_len (bytes_eq name) names) else None) e
