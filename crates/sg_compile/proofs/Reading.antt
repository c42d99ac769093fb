-- What a text begins with, and its first line.
use Rattle.std.proofs.Common.{◌≡◌, ℕ, ◌+◌, ◌<◌, ◌≤◌, ◌==◌, Bool, true, false, not, ◌&&◌, List, [], ◌∷◌, ◌++◌, length, take, drop, get_or, bytes_eq, Option, Some, None, refl, sym, ap, ◌∙◌, subst, true≢false, arith, IsTrue, append_assoc, length-append, add-one, length-take-le}
use Rattle.std.specs.Prelude.{codes, MatchOption, IfSome, IsSome, ◌↔◌, position, nat_le}
use Rattle.std.specs.List.{list_all, find}
use Rattle.std.proofs.Math.Seq.{drop-append_seam, drop-cons}
use Rattle.std.proofs.lemmas.Bool.Decides.{Decides-eqb}
use Rattle.std.proofs.lemmas.List.{take-append-drop, get_or-take}
use Rattle.std.proofs.lemmas.List.Quantifiers.{position-Some}
use Rattle.std.proofs.lemmas.List.Sums.{list_all-from_AllPass}
use Rattle.std.proofs.lemmas.Slice.Eq.{bytes_eq-Decides}
use Rattle.std.proofs.lemmas.Bool.{and_parts}
use Rattle.sg_model.specs.Names.{is_letter, is_name_byte}
use Rattle.sg_protocol.specs.Graph.{Name, is_name}
use Rattle.sg_compile.specs.Loading.{HasRole}
use Rattle.sg_compile.specs.Text.{line}

-- ---- beginnings

-- a text that begins with another is that and the rest
pub begins_yes : (prefix xs : List ℕ) → bytes_eq prefix (take (length prefix) xs) ≡ true → xs ≡ prefix ++ drop (length prefix) xs
begins_yes prefix xs h =
    sym (take-append-drop (length prefix) xs) ∙ ap (λ ys. ys ++ drop (length prefix) xs) (sym ((bytes_eq-Decides prefix (take (length prefix) xs)).0 h))

-- what stands in front of two equal texts goes
pub prefix_goes : (prefix xs ys : List ℕ) → prefix ++ xs ≡ prefix ++ ys → xs ≡ ys
prefix_goes prefix xs ys e = sym (drop-append_seam prefix xs) ∙ ap (drop (length prefix)) e ∙ drop-append_seam prefix ys

-- ---- lines

-- the byte is no line end
abbrev pub is_inner : ℕ → Bool
is_inner c = not (c == 10)

-- no line end is in the text
abbrev pub is_free : List ℕ → Bool
is_free xs = list_all is_inner xs

-- a byte that passes a test which a line end doesn't is no line end
pub inner_by : (p : ℕ → Bool) → p 10 ≡ false → (c : ℕ) → p c ≡ true → is_inner c ≡ true
inner_by p miss c hit = by (c == 10) refl
  where
    by : (b : Bool) → (c == 10) ≡ b → is_inner c ≡ true
    by false e = rw e refl
    by true e = absurd (true≢false (sym hit ∙ ap p ((Decides-eqb c 10).0 e) ∙ miss))

free_by : (p : ℕ → Bool) → p 10 ≡ false → (xs : List ℕ) → list_all p xs ≡ true → is_free xs ≡ true
free_by p miss [] all = refl
free_by p miss (x ∷ xs) all = let parts = and_parts (p x) (list_all p xs) all in rw (inner_by p miss x parts.0, free_by p miss xs parts.1) refl

-- a name has no line end
pub name_free : (n : Name) → is_name n ≡ true → is_free n ≡ true
name_free [] h = refl
name_free (c ∷ cs) h =
    let parts = and_parts (is_letter c && list_all is_name_byte cs) (nat_le (length cs) 31) h in
    let parts' = and_parts (is_letter c) (list_all is_name_byte cs) parts.0 in
    rw (inner_by is_letter refl c parts'.0, free_by is_name_byte refl cs parts'.1) refl

-- lines that begin the same text are the same
pub line_unique : (a b x y : List ℕ) → is_free a ≡ true → is_free b ≡ true → a ++ 10 ∷ x ≡ b ++ 10 ∷ y → (a ≡ b) × (x ≡ y)
line_unique [] [] x y fa fb e = (refl, tail_of e)
  where
    tail_of : 10 ∷ x ≡ 10 ∷ y → x ≡ y
    tail_of h = cc
line_unique [] (b ∷ bs) x y fa fb e = absurd (end_in b bs (head_of e) fb)
  where
    head_of : 10 ∷ x ≡ b ∷ (bs ++ 10 ∷ y) → 10 ≡ b
    head_of h = cc

    end_in : (c : ℕ) (cs : List ℕ) → 10 ≡ c → is_free (c ∷ cs) ≡ true → ⊥
    end_in c cs e f = true≢false (sym (subst (λ d. is_inner d ≡ true) (sym e) (and_parts (is_inner c) (is_free cs) f).0))
line_unique (a ∷ more) [] x y fa fb e = absurd (end_in a more (head_of e) fa)
  where
    head_of : a ∷ (more ++ 10 ∷ x) ≡ 10 ∷ y → 10 ≡ a
    head_of h = cc

    end_in : (c : ℕ) (cs : List ℕ) → 10 ≡ c → is_free (c ∷ cs) ≡ true → ⊥
    end_in c cs e f = true≢false (sym (subst (λ d. is_inner d ≡ true) (sym e) (and_parts (is_inner c) (is_free cs) f).0))
line_unique (a ∷ more) (b ∷ bs) x y fa fb e =
    let heads : a ≡ b = head_of e in
    let rest = line_unique more bs x y (and_parts (is_inner a) (is_free more) fa).1 (and_parts (is_inner b) (is_free bs) fb).1 (tail_of e) in
    ((λ i. heads i ∷ rest.0 i), rest.1)
  where
    head_of : a ∷ (more ++ 10 ∷ x) ≡ b ∷ (bs ++ 10 ∷ y) → a ≡ b
    head_of h = cc

    tail_of : a ∷ (more ++ 10 ∷ x) ≡ b ∷ (bs ++ 10 ∷ y) → more ++ 10 ∷ x ≡ bs ++ 10 ∷ y
    tail_of h = cc

not_end : (b : Bool) → b ≡ false → not b ≡ true
not_end true h = absurd (true≢false h)
not_end false h = refl

-- the first line ends at the first line end
pub line_at : (xs : List ℕ) (i : ℕ) → position (λ c. c == 10) xs ≡ Some i → (is_free (take i xs) ≡ true) × (xs ≡ take i xs ++ 10 ∷ drop (i + 1) xs)
line_at xs i h =
    let at = position-Some (λ c. c == 10) xs i 0 h in
    let ten : get_or xs i 0 ≡ 10 = (Decides-eqb (get_or xs i 0) 10).0 at.1 in
    let less : i < length xs = at.0 in (
      list_all-from_AllPass is_inner (take i xs) (λ k d l. inner k d l),
      sym (take-append-drop i xs) ∙ ap (λ ys. take i xs ++ ys) (drop-cons xs i 0 less ∙ (λ j. ten j ∷ drop (sym (add-one i) j) xs)),
    )
  where
    inner : (k d : ℕ) → k < length (take i xs) → is_inner (get_or (take i xs) k d) ≡ true
    inner k d l =
        let least : i ≤ length xs = omega (arith, (position-Some (λ c. c == 10) xs i 0 h).0) in
        let less : k < i = omega (arith, length-take-le i xs least) in
        rw (get_or-take i xs k d less) (not_end _ ((position-Some (λ c. c == 10) xs i d h).2 k less))

-- a text without a line end has none before it
pub no_end : (xs a rest : List ℕ) → is_free xs ≡ true → xs ≡ a ++ 10 ∷ rest → ⊥
no_end xs a rest f e = ended a (subst (λ ys. is_free ys ≡ true) e f)
  where
    ended : (b : List ℕ) → is_free (b ++ 10 ∷ rest) ≡ true → ⊥
    ended [] h = true≢false (sym h)
    ended (y ∷ ys) h = ended ys (and_parts (is_inner y) (is_free (ys ++ 10 ∷ rest)) h).1

-- if no line end is found there is none
pub none_free : (xs : List ℕ) → find (λ c. c == 10) xs ≡ None → is_free xs ≡ true
none_free [] h = refl
none_free (x ∷ xs) h = by (x == 10) refl (none_free xs)
  where
    some_not_none : {n : ℕ} → Some n ≡ None → ⊥
    some_not_none e = cc

    by : (b : Bool) → (x == 10) ≡ b → (find (λ c. c == 10) xs ≡ None → is_free xs ≡ true) → is_free (x ∷ xs) ≡ true
    by true e later = absurd (some_not_none (rw e at h))
    by false e later = rw (e, later (rw e at h)) refl

-- ---- the line of a role

-- a text whose line has no end has no line of a role
pub no_role : (text : List ℕ) → text ≡ codes "role " ++ drop 5 text → find (λ c. c == 10) (drop 5 text) ≡ None → (n : Name) (rest : List ℕ) → HasRole text n rest → ⊥
no_role text e none n rest h =
    let whole : drop 5 text ≡ n ++ 10 ∷ rest = prefix_goes (codes "role ") (drop 5 text) (n ++ 10 ∷ rest) (sym e ∙ h.spelled ∙ seam n rest) in
    no_end (drop 5 text) n rest (none_free (drop 5 text) none) whole
  where
    seam : (n rest : List ℕ) → line (codes "role " ++ n) ++ rest ≡ codes "role " ++ (n ++ 10 ∷ rest)
    seam n rest = append_assoc (codes "role " ++ n) (10 ∷ []) rest ∙ append_assoc (codes "role ") n (10 ∷ rest)

-- what stands between the word and the line end is read as a name
pub role_read : (text word : List ℕ) (end : ℕ) (o : Option Name) → text ≡ codes "role " ++ word → position (λ c. c == 10) word ≡ Some end
    → IsSome o ↔ IsTrue (is_name (take end word)) → IfSome o (λ n. n ≡ take end word)
    → MatchOption o ((n : Name) (rest : List ℕ) → HasRole text n rest → ⊥) (λ n. HasRole text n (drop (6 + length n) text))
role_read text word end None e at found value =
    λ n rest h.
    let whole : word ≡ n ++ 10 ∷ rest = prefix_goes (codes "role ") word (n ++ 10 ∷ rest) (sym e ∙ h.spelled ∙ seam n rest) in
    let (free, split) = line_at word end at in
    let same : take end word ≡ n = (line_unique (take end word) n (drop (end + 1) word) rest free (name_free n h.named) (sym split ∙ whole)).0 in
    true≢false (sym (found.1 (subst (λ m. IsTrue (is_name m)) (sym same) h.named)))
  where
    seam : (n rest : List ℕ) → line (codes "role " ++ n) ++ rest ≡ codes "role " ++ (n ++ 10 ∷ rest)
    seam n rest = append_assoc (codes "role " ++ n) (10 ∷ []) rest ∙ append_assoc (codes "role ") n (10 ∷ rest)
role_read text word end (Some m) e at found value =
    let (free, split) = line_at word end at in
    let rest : List ℕ = drop (end + 1) word in
    let prefix : List ℕ = line (codes "role " ++ m) in
    let spelled : text ≡ prefix ++ rest = e ∙ ap (λ w. codes "role " ++ w) (split ∙ ap (λ w. w ++ 10 ∷ rest) (sym value)) ∙ sym (seam m rest) in
    let size : length prefix ≡ 6 + length m = sized m in
    let left : drop (6 + length m) text ≡ rest = ap (λ k. drop k text) (sym size) ∙ ap (drop (length prefix)) spelled ∙ drop-append_seam prefix rest in
    record {
      named = subst (λ n. IsTrue (is_name n)) (sym value) (found.0 refl);
      spelled = spelled ∙ ap (λ r. prefix ++ r) (sym left);
    }
  where
    seam : (n rest : List ℕ) → line (codes "role " ++ n) ++ rest ≡ codes "role " ++ (n ++ 10 ∷ rest)
    seam n rest = append_assoc (codes "role " ++ n) (10 ∷ []) rest ∙ append_assoc (codes "role ") n (10 ∷ rest)

    sized : (n : List ℕ) → length (line (codes "role " ++ n)) ≡ 6 + length n
    sized n = omega (arith, length-append (codes "role " ++ n) (10 ∷ []), length-append (codes "role ") n)
