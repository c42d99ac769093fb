-- Lists that are gone through from the end.
use Rattle.std.proofs.Common.{◌≡◌, ℕ, suc, ◌+◌, ◌-◌, ◌<◌, List, [], ◌∷◌, ◌++◌, drop, length, get_or, map, reverse, refl, ap, sym, ◌∙◌, arith, append_assoc}
use Rattle.std.proofs.lemmas.List.{map-append, reverse-append}
use Rattle.sg_model.proofs.Small.{drop_from}

-- one element more behind which the rest stands
pub one_back : {A : Type 0} (xs : List A) (back : ℕ) (x : A) → back < length xs → x ≡ get_or xs (length xs - 1 - back) x → drop (length xs - (back + 1)) xs ≡ x ∷ drop (length xs - back) xs
one_back xs back x l e =
    let here : length xs - (back + 1) ≡ length xs - 1 - back = omega arith in
    let index : suc (length xs - 1 - back) ≡ length xs - back = omega arith in
    ap (λ n. drop n xs) here ∙ drop_from xs (length xs - 1 - back) x (omega arith) e ∙ ap (λ n. x ∷ drop n xs) index

-- what stands in front of a list stands behind it in reverse
pub push_back : {A : Type 0} (prefix xs old new : List A) (x : A) → old ≡ prefix ++ reverse xs → new ≡ old ++ x ∷ [] → new ≡ prefix ++ reverse (x ∷ xs)
push_back prefix xs old new x before more =
    more ∙ ap (λ l. l ++ x ∷ []) before ∙ append_assoc prefix (reverse xs) (x ∷ []) ∙ ap (λ l. prefix ++ l) (sym (reverse-append (x ∷ []) xs))

-- to reverse a list and then map it is to map it and then reverse it
pub map-reverse : {A B : Type 0} (f : A → B) (xs : List A) → map f (reverse xs) ≡ reverse (map f xs)
map-reverse f [] = refl
map-reverse f (x ∷ xs) =
    ap (map f) (reverse-append (x ∷ []) xs) ∙ map-append f (reverse xs) (x ∷ []) ∙ ap (λ l. l ++ f x ∷ []) (map-reverse f xs) ∙ sym (reverse-append (f x ∷ []) (map f xs))
