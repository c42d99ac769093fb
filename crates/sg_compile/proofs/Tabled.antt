-- Where the line `table` stands first.
use Rattle.std.proofs.Common.{◌≡◌, ℕ, ◌+◌, ◌<◌, ◌==◌, Bool, true, false, ◌&&◌, List, [], ◌∷◌, ◌++◌, length, take, drop, get_or, bytes_eq, Option, Some, None, option_map, refl, sym, ap, ◌∙◌, true≢false, append_assoc, append-nil}
use Rattle.std.specs.Prelude.{codes}
use Rattle.std.proofs.lemmas.List.{take_more, drop_more, drop-drop, take-append-drop}
use Rattle.sg_compile.specs.Loading.{at_table}
use Rattle.sg_compile.specs.Text.{line}
use Rattle.sg_compile.proofs.Reading.{begins_yes}

-- what at_table finds behind some bytes, with these in front
abbrev pub behind : List ℕ → Option (List ℕ × List ℕ) → Option (List ℕ × List ℕ)
behind prefix o = option_map (λ (s : List ℕ × List ℕ). (prefix ++ s.0, s.1)) o

-- the line stands here
pub table_here : (xs : List ℕ) → bytes_eq (line (codes "table")) (take 6 xs) ≡ true → at_table true xs ≡ Some ([], drop 6 xs)
table_here [] h = absurd (true≢false (sym h))
table_here (x ∷ xs) h = rw h refl

-- it doesn't stand here
pub table_on : (begins : Bool) (x : ℕ) (xs : List ℕ) → (begins && bytes_eq (line (codes "table")) (take 6 (x ∷ xs))) ≡ false
    → at_table begins (x ∷ xs) ≡ behind (x ∷ []) (at_table (x == 10) xs)
table_on begins x xs h = rw h refl

behind_more : (prefix : List ℕ) (x : ℕ) (o : Option (List ℕ × List ℕ)) → behind prefix (behind (x ∷ []) o) ≡ behind (prefix ++ x ∷ []) o
behind_more prefix x None = refl
behind_more prefix x (Some s) = λ i. Some (sym (append_assoc prefix (x ∷ []) s.0) i, s.1)

-- one byte on
pub table_more : (xs : List ℕ) (i : ℕ) (begins : Bool) → i < length xs → (begins && bytes_eq (line (codes "table")) (take 6 (drop i xs))) ≡ false
    → at_table true xs ≡ behind (take i xs) (at_table begins (drop i xs))
    → at_table true xs ≡ behind (take (i + 1) xs) (at_table (get_or xs i 0 == 10) (drop (i + 1) xs))
table_more xs i begins l miss before =
    let here = drop_more xs i 0 l in
    before ∙ ap (behind (take i xs)) (ap (at_table begins) here ∙ table_on begins (get_or xs i 0) (drop (i + 1) xs) (rw here at miss))
    ∙ behind_more (take i xs) (get_or xs i 0) _ ∙ ap (λ prefix. behind prefix (at_table (get_or xs i 0 == 10) (drop (i + 1) xs))) (sym (take_more xs i 0 l))

-- found
pub table_found : (xs : List ℕ) (i : ℕ) (begins : Bool) → begins ≡ true → bytes_eq (line (codes "table")) (take 6 (drop i xs)) ≡ true
    → at_table true xs ≡ behind (take i xs) (at_table begins (drop i xs)) → Some (take i xs, drop (i + 6) xs) ≡ at_table true xs
table_found xs i begins b h before =
    sym (before ∙ ap (behind (take i xs)) (ap (λ c. at_table c (drop i xs)) b ∙ table_here (drop i xs) h) ∙ (λ j. Some (append-nil (take i xs) j, drop-drop 6 i xs j)))

-- and there it stands
pub table_there : (xs : List ℕ) (i : ℕ) → bytes_eq (line (codes "table")) (take 6 (drop i xs)) ≡ true → xs ≡ take i xs ++ line (codes "table") ++ drop (i + 6) xs
table_there xs i h =
    sym (take-append-drop i xs) ∙ ap (λ ys. take i xs ++ ys) (begins_yes (line (codes "table")) (drop i xs) h ∙ ap (λ ys. line (codes "table") ++ ys) (drop-drop 6 i xs))
    ∙ sym (append_assoc (take i xs) (line (codes "table")) (drop (i + 6) xs))
