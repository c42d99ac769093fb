-- Lines and words written one by one.
use Rattle.std.proofs.Common.{◌≡◌, ℕ, ◌+◌, nat_lt, Bool, true, false, List, [], ◌∷◌, ◌++◌, map, filter, refl, sym, ◌∙◌, inl, inr, ◌⊎◌, append_assoc, append-nil}
use Rattle.std.specs.List.{flat_map, list_all}
use Rattle.std.proofs.lemmas.List.{map-append}
use Rattle.std.proofs.lemmas.Grind.{flat_map-append}
use Rattle.std.proofs.lemmas.Bool.{and_parts}
use Rattle.sg_model.specs.Lists.{is_in, rises_from}
use Rattle.sg_protocol.specs.Graph.{Name, AreNumbers, spaced, clause}
use Rattle.sg_graph.proofs.Rising.{below_more, below_zero, below_all}

-- the words of no number
pub words_none : (name : ℕ → Name) (xs : List ℕ) (start : List ℕ) → start ≡ start ++ spaced (map name (filter (λ x. nat_lt x 0) xs))
words_none name xs start = rw (below_zero xs) (sym (append-nil start))

-- the word of one number more
words_more : (name : ℕ → Name) (n : ℕ) (xs : List ℕ) (i : ℕ) (start now next : List ℕ) → AreNumbers n xs → is_in i xs ≡ true
    → now ≡ start ++ spaced (map name (filter (λ x. nat_lt x i) xs)) → next ≡ now ++ 32 ∷ name i
    → next ≡ start ++ spaced (map name (filter (λ x. nat_lt x (i + 1)) xs))
words_more name n xs i start now next h there before more =
    let rises = (and_parts (rises_from 0 xs) (list_all (λ k. nat_lt k n) xs) h).0 in
    let taken : filter (λ x. nat_lt x (i + 1)) xs ≡ filter (λ x. nat_lt x i) xs ++ i ∷ [] = below_more 0 i xs rises ∙ rw there in
    let word : flat_map (λ (n : Name). 32 ∷ n) (name i ∷ []) ≡ 32 ∷ name i = append-nil (32 ∷ name i) in
    more ∙ rw (before, append_assoc, taken, map-append, flat_map-append, word)

-- no word for a number that isn't among them
words_same : (name : ℕ → Name) (n : ℕ) (xs : List ℕ) (i : ℕ) (start now : List ℕ) → AreNumbers n xs → is_in i xs ≡ false
    → now ≡ start ++ spaced (map name (filter (λ x. nat_lt x i) xs)) → now ≡ start ++ spaced (map name (filter (λ x. nat_lt x (i + 1)) xs))
words_same name n xs i start now h away before =
    let rises = (and_parts (rises_from 0 xs) (list_all (λ k. nat_lt k n) xs) h).0 in
    let taken : filter (λ x. nat_lt x (i + 1)) xs ≡ filter (λ x. nat_lt x i) xs = below_more 0 i xs rises ∙ rw (away, append-nil) in
    before ∙ rw taken

-- one number more: its word follows if it is among them, else none
pub words_next : (name : ℕ → Name) (n : ℕ) (xs : List ℕ) (i : ℕ) (start now next : List ℕ) (b : Bool) → AreNumbers n xs → b ≡ is_in i xs
    → now ≡ start ++ spaced (map name (filter (λ x. nat_lt x i) xs)) → ((b ≡ true) × (next ≡ now ++ 32 ∷ name i)) ⊎ ((b ≡ false) × (next ≡ now))
    → next ≡ start ++ spaced (map name (filter (λ x. nat_lt x (i + 1)) xs))
words_next name n xs i start now next b h is before (inl y) = words_more name n xs i start now next h (sym is ∙ y.0) before y.1
words_next name n xs i start now next b h is before (inr z) = z.1 ∙ words_same name n xs i start now h (sym is ∙ z.0) before

-- the words of all numbers
pub words_all : (name : ℕ → Name) (n : ℕ) (xs : List ℕ) (i : ℕ) (start now : List ℕ) → AreNumbers n xs → i ≡ n
    → now ≡ start ++ spaced (map name (filter (λ x. nat_lt x i) xs)) → now ≡ start ++ spaced (map name xs)
words_all name n xs i start now h end before =
    let within = (and_parts (rises_from 0 xs) (list_all (λ k. nat_lt k n) xs) h).1 in
    before ∙ rw (end, below_all n xs within)

-- a clause of some names
pub clause_some : (word : List ℕ) (name : ℕ → Name) (xs : List ℕ) (b : Bool) → (xs ≡ [] → b ≡ true) → b ≡ false → clause word (map name xs) ≡ word ++ spaced (map name xs)
clause_some word name [] b e f = absurd (clash b (e refl) f)
  where
    clash : (b : Bool) → b ≡ true → b ≡ false → ⊥
    clash b t f = absurd (cc)
clause_some word name (x ∷ xs) b e f = refl
