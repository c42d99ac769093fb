-- Where lines and words end.
use Rattle.std.proofs.Common.{◌≡◌, ◌≢◌, ℕ, suc, ◌+◌, ◌-◌, ◌<◌, ◌≤◌, ◌==◌, Bool, true, false, nat_lt, if◌then◌else◌, List, [], ◌∷◌, ◌++◌, length, take, drop, filter, refl, sym, ap, ◌∙◌, arith}
use Rattle.std.specs.List.{concat, position_or_len, slice_split, onto_first}
use Rattle.std.proofs.lemmas.Grind.{common_steps}
use Rattle.std.proofs.lemmas.List.{length-take-le, take_all}
use Rattle.std.proofs.lemmas.List.Splits.{slice_split-cons_yes, slice_split-cons_no}
use Rattle.sg_sched.specs.Text.{lines, words}

-- the offset of the first mark
abbrev pub index : ℕ → List ℕ → ℕ
index mark bs = position_or_len (λ b. b == mark) bs

-- the first line and the lines after it
abbrev FirstLine : List ℕ → Type 0
FirstLine bs = lines bs ≡ take (index 10 bs + 1) bs ∷ lines (drop (index 10 bs + 1) bs)

first_onto : (c : ℕ) (cs : List ℕ) → (0 < length cs → FirstLine cs) → (c == 10) ≡ false → FirstLine (c ∷ cs)
first_onto c [] ih e = grind (arith, common_steps)
first_onto c (d ∷ ds) ih e = let more = ih (omega arith) in grind (arith, common_steps)

pub lines_first : (bs : List ℕ) → 0 < length bs → FirstLine bs
lines_first [] h = absurd (omega arith)
lines_first (c ∷ cs) h = by (c == 10) refl (lines_first cs)
  where
    by : (b : Bool) → (c == 10) ≡ b → (0 < length cs → FirstLine cs) → FirstLine (c ∷ cs)
    by true e ih = grind (arith, common_steps)
    by false e ih = first_onto c cs ih e

-- ---- lines that are joined

onto : (c : ℕ) (ls : List (List ℕ)) → concat (onto_first c ls) ≡ c ∷ concat ls
onto c [] = refl
onto c (l ∷ ls) = refl

-- lines that are joined are the text
pub joined : (bytes : List ℕ) → concat (lines bytes) ≡ bytes
joined [] = refl
joined (c ∷ cs) = by (c == 10) (joined cs)
  where
    by : (b : Bool) → concat (lines cs) ≡ cs → concat (if b then (c ∷ []) ∷ lines cs else onto_first c (lines cs)) ≡ c ∷ cs
    by true h = ap (λ xs. c ∷ xs) h
    by false h = onto c (lines cs) ∙ ap (λ xs. c ∷ xs) h

pub take_prefix : (xs ys : List ℕ) → take (length xs) (xs ++ ys) ≡ xs
take_prefix [] ys = refl
take_prefix (x ∷ xs) ys = ap (λ zs. x ∷ zs) (take_prefix xs ys)

-- ---- parts

-- the parts after the first one
abbrev pub parts_after : ℕ → List ℕ → List (List ℕ)
parts_after mark [] = []
parts_after mark (c ∷ cs) = slice_split (λ b. b == mark) cs

-- the first part and the parts after it
abbrev FirstPart : ℕ → List ℕ → Type 0
FirstPart mark bs = slice_split (λ b. b == mark) bs ≡ take (index mark bs) bs ∷ parts_after mark (drop (index mark bs) bs)

-- at a mark, and before the mark
pub index_yes : (mark c : ℕ) (cs : List ℕ) → (c == mark) ≡ true → index mark (c ∷ cs) ≡ 0
index_yes mark c cs e = grind (arith, common_steps)

pub index_no : (mark c : ℕ) (cs : List ℕ) → (c == mark) ≡ false → index mark (c ∷ cs) ≡ suc (index mark cs)
index_no mark c cs e = grind (arith, common_steps)

part_more : (mark c : ℕ) (cs : List ℕ) (n m : ℕ) → m ≡ suc n → slice_split (λ b. b == mark) cs ≡ take n cs ∷ parts_after mark (drop n cs) →
    onto_first c (slice_split (λ b. b == mark) cs) ≡ take m (c ∷ cs) ∷ parts_after mark (drop m (c ∷ cs))
part_more mark c cs n m e h = rw e (ap (onto_first c) h)

part_none : (mark c : ℕ) (cs : List ℕ) (m : ℕ) → m ≡ 0 → slice_split (λ b. b == mark) (c ∷ cs) ≡ [] ∷ slice_split (λ b. b == mark) cs → slice_split (λ b. b == mark) (c ∷ cs) ≡ take m (c ∷ cs) ∷ parts_after mark (drop m (c ∷ cs))
part_none mark c cs m e h = rw e h

pub parts_first : (mark : ℕ) (bs : List ℕ) → FirstPart mark bs
parts_first mark [] = refl
parts_first mark (c ∷ cs) = by (c == mark) refl (parts_first mark cs)
  where
    by : (b : Bool) → (c == mark) ≡ b → FirstPart mark cs → FirstPart mark (c ∷ cs)
    by true e ih = part_none mark c cs _ (index_yes mark c cs e) (slice_split-cons_yes (λ b. b == mark) c cs e)
    by false e ih = slice_split-cons_no (λ b. b == mark) c cs e ∙ part_more mark c cs _ _ (index_no mark c cs e) ih

-- behind a mark, as a part of what begins with it
pub parts_behind : (mark : ℕ) (bs : List ℕ) → 1 ≤ length bs → parts_after mark bs ≡ slice_split (λ b. b == mark) (take (length bs - 1) (drop 1 bs))
parts_behind mark [] h = absurd (omega arith)
parts_behind mark (c ∷ cs) h = ap (slice_split (λ b. b == mark)) (sym (take_all (length (c ∷ cs) - 1) cs (omega arith)))

-- the parts that are not empty
abbrev full : List (List ℕ) → List (List ℕ)
full parts = filter (λ w. nat_lt 0 (length w)) parts

-- from a space on, or at the end, the words are those behind it
abbrev WordsAfter : List ℕ → Type 0
WordsAfter bs = full (parts_after 32 (drop (index 32 bs) bs)) ≡ words (drop (index 32 bs) bs)

words_yes : (c : ℕ) (cs : List ℕ) (m : ℕ) → m ≡ 0 → words (c ∷ cs) ≡ words cs → full (parts_after 32 (drop m (c ∷ cs))) ≡ words (drop m (c ∷ cs))
words_yes c cs m e h = rw e (sym h)

words_no : (c : ℕ) (cs : List ℕ) (n m : ℕ) → m ≡ suc n → full (parts_after 32 (drop n cs)) ≡ words (drop n cs) → full (parts_after 32 (drop m (c ∷ cs))) ≡ words (drop m (c ∷ cs))
words_no c cs n m e h = rw e h

words_after : (bs : List ℕ) → WordsAfter bs
words_after [] = refl
words_after (c ∷ cs) = by (c == 32) refl (words_after cs)
  where
    by : (b : Bool) → (c == 32) ≡ b → WordsAfter cs → WordsAfter (c ∷ cs)
    by true e ih = words_yes c cs _ (index_yes 32 c cs e) (ap full (slice_split-cons_yes (λ b. b == 32) c cs e))
    by false e ih = words_no c cs _ _ (index_no 32 c cs e) ih

-- the first word and the words after it, if the text begins with no space
pub words_first : (bs : List ℕ) → index 32 bs ≢ 0 → index 32 bs ≤ length bs → words bs ≡ take (index 32 bs) bs ∷ words (drop (index 32 bs) bs)
words_first bs h in_range = ap full (parts_first 32 bs) ∙ kept ∙ ap (λ ws. take (index 32 bs) bs ∷ ws) (words_after bs)
  where
    kept : full (take (index 32 bs) bs ∷ parts_after 32 (drop (index 32 bs) bs)) ≡ take (index 32 bs) bs ∷ full (parts_after 32 (drop (index 32 bs) bs))
    kept = let l : length (take (index 32 bs) bs) ≡ index 32 bs = length-take-le (index 32 bs) bs in_range in grind (arith, common_steps)
