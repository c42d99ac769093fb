-- What stands first on a line, word by word.
use Rattle.std.proofs.Common.{◌≡◌, ℕ, zero, suc, ◌+◌, ◌≤◌, ◌<◌, ◌==◌, true, false, List, [], ◌∷◌, ◌++◌, length, take, drop, get_or, append_assoc, append-nil, bytes_eq, codes, Option, Some, None, option_map, option_and_then, refl, sym, ap, ◌∙◌, arith}
use Rattle.std.proofs.lemmas.List.{drop_more}
use Rattle.sg_sched.specs.Format.LineContents.{Word, Committed}
use Rattle.sg_sched.specs.Format.Reading.{WordsLeft, Taker}
use Rattle.sg_sched.specs.Format.CraftReading.{split_last, last_step, run, some_of, listed, is_next, optional, repeated, more_after, join, join_parts}
use Rattle.sg_sched.specs.Format.Reading.{word}
use Rattle.sg_sched.proofs.FormatWords.{same_self}
use Rattle.sg_model.specs.Names.{Name}

-- ---- the last mark

-- if what is behind an offset is split, the whole is
pub split_prefix : (mark n : ℕ) (w prefix back : Word) → n ≤ length w → split_last mark (drop n w) ≡ Some (prefix, back) → split_last mark w ≡ Some (take n w ++ prefix, back)
split_prefix mark zero w prefix back l h = h
split_prefix mark (suc n) [] prefix back l h = absurd (omega arith)
split_prefix mark (suc n) (c ∷ cs) prefix back l h = ap (last_step mark c cs) (split_prefix mark n cs prefix back (omega arith) h)

pub last_is : (mark n : ℕ) (w : Word) → n < length w → split_last mark (drop (n + 1) w) ≡ None → (get_or w n 0 == mark) ≡ true → split_last mark w ≡ Some (take n w, drop (n + 1) w)
last_is mark n w l h e =
    let here : split_last mark (get_or w n 0 ∷ drop (n + 1) w) ≡ Some ([], drop (n + 1) w) = rw (h, e) refl in
    split_prefix mark n w [] (drop (n + 1) w) (omega arith) (ap (split_last mark) (drop_more w n 0 l) ∙ here) ∙ ap (λ (f : Word). Some (f, drop (n + 1) w)) (append-nil (take n w))

-- ---- commitments

-- the commitments so far, and those that follow
abbrev pub run_after : List Committed → List Committed × WordsLeft → List Committed × WordsLeft
run_after found r = (found ++ r.0, r.1)

-- ---- what is repeated

-- what was found so far, and what follows
abbrev pub found_before : {A : Type 0} → List A → Option (List A × WordsLeft) → Option (List A × WordsLeft)
found_before {A} found o = option_map (λ (p : List A × WordsLeft). (found ++ p.0, p.1)) o

before_more : {A : Type 0} (found : List A) (x : A) (o : Option (List A × WordsLeft)) → found_before found (more_after x o) ≡ found_before (found ++ x ∷ []) o
before_more found x None = refl
before_more {A} found x (Some p) = ap (λ (xs : List A). Some (xs, p.1)) (sym (append_assoc found (x ∷ []) p.0))

repeated_more : {A : Type 0} (first : List ℕ) (take : Taker A) (n m : ℕ) (found : List A) (w : Word) (ws rest : WordsLeft) (x : A) → m ≡ suc n → bytes_eq w first ≡ true → take ws ≡ Some (x, rest)
    → found_before found (repeated first take m (w ∷ ws)) ≡ found_before (found ++ x ∷ []) (repeated first take n rest)
repeated_more first take n m found w ws rest x s e h = rw (s, e, h) (before_more found x (repeated first take n rest))

repeated_stops : {A : Type 0} (first : List ℕ) (take : Taker A) (n m : ℕ) (found : List A) (w : Word) (ws : WordsLeft) → m ≡ suc n → bytes_eq w first ≡ false
    → found_before found (repeated first take m (w ∷ ws)) ≡ Some (found, w ∷ ws)
repeated_stops {A} first take n m found w ws s e = rw (s, e) (ap (λ (xs : List A). Some (xs, w ∷ ws)) (append-nil found))

repeated_ends : {A : Type 0} (first : List ℕ) (take : Taker A) (n m : ℕ) (found : List A) → m ≡ suc n → found_before found (repeated first take m []) ≡ Some (found, [])
repeated_ends {A} first take n m found s = rw s (ap (λ (xs : List A). Some (xs, [])) (append-nil found))

pub repeated_full : {A : Type 0} (first : List ℕ) (take : Taker A) (m : ℕ) (found : List A) (ws : WordsLeft) → m ≡ 0 → found_before found (repeated first take m ws) ≡ Some (found, ws)
repeated_full {A} first take m found ws s = rw s (ap (λ (xs : List A). Some (xs, ws)) (append-nil found))

-- another word is next, and the words are as they were
pub stops : {A : Type 0} (first : List ℕ) (take : Taker A) (n m : ℕ) (found : List A) (ws rest : WordsLeft) → m ≡ suc n → (rest ≡ ws) × (is_next first ws ≡ false) → found_before found (repeated first take m ws) ≡ Some (found, rest)
stops {A} first take n m found ws rest s e = by ws e.1 ∙ ap (λ ws. Some (found, ws)) (sym e.0)
  where
    by : (ws : WordsLeft) → is_next first ws ≡ false → found_before found (repeated first take m ws) ≡ Some (found, ws)
    by [] e = repeated_ends first take n m found s
    by (w ∷ ws) e = repeated_stops first take n m found w ws s e

-- the word is next, and one more is taken behind it
pub goes_on : {A : Type 0} (first : List ℕ) (take : Taker A) (n m : ℕ) (found : List A) {more : List A} {ws behind rest : WordsLeft} {x : A} → m ≡ suc n → ws ≡ first ∷ behind → take behind ≡ Some (x, rest) → more ≡ found ++ x ∷ []
    → found_before found (repeated first take m ws) ≡ found_before more (repeated first take n rest)
goes_on {A} first take n m found {behind = behind} {rest = rest} {x = x} s e h p = ap (λ ws. found_before found (repeated first take m ws)) e
    ∙ repeated_more first take n m found first behind rest x s (same_self first) h
    ∙ ap (λ found. found_before found (repeated first take n rest)) (sym p)

-- ---- a word and what is behind it, or nothing

pub listed_first : (first : List ℕ) (ws : WordsLeft) → listed first (first ∷ ws) ≡ some_of (run ws)
unfolding listed
listed_first first ws = rw (same_self first) refl

pub listed_other : (first : List ℕ) (ws : WordsLeft) → is_next first ws ≡ false → listed first ws ≡ Some ([], ws)
unfolding listed
listed_other first [] e = refl
listed_other first (w ∷ ws) e = rw e refl

pub optional_first : {A : Type 0} (first : List ℕ) (read : Word → Option A) (ws : WordsLeft) → optional first read (first ∷ ws) ≡ option_map (λ (p : A × WordsLeft). (Some p.0, p.1)) (word read ws)
optional_first {A} first read ws = rw (same_self first) (by (word read ws))
  where
    by : (o : Option (A × WordsLeft)) → option_and_then {U = Option A × WordsLeft} (λ (p : A × WordsLeft). Some (Some p.0, p.1)) o ≡ option_map (λ (p : A × WordsLeft). (Some p.0, p.1)) o
    by None = refl
    by (Some p) = refl

pub optional_other : {A : Type 0} (first : List ℕ) (read : Word → Option A) (ws : WordsLeft) → is_next first ws ≡ false → optional first read ws ≡ Some (None, ws)
optional_other first read [] e = refl
optional_other first read (w ∷ ws) e = rw e refl

pub join_first : (ws : WordsLeft) → join (codes "join" ∷ ws) ≡ join_parts ws
unfolding join
join_first ws = refl

pub join_other : (ws : WordsLeft) → is_next (codes "join") ws ≡ false → join ws ≡ Some (None, ws)
unfolding join
join_other [] e = refl
join_other (w ∷ ws) e = rw e refl

-- ---- names with commas

-- the names so far, and those that follow
abbrev pub names_before : List Name → Option (List Name) → Option (List Name)
names_before found o = option_map (λ names. found ++ names) o
