-- Lines declare one list of items at most.
use Rattle.std.specs.Prelude.{◌≡◌, ℕ, ◌==◌, nat_lt, Bool, true, false, not, ◌||◌, List, [], ◌∷◌, ◌++◌, filter, length, refl}
use Rattle.std.specs.List.{list_all, slice_split, onto_first}
use Rattle.std.proofs.Common.{sym, ◌∙◌, ap, subst, arith}
use Rattle.std.proofs.lemmas.Bool.{eqb-true}
use Rattle.sg_model.proofs.Small.{and_left, and_right, contradicts, zero_less}
use Rattle.sg_sched.specs.Text.{content, words}
use Rattle.sg_sched.specs.Format.LineContents.{Word, LineContent, BlockLine, EdgeLine, HonestLine, KeyLine, SessionLine, StartLine, ActLine, AbandonLine, DeliverLine, MakeLine, line_words}
use Rattle.sg_sched.specs.Format.Forms.{SaysLine, is_comment, is_skipped}
use Rattle.sg_sched.specs.Format.Spells.{Line, closes}

-- ---- a line of a form is not skipped

-- a first word, which doesn't begin with #
abbrev begins : List Word → Bool
begins [] = false
begins ([] ∷ ws) = false
begins ((c ∷ cs) ∷ ws) = not (c == 35)

says_begins : (statement : LineContent) → begins (line_words statement) ≡ true
says_begins BlockLine = refl
says_begins (EdgeLine label from to) = refl
says_begins (HonestLine who) = refl
says_begins (KeyLine one two ds) = refl
says_begins (SessionLine name graph n names version) = refl
says_begins (StartLine who session) = refl
says_begins (ActLine who session label values) = refl
says_begins (AbandonLine who session) = refl
says_begins (DeliverLine who what) = refl
says_begins (MakeLine c) = refl

blank_begins : (ws : List Word) → (length ws == 0) ≡ true → begins ws ≡ false
blank_begins [] e = refl
blank_begins (w ∷ ws) e = let none : length (w ∷ ws) ≡ 0 = eqb-true (length (w ∷ ws)) 0 e in absurd (omega arith)

comment_begins : (text : List ℕ) → is_comment text ≡ true → begins (words text) ≡ false
comment_begins [] h = refl
comment_begins (c ∷ cs) h = subst (λ (b : ℕ). begins (words (b ∷ cs)) ≡ false) (sym (eqb-true c 35 h)) (by (slice_split (λ b. b == 32) cs))
  where
    by : (parts : List Word) → begins (filter (λ w. nat_lt 0 (length w)) (onto_first 35 parts)) ≡ false
    by [] = refl
    by (p ∷ ps) = rw (zero_less (length p))

pub not_skipped : (line : Line) (statement : LineContent) → SaysLine line statement → is_skipped line ≡ true → ⊥
not_skipped line statement says skipped = contradicts (ap begins says.spelled ∙ says_begins statement) (by (is_comment (content line)) refl comment_or_blank)
  where
    comment_or_blank : (is_comment (content line) || length (words (content line)) == 0) ≡ true
    comment_or_blank = and_right (list_all (λ b. nat_lt b 128) (content line)) (is_comment (content line) || length (words (content line)) == 0) skipped

    by : (b : Bool) → is_comment (content line) ≡ b → (b || length (words (content line)) == 0) ≡ true → begins (words (content line)) ≡ false
    by true e h = comment_begins (content line) e
    by false e h = blank_begins (words (content line)) h

-- ---- a block ends at its first closing line

-- the head and the tail of equal lists
pub head_same : {x y : Line} {xs ys : List Line} → x ∷ xs ≡ y ∷ ys → x ≡ y
head_same {x = x} e = ap (λ ls. head x ls) e
  where
    head : Line → List Line → Line
    head x [] = x
    head x (y ∷ ys) = y

pub tail_same : {x y : Line} {xs ys : List Line} → x ∷ xs ≡ y ∷ ys → xs ≡ ys
tail_same e = ap tail e
  where
    tail : List Line → List Line
    tail [] = []
    tail (y ∷ ys) = ys

pub cons_same : {x y : Line} {xs ys : List Line} → x ≡ y → xs ≡ ys → x ∷ xs ≡ y ∷ ys
cons_same p q = λ i. p i ∷ q i

-- the same lines within, the same closing line, and the same rest
pub record SameEnd (i j : List Line) (c d : Line) (r s : List Line) : Type 0 where
  pub inner : i ≡ j
  pub closing : c ≡ d
  pub rest : r ≡ s

pub first_closing : (i j : List Line) (c d : Line) (r s : List Line) → list_all (λ l. not (closes l)) i ≡ true → list_all (λ l. not (closes l)) j ≡ true → closes c ≡ true → closes d ≡ true
    → i ++ c ∷ r ≡ j ++ d ∷ s → SameEnd i j c d r s
first_closing [] [] c d r s a b p q e = record { inner = refl; closing = head_same e; rest = tail_same e }
first_closing [] (y ∷ ys) c d r s a b p q e = absurd (contradicts (and_left (not (closes y)) _ b) (ap (λ l. not (closes l)) (sym (head_same e)) ∙ ap not p))
first_closing (x ∷ xs) [] c d r s a b p q e = absurd (contradicts (and_left (not (closes x)) _ a) (ap (λ l. not (closes l)) (head_same e) ∙ ap not q))
first_closing (x ∷ xs) (y ∷ ys) c d r s a b p q e =
    let k = first_closing xs ys c d r s (and_right (not (closes x)) _ a) (and_right (not (closes y)) _ b) p q (tail_same e) in
    record { inner = cons_same (head_same e) k.inner; closing = k.closing; rest = k.rest }
