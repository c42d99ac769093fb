-- A craft of a form is read.
use Rattle.std.specs.Prelude.{◌≡◌, ℕ, zero, suc, ◌<◌, ◌≤◌, ◌^◌, ◌==◌, nat_le, Bool, true, false, not, ◌&&◌, if◌then◌else◌, List, [], ◌∷◌, ◌++◌, map, flat_map, length, codes, bytes_eq, refl, Some, None, option_and_then}
use Rattle.std.specs.List.{list_all}
use Rattle.std.specs.Fmt.{decimal}
use Rattle.std.specs.Str.Parse.{AllDigits}
use Rattle.std.proofs.Common.{◌∙◌, ap, arith, append_assoc}
use Rattle.std.proofs.lemmas.Grind.{common_steps}
use Rattle.std.proofs.lemmas.Bool.{leb-true, eqb-true, ltb-true}
use Rattle.std.proofs.lemmas.Fmt.{decimal_is_IsNumeral}
use Rattle.std.proofs.lemmas.Str.Parse.{digit_from_value}
use Rattle.sg_model.specs.Names.{Name, is_name}
use Rattle.sg_model.proofs.Small.{and_left, and_right}
use Rattle.sg_sched.specs.Format.LineContents.{Word, Committed, TagSource, FromKey, FromItem, FromSeal, FromZero, ItemContent, committed_word, from_words, tag_words}
use Rattle.sg_sched.specs.Format.Forms.{is_committed, is_source, is_tag, is_item, are_committed, is_wide, is_short, is_frame}
use Rattle.sg_sched.specs.Format.Values.{is_value}
use Rattle.sg_sched.specs.Format.Reading.{WordsLeft, Taker, word}
use Rattle.sg_sched.specs.Format.CraftReading.{split_last, last_step, committed, behind_equal, time, run, copy_source, source, repeated, tag, item, is_next}
use Rattle.sg_sched.proofs.FormatWords.{both, same_self, lacks, name_lacks, wide}
use Rattle.sg_sched.proofs.FormLaws.{name_ok}
use Rattle.sg_sched.proofs.NumberLaws.{number_ok, frame_ok, is_short_of, is_wide_of}
use Rattle.sg_sched.proofs.PartLaws.{split_ok}
use Rattle.sg_sched.proofs.TakerLaws.{none_before, run_words, printed}
use Rattle.sg_sched.proofs.ItemLaws.{tag_print, item_print}

-- ---- the last mark

-- bytes without the mark are not split
unsplit : (mark : ℕ) (w : Word) → lacks mark w ≡ true → split_last mark w ≡ None
unsplit mark [] h = refl
unsplit mark (c ∷ cs) h = ap (last_step mark c cs) (unsplit mark cs (and_right (not (c == mark)) (lacks mark cs) h)) ∙ by (c == mark) (and_left (not (c == mark)) (lacks mark cs) h)
  where
    by : (b : Bool) → not b ≡ true → (if b then none_before cs else None) ≡ None
    by false l = refl
    by true l = absurd (cc)

-- the last mark is the one behind which there is none
last_ok : (mark : ℕ) (w back : Word) → lacks mark back ≡ true → split_last mark (w ++ mark ∷ back) ≡ Some (w, back)
last_ok mark [] back h = let same : (mark == mark) ≡ true = grind (arith, common_steps) in rw (unsplit mark back h, same) refl
last_ok mark (c ∷ cs) back h = ap (last_step mark c (cs ++ mark ∷ back)) (last_ok mark cs back h)

-- ---- digits

digits_lack : (ds : Word) → AllDigits 10 ds → lacks 35 ds ≡ true
digits_lack [] d = refl
digits_lack (c ∷ cs) d = both (by (c == 35) refl) (digits_lack cs d.1)
  where
    by : (b : Bool) → (c == 35) ≡ b → not b ≡ true
    by false e = refl
    by true e = let same : c ≡ 35 = eqb-true c 35 e in absurd (omega (arith, digit_from_value c d.0))

digits_no_seal : (w : Word) → AllDigits 10 w → bytes_eq w (codes "seal") ≡ false
digits_no_seal [] d = refl
digits_no_seal (c ∷ cs) d = by (c == 115) refl
  where
    by : (b : Bool) → (c == 115) ≡ b → bytes_eq (c ∷ cs) (codes "seal") ≡ false
    by false e = rw e
    by true e = let same : c ≡ 115 = eqb-true c 115 e in absurd (omega (arith, digit_from_value c d.0))

-- ---- commitments

committed_ok : (c : Committed) → is_committed c ≡ true → committed (committed_word c) ≡ Some c
unfolding committed
committed_ok c h =
    let prefix = and_left (is_name c.variable && is_value c.value) (is_wide c.step) h in
    let low = and_right (is_name c.variable && is_value c.value) (is_wide c.step) h in
    let digits = digits_lack (decimal c.step) (decimal_is_IsNumeral c.step (wide c.step low)).0.1 in
    ap (option_and_then (λ (p : Word × Word). option_and_then (behind_equal p.0) (split_last 35 p.1))) (split_ok 61 c.variable (c.value ++ 35 ∷ decimal c.step) (name_lacks 61 c.variable refl (and_left (is_name c.variable) (is_value c.value) prefix)))
    ∙ ap (option_and_then (behind_equal c.variable)) (last_ok 35 c.value (decimal c.step) digits)
    ∙ rw (prefix, number_ok 18446744073709551615 c.step (omega arith) (is_wide_of c.step low)) refl

pub run_ok : (cs : List Committed) (rest : WordsLeft) → list_all is_committed cs ≡ true → run rest ≡ ([], rest) → run (run_words cs ++ rest) ≡ (cs, rest)
run_ok [] rest h e = e
run_ok (c ∷ cs) rest h e = rw (committed_ok c (and_left (is_committed c) (list_all is_committed cs) h), run_ok cs rest (and_right (is_committed c) (list_all is_committed cs) h) e) refl

-- ---- sources

pub source_ok : (s : TagSource) (rest : WordsLeft) → is_source s ≡ true → source (from_words s ++ rest) ≡ Some (s, rest)
unfolding source copy_source word
source_ok FromZero rest h = refl
source_ok (FromKey one two) rest h = rw (name_ok one (and_left (is_name one) (is_name two) h), name_ok two (and_right (is_name one) (is_name two) h)) refl
source_ok (FromSeal n) rest h = rw (frame_ok n h) refl
source_ok (FromItem n i role) rest h =
    let prefix = and_left (is_frame n && is_short i) (is_name role) h in
    let short = and_right (is_frame n) (is_short i) prefix in
    let small : i < 2 ^ 64 = omega (arith, ltb-true i 4294967296 short) in
    rw (
      frame_ok n (and_left (is_frame n) (is_short i) prefix),
      digits_no_seal (decimal i) (decimal_is_IsNumeral i small).0.1,
      number_ok 4294967295 i (omega arith) (is_short_of i short),
      name_ok role (and_right (is_frame n && is_short i) (is_name role) h),
    ) refl

-- ---- what is repeated

pub record Repeats {A : Type 0} (first : List ℕ) (take : Taker A) (print : A → WordsLeft) (ok : A → Bool) (Guard : WordsLeft → Type 0) : Type 0 where
  pub takes : (x : A) (rest : WordsLeft) → ok x ≡ true → Guard rest → take (print x ++ rest) ≡ Some (x, rest)
  pub first_guards : (ws : WordsLeft) → Guard (first ∷ ws)

repeated_stop : {A : Type 0} (first : List ℕ) (take : Taker A) (n : ℕ) (rest : WordsLeft) → is_next first rest ≡ false → repeated first take n rest ≡ Some ([], rest)
repeated_stop first take zero rest e = refl
repeated_stop first take (suc n) [] e = refl
repeated_stop first take (suc n) (w ∷ ws) e = rw e refl

pub repeated_ok : {A : Type 0} (first : List ℕ) (take : Taker A) (print : A → WordsLeft) (ok : A → Bool) (Guard : WordsLeft → Type 0) → Repeats first take print ok Guard
    → (n : ℕ) (xs : List A) (rest : WordsLeft) → length xs ≤ n → list_all ok xs ≡ true → Guard rest → is_next first rest ≡ false → repeated first take n (printed first print xs ++ rest) ≡ Some (xs, rest)
repeated_ok first take print ok Guard r n [] rest l h g e = repeated_stop first take n rest e
repeated_ok first take print ok Guard r zero (x ∷ xs) rest l h g e = absurd (omega arith)
repeated_ok first take print ok Guard r (suc n) (x ∷ xs) rest l h g e =
    rw (
      same_self first,
      append_assoc (print x) (printed first print xs) rest,
      r.takes x (printed first print xs ++ rest) (and_left (ok x) (list_all ok xs) h) (guarded xs),
      repeated_ok first take print ok Guard r n xs rest (omega arith) (and_right (ok x) (list_all ok xs) h) g e,
    ) refl
  where
    guarded : (ys : List _) → Guard (printed first print ys ++ rest)
    guarded [] = g
    guarded (y ∷ ys) = r.first_guards ((print y ++ printed first print ys) ++ rest)

-- ---- tags and items

tag_ok : (t : Name × TagSource) (rest : WordsLeft) → is_tag t ≡ true → tag (tag_print t ++ rest) ≡ Some (t, rest)
unfolding tag word
tag_ok t rest h = rw (name_ok t.0 (and_left (is_name t.0) (is_source t.1) h), source_ok t.1 rest (and_right (is_name t.0) (is_source t.1) h)) refl

tag_repeats : Repeats (codes "tag") tag tag_print is_tag (λ ws. Unit {0})
tag_repeats = record { takes = λ t rest h g. tag_ok t rest h; first_guards = λ ws. tt }

time_ok : (t : ℕ) → nat_le 1 t ≡ true → nat_le t 1000000 ≡ true → time (decimal t) ≡ Some t
unfolding time
time_ok t a b = rw (number_ok 1000000 t (omega arith) b, a) refl

-- no commitment and no tag is next
pub record Behind (rest : WordsLeft) : Type 0 where
  pub no_run : run rest ≡ ([], rest)
  pub no_tag : is_next (codes "tag") rest ≡ false

tags_run : (ts : List (Name × TagSource)) (rest : WordsLeft) → run rest ≡ ([], rest) → run (flat_map tag_words ts ++ rest) ≡ ([], flat_map tag_words ts ++ rest)
unfolding committed
tags_run [] rest e = e
tags_run (t ∷ ts) rest e = refl

item_ok : (i : ItemContent) (rest : WordsLeft) → is_item i ≡ true → Behind rest → item (item_print i ++ rest) ≡ Some (i, rest)
unfolding item word
item_ok i rest h b =
    let a1 = is_name i.label && nat_le 1 i.time in
    let a2 = a1 && nat_le i.time 1000000 in
    let a3 = a2 && are_committed i.delta in
    let a4 = a3 && nat_le (length i.tags) 14 in
    let h4 : a4 ≡ true = and_left a4 (list_all is_tag i.tags) h in
    let h3 : a3 ≡ true = and_left a3 (nat_le (length i.tags) 14) h4 in
    let h2 : a2 ≡ true = and_left a2 (are_committed i.delta) h3 in
    let h1 : a1 ≡ true = and_left a1 (nat_le i.time 1000000) h2 in
    let delta = and_right a2 (are_committed i.delta) h3 in
    rw (
      append_assoc (map committed_word i.delta) (flat_map tag_words i.tags) rest,
      name_ok i.label (and_left (is_name i.label) (nat_le 1 i.time) h1),
      time_ok i.time (and_right (is_name i.label) (nat_le 1 i.time) h1) (and_right a1 (nat_le i.time 1000000) h2),
      run_ok i.delta (flat_map tag_words i.tags ++ rest) (and_right (nat_le (length i.delta) 32) (list_all is_committed i.delta) delta) (tags_run i.tags rest b.no_run),
      and_left (nat_le (length i.delta) 32) (list_all is_committed i.delta) delta,
      repeated_ok (codes "tag") tag tag_print is_tag (λ ws. Unit {0}) tag_repeats 14 i.tags rest (leb-true (length i.tags) 14 (and_right a3 (nat_le (length i.tags) 14) h4)) (and_right a4 (list_all is_tag i.tags) h) tt b.no_tag,
    ) refl

pub item_behind : (ws : WordsLeft) → Behind (codes "item" ∷ ws)
unfolding committed
item_behind ws = record { no_run = refl; no_tag = refl }

pub item_repeats : Repeats (codes "item") item item_print is_item Behind
item_repeats = record { takes = item_ok; first_guards = item_behind }
