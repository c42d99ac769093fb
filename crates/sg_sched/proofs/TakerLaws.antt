-- What the takers of a craft's words take off is what the words say: commitments, sources, tags and items.
use Rattle.std.specs.Prelude.{◌≡◌, ℕ, zero, suc, ◌≤◌, ◌==◌, Bool, true, false, ◌&&◌, if◌then◌else◌, List, [], ◌∷◌, ◌++◌, map, flat_map, length, codes, bytes_eq, refl, Option, Some, None, option_map, option_and_then}
use Rattle.std.specs.List.{list_all}
use Rattle.std.specs.Fmt.{decimal}
use Rattle.std.proofs.Common.{sym, ◌∙◌, ap, subst, arith, append_assoc}
use Rattle.std.proofs.lemmas.Bool.{eqb-true}
use Rattle.std.proofs.lemmas.Slice.Eq.{bytes_eq-Decides}
use Rattle.sg_model.specs.Names.{is_name}
use Rattle.sg_model.proofs.Small.{some_same}
use Rattle.sg_base.specs.Words.{name, number}
use Rattle.sg_sched.specs.Words.{frame}
use Rattle.sg_sched.specs.Format.LineContents.{Word, Committed, TagSource, FromKey, FromItem, FromSeal, FromZero, committed_word, from_words}
use Rattle.sg_sched.specs.Format.Forms.{is_committed, is_source, is_frame}
use Rattle.sg_sched.specs.Format.Values.{is_value}
use Rattle.sg_sched.specs.Format.Reading.{WordsLeft, Taker, word, after, split_at}
use Rattle.sg_sched.specs.Format.CraftReading.{split_last, last_step, committed, behind_equal, run, run_step, copy_source, source, repeated, more_after, item}
use Rattle.sg_sched.proofs.FormatWords.{both}
use Rattle.sg_sched.proofs.FormLaws.{none_some, step, line_up, name_is}
use Rattle.sg_sched.proofs.NumberLaws.{number_is, frame_is, short_is, wide_is}
use Rattle.sg_sched.proofs.PartLaws.{split_is}

-- ---- steps

-- something was taken, and then what is behind it
pub record TookThen {A B : Type 0} (take : Taker A) (next : A → WordsLeft → Option B) (ws : WordsLeft) (y : B) : Type 0 where
  pub value : A
  pub rest : WordsLeft
  pub was : take ws ≡ Some (value, rest)
  pub more : next value rest ≡ Some y

pub took_then_is : {A B : Type 0} (take : Taker A) (next : A → WordsLeft → Option B) (ws : WordsLeft) (y : B) → after take next ws ≡ Some y → TookThen take next ws y
took_then_is {A} {B} take next ws y h = by (take ws) refl h
  where
    by : (o : Option (A × WordsLeft)) → take ws ≡ o → option_and_then (λ (p : A × WordsLeft). next p.0 p.1) o ≡ Some y → TookThen take next ws y
    by None e h = none_some h
    by (Some p) e h = record { value = p.0; rest = p.1; was = e; more = h }

-- what was taken, and the words behind it
abbrev pub took_then_of : {A : Type 0} → A → WordsLeft → Option (A × WordsLeft)
took_then_of x r = Some (x, r)

-- the words in front are those of what was taken, which is as it may be
pub record Took {A : Type 0} (print : A → WordsLeft) (ok : A → Bool) (ws : WordsLeft) (x : A) (rest : WordsLeft) : Type 0 where
  pub words : ws ≡ print x ++ rest
  pub form : ok x ≡ true

pub took : {A : Type 0} (print : A → WordsLeft) (ok : A → Bool) {ws : WordsLeft} {x y : A} {r rest : WordsLeft} → ws ≡ print x ++ r → ok x ≡ true → took_then_of x r ≡ took_then_of y rest → Took print ok ws y rest
took {A} print ok {ws = ws} w f h = subst (λ (p : A × WordsLeft). Took print ok ws p.0 p.1) (some_same h) (record { words = w; form = f })

-- ---- commitments

-- nothing before the mark
abbrev pub none_before : Word → Option (Word × Word)
none_before cs = Some ([], cs)

pub split_last_is : (mark : ℕ) (w f b : Word) → split_last mark w ≡ Some (f, b) → w ≡ f ++ mark ∷ b
split_last_is mark [] f b h = none_some h
split_last_is mark (c ∷ cs) f b h = by (split_last mark cs) (λ f b e. split_last_is mark cs f b e) h
  where
    here : (q : Bool) → (c == mark) ≡ q → (if q then none_before cs else None) ≡ Some (f, b) → (c ∷ cs) ≡ f ++ mark ∷ b
    here true e h = ap (λ x. x ∷ cs) (eqb-true c mark e) ∙ ap (λ (q : Word × Word). q.0 ++ mark ∷ q.1) (some_same h)
    here false e h = none_some h

    by : (o : Option (Word × Word)) → ((f b : Word) → o ≡ Some (f, b) → cs ≡ f ++ mark ∷ b) → last_step mark c cs o ≡ Some (f, b) → (c ∷ cs) ≡ f ++ mark ∷ b
    by (Some p) ih h = ap (λ (r : Word). c ∷ r) (ih p.0 p.1 refl) ∙ ap (λ (q : Word × Word). q.0 ++ mark ∷ q.1) (some_same h)
    by None ih h = here (c == mark) refl h

pub committed_is : (w : Word) (c : Committed) → committed w ≡ Some c → (w ≡ committed_word c) × (is_committed c ≡ true)
unfolding committed
committed_is w c h = first (split_at 61 w) refl h
  where
    number_behind : (v value digits : Word) → w ≡ v ++ 61 ∷ (value ++ 35 ∷ digits) → (is_name v && is_value value) ≡ true → (o : Option ℕ) → number 18446744073709551615 digits ≡ o
        → option_map (λ k. record { variable = v; value = value; step = k }) o ≡ Some c → (w ≡ committed_word c) × (is_committed c ≡ true)
    number_behind v value digits s t None e h = none_some h
    number_behind v value digits s t (Some k) e h =
        let n = number_is 18446744073709551615 digits k (omega arith) e in
        subst (λ (c : Committed). (w ≡ committed_word c) × (is_committed c ≡ true)) (some_same h) (s ∙ ap (λ (d : Word). v ++ 61 ∷ (value ++ 35 ∷ d)) n.same, both t (wide_is k n.within))

    tested : (v : Word) (p : Word × Word) → w ≡ v ++ 61 ∷ (p.0 ++ 35 ∷ p.1) → (b : Bool) → (is_name v && is_value p.0) ≡ b
        → (if b then option_map (λ k. record { variable = v; value = p.0; step = k }) (number 18446744073709551615 p.1) else None) ≡ Some c → (w ≡ committed_word c) × (is_committed c ≡ true)
    tested v p s true t h = number_behind v p.0 p.1 s t (number 18446744073709551615 p.1) refl h
    tested v p s false t h = none_some h

    second : (v r : Word) → w ≡ v ++ 61 ∷ r → (o : Option (Word × Word)) → split_last 35 r ≡ o → option_and_then (behind_equal v) o ≡ Some c → (w ≡ committed_word c) × (is_committed c ≡ true)
    second v r s None e h = none_some h
    second v r s (Some p) e h = tested v p (s ∙ ap (λ (r : Word). v ++ 61 ∷ r) (split_last_is 35 r p.0 p.1 e)) (is_name v && is_value p.0) refl h

    first : (o : Option (Word × Word)) → split_at 61 w ≡ o → option_and_then (λ (p : Word × Word). option_and_then (behind_equal p.0) (split_last 35 p.1)) o ≡ Some c → (w ≡ committed_word c) × (is_committed c ≡ true)
    first None e h = none_some h
    first (Some p) e h = second p.0 p.1 (split_is 61 w p.0 p.1 e) (split_last 35 p.1) refl h

-- the words of commitments
abbrev pub run_words : List Committed → WordsLeft
run_words cs = map committed_word cs

pub run_is : (ws : WordsLeft) → Took run_words (list_all is_committed) ws (run ws).0 (run ws).1
run_is [] = record { words = refl; form = refl }
run_is (w ∷ ws) = by (committed w) refl (run_is ws)
  where
    by : (o : Option Committed) → committed w ≡ o → Took run_words (list_all is_committed) ws (run ws).0 (run ws).1 → Took run_words (list_all is_committed) (w ∷ ws) (run_step w ws o (run ws)).0 (run_step w ws o (run ws)).1
    by None e ih = record { words = refl; form = refl }
    by (Some c) e ih = let d = committed_is w c e in record { words = λ i. d.0 i ∷ ih.words i; form = both d.1 ih.form }

-- ---- sources

-- the item's number, and the role behind it
abbrev copy_role : ℕ → ℕ → WordsLeft → Option (TagSource × WordsLeft)
copy_role n item ws = after (word name) (λ role rest. Some (FromItem n item role, rest)) ws

-- the frame's tag
abbrev copy_seal : ℕ → WordsLeft → Option (TagSource × WordsLeft)
copy_seal n ws = Some (FromSeal n, ws)

copy_is : (n : ℕ) (f : Word) (ws : WordsLeft) (s : TagSource) (rest : WordsLeft) → f ≡ 102 ∷ decimal n → is_frame n ≡ true → copy_source n ws ≡ Some (s, rest) → Took from_words is_source (codes "copy" ∷ f ∷ ws) s rest
unfolding copy_source
copy_is n f [] s rest e k h = none_some h
copy_is n f (w ∷ ws) s rest e k h = by (bytes_eq w (codes "seal")) refl h
  where
    numbered : (o : Option ℕ) → number 4294967295 w ≡ o → option_and_then (λ item. copy_role n item ws) o ≡ Some (s, rest) → Took from_words is_source (codes "copy" ∷ f ∷ w ∷ ws) s rest
    numbered None q h = none_some h
    numbered (Some i) q h =
        let d = number_is 4294967295 w i (omega arith) q in
        let a = step name (λ role rest. Some (FromItem n i role, rest)) ws (s, rest) h in
        let r = name_is a.first a.value a.was in
        took from_words is_source {x = FromItem n i a.value} {r = a.rest} (λ j. codes "copy" ∷ e j ∷ d.same j ∷ line_up a.all r.same refl j) (both (both k (short_is i d.within)) r.name) a.more

    by : (b : Bool) → bytes_eq w (codes "seal") ≡ b → (if b then copy_seal n ws else option_and_then (λ item. copy_role n item ws) (number 4294967295 w)) ≡ Some (s, rest) → Took from_words is_source (codes "copy" ∷ f ∷ w ∷ ws) s rest
    by true q h = took from_words is_source {x = FromSeal n} {r = ws} (λ j. codes "copy" ∷ e j ∷ (bytes_eq-Decides w (codes "seal")).0 q j ∷ ws) k h
    by false q h = numbered (number 4294967295 w) refl h

-- NAME NAME, and no more
abbrev key_source : WordsLeft → Option (TagSource × WordsLeft)
key_source ws = after (word name) (λ one. after (word name) (λ two rest. Some (FromKey one two, rest))) ws

abbrev zero_source : WordsLeft → Option (TagSource × WordsLeft)
zero_source ws = Some (FromZero, ws)

pub source_is : (ws : WordsLeft) (s : TagSource) (rest : WordsLeft) → source ws ≡ Some (s, rest) → Took from_words is_source ws s rest
unfolding source
source_is [] s rest h = none_some h
source_is (w ∷ ws) s rest h = by (bytes_eq w (codes "key")) (bytes_eq w (codes "copy")) (bytes_eq w (codes "zero")) refl refl refl h
  where
    by : (p q r : Bool) → bytes_eq w (codes "key") ≡ p → bytes_eq w (codes "copy") ≡ q → bytes_eq w (codes "zero") ≡ r
        → (if p then key_source ws else if q then after (word frame) copy_source ws else if r then zero_source ws else None) ≡ Some (s, rest) → Took from_words is_source (w ∷ ws) s rest
    by true q r e f g h =
        let a = step name (λ one. after (word name) (λ two rest. Some (FromKey one two, rest))) ws (s, rest) h in
        let b = step name (λ two rest. Some (FromKey a.value two, rest)) a.rest (s, rest) a.more in
        let m = name_is a.first a.value a.was in
        let n = name_is b.first b.value b.was in
        took from_words is_source {x = FromKey a.value b.value} {r = b.rest} (λ j. (bytes_eq-Decides w (codes "key")).0 e j ∷ line_up a.all m.same (line_up b.all n.same refl) j) (both m.name n.name) b.more
    by false true r e f g h =
        let a = step frame copy_source ws (s, rest) h in
        let n = frame_is a.first a.value a.was in
        let c = copy_is a.value a.first a.rest s rest n.0 n.1 a.more in
        record { words = (λ j. (bytes_eq-Decides w (codes "copy")).0 f j ∷ a.all j) ∙ c.words; form = c.form }
    by false false true e f g h = took from_words is_source {x = FromZero} {r = ws} (λ j. (bytes_eq-Decides w (codes "zero")).0 g j ∷ ws) refl h
    by false false false e f g h = none_some h

-- ---- what is repeated

-- the word and what is printed behind it, for each
abbrev pub printed : {A : Type 0} → List ℕ → (A → WordsLeft) → List A → WordsLeft
printed first print xs = flat_map (λ x. first ∷ print x) xs

pub record TookAll {A : Type 0} (first : List ℕ) (print : A → WordsLeft) (ok : A → Bool) (n : ℕ) (ws : WordsLeft) (xs : List A) (rest : WordsLeft) : Type 0 where
  pub words : ws ≡ printed first print xs ++ rest
  pub form : list_all ok xs ≡ true
  pub few : length xs ≤ n

-- nothing is taken
abbrev nothing_taken : {A : Type 0} → WordsLeft → Option (List A × WordsLeft)
nothing_taken ws = Some ([], ws)

none_taken : {A : Type 0} (first : List ℕ) (print : A → WordsLeft) (ok : A → Bool) (n : ℕ) (ws : WordsLeft) (xs : List A) (rest : WordsLeft) → took_then_of [] ws ≡ took_then_of xs rest → TookAll first print ok n ws xs rest
none_taken {A} first print ok n ws xs rest h = subst (λ (p : List A × WordsLeft). TookAll first print ok n ws p.0 p.1) (some_same h) (record { words = refl; form = refl; few = omega arith })

pub repeated_is : {A : Type 0} (first : List ℕ) (take : Taker A) (print : A → WordsLeft) (ok : A → Bool) → ((ws : WordsLeft) (x : A) (rest : WordsLeft) → take ws ≡ Some (x, rest) → Took print ok ws x rest)
    → (n : ℕ) (ws : WordsLeft) (xs : List A) (rest : WordsLeft) → repeated first take n ws ≡ Some (xs, rest) → TookAll first print ok n ws xs rest
repeated_is first take print ok is zero ws xs rest h = none_taken first print ok zero ws xs rest h
repeated_is first take print ok is (suc n) [] xs rest h = none_taken first print ok (suc n) [] xs rest h
repeated_is {A} first take print ok is (suc n) (w ∷ ws) xs rest h = by (bytes_eq w first) refl (λ ws xs e. repeated_is first take print ok is n ws xs rest e) h
  where
    more : (x : A) (r : WordsLeft) → w ≡ first → Took print ok ws x r → (o : Option (List A × WordsLeft)) → ((ys : List A) → o ≡ Some (ys, rest) → TookAll first print ok n r ys rest) → more_after x o ≡ Some (xs, rest) → TookAll first print ok (suc n) (w ∷ ws) xs rest
    more x r e t None ih h = none_some h
    more x r e t (Some p) ih h =
        let same = some_same h in
        let prefix = ih p.0 (ap (λ (q : List A × WordsLeft). took_then_of p.0 q.1) same) in
        let words : (w ∷ ws) ≡ printed first print (x ∷ p.0) ++ rest = (λ i. e i ∷ (t.words ∙ ap (λ (r : WordsLeft). print x ++ r) prefix.words ∙ sym (append_assoc (print x) (printed first print p.0) rest)) i) in
        subst (λ (ys : List A). TookAll first print ok (suc n) (w ∷ ws) ys rest) (ap (λ (q : List A × WordsLeft). q.0) same) (record { words = words; form = both t.form prefix.form; few = omega (arith, prefix.few) })

    by : (b : Bool) → bytes_eq w first ≡ b → ((ws : WordsLeft) (xs : List A) → repeated first take n ws ≡ Some (xs, rest) → TookAll first print ok n ws xs rest)
        → (if b then after take (λ x rest. more_after x (repeated first take n rest)) ws else nothing_taken (w ∷ ws)) ≡ Some (xs, rest) → TookAll first print ok (suc n) (w ∷ ws) xs rest
    by true e ih h =
        let a = took_then_is take (λ x rest. more_after x (repeated first take n rest)) ws (xs, rest) h in
        more a.value a.rest ((bytes_eq-Decides w first).0 e) (is ws a.value a.rest a.was) (repeated first take n a.rest) (λ ys q. ih a.rest ys q) a.more
    by false e ih h = none_taken first print ok (suc n) (w ∷ ws) xs rest h
