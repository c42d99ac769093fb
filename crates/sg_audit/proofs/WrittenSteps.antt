-- A step of a walk, as it is read and as it is written.
use Rattle.std.specs.Prelude.{◌≡◌, ℕ, ◌==◌, nat_lt, Bool, true, false, not, ◌&&◌, ◌||◌, if◌then◌else◌, List, [], ◌∷◌, ◌++◌, map, length, codes, bytes_eq, refl, Option, Some, None, option_map, option_and_then, is_some, ⊤, pos, neg_ℤ}
use Rattle.std.specs.List.{list_all, onto_first}
use Rattle.std.proofs.Common.{sym, ◌∙◌, ap, true≢false, append-nil}
use Rattle.std.proofs.lemmas.Bool.{eqb-true, not-true}
use Rattle.std.proofs.lemmas.Slice.Eq.{bytes_eq-Decides}
use Rattle.sg_model.specs.Names.{is_name}
use Rattle.sg_model.specs.Values.{Value, IntValue}
use Rattle.sg_model.proofs.Small.{and_left, and_right, some_same}
use Rattle.sg_sched.specs.Format.LineContents.{Word, Assignment as Pair, assignment_word, joined_names}
use Rattle.sg_sched.specs.Format.Values.{is_value, int_value, text_value, text_bytes, as_text, put_before, hex_byte, is_plain}
use Rattle.sg_base.specs.Words.{number, from_one, is_digit, has_needless_zero, up_to, value}
use Rattle.sg_sched.proofs.FormLaws.{none_some}
use Rattle.sg_sched.proofs.FormatWords.{lacks, lacks_other, name_lacks}
use Rattle.sg_sched.proofs.PartLaws.{joined_onto}
use Rattle.sg_sched.proofs.ValueLaws.{no_quote}
use Rattle.sg_audit.specs.Reading.{parts}
use Rattle.sg_audit.specs.Written.{is_write}
use Rattle.sg_audit.proofs.WrittenAssignments.{is_shown}

-- ---- commas outside quotes

-- whether a quote is open after the word, which has no comma outside quotes
abbrev pub open_after : Bool → Word → Option Bool
open_after quoted [] = Some quoted
open_after quoted (c ∷ cs) =
    if c == 34 then open_after (not quoted) cs
    else if quoted then open_after quoted cs
    else if c == 44 then None
    else open_after quoted cs

-- a word before the first part
abbrev pub onto : Word → List Word → List Word
onto [] ps = ps
onto (c ∷ cs) ps = onto_first c (onto cs ps)

open_more : (q : Bool) (v w : Word) (r : Bool) → open_after q v ≡ Some r → open_after q (v ++ w) ≡ open_after r w
open_more q [] w r h = ap (λ b. open_after b w) (some_same h)
open_more q (c ∷ cs) w r h = by (c == 34) refl q (λ p k. open_more p cs w r k) h
  where
    -- the same of the bytes behind this one
    Rest : Type 0
    Rest = (p : Bool) → open_after p cs ≡ Some r → open_after p (cs ++ w) ≡ open_after r w

    comma : Rest → (b : Bool) → (c == 44) ≡ b → (c == 34) ≡ false → (if b then None else open_after false cs) ≡ Some r → open_after false (c ∷ (cs ++ w)) ≡ open_after r w
    comma more true e f h = none_some h
    comma more false e f h = rw (f, e) (more false h)

    inner : (q : Bool) → Rest → (c == 34) ≡ false → (if q then open_after q cs else if c == 44 then None else open_after q cs) ≡ Some r → open_after q (c ∷ (cs ++ w)) ≡ open_after r w
    inner true more f h = rw f (more true h)
    inner false more f h = comma more (c == 44) refl f h

    by : (b : Bool) → (c == 34) ≡ b → (q : Bool) → Rest → (if b then open_after (not q) cs else if q then open_after q cs else if c == 44 then None else open_after q cs) ≡ Some r → open_after q (c ∷ (cs ++ w)) ≡ open_after r w
    by true e q more h = rw e (more (not q) h)
    by false e q more h = inner q more e h

parts_onto : (q : Bool) (w rest : Word) (r : Bool) → open_after q w ≡ Some r → parts q (w ++ rest) ≡ onto w (parts r rest)
parts_onto q [] rest r h = ap (λ b. parts b rest) (some_same h)
parts_onto q (c ∷ cs) rest r h = by (c == 34) refl q (λ p k. parts_onto p cs rest r k) h
  where
    -- the same of the bytes behind this one
    Rest : Type 0
    Rest = (p : Bool) → open_after p cs ≡ Some r → parts p (cs ++ rest) ≡ onto cs (parts r rest)

    comma : Rest → (b : Bool) → (c == 44) ≡ b → (c == 34) ≡ false → (if b then None else open_after false cs) ≡ Some r → parts false (c ∷ (cs ++ rest)) ≡ onto_first c (onto cs (parts r rest))
    comma more true e f h = none_some h
    comma more false e f h = rw (f, e) (ap (onto_first c) (more false h))

    inner : (q : Bool) → Rest → (c == 34) ≡ false → (if q then open_after q cs else if c == 44 then None else open_after q cs) ≡ Some r → parts q (c ∷ (cs ++ rest)) ≡ onto_first c (onto cs (parts r rest))
    inner true more f h = rw f (ap (onto_first c) (more true h))
    inner false more f h = comma more (c == 44) refl f h

    by : (b : Bool) → (c == 34) ≡ b → (q : Bool) → Rest → (if b then open_after (not q) cs else if q then open_after q cs else if c == 44 then None else open_after q cs) ≡ Some r → parts q (c ∷ (cs ++ rest)) ≡ onto_first c (onto cs (parts r rest))
    by true e q more h = rw e (ap (onto_first c) (more (not q) h))
    by false e q more h = inner q more e h

onto_one : (w v : Word) (ps : List Word) → onto w (v ∷ ps) ≡ (w ++ v) ∷ ps
onto_one [] v ps = refl
onto_one (c ∷ cs) v ps = ap (onto_first c) (onto_one cs v ps)

-- words that have no comma outside quotes, and close what they open
abbrev pub are_closed : List Word → Type 0
are_closed [] = ⊤
are_closed (w ∷ ws) = (open_after false w ≡ Some false) × are_closed ws

pub parts_joined : (w : Word) (ws : List Word) → are_closed (w ∷ ws) → parts false (joined_names (w ∷ ws)) ≡ w ∷ ws
parts_joined w [] h = ap (parts false) (sym (append-nil w)) ∙ parts_onto false w [] false h.0 ∙ onto_one w [] [] ∙ ap (λ v. v ∷ []) (append-nil w)
parts_joined w (v ∷ vs) h = parts_onto false w (44 ∷ joined_names (v ∷ vs)) false h.0 ∙ onto_one w [] (parts false (joined_names (v ∷ vs))) ∙ (λ i. append-nil w i ∷ parts_joined v vs h.1 i)

-- there is a first part
pub record Split (q : Bool) (w : Word) : Type 0 where
  pub first : Word
  pub more : List Word
  pub all : parts q w ≡ first ∷ more
  pub back : joined_names (first ∷ more) ≡ w

pub split_of : (q : Bool) (w : Word) → Split q w
split_of q [] = record { first = []; more = []; all = refl; back = refl }
split_of q (c ∷ cs) = by (λ r. split_of r cs) (c == 34) refl
  where
    further : (r : Bool) → Split r cs → parts q (c ∷ cs) ≡ onto_first c (parts r cs) → Split q (c ∷ cs)
    further r s e = record { first = c ∷ s.first; more = s.more; all = e ∙ ap (onto_first c) s.all; back = joined_onto c s.first s.more ∙ ap (λ x. c ∷ x) s.back }

    here : Split q cs → q ≡ false → (c == 34) ≡ false → (c == 44) ≡ true → Split q (c ∷ cs)
    here s e f t = record { first = []; more = parts q cs; all = rw (f, e, t) refl; back = ap (λ ps. joined_names ([] ∷ ps)) s.all ∙ (λ i. sym (eqb-true c 44 t) i ∷ s.back i) }

    inner : ((r : Bool) → Split r cs) → (q' : Bool) → q ≡ q' → (c == 34) ≡ false → (b : Bool) → (c == 44) ≡ b → Split q (c ∷ cs)
    inner s true e f b g = further q (s q) (rw (f, e) refl)
    inner s false e f true g = here (s q) e f g
    inner s false e f false g = further q (s q) (rw (f, e, g) refl)

    by : ((r : Bool) → Split r cs) → (b : Bool) → (c == 34) ≡ b → Split q (c ∷ cs)
    by s true e = further (not q) (s (not q)) (rw e refl)
    by s false e = inner s q refl e (c == 44) refl

-- ---- values close what they open

closed_plain : (w : Word) → lacks 34 w ≡ true → lacks 44 w ≡ true → open_after false w ≡ Some false
closed_plain [] p q = refl
closed_plain (c ∷ cs) p q =
    let quote : (c == 34) ≡ false = not-true (c == 34) (and_left (not (c == 34)) (lacks 34 cs) p) in
    let comma : (c == 44) ≡ false = not-true (c == 44) (and_left (not (c == 44)) (lacks 44 cs) q) in
    rw (quote, comma) (closed_plain cs (and_right (not (c == 34)) (lacks 34 cs) p) (and_right (not (c == 44)) (lacks 44 cs) q))

number_digits : (most : ℕ) (w : Word) (n : ℕ) → number most w ≡ Some n → list_all is_digit w ≡ true
unfolding number
number_digits most w n h = by (nat_lt 0 (length w) && not (has_needless_zero w) && list_all is_digit w) refl h
  where
    by : (b : Bool) → (nat_lt 0 (length w) && not (has_needless_zero w) && list_all is_digit w) ≡ b → (if b then up_to most (value w) else None) ≡ Some n → list_all is_digit w ≡ true
    by true e h = and_right (nat_lt 0 (length w) && not (has_needless_zero w)) (list_all is_digit w) e
    by false e h = none_some h

closed_digits : (w : Word) → list_all is_digit w ≡ true → open_after false w ≡ Some false
closed_digits w h = closed_plain w (lacks_other is_digit 34 w refl h) (lacks_other is_digit 44 w refl h)

-- the value of a number, and of one behind a -
abbrev positive : ℕ → Value
positive n = IntValue (pos n)

abbrev negative : ℕ → Value
negative n = IntValue (neg_ℤ (pos n))

closed_int : (w : Word) (v : Value) → int_value w ≡ Some v → open_after false w ≡ Some false
closed_int [] v h = none_some h
closed_int (c ∷ cs) v h = by (c == 45) refl h
  where
    digits : (o : Option ℕ) → number 9223372036854775807 (c ∷ cs) ≡ o → is_some o ≡ true → open_after false (c ∷ cs) ≡ Some false
    digits None e t = absurd (true≢false (sym t))
    digits (Some n) e t = closed_digits (c ∷ cs) (number_digits 9223372036854775807 (c ∷ cs) n e)

    minus : (o : Option ℕ) → number 9223372036854775808 cs ≡ o → is_some o ≡ true → (c == 45) ≡ true → open_after false (c ∷ cs) ≡ Some false
    minus None e t m = absurd (true≢false (sym t))
    minus (Some n) e t m = ap (λ x. open_after false (x ∷ cs)) (eqb-true c 45 m) ∙ closed_digits cs (number_digits 9223372036854775808 cs n e)

    there : {A B : Type 0} (f : A → B) (o : Option A) (x : B) → option_map f o ≡ Some x → is_some o ≡ true
    there f None x h = none_some h
    there f (Some a) x h = refl

    there_then : {A B : Type 0} (f : A → Option B) (o : Option A) → is_some (option_and_then f o) ≡ true → is_some o ≡ true
    there_then f None h = h
    there_then f (Some a) h = refl

    by : (b : Bool) → (c == 45) ≡ b → (if b then option_map negative (option_and_then from_one (number 9223372036854775808 cs)) else option_map positive (number 9223372036854775807 (c ∷ cs))) ≡ Some v → open_after false (c ∷ cs) ≡ Some false
    by true e h = minus (number 9223372036854775808 cs) refl (there_then from_one (number 9223372036854775808 cs) (there negative (option_and_then from_one (number 9223372036854775808 cs)) v h)) e
    by false e h = digits (number 9223372036854775807 (c ∷ cs)) refl (there positive (number 9223372036854775807 (c ∷ cs)) v h)

-- inside quotes a byte that isn't one keeps them open
inside : (c : ℕ) (cs : Word) → (c == 34) ≡ false → open_after true (c ∷ cs) ≡ open_after true cs
inside c cs e = rw e refl

-- a byte before others, if both are there
pub record Before (x : Option ℕ) (xs : Option (List ℕ)) : Type 0 where
  pub byte : is_some x ≡ true
  pub more : is_some xs ≡ true

before_is : (x : Option ℕ) (xs : Option (List ℕ)) → is_some (put_before x xs) ≡ true → Before x xs
before_is None xs h = absurd (true≢false (sym h))
before_is (Some x) None h = absurd (true≢false (sym h))
before_is (Some x) (Some xs) h = record { byte = refl; more = refl }

plain_is : (c : ℕ) → is_some (if is_plain c then Some c else None) ≡ true → is_plain c ≡ true
plain_is c h = by (is_plain c) refl h
  where
    by : (b : Bool) → is_plain c ≡ b → is_some (if b then Some c else None) ≡ true → b ≡ true
    by true e h = refl
    by false e h = h

abbrev no_byte : Option ℕ
no_byte = None

none_then : (o : Option ℕ) → option_and_then (λ (x : ℕ). no_byte) o ≡ None
none_then None = refl
none_then (Some x) = refl

first_digit : (h l : ℕ) → is_some (hex_byte h l) ≡ true → (h == 34) ≡ false
first_digit h l e = by (h == 34) refl
  where
    by : (b : Bool) → (h == 34) ≡ b → b ≡ false
    by false f = refl
    by true f = let none : is_some (hex_byte 34 l) ≡ false = refl in absurd (true≢false (sym e ∙ ap (λ x. is_some (hex_byte x l)) (eqb-true h 34 f) ∙ none))

second_digit : (h l : ℕ) → is_some (hex_byte h l) ≡ true → (l == 34) ≡ false
second_digit h l e = by (l == 34) refl
  where
    by : (b : Bool) → (l == 34) ≡ b → b ≡ false
    by false f = refl
    by true f = let none : hex_byte h 34 ≡ None = none_then _ in absurd (true≢false (sym e ∙ ap (λ x. is_some (hex_byte h x)) (eqb-true l 34 f) ∙ ap is_some none))

-- the end of a text, if the byte is a quote
abbrev at_end : Bool → Option (List ℕ)
at_end b = if b then Some [] else None

-- what an escape and the bytes behind it spell
abbrev escaped : Bool → (h l : ℕ) → List ℕ → Option (List ℕ)
escaped b h l cs = if b then put_before (hex_byte h l) (text_bytes cs) else None

closed_text : (cs : List ℕ) → is_some (text_bytes cs) ≡ true → open_after true cs ≡ Some false
closed_text [] h = absurd (true≢false (sym h))
closed_text (q ∷ []) h = by (q == 34) refl h
  where
    by : (b : Bool) → (q == 34) ≡ b → is_some (at_end b) ≡ true → open_after true (q ∷ []) ≡ Some false
    by true e h = rw e refl
    by false e h = absurd (true≢false (sym h))
closed_text (c ∷ x ∷ []) h =
    let b = before_is (if is_plain c then Some c else None) (text_bytes (x ∷ [])) h in
    inside c (x ∷ []) (no_quote c (plain_is c b.byte)) ∙ closed_text (x ∷ []) b.more
closed_text (c ∷ x ∷ h ∷ []) t =
    let b = before_is (if is_plain c then Some c else None) (text_bytes (x ∷ h ∷ [])) t in
    inside c (x ∷ h ∷ []) (no_quote c (plain_is c b.byte)) ∙ closed_text (x ∷ h ∷ []) b.more
closed_text (c ∷ x ∷ h ∷ l ∷ cs) t = by (closed_text cs) (closed_text (x ∷ h ∷ l ∷ cs)) (c == 92) refl (x == 120) refl t
  where
    by : (is_some (text_bytes cs) ≡ true → open_after true cs ≡ Some false) → (is_some (text_bytes (x ∷ h ∷ l ∷ cs)) ≡ true → open_after true (x ∷ h ∷ l ∷ cs) ≡ Some false) → (b : Bool) → (c == 92) ≡ b → (d : Bool) → (x == 120) ≡ d
        → is_some (if b then escaped d h l cs else put_before (if is_plain c then Some c else None) (text_bytes (x ∷ h ∷ l ∷ cs))) ≡ true → open_after true (c ∷ x ∷ h ∷ l ∷ cs) ≡ Some false
    by short long true e true f t =
        let b = before_is (hex_byte h l) (text_bytes cs) t in
        ap (λ y. open_after true (y ∷ x ∷ h ∷ l ∷ cs)) (eqb-true c 92 e) ∙ ap (λ y. open_after true (y ∷ h ∷ l ∷ cs)) (eqb-true x 120 f)
        ∙ inside h (l ∷ cs) (first_digit h l b.byte) ∙ inside l cs (second_digit h l b.byte) ∙ short b.more
    by short long true e false f t = absurd (true≢false (sym t))
    by short long false e d f t =
        let b = before_is (if is_plain c then Some c else None) (text_bytes (x ∷ h ∷ l ∷ cs)) t in
        inside c (x ∷ h ∷ l ∷ cs) (no_quote c (plain_is c b.byte)) ∙ long b.more

closed_value : (w : Word) → is_value w ≡ true → open_after false w ≡ Some false
closed_value [] h = absurd (true≢false (sym h))
closed_value (c ∷ cs) h = by (c == 34) refl h
  where
    int : (o : Option Value) → int_value (c ∷ cs) ≡ o → is_some o ≡ true → open_after false (c ∷ cs) ≡ Some false
    int None e t = absurd (true≢false (sym t))
    int (Some v) e t = closed_int (c ∷ cs) v e

    bytes : (o : Option (List ℕ)) → text_bytes cs ≡ o → is_some (option_and_then as_text o) ≡ true → is_some (text_bytes cs) ≡ true
    bytes None e t = absurd (true≢false (sym t))
    bytes (Some bs) e t = ap is_some e

    by : (b : Bool) → (c == 34) ≡ b → is_some (if b then text_value (c ∷ cs) else int_value (c ∷ cs)) ≡ true → open_after false (c ∷ cs) ≡ Some false
    by true e t = rw e (closed_text cs (bytes (text_bytes cs) refl (rw e at t)))
    by false e t = int (int_value (c ∷ cs)) refl t

closed_shown : (w : Word) → is_shown w ≡ true → open_after false w ≡ Some false
closed_shown w h = by (bytes_eq w (codes "?")) refl h
  where
    by : (b : Bool) → bytes_eq w (codes "?") ≡ b → (b || is_value w) ≡ true → open_after false w ≡ Some false
    by true e h = ap (open_after false) ((bytes_eq-Decides w (codes "?")).0 e)
    by false e h = closed_value w h

closed_write : (p : Pair) → is_write p ≡ true → open_after false (assignment_word p) ≡ Some false
closed_write p h =
    let n = and_left (is_name p.variable) (is_shown p.value) h in
    let v = and_right (is_name p.variable) (is_shown p.value) h in
    open_more false p.variable (61 ∷ p.value) false (closed_plain p.variable (name_lacks 34 p.variable refl n) (name_lacks 44 p.variable refl n)) ∙ closed_shown p.value v

pub closed_writes : (ps : List Pair) → list_all is_write ps ≡ true → are_closed (map assignment_word ps)
closed_writes [] h = tt
closed_writes (p ∷ ps) h = (closed_write p (and_left (is_write p) (list_all is_write ps) h), closed_writes ps (and_right (is_write p) (list_all is_write ps) h))
