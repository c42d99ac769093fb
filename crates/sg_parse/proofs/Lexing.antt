-- The tokens of spelled words and marks.
use Rattle.std.proofs.Common.{◌≡◌, ℕ, suc, ◌+◌, ◌≤◌, ◌==◌, nat_le, nat_lt, Bool, true, false, ◌&&◌, ◌||◌, List, [], ◌∷◌, ◌++◌, length, take_while, refl, ap, ◌∙◌, arith, one-add, if◌then◌else◌}
use Rattle.std.specs.List.{prefix_len, list_all}
use Rattle.std.proofs.Math.Seq.{take-append_seam, drop-append_seam}
use Rattle.std.proofs.lemmas.Bool.Decides.{nat_tests}
use Rattle.std.proofs.lemmas.Bool.{and_parts}
use Rattle.sg_model.specs.Names.{is_letter, is_name_byte, is_name}
use Rattle.sg_parse.specs.Tokens.{OfWord, Apart, part_of, is_separator, leading, has_head, mark, begun, tokens_from, word_at}
use Rattle.sg_parse.specs.declared.token.TokenAt.{TokenAt}
use Rattle.sg_parse.specs.declared.token.Token.{Token}
use Rattle.sg_parse.specs.declared.token.Token.TheVariants.{Word, Colon, Semicolon, Arrow, End}
use Rattle.sg_parse.proofs.Scanning.{step, word_ends, letter_in_name}
use Rattle.sg_parse.proofs.Took.{bare}

-- the tokens of the bytes, wherever they stand
pub record Lexes (bs : List ℕ) (ts : List Token) : Type 0 where
  pub go : (at : ℕ) → bare (tokens_from Apart at bs) ≡ ts

pub lex-end : Lexes [] (End ∷ [])
unfolding tokens_from
lex-end = record { go = λ at. refl }

pub lex-space : (bs : List ℕ) (ts : List Token) → Lexes bs ts → Lexes (32 ∷ bs) ts
unfolding tokens_from
lex-space bs ts h = record { go = λ at. h.go (suc at) }

pub lex-line : (bs : List ℕ) (ts : List Token) → Lexes bs ts → Lexes (10 ∷ bs) ts
unfolding tokens_from
lex-line bs ts h = record { go = λ at. h.go (suc at) }

pub lex-colon : (bs : List ℕ) (ts : List Token) → Lexes bs ts → Lexes (58 ∷ bs) (Colon ∷ ts)
unfolding tokens_from
lex-colon bs ts h = record { go = λ at. ap (λ l. Colon ∷ l) (h.go (suc at)) }

pub lex-semicolon : (bs : List ℕ) (ts : List Token) → Lexes bs ts → Lexes (59 ∷ bs) (Semicolon ∷ ts)
unfolding tokens_from
lex-semicolon bs ts h = record { go = λ at. ap (λ l. Semicolon ∷ l) (h.go (suc at)) }

pub lex-arrow : (bs : List ℕ) (ts : List Token) → Lexes bs ts → Lexes (45 ∷ 62 ∷ bs) (Arrow ∷ ts)
unfolding tokens_from
lex-arrow bs ts h = record { go = λ at. ap (λ l. Arrow ∷ l) (h.go (suc (suc at))) }

-- ---- words

-- the bytes don't go on with a word
abbrev pub IsSeparate : List ℕ → Type 0
IsSeparate [] = Unit {0}
IsSeparate (b ∷ bs) = is_name_byte b ≡ false

word_length : (cs rest : List ℕ) → list_all is_name_byte cs ≡ true → IsSeparate rest → prefix_len is_name_byte (cs ++ rest) ≡ length cs
word_length [] [] h a = refl
word_length [] (b ∷ bs) h a = rw a refl
word_length (c ∷ cs) rest h a =
    let parts = and_parts (is_name_byte c) (list_all is_name_byte cs) h in
    rw (parts.0, one-add) (ap suc (word_length cs rest parts.1 a))

-- a letter is no separator and begins no comment
letter_apart : (c : ℕ) → is_letter c ≡ true → (is_separator c || (c == 35)) ≡ false
letter_apart c h =
    let low : 65 ≤ c = range c h in
    let a : (c == 32) ≡ false = grind (arith, nat_tests, low) in
    let b : (c == 9) ≡ false = grind (arith, nat_tests, low) in
    let d : (c == 13) ≡ false = grind (arith, nat_tests, low) in
    let e : (c == 10) ≡ false = grind (arith, nat_tests, low) in
    let f : (c == 35) ≡ false = grind (arith, nat_tests, low) in
    rw (a, b, d, e, f) refl
  where
    pick : (c : ℕ) (b : Bool) → nat_lt c 97 ≡ b → (if b then nat_le 65 c && nat_le c 90 else nat_le c 122) ≡ true → 65 ≤ c
    pick c true e h = (let p = (and_parts (nat_le 65 c) (nat_le c 90) h).0 in grind (arith, nat_tests, p))
    pick c false e h = grind (arith, nat_tests, e)

    range : (c : ℕ) → is_letter c ≡ true → 65 ≤ c
    range c h = pick c (nat_lt c 97) refl h

-- a name, before bytes that stand apart
pub lex-word : (w rest : List ℕ) (ts : List Token) → is_name w ≡ true → IsSeparate rest → Lexes rest ts → Lexes (w ++ rest) (Word w ∷ ts)
lex-word [] rest ts n a h = absurd (cc)
lex-word (c ∷ cs) rest ts n a h =
    let all = and_parts (is_letter c && list_all is_name_byte cs) (nat_le (length cs) 31) n in
    let parts = and_parts (is_letter c) (list_all is_name_byte cs) all.0 in
    let name : is_name_byte c ≡ true = letter_in_name c parts.0 in
    let long : prefix_len is_name_byte (cs ++ rest) ≡ length cs = word_length cs rest parts.1 a in
    let short : length cs ≤ 31 = (let m = all.1 in grind (arith, nat_tests, m)) in
    let fits : nat_le (suc (length cs)) 32 ≡ true = grind (arith, nat_tests, short) in
    let word : take_while is_name_byte (c ∷ (cs ++ rest)) ≡ c ∷ cs = rw (name, long, one-add) (ap (λ l. c ∷ l) (take-append_seam cs rest)) in
    let apart : (is_separator c || (c == 35)) ≡ false = letter_apart c parts.0 in
    let part : part_of Apart c ≡ OfWord = rw name refl in
    let token : (at : ℕ) → begun at c (cs ++ rest) ≡ record { token = Word (c ∷ cs); at = at } = λ at.
    ap (λ (l : Bool). if l then word_at at (take_while is_name_byte (c ∷ (cs ++ rest))) else record { token = mark c (has_head (cs ++ rest)); at = at }) parts.0 ∙ ap (word_at at) word ∙ rw fits refl in
    let behind : (at : ℕ) → bare (tokens_from (part_of Apart c) (suc at) (cs ++ rest)) ≡ ts = λ at.
    rw (part, word_ends (suc at) (cs ++ rest), long, drop-append_seam cs rest) (h.go (suc at + length cs)) in
    record {
      go = λ at.
          let one : tokens_from Apart at (c ∷ (cs ++ rest)) ≡ leading (record { token = Word (c ∷ cs); at = at }) (tokens_from (part_of Apart c) (suc at) (cs ++ rest)) =
          step Apart at c (cs ++ rest) ∙ rw apart (ap (λ (p : TokenAt). leading p (tokens_from (part_of Apart c) (suc at) (cs ++ rest))) (token at)) in
          ap bare one ∙ ap (λ l. Word (c ∷ cs) ∷ l) (behind at);
    }
