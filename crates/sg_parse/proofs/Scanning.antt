-- The tokens from one offset on, and from a later one.
use Rattle.std.proofs.Common.{◌≡◌, ◌≢◌, ℕ, suc, ◌+◌, ◌<◌, ◌≤◌, ◌==◌, nat_le, Bool, true, false, ◌&&◌, ◌||◌, inl, inr, List, [], ◌∷◌, length, get_or, drop, take_while, refl, sym, ap, subst, ◌∙◌, arith, add-one, add-zero, one-add, if◌then◌else◌}
use Rattle.std.proofs.Math.Seq.{drop-cons}
use Rattle.std.proofs.Math.ListN.{drop_of_length-le}
use Rattle.std.proofs.lemmas.Bool.Decides.{nat_tests}
use Rattle.std.specs.List.{prefix_len, list_all}
use Rattle.std.proofs.lemmas.List.Folds.{length-prefix_len}
use Rattle.std.proofs.Math.Seq.{drop-drop}
use Rattle.std.proofs.lemmas.Bool.{cases_Bool}
use Rattle.sg_model.specs.Names.{is_letter, is_name_byte, is_name}
use Rattle.sg_parse.specs.Tokens.{Part, OfWord, OfComment, OfArrow, Apart, goes_on, part_of, is_separator, leading, begun, mark, tokens_from, word_at, has_head}
use Rattle.sg_parse.specs.declared.token.TokenAt.{TokenAt}
use Rattle.sg_parse.specs.declared.token.Token.TheVariants.{End}

-- one byte of the definition
pub step : (before : Part) (at b : ℕ) (bs : List ℕ) → tokens_from before at (b ∷ bs)
    ≡ (if goes_on before b || is_separator b || (b == 35) then tokens_from (part_of before b) (suc at) bs else leading (begun at b bs) (tokens_from (part_of before b) (suc at) bs))
unfolding tokens_from
step before at b bs = refl

-- no byte of the definition
none : (before : Part) (at : ℕ) → tokens_from before at [] ≡ record { token = End; at = at } ∷ []
unfolding tokens_from
none before at = refl

-- the byte at an offset
there : (before : Part) (bs : List ℕ) (i : ℕ) → i < length bs → tokens_from before i (drop i bs) ≡ tokens_from before i (get_or bs i 0 ∷ drop (i + 1) bs)
there before bs i h = ap (tokens_from before i) (rw add-one (drop-cons bs i 0 h))

-- a byte that begins no token
passed : (before : Part) (bs : List ℕ) (i : ℕ) → i < length bs → (goes_on before (get_or bs i 0) || is_separator (get_or bs i 0) || (get_or bs i 0 == 35)) ≡ true
    → tokens_from before i (drop i bs) ≡ tokens_from (part_of before (get_or bs i 0)) (i + 1) (drop (i + 1) bs)
passed before bs i h e = there before bs i h ∙ step before i (get_or bs i 0) (drop (i + 1) bs) ∙ rw (e, add-one) refl

-- a comment goes on
pub comment_on : (bs : List ℕ) (i : ℕ) → i < length bs → get_or bs i 0 ≢ 10 → tokens_from OfComment i (drop i bs) ≡ tokens_from OfComment (i + 1) (drop (i + 1) bs)
comment_on bs i h n =
    let no : (get_or bs i 0 == 10) ≡ false = grind (arith, nat_tests) in
    passed OfComment bs i h refl ∙ rw no refl

-- a line end ends a comment
pub comment_off : (bs : List ℕ) (i : ℕ) → i < length bs → get_or bs i 0 ≡ 10 → tokens_from OfComment i (drop i bs) ≡ tokens_from Apart i (drop i bs)
comment_off bs i h e =
    let one : tokens_from OfComment i (drop i bs) ≡ tokens_from Apart (i + 1) (drop (i + 1) bs) = passed OfComment bs i h refl ∙ rw e refl in
    let other : tokens_from Apart i (drop i bs) ≡ tokens_from Apart (i + 1) (drop (i + 1) bs) = passed Apart bs i h (rw e refl) ∙ rw e refl in
    one ∙ sym other

-- the end of the text ends a comment
pub comment_end : (bs : List ℕ) (i : ℕ) → length bs ≤ i → tokens_from OfComment i (drop i bs) ≡ tokens_from Apart i (drop i bs)
comment_end bs i h = rw (drop_of_length-le bs h, none OfComment i, none Apart i) refl

-- a comment begins
pub comment_begins : (bs : List ℕ) (i : ℕ) → i < length bs → get_or bs i 0 ≡ 35 → tokens_from Apart i (drop i bs) ≡ tokens_from OfComment (i + 1) (drop (i + 1) bs)
comment_begins bs i h e = passed Apart bs i h (rw e refl) ∙ rw e refl

-- a separator is part of nothing
separates : (b : ℕ) → is_separator b ≡ true → ((is_separator b || (b == 35)) ≡ true) × (part_of Apart b ≡ Apart)
separates b h = elim (cases_Bool (b == 32)) [
  | inl y ↦ (let e : b ≡ 32 = grind (arith, nat_tests, y) in rw e (refl, refl))
  | inr n ↦ (elim (cases_Bool (b == 9)) [
    | inl y ↦ (let e : b ≡ 9 = grind (arith, nat_tests, y) in rw e (refl, refl))
    | inr m ↦ (elim (cases_Bool (b == 13)) [
      | inl y ↦ (let e : b ≡ 13 = grind (arith, nat_tests, y) in rw e (refl, refl))
      | inr k ↦ (let last : (b == 10) ≡ true = rw (n, m, k) at h in let e : b ≡ 10 = grind (arith, nat_tests, last) in rw e (refl, refl))
    ])
  ])
]

-- a separator is passed
pub separator_passed : (bs : List ℕ) (i : ℕ) → i < length bs → is_separator (get_or bs i 0) ≡ true → tokens_from Apart i (drop i bs) ≡ tokens_from Apart (i + 1) (drop (i + 1) bs)
separator_passed bs i h e =
    let s = separates (get_or bs i 0) e in
    passed Apart bs i h s.0 ∙ rw s.1 refl

-- a byte begins a token
pub begins : (bs : List ℕ) (i : ℕ) → i < length bs → (is_separator (get_or bs i 0) || (get_or bs i 0 == 35)) ≡ false
    → tokens_from Apart i (drop i bs) ≡ leading (begun i (get_or bs i 0) (drop (i + 1) bs)) (tokens_from (part_of Apart (get_or bs i 0)) (i + 1) (drop (i + 1) bs))
begins bs i h e = there Apart bs i h ∙ step Apart i (get_or bs i 0) (drop (i + 1) bs) ∙ rw (e, add-one) refl

-- the end of the text
pub ends : (bs : List ℕ) (i : ℕ) (rest : List TokenAt) → i ≡ length bs → tokens_from Apart i (drop i bs) ≡ leading (record { token = End; at = i }) rest
ends bs i rest e = let over : length bs ≤ i = omega arith in rw (drop_of_length-le bs over) (none Apart i)

-- a letter may stand in a name
pub letter_in_name : (b : ℕ) → is_letter b ≡ true → is_name_byte b ≡ true
letter_in_name b l = elim (cases_Bool (nat_le 48 b && nat_le b 57)) [
  | inl y ↦ rw y refl
  | inr n ↦ (elim (cases_Bool (nat_le 95 b && nat_le b 95)) [ inl z ↦ rw (n, z) refl | inr m ↦ rw (n, m) l ])
]

-- behind a word other tokens begin
pub word_ends : (at : ℕ) (bs : List ℕ) → tokens_from OfWord at bs ≡ tokens_from Apart (at + prefix_len is_name_byte bs) (drop (prefix_len is_name_byte bs) bs)
word_ends at [] = none OfWord at ∙ rw add-zero (sym (none Apart at))
word_ends at (b ∷ bs) = elim (cases_Bool (is_name_byte b)) [
  | inl y ↦
      (let one : tokens_from OfWord at (b ∷ bs) ≡ tokens_from OfWord (suc at) bs = step OfWord at b bs ∙ rw y refl in
      let index : suc at + prefix_len is_name_byte bs ≡ at + suc (prefix_len is_name_byte bs) = omega arith in
      let rest : tokens_from OfWord (suc at) bs ≡ tokens_from Apart (at + suc (prefix_len is_name_byte bs)) (drop (prefix_len is_name_byte bs) bs) =
      subst (λ n. tokens_from OfWord (suc at) bs ≡ tokens_from Apart n (drop (prefix_len is_name_byte bs) bs)) index (word_ends (suc at) bs) in
      rw (y, one-add) (one ∙ rest))
  | inr n ↦
      (let one : tokens_from OfWord at (b ∷ bs) ≡ tokens_from Apart at (b ∷ bs) = rw (step OfWord at b bs, step Apart at b bs, n) refl in
      rw (n, add-zero) one)
]

-- the word at an offset, and the tokens behind it
pub word_there : (bs : List ℕ) (i : ℕ) → i < length bs → is_letter (get_or bs i 0) ≡ true → (is_separator (get_or bs i 0) || (get_or bs i 0 == 35)) ≡ false
    → tokens_from Apart i (drop i bs)
    ≡ leading (word_at i (take_while is_name_byte (drop i bs))) (tokens_from Apart (i + length (take_while is_name_byte (drop i bs))) (drop (i + length (take_while is_name_byte (drop i bs))) bs))
word_there bs i h l e =
    let b : ℕ = get_or bs i 0 in
    let rest : List ℕ = drop (i + 1) bs in
    let whole : drop i bs ≡ b ∷ rest = rw add-one (drop-cons bs i 0 h) in
    let name : is_name_byte b ≡ true = letter_in_name b l in
    let long : length (take_while is_name_byte (b ∷ rest)) ≡ prefix_len is_name_byte (b ∷ rest) = length-prefix_len is_name_byte (b ∷ rest) in
    let more : prefix_len is_name_byte (b ∷ rest) ≡ 1 + prefix_len is_name_byte rest = rw name refl in
    let part : part_of Apart b ≡ OfWord = rw name refl in
    let index : (i + 1) + prefix_len is_name_byte rest ≡ i + (1 + prefix_len is_name_byte rest) = omega arith in
    let behind : tokens_from OfWord (i + 1) rest ≡ tokens_from Apart (i + (1 + prefix_len is_name_byte rest)) (drop (i + (1 + prefix_len is_name_byte rest)) bs) =
    word_ends (i + 1) rest ∙ rw (drop-drop (prefix_len is_name_byte rest) (i + 1) bs, index) refl in
    begins bs i h e ∙ rw (part, behind, whole, long, more, l) refl

-- the first bytes that may stand in a name all may
all_name_bytes : (bs : List ℕ) → list_all is_name_byte (take_while is_name_byte bs) ≡ true
all_name_bytes [] = refl
all_name_bytes (b ∷ bs) = elim (cases_Bool (is_name_byte b)) [ inl y ↦ rw (y, one-add) (rw y (all_name_bytes bs)) | inr n ↦ rw n refl ]

-- a word that isn't too long is a name
pub word_is_name : (bs : List ℕ) (i : ℕ) → i < length bs → is_letter (get_or bs i 0) ≡ true → length (take_while is_name_byte (drop i bs)) ≤ 32
    → is_name (take_while is_name_byte (drop i bs)) ≡ true
word_is_name bs i h l short =
    let b : ℕ = get_or bs i 0 in
    let rest : List ℕ = drop (suc i) bs in
    let whole : drop i bs ≡ b ∷ rest = drop-cons bs i 0 h in
    let name : is_name_byte b ≡ true = letter_in_name b l in
    let word : take_while is_name_byte (b ∷ rest) ≡ b ∷ take_while is_name_byte rest = rw (name, one-add) refl in
    let few : suc (length (take_while is_name_byte rest)) ≤ 32 = rw (whole, word) at short in
    let fits : nat_le (length (take_while is_name_byte rest)) 31 ≡ true = grind (arith, nat_tests) in
    rw (whole, word, l, all_name_bytes rest, fits) refl

-- an arrow, and the tokens behind it
pub arrow_there : (bs : List ℕ) (i : ℕ) → i < length bs → get_or bs i 0 ≡ 45 → has_head (drop (i + 1) bs) ≡ true
    → tokens_from Apart i (drop i bs) ≡ leading (record { token = mark (get_or bs i 0) (has_head (drop (i + 1) bs)); at = i }) (tokens_from Apart (i + 2) (drop (i + 2) bs))
arrow_there bs i h e head =
    let first = begins bs i h (rw e refl) in
    let behind : tokens_from OfArrow (i + 1) (drop (i + 1) bs) ≡ tokens_from Apart (i + 2) (drop (i + 2) bs) = go (drop (i + 1) bs) refl head in
    rw (e, head) (rw (e, head, behind) at first)
  where
    go : (cs : List ℕ) → drop (i + 1) bs ≡ cs → has_head cs ≡ true → tokens_from OfArrow (i + 1) cs ≡ tokens_from Apart (i + 2) (drop (i + 2) bs)
    go [] same head = absurd (cc)
    go (c ∷ cs) same head =
        let is : c ≡ 62 = grind (arith, nat_tests, head) in
        let two : i + 2 ≡ i + 1 + 1 = omega arith in
        let tail : drop (i + 2) bs ≡ cs = rw (two, ← drop-drop 1 (i + 1) bs, same) refl in
        let next : suc (i + 1) ≡ i + 2 = omega arith in
        rw (is, tail, step OfArrow (i + 1) 62 cs, next) refl

-- a byte that begins no word and no arrow, and the tokens behind it
pub mark_there : (bs : List ℕ) (i : ℕ) → i < length bs → (is_separator (get_or bs i 0) || (get_or bs i 0 == 35)) ≡ false → is_letter (get_or bs i 0) ≡ false
    → ((get_or bs i 0 == 45) && has_head (drop (i + 1) bs)) ≡ false
    → tokens_from Apart i (drop i bs) ≡ leading (record { token = mark (get_or bs i 0) (has_head (drop (i + 1) bs)); at = i }) (tokens_from Apart (i + 1) (drop (i + 1) bs))
mark_there bs i h e l other =
    let token : begun i (get_or bs i 0) (drop (i + 1) bs) ≡ record { token = mark (get_or bs i 0) (has_head (drop (i + 1) bs)); at = i } =
    ap (λ (l : Bool). if l then word_at i (take_while is_name_byte (get_or bs i 0 ∷ drop (i + 1) bs)) else record { token = mark (get_or bs i 0) (has_head (drop (i + 1) bs)); at = i }) l in
    begins bs i h e ∙ ap (λ (p : TokenAt). leading p (tokens_from (part_of Apart (get_or bs i 0)) (i + 1) (drop (i + 1) bs))) token ∙ pick (get_or bs i 0) (has_head (drop (i + 1) bs)) other
  where
    pick : (b : ℕ) (head : Bool) → ((b == 45) && head) ≡ false
        → leading (record { token = mark b head; at = i }) (tokens_from (part_of Apart b) (i + 1) (drop (i + 1) bs))
        ≡ leading (record { token = mark b head; at = i }) (tokens_from Apart (i + 1) (drop (i + 1) bs))
    pick b head o = elim (cases_Bool (b == 58)) [
      | inl y ↦ (let is : b ≡ 58 = grind (arith, nat_tests, y) in rw is refl)
      | inr n ↦ (elim (cases_Bool (b == 59)) [
        | inl z ↦ (let is : b ≡ 59 = grind (arith, nat_tests, z) in rw is refl)
        | inr m ↦ rw (n, m, o) refl
      ])
    ]
