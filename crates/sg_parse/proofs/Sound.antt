-- The tokens of a text: each word is a name, and the last is the only end or fault.
use Rattle.std.proofs.Common.{◌≡◌, ℕ, suc, ◌+◌, ◌<◌, ◌≤◌, ◌==◌, nat_le, Bool, true, false, ◌&&◌, ◌||◌, List, [], ◌∷◌, map, length, codes, bytes_eq, take_while, refl, arith, if◌then◌else◌}
use Rattle.std.proofs.lemmas.Bool.Decides.{nat_tests}
use Rattle.sg_model.specs.Names.{is_letter, is_name_byte, is_name}
use Rattle.sg_parse.specs.Tokens.{Part, goes_on, part_of, is_separator, is_last, leading, kept, seen_as, part_tokens, has_head, mark, begun, tokens_from, tokens, word_at, Apart}
use Rattle.sg_parse.specs.declared.token.TokenAt.{TokenAt}
use Rattle.sg_parse.specs.declared.token.Token.{Token}
use Rattle.sg_parse.specs.declared.token.Language.TheVariants.{OfParts}
use Rattle.sg_parse.specs.declared.token.Token.TheVariants.{Word, Colon, Semicolon, Arrow, Use, As, End, Long, Bad}
use Rattle.sg_parse.proofs.Scanning.{word_is_name}

-- a word is a name
abbrev pub IsSpelled : Token → Type 0
IsSpelled (Word w) = is_name w ≡ true
IsSpelled t = Unit {0}

-- so each word, and nothing stands behind an end or a fault
abbrev pub Sound : List TokenAt → Type 0
Sound [] = Unit {0}
Sound (p ∷ ps) = IsSpelled p.token × (is_last p.token ≡ true → ps ≡ []) × Sound ps

sound-leading : (p : TokenAt) (ps : List TokenAt) → IsSpelled p.token → Sound ps → Sound (leading p ps)
sound-leading p ps w s = (w, (λ e. rw e refl), pick (is_last p.token))
  where
    pick : (b : Bool) → Sound (if b then [] else ps)
    pick true = tt
    pick false = s

spelled-mark : (b : ℕ) (head : Bool) → IsSpelled (mark b head)
spelled-mark b head = one (b == 58) (b == 59) ((b == 45) && head)
  where
    one : (x y z : Bool) → IsSpelled (if x then Colon else if y then Semicolon else if z then Arrow else Bad)
    one true y z = tt
    one false true z = tt
    one false false true = tt
    one false false false = tt

spelled-word : (at b : ℕ) (bs : List ℕ) → is_letter b ≡ true → IsSpelled (word_at at (take_while is_name_byte (b ∷ bs))).token
spelled-word at b bs l = pick (nat_le (length (take_while is_name_byte (b ∷ bs))) 32) refl
  where
    pick : (s : Bool) → nat_le (length (take_while is_name_byte (b ∷ bs))) 32 ≡ s
        → (let p : TokenAt = if s then record { token = Word (take_while is_name_byte (b ∷ bs)); at = at } else record { token = Long; at = at + 32 } in IsSpelled p.token)
    pick true e =
        let short : length (take_while is_name_byte (b ∷ bs)) ≤ 32 = grind (arith, nat_tests, e) in
        let there : 0 < length (b ∷ bs) = omega arith in
        word_is_name (b ∷ bs) 0 there l short
    pick false e = tt

spelled-begun : (at b : ℕ) (bs : List ℕ) → IsSpelled (begun at b bs).token
spelled-begun at b bs = pick (is_letter b) refl
  where
    pick : (l : Bool) → is_letter b ≡ l → (let p : TokenAt = if l then word_at at (take_while is_name_byte (b ∷ bs)) else record { token = mark b (has_head bs); at = at } in IsSpelled p.token)
    pick true e = spelled-word at b bs e
    pick false e = spelled-mark b (has_head bs)

sound-tokens_from : (before : Part) (at : ℕ) (bs : List ℕ) → Sound (tokens_from before at bs)
unfolding tokens_from
sound-tokens_from before at [] = (tt, (λ e. refl), tt)
sound-tokens_from before at (b ∷ bs) =
    pick (goes_on before b || is_separator b || (b == 35)) (tokens_from (part_of before b) (suc at) bs) (sound-tokens_from (part_of before b) (suc at) bs)
  where
    pick : (c : Bool) (ps : List TokenAt) → Sound ps → Sound (if c then ps else leading (begun at b bs) ps)
    pick true ps s = s
    pick false ps s = sound-leading (begun at b bs) ps (spelled-begun at b bs) s

-- the tokens of a text are sound
pub sound-tokens : (bs : List ℕ) → Sound (tokens bs)
sound-tokens bs = sound-tokens_from Apart 0 bs

-- ---- as the language has them

kept-spelled : (t : Token) → IsSpelled t → IsSpelled (kept t)
kept-spelled (Word w) s = pick (bytes_eq w (codes "use")) (bytes_eq w (codes "as"))
  where
    pick : (a b : Bool) → IsSpelled (if a then Use else if b then As else Word w)
    pick true b = tt
    pick false true = tt
    pick false false = s
kept-spelled Colon s = tt
kept-spelled Semicolon s = tt
kept-spelled Arrow s = tt
kept-spelled Use s = tt
kept-spelled As s = tt
kept-spelled End s = tt
kept-spelled Long s = tt
kept-spelled Bad s = tt

kept-last : (t : Token) → is_last (kept t) ≡ is_last t
kept-last (Word w) = pick (bytes_eq w (codes "use")) (bytes_eq w (codes "as"))
  where
    pick : (a b : Bool) → is_last (if a then Use else if b then As else Word w) ≡ false
    pick true b = refl
    pick false true = refl
    pick false false = refl
kept-last Colon = refl
kept-last Semicolon = refl
kept-last Arrow = refl
kept-last Use = refl
kept-last As = refl
kept-last End = refl
kept-last Long = refl
kept-last Bad = refl

sound-kept : (ps : List TokenAt) → Sound ps → Sound (map (seen_as OfParts) ps)
sound-kept [] s = tt
sound-kept (p ∷ ps) s = (kept-spelled p.token s.0, (λ e. rw (s.1 (rw kept-last at e)) refl), sound-kept ps s.2)

-- the tokens of a text of parts are sound
pub sound-part_tokens : (bs : List ℕ) → Sound (part_tokens bs)
sound-part_tokens bs = sound-kept (tokens bs) (sound-tokens bs)
