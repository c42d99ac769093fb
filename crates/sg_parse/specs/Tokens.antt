-- The tokens of a graph text, each with its offset.
use Rattle.std.specs.Prelude.{ℕ, suc, ◌+◌, ◌==◌, nat_le, Bool, true, false, not, ◌&&◌, ◌||◌, if◌then◌else◌, List, [], ◌∷◌, map, length, codes, take_while, bytes_eq}
use Rattle.sg_model.specs.Lists.{has_text}
use Rattle.sg_model.specs.Names.{is_letter, is_name_byte, reserved}
use Rattle.sg_parse.specs.declared.token.Token.{Token}
use Rattle.sg_parse.specs.declared.token.Token.TheVariants.{Word, Colon, Semicolon, Arrow, Use, As, End, Long, Bad}
use Rattle.sg_parse.specs.declared.token.TokenAt.{TokenAt}
use Rattle.sg_parse.specs.declared.token.Language.{Language}
use Rattle.sg_parse.specs.declared.token.Language.TheVariants.{OfGraph, OfParts}

-- a space, a tab, a carriage return or a line end
abbrev pub is_separator : ℕ → Bool
is_separator b = (b == 32) || (b == 9) || (b == 13) || (b == 10)

-- what a byte is part of: a word, a comment, an arrow that it begins, or anything else
pub data Part : Type 0 where
  OfWord : Part
  OfComment : Part
  OfArrow : Part
  Apart : Part

-- the byte goes on with what the byte before it is part of
abbrev pub goes_on : Part → ℕ → Bool
goes_on OfWord b = is_name_byte b
goes_on OfComment b = true
goes_on OfArrow b = b == 62
goes_on Apart b = false

-- what a byte is part of; a comment ends at a line end
abbrev pub part_of : Part → ℕ → Part
part_of OfComment b = if b == 10 then Apart else OfComment
part_of before b = if is_name_byte b then OfWord else if b == 35 then OfComment else if b == 45 then OfArrow else Apart

-- a word, or the fault at its 33rd byte
abbrev pub word_at : ℕ → List ℕ → TokenAt
word_at at w = if nat_le (length w) 32 then record { token = Word w; at = at } else record { token = Long; at = at + 32 }

-- the bytes begin with `>`
abbrev pub has_head : List ℕ → Bool
has_head [] = false
has_head (b ∷ bs) = b == 62

-- the token that begins with a byte that is no letter, before `>` or not
abbrev pub mark : ℕ → Bool → Token
mark b head = if b == 58 then Colon else if b == 59 then Semicolon else if (b == 45) && head then Arrow else Bad

-- the token that the byte b begins, before the bytes bs
abbrev pub begun : ℕ → ℕ → List ℕ → TokenAt
begun at b bs = if is_letter b then word_at at (take_while is_name_byte (b ∷ bs)) else record { token = mark b (has_head bs); at = at }

-- the end of the text, or a fault: no tokens are asked for after it
abbrev pub is_last : Token → Bool
is_last End = true
is_last Long = true
is_last Bad = true
is_last t = false

-- a token, and those after it unless it is the last
abbrev pub leading : TokenAt → List TokenAt → List TokenAt
leading p ps = p ∷ (if is_last p.token then [] else ps)

-- the tokens that begin in the bytes, the first of which stands at an offset, up to the end or to the first fault
unfoldable pub tokens_from : Part → ℕ → List ℕ → List TokenAt
tokens_from before at [] = record { token = End; at = at } ∷ []
tokens_from before at (b ∷ bs) =
    if goes_on before b || is_separator b || (b == 35) then tokens_from (part_of before b) (suc at) bs
    else leading (begun at b bs) (tokens_from (part_of before b) (suc at) bs)

-- the tokens of a text
abbrev pub tokens : List ℕ → List TokenAt
tokens bs = tokens_from Apart 0 bs

-- ---- the further words that a text of parts reserves

-- `use` and `as` are no names where parts are spelled
abbrev pub kept : Token → Token
kept (Word w) = if bytes_eq w (codes "use") then Use else if bytes_eq w (codes "as") then As else Word w
kept t = t

-- a token of a text, as its language has it
abbrev pub seen_as : Language → TokenAt → TokenAt
seen_as OfGraph p = p
seen_as OfParts p = record { token = kept p.token; at = p.at }

-- the tokens of a text, as its language has them
abbrev pub all_seen_as : Language → List TokenAt → List TokenAt
all_seen_as OfGraph ps = ps
all_seen_as OfParts ps = map (seen_as OfParts) ps

-- the tokens of a text of parts
abbrev pub part_tokens : List ℕ → List TokenAt
part_tokens bs = all_seen_as OfParts (tokens bs)

-- ---- which token it is

-- this word
abbrev pub is_word : List ℕ → Token → Bool
is_word w (Word v) = bytes_eq v w
is_word w t = false

-- a word that the language doesn't reserve
abbrev pub is_named : Token → Bool
is_named (Word v) = not (has_text v reserved)
is_named t = false

-- `:`
abbrev pub is_colon : Token → Bool
is_colon Colon = true
is_colon t = false

-- `;`
abbrev pub is_semicolon : Token → Bool
is_semicolon Semicolon = true
is_semicolon t = false

-- `->`
abbrev pub is_arrow : Token → Bool
is_arrow Arrow = true
is_arrow t = false

-- `use`
abbrev pub is_use : Token → Bool
is_use Use = true
is_use t = false

-- `as`
abbrev pub is_as : Token → Bool
is_as As = true
is_as t = false

-- the end of the text
abbrev pub is_end : Token → Bool
is_end End = true
is_end t = false

-- the bytes of a word
abbrev pub text_of : Token → List ℕ
text_of (Word v) = v
text_of t = []
