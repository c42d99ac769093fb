-- How the words of a line are read, one after the other, up to the end of the line.
use Rattle.std.specs.Prelude.{ℕ, ◌%◌, ◌==◌, ◌&&◌, if◌then◌else◌, List, [], ◌∷◌, length, codes, bytes_eq, Option, Some, None, option_map, option_and_then}
use Rattle.sg_model.specs.Names.{Name, reserved, is_name}
use Rattle.sg_model.specs.Lists.{has_text}
use Rattle.sg_base.specs.Words.{name, number}
use Rattle.sg_sched.specs.Words.{names, frame}
use Rattle.sg_sched.specs.Format.LineContents.{Word, Assignment, TheFrame, TheFlipped, TheCut, TheBytes, LineContent, BlockLine, EdgeLine, HonestLine, KeyLine, SessionLine, StartLine, ActLine, AbandonLine, DeliverLine}
use Rattle.sg_sched.specs.Format.Values.{is_value, is_hex_of, is_hex}

-- ---- readers

-- the words of a line that are left
abbrev pub WordsLeft : Type 0
WordsLeft = List Word

-- takes words off a line, or finds that they are of another form
abbrev pub Taker : Type 0 → Type 0
Taker A = WordsLeft → Option (A × WordsLeft)

-- one word
unfoldable pub word : {A : Type 0} → (Word → Option A) → Taker A
word read [] = None
word read (w ∷ ws) = option_map (λ x. (x, ws)) (read w)

-- the words are of this form, and then of a form that depends on what they spell
abbrev pub after : {A B : Type 0} → Taker A → (A → WordsLeft → Option B) → WordsLeft → Option B
after {A} take next ws = option_and_then (λ (p : A × WordsLeft). next p.0 p.1) (take ws)

-- no word is left
abbrev pub ended : {A : Type 0} → Option A → WordsLeft → Option A
ended statement ws = if length ws == 0 then statement else None

-- ---- words

-- the digits of n bytes
unfoldable pub hex_of : ℕ → Word → Option Word
hex_of n w = if is_hex_of n w then Some w else None

-- the digits of one byte or more
unfoldable pub hex : Word → Option Word
hex w = if is_hex w then Some w else None

-- a byte before what is split, or the mark itself
abbrev pub split_step : ℕ → ℕ → Word → Option (Word × Word) → Option (Word × Word)
split_step mark c cs later = if c == mark then Some ([], cs) else option_map (λ (p : Word × Word). (c ∷ p.0, p.1)) later

-- what stands before the first byte `mark` and after it
abbrev pub split_at : ℕ → Word → Option (Word × Word)
split_at mark [] = None
split_at mark (c ∷ cs) = split_step mark c cs (split_at mark cs)

-- a name and a value
abbrev pub assignment_of : Word × Word → Option Assignment
assignment_of p = if is_name p.0 && is_value p.1 then Some (record { variable = p.0; value = p.1 }) else None

-- VAR=VALUE
unfoldable pub given : Word → Option Assignment
given w = option_and_then assignment_of (split_at 61 w)

-- each word is VAR=VALUE
abbrev pub assignments : WordsLeft → Option (List Assignment)
assignments [] = Some []
assignments (w ∷ ws) = option_and_then (λ v. option_map (λ vs. v ∷ vs) (assignments ws)) (given w)

-- ---- forms, each after its first word

-- {
unfoldable pub block_form : WordsLeft → Option LineContent
block_form [] = None
block_form (w ∷ ws) = if bytes_eq w (codes "{") then ended (Some BlockLine) ws else None

-- an edge from an even node to an odd one, or back
abbrev pub edge_of : Name → ℕ → ℕ → Option LineContent
edge_of label from to = if has_text label reserved then None else if from % 2 == to % 2 then None else Some (EdgeLine label from to)

-- LABEL FROM TO
unfoldable pub edge_form : WordsLeft → Option LineContent
edge_form =
    after (word name) λ label.
    after (word (number 255)) λ from.
    after (word (number 255)) λ to.
    ended (edge_of label from to)

-- NAME
unfoldable pub honest_form : WordsLeft → Option LineContent
honest_form =
    after (word name) λ who.
    ended (Some (HonestLine who))

-- a key of two different principals
abbrev pub key_of : Name → Name → Word → Option LineContent
key_of one two digits = if bytes_eq one two then None else Some (KeyLine one two digits)

-- NAME NAME HEX
unfoldable pub key_form : WordsLeft → Option LineContent
key_form =
    after (word name) λ one.
    after (word name) λ two.
    after (word (hex_of 32)) λ digits.
    ended (key_of one two digits)

-- the version of a session's frames: 1, or 2 if the word v2 stands
unfoldable pub version : Taker ℕ
version [] = Some (1, [])
version (w ∷ ws) = if bytes_eq w (codes "v2") then Some (2, ws) else None

-- NAME GRAPH NONCE NAME,NAME,.. and v2 after it for version 2
unfoldable pub session_form : WordsLeft → Option LineContent
session_form =
    after (word name) λ session.
    after (word name) λ graph.
    after (word (number 18446744073709551615)) λ nonce.
    after (word names) λ cast.
    after version λ version.
    ended (Some (SessionLine session graph nonce cast version))

-- a principal and a session, and no more
unfoldable pub in_session : WordsLeft → Option (Name × Name)
in_session =
    after (word name) λ who.
    after (word name) λ session.
    ended (Some (who, session))

-- NAME SESSION
unfoldable pub start_form : WordsLeft → Option LineContent
start_form ws = option_map (λ (p : Name × Name). StartLine p.0 p.1) (in_session ws)

-- NAME SESSION LABEL VAR=VALUE ..
unfoldable pub act_form : WordsLeft → Option LineContent
act_form =
    after (word name) λ who.
    after (word name) λ session.
    after (word name) λ label.
    λ ws. option_map (ActLine who session label) (assignments ws)

-- NAME SESSION
unfoldable pub abandon_form : WordsLeft → Option LineContent
abandon_form ws = option_map (λ (p : Name × Name). AbandonLine p.0 p.1) (in_session ws)

-- a number, below 2 ^ 32
abbrev pub short : Taker ℕ
short = word (number 4294967295)

-- what becomes of frame n: nothing, flip I, cut I
unfoldable pub frame_form : Name → ℕ → WordsLeft → Option LineContent
frame_form who n [] = Some (DeliverLine who (TheFrame n))
frame_form who n (w ∷ ws) =
    if bytes_eq w (codes "flip") then after short (λ at. ended (Some (DeliverLine who (TheFlipped n at)))) ws
    else if bytes_eq w (codes "cut") then after short (λ len. ended (Some (DeliverLine who (TheCut n len)))) ws
    else None

-- hex HEX, or fN and what becomes of it
unfoldable pub what_form : Name → WordsLeft → Option LineContent
what_form who [] = None
what_form who (w ∷ ws) =
    if bytes_eq w (codes "hex") then after (word hex) (λ digits. ended (Some (DeliverLine who (TheBytes digits)))) ws
    else option_and_then (λ n. frame_form who n ws) (frame w)

-- NAME and what is delivered
unfoldable pub deliver_form : WordsLeft → Option LineContent
deliver_form = after (word name) what_form
