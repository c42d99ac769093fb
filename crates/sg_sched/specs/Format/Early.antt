-- Which lines take memory to be read: those that begin so. The others are read, or refused, without.
use Rattle.std.specs.Prelude.{if◌then◌else◌, [], ◌∷◌, codes, bytes_eq, Option, Some, None}
use Rattle.sg_base.specs.Words.{name, number}
use Rattle.sg_sched.specs.Format.CraftReading.{exactly, ends}
use Rattle.sg_sched.specs.Format.Reading.{WordsLeft, word, after}

-- NAME GRAPH NONCE, before the names
unfoldable pub session_beginning : WordsLeft → Option (Unit {0})
session_beginning =
    after (word name) λ session.
    after (word name) λ graph.
    after (word (number 18446744073709551615)) λ nonce rest.
    Some tt

-- NAME SESSION LABEL, before the values
unfoldable pub act_beginning : WordsLeft → Option (Unit {0})
act_beginning =
    after (word name) λ who.
    after (word name) λ session.
    after (word name) λ label rest.
    Some tt

-- NAME hex, before the digits
unfoldable pub deliver_beginning : WordsLeft → Option (Unit {0})
deliver_beginning =
    after (word name) λ who.
    after (word (exactly (codes "hex"))) λ _ rest.
    Some tt

-- SESSION from ROLE to ROLE, two different ones, before the rest
unfoldable pub craft_beginning : WordsLeft → Option (Unit {0})
craft_beginning = after ends λ e rest. Some tt

-- the first words of a line whose next word takes memory
unfoldable pub line_beginning : WordsLeft → Option (Unit {0})
line_beginning [] = None
line_beginning (w ∷ ws) =
    if bytes_eq w (codes "act") then act_beginning ws
    else if bytes_eq w (codes "deliver") then deliver_beginning ws
    else if bytes_eq w (codes "craft") then craft_beginning ws
    else if bytes_eq w (codes "session") then session_beginning ws
    else None
