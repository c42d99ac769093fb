-- What a line of input asks for.
use Rattle.std.specs.Prelude.{◌≡◌, ℕ, ◌==◌, nat_le, Bool, true, ◌&&◌, ◌||◌, if◌then◌else◌, List, [], ◌∷◌, map, length, codes, bytes_eq, Option, Some, None, option_map, IsTrue}
use Rattle.std.specs.Fmt.{decimal}
use Rattle.std.specs.List.{list_all}
use Rattle.sg_model.specs.Limits.{most_roles}
use Rattle.sg_model.specs.Names.{Name, is_name}
use Rattle.sg_base.specs.Words.{name, number}
use Rattle.sg_sched.specs.Words.{numbered}
use Rattle.sg_sched.specs.Text.{words, without_last}
use Rattle.sg_sched.specs.Format.LineContents.{Word, assignment_word, joined_names}
use Rattle.sg_sched.specs.Format.Forms.{are_names, is_assignment}
use Rattle.sg_sched.specs.Format.Reading.{WordsLeft, word, after, ended, assignments}
use Rattle.sg_sched.specs.Format.CraftReading.{cast}
use Rattle.sg_request.specs.declared.request.Request.{Request}
use Rattle.sg_request.specs.declared.request.Request.TheVariants.{Start, Act, Abandon, Receive, Again, Turn, Id, Quit}

-- ---- words

-- a session: s and its number
unfoldable pub session : Word → Option ℕ
session = numbered 115

-- the version of a session's frames: 1 or 2
unfoldable pub version : Word → Option ℕ
version w = if bytes_eq w (codes "1") then Some 1 else if bytes_eq w (codes "2") then Some 2 else None

-- milliseconds: at most a day
abbrev pub milliseconds : Word → Option ℕ
milliseconds = number 86400000

-- ---- forms, each after its first word

-- GRAPH VERSION NAME,..,NAME
unfoldable pub start_form : WordsLeft → Option Request
start_form =
    after (word name) λ graph.
    after (word version) λ version.
    after (word cast) λ names.
    ended (Some (Start graph version names))

-- sN LABEL VAR=VALUE ..
unfoldable pub act_form : WordsLeft → Option Request
act_form =
    after (word session) λ n.
    after (word name) λ label.
    λ ws. option_map (Act n label) (assignments ws)

-- MS, or nothing
unfoldable pub receive_form : WordsLeft → Option Request
receive_form [] = Some (Receive None)
receive_form (w ∷ ws) = after (word milliseconds) (λ ms. ended (Some (Receive (Some ms)))) (w ∷ ws)

-- sN
unfoldable pub session_form : WordsLeft → Option ℕ
session_form =
    after (word session) λ n.
    ended (Some n)

-- nothing
unfoldable pub quit_form : WordsLeft → Option Request
quit_form = ended (Some Quit)

-- the forms of one word or two, by the first
unfoldable pub short_form : Word → WordsLeft → Option Request
short_form w ws =
    if bytes_eq w (codes "recv") then receive_form ws
    else if bytes_eq w (codes "turn") then option_map Turn (session_form ws)
    else if bytes_eq w (codes "abandon") then option_map Abandon (session_form ws)
    else if bytes_eq w (codes "again") then option_map Again (session_form ws)
    else if bytes_eq w (codes "id") then option_map Id (session_form ws)
    else if bytes_eq w (codes "quit") then quit_form ws
    else None

-- the forms by their first word
unfoldable pub form : WordsLeft → Option Request
form [] = None
form (w ∷ ws) =
    if bytes_eq w (codes "start") then start_form ws
    else if bytes_eq w (codes "act") then act_form ws
    else short_form w ws

-- ---- lines

-- what stands on a line that has come without its line feed: no carriage return at its end
abbrev pub content : (line : List ℕ) → List ℕ
content line = without_last 13 line

-- what a line asks for, which has come without its line feed, or nothing if it is of no form
abbrev pub request_of : (line : List ℕ) → Option Request
request_of line = form (words (content line))

-- ---- the words of a request

-- sN
abbrev pub session_word : ℕ → Word
session_word n = 115 ∷ decimal n

-- the words of a request
abbrev pub request_words : Request → List Word
request_words (Start graph version names) = codes "start" ∷ graph ∷ decimal version ∷ joined_names names ∷ []
request_words (Act n label values) = codes "act" ∷ session_word n ∷ label ∷ map assignment_word values
request_words (Abandon n) = codes "abandon" ∷ session_word n ∷ []
request_words (Receive None) = codes "recv" ∷ []
request_words (Receive (Some ms)) = codes "recv" ∷ decimal ms ∷ []
request_words (Again n) = codes "again" ∷ session_word n ∷ []
request_words (Turn n) = codes "turn" ∷ session_word n ∷ []
request_words (Id n) = codes "id" ∷ session_word n ∷ []
request_words Quit = codes "quit" ∷ []

-- a session's number
abbrev pub is_session : ℕ → Bool
is_session n = nat_le 1 n && nat_le n 4294967295

-- 2 to 16 names
abbrev pub is_cast : List Name → Bool
is_cast names = nat_le 2 (length names) && nat_le (length names) most_roles && are_names names

-- each field of a request holds what it may hold
abbrev pub is_request : Request → Bool
is_request (Start graph version names) = is_name graph && (version == 1 || version == 2) && is_cast names
is_request (Act n label values) = is_session n && is_name label && list_all is_assignment values
is_request (Abandon n) = is_session n
is_request (Receive None) = true
is_request (Receive (Some ms)) = nat_le ms 86400000
is_request (Again n) = is_session n
is_request (Turn n) = is_session n
is_request (Id n) = is_session n
is_request Quit = true

-- the words of the line are those of the request, and each field holds what it may hold
pub record Asks (line : List ℕ) (r : Request) : Type 0 where
  pub spelled : words (content line) ≡ request_words r
  pub indices : IsTrue (is_request r)
