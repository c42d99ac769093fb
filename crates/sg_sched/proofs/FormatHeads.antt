-- What is computed on literal lines, and the heads of the examples: what the lines before declare.
use Rattle.std.specs.Prelude.{◌≡◌, ℕ, ⊤, true, List, [], ◌∷◌, ◌++◌, map, replicate, codes, Option, Some, None}
use Rattle.std.specs.Fmt.{digits}
use Rattle.std.specs.Str.{is_utf8, chars}
use lib.Utf8.{encode}
use Rattle.hex.specs.Hex.{decode_pairs}
use Rattle.sg_protocol.proofs.Examples.{shop, relay}
use Rattle.sg_base.specs.Words.{name, number}
use Rattle.sg_sched.specs.Words.{frame, names}
use Rattle.sg_sched.specs.Pair.{edge}
use Rattle.sg_sched.specs.Text.{content, words}
use Rattle.sg_sched.specs.Format.LineContents.{Word, Assignment, Committed, TagSource, ItemContent, CraftContent, LineContent, line_words}
use Rattle.sg_sched.specs.Format.Forms.{is_form}
use Rattle.sg_sched.specs.Format.Numbered.{made}
use Rattle.sg_sched.specs.Format.Faults.{fault}
use Rattle.sg_sched.specs.Format.Spells.{Line, Add, Say}
use Rattle.sg_protocol.specs.Schedule.{CraftJoin}
use Rattle.sg_sched.specs.Format.Reading.{word, hex_of, hex, version, given as an_assignment, block_form, edge_form, honest_form, key_form, session_form, in_session, start_form, act_form, abandon_form, frame_form, what_form, deliver_form}
use Rattle.sg_sched.specs.Format.CraftReading.{committed as a_commitment, cast, time, listed, copy_source, source, tag, item, join_parts, join, ends, seal_form, lists, craft_form}
use Rattle.sg_sched.specs.Format.Form.{form}
use Rattle.sg_sched.specs.Format.Items.{Item, GraphItem, EdgeItem, HonestItem, KeyItem, SessionItem}

-- what the check of a literal line unfolds
unfoldable pub on_literals : ⊤
unfolding digits number is_utf8 chars encode decode_pairs
on_literals = tt

-- what the check of the form of a literal line unfolds
unfoldable pub on_forms : ⊤
unfolding on_literals form block_form edge_form honest_form key_form session_form in_session start_form act_form abandon_form deliver_form craft_form word name names frame hex_of hex version an_assignment frame_form what_form
    a_commitment cast time listed copy_source source tag item join_parts join ends seal_form lists
on_forms = tt

-- a line of a form that is right adds its item
pub said : {before : List Item} {line : Line} {item : Item} (statement : LineContent) → words (content line) ≡ line_words statement → is_form statement ≡ true → fault before statement ≡ None → made before statement ≡ Some item → Add before (line ∷ []) (item ∷ [])
said statement spelled form right makes = Say (record { spelled = spelled; form = form }) right makes

-- the digit c, 64 times
abbrev pub sixty_four : ℕ → Word
sixty_four c = replicate 64 c

-- a key of 32 equal bytes
abbrev pub key_item : List ℕ → List ℕ → ℕ → Item
key_item one two b = KeyItem (record { one = one; two = two; key = replicate 32 b })

-- honest principals
abbrev pub honest_items : List (List ℕ) → List Item
honest_items names = map HonestItem names

-- a session of the graph at index 0
abbrev pub session_item : List ℕ → ℕ → List (List ℕ) → Item
session_item name nonce names = SessionItem (record { name = name; graph = 0; nonce = nonce; names = names; version = 1 })

-- VAR=VALUE
abbrev pub given : List ℕ → List ℕ → Assignment
given variable value = record { variable = variable; value = value }

-- VAR=VALUE#K
abbrev pub committed : List ℕ → List ℕ → ℕ → Committed
committed variable value step = record { variable = variable; value = value; step = step }

-- an item of a craft's line
abbrev pub line_item : List ℕ → ℕ → List Committed → List (List ℕ × TagSource) → ItemContent
line_item label time delta tags = record { label = label; time = time; delta = delta; tags = tags }

-- the words of a craft in s1
abbrev pub crafted : (from to : List ℕ) → Option CraftJoin → (know : List Committed) → List ItemContent → (openings : List Committed) → TagSource → CraftContent
crafted from to join know items openings seal = record { session = codes "s1"; from = from; to = to; join = join; know = know; items = items; openings = openings; seal = seal }

-- with its own nonce and cast
abbrev pub joins : Option CraftJoin
joins = Some (record { nonce = None; names = None })

-- the edges of `pair`
abbrev pub pair_items : List Item
pair_items = EdgeItem (edge (codes "Request") 0 1) ∷ EdgeItem (edge (codes "Reply") 1 2) ∷ []

-- `pair` with honest principals and a session s1
abbrev pub head_p : List (List ℕ) → List Item
head_p names = pair_items ++ honest_items names ++ key_item (codes "a") (codes "b") 17 ∷ session_item (codes "s1") 1 (codes "a" ∷ codes "b" ∷ []) ∷ []

-- `shop` with honest principals and a session s1
abbrev pub head_s : List (List ℕ) → List Item
head_s names = GraphItem shop ∷ honest_items names ++ key_item (codes "alice") (codes "bob") 17 ∷ key_item (codes "alice") (codes "carl") 34
    ∷ key_item (codes "bob") (codes "carl") 51 ∷ session_item (codes "s1") 7 (codes "alice" ∷ codes "bob" ∷ codes "carl" ∷ []) ∷ []

-- `relay` with honest principals and a session s1
abbrev pub head_r : List (List ℕ) → List Item
head_r names = GraphItem relay ∷ honest_items names ++ key_item (codes "ann") (codes "cat") 17 ∷ key_item (codes "bea") (codes "cat") 34
    ∷ key_item (codes "bea") (codes "dan") 51 ∷ key_item (codes "ann") (codes "dan") 68 ∷ key_item (codes "ann") (codes "bea") 85
    ∷ session_item (codes "s1") 1 (codes "cat" ∷ codes "ann" ∷ codes "dan" ∷ codes "bea" ∷ []) ∷ []

-- alice and carl
abbrev pub alice_carl : List Item
alice_carl = head_s (codes "alice" ∷ codes "carl" ∷ [])
