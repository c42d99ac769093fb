-- Right lines of each form, and what each adds.
use Rattle.std.specs.Prelude.{◌≡◌, false, List, [], ◌∷◌, ◌++◌, map, replicate, length, codes, refl, Option, Some, None, pos, negsuc}
use Rattle.sg_model.specs.Values.{Value, IntValue, TextValue}
use Rattle.sg_protocol.specs.Schedule.{StartStep, ActStep, AbandonStep, DeliverStep, Whole, Flipped, Cut, Bytes}
use Rattle.sg_sched.specs.Text.{lines}
use Rattle.sg_sched.specs.Pair.{edge}
use Rattle.sg_sched.specs.Format.LineContents.{Word, BlockLine, EdgeLine, HonestLine, KeyLine, SessionLine, StartLine, ActLine, AbandonLine, DeliverLine, TheFrame, TheFlipped, TheCut, TheBytes}
use Rattle.sg_sched.specs.Format.Values.{spelled_value}
use Rattle.sg_sched.specs.Format.Forms.{is_skipped, SaysLine}
use Rattle.sg_sched.specs.Format.Items.{Item, EdgeItem, HonestItem, SessionItem, StepItem}
use Rattle.sg_sched.specs.Format.Spells.{Add, Skip}
use Rattle.sg_sched.proofs.FormatHeads.{on_literals, said, sixty_four, key_item, session_item, given, pair_items, head_p, alice_carl}

-- ---- values

-- words, and the values that they spell
abbrev values : List (Word × Option Value)
values =
    (codes "40", Some (IntValue (pos 40)))
    ∷ (codes "-9223372036854775808", Some (IntValue (negsuc 9223372036854775807)))
    ∷ (codes "9223372036854775807", Some (IntValue (pos 9223372036854775807)))
    ∷ (codes "\"green\\x20tea\"", Some (TextValue (codes "green tea")))
    ∷ (codes "\"\\xc3\\xA9\"", Some (TextValue (195 ∷ 169 ∷ [])))
    ∷ (codes "\"\"", Some (TextValue []))
    ∷ (34 ∷ replicate 1024 97 ++ 34 ∷ [], Some (TextValue (replicate 1024 97)))
    ∷ []

-- words that spell none
abbrev no_values : List Word
no_values =
    codes "-9223372036854775809" ∷ codes "9223372036854775808" ∷ codes "-0" ∷ codes "01"
    ∷ codes "\"\\xff\"" ∷ codes "\"a\"b\"" ∷ codes "\"a" ∷ codes "\"\\x4\"" ∷ (34 ∷ replicate 1025 97 ++ 34 ∷ []) ∷ []

spell_values : map (λ (v : Word × Option Value). spelled_value v.0) values ≡ map (λ (v : Word × Option Value). v.1) values
unfolding on_literals
spell_values = refl

spell_none : map spelled_value no_values ≡ replicate (length no_values) None
unfolding on_literals
spell_none = refl

-- ---- lines

three_lines : lines (codes "a\r\n\nb") ≡ codes "a\r\n" ∷ codes "\n" ∷ codes "b" ∷ []
three_lines = refl

comment : Add [] (codes "# any\n" ∷ []) []
comment = Skip refl

blank : Add [] (codes "  \r\n" ∷ []) []
blank = Skip refl

-- a byte above 0x7F is no ASCII, in a comment too
no_ascii : is_skipped (35 ∷ 195 ∷ 169 ∷ 10 ∷ []) ≡ false
no_ascii = refl

-- the first byte is a space
late_comment : is_skipped (codes " # c\n") ≡ false
late_comment = refl

-- ---- declarations

edge_line : Add [] (codes "edge Request 0 1\r\n" ∷ []) (EdgeItem (edge (codes "Request") 0 1) ∷ [])
unfolding on_literals
edge_line = said (EdgeLine (codes "Request") 0 1) refl refl refl refl

block_line : SaysLine (codes "graph {\n") BlockLine
block_line = record { spelled = refl; form = refl }

honest_line : Add pair_items (codes "  honest   a\n" ∷ []) (HonestItem (codes "a") ∷ [])
honest_line = said (HonestLine (codes "a")) refl refl refl refl

key_line : Add pair_items ((codes "key a b " ++ sixty_four 49) ∷ []) (key_item (codes "a") (codes "b") 17 ∷ [])
unfolding on_literals
key_line = said (KeyLine (codes "a") (codes "b") (sixty_four 49)) refl refl refl refl

upper_key : Add pair_items ((codes "key a b " ++ sixty_four 65) ∷ []) (key_item (codes "a") (codes "b") 170 ∷ [])
unfolding on_literals
upper_key = said (KeyLine (codes "a") (codes "b") (sixty_four 65)) refl refl refl refl

session_line : Add pair_items (codes "session s1 pair 1 a,b\n" ∷ []) (session_item (codes "s1") 1 (codes "a" ∷ codes "b" ∷ []) ∷ [])
unfolding on_literals
session_line = said (SessionLine (codes "s1") (codes "pair") 1 (codes "a" ∷ codes "b" ∷ []) 1) refl refl refl refl

session_v2 : Add (head_p []) (codes "session s2 pair 1 a,b v2\n" ∷ []) (SessionItem (record { name = codes "s2"; graph = 0; nonce = 1; names = codes "a" ∷ codes "b" ∷ []; version = 2 }) ∷ [])
unfolding on_literals
session_v2 = said (SessionLine (codes "s2") (codes "pair") 1 (codes "a" ∷ codes "b" ∷ []) 2) refl refl refl refl

last_nonce : Add (head_p []) (codes "session s2 pair 18446744073709551615 a,b" ∷ []) (session_item (codes "s2") 18446744073709551615 (codes "a" ∷ codes "b" ∷ []) ∷ [])
unfolding on_literals
last_nonce = said (SessionLine (codes "s2") (codes "pair") 18446744073709551615 (codes "a" ∷ codes "b" ∷ []) 1) refl refl refl refl

-- ---- steps

both : List Item
both = head_p (codes "a" ∷ codes "b" ∷ [])

start_line : Add (head_p (codes "a" ∷ [])) (codes "start a s1\n" ∷ []) (StepItem (StartStep (codes "a") 0) ∷ [])
start_line = said (StartLine (codes "a") (codes "s1")) refl refl refl refl

act_line : Add alice_carl (codes "act alice s1 Order q=\"tea\"\n" ∷ []) (StepItem (ActStep (codes "alice") 0 0 ((0, TextValue (codes "tea")) ∷ [])) ∷ [])
unfolding on_literals
act_line = said (ActLine (codes "alice") (codes "s1") (codes "Order") (given (codes "q") (codes "\"tea\"") ∷ [])) refl refl refl refl

-- values in any order are handed on in rising number, of whichever type
act_two : Add alice_carl (codes "act carl s1 Offer price=40 q=-5\n" ∷ []) (StepItem (ActStep (codes "carl") 0 2 ((0, IntValue (negsuc 4)) ∷ (1, IntValue (pos 40)) ∷ [])) ∷ [])
unfolding on_literals
act_two = said (ActLine (codes "carl") (codes "s1") (codes "Offer") (given (codes "price") (codes "40") ∷ given (codes "q") (codes "-5") ∷ [])) refl refl refl refl

abandon_line : Add (head_p (codes "a" ∷ [])) (codes "abandon a s1\n" ∷ []) (StepItem (AbandonStep (codes "a") 0) ∷ [])
abandon_line = said (AbandonLine (codes "a") (codes "s1")) refl refl refl refl

deliver_line : Add (head_p (codes "b" ∷ [])) (codes "deliver b f1\n" ∷ []) (StepItem (DeliverStep (codes "b") (Whole 1)) ∷ [])
unfolding on_literals
deliver_line = said (DeliverLine (codes "b") (TheFrame 1)) refl refl refl refl

flip_line : Add (head_p (codes "b" ∷ [])) (codes "deliver b f1 flip 0\n" ∷ []) (StepItem (DeliverStep (codes "b") (Flipped 1 0)) ∷ [])
unfolding on_literals
flip_line = said (DeliverLine (codes "b") (TheFlipped 1 0)) refl refl refl refl

cut_line : Add (head_p (codes "b" ∷ [])) (codes "deliver b f4294967295 cut 4294967295\n" ∷ []) (StepItem (DeliverStep (codes "b") (Cut 4294967295 4294967295)) ∷ [])
unfolding on_literals
cut_line = said (DeliverLine (codes "b") (TheCut 4294967295 4294967295)) refl refl refl refl

hex_line : Add (head_p (codes "b" ∷ [])) (codes "deliver b hex 5aFf\n" ∷ []) (StepItem (DeliverStep (codes "b") (Bytes (90 ∷ 255 ∷ []))) ∷ [])
unfolding on_literals
hex_line = said (DeliverLine (codes "b") (TheBytes (codes "5aFf"))) refl refl refl refl
