-- Lines that are of no form, whatever is declared before them.
use Rattle.std.specs.Prelude.{◌≡◌, ℕ, false, List, [], ◌∷◌, ◌++◌, replicate, codes, refl, None}
use Rattle.sg_sched.specs.Text.{content, words}
use Rattle.sg_sched.specs.Format.Forms.{is_skipped}
use Rattle.sg_sched.specs.Format.Form.{form}
use Rattle.sg_sched.specs.Format.Kinds.{Form}
use Rattle.sg_sched.specs.Format.Items.{Item}
use Rattle.sg_sched.specs.Format.Spells.{IsWrong, OfNoForm}
use Rattle.sg_sched.proofs.FormatHeads.{on_forms, sixty_four}
use Rattle.sg_sched.proofs.LineLaws.{says_none}

-- the line is wrong after any items, whatever comes behind it
abbrev NoForm : List ℕ → Type 0
NoForm line = (before : List Item) → IsWrong before (line ∷ []) [] Form

-- it isn't skipped, and its words are read by no form
no_form : {line : List ℕ} → is_skipped line ≡ false → form (words (content line)) ≡ None → NoForm line
no_form {line} shown unread before = OfNoForm shown (says_none line unread)

digit_name : NoForm (codes "honest 9\n")
unfolding on_forms
digit_name = no_form refl refl

-- 33 bytes
long_name : NoForm (codes "honest " ++ replicate 33 97)
unfolding on_forms
long_name = no_form refl refl

two_names : NoForm (codes "honest a b\n")
unfolding on_forms
two_names = no_form refl refl

no_word : NoForm (codes "hones a\n")
unfolding on_forms
no_word = no_form refl refl

-- a tab is no space
tabbed : NoForm (codes "honest\ta\n")
unfolding on_forms
tabbed = no_form refl refl

-- the first byte is a space
late_comment : NoForm (codes " # c\n")
unfolding on_forms
late_comment = no_form refl refl

-- a byte above 0x7F
high_comment : NoForm (35 ∷ 200 ∷ 10 ∷ [])
unfolding on_forms
high_comment = no_form refl refl

-- the last line keeps its carriage return
kept_return : NoForm (codes "honest a\r")
unfolding on_forms
kept_return = no_form refl refl

-- nothing is closed
lone_end : NoForm (codes "}\n")
unfolding on_forms
lone_end = no_form refl refl

half_block : NoForm (codes "graph\n")
unfolding on_forms
half_block = no_form refl refl

named_block : NoForm (codes "graph g {\n")
unfolding on_forms
named_block = no_form refl refl

reserved_label : NoForm (codes "edge int 0 1\n")
unfolding on_forms
reserved_label = no_form refl refl

same_parity : NoForm (codes "edge L 0 2\n")
unfolding on_forms
same_parity = no_form refl refl

node_256 : NoForm (codes "edge L 0 256\n")
unfolding on_forms
node_256 = no_form refl refl

needless_zero : NoForm (codes "edge L 00 1\n")
unfolding on_forms
needless_zero = no_form refl refl

own_key : NoForm (codes "key a a " ++ sixty_four 49)
unfolding on_forms
own_key = no_form refl refl

-- 63 digits
short_key : NoForm (codes "key a b " ++ replicate 63 49)
unfolding on_forms
short_key = no_form refl refl

-- 64 letters g
no_digit : NoForm (codes "key a b " ++ sixty_four 103)
unfolding on_forms
no_digit = no_form refl refl

wide_nonce : NoForm (codes "session s1 pair 18446744073709551616 a,b\n")
unfolding on_forms
wide_nonce = no_form refl refl

equal_names : NoForm (codes "session s1 shop 1 a,b,a\n")
unfolding on_forms
equal_names = no_form refl refl

no_name : NoForm (codes "session s1 pair 1 a,,b\n")
unfolding on_forms
no_name = no_form refl refl

-- version 1 has no word
version_1 : NoForm (codes "session s1 pair 1 a,b v1\n")
unfolding on_forms
version_1 = no_form refl refl

no_session : NoForm (codes "start a\n")
unfolding on_forms
no_session = no_form refl refl

no_value : NoForm (codes "act a s1 L q\n")
unfolding on_forms
no_value = no_form refl refl

empty_value : NoForm (codes "act a s1 L q=\n")
unfolding on_forms
empty_value = no_form refl refl

open_text : NoForm (codes "act a s1 L q=\"tea\n")
unfolding on_forms
open_text = no_form refl refl

spaced_text : NoForm (codes "act a s1 L q=\"green tea\"\n")
unfolding on_forms
spaced_text = no_form refl refl

minus_zero : NoForm (codes "act a s1 L q=-0\n")
unfolding on_forms
minus_zero = no_form refl refl

frame_0 : NoForm (codes "deliver b f0\n")
unfolding on_forms
frame_0 = no_form refl refl

frame_01 : NoForm (codes "deliver b f01\n")
unfolding on_forms
frame_01 = no_form refl refl

frame_wide : NoForm (codes "deliver b f4294967296\n")
unfolding on_forms
frame_wide = no_form refl refl

flip_nothing : NoForm (codes "deliver b f1 flip\n")
unfolding on_forms
flip_nothing = no_form refl refl

flip_wide : NoForm (codes "deliver b f1 flip 4294967296\n")
unfolding on_forms
flip_wide = no_form refl refl

no_bytes : NoForm (codes "deliver b hex\n")
unfolding on_forms
no_bytes = no_form refl refl

half_byte : NoForm (codes "deliver b hex 5\n")
unfolding on_forms
half_byte = no_form refl refl

no_hex : NoForm (codes "deliver b hex 5g\n")
unfolding on_forms
no_hex = no_form refl refl

no_roles : NoForm (codes "craft s1 item Request 1 seal zero\n")
unfolding on_forms
no_roles = no_form refl refl

-- the sender and the receiver are one role, declared or not
one_role : NoForm (codes "craft s1 from p to p item Go 1 seal zero\n")
unfolding on_forms
one_role = no_form refl refl

no_item : NoForm (codes "craft s1 from a to b seal zero\n")
unfolding on_forms
no_item = no_form refl refl

no_seal : NoForm (codes "craft s1 from a to b item Request 1\n")
unfolding on_forms
no_seal = no_form refl refl

time_0 : NoForm (codes "craft s1 from a to b item Request 0 seal zero\n")
unfolding on_forms
time_0 = no_form refl refl

time_wide : NoForm (codes "craft s1 from a to b item Request 1000001 seal zero\n")
unfolding on_forms
time_wide = no_form refl refl

know_nothing : NoForm (codes "craft s1 from a to b know item Request 1 seal zero\n")
unfolding on_forms
know_nothing = no_form refl refl

open_nothing : NoForm (codes "craft s1 from a to b item Request 1 open seal zero\n")
unfolding on_forms
open_nothing = no_form refl refl

no_step : NoForm (codes "craft s1 from a to b item Request 1 x=1 seal zero\n")
unfolding on_forms
no_step = no_form refl refl

step_wide : NoForm (codes "craft s1 from a to b item Request 1 x=1#18446744073709551616 seal zero\n")
unfolding on_forms
step_wide = no_form refl refl

one_name : NoForm (codes "craft s1 from a to b join cast a item Request 1 seal zero\n")
unfolding on_forms
one_name = no_form refl refl

-- the nonce stands before the cast
cast_first : NoForm (codes "craft s1 from a to b join cast a,b nonce 2 item Request 1 seal zero\n")
unfolding on_forms
cast_first = no_form refl refl

tag_nothing : NoForm (codes "craft s1 from a to b item Request 1 tag a seal zero\n")
unfolding on_forms
tag_nothing = no_form refl refl

copy_0 : NoForm (codes "craft s1 from a to b item Request 1 seal copy f0 seal\n")
unfolding on_forms
copy_0 = no_form refl refl

-- what is known stands before the items
late_know : NoForm (codes "craft s1 from a to b item Request 1 know x=1#1 seal zero\n")
unfolding on_forms
late_know = no_form refl refl

more : NoForm (codes "craft s1 from a to b item Request 1 seal zero zero\n")
unfolding on_forms
more = no_form refl refl
