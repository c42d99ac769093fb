-- Which words are a line of a form: what each field of it may hold, whatever is declared.
use Rattle.std.specs.Prelude.{◌≡◌, ℕ, ◌%◌, ◌==◌, nat_lt, nat_le, Bool, true, not, ◌&&◌, ◌||◌, List, [], ◌∷◌, length, slice_index, bytes_eq, IsTrue}
use Rattle.std.specs.List.{list_all}
use Rattle.std.specs.Option.{option_map_or}
use Rattle.sg_model.specs.Names.{Name, is_name, reserved}
use Rattle.sg_model.specs.Lists.{has_text, all_differ}
use Rattle.sg_model.specs.Limits.{most_roles, most_time, most_variables}
use Rattle.sg_protocol.specs.Schedule.{CraftJoin}
use Rattle.sg_sched.specs.Text.{content, words}
use Rattle.sg_sched.specs.Format.LineContents.{Assignment, Committed, TagSource, FromKey, FromItem, FromSeal, FromZero, ItemContent, CraftContent, Delivered, TheFrame, TheFlipped, TheCut, TheBytes, LineContent, BlockLine, EdgeLine, HonestLine, KeyLine, SessionLine, StartLine, ActLine, AbandonLine, DeliverLine, MakeLine, line_words}
use Rattle.sg_sched.specs.Format.Values.{is_value, is_hex_of, is_hex}

-- all are names
abbrev pub are_names : List Name → Bool
are_names names = list_all is_name names

-- a number below 2 ^ 64
abbrev pub is_wide : ℕ → Bool
is_wide n = nat_lt n 18446744073709551616

-- a number below 2 ^ 32
abbrev pub is_short : ℕ → Bool
is_short n = nat_lt n 4294967296

-- the number of a recorded frame: from 1 on, below 2 ^ 32
abbrev pub is_frame : ℕ → Bool
is_frame n = nat_lt 0 n && is_short n

-- VAR=VALUE: a name and a value
abbrev pub is_assignment : Assignment → Bool
is_assignment v = is_name v.variable && is_value v.value

-- VAR=VALUE#K: a name, a value, and a number below 2 ^ 64
abbrev pub is_committed : Committed → Bool
is_committed c = is_name c.variable && is_value c.value && is_wide c.step

-- at most 32 of them, as many as there are variables
abbrev pub are_committed : List Committed → Bool
are_committed cs = nat_le (length cs) most_variables && list_all is_committed cs

-- a source has names and numbers in their ranges. Items of a copied frame are counted from 1, and item 0 is a form
abbrev pub is_source : TagSource → Bool
is_source (FromKey one two) = is_name one && is_name two
is_source (FromItem frame item role) = is_frame frame && is_short item && is_name role
is_source (FromSeal frame) = is_frame frame
is_source FromZero = true

-- tag ROLE SOURCE
abbrev pub is_tag : Name × TagSource → Bool
is_tag t = is_name t.0 && is_source t.1

-- a time from 1 to 1,000,000, at most 32 commitments and at most 14 tags
abbrev pub is_item : ItemContent → Bool
is_item i = is_name i.label && nat_le 1 i.time && nat_le i.time most_time && are_committed i.delta && nat_le (length i.tags) 14 && list_all is_tag i.tags

-- a nonce below 2 ^ 64, and 2 to 16 names, equal ones allowed
abbrev pub is_join : CraftJoin → Bool
is_join j = option_map_or is_wide j.nonce true && option_map_or (λ ns. nat_le 2 (length ns) && nat_le (length ns) most_roles && are_names ns) j.names true

-- two different roles, at least one item and no more than a frame can count
abbrev pub is_craft : CraftContent → Bool
is_craft c =
    are_names (c.session ∷ c.from ∷ c.to ∷ []) && not (bytes_eq c.from c.to) && option_map_or is_join c.join true
    && list_all is_committed c.know && nat_le 1 (length c.items) && nat_le (length c.items) 65535 && list_all is_item c.items
    && are_committed c.openings && is_source c.seal

-- a recorded frame, an offset below 2 ^ 32, or at least one byte
abbrev pub is_delivered : Delivered → Bool
is_delivered (TheFrame n) = is_frame n
is_delivered (TheFlipped n i) = is_frame n && is_short i
is_delivered (TheCut n i) = is_frame n && is_short i
is_delivered (TheBytes digits) = is_hex digits

-- each field of a line holds what it may hold: names, numbers in their ranges, values, digits
abbrev pub is_form : LineContent → Bool
is_form BlockLine = true
is_form (EdgeLine label from to) = is_name label && not (has_text label reserved) && nat_le from 255 && nat_le to 255 && not (from % 2 == to % 2)
is_form (HonestLine who) = is_name who
is_form (KeyLine one two digits) = is_name one && is_name two && not (bytes_eq one two) && is_hex_of 32 digits
is_form (SessionLine name graph nonce names version) =
    is_name name && is_name graph && is_wide nonce && nat_le 1 (length names) && are_names names && all_differ names && (version == 1 || version == 2)
is_form (StartLine who session) = are_names (who ∷ session ∷ [])
is_form (ActLine who session label values) = are_names (who ∷ session ∷ label ∷ []) && list_all is_assignment values
is_form (AbandonLine who session) = are_names (who ∷ session ∷ [])
is_form (DeliverLine who what) = is_name who && is_delivered what
is_form (MakeLine c) = is_craft c

-- ---- lines

-- a comment: its first byte is #
abbrev pub is_comment : List ℕ → Bool
is_comment text = slice_index text 0 == 35

-- a blank line, or one whose first byte is #; in both all bytes are ASCII
abbrev pub is_skipped : List ℕ → Bool
is_skipped line = list_all (λ b. nat_lt b 128) (content line) && (is_comment (content line) || length (words (content line)) == 0)

-- the words of the line are those of what it says, and each field holds what it may hold
pub record SaysLine (line : List ℕ) (statement : LineContent) : Type 0 where
  pub spelled : words (content line) ≡ line_words statement
  pub form : IsTrue (is_form statement)
