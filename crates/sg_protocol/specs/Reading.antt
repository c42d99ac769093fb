-- How bytes are read: field after field, or up to the first field that is not there whole or is out of its range.
use Rattle.std.specs.Prelude.{ℕ, List, [], ◌∷◌, length, ◌==◌, Bool, true, ◌&&◌, nat_lt, if◌then◌else◌, Option, Some, None, bytes_eq, zero, suc, ◌+◌, nat_le, not, ◌++◌, take, drop, ◌-◌, Result, Ok, Err, replicate}
use Rattle.std.specs.Int.{Width, w8, w16, w32, w64, byte_len, from_be_bytes, cast_signed}
use Rattle.std.specs.Str.{is_utf8}
use Rattle.sg_model.specs.Last.{Map}
use Rattle.sg_model.specs.Names.{Name, is_name}
use Rattle.sg_model.specs.Values.{Value, IntValue, TextValue, Opening}
use Rattle.sg_model.specs.Limits.{most_roles, most_time, most_text_bytes, most_frame_bytes}
use Rattle.sg_protocol.specs.Frame.{Cast, Item, Frame, tag_len}
use Rattle.sg_protocol.specs.Spelling.{magic}

-- ---- readers

-- what was read, the offset after it, and the bytes that are left
pub record Read (A : Type 0) : Type 0 where
  pub value : A
  pub at : ℕ
  pub rest : List ℕ

-- reads at an offset, or answers the offset of the first wrong field
abbrev pub Reader : Type 0 → Type 0
Reader A = ℕ → List ℕ → Result (Read A) ℕ

-- a field of n bytes that pass the test
abbrev pub field : ℕ → (List ℕ → Bool) → Reader (List ℕ)
field n test at bs = if nat_le n (length bs) && test (take n bs) then Ok (record { value = take n bs; at = at + n; rest = drop n bs }) else Err at

-- nothing is read
abbrev pub give : {A : Type 0} → A → Reader A
give x at bs = Ok (record { value = x; at = at; rest = bs })

-- what comes after depends on what was read
abbrev pub on : {A B : Type 0} → Result (Read A) ℕ → (A → Reader B) → Result (Read B) ℕ
on (Err at) next = Err at
on (Ok r) next = next r.value r.at r.rest

-- one reading after another
abbrev pub after : {A B : Type 0} → Reader A → (A → Reader B) → Reader B
after first next at bs = on (first at bs) next

-- n readings
abbrev pub times : {A : Type 0} → ℕ → Reader A → Reader (List A)
times zero reader = give []
times (suc n) reader = after reader (λ x. after (times n reader) (λ xs. give (x ∷ xs)))

-- n readings, each of a greater key than the one before, from least on
abbrev pub rising_times : {A : Type 0} → (A → ℕ) → ℕ → ℕ → (ℕ → Reader A) → Reader (List A)
rising_times key zero least reader = give []
rising_times key (suc n) least reader = after (reader least) (λ x. after (rising_times key n (suc (key x)) reader) (λ xs. give (x ∷ xs)))

-- the number is at least low and at most high
abbrev pub is_within : ℕ → ℕ → ℕ → Bool
is_within low high n = nat_le low n && nat_le n high

-- a number of this width, at least low and at most high
abbrev pub number : Width → ℕ → ℕ → Reader ℕ
number w low high = after (field (byte_len w) (λ bs. is_within low high (from_be_bytes w bs))) (λ bs. give (from_be_bytes w bs))

-- n bytes, whichever
abbrev pub any_bytes : ℕ → Reader (List ℕ)
any_bytes n = field n (λ bs. true)

-- ---- a frame

-- a tag of the version, filled up with 0
abbrev pub read_tag : ℕ → Reader (List ℕ)
read_tag version = after (any_bytes (tag_len version)) (λ t. give (t ++ replicate (32 - tag_len version) 0))

-- a name after its length
abbrev pub read_name : Reader Name
read_name = after (number w8 1 32) (λ n. field n is_name)

-- a cast of the version
abbrev pub read_cast : ℕ → Reader (Option Cast)
read_cast version =
    after (any_bytes 32) λ graph.
    after (any_bytes 16) λ nonce.
    after (number w8 2 most_roles) λ count.
    after (times count read_name) λ names.
    give (Some (record { version = version; graph = graph; nonce = nonce; names = names }))

-- a key from least to high, and what belongs to it
abbrev pub read_pair : ℕ → Reader (List ℕ) → ℕ → Reader (ℕ × List ℕ)
read_pair high reader least = after (number w8 least high) λ k. after reader λ v. give (k, v)

-- at most `most` pairs, whose keys rise
abbrev pub read_map : ℕ → ℕ → Reader (List ℕ) → Reader (Map (List ℕ))
read_map most high reader = after (number w8 0 most) λ count. rising_times (λ (p : ℕ × List ℕ). p.0) count 0 (read_pair high reader)

-- an item
abbrev pub read_item : ℕ → Reader Item
read_item version =
    after (number w8 0 15) λ role.
    after (number w16 0 511) λ label.
    after (number w32 1 most_time) λ time.
    after (read_map 32 31 (any_bytes 32)) λ delta.
    after (read_map 14 15 (read_tag version)) λ tags.
    give (record { role = role; label = label; time = time; delta = delta; tags = tags })

-- a number, whose length is 8
abbrev pub read_int : Reader Value
read_int = after (number w32 8 8) λ n. after (any_bytes 8) λ bs. give (IntValue (cast_signed w64 (from_be_bytes w64 bs)))

-- a text after its length
abbrev pub read_text : Reader Value
read_text = after (number w32 0 most_text_bytes) λ n. after (field n is_utf8) λ bs. give (TextValue bs)

-- an opening of a variable from least on
abbrev pub read_opening : ℕ → Reader Opening
read_opening least =
    after (number w8 least 31) λ x.
    after (any_bytes 16) λ confounder.
    after (number w8 0 1) λ kind.
    after (if kind == 0 then read_int else read_text) λ value.
    give (record { variable = x; confounder = confounder; value = value })

-- what follows the first four bytes
abbrev pub read_frame_of : ℕ → Reader Frame
read_frame_of version =
    after (number w8 0 1) λ kind.
    after (any_bytes 32) λ sid.
    after (number w8 0 15) λ sender.
    after (field 1 (λ bs. is_within 0 15 (from_be_bytes w8 bs) && not (from_be_bytes w8 bs == sender))) λ receiver.
    after (if kind == 0 then read_cast version else give None) λ join.
    after (number w16 1 65535) λ count.
    after (times count (read_item version)) λ items.
    after (number w8 0 32) λ opened.
    after (rising_times (λ o. o.variable) opened 0 read_opening) λ openings.
    after (read_tag version) λ tag.
    give (record { version = version; sid = sid; sender = sender; receiver = from_be_bytes w8 receiver; join = join; items = items; openings = openings; tag = tag })

-- the first four bytes say the version
abbrev pub read_version : Reader ℕ
read_version = after (field 4 (λ bs. if bytes_eq bs (magic 1) then true else bytes_eq bs (magic 2))) λ bs. give (if bytes_eq bs (magic 2) then 2 else 1)

-- the value, if no bytes are left
abbrev pub if_none_left : {A : Type 0} → A → ℕ → List ℕ → Result A ℕ
if_none_left x at [] = Ok x
if_none_left x at (b ∷ bs) = Err at

-- nothing is left
abbrev pub whole : Result (Read Frame) ℕ → Result Frame ℕ
whole (Err at) = Err at
whole (Ok r) = if_none_left r.value r.at r.rest

-- the frame, or the offset of the first fault
abbrev pub read : List ℕ → Result Frame ℕ
read bs = if nat_lt most_frame_bytes (length bs) then Err most_frame_bytes else whole (after read_version read_frame_of 0 bs)
