-- Frames that are spelled and read.
use Rattle.std.specs.Prelude.{◌≡◌, ℕ, ◌==◌, if◌then◌else◌, List, [], ◌∷◌, ◌++◌, map, set, take, length, replicate, codes, refl, Option, Some, None, Result, Ok, Err, pos, negsuc}
use Rattle.std.specs.Str.{is_utf8, chars}
use Rattle.std.specs.Char.{encode_utf8}
use Rattle.std.specs.Result.{result_err}
use Rattle.sg_model.specs.Values.{IntValue, TextValue}
use Rattle.sg_protocol.specs.Frame.{Frame, Cast}
use Rattle.sg_protocol.specs.Spelling.{spelling}
use Rattle.sg_protocol.specs.Reading.{read}

-- a frame that joins
abbrev sample : Frame
sample = record {
  version = 1;
  sid = replicate 32 9;
  sender = 0;
  receiver = 1;
  join = Some (record { version = 1; graph = replicate 32 1; nonce = replicate 16 2; names = codes "a" ∷ codes "b" ∷ [] });
  items = record { role = 0; label = 0; time = 1; delta = []; tags = [] } ∷ [];
  openings = [];
  tag = replicate 32 3;
}

spelled : length (spelling sample) ≡ 136
spelled = refl

no_bytes : read [] ≡ Err 0
no_bytes = refl

magic_alone : read (codes "SGF1") ≡ Err 4
magic_alone = refl

again : read (spelling sample) ≡ Ok sample
again = refl

one_short : read (take 135 (spelling sample)) ≡ Err 104
one_short = refl

one_more : read (spelling sample ++ 0 ∷ []) ≡ Err 136
one_more = refl

-- ---- a frame with all fields, in both versions

abbrev rich_join : ℕ → Option Cast
rich_join version = Some (record { version = version; graph = replicate 32 1; nonce = replicate 16 2; names = codes "alice" ∷ codes "b_2" ∷ codes "Carl" ∷ [] })

abbrev long_tag : ℕ → ℕ → List ℕ
long_tag version b = if version == 2 then (replicate 16 b ++ replicate 16 0) else replicate 32 b

abbrev rich : ℕ → Option Cast → Frame
rich version join = record {
  version = version;
  sid = replicate 32 9;
  sender = 0;
  receiver = 2;
  join = join;
  items = record { role = 1; label = 300; time = 65536; delta = (0, replicate 32 7) ∷ (31, replicate 32 8) ∷ []; tags = (2, long_tag version 4) ∷ (15, long_tag version 5) ∷ [] }
      ∷ record { role = 0; label = 511; time = 1000000; delta = (3, replicate 32 6) ∷ []; tags = [] } ∷ [];
  openings = record { variable = 0; confounder = replicate 16 3; value = IntValue (negsuc 9) } ∷ record { variable = 3; confounder = replicate 16 4; value = TextValue ((0x67 ∷ 0x72 ∷ 0xc3 ∷ 0xbc ∷ 0x6e ∷ [])) }
      ∷ record { variable = 4; confounder = replicate 16 4; value = TextValue [] } ∷ record { variable = 31; confounder = replicate 16 4; value = IntValue (pos 5000000000) } ∷ [];
  tag = long_tag version 3;
}

rich_2 : read (spelling (rich 2 (rich_join 2))) ≡ Ok (rich 2 (rich_join 2))
unfolding is_utf8 chars encode_utf8
rich_2 = refl

next_1 : read (spelling (rich 1 None)) ≡ Ok (rich 1 None)
unfolding is_utf8 chars encode_utf8
next_1 = refl

-- ---- the first fault: the byte at an offset is changed

abbrev changed : ℕ → ℕ → Result Frame ℕ
changed at b = read (set (spelling sample) at b)

faults : map (λ (p : ℕ × ℕ). result_err (changed p.0 p.1)) ((0, 0) ∷ (4, 2) ∷ (37, 16) ∷ (38, 0) ∷ (87, 1) ∷ (88, 0) ∷ (88, 48) ∷ (89, 48) ∷ (91, 0) ∷ (93, 0) ∷ (94, 16) ∷ (95, 2) ∷ (97, 255) ∷ (100, 0) ∷ (101, 33) ∷ (102, 15) ∷ (103, 33) ∷ [])
    ≡ Some 0 ∷ Some 4 ∷ Some 37 ∷ Some 38 ∷ Some 87 ∷ Some 88 ∷ Some 88 ∷ Some 89 ∷ Some 91 ∷ Some 92 ∷ Some 94 ∷ Some 95 ∷ Some 97 ∷ Some 97 ∷ Some 101 ∷ Some 102 ∷ Some 103 ∷ []
faults = refl
