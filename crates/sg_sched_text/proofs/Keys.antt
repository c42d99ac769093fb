-- The bytes of the digits of a key.
use Rattle.std.proofs.Common.{◌≡◌, ℕ, Bool, true, false, List, [], length, ◌%◌, ◌/◌, ◌==◌, if◌then◌else◌}
use Rattle.std.specs.Prelude.{Some, unwrap_or, Result, Ok, Err}
use Rattle.std.specs.Result.{result_ok}
use Rattle.hex.specs.Hex.{decode_sized, decode_pairs}
use Rattle.hex.specs.declared.error.FromHexError.{FromHexError}
use Rattle.hex.specs.declared.error.FromHexError.TheVariants.{OddLength, InvalidStringLength}
use Rattle.sg_sched.specs.Format.Values.{bytes_of}

pub key_bytes : (digits bytes : List ℕ) → result_ok (decode_sized digits 32) ≡ Some bytes → bytes ≡ bytes_of digits
key_bytes digits bytes h = by (length digits % 2 == 1) (length digits / 2 == 32) (decode_pairs 0 digits) h
  where
    by : (odd same : Bool) (r : Result (List ℕ) FromHexError) → result_ok (if odd then Err OddLength else if same then r else Err InvalidStringLength) ≡ Some bytes
        → bytes ≡ unwrap_or (result_ok (if odd then Err OddLength else r)) []
    by true same r h = absurd (cc)
    by false false r h = absurd (cc)
    by false true (Ok x) h = cc
    by false true (Err e) h = absurd (cc)
