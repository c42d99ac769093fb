-- Where a list of bytes begins with a message.
use Rattle.std.proofs.Common.{◌≡◌, ℕ, ◌+◌, ◌<◌, ◌≤◌, ◌^◌, List, [], ◌++◌, length, take, drop, refl, sym, ap, ◌∙◌, inl, inr, arith}
use Rattle.std.specs.Int.{w32, to_be_bytes, from_be_bytes}
use Rattle.std.proofs.lemmas.Nat.{from_be_bytes-to_be_bytes_4}
use Rattle.std.proofs.lemmas.List.{take-append-drop, length-take-le, length-drop, length-append, take-append-le, take_at, drop_at, drop-drop}
use Rattle.sg_stream.specs.Framed.{IsFrame, message, BeginsMessage, BeginsBad}

-- the four bytes before a frame spell its length
pub spelled-message : (frame rest : List ℕ) → IsFrame frame → from_be_bytes w32 (take 4 (message frame ++ rest)) ≡ length frame
spelled-message frame rest is =
    let small : length frame < 2 ^ 32 = omega (arith, is.fits) in
    from_be_bytes-to_be_bytes_4 (length frame) small

-- four bytes that spell a length, and as many bytes as that
pub message_there : (bytes : List ℕ) (len : ℕ) → 4 + len ≤ length bytes → to_be_bytes w32 len ≡ take 4 bytes → bytes ≡ message (take len (drop 4 bytes)) ++ drop (4 + len) bytes
message_there bytes len fits spelled =
    let long : length (take len (drop 4 bytes)) ≡ len = length-take-le len (drop 4 bytes) (omega (arith, length-drop 4 bytes)) in
    let behind : take len (drop 4 bytes) ++ drop (4 + len) bytes ≡ drop 4 bytes = rw (← drop-drop len 4 bytes) (take-append-drop len (drop 4 bytes)) in
    let parts : take 4 bytes ++ drop 4 bytes ≡ bytes = take-append-drop 4 bytes in
    sym parts ∙ (ap (λ p. p ++ drop 4 bytes) (sym spelled)
    ∙ (ap (λ d. to_be_bytes w32 len ++ d) (sym behind)
    ∙ ap (λ n. to_be_bytes w32 n ++ (take len (drop 4 bytes) ++ drop (4 + len) bytes)) (sym long)))

-- such a list of bytes begins with a message
pub begins_there : (bytes : List ℕ) (len : ℕ) → 0 < len → len ≤ 60000 → 4 + len ≤ length bytes → to_be_bytes w32 len ≡ take 4 bytes → BeginsMessage bytes
begins_there bytes len some small fits spelled =
    let long : length (take len (drop 4 bytes)) ≡ len = length-take-le len (drop 4 bytes) (omega (arith, length-drop 4 bytes)) in
    let is : IsFrame (take len (drop 4 bytes)) = record { some = omega arith; fits = omega arith } in
    (take len (drop 4 bytes), drop (4 + len) bytes, is, message_there bytes len fits spelled)

-- two messages with which the same bytes begin have the same frame and the same rest
pub one_message : (frame rest other more : List ℕ) → IsFrame frame → IsFrame other → message frame ++ rest ≡ message other ++ more → (frame ≡ other) × (rest ≡ more)
one_message frame rest other more is is' same =
    let lengths : length frame ≡ length other =
    sym (spelled-message frame rest is) ∙ (ap (λ b. from_be_bytes w32 (take 4 b)) same ∙ spelled-message other more is') in
    let behind : frame ++ rest ≡ other ++ more = ap (λ b. drop 4 b) same in
    let prefix : frame ≡ other =
    sym (take_at frame rest (length frame) refl) ∙ (ap (λ b. take (length frame) b) behind ∙ take_at other more (length frame) (sym lengths)) in
    let back : rest ≡ more =
    sym (drop_at frame rest (length frame) refl) ∙ (ap (λ b. drop (length frame) b) behind ∙ drop_at other more (length frame) (sym lengths)) in
    (prefix, back)

-- bytes that begin with a message don't begin with a bad length
pub not_bad : (bytes : List ℕ) (len : ℕ) → BeginsMessage bytes → ¬ BeginsBad bytes len
not_bad bytes len (frame, rest, is, same) = λ bad.
    let spelled : length frame ≡ len = sym (spelled-message frame rest is) ∙ (ap (λ b. from_be_bytes w32 (take 4 b)) (sym same) ∙ bad.spelled) in
    elim bad.bad [
      | inl none ↦ absurd (omega (arith, is.some, spelled, none))
      | inr long ↦ absurd (omega (arith, is.fits, spelled, long))
    ]

-- no byte is no message
pub no_message : ¬ BeginsMessage []
no_message = λ (frame, rest, is, same). absurd (omega (arith, ap length same))

-- no byte begins with no bad length
pub no_bad : (len : ℕ) → ¬ BeginsBad [] len
no_bad len = λ bad. absurd (omega (arith, bad.whole))

-- a bad length stays whatever comes behind it
pub bad_stays : (bytes more : List ℕ) (len : ℕ) → BeginsBad bytes len → BeginsBad (bytes ++ more) len
bad_stays bytes more len bad = record {
  whole = omega (arith, bad.whole, length-append bytes more);
  spelled = rw (take-append-le 4 bytes more bad.whole) bad.spelled;
  bad = bad.bad;
}
