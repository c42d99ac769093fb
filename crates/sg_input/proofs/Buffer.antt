-- Parts of a buffer, and the first line feed in one.
use Rattle.std.proofs.Common.{◌≡◌, ◌≢◌, ◌⊎◌, ℕ, suc, ◌+◌, ◌-◌, ◌<◌, ◌≤◌, ◌==◌, false, List, ◌∷◌, ◌++◌, length, take, drop, slice_range, get_or, Some, None, sym, ap, ◌∙◌, arith, append_assoc}
use Rattle.std.specs.List.{position, position_or_len}
use Rattle.std.proofs.lemmas.Grind.{common_steps}
use Rattle.std.proofs.lemmas.List.{take-append-drop, length-take-le, length-drop, drop-drop, drop-take, get_or-take}
use Rattle.std.proofs.lemmas.List.Elements.{All-from_get_or, All-append, All-take}
use Rattle.std.proofs.lemmas.List.Quantifiers.{position-Some}
use Rattle.std.proofs.lemmas.List.Sums.{fails_before_first}
use Rattle.std.proofs.Math.Seq.{take-add, take-take, drop-cons}
use borrow.Author.Tests.{eqb-true, eqb-false}
use Rattle.sg_input.specs.Lines.{NoFeed, lines_of}
use Rattle.sg_input.proofs.Runs.{lines_of-cut}

-- no byte before the first line feed is one
before_feed : (bytes : List ℕ) (n : ℕ) → n ≤ length bytes → ((k : ℕ) → k < n → (get_or bytes k 0 == 10) ≡ false) → NoFeed (take n bytes)
before_feed bytes n fits none =
    All-from_get_or (λ c. c ≢ 10) (take n bytes) 0 (λ k lt.
    let low : k < n = omega (arith, length-take-le n bytes fits) in
    rw (get_or-take n bytes k 0 low) (eqb-false (get_or bytes k 0) 10 (none k low)))

-- where the first line feed is, the bytes before it and behind it
pub feed_there : (bytes : List ℕ) (at : ℕ) → position (λ b. b == 10) bytes ≡ Some at → (at < length bytes) × NoFeed (take at bytes) × (bytes ≡ take at bytes ++ 10 ∷ drop (at + 1) bytes)
feed_there bytes at is =
    let p = position-Some (λ b. b == 10) bytes at 0 is in
    let feed : get_or bytes at 0 ≡ 10 = eqb-true (get_or bytes at 0) 10 p.1 in
    let one : at + 1 ≡ suc at = omega arith in
    let behind : drop at bytes ≡ 10 ∷ drop (at + 1) bytes = drop-cons bytes at 0 p.0 ∙ (ap (λ b. b ∷ drop (suc at) bytes) feed ∙ ap (λ n. 10 ∷ drop n bytes) (sym one)) in
    (p.0, before_feed bytes at (omega (arith, p.0)) p.2, sym (take-append-drop at bytes) ∙ ap (λ d. take at bytes ++ d) behind)

-- if there is none
pub feed_none : (bytes : List ℕ) → position (λ b. b == 10) bytes ≡ None → NoFeed bytes
feed_none bytes is =
    let all : length bytes ≤ position_or_len (λ b. b == 10) bytes = grind (arith, common_steps) in
    All-from_get_or (λ c. c ≢ 10) bytes 0 (λ k lt. eqb-false (get_or bytes k 0) 10 (fails_before_first (λ b. b == 10) bytes k 0 (omega arith)))

-- two parts, one behind the other
pub parts : (buffer : List ℕ) (start seen end : ℕ) → start ≤ seen → seen ≤ end → slice_range buffer start end ≡ slice_range buffer start seen ++ slice_range buffer seen end
parts buffer start seen end low high =
    let n : end - start ≡ (seen - start) + (end - seen) = omega arith in
    let at : start + (seen - start) ≡ seen = omega arith in
    ap (λ k. take k (drop start buffer)) n
    ∙ (take-add (seen - start) (end - seen) (drop start buffer)
    ∙ ap (λ d. take (seen - start) (drop start buffer) ++ take (end - seen) d) (drop-drop (seen - start) start buffer ∙ ap (λ k. drop k buffer) at))

-- a prefix of a part, and the rest of one
prefix_of_part : (buffer : List ℕ) (start end n : ℕ) → n ≤ end - start → take n (slice_range buffer start end) ≡ slice_range buffer start (start + n)
prefix_of_part buffer start end n fits =
    let long : n ≡ (start + n) - start = omega arith in
    take-take n (end - start) (drop start buffer) fits ∙ ap (λ k. take k (drop start buffer)) long

rest_of_part : (buffer : List ℕ) (start end n : ℕ) → n ≤ end - start → drop n (slice_range buffer start end) ≡ slice_range buffer (start + n) end
rest_of_part buffer start end n fits =
    let long : end - start ≡ n + (end - (start + n)) = omega arith in
    ap (λ k. drop n (take k (drop start buffer))) long
    ∙ (drop-take n (end - (start + n)) (drop start buffer)
    ∙ ap (λ d. take (end - (start + n)) d) (drop-drop n start buffer))

-- a part of buffers with the same prefix
pub same_part : (a b : List ℕ) (start end : ℕ) → start ≤ end → take end a ≡ take end b → slice_range a start end ≡ slice_range b start end
same_part a b start end low same =
    let long : start + (end - start) ≡ end = omega arith in
    sym (drop-take start (end - start) a)
    ∙ (ap (λ k. drop start (take k a)) long
    ∙ (ap (λ d. drop start d) same
    ∙ (ap (λ k. drop start (take k b)) (sym long) ∙ drop-take start (end - start) b)))

pub length_part : (buffer : List ℕ) (start end : ℕ) → start ≤ end → end ≤ length buffer → length (slice_range buffer start end) ≡ end - start
length_part buffer start end low fits = length-take-le (end - start) (drop start buffer) (omega (arith, length-drop start buffer))

-- the first line feed of what was read, if there is none before an offset
pub record FeedAt (buffer : List ℕ) (start end at : ℕ) : Type 0 where
  pub within : at < end
  pub line : NoFeed (slice_range buffer start at)
  pub long : length (slice_range buffer start at) ≡ at - start
  pub whole : slice_range buffer start end ≡ slice_range buffer start at ++ 10 ∷ slice_range buffer (at + 1) end

pub feed_at : (buffer : List ℕ) (start seen end n : ℕ) → start ≤ seen → seen ≤ end → end ≤ length buffer → NoFeed (slice_range buffer start seen) → position (λ b. b == 10) (slice_range buffer seen end) ≡ Some n → FeedAt buffer start end (seen + n)
feed_at buffer start seen end n low high fits bare is =
    let f = feed_there (slice_range buffer seen end) n is in
    let long = length_part buffer seen end high fits in
    let within : seen + n < end = omega (arith, f.0, long) in
    let prefix : slice_range buffer start (seen + n) ≡ slice_range buffer start seen ++ take n (slice_range buffer seen end) =
    parts buffer start seen (seen + n) low (omega arith) ∙ ap (λ p. slice_range buffer start seen ++ p) (sym (prefix_of_part buffer seen end n (omega (arith, within)))) in
    let one : seen + (n + 1) ≡ (seen + n) + 1 = omega arith in
    let back : drop (n + 1) (slice_range buffer seen end) ≡ slice_range buffer ((seen + n) + 1) end =
    rest_of_part buffer seen end (n + 1) (omega (arith, within)) ∙ ap (λ k. slice_range buffer k end) one in
    record {
      within = within;
      line = rw prefix (All-append (λ c. c ≢ 10) (slice_range buffer start seen) (take n (slice_range buffer seen end)) bare f.1);
      long = length_part buffer start (seen + n) (omega (arith, low)) (omega (arith, within, fits));
      whole =
          parts buffer start seen end low high
          ∙ (ap (λ p. slice_range buffer start seen ++ p) f.2
          ∙ (sym (append_assoc (slice_range buffer start seen) (take n (slice_range buffer seen end)) (10 ∷ drop (n + 1) (slice_range buffer seen end)))
          ∙ (ap (λ p. p ++ 10 ∷ drop (n + 1) (slice_range buffer seen end)) (sym prefix)
          ∙ ap (λ d. slice_range buffer start (seen + n) ++ 10 ∷ d) back)));
    }

-- if there is none at all
pub feed_nowhere : (buffer : List ℕ) (start seen end : ℕ) → start ≤ seen → seen ≤ end → NoFeed (slice_range buffer start seen) → position (λ b. b == 10) (slice_range buffer seen end) ≡ None → NoFeed (slice_range buffer start end)
feed_nowhere buffer start seen end low high bare is =
    rw (parts buffer start seen end low high) (All-append (λ c. c ≢ 10) (slice_range buffer start seen) (slice_range buffer seen end) bare (feed_none (slice_range buffer seen end) is))

-- a part of which a prefix was kept, maybe at another offset
pub kept_part : (old : List ℕ) (start end count : ℕ) (kept : List ℕ) → start ≤ end → end ≤ length old → NoFeed (slice_range old start end) → count ≤ end - start → (count ≡ end - start) ⊎ (262144 < count) → kept ≡ slice_range old start (start + count) → NoFeed kept × ((more : List ℕ) → lines_of (kept ++ more) ≡ lines_of (slice_range old start end ++ more))
kept_part old start end count kept low fits bare within enough is =
    let prefix : kept ≡ take count (slice_range old start end) = is ∙ sym (prefix_of_part old start end count within) in
    let long = length_part old start end low fits in
    let cases : (count ≡ length (slice_range old start end)) ⊎ (262144 < count) = rw long enough in (
      rw prefix (All-take (λ c. c ≢ 10) count (slice_range old start end) bare),
      λ more. ap (λ k. lines_of (k ++ more)) prefix ∙ lines_of-cut (slice_range old start end) more count bare (rw long within) cases,
    )
