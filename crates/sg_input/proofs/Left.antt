-- The lines that are left, call by call.
use Rattle.std.proofs.Common.{◌≡◌, ℕ, ◌<◌, ◌≤◌, List, [], ◌∷◌, ◌++◌, ◌+◌, ◌-◌, length, drop, slice_range, Option, Some, None, refl, sym, ap, ◌∙◌, append_assoc, arith}
use Rattle.std.specs.Option.{option_map}
use Rattle.std.proofs.lemmas.List.{append-nil}
use borrow.Author.Tests.{le-leb, lt-leb}
use Rattle.sg_base.specs.Outside.{TakesFirst}
use Rattle.sg_input.specs.Input.{BeginsWith}
use Rattle.sg_input.specs.Lines.{Line, Whole, TooLong, NoFeed, line_of, lines_of, lines_left}
use Rattle.sg_input.proofs.Buffer.{FeedAt}
use Rattle.sg_input.proofs.Runs.{lines_of-line, lines_of-none}

-- bytes that were kept represent those that were there, and more were read behind them
pub left_filled : (old kept prefix : List ℕ) (count : ℕ) (was now : Option (List ℕ)) → ((more : List ℕ) → lines_of (kept ++ more) ≡ lines_of (old ++ more)) → BeginsWith was prefix → now ≡ option_map (drop count) was → length prefix ≡ count → lines_left (kept ++ prefix) now ≡ lines_left old was
left_filled old kept prefix count None now same first taken long = ap (λ o. lines_left (kept ++ prefix) o) taken
left_filled old kept prefix count (Some all) now same first taken long =
    let behind : all ≡ prefix ++ drop count all = first all refl ∙ ap (λ n. prefix ++ drop n all) long in
    let whole : lines_of ((kept ++ prefix) ++ drop count all) ≡ lines_of (old ++ all) =
    ap (λ b. lines_of b) (append_assoc kept prefix (drop count all)) ∙ (ap (λ b. lines_of (kept ++ b)) (sym behind) ∙ same all) in
    ap (λ o. lines_left (kept ++ prefix) o) taken ∙ ap Some whole

-- none were read
pub left_kept : (old kept : List ℕ) (was now : Option (List ℕ)) → ((more : List ℕ) → lines_of (kept ++ more) ≡ lines_of (old ++ more)) → now ≡ was → lines_left kept now ≡ lines_left old was
left_kept old kept None now same is = ap (λ o. lines_left kept o) is
left_kept old kept (Some all) now same is = ap (λ o. lines_left kept o) is ∙ ap Some (same all)

-- at the end of all there is no line
pub left_none : (old : List ℕ) (was : Option (List ℕ)) → NoFeed old → ((bytes : List ℕ) → was ≡ Some bytes → bytes ≡ []) → (all : List Line) → lines_left old was ≡ Some all → all ≡ []
left_none old None bare end all is = absurd (cc)
left_none old (Some bytes) bare end all is =
    let none : bytes ≡ [] = end bytes refl in
    let lines : lines_of (old ++ bytes) ≡ [] = ap (λ b. lines_of (old ++ b)) none ∙ (ap (λ b. lines_of b) (append-nil old) ∙ lines_of-none old bare) in
    let same : Some all ≡ Some [] = sym is ∙ ap Some lines in
    cc

-- a line was taken
pub left_taken : (old new : List ℕ) (line : Line) (was : Option (List ℕ)) (before : Option (List Line)) → lines_left old was ≡ before → ((more : List ℕ) → lines_of (old ++ more) ≡ line ∷ lines_of (new ++ more)) → TakesFirst before (lines_left new was) line
left_taken old new line None before is taken all is_known =
    let none : None ≡ Some all = is ∙ is_known in absurd (cc)
left_taken old new line (Some bytes) before is taken all is_known =
    let same : Some (lines_of (old ++ bytes)) ≡ Some all = is ∙ is_known in
    let whole : lines_of (old ++ bytes) ≡ all = cc in
    let a : all ≡ line ∷ lines_of (new ++ bytes) = sym whole ∙ taken bytes in
    let rest : drop 1 all ≡ lines_of (new ++ bytes) = ap (λ ls. drop 1 ls) a in
    (a ∙ ap (λ ls. line ∷ ls) (sym rest), ap Some (sym rest))

-- a line with its line feed stood first
pub first_whole : (old line rest : List ℕ) → NoFeed line → old ≡ line ++ 10 ∷ rest → length line ≤ 262144 → (more : List ℕ) → lines_of (old ++ more) ≡ Whole line ∷ lines_of (rest ++ more)
first_whole old line rest bare is fits more =
    let one : line_of line ≡ Whole line = rw (le-leb (length line) 262144 fits) refl in
    ap (λ b. lines_of (b ++ more)) is ∙ (lines_of-line line rest more bare ∙ ap (λ l. l ∷ lines_of (rest ++ more)) one)

pub first_over : (old line rest : List ℕ) → NoFeed line → old ≡ line ++ 10 ∷ rest → 262144 < length line → (more : List ℕ) → lines_of (old ++ more) ≡ TooLong ∷ lines_of (rest ++ more)
first_over old line rest bare is long more =
    let one : line_of line ≡ TooLong = rw (lt-leb (length line) 262144 long) refl in
    ap (λ b. lines_of (b ++ more)) is ∙ (lines_of-line line rest more bare ∙ ap (λ l. l ∷ lines_of (rest ++ more)) one)

-- the first line of what was read, which is as long as a line may be, or longer
pub whole_at : (buffer unread : List ℕ) (start end at : ℕ) → FeedAt buffer start end at → slice_range buffer start end ≡ unread → at - start ≤ 262144 → (more : List ℕ) → lines_of (unread ++ more) ≡ Whole (slice_range buffer start at) ∷ lines_of (slice_range buffer (at + 1) end ++ more)
whole_at buffer unread start end at f is fits =
    first_whole unread (slice_range buffer start at) (slice_range buffer (at + 1) end) f.line (sym is ∙ f.whole) (omega (arith, f.long, fits))

pub over_at : (buffer unread : List ℕ) (start end at : ℕ) → FeedAt buffer start end at → slice_range buffer start end ≡ unread → 262144 < at - start → (more : List ℕ) → lines_of (unread ++ more) ≡ TooLong ∷ lines_of (slice_range buffer (at + 1) end ++ more)
over_at buffer unread start end at f is long =
    first_over unread (slice_range buffer start at) (slice_range buffer (at + 1) end) f.line (sym is ∙ f.whole) (omega (arith, f.long, long))
