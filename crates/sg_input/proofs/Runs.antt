-- The lines of bytes, run after run.
use Rattle.std.proofs.Common.{◌≡◌, ◌≢◌, ◌⊎◌, ℕ, ◌<◌, ◌≤◌, ◌==◌, Bool, true, false, List, [], ◌∷◌, ◌++◌, length, take, map, All, refl, sym, ap, ◌∙◌, inl, inr, arith, append_assoc}
use Rattle.std.proofs.lemmas.List.{append-nil, length-append, length-take-le, take_all}
use Rattle.std.proofs.lemmas.List.Elements.{All-head, All-tail, All-take}
use borrow.Author.Tests.{ne_eqb, lt-leb}
use Rattle.sg_input.specs.Lines.{NoFeed, line_of, lines_behind, lines_of, ended}

yes_or_no : (b : Bool) → (b ≡ true) ⊎ (b ≡ false)
yes_or_no true = inl refl
yes_or_no false = inr refl

-- a run without a line feed goes behind the prefix
behind-run : (prefix run rest : List ℕ) → NoFeed run → lines_behind prefix (run ++ rest) ≡ lines_behind (prefix ++ run) rest
behind-run prefix [] rest bare = ap (λ f. lines_behind f rest) (sym (append-nil prefix))
behind-run prefix (b ∷ run) rest bare =
    let other : (b == 10) ≡ false = ne_eqb b 10 (All-head (λ c. c ≢ 10) b run bare) in
    rw other (behind-run (prefix ++ b ∷ []) run rest (All-tail (λ c. c ≢ 10) b run bare) ∙ ap (λ f. lines_behind f rest) (append_assoc prefix (b ∷ []) run))

-- a run with a line feed behind it is the first line
pub lines_of-line : (line rest more : List ℕ) → NoFeed line → lines_of ((line ++ 10 ∷ rest) ++ more) ≡ line_of line ∷ lines_of (rest ++ more)
lines_of-line line rest more bare =
    ap (λ b. lines_behind [] b) (append_assoc line (10 ∷ rest) more) ∙ behind-run [] line (10 ∷ (rest ++ more)) bare

-- a run without a line feed is no line
pub lines_of-none : (run : List ℕ) → NoFeed run → lines_of run ≡ []
lines_of-none run bare = ap (λ b. lines_behind [] b) (sym (append-nil run)) ∙ behind-run [] run [] bare

-- which prefix is too long doesn't matter
behind-long : (a b bytes : List ℕ) → 262144 < length a → 262144 < length b → lines_behind a bytes ≡ lines_behind b bytes
behind-long a b [] la lb = refl
behind-long a b (x ∷ bytes) la lb =
    elim (yes_or_no (x == 10)) [
      | inl t ↦ rw (t, lt-leb (length a) 262144 la, lt-leb (length b) 262144 lb) refl
      | inr e ↦ rw e (behind-long (a ++ x ∷ []) (b ++ x ∷ []) bytes (omega (arith, length-append a (x ∷ []))) (omega (arith, length-append b (x ∷ []))))
    ]

-- a prefix, too long itself, of a run without a line feed that is too long gives the same lines
lines_of-long : (a b more : List ℕ) → NoFeed a → NoFeed b → 262144 < length a → 262144 < length b → lines_of (a ++ more) ≡ lines_of (b ++ more)
lines_of-long a b more na nb la lb = behind-run [] a more na ∙ (behind-long a b more la lb ∙ sym (behind-run [] b more nb))

pub lines_of-cut : (run more : List ℕ) (count : ℕ) → NoFeed run → count ≤ length run → (count ≡ length run) ⊎ (262144 < count) → lines_of (take count run ++ more) ≡ lines_of (run ++ more)
lines_of-cut run more count bare fits cases =
    elim cases [
      | inl all ↦ ap (λ r. lines_of (r ++ more)) (take_all count run (omega arith))
      | inr long ↦ let n = length-take-le count run fits in
          lines_of-long (take count run) run more (All-take (λ c. c ≢ 10) count run bare) bare (omega arith) (omega arith)
    ]

-- runs with a line feed behind each are lines
pub lines_of-runs : (runs : List (List ℕ)) (rest : List ℕ) → All NoFeed runs → NoFeed rest → lines_of (ended runs ++ rest) ≡ map line_of runs
lines_of-runs [] rest each bare = lines_of-none rest bare
lines_of-runs (run ∷ runs) rest each bare =
    let parts : ((run ++ 10 ∷ []) ++ ended runs) ++ rest ≡ (run ++ 10 ∷ ended runs) ++ rest = ap (λ b. b ++ rest) (append_assoc run (10 ∷ []) (ended runs)) in
    ap (λ b. lines_behind [] b) parts
    ∙ (lines_of-line run (ended runs) rest (All-head NoFeed run runs each)
    ∙ ap (λ ls. line_of run ∷ ls) (lines_of-runs runs rest (All-tail NoFeed run runs each) bare))
