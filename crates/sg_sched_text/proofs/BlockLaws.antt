-- Lines up to the end of a block, one after the other.
use Rattle.std.proofs.Common.{◌≡◌, ℕ, ◌+◌, ◌≤◌, Bool, true, false, not, ◌&&◌, List, [], ◌∷◌, ◌++◌, length, take, refl, sym, ap, ◌∙◌, subst, arith, append_assoc, append-nil}
use Rattle.std.specs.List.{list_all, concat}
use Rattle.std.proofs.lemmas.List.{length-append}
use Rattle.sg_sched.specs.Text.{lines}
use Rattle.sg_sched.proofs.TextLaws.{joined, take_prefix}
use Rattle.sg_sched.specs.Format.Spells.{Line, closes}
use Rattle.sg_sched_text.specs.Block.{IsOpen, IsClosed}

-- ---- joined lines

concat_append : (xs ys : List Line) → concat (xs ++ ys) ≡ concat xs ++ concat ys
concat_append [] ys = refl
concat_append (x ∷ xs) ys = ap (λ zs. x ++ zs) (concat_append xs ys) ∙ sym (append_assoc x (concat xs) (concat ys))

open_more : (c d e : Bool) → (c && d) ≡ true → (d ≡ true → e ≡ true) → (c && e) ≡ true
open_more true d e h next = next h
open_more false d e h next = h

all_append : (xs : List Line) (y : Line) → IsOpen xs → not (closes y) ≡ true → IsOpen (xs ++ y ∷ [])
all_append [] y a b = ap (λ c. c && true) b
all_append (x ∷ xs) y a b = open_more (not (closes x)) (list_all (λ l. not (closes l)) xs) (list_all (λ l. not (closes l)) (xs ++ y ∷ [])) a (λ h. all_append xs y h b)

-- ---- a search

-- the lines up to here don't close the block
pub record Searched (bytes rest : List ℕ) (at count : ℕ) : Type 0 where
  pub inner : List Line
  pub all : lines bytes ≡ inner ++ lines rest
  pub open_yet : IsOpen inner
  pub at_is : at ≡ length (concat inner)
  pub count_is : count ≡ length inner

pub begun : (bytes : List ℕ) → Searched bytes bytes 0 0
begun bytes = record { inner = []; all = refl; open_yet = refl; at_is = refl; count_is = refl }

module _ (bytes rest line after : List ℕ) (at count : ℕ) (s : Searched bytes rest at count) (e : lines rest ≡ line ∷ lines after) where
  pub onward : closes line ≡ false → Searched bytes after (at + length line) (count + 1)
  onward other =
      let k = length-append s.inner (line ∷ []) in
      let c = ap (λ (xs : List ℕ). length xs) (concat_append s.inner (line ∷ [])) in
      let d = length-append (concat s.inner) (line ++ []) in
      let n = ap (λ (xs : List ℕ). length xs) (append-nil line) in
      let a = s.at_is in
      let b = s.count_is in
      record {
        inner = s.inner ++ line ∷ [];
        all = s.all ∙ ap (λ ls. s.inner ++ ls) e ∙ sym (append_assoc s.inner (line ∷ []) (lines after));
        open_yet = all_append s.inner line s.open_yet (ap not other);
        at_is = omega (arith, a, c, d, n);
        count_is = omega (arith, b, k);
      }

  pub text_is : take at bytes ≡ concat s.inner
  text_is =
      let whole : bytes ≡ concat s.inner ++ concat (lines rest) = sym (joined bytes) ∙ ap concat s.all ∙ concat_append s.inner (lines rest) in
      ap (λ n. take n bytes) s.at_is ∙ ap (take (length (concat s.inner))) whole ∙ take_prefix (concat s.inner) (concat (lines rest))

  pub found : closes line ≡ true → IsClosed (lines bytes) (take at bytes) count (lines after)
  found is = record {
    inner = s.inner;
    closing = line;
    all = s.all ∙ ap (λ ls. s.inner ++ ls) e;
    open_yet = s.open_yet;
    closed = is;
    within = text_is;
    number = s.count_is;
  }

-- the line has as many bytes as go from the rest
pub line_len : (rest line after : List ℕ) → lines rest ≡ line ∷ lines after → length line + length after ≡ length rest
line_len rest line after e =
    let a : rest ≡ line ++ after = sym (joined rest) ∙ ap concat e ∙ ap (λ xs. line ++ xs) (joined after) in
    let b = ap (λ (xs : List ℕ). length xs) a in
    let c = length-append line after in
    omega (arith, b, c)

pub none_left : (xs : List ℕ) → length xs ≤ 0 → xs ≡ []
none_left [] h = refl
none_left (x ∷ xs) h = absurd (omega (arith, h))

pub nowhere : (bytes rest : List ℕ) (at count : ℕ) → Searched bytes rest at count → length rest ≤ 0 → IsOpen (lines bytes)
nowhere bytes rest at count s h =
    subst IsOpen (sym (s.all ∙ ap (λ xs. s.inner ++ lines xs) (none_left rest h) ∙ append-nil s.inner)) s.open_yet
