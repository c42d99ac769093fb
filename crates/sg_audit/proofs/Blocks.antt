-- The block of the graph, as it is read and as it stands.
use Rattle.std.proofs.Common.{◌≡◌, ℕ, suc, ◌+◌, ◌==◌, Bool, true, false, not, ◌&&◌, List, [], ◌∷◌, ◌++◌, length, bytes_eq, codes, refl, sym, ap, ◌∙◌, subst, inl, inr, arith, if◌then◌else◌, append_assoc, append-nil, length-append}
use Rattle.std.specs.Prelude.{Result, Err}
use Rattle.std.specs.List.{list_all, concat}
use Rattle.std.proofs.lemmas.Bool.Decides.{nat_tests}
use Rattle.std.proofs.lemmas.Slice.Eq.{bytes_eq-Decides}
use Rattle.std.proofs.lemmas.Bool.{cases_Bool}
use Rattle.sg_model.proofs.Small.{contradicts}
use Rattle.sg_parse.specs.Reading.{read as parsed}
use Rattle.sg_sched.specs.Text.{content, words}
use Rattle.sg_sched.specs.Format.Forms.{is_skipped}
use Rattle.sg_sched.specs.Format.LineContents.{Word, BlockLine}
use Rattle.sg_sched.specs.Format.Spells.{Line, closes}
use Rattle.sg_sched.proofs.FormatOnce.{not_skipped}
use Rattle.sg_audit.specs.Sessions.{Logs}
use Rattle.sg_audit.specs.Spells.{IsOpened, IsBlock, Fault, WrongLine}
use Rattle.sg_audit.specs.Read.{are_opening, opens, read_lines, read_block, with_graph}
use Rattle.sg_audit.specs.declared.fault.Mistake.TheVariants.{Form}

-- ---- lists of lines

all_last : (p : Line → Bool) (ls : List Line) (l : Line) → list_all p ls ≡ true → p l ≡ true → list_all p (ls ++ l ∷ []) ≡ true
all_last p [] l h k = rw k refl
all_last p (x ∷ xs) l h k = elim (cases_Bool (p x)) [
  | inl y ↦ (let r : list_all p xs ≡ true = rw y at h in rw (y, all_last p xs l r k) refl)
  | inr z ↦ (let bad : false ≡ true = rw z at h in absurd (cc))
]

concat_last : (ls : List Line) (l : Line) → concat (ls ++ l ∷ []) ≡ concat ls ++ l
concat_last [] l = append-nil l
concat_last (x ∷ xs) l = ap (λ t. x ++ t) (concat_last xs l) ∙ sym (append_assoc x (concat xs) l)

-- ---- the opening line

-- the words of the opening line
abbrev pub opening_words : List Word
opening_words = codes "graph" ∷ codes "{" ∷ []

and_both : (a b c : Bool) → (a && b && c) ≡ true → (a ≡ true) × (b ≡ true) × (c ≡ true)
and_both true true true h = (refl, refl, refl)
and_both true true false h = absurd (cc)
and_both true false c h = absurd (cc)
and_both false b c h = absurd (cc)

no_more : (ws : List Word) → (length ws == 0) ≡ true → ws ≡ []
no_more [] h = refl
no_more (w ∷ ws) h = absurd (let bad : suc (length ws) ≡ 0 = grind (arith, nat_tests, h) in omega (arith, bad))

words_open : (ws : List Word) → are_opening ws ≡ true → ws ≡ opening_words
words_open [] h = absurd (cc)
words_open (a ∷ []) h = absurd (cc)
words_open (a ∷ b ∷ ws) h =
    let p = and_both (bytes_eq a (codes "graph")) (bytes_eq b (codes "{")) (length ws == 0) h in
    let x : a ≡ codes "graph" = (bytes_eq-Decides a (codes "graph")).0 p.0 in
    let y : b ≡ codes "{" = (bytes_eq-Decides b (codes "{")).0 p.1 in
    let z : ws ≡ [] = no_more ws p.2 in
    λ i. x i ∷ y i ∷ z i

open_words : are_opening opening_words ≡ true
open_words = refl

opens_is : (l : Line) → opens l ≡ true → words (content l) ≡ opening_words
unfolding opens
opens_is l h = words_open (words (content l)) h

opens_yes : (l : Line) → words (content l) ≡ opening_words → opens l ≡ true
unfolding opens
opens_yes l h = ap are_opening h ∙ open_words

opening_shown : (l : Line) → words (content l) ≡ opening_words → is_skipped l ≡ false
opening_shown l h = elim (cases_Bool (is_skipped l)) [
  | inl y ↦ absurd (not_skipped l BlockLine (record { spelled = h; form = refl }) y)
  | inr z ↦ z
]

-- ---- what stands is read

skip_lines : (before : List Line) (n : ℕ) (rest : List Line) → list_all is_skipped before ≡ true → read_lines n (before ++ rest) ≡ read_lines (n + length before) rest
skip_lines [] n rest h = ap (λ m. read_lines m rest) (let z : n ≡ n + 0 = omega arith in z)
skip_lines (l ∷ ls) n rest h = elim (cases_Bool (is_skipped l)) [
  | inl y ↦ (let r : list_all is_skipped ls ≡ true = rw y at h in let number : n + 1 + length ls ≡ n + suc (length ls) = omega arith in rw y (skip_lines ls (n + 1) rest r ∙ ap (λ m. read_lines m rest) number))
  | inr z ↦ (let bad : false ≡ true = rw z at h in absurd (cc))
]

inside : (inner : List Line) (n : ℕ) (text : List ℕ) (rest : List Line) → list_all (λ l. not (closes l)) inner ≡ true → read_block n text (inner ++ rest) ≡ read_block (n + length inner) (text ++ concat inner) rest
inside [] n text rest h = λ i. read_block ((let z : n ≡ n + 0 = omega arith in z) i) (sym (append-nil text) i) rest
inside (l ∷ ls) n text rest h = elim (cases_Bool (closes l)) [
  | inl y ↦ (let bad : false ≡ true = rw y at h in absurd (cc))
  | inr z ↦ (let r : list_all (λ l. not (closes l)) ls ≡ true = rw z at h in
      let number : n + 1 + length ls ≡ n + suc (length ls) = omega arith in
      rw z (inside ls (n + 1) (text ++ l) rest r ∙ (λ i. read_block (number i) (append_assoc text l (concat ls) i) rest)))
]

-- after an opened block the text is read on
pub opened_read : (ls inner : List Line) → IsOpened ls inner → (rest : List Line) → read_lines 1 (ls ++ rest) ≡ read_block (length ls) (concat inner) rest
opened_read ls inner o rest =
    let n = 1 + length o.before in
    let laid : ls ++ rest ≡ o.before ++ (o.opening ∷ (inner ++ rest)) = ap (λ xs. xs ++ rest) o.all ∙ append_assoc o.before (o.opening ∷ inner) rest in
    let shown = opening_shown o.opening o.opens in
    let opening = opens_yes o.opening o.opens in
    let first : read_lines n (o.opening ∷ (inner ++ rest)) ≡ read_block n [] (inner ++ rest) = rw (shown, opening) refl in
    let long = ap length o.all in
    let split = length-append o.before (o.opening ∷ inner) in
    let number : n + length inner ≡ length ls = omega (arith, long, split) in
    ap (read_lines 1) laid ∙ skip_lines o.before 1 (o.opening ∷ (inner ++ rest)) o.skipped ∙ first ∙ inside inner n [] rest o.open_yet ∙ ap (λ m. read_block m (concat inner) rest) number

pub block_read : (ls : List Line) (text : List ℕ) → IsBlock ls text → (rest : List Line) → read_lines 1 (ls ++ rest) ≡ with_graph (parsed text) (1 + length ls) rest
block_read ls text b rest =
    let laid : ls ++ rest ≡ b.prefix ++ (b.closing ∷ rest) = ap (λ xs. xs ++ rest) b.all ∙ append_assoc b.prefix (b.closing ∷ []) rest in
    let closed = b.closed in
    let last : read_block (length b.prefix) (concat b.inner) (b.closing ∷ rest) ≡ with_graph (parsed (concat b.inner)) (length b.prefix + 1 + 1) rest = rw closed refl in
    let long = ap length b.all in
    let split = length-append b.prefix (b.closing ∷ []) in
    let number : length b.prefix + 1 + 1 ≡ 1 + length ls = omega (arith, long, split) in
    ap (read_lines 1) laid ∙ opened_read b.prefix b.inner b.opened (b.closing ∷ rest) ∙ last ∙ (λ i. with_graph (parsed (sym b.within i)) (number i) rest)

-- no line, or lines that are skipped alone
pub none_read : (ls : List Line) → list_all is_skipped ls ≡ true → read_lines 1 ls ≡ Err (WrongLine (length ls + 1) Form)
none_read ls h =
    let number : 1 + length ls ≡ length ls + 1 = omega arith in
    ap (read_lines 1) (sym (append-nil ls)) ∙ skip_lines ls 1 [] h ∙ ap (λ n. Err (WrongLine n Form)) number

-- a first line that isn't skipped and doesn't open the block
pub other_read : (before rest : List Line) (l : Line) → list_all is_skipped before ≡ true → is_skipped l ≡ false → (words (content l) ≡ opening_words → ⊥) → read_lines 1 (before ++ l ∷ rest) ≡ Err (WrongLine (length before + 1) Form)
other_read before rest l h z not_open = elim (cases_Bool (opens l)) [
  | inl y ↦ absurd (not_open (opens_is l y))
  | inr w ↦ (let number : 1 + length before ≡ length before + 1 = omega arith in
      let at : read_lines (1 + length before) (l ∷ rest) ≡ Err (WrongLine (1 + length before) Form) = rw (z, w) refl in
      skip_lines before 1 (l ∷ rest) h ∙ at ∙ ap (λ n. Err (WrongLine n Form)) number)
]

-- ---- what is read stands

-- how the lines up to the block's end are read
pub data Begins (ls : List Line) : Result Logs Fault → Type 0 where
  BlankAll : list_all is_skipped ls ≡ true → Begins ls (Err (WrongLine (length ls + 1) Form))
  Other : (before rest : List Line) (line : Line) → ls ≡ before ++ line ∷ rest → list_all is_skipped before ≡ true → is_skipped line ≡ false → (words (content line) ≡ opening_words → ⊥)
      → Begins ls (Err (WrongLine (length before + 1) Form))
  Open : (inner : List Line) → IsOpened ls inner → Begins ls (Err (WrongLine (length ls) Form))
  Whole : (block rest : List Line) (text : List ℕ) → ls ≡ block ++ rest → IsBlock block text → Begins ls (with_graph (parsed text) (1 + length block) rest)

-- from the block's opening line on
from_block : (prefix inner ls : List Line) → IsOpened prefix inner → Begins (prefix ++ ls) (read_block (length prefix) (concat inner) ls)
from_block prefix inner [] o = subst (λ xs. Begins xs (Err (WrongLine (length prefix) Form))) (sym (append-nil prefix)) (Open inner o)
from_block prefix inner (l ∷ ls) o = elim (cases_Bool (closes l)) [
  | inl y ↦ (let long = length-append prefix (l ∷ []) in
      let number : 1 + length (prefix ++ l ∷ []) ≡ length prefix + 1 + 1 = omega (arith, long) in
      let laid : prefix ++ l ∷ ls ≡ (prefix ++ l ∷ []) ++ ls = sym (append_assoc prefix (l ∷ []) ls) in
      let block : IsBlock (prefix ++ l ∷ []) (concat inner) = record { prefix = prefix; inner = inner; closing = l; all = refl; opened = o; closed = y; within = refl } in
      rw y (subst (λ n. Begins (prefix ++ l ∷ ls) (with_graph (parsed (concat inner)) n ls)) number (Whole (prefix ++ l ∷ []) ls (concat inner) laid block)))
  | inr z ↦ (let long = length-append prefix (l ∷ []) in
      let number : length (prefix ++ l ∷ []) ≡ length prefix + 1 = omega (arith, long) in
      let all : prefix ++ l ∷ [] ≡ o.before ++ o.opening ∷ (inner ++ l ∷ []) = ap (λ xs. xs ++ l ∷ []) o.all ∙ append_assoc o.before (o.opening ∷ inner) (l ∷ []) in
      let opened : IsOpened (prefix ++ l ∷ []) (inner ++ l ∷ []) = record { before = o.before; opening = o.opening; all = all; skipped = o.skipped; opens = o.opens; open_yet = all_last (λ l. not (closes l)) inner l o.open_yet (ap not z) } in
      let rest = from_block (prefix ++ l ∷ []) (inner ++ l ∷ []) ls opened in
      rw z (subst (λ xs. Begins xs (read_block (length prefix + 1) (concat inner ++ l) ls)) (append_assoc prefix (l ∷ []) ls)
      (subst (λ r. Begins ((prefix ++ l ∷ []) ++ ls) r) (λ i. read_block (number i) (concat_last inner l i) ls) rest)))
]

-- from the first line on
from_lines : (before ls : List Line) → list_all is_skipped before ≡ true → Begins (before ++ ls) (read_lines (1 + length before) ls)
from_lines before [] h =
    let number : length before + 1 ≡ 1 + length before = omega arith in
    subst (λ xs. Begins xs (Err (WrongLine (1 + length before) Form))) (sym (append-nil before)) (subst (λ n. Begins before (Err (WrongLine n Form))) number (BlankAll h))
from_lines before (l ∷ ls) h = elim (cases_Bool (is_skipped l)) [
  | inl y ↦ (let long = length-append before (l ∷ []) in
      let number : 1 + length (before ++ l ∷ []) ≡ 1 + length before + 1 = omega (arith, long) in
      let rest = from_lines (before ++ l ∷ []) ls (all_last is_skipped before l h y) in
      rw y (subst (λ xs. Begins xs (read_lines (1 + length before + 1) ls)) (append_assoc before (l ∷ []) ls)
      (subst (λ n. Begins ((before ++ l ∷ []) ++ ls) (read_lines n ls)) number rest)))
  | inr z ↦ rw z (shown z)
]
  where
    shown : is_skipped l ≡ false → Begins (before ++ l ∷ ls) (if opens l then read_block (1 + length before) [] ls else Err (WrongLine (1 + length before) Form))
    shown z = elim (cases_Bool (opens l)) [
      | inl y ↦ (let long = length-append before (l ∷ []) in
          let number : length (before ++ l ∷ []) ≡ 1 + length before = omega (arith, long) in
          let opened : IsOpened (before ++ l ∷ []) [] = record { before = before; opening = l; all = refl; skipped = h; opens = opens_is l y; open_yet = refl } in
          let rest = from_block (before ++ l ∷ []) [] ls opened in
          rw y (subst (λ xs. Begins xs (read_block (1 + length before) [] ls)) (append_assoc before (l ∷ []) ls)
          (subst (λ n. Begins ((before ++ l ∷ []) ++ ls) (read_block n [] ls)) number rest)))
      | inr w ↦ (let number : length before + 1 ≡ 1 + length before = omega arith in
          rw w (subst (λ n. Begins (before ++ l ∷ ls) (Err (WrongLine n Form))) number (Other before ls l refl h z (λ q. contradicts (opens_yes l q) w))))
    ]

pub begins : (ls : List Line) → Begins ls (read_lines 1 ls)
begins ls = from_lines [] ls refl
