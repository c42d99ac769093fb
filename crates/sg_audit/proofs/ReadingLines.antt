-- What lines say is what the reader keeps of them.
use Rattle.std.proofs.Common.{◌≡◌, ℕ, ◌+◌, true, false, List, [], ◌∷◌, ◌++◌, length, refl, sym, ap, ◌∙◌, subst, inl, inr, arith, append_assoc, append-nil, length-append}
use Rattle.std.specs.Prelude.{Option, Some, None, Result, Ok, Err}
use Rattle.std.proofs.lemmas.Bool.{cases_Bool}
use Rattle.sg_protocol.specs.Graph.{Graph, IsGraph}
use Rattle.sg_sched.specs.Text.{content, words}
use Rattle.sg_sched.specs.Format.Forms.{is_skipped}
use Rattle.sg_sched.specs.Format.Spells.{Line}
use Rattle.sg_audit.specs.LineContents.{LogContent}
use Rattle.sg_audit.specs.Reading.{form}
use Rattle.sg_audit.specs.Sessions.{Logs, LogsSoFar, sessions_of, added}
use Rattle.sg_audit.specs.Faults.{fault, is_whole as is_over}
use Rattle.sg_audit.specs.Spells.{AreLogsOf, Nothing, Skip, Say, Fault, WrongLine}
use Rattle.sg_audit.specs.SoFar.{SoFar, nothing, is_whole, add}
use Rattle.sg_audit.specs.Read.{add_line, unless_wrong, read_sessions}
use Rattle.sg_audit.specs.declared.fault.Mistake.{Mistake}
use Rattle.sg_audit.specs.declared.fault.Mistake.TheVariants.{Form}
use Rattle.sg_audit.proofs.Fitting.{Fine, form_fits, adds, nothing_fine}
use Rattle.sg_audit.proofs.OneLine.{so_far_by, Kept, sessions_so_far, next, judged, add_same, same_whole}
use Rattle.sg_audit.proofs.NextLine.{moved, kept}
use Rattle.sg_audit.proofs.WrittenLines.{form_is, form_ok}

-- ---- one line

pub skip_line : (g : Graph) (d : SoFar) (l : Line) → is_skipped l ≡ true → add_line g d l ≡ Ok d
unfolding add_line
skip_line g d l s = rw s refl

pub no_line : (g : Graph) (d : SoFar) (l : Line) → is_skipped l ≡ false → form g (words (content l)) ≡ None → add_line g d l ≡ Err Form
unfolding add_line
no_line g d l s n = rw (s, n) refl

pub statement_line : (g : Graph) (d : SoFar) (l : Line) (s : LogContent) → is_skipped l ≡ false → form g (words (content l)) ≡ Some s → add_line g d l ≡ add g d s
unfolding add_line
statement_line g d l s k h = rw (k, h) refl

-- what the reader makes of a line of a form
pub right_line : (g : Graph) (d : SoFar) (l : Line) (s : LogContent) → Fine g d → Kept d → is_skipped l ≡ false → form g (words (content l)) ≡ Some s → fault g (so_far_by d) s ≡ None → add_line g d l ≡ Ok (next d s)
right_line g d l s f k n h e = statement_line g d l s n h ∙ add_same g d s f k ∙ ap (λ o. judged o (next d s)) e

pub wrong_line : (g : Graph) (d : SoFar) (l : Line) (s : LogContent) (kind : Mistake) → Fine g d → Kept d → is_skipped l ≡ false → form g (words (content l)) ≡ Some s → fault g (so_far_by d) s ≡ Some kind → add_line g d l ≡ Err kind
wrong_line g d l s kind f k n h e = statement_line g d l s n h ∙ add_same g d s f k ∙ ap (λ o. judged o (next d s)) e

pub fine_next : (g : Graph) (d : SoFar) (l : Line) (s : LogContent) → IsGraph g → Fine g d → Kept d → form g (words (content l)) ≡ Some s → fault g (so_far_by d) s ≡ None → Fine g (next d s)
fine_next g d l s is f k h e = adds g d (next d s) s is (form_fits g (words (content l)) s h) f (add_same g d s f k ∙ ap (λ o. judged o (next d s)) e)

-- ---- from what lines say to what is read

pub nothing_kept : Kept nothing
nothing_kept = record { names = refl; count = refl; first = λ q. refl }

-- the reader keeps what the lines say, and goes on with those behind them
pub record Reached (g : Graph) (ls : List Line) (t : LogsSoFar) : Type 0 where
  pub state : SoFar
  pub fine : Fine g state
  pub keeps : Kept state
  pub so_far : so_far_by state ≡ t
  pub reads : (n : ℕ) (rest : List Line) → read_sessions g n nothing (ls ++ rest) ≡ read_sessions g (n + length ls) state rest

-- one more line
goes_on : (g : Graph) (ls : List Line) (l : Line) (d e : SoFar) → ((n : ℕ) (rest : List Line) → read_sessions g n nothing (ls ++ rest) ≡ read_sessions g (n + length ls) d rest) → add_line g d l ≡ Ok e
    → (n : ℕ) (rest : List Line) → read_sessions g n nothing ((ls ++ l ∷ []) ++ rest) ≡ read_sessions g (n + length (ls ++ l ∷ [])) e rest
goes_on g ls l d e h a n rest =
    let long = length-append ls (l ∷ []) in
    let number : n + length ls + 1 ≡ n + length (ls ++ l ∷ []) = omega (arith, long) in
    ap (read_sessions g n nothing) (append_assoc ls (l ∷ []) rest) ∙ h n (l ∷ rest) ∙ ap (λ r. unless_wrong (n + length ls) r (λ d'. read_sessions g (n + length ls + 1) d' rest)) a ∙ ap (λ m. read_sessions g m e rest) number

pub reached : (g : Graph) (ls : List Line) (t : LogsSoFar) → IsGraph g → AreLogsOf g ls t → Reached g ls t
reached g _ _ is Nothing = record {
  state = nothing;
  fine = nothing_fine g;
  keeps = nothing_kept;
  so_far = refl;
  reads = λ n rest. ap (λ m. read_sessions g m nothing rest) (let z : n ≡ n + 0 = omega arith in z);
}
reached g _ _ is (Skip {ls = ls} {t = t} l logs s) = let r = reached g ls t is logs in record {
  state = r.state;
  fine = r.fine;
  keeps = r.keeps;
  so_far = r.so_far;
  reads = goes_on g ls l r.state r.state r.reads (skip_line g r.state l s);
}
reached g _ _ is (Say {ls = ls} {t = t} l s logs n says right) =
    let r = reached g ls t is logs in
    let statement = form_ok g (words (content l)) s says in
    let none : fault g (so_far_by r.state) s ≡ None = ap (λ x. fault g x s) r.so_far ∙ right in
    record {
      state = next r.state s;
      fine = fine_next g r.state l s is r.fine r.keeps statement none;
      keeps = kept g r.state s r.keeps none;
      so_far = moved r.state s r.keeps ∙ ap (λ x. added x s) r.so_far;
      reads = goes_on g ls l r.state (next r.state s) r.reads (right_line g r.state l s r.fine r.keeps n statement none);
    }

-- ---- from what is read to what lines say

-- how the lines behind a block end, if the first has this number
pub data Ends (g : Graph) (n : ℕ) (ls : List Line) : Result Logs Fault → Type 0 where
  Well : (t : LogsSoFar) → AreLogsOf g ls t → is_over g t ≡ true → Ends g n ls (Ok (record { graph = g; sessions = sessions_of t }))
  Few : (t : LogsSoFar) → AreLogsOf g ls t → is_over g t ≡ false → Ends g n ls (Err (WrongLine (n + length ls) Form))
  Formless : (t : LogsSoFar) (right rest : List Line) (line : Line) → ls ≡ right ++ line ∷ rest → AreLogsOf g right t → is_skipped line ≡ false → form g (words (content line)) ≡ None → Ends g n ls (Err (WrongLine (n + length right) Form))
  Faulty : (t : LogsSoFar) (right rest : List Line) (line : Line) (statement : LogContent) {kind : Mistake} → ls ≡ right ++ line ∷ rest → AreLogsOf g right t → is_skipped line ≡ false → form g (words (content line)) ≡ Some statement
      → fault g t statement ≡ Some kind → Ends g n ls (Err (WrongLine (n + length right) kind))

pub ends : (g : Graph) (n : ℕ) (prefix : List Line) (d : SoFar) (ls : List Line) → IsGraph g → Fine g d → Kept d → AreLogsOf g prefix (so_far_by d) → Ends g n (prefix ++ ls) (read_sessions g (n + length prefix) d ls)
ends g n prefix d [] is f k logs = elim (cases_Bool (is_whole g d)) [
  | inl y ↦ subst (Ends g n (prefix ++ [])) (sym (rw (sessions_so_far d, y) refl)) (Well (so_far_by d) whole (same_whole g d f ∙ y))
  | inr z ↦ subst (Ends g n (prefix ++ [])) (sym (rw (append-nil prefix, z) refl)) (Few (so_far_by d) whole (same_whole g d f ∙ z))
]
  where
    whole : AreLogsOf g (prefix ++ []) (so_far_by d)
    whole = subst (λ ls. AreLogsOf g ls (so_far_by d)) (sym (append-nil prefix)) logs
ends g n prefix d (l ∷ ls) is f k logs = elim (cases_Bool (is_skipped l)) [
  | inl y ↦ on (λ e f' k' t. ends g n (prefix ++ l ∷ []) e ls is f' k' t) d f k (Skip l logs y) (skip_line g d l y)
  | inr z ↦ by (λ e f' k' t. ends g n (prefix ++ l ∷ []) e ls is f' k' t) z (form g (words (content l))) refl
]
  where
    Goal : Type 0
    Goal = Ends g n (prefix ++ l ∷ ls) (read_sessions g (n + length prefix) d (l ∷ ls))

    -- how the lines behind this one end
    Rest : Type 0
    Rest = (e : SoFar) → Fine g e → Kept e → AreLogsOf g (prefix ++ l ∷ []) (so_far_by e) → Ends g n ((prefix ++ l ∷ []) ++ ls) (read_sessions g (n + length (prefix ++ l ∷ [])) e ls)

    -- the line is taken
    on : Rest → (e : SoFar) → Fine g e → Kept e → AreLogsOf g (prefix ++ l ∷ []) (so_far_by e) → add_line g d l ≡ Ok e → Goal
    on more e f' k' tell' a =
        let long = length-append prefix (l ∷ []) in
        let number : n + length (prefix ++ l ∷ []) ≡ n + length prefix + 1 = omega (arith, long) in
        let rest = more e f' k' tell' in
        subst (λ r. Ends g n (prefix ++ l ∷ ls) r) (ap (λ m. read_sessions g m e ls) number ∙ sym (ap (λ r. unless_wrong (n + length prefix) r (λ d'. read_sessions g (n + length prefix + 1) d' ls)) a))
        (subst (λ xs. Ends g n xs (read_sessions g (n + length (prefix ++ l ∷ [])) e ls)) (append_assoc prefix (l ∷ []) ls) rest)

    -- the line is not taken
    off : (kind : Mistake) → Ends g n (prefix ++ l ∷ ls) (Err (WrongLine (n + length prefix) kind)) → add_line g d l ≡ Err kind → Goal
    off kind e a = subst (Ends g n (prefix ++ l ∷ ls)) (sym (ap (λ r. unless_wrong (n + length prefix) r (λ d'. read_sessions g (n + length prefix + 1) d' ls)) a)) e

    of : Rest → (s : LogContent) → is_skipped l ≡ false → form g (words (content l)) ≡ Some s → (o : Option Mistake) → fault g (so_far_by d) s ≡ o → Goal
    of more s z h None e = on more (next d s) (fine_next g d l s is f k h e) (kept g d s k e) (subst (AreLogsOf g (prefix ++ l ∷ [])) (sym (moved d s k)) (Say l s logs z (form_is g (words (content l)) s h) e)) (right_line g d l s f k z h e)
    of more s z h (Some kind) e = off kind (Faulty (so_far_by d) prefix ls l s refl logs z h e) (wrong_line g d l s kind f k z h e)

    by : Rest → is_skipped l ≡ false → (o : Option LogContent) → form g (words (content l)) ≡ o → Goal
    by more z None h = off Form (Formless (so_far_by d) prefix ls l refl logs z h) (no_line g d l z h)
    by more z (Some s) h = of more s z h (fault g (so_far_by d) s) refl
