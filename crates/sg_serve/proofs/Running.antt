-- How far a run has come, line by line.
use Rattle.std.proofs.Common.{◌≡◌, ◌-◌, ◌+◌, ◌<◌, arith, suc, zero, drop, take, ℕ, Bool, false, List, [], ◌∷◌, ◌++◌, map, Option, Some, None, is_some, IfSome, Result, Ok, Err, refl, sym, ap, ◌∙◌, subst, append_assoc}
use Rattle.std.proofs.lemmas.List.{append-nil, map-append}
use Rattle.sg_base.specs.Outside.{TakesFirst}
use Rattle.sg_input.specs.Lines.{Line, Whole, TooLong}
use Rattle.sg_input.specs.declared.reader.InputFault.{InputFault}
use Rattle.sg_input.specs.declared.reader.LineFound.{LineFound}
use Rattle.sg_input.specs.declared.reader.LineFound.TheVariants as Found
use Rattle.sg_joins.specs.Images.{AllRepresent}
use Rattle.sg_ledger.specs.Format.{Join, OpenLedger, Represents}
use Rattle.sg_protocol.specs.Keyring.{Keyring, Program}
use Rattle.sg_wait.specs.declared.coming.Coming.{Coming}
use Rattle.sg_serve.specs.declared.fault.ServeFault.{ServeFault}
use Rattle.sg_serve.specs.declared.fault.ServeFault.TheVariants.{OutOfMemory}
use Rattle.sg_serve.specs.declared.server.Server.{Server}
use Rattle.sg_serve.specs.Lines.{Run, asks_quit, before_quit, until_quit, with_line, with_lines}
use Rattle.sg_serve.specs.Served.{Agrees, EndedAt, Gave, Outside, Served, images_if, joins_kept, joins_of, opening}
use Rattle.sg_serve.specs.Representation.{HoldsJoins, Serves, RepresentsServing, line_read}
use Rattle.sg_serve.proofs.Answering.{between_all}
use Rattle.sg_serve.proofs.Appending.{kept}
use Rattle.sg_serve.proofs.Giving.{goes_behind}
use Rattle.sg_serve.proofs.Rising.{rose_none}

-- one line more
lines_both : (r : Run) (xs ys : List (Line × Bool)) → with_lines r (xs ++ ys) ≡ with_lines (with_lines r xs) ys
lines_both r [] ys = refl
lines_both r (x ∷ xs) ys = lines_both (with_line x.1 r x.0) xs ys

pub serves_more : (start old new : Outside) (random0 random : Option (List (List ℕ))) (sv0 sv : Server) (first : Run) (all left : List Line) (line : Line) (h : Serves start old random0 sv0 first all (line ∷ left)) → asks_quit line ≡ false
    → (t : Bool) × RepresentsServing sv (with_line t (with_lines first h.prefix) line).serving × Agrees start new random (with_line t (with_lines first h.prefix) line) → Serves start new random sv first all left
serves_more start old new random0 random sv0 sv first all left line h goes x = record {
  prefix = h.prefix ++ (line, x.0) ∷ [];
  is = h.is ∙ ap (λ (ls : List Line). map (λ (y : Line × Bool). y.0) h.prefix ++ ls) (goes_behind line left goes)
      ∙ sym (append_assoc (map (λ (y : Line × Bool). y.0) h.prefix) (line ∷ []) (before_quit left))
      ∙ ap (λ (ls : List Line). ls ++ before_quit left) (sym (map-append (λ (y : Line × Bool). y.0) h.prefix ((line, x.0) ∷ [])));
  represents = subst (λ (r : Run). RepresentsServing sv r.serving) (sym (lines_both first h.prefix ((line, x.0) ∷ []))) x.1;
  agrees = subst (λ (r : Run). Agrees start new random r) (sym (lines_both first h.prefix ((line, x.0) ∷ []))) x.2;
}

-- the line that a reader has found is the first of those that were left
took_first : (found : LineFound) (bytes : List ℕ) (old new : Option (List Line)) (r : Result (Option LineFound) InputFault) → r ≡ Ok (Some found)
    → (r ≡ Ok (Some Found.Line) → TakesFirst old new (Whole bytes)) → (r ≡ Ok (Some Found.TooLong) → TakesFirst old new TooLong) → TakesFirst old new (line_read found bytes)
took_first Found.Line bytes old new r is whole long = whole is
took_first Found.TooLong bytes old new r is whole long = long is

-- the next of the lines that may be answered
next_taken : (n : ℕ) (left : List Line) (line : Line) → 0 < n → left ≡ line ∷ drop 1 left → take n left ≡ line ∷ drop 1 (take n left)
next_taken zero left line p e = absurd (omega (arith, p))
next_taken (suc n) left line p e = subst (λ (ls : List Line). take (suc n) ls ≡ line ∷ drop 1 (take (suc n) ls)) (sym e) refl

-- the line that was found of the lines that are left, of which so many may be answered, and those behind it
pub next_left : (found : LineFound) (bytes : List ℕ) (line : Line) → line ≡ line_read found bytes → (left : List Line) (most at : ℕ) → at < most → (old new : Option (List Line)) (r : Result (Option LineFound) InputFault) → r ≡ Ok (Some found)
    → (r ≡ Ok (Some Found.Line) → TakesFirst old new (Whole bytes)) → (r ≡ Ok (Some Found.TooLong) → TakesFirst old new TooLong) → old ≡ Some left → (take (most - at) left ≡ line ∷ drop 1 (take (most - at) left)) × (new ≡ Some (drop 1 left))
next_left found bytes line e left most at below old new r is whole long reported =
    let x = took_first found bytes old new r is whole long left reported in (
      next_taken (most - at) left line (omega (arith, below)) (x.0 ∙ ap (λ (l : Line). l ∷ drop 1 left) (sym e)),
      x.1,
    )

pub take_none : (n : ℕ) → take {A = Line} n [] ≡ []
take_none zero = refl
take_none (suc n) = refl

one_off : (n : ℕ) → n ≡ suc n - 1
one_off n = omega arith

-- those behind it
pub taken_on : (n : ℕ) (left : List Line) → drop 1 (take n left) ≡ take (n - 1) (drop 1 left)
taken_on zero left = refl
taken_on (suc n) [] = sym (take_none (suc n - 1))
taken_on (suc n) (l ∷ ls) = ap (λ (m : ℕ). take m ls) (one_off n)

-- as many as are left
pub one_fewer : (m n : ℕ) → m - n - 1 ≡ m - (n + 1)
one_fewer m n = omega arith

-- the run ended there
pub served_at : (start old new : Outside) (random0 random : Option (List (List ℕ))) (images : List ℕ → Type 0) (sv : Server) (first : Run) (all left : List Line) (result : Result (Unit {0}) ServeFault) (h : Serves start old random0 sv first all left)
    → EndedAt start new random images (with_lines first h.prefix) (before_quit left) result → Served start new random images first all result
served_at start old new random0 random images sv first all left result h e = record { prefix = h.prefix; rest = before_quit left; is = h.is; ended = e }

-- ---- a run begins

opened_is : (o : Option OpenLedger) (l : OpenLedger) → o ≡ Some l → IfSome o (λ x. x.failed ≡ false) → l ≡ record { joins = joins_kept o; failed = false }
opened_is None l e h = absurd (cc)
opened_is (Some m) l e h = sym (let z : m ≡ l = (cc) in z) ∙ (λ i. record { joins = m.joins; failed = h i })

pub holds_first : (sv : Server) (ledger : Option OpenLedger) (may_leave : List ℕ → Type 0) (keys : Keyring) (programs : List Program) → sv.ledger ≡ ledger → RepresentsServing sv (opening keys programs (joins_kept ledger) [] []).serving
    → IfSome ledger (λ l. l.failed ≡ false) → AllRepresent (images_if (is_some ledger) may_leave) (joins_kept ledger) → HoldsJoins sv may_leave
holds_first sv ledger may_leave keys programs is st works all = record {
  past = record { keys = keys; programs = programs; first = joins_kept ledger; calls = [] };
  represents = st.player.node;
  answered = st.player.answered;
  ledger = λ l e. opened_is ledger l (sym is ∙ e) works ∙ ap (λ (js : List Join). record { joins = js; failed = false }) (sym st.player.node.joins);
  images = λ image left. subst (Represents image) (sym st.player.node.joins) (all image (ap is_some (sym is) ∙ left.0, left.1));
}

-- the joins of the ledger are those of a run that begins
pub represent_first : (images : List ℕ → Type 0) (keys : Keyring) (programs : List Program) (first : List Join) (coming : List Coming) (random : List (List ℕ)) → AllRepresent images first → AllRepresent images (joins_of (opening keys programs first coming random).serving)
represent_first images keys programs first coming random all = subst (AllRepresent images) (sym (append-nil first)) all

-- nothing was given
pub gave_none : (o : Outside) (keys : Keyring) (programs : List Program) (first : List Join) (coming : List Coming) (random : List (List ℕ)) → Gave o o (opening keys programs first coming random)
gave_none o keys programs first coming random = record { lines = kept o.written o.written refl; frames = kept o.sent o.sent refl; failed = rose_none o.failed }

-- memory ran out before its first line
pub not_begun : (o : Outside) (left : Option (List (List ℕ))) (images : List ℕ → Type 0) (keys : Keyring) (programs : List Program) (first : List Join) (coming : List Coming) (random : List (List ℕ)) (lines : List Line) (f : ServeFault) → f ≡ OutOfMemory → AllRepresent images first
    → Served o o left images (opening keys programs first coming random) lines (Err f)
not_begun o left images keys programs first coming random lines f e all = subst (λ (x : ServeFault). Served o o left images (opening keys programs first coming random) lines (Err x)) (sym e) (record {
  prefix = [];
  rest = until_quit lines;
  is = refl;
  ended = record { gave = gave_none o keys programs first coming random; kept = between_all images (opening keys programs first coming random) (until_quit lines) (represent_first images keys programs first coming random all) };
})
