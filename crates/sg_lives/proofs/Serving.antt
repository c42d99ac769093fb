-- A run of `serve` is a run over a ledger.
use Rattle.std.specs.Prelude.{◌≡◌, ◌≤◌, ℕ, Bool, List, [], ◌∷◌, ◌++◌, map, length, take, drop, refl, Option, Result, Ok, Err}
use Rattle.std.proofs.Common.{ap, sym, ◌∙◌, subst, arith, append-nil, append_assoc, ⊎_elim}
use Rattle.std.proofs.lemmas.List.{length-append, take-append-drop}
use Rattle.std.proofs.lemmas.List.Concat.{flat_map-append}
use Rattle.sg_input.specs.Lines.{Line}
use Rattle.sg_joins.specs.Joins.{joins_made}
use Rattle.sg_keep.specs.KeptRuns.{RepresentsFirst}
use Rattle.sg_keep.proofs.Owning.{none_sent}
use Rattle.sg_ledger.specs.Format.{Join, Represents}
use Rattle.sg_play.specs.Steps.{Step, lines_of}
use Rattle.sg_protocol.specs.Keyring.{Keyring, Program}
use Rattle.sg_protocol.specs.Node.{Node}
use Rattle.sg_protocol.specs.Past.{AreAnswers, Past, new_node}
use Rattle.sg_protocol.specs.Texts.{real}
use Rattle.sg_serve.specs.declared.fault.ServeFault.{ServeFault}
use Rattle.sg_serve.specs.declared.fault.ServeFault.TheVariants.{InputFailed, WriteFailed, DiskFailed, OutOfMemory}
use Rattle.sg_serve.specs.Laws.{IsOfNode}
use Rattle.sg_serve.specs.Lines.{Run, until_quit, with_line, with_lines}
use Rattle.sg_serve.specs.Served.{Begun, EndedAt, Gave, Outside, RepresentBetween, joins_of, opening}
use Rattle.sg_serve.proofs.Pasts.{Goes, by_line, of_nodes}
use Rattle.sg_wait.specs.declared.coming.Coming.{Coming}
use Rattle.sg_lives.specs.LedgerRuns.{HasWritten, IsOver, IsRun, LedgerRun}
use Rattle.sg_lives.specs.ServedRuns.{IsServedRun, ServedIsRun, past_of}

-- one line more
lines_one : (r : Run) (xs : List (Line × Bool)) (line : Line) (took : Bool) → with_lines r (xs ++ (line, took) ∷ []) ≡ with_line took (with_lines r xs) line
lines_one r [] line took = refl
lines_one r (x ∷ xs) line took = lines_one (with_line x.1 r x.0) xs line took

-- it is the first of the lines that are left
first_more : (xs : List (Line × Bool)) (line : Line) (took : Bool) (later : List Line) → map (λ (x : Line × Bool). x.0) xs ++ line ∷ later ≡ map (λ (x : Line × Bool). x.0) (xs ++ (line, took) ∷ []) ++ later
first_more [] line took later = refl
first_more (x ∷ xs) line took later = ap (λ (ls : List Line). x.0 ∷ ls) (first_more xs line took later)

-- a call more, or none
no_fewer : (a b : Past) → Goes a b → length a.calls ≤ length b.calls
no_fewer a b g = ⊎_elim
    (λ (e : b ≡ a). let same = ap (λ (p : Past). length p.calls) e in omega (arith, same))
    (λ x. let more = ap (λ (p : Past). length p.calls) x.1 ∙ length-append a.calls _ in omega (arith, more))
    g

-- ---- what was written

whole : (old new : Outside) (r : Run) → Gave old new r → HasWritten old.written new.written r.answers
whole old new r g = record { written = lines_of r.answers; rest = []; is = sym (append-nil (lines_of r.answers)); lines = g.lines }

in_part : (old new : Outside) (r : Run) (line : Line) (took : Bool) → Begun old new r line took → HasWritten old.written new.written (with_line took r line).answers
in_part old new r line took b =
    let before = lines_of r.answers in
    let text = b.step.line in
    let some = take b.bytes text in
    let others = drop b.bytes text in
    record {
      written = before ++ some;
      rest = others;
      is = ap lines_of b.is_step ∙ flat_map-append (λ (s : Step). s.line) r.answers (b.step ∷ [])
          ∙ ap (λ (l : List ℕ). before ++ l) (append-nil text ∙ sym (take-append-drop b.bytes text)) ∙ sym (append_assoc before some others);
      lines = b.lines;
    }

-- ---- what is kept

module _ (keys : Keyring) (programs : List Program) (opened : List Join) (coming : List Coming) (random : List (List ℕ)) where
  abbrev start : Run
  start = opening keys programs opened coming random

  over : (xs : List (Line × Bool)) → IsOver opened (past_of (with_lines start xs))
  over xs =
      let n : IsOfNode keys programs opened (with_lines start xs) = of_nodes keys programs opened coming random xs in
      (n.is_first, subst (λ (m : Node). AreAnswers real m (past_of (with_lines start xs)).calls) (λ i. new_node (sym n.is_keys i) (sym n.is_programs i) (sym n.is_first i)) n.answers)

  -- the joins of all calls
  all_kept : (image : List ℕ) (xs : List (Line × Bool)) (count : ℕ) → count ≤ length (past_of (with_lines start xs)).calls → Represents image (joins_of (with_lines start xs).serving)
      → RepresentsFirst image opened (past_of (with_lines start xs)).calls count []
  all_kept image xs count few h =
      let calls = (past_of (with_lines start xs)).calls in
      record {
        prefix = calls;
        rest = [];
        is = sym (append-nil calls);
        enough = few;
        sent = none_sent (joins_made calls);
        represents = subst (λ (js : List Join). Represents image (js ++ joins_made calls)) (over xs).0 h;
      }

  module _ (old new : Outside) (image : List ℕ) (input : List Line) where
    -- these lines are the first, and then others
    abbrev AreFirst : List (Line × Bool) → List Line → Type 0
    AreFirst xs rest = until_quit input ≡ map (λ (x : Line × Bool). x.0) xs ++ rest

    abbrev IsLeft : Type 0
    IsLeft = (r : LedgerRun) × (r.image ≡ image) × IsRun opened r × IsServedRun old new start input r

    -- with the lines that were begun, and the next
    left_by : (begun next xs : List (Line × Bool)) (rest : List Line) → xs ≡ begun ++ next → length next ≤ 1 → AreFirst xs rest → HasWritten old.written new.written (with_lines start begun).answers
        → length (past_of (with_lines start begun)).calls ≤ length (past_of (with_lines start xs)).calls → Represents image (joins_of (with_lines start xs).serving) → IsLeft
    left_by begun next xs rest is most first w few h =
        let count = length (past_of (with_lines start begun)).calls in
        let r : LedgerRun = record { past = past_of (with_lines start xs); reported = count; sent = []; image = image } in (
          r,
          refl,
          record { over = over xs; left = all_kept image xs count few h },
          record {
            begun = begun;
            next = next;
            rest = rest;
            lines = subst (λ (ys : List (Line × Bool)). AreFirst ys rest) is first;
            at_most = most;
            written = w;
            reported = refl;
            past = ap (λ (ys : List (Line × Bool)). past_of (with_lines start ys)) is;
          },
        )

    -- without the next
    at_end : (xs : List (Line × Bool)) (rest : List Line) → AreFirst xs rest → HasWritten old.written new.written (with_lines start xs).answers → Represents image (joins_of (with_lines start xs).serving) → IsLeft
    at_end xs rest first w h = let none : 0 ≤ 1 = omega arith in left_by xs [] xs rest (sym (append-nil xs)) none first w (omega arith) h

    -- with it
    at_next : (xs : List (Line × Bool)) (line : Line) (took : Bool) (later : List Line) → AreFirst xs (line ∷ later) → HasWritten old.written new.written (with_lines start xs).answers → Represents image (joins_of (with_line took (with_lines start xs) line).serving) → IsLeft
    at_next xs line took later first w h =
        let one = lines_one start xs line took in
        let few = no_fewer (past_of (with_lines start xs)) (past_of (with_line took (with_lines start xs) line)) (by_line took (with_lines start xs) line) in
        let most : 1 ≤ 1 = omega arith in
        left_by xs ((line, took) ∷ []) (xs ++ (line, took) ∷ []) later refl most (first ∙ first_more xs line took later) w
        (subst (λ (r : Run). length (past_of (with_lines start xs)).calls ≤ length (past_of r).calls) (sym one) few)
        (subst (λ (r : Run). Represents image (joins_of r.serving)) (sym one) h)

    module _ (images : List ℕ → Type 0) (may : images image) where
      between : (xs : List (Line × Bool)) (rest : List Line) → AreFirst xs rest → Gave old new (with_lines start xs) → RepresentBetween images (with_lines start xs) rest → IsLeft
      between xs [] first g h = at_end xs [] first (whole old new (with_lines start xs) g) (h image may)
      between xs (line ∷ later) first g h = ⊎_elim
          (λ s. at_end xs (line ∷ later) first (whole old new (with_lines start xs) g) s)
          (λ s. at_next xs line s.0 later first (whole old new (with_lines start xs) g) s.1)
          (h image may)

      ended : (left : Option (List (List ℕ))) (xs : List (Line × Bool)) (rest : List Line) (result : Result (Unit {0}) ServeFault) → AreFirst xs rest → EndedAt old new left images (with_lines start xs) rest result → IsLeft
      ended left xs rest (Ok u) first h = at_end xs rest first (whole old new (with_lines start xs) h.1.gave) (h.2 image may)
      ended left xs rest (Err InputFailed) first h = at_end xs rest first (whole old new (with_lines start xs) h.0) (h.1 image may)
      ended left xs rest (Err WriteFailed) first h =
          let one = lines_one start xs h.line h.took in
          let next : AreFirst (xs ++ (h.line, h.took) ∷ []) h.later = first ∙ ap (λ (ls : List Line). map (λ (x : Line × Bool). x.0) xs ++ ls) h.is_next ∙ first_more xs h.line h.took h.later in
          at_end (xs ++ (h.line, h.took) ∷ []) h.later next (subst (λ (r : Run). HasWritten old.written new.written r.answers) (sym one) (in_part old new (with_lines start xs) h.line h.took h.begun))
          (subst (λ (r : Run). Represents image (joins_of r.serving)) (sym one) (h.kept image may))
      ended left xs rest (Err DiskFailed) first h = between xs rest first h.gave h.kept
      ended left xs rest (Err OutOfMemory) first h = between xs rest first h.gave h.kept

pub served_is_run : ServedIsRun
served_is_run old new left image keys programs opened coming random input result h = ended keys programs opened coming random old new image input (λ i. i ≡ image) refl left h.prefix h.rest result h.is h.ended
