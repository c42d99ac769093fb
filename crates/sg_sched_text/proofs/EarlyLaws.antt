-- What is known of a line that takes no memory.
use Rattle.std.proofs.Common.{◌≡◌, ℕ, true, false, List, [], ◌∷◌, length, Some, Ok, Err, refl, sym, ap, ◌∙◌}
use Rattle.std.specs.Prelude.{IsNone, Result}
use Rattle.sg_model.proofs.Small.{clash, first_false, second_false}
use Rattle.sg_sched.specs.Text.{content, lines, words}
use Rattle.sg_sched.specs.Format.Early.{line_beginning}
use Rattle.sg_sched.specs.Format.Form.{form}
use Rattle.sg_sched.specs.Format.Forms.{is_skipped}
use Rattle.sg_sched.specs.Format.Items.{SoFar}
use Rattle.sg_sched.specs.Format.LineContents.{LineContent, BlockLine}
use Rattle.sg_sched.specs.Format.Spells.{Line}
use Rattle.sg_sched.specs.declared.fault.LineFault.{LineFault}
use Rattle.sg_sched_text.specs.Early.{begins_late, is_kept, is_said, takes_memory}

module _ (past : SoFar) (all : List Line) (line : Line) (ls : List Line) (split : all ≡ line ∷ ls) (late : begins_late past all ≡ false) where
  -- a line that is skipped
  pub still_early : is_skipped line ≡ true → begins_late past ls ≡ false
  still_early skip = go (ap (begins_late past) (sym split) ∙ late)
    where
      go : begins_late past (line ∷ ls) ≡ false → begins_late past ls ≡ false
      go h = rw skip at h

  -- a line that isn't skipped
  no_memory : is_skipped line ≡ false → takes_memory past line ≡ false
  no_memory skip = go (ap (begins_late past) (sym split) ∙ late)
    where
      go : begins_late past (line ∷ ls) ≡ false → takes_memory past line ≡ false
      go h = rw skip at h

  -- it is read without memory
  pub read_early : is_skipped line ≡ false → IsNone (line_beginning (words (content line)))
  read_early skip = first_false _ (is_said past (form (words (content line)))) (no_memory skip)

  -- what it says isn't kept
  pub not_kept : is_skipped line ≡ false → (s : LineContent) → Some s ≡ form (words (content line)) → is_kept past s ≡ false
  not_kept skip s e = ap (is_said past) e ∙ second_false _ (is_said past (form (words (content line)))) (no_memory skip)

  -- a block begins, which takes memory
  pub block_late : {A : Type 0} → is_skipped line ≡ false → Some BlockLine ≡ form (words (content line)) → A
  block_late skip said = clash (is_kept past BlockLine) refl (not_kept skip BlockLine said)

-- the fault that is given
abbrev fault_of : {A : Type 0} → LineFault → Result A LineFault → LineFault
fault_of d (Ok x) = d
fault_of d (Err e) = e

-- one fault is given
pub one_fault : {A : Type 0} (e f : LineFault) (r : Result A LineFault) → r ≡ Err e → r ≡ Err f → e ≡ f
one_fault e f r h k = ap (fault_of e) (sym h ∙ k)

-- no line is left
pub late-end : (past : SoFar) (rest : List ℕ) → length rest ≡ 0 → begins_late past (lines rest) ≡ false → ⊥
late-end past [] none h = cc
late-end past (c ∷ cs) none h = cc
