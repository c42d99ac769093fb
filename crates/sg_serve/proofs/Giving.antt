-- What is given of an answer, and what the outside has got then.
use Rattle.std.proofs.Common.{◌≡◌, ◌≤◌, ◌⊎◌, ⊎_elim, inl, inr, ℕ, Bool, true, false, if◌then◌else◌, List, [], ◌∷◌, ◌++◌, take, Option, Some, Result, refl, sym, ap, ◌∙◌, subst, append_assoc, le_trans, arith}
use Rattle.std.proofs.lemmas.List.{append-nil}
use Rattle.sg_base.specs.declared.address.Addr.{Addr}
use Rattle.sg_base.specs.Outside.{Appends, AppendsPrefix, HasRisen}
use Rattle.sg_input.specs.Lines.{Line}
use Rattle.sg_joins.specs.Images.{AllRepresent}
use Rattle.sg_play.proofs.Endings.{appends_more, frames_more}
use Rattle.sg_play.proofs.Rising.{risen_last}
use Rattle.sg_play.specs.Steps.{Step, lines_of, frames_of}
use Rattle.sg_serve.specs.declared.fault.ServeFault.{ServeFault}
use Rattle.sg_serve.specs.declared.server.Server.{Server}
use Rattle.sg_serve.specs.Lines.{Run, asks_quit, failures_after, given, gives, before_quit, with_line}
use Rattle.sg_serve.specs.Served.{Agrees, Gave, HasBegun, Outside, RoseBy, joins_of}
use Rattle.sg_serve.specs.Representation.{AnswerIsOut, HasAnswer, RepresentsServing}
use Rattle.sg_serve.proofs.Rising.{rose_on, rose_more}

lines_more : (ss : List Step) (s : Step) → lines_of (ss ++ s ∷ []) ≡ lines_of ss ++ s.line
lines_more [] s = append-nil s.line
lines_more (t ∷ ts) s = ap (λ (l : List ℕ). t.line ++ l) (lines_more ts s) ∙ sym (append_assoc t.line (lines_of ts) s.line)

-- how often the link failed, with what it did last
failed_with : (t : Bool) (n start old new : ℕ) → RoseBy n start old → old ≤ new → (t ≡ false → HasRisen old new) → RoseBy (failures_after t n) start new
failed_with true n start old new r l h = rose_on n start old new r l
failed_with false n start old new r l h = rose_more n start old new r l (h refl)

-- a count that rose in the first part of a call rose in the call
pub risen_first : (old mid new : ℕ) → HasRisen old mid → mid ≤ new → HasRisen old new
risen_first old mid new (inl h) l = inl (omega (arith, h, l))
risen_first old mid new (inr h) l = inr h

-- the lines that go on behind one that doesn't ask for the end
pub goes_behind : (line : Line) (later : List Line) → asks_quit line ≡ false → before_quit (line ∷ later) ≡ line ∷ before_quit later
goes_behind line later e = ap (λ (b : Bool). if b then [] else (line ∷ before_quit later)) e

pub ends_behind : (line : Line) (later : List Line) → asks_quit line ≡ true → before_quit (line ∷ later) ≡ []
ends_behind line later e = ap (λ (b : Bool). if b then [] else (line ∷ before_quit later)) e

-- ---- an answer was given

module _ (start old mid new : Outside) (random : Option (List (List ℕ))) (sv : Server) (r : Run) (line : Line) (step : Step) (gave : Gave start old r) (written : mid.written ≡ old.written) (sent : mid.sent ≡ old.sent)
    (falls : old.failed ≤ mid.failed) (a : HasAnswer sv random mid.coming old.failed mid.failed r line step) (result : Result (Unit {0}) ServeFault) (g : AnswerIsOut mid new step result) where
  -- the way in which the line is answered that gives this
  way : (t : Bool) × (with_line t r line ≡ gives t a.run a.reply) × (given t a.reply.1 ≡ given g.took a.reply.1) × (t ≡ false → (g.took ≡ false) ⊎ HasRisen old.failed mid.failed)
  way = a.fits g.took (λ e. g.quiet (ap (λ (s : Step). s.frames) a.replied.is_step ∙ e))

  answers_so : (with_line way.0 r line).answers ≡ r.answers ++ given g.took step ∷ []
  answers_so =
      ap (λ (x : Run). x.answers) way.1 ∙ ap (λ (ss : List Step). ss ++ given way.0 a.reply.1 ∷ []) a.answers
      ∙ ap (λ (s : Step). r.answers ++ s ∷ []) (way.2 ∙ sym (ap (given g.took) a.replied.is_step))

  risen : way.0 ≡ false → HasRisen old.failed new.failed
  risen e = ⊎_elim (λ x. risen_last old.failed mid.failed new.failed falls g.falls (g.risen x)) (λ x. risen_first old.failed mid.failed new.failed x g.falls) (way.3 e)

  failed_so : RoseBy (with_line way.0 r line).failures start.failed new.failed
  failed_so =
      subst (λ (n : ℕ). RoseBy n start.failed new.failed) (sym (ap (λ (x : Run). x.failures) way.1 ∙ ap (failures_after way.0) a.failures))
      (failed_with way.0 r.failures start.failed old.failed new.failed gave.failed (le_trans falls g.falls) risen)

  frames_so : Appends start.sent new.sent (frames_of (with_line way.0 r line).answers)
  frames_so =
      subst (λ (fs : List (Addr × List ℕ)). Appends start.sent new.sent fs) (sym (ap frames_of answers_so ∙ frames_more r.answers (given g.took step)))
      (appends_more start.sent old.sent new.sent (frames_of r.answers) (given g.took step).frames gave.frames (λ before is. g.frames before (sent ∙ is)))

  line_so : (text : List ℕ) → Appends mid.written new.written text → Appends start.written new.written (lines_of r.answers ++ text)
  line_so text h = appends_more start.written old.written new.written (lines_of r.answers) text gave.lines (λ before is. h before (written ∙ is))

  -- whole
  pub agrees : Appends mid.written new.written (given g.took step).line → (t : Bool) × RepresentsServing sv (with_line t r line).serving × Agrees start new random (with_line t r line)
  agrees h = (
    way.0,
    subst (λ (x : Run). RepresentsServing sv x.serving) (sym way.1) a.replied.represents,
    record {
      gave = record {
        lines = subst (λ (l : List ℕ). Appends start.written new.written l) (sym (ap lines_of answers_so ∙ lines_more r.answers (given g.took step))) (line_so (given g.took step).line h);
        frames = frames_so;
        failed = failed_so;
      };
      random_left = a.random_left ∙ sym (ap (λ (x : Run). Some (x.serving).play.random) way.1);
      coming = g.coming ∙ a.coming_left ∙ sym (ap (λ (x : Run). Some x.coming) way.1);
    },
  )

  -- a prefix of it
  pub begun : (images : List ℕ → Type 0) → AllRepresent images (joins_of a.reply.0) → (later : List Line) → AppendsPrefix mid.written new.written (given g.took step).line → HasBegun start new images r (before_quit (line ∷ later))
  begun images all later h = record {
    line = line;
    took = way.0;
    later = before_quit later;
    is_next = goes_behind line later a.goes_on;
    begun = record {
      step = given g.took step;
      is_step = answers_so;
      bytes = h.0;
      lines = line_so (take h.0 (given g.took step).line) h.2;
      frames = frames_so;
      failed = failed_so;
    };
    kept = subst (λ (x : Run). AllRepresent images (joins_of x.serving)) (sym way.1) all;
  }
