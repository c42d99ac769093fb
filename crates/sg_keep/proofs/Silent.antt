-- A play as if its lines were empty. So a call that begins where lines stand already writes behind them, however it ends.
use Rattle.std.proofs.Common.{◌≡◌, ℕ, suc, List, [], ◌∷◌, ◌++◌, map, take, length, Err, refl, sym, ap, ◌∙◌, subst}
use Rattle.sg_base.specs.declared.address.Addr.{Addr}
use Rattle.sg_base.specs.Outside.{Appends}
use Rattle.sg_play.specs.declared.fault.PlayFault.TheVariants.{LinkFailed, WriteFailed, OutOfMemory}
use Rattle.sg_play.specs.Ends.{Outside, Whole}
use Rattle.sg_play.specs.Played.{Play}
use Rattle.sg_play.specs.Steps.{Step, counted, frames_of, lines_of}
use Rattle.sg_play.proofs.Endings.{appends_none}
use Rattle.sg_keep.specs.declared.fault.KeepFault.{KeepFault}
use Rattle.sg_keep.specs.declared.fault.KeepFault.TheVariants.{Played, DiskFailed}
use Rattle.sg_keep.specs.declared.keeper.Keeper.{Keeper}
use Rattle.sg_joins.specs.Joins.{joins_made}
use Rattle.sg_keep.specs.KeptRuns.{AreOfJoins, HasKept}
use Rattle.sg_keep.specs.Representation.{RepresentsKept}

abbrev no_line : Step → Step
no_line s = record { line = []; frames = s.frames }

abbrev pub silent : Play → Play
silent p = record p { steps = map no_line p.steps }

no_lines : (ss : List Step) → lines_of (map no_line ss) ≡ []
no_lines [] = refl
no_lines (s ∷ ss) = no_lines ss

same_frames : (ss : List Step) → frames_of (map no_line ss) ≡ frames_of ss
same_frames [] = refl
same_frames (s ∷ ss) = ap (λ (fs : List (Addr × List ℕ)). s.frames ++ fs) (same_frames ss)

same_length : (ss : List Step) → length (map no_line ss) ≡ length ss
same_length [] = refl
same_length (s ∷ ss) = ap (λ (n : ℕ). suc n) (same_length ss)

-- a keeper represents it as it does the play
pub represents_silent : (k : Keeper) (p : Play) → RepresentsKept k p → RepresentsKept k (silent p)
represents_silent k p h = record {
  player = record {
    node = h.player.node;
    answered = h.player.answered;
    keys = h.player.keys;
    programs = h.player.programs;
    choices = h.player.choices;
    names = h.player.names;
    steps = h.player.steps;
    frames = h.player.frames ∙ ap (λ (fs : List (Addr × List ℕ)). counted (length fs)) (sym (same_frames p.steps));
  };
  in_step = same_length p.steps ∙ h.in_step;
  sent = subst (AreOfJoins (joins_made p.past.calls)) (sym (same_frames p.steps)) h.sent;
}

-- the outside has it, from what was written now on
pub whole_silent : (start now : Outside) (p : Play) → Whole start now p.steps → Whole (record { written = now.written; sent = start.sent }) now (silent p).steps
whole_silent start now p w = record {
  lines = subst (Appends now.written now.written) (sym (no_lines p.steps)) (appends_none now.written);
  frames = subst (Appends start.sent now.sent) (sym (same_frames p.steps)) w.frames;
}

-- whatever was written since the start of a play that ended early stands behind what was written before
pub written_since : (start now : Outside) (may_leave : List ℕ → Type 0) (p : Play) (f : KeepFault) → HasKept start now may_leave p (Err f) → (rest : List ℕ) × Appends start.written now.written rest
written_since start now may_leave p (Played LinkFailed) h = (lines_of h.given.prefix, h.given.whole.lines)
written_since start now may_leave p (Played WriteFailed) h = (lines_of h.given.prefix ++ take h.given.bytes h.given.step.line, h.given.lines)
written_since start now may_leave p (Played OutOfMemory) h = (lines_of h.given.prefix, h.given.whole.lines)
written_since start now may_leave p DiskFailed h = (lines_of h.given.prefix, h.given.whole.lines)
