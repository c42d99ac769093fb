-- Where the reader ends.
use Rattle.std.proofs.Common.{◌≡◌, ℕ, ◌≤◌, List, ◌++◌, length, refl, sym, ap, ◌∙◌, subst, append-nil}
use Rattle.sg_protocol.specs.Schedule.{Schedule}
use Rattle.sg_protocol.specs.Texts.{real}
use Rattle.sg_sched.specs.Text.{lines}
use Rattle.sg_sched.specs.Format.Items.{SoFar, graphs_declared}
use Rattle.sg_sched.specs.Format.Kinds.{Kind}
use Rattle.sg_sched.specs.Format.Spells.{Declare, SpellsSchedule, IsFirstFault, AtIt, AtEdge}
use Rattle.sg_sched.specs.declared.fault.LineFault.{LineFault}
use Rattle.sg_sched.specs.declared.fault.LineFault.TheVariants.{Line as AtLine, OutOfMemory as NoMemory}
use Rattle.sg_sched.proofs.FormatNotBoth.{not_both}
use Rattle.sg_sched.proofs.FormatPairOnce.{no_pair_at}
use Rattle.sg_sched_text.specs.declared.reader.ScheduleReader.{ScheduleReader}
use Rattle.sg_sched_text.specs.ReadSoFar.{HasRead, IsFault}
use Rattle.sg_sched_text.specs.Whole.{schedule_declared, HaveCasts}
use Rattle.sg_sched_text.proofs.BlockLaws.{none_left}
use Rattle.sg_sched_text.proofs.SessionsDeclared.{casts}

-- each session that is kept has a cast
pub casts_kept : (bytes : List ℕ) (r : ScheduleReader) (rest : List ℕ) → HasRead bytes r rest → HaveCasts (length (graphs_declared r.past)) r.past.sessions
casts_kept bytes r rest s = subst (λ (p : SoFar). HaveCasts (length (graphs_declared p)) p.sessions) (sym s.keeps.past) (casts s.keeps.declared)

-- if nothing is left, the bytes spell the schedule that is kept
pub spelled : (bytes : List ℕ) (r : ScheduleReader) (rest : List ℕ) → HasRead bytes r rest → length rest ≤ 0 → (t : Schedule) → t ≡ schedule_declared real r.past → SpellsSchedule real bytes t
spelled bytes r rest s h t e = record {
  items = s.items;
  declared = subst (λ ls. Declare ls s.items) (sym (s.all ∙ ap (λ xs. s.right ++ lines xs) (none_left rest h) ∙ append-nil s.right)) s.keeps.declared;
  schedule = sym (e ∙ ap (schedule_declared real) s.keeps.past);
}

-- no line of a schedule is wrong
pub no_fault : (bytes : List ℕ) (fault : LineFault) → IsFault bytes fault → (t : Schedule) → SpellsSchedule real bytes t → fault ≡ NoMemory
no_fault bytes (AtLine line kind) h t spells = absurd (by h)
  where
    by : {n : ℕ} {k : Kind} → IsFirstFault bytes n k → ⊥
    by (AtIt {n = n} {kind = k} w) = not_both real bytes t n k spells w
    by (AtEdge {n = n} w) = no_pair_at real bytes t n spells w
no_fault bytes NoMemory h t spells = refl
