-- What is kept of a replay is what its account says.
use Rattle.std.proofs.Common.{◌≡◌, ℕ, List, [], map, refl, ◌∙◌, ap, subst}
use Rattle.std.specs.List.{AllZip}
use Rattle.sg_text.specs.Sessions.{KnownSessions, naming}
use Rattle.sg_protocol.specs.IsSchedule.{AreCompiled, IsSchedule}
use Rattle.sg_protocol.specs.Run.{run}
use Rattle.sg_protocol.specs.Texts.{real}
use Rattle.sg_report.specs.Report.{lines_from, known_sessions}
use Rattle.sg_world.specs.Account.{account, lines_of}
use Rattle.sg_world.specs.Holds.{Holds, schedule_of}
use Rattle.sg_world.specs.RecordModel.{Recorded, TakenStep}
use Rattle.sg_world.specs.KeptLines.{line_kept, known_in}
use Rattle.sg_setting.specs.Replay.{Replay}
use Rattle.sg_setting.specs.Setting.{Setting}
use Rattle.sg_world.proofs.KeptLines.{events_alike, lines_alike}
use Rattle.sg_world.proofs.Pasts.{Named}
use Rattle.sg_world.proofs.RunEntries.{EntryOf, entries_of_steps}
use Rattle.sg_world.proofs.Worlds.{replay}

module _ (rep : Replay) (d : Setting) (nodes : List Named) (r : Recorded) (is : replay d nodes r ≡ rep) (h : Holds d nodes r) (es : List TakenStep) (same : es ≡ r.entries) where
  pub compiled_is : AreCompiled real rep.schedule.graphs rep.programs
  compiled_is = subst (λ (z : Replay). AreCompiled real z.schedule.graphs z.programs) is h.compiled

  pub schedule_is : IsSchedule real rep.schedule
  schedule_is = subst (λ (z : Replay). IsSchedule real z.schedule) is h.schedule

  -- the sessions that are kept are those that are met
  pub names_known : naming 120 (known_in d.sessions es) ≡ naming 120 (known_sessions (account rep))
  names_known =
      ap (λ (z : List TakenStep). naming 120 (known_in d.sessions z)) same
      ∙ ap (λ (z : List (List ℕ)). let m : KnownSessions = record { declared = (known_in d.sessions r.entries).declared; events = z } in naming 120 m) (events_alike r.entries [] (run real d.programs (schedule_of d nodes r)).log h.run.reported)
      ∙ ap (λ (z : Replay). naming 120 (known_sessions (account z))) is

  of_steps : AllZip (EntryOf (schedule_of d nodes r)) (schedule_of d nodes r).steps (run real d.programs (schedule_of d nodes r)).log
  of_steps = entries_of_steps d.programs (schedule_of d nodes r) h.taken

  -- the lines that are kept are written as those of the account
  pub lines_kept : (m : KnownSessions) → lines_from m 1 (map (line_kept d) es) ≡ lines_from m 1 (account rep).lines
  lines_kept m =
      ap (λ (z : List TakenStep). lines_from m 1 (map (line_kept d) z)) same
      ∙ lines_alike (replay d nodes r) d refl refl m 1 r.entries [] (run real d.programs (schedule_of d nodes r)).log h.run.reported h.run.learnt of_steps h.named
      ∙ ap (λ (z : Replay). lines_from m 1 (lines_of z)) is
