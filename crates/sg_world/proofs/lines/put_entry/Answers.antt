use Rattle.std.proofs.Common.{◌≡◌, ◌∙◌, ◌++◌, List, None, Some, subst}
use Rattle.std.specs.Prelude.{OnOk}
use Rattle.sg_protocol.specs.Graph.{Graph}
use Rattle.sg_report.specs.Lines.{graph_or_none, line_text}
use Rattle.sg_report.specs.Outcome.{graph_in}
use Rattle.sg_report.specs.Report.{line}
use Rattle.sg_report.specs.Reported.{Reported}
use Rattle.sg_sched.specs.Format.StepsHeld.{step_of}
use Rattle.sg_world.specs.KeptLines.{IsRenamed, line_kept}
use Rattle.sg_world.specs.RecordModel.{TakenStep}
use Rattle.sg_world.proofs.WrittenLines.{entry_written, other_text}
use Rattle.sg_world.proofs.lines.put_entry.Goals as goal

-- renamed: the other outcome has the text of the line
pub returns-in-Some : goal.returns-in-Some
returns-in-Some c = λ m e.
    let kept : TakenStep = record { step = step_of c.entry.inside.step; outcome = c.entry.inside.outcome; honest = c.entry.inside.honest } in
    let is = subst (λ (gs : List Graph). IsRenamed gs c.entry.inside.outcome (Some c.in-Some.outcome)) c.graphs.ensures c.in-Some.ensures in
    let written = subst (λ (t : Reported). OnOk c.put_line.result (c.put_line.new.out ≡ c.args.out.now ++ line_text c.bytes_of-in-Some.result.now (graph_or_none (graph_in c.in-Some.outcome)) c.args.number c.bytes_of.result.now t)) is.0 c.put_line.ensures.ok in
    subst (λ (t : TakenStep). OnOk c.put_line.result (c.put_line.new.out ≡ c.args.out.now ++ line m c.args.number (line_kept c.args.setting.now t))) c.entry.view_is
    (entry_written c.put_line.result m c.args.setting.now c.args.number kept c.who-caller.result c.session_for-sid.result c.bytes_of.result.now c.bytes_of-in-Some.result.now (graph_in c.in-Some.outcome) c.args.out.now c.put_line.new.out
    c.who-caller.ensures c.bytes_of.ensures c.session_for-sid.ensures (c.bytes_of-in-Some.ensures ∙ c.name_in-session.ensures m e) (other_text c.args.setting.now.graphs c.entry.inside.outcome c.in-Some.outcome is) written)

-- the outcome itself has it
pub returns-in-None : goal.returns-in-None
returns-in-None c = λ m e.
    let kept : TakenStep = record { step = step_of c.entry.inside.step; outcome = c.entry.inside.outcome; honest = c.entry.inside.honest } in
    let is = subst (λ (gs : List Graph). IsRenamed gs c.entry.inside.outcome None) c.graphs.ensures c.in-None.ensures in
    subst (λ (t : TakenStep). OnOk c.put_line-in-None.result (c.put_line-in-None.new.out ≡ c.args.out.now ++ line m c.args.number (line_kept c.args.setting.now t))) c.entry.view_is
    (entry_written c.put_line-in-None.result m c.args.setting.now c.args.number kept c.who-caller.result c.session_for-sid.result c.bytes_of-in-None.result.now c.bytes_of-in-None-2.result.now (graph_in c.entry.inside.outcome) c.args.out.now c.put_line-in-None.new.out
    c.who-caller.ensures c.bytes_of-in-None.ensures c.session_for-sid.ensures (c.bytes_of-in-None-2.ensures ∙ c.name_in-session.ensures m e) is c.put_line-in-None.ensures.ok)
