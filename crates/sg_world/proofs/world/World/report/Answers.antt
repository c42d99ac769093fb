use Rattle.std.proofs.Common.{◌∙◌, ◌++◌, subst, sym}
use Rattle.sg_report.specs.Report.{IsReport, known_sessions}
use Rattle.sg_world.specs.Account.{account}
use Rattle.sg_world.proofs.Accounts.{lines_kept, names_known}
use Rattle.sg_world.proofs.world.World.report.Goals as goal

pub returns : goal.returns
returns c =
    let a = account c.args.self.now in
    let names = c.in_ok-names.ensures ∙ names_known c.args.self.now c.self.inside.setting c.self.inside.nodes.entries c.self.inside.history.done c.self.view_is c.self.invariant c.entries-entries.result.now c.entries-entries.ensures in
    let kept = lines_kept c.args.self.now c.self.inside.setting c.self.inside.nodes.entries c.self.inside.history.done c.self.view_is c.self.invariant c.entries-entries.result.now c.entries-entries.ensures (known_sessions a) in
    let lines = c.in_ok-put_lines.ensures (known_sessions a) names ∙ (λ i. c.new-out.ensures i ++ kept i) in
    subst (IsReport a) (sym c.done.ensures) (c.in_ok-put_rest.ensures names lines)
