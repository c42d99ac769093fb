use Rattle.std.proofs.Common.{length, subst}
use Rattle.sg_drive.proofs.Written.{is_summary}
use Rattle.sg_drive.specs.Summary.{IsSummary}
use Rattle.sg_drive.specs.declared.drive.Driven.{Driven}
use Rattle.sg_drive.proofs.summary_text.summary.Goals as goal

pub returns : goal.returns
returns c =
    subst (λ (d : Driven). IsSummary (length d.schedule.sessions) d.lost c.args.graph.now d.world c.done.result.items) c.driven.view_is
    (is_summary _ _ c.len.result c.from.result c.args.graph.now _ _ c.new-out.result c.put_counts.new.out c.put_rest.new.out c.done.result.items c.len.ensures c.from.ensures
    c.new-out.ensures c.in_ok-tally.ensures c.in_ok-put_counts.ensures c.in_ok-put_rest.ensures c.done.ensures)
