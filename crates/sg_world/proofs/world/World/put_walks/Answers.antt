use Rattle.sg_report.specs.Report.{known_sessions}
use Rattle.sg_world.specs.Account.{account}
use Rattle.sg_world.proofs.ReportText.{on_ok}
use Rattle.sg_world.proofs.WalkLaws.{can_walk, walks_written}
use Rattle.sg_world.proofs.world.World.put_walks.Goals as goal

pub put_walks-requires : goal.put_walks-requires
put_walks-requires c =
    let u = c.in_ok-traces.ensures.unbroken in
    can_walk c.args.self.now u.compiled u.schedule c.requires c.in_ok-traces.traces c.in_ok-traces.ensures.traces

pub returns : goal.returns
returns c = λ e.
    let u = c.in_ok-traces.ensures.unbroken in
    on_ok c.put_walks.result (walks_written c.args.self.now u.compiled u.schedule c.requires c.in_ok-traces.traces c.in_ok-traces.ensures.traces c.args.out.now c.put_walks.new.out) (c.put_walks.ensures (known_sessions (account c.args.self.now)) e)
