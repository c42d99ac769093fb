use Rattle.std.proofs.Common.{◌≡◌, ◌∙◌, None, is_some, refl, ap}
use Rattle.sg_play.specs.Steps.{Step}
use Rattle.sg_serve.specs.Serving.{calls}
use Rattle.sg_serve.specs.Representation.{HasReplied, HoldsJoins}
use Rattle.sg_play.proofs.Keeping.{keeps_same}
use Rattle.sg_play.proofs.Results.{mapped}
use Rattle.sg_serve.proofs.Asking.{holds_on}
use Rattle.sg_serve.proofs.Replying.{called_with, join_kept, join_unkept, replied_so}
use Rattle.sg_serve.proofs.Keeping.{by_memory}
use Rattle.sg_serve.proofs.Results.{applied, both_ok}
use Rattle.sg_play.proofs.Counting.{alone_then, no_fault}
use Rattle.sg_serve.proofs.Counting.{alone_passed, disk_unasked}
use Rattle.sg_serve.proofs.server.Server.join.Goals as goal

pub returns-in-Ok-clause-replied : goal.returns-in-Ok-clause-replied
returns-in-Ok-clause-replied g c = λ s k called has leaves.
    let sv = c.args.self.now in
    let m = c.keep_join.new.self in
    let leaves_now = g.D.Disk.may_leave c.keep_join.new.disk in
    let outcome = c.args.outcome.now in
    replied_so _ s c.report.new.self (calls s k) c.report.result
    (applied c.report.result _ (λ (step : Step). HasReplied c.report.new.self step (calls s k)) (λ step h. h s k (called_with sv leaves_now s k outcome None called m c.keep_join.ensures.rest) leaves) c.report.ensures.replied)
    (join_kept sv leaves_now s k outcome None called m c.keep_join.ensures.rest c.keep_join.ensures.same c.in-Ok.ensures.holds)

pub returns-in-Err-clause-replied : goal.returns-in-Err-clause-replied
returns-in-Err-clause-replied g c = λ s k called has leaves.
    join_unkept c.args.self.now (g.D.Disk.may_leave c.keep_join.new.disk) s k c.args.outcome.now None called has c.in-Err.ensures.images

pub returns-in-Ok-clause-kept : goal.returns-in-Ok-clause-kept
returns-in-Ok-clause-kept g c =
    let old = c.args.self.now in
    let m = c.keep_join.new.self in
    let new = c.report.new.self in
    let leaves = g.D.Disk.may_leave c.keep_join.new.disk in
    record {
      disk_bound = c.keep_join.ensures.disk_bound;
      faults = alone_then (c.in-Ok.ensures.faults.same (no_fault _)) (disk_unasked c.report.result c.report.ensures.memory);
      untouched = c.keep_join.ensures.untouched;
      causes = by_memory c.report.result c.report.ensures.memory;
      same = mapped c.report.result (new.ledger ≡ m.ledger) (is_some new.ledger ≡ is_some old.ledger) (λ e. ap is_some e ∙ c.keep_join.ensures.same) c.report.ensures.ledger;
      holds =
          both_ok c.report.result (new.player.node ≡ m.player.node) (new.ledger ≡ m.ledger) (HoldsJoins new leaves)
          (λ n l. holds_on m new leaves c.in-Ok.ensures.holds l (keeps_same m.player.node new.player.node n)) c.report.ensures.node c.report.ensures.ledger;
    }

pub returns-in-Err-clause-kept : goal.returns-in-Err-clause-kept
returns-in-Err-clause-kept g c = record {
  disk_bound = c.keep_join.ensures.disk_bound;
  faults = alone_passed refl c.in-Err.ensures.faults;
  untouched = c.keep_join.ensures.untouched;
  causes = c.in-Err.ensures.causes;
  same = tt;
  holds = tt;
}
