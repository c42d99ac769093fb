use Rattle.std.proofs.Common.{ℕ, List, length, ap}
use Rattle.sg_walk.specs.declared.stored.StoredWalk.{StoredWalk}
use Rattle.sg_drive.proofs.Written.{walks_written}
use Rattle.sg_drive.proofs.summary_text.put_walks.Goals as goal

pub returns : goal.returns
returns c =
    walks_written c.put_number.result c.args.world.now c.args.out.now c.put_number.new.out c.in_ok-walks.walks.items (length c.as_slice.result.now) c.in_ok-walks.ensures.made
    (ap (λ (ws : List (List ℕ × StoredWalk)). length ws) c.as_slice.ensures.value) c.put_number.ensures
