use Rattle.std.proofs.Common.{◌∙◌}
use Rattle.sg_protocol.specs.NodeStates.{new_state}
use Rattle.sg_keep.proofs.Asking.{represents_first}
use Rattle.sg_keep.proofs.keeper.Keeper.new.Goals as goal

pub returns-in-Ok-new-clause-represents : goal.returns-in-Ok-new-clause-represents
returns-in-Ok-new-clause-represents c = λ random.
    let first = c.args.ledger.joins in
    represents_first (record { alloc = c.args.alloc; player = c.in-Ok-new.player; ledger = c.args.ledger })
    c.args.keys.now c.args.programs.now first c.args.choices random
    (c.in-Ok-new.ensures.represents first random (c.in-Ok.ensures.made ∙ (λ i. new_state (c.requires i) c.args.programs.now (c.joins.ensures.joins i))))
