use Rattle.std.proofs.Common.{subst}
use Rattle.sg_receipt.specs.Receipts.{Receipt, receipt_of, IsWalkOf}
use Rattle.sg_receipt.proofs.Shown.{in_table, walk_of}
use Rattle.sg_receipt.proofs.answer.Receipt.walk.Goals as goal

pub example-requires : goal.example-requires
example-requires c = in_table (receipt_of c.self.inside) c.views.result.now c.views.ensures.views c.self.invariant

pub returns : goal.returns
returns c =
    subst (λ (r : Receipt). IsWalkOf r c.example.result.now) c.self.view_is (walk_of (receipt_of c.self.inside) c.views.result.now c.views.ensures.views c.example.result.now c.views.ensures.shown c.example.ensures)
