-- What a receipt holds, and of which session and view it is.
pub use Rattle.sg_receipt.specs.Receipts.{Receipt, IsWalkOf, IsReceiptAt}
