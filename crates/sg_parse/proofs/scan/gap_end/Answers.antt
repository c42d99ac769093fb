use Rattle.std.proofs.Common.{◌∙◌, sym, arith}
use Rattle.sg_parse.proofs.Scanning.{comment_begins, separator_passed}
use Rattle.sg_parse.proofs.scan.gap_end.Goals as goal

pub gap-preserved-then-byte-eq35 : goal.gap-preserved-then-byte-eq35
gap-preserved-then-byte-eq35 c = (
  c.comment_end-at.ensures.within,
  c.gap.invariant.1 ∙ comment_begins c.args.bytes.now c.gap.at c.gap-test.true c.if-byte-eq35.true ∙ c.comment_end-at.ensures.tokens,
)

pub gap-preserved : goal.gap-preserved
gap-preserved c = (
  omega (arith, c.gap-test.true),
  c.gap.invariant.1 ∙ separator_passed c.args.bytes.now c.gap.at c.gap-test.true (sym c.is_separator.ensures ∙ c.if-is_separator.true),
)
