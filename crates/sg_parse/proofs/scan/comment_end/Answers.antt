use Rattle.std.proofs.Common.{◌∙◌, arith}
use Rattle.sg_parse.proofs.Scanning.{comment_on, comment_off, comment_end}
use Rattle.sg_parse.proofs.scan.comment_end.Goals as goal

pub returns-then-bytes-at-eq10-clause-tokens : goal.returns-then-bytes-at-eq10-clause-tokens
returns-then-bytes-at-eq10-clause-tokens c = c.comment.invariant.2 ∙ comment_off c.args.bytes.now c.comment.at c.comment-test.true c.if-bytes-at-eq10.true

pub comment-preserved : goal.comment-preserved
comment-preserved c = (
  omega (arith, c.comment.invariant.0),
  omega (arith, c.comment-test.true),
  c.comment.invariant.2 ∙ comment_on c.args.bytes.now c.comment.at c.comment-test.true c.if-bytes-at-eq10.false,
)

pub returns-clause-tokens : goal.returns-clause-tokens
returns-clause-tokens c = c.comment.invariant.2 ∙ comment_end c.args.bytes.now c.comment.at c.comment-test.false
