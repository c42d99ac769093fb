use Rattle.std.proofs.Common.{◌∙◌, drop}
use Rattle.sg_parse.specs.Tokens.{tokens_from, Apart}
use Rattle.sg_parse.proofs.Scanning.{ends}
use Rattle.sg_parse.proofs.scan.scan.Goals as goal

pub returns-then-at-bytes-clause-tokens : goal.returns-then-at-bytes-clause-tokens
returns-then-at-bytes-clause-tokens c =
    c.gap_end-at.ensures.tokens
    ∙ ends c.args.bytes.now c.gap_end-at.result (tokens_from Apart c.gap_end-at.result (drop c.gap_end-at.result c.args.bytes.now)) c.if-at-bytes.true
