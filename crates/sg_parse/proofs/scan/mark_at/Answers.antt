use Rattle.std.proofs.Common.{◌≡◌, ◌∙◌, sym, arith, refl, false, ◌&&◌, ◌==◌, get_or, drop, ◌+◌}
use Rattle.std.proofs.lemmas.Bool.Decides.{nat_tests}
use Rattle.sg_parse.specs.Tokens.{has_head}
use Rattle.sg_parse.proofs.Scanning.{arrow_there, mark_there}
use Rattle.sg_parse.proofs.scan.mark_at.Goals as goal
use Rattle.sg_parse.proofs.scan.mark_at.Goals.{else-bytes-at-eq45-via-then-bytes-at-eq45+else-head, else-bytes-at-eq45-via-else-bytes-at-eq45}

pub returns-then-head-clause-tokens : goal.returns-then-head-clause-tokens
returns-then-head-clause-tokens c =
    rw (c.mark-token.ensures, c.has_head-head.ensures.result) (arrow_there c.args.bytes.now c.args.at c.requires.there c.if-bytes-at-eq45.true (sym c.has_head-head.ensures.result ∙ c.if-head.true))

pub returns-else-bytes-at-eq45-clause-tokens : goal.returns-else-bytes-at-eq45-clause-tokens
returns-else-bytes-at-eq45-clause-tokens c =
    let other : ((get_or c.args.bytes.now c.args.at 0 == 45) && has_head (drop (c.args.at + 1) c.args.bytes.now)) ≡ false = elim c.else-bytes-at-eq45.branch [
      | else-bytes-at-eq45-via-then-bytes-at-eq45+else-head w ↦ (rw (w.if-bytes-at-eq45.true, ← c.has_head-head.ensures.result, w.if-head.false) refl)
      | else-bytes-at-eq45-via-else-bytes-at-eq45 w ↦ (let no : (get_or c.args.bytes.now c.args.at 0 == 45) ≡ false = grind (arith, nat_tests, w.if-bytes-at-eq45.false) in rw no refl)
    ] in
    rw (c.mark-token.ensures, c.has_head-head.ensures.result) (mark_there c.args.bytes.now c.args.at c.requires.there c.requires.begins c.requires.letter other)
