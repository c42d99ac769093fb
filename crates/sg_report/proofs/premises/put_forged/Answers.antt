use Rattle.std.proofs.Common.{codes, [], ◌∷◌}
use Rattle.std.specs.Fmt.{decimal}
use Rattle.sg_report.proofs.Words.{pieces}
use Rattle.sg_report.proofs.premises.put_forged.Goals as goal

pub returns-clause-ok : goal.returns-clause-ok
returns-clause-ok c =
    pieces c.put_pair.result c.args.out.now c.put_number.new.out c.put_pair.new.out (codes "premise unforged broken at step ") (decimal c.args.forgery.now.step) (codes " for ") c.args.forgery.now.one (codes " and ") c.args.forgery.now.two (10 ∷ [])
    c.in_ok-put_number.ensures.ok c.put_pair.ensures.ok
