use Rattle.std.specs.Fmt.{decimal}
use Rattle.sg_report.specs.Lines.{graph_or_none}
use Rattle.sg_report.specs.Outcome.{graph_in, outcome_of}
use Rattle.sg_report.proofs.Words.{line_begins, line_put, on_err}
use Rattle.sg_report.proofs.line.put_line.Goals as goal

pub returns-clause-ok : goal.returns-clause-ok
returns-clause-ok c =
    line_put c.u8-2.result (outcome_of c.args.outcome.now) c.args.session.now c.args.who.now (graph_or_none (graph_in c.args.outcome.now)) c.args.step c.args.out.now
    c.decimal.new.self c.u8.new.self c.put_whom.new.out c.put_reported.new.out c.u8-2.new.self
    c.in_ok-decimal.ensures.ok c.in_ok-u8.ensures.ok c.in_ok-put_whom.ensures.ok c.in_ok-put_reported.ensures.ok c.u8-2.ensures.ok

pub returns-in_err-put_reported-clause-prefix : goal.returns-in_err-put_reported-clause-prefix
returns-in_err-put_reported-clause-prefix c =
    on_err c.from_residual-in_err-put_reported.result
    (line_begins (decimal c.args.step) c.args.out.now c.decimal.new.self c.u8.new.self c.put_whom.new.out c.put_reported.new.out c.in_ok-decimal.ensures.ok c.in_ok-u8.ensures.ok c.put_whom.ensures.prefix c.in_err-put_reported.ensures.prefix)
