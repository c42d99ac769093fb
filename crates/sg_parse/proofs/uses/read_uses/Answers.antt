use Rattle.std.proofs.Common.{◌-◌, sym, ◌∙◌}
use Rattle.std.proofs.lemmas.Result.{err_from_is_err_and}
use Rattle.sg_parse.specs.Parts.{part_names}
use Rattle.sg_parse.specs.PartsReading.{read_use, read_uses}
use Rattle.sg_parse.specs.Tokens.{is_use}
use Rattle.sg_parse.proofs.Indices.{repeat_more, repeat_stop, repeat_done, repeat_full}
use Rattle.sg_parse.proofs.uses.read_uses.Goals as goal

pub returns-then-not-at_use : goal.returns-then-not-at_use
returns-then-not-at_use c =
    repeat_done is_use (read_use (part_names c.args.parts.now) c.args.graph.now) (c.args.bytes - c.uses.counter) c.uses.uses c.uses.scanner
    (read_uses c.args.bytes (part_names c.args.parts.now) c.args.graph.now c.args.scanner.now) (sym c.at_use.ensures ∙ c.if-not-at_use.true) c.uses.invariant

pub returns-in_err-read_use : goal.returns-in_err-read_use
returns-in_err-read_use c =
    let p = err_from_is_err_and c.from_residual.result c.from_residual.ensures.1 in
    rw (p.1, p.2) (repeat_stop is_use (read_use (part_names c.args.parts.now) c.args.graph.now) c.in_err-read_use.field-0.0 c.args.bytes c.uses.counter c.uses.uses c.uses.scanner
    (read_uses c.args.bytes (part_names c.args.parts.now) c.args.graph.now c.args.scanner.now) c.uses-test.true (sym c.at_use.ensures ∙ c.if-not-at_use.false) c.in_err-read_use.ensures c.uses.invariant)

pub uses-preserved : goal.uses-preserved
uses-preserved c =
    repeat_more is_use (read_use (part_names c.args.parts.now) c.args.graph.now) c.args.bytes c.uses.counter c.uses.uses c.read_use.new.uses c.uses.scanner c.read_use.new.scanner
    (read_uses c.args.bytes (part_names c.args.parts.now) c.args.graph.now c.args.scanner.now) c.uses-test.true (sym c.at_use.ensures ∙ c.if-not-at_use.false) c.in_ok-read_use.ensures c.uses.invariant

pub returns : goal.returns
returns c =
    repeat_full is_use (read_use (part_names c.args.parts.now) c.args.graph.now) c.args.bytes c.uses.counter c.uses.uses c.uses.scanner
    (read_uses c.args.bytes (part_names c.args.parts.now) c.args.graph.now c.args.scanner.now) c.uses-test.false c.uses.invariant
