use Rattle.std.proofs.Common.{◌-◌, codes, sym, ◌∙◌}
use Rattle.std.proofs.lemmas.Result.{err_from_is_err_and}
use Rattle.sg_parse.specs.PartsReading.{read_part, repeat}
use Rattle.sg_parse.specs.Tokens.{is_word}
use Rattle.sg_parse.proofs.Indices.{repeat_more, repeat_stop, repeat_done, repeat_full}
use Rattle.sg_parse.proofs.parts.read_more.Goals as goal

pub returns-then-not-at_word : goal.returns-then-not-at_word
returns-then-not-at_word c =
    repeat_done (is_word (codes "graph")) (read_part c.args.bytes) (c.args.bytes - c.more.counter) c.more.parts c.more.scanner
    (repeat c.args.bytes (is_word (codes "graph")) (read_part c.args.bytes) c.args.parts.now c.args.scanner.now) (sym c.at_word.ensures ∙ c.if-not-at_word.true) c.more.invariant

pub returns-in_err-read_part : goal.returns-in_err-read_part
returns-in_err-read_part c =
    let p = err_from_is_err_and c.from_residual.result c.from_residual.ensures.1 in
    rw (p.1, p.2) (repeat_stop (is_word (codes "graph")) (read_part c.args.bytes) c.in_err-read_part.field-0.0 c.args.bytes c.more.counter c.more.parts c.more.scanner
    (repeat c.args.bytes (is_word (codes "graph")) (read_part c.args.bytes) c.args.parts.now c.args.scanner.now) c.more-test.true (sym c.at_word.ensures ∙ c.if-not-at_word.false)
    c.in_err-read_part.ensures.reads c.more.invariant)

pub more-preserved : goal.more-preserved
more-preserved c =
    repeat_more (is_word (codes "graph")) (read_part c.args.bytes) c.args.bytes c.more.counter c.more.parts c.read_part.new.parts c.more.scanner c.read_part.new.scanner
    (repeat c.args.bytes (is_word (codes "graph")) (read_part c.args.bytes) c.args.parts.now c.args.scanner.now) c.more-test.true (sym c.at_word.ensures ∙ c.if-not-at_word.false)
    c.in_ok-read_part.ensures.reads c.more.invariant

pub returns : goal.returns
returns c =
    repeat_full (is_word (codes "graph")) (read_part c.args.bytes) c.args.bytes c.more.counter c.more.parts c.more.scanner
    (repeat c.args.bytes (is_word (codes "graph")) (read_part c.args.bytes) c.args.parts.now c.args.scanner.now) c.more-test.false c.more.invariant
