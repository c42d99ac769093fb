use Rattle.std.proofs.Common.{arith, ◌∙◌, get_or, drop, ◌+◌, sym, ap}
use Rattle.std.proofs.lemmas.List.{drop_more}
use Rattle.sg_base.proofs.WordLaws.{digits_over, digits_from}
use Rattle.sg_base.proofs.word.read_digits.Goals as goal

pub returns-in_err-value-clause-value : goal.returns-in_err-value-clause-value
returns-in_err-value-clause-value c =
    let at = c.digits.digit-index in
    let more = drop_more c.args.word.now at 0 (omega arith) in
    let over = digits_over c.args.most c.digits.value (get_or c.args.word.now at 0) (drop (at + 1) c.args.word.now) c.in_err-value.ensures in
    c.from_residual.ensures ∙ sym (c.digits.invariant.0 ∙ ap (digits_from c.args.most c.digits.value) more ∙ over)
