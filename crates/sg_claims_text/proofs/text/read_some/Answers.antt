use Rattle.std.proofs.Common.{◌-◌, sym, ◌∙◌, codes}
use Rattle.std.proofs.lemmas.Result.{err_from_is_err_and}
use Rattle.sg_claims_text.specs.Reading.{read_claim}
use Rattle.sg_parse.specs.PartsReading.{repeat}
use Rattle.sg_parse.specs.Tokens.{is_word}
use Rattle.sg_parse.proofs.Indices.{repeat_more, repeat_stop, repeat_done, repeat_full}
use Rattle.sg_claims_text.proofs.text.read_some.Goals as goal

pub returns-then-not-at_word : goal.returns-then-not-at_word
returns-then-not-at_word c =
    repeat_done (is_word (codes "claim")) (read_claim c.args.names.now) (1024 - c.claims.counter) c.claims.claims c.claims.scanner
    (repeat 1024 (is_word (codes "claim")) (read_claim c.args.names.now) c.args.claims.now c.args.scanner.now) (sym c.at_word.ensures ∙ c.if-not-at_word.true) c.claims.invariant

pub returns-in_err-read_claim : goal.returns-in_err-read_claim
returns-in_err-read_claim c =
    let p = err_from_is_err_and c.from_residual.result c.from_residual.ensures.1 in
    rw (p.1, p.2) (repeat_stop (is_word (codes "claim")) (read_claim c.args.names.now) c.in_err-read_claim.field-0.0 1024 c.claims.counter c.claims.claims c.claims.scanner
    (repeat 1024 (is_word (codes "claim")) (read_claim c.args.names.now) c.args.claims.now c.args.scanner.now) c.claims-test.true (sym c.at_word.ensures ∙ c.if-not-at_word.false)
    c.in_err-read_claim.ensures c.claims.invariant)

pub claims-preserved : goal.claims-preserved
claims-preserved c =
    repeat_more (is_word (codes "claim")) (read_claim c.args.names.now) 1024 c.claims.counter c.claims.claims c.read_claim.new.claims c.claims.scanner c.read_claim.new.scanner
    (repeat 1024 (is_word (codes "claim")) (read_claim c.args.names.now) c.args.claims.now c.args.scanner.now) c.claims-test.true (sym c.at_word.ensures ∙ c.if-not-at_word.false)
    c.in_ok-read_claim.ensures c.claims.invariant

pub returns : goal.returns
returns c =
    repeat_full (is_word (codes "claim")) (read_claim c.args.names.now) 1024 c.claims.counter c.claims.claims c.claims.scanner
    (repeat 1024 (is_word (codes "claim")) (read_claim c.args.names.now) c.args.claims.now c.args.scanner.now) c.claims-test.false c.claims.invariant
