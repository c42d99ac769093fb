use Rattle.std.proofs.Common.{◌≡◌, ◌∙◌, ◌-◌, true, false, sym, subst, arith}
use Rattle.std.proofs.lemmas.Result.{err_from_is_err_and}
use Rattle.sg_parse.specs.Kinds.{first_word, reader_of}
use Rattle.sg_parse.specs.Owed.{Reads}
use Rattle.sg_parse.specs.Reading.{up_to, is_next, no_more}
use Rattle.sg_parse.specs.Tokens.{is_word}
use Rattle.sg_parse.proofs.Loops.{up_to_more, up_to_stop, up_to_done, up_to_full}
use Rattle.sg_parse.proofs.statement.read_up_to.Goals as goal

pub returns-then-not-at_word : goal.returns-then-not-at_word
returns-then-not-at_word c =
    let word = first_word c.args.kind in
    let reader = reader_of c.args.kind in
    let away = subst (λ w. is_next (is_word w) c.more.scanner ≡ false) c.first_word-word.ensures (sym c.at_word.ensures ∙ c.if-not-at_word.true) in
    up_to_done word reader (c.args.most - c.more.counter) c.more.graph c.more.scanner (up_to c.args.most word reader c.args.graph.now c.args.scanner.now) away c.more.invariant.reads

pub returns-in_err-read_statement : goal.returns-in_err-read_statement
returns-in_err-read_statement c =
    let word = first_word c.args.kind in
    let reader = reader_of c.args.kind in
    let there = subst (λ w. is_next (is_word w) c.more.scanner ≡ true) c.first_word-word.ensures (sym c.at_word.ensures ∙ c.if-not-at_word.false) in
    let p = err_from_is_err_and c.from_residual.result c.from_residual.ensures.1 in
    rw (p.1, p.2) (up_to_stop word reader c.in_err-read_statement.field-0.0 c.args.most c.more.counter c.more.graph c.more.scanner
    (up_to c.args.most word reader c.args.graph.now c.args.scanner.now) c.more-test.true there c.in_err-read_statement.ensures.reads c.more.invariant.reads)

pub more-preserved : goal.more-preserved
more-preserved c =
    let word = first_word c.args.kind in
    let reader = reader_of c.args.kind in
    let there = subst (λ w. is_next (is_word w) c.more.scanner ≡ true) c.first_word-word.ensures (sym c.at_word.ensures ∙ c.if-not-at_word.false) in
    record {
      reads =
          up_to_more word reader c.args.most c.more.counter c.more.graph c.read_statement.new.graph c.more.scanner c.read_statement.new.scanner
          (up_to c.args.most word reader c.args.graph.now c.args.scanner.now) c.more-test.true there c.in_ok-read_statement.ensures.reads c.more.invariant.reads;
      count = omega (arith, c.in_ok-read_statement.ensures.more, c.more.invariant.count);
    }

pub returns : goal.returns
returns c =
    let word = first_word c.args.kind in
    let reader = reader_of c.args.kind in
    let none = subst (λ w. Reads (no_more w) c.more.scanner c.more.scanner c.no_more.result) c.first_word-word.ensures c.no_more.ensures in
    up_to_full word reader c.args.most c.more.counter c.more.graph c.args.scanner.now c.more.scanner (up_to c.args.most word reader c.args.graph.now) c.no_more.result
    c.more-test.false none c.more.invariant.reads
