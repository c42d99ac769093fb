use Rattle.std.proofs.Common.{◌-◌, ◌∙◌, ap, arith}
use Rattle.sg_sched.specs.Format.Model.{taken}
use Rattle.sg_sched.proofs.RunLaws.{stops, goes_on, repeated_full}
use Rattle.sg_sched.proofs.craft_form.take_repeated.Goals as goal

pub words-preserved : goal.words-preserved
words-preserved g c = c.words.invariant ∙ goes_on c.args.first.now g.T.AfterWord.taker (c.words.left - 1) c.words.left c.words.found (omega (arith, c.words-test.true)) (c.take_word.ensures.there c.if-not-take_word.false)
    (c.in_ok-one.ensures ∙ ap (λ o. taken o c.take.new.words) c.in-Some.is) c.in_ok-push.ensures.ok

pub returns-then-not-take_word : goal.returns-then-not-take_word
returns-then-not-take_word g c = c.words.invariant ∙ stops c.args.first.now g.T.AfterWord.taker (c.words.left - 1) c.words.left c.words.found c.words.words c.take_word.new.words (omega (arith, c.words-test.true)) (c.take_word.ensures.other c.if-not-take_word.true)

pub returns : goal.returns
returns g c = c.words.invariant ∙ repeated_full c.args.first.now g.T.AfterWord.taker c.words.left c.words.found c.words.words (omega (arith, c.words-test.false))
