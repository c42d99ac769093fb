use Rattle.std.proofs.Common.{Some, drop, ap, ◌∙◌, arith}
use Rattle.std.proofs.lemmas.List.{drop-drop, drop_all}
use Rattle.sg_system.proofs.descriptors.hold_standard.Goals as goal

pub returns-then-are_open-clause-held : goal.returns-then-are_open-clause-held
returns-then-are_open-clause-held g c = λ all is.
    let left = c.loop.invariant.left all is in
    left ∙ ap Some ((c.are_open.ensures (drop c.loop.counter all) left).0 c.if-are_open.true)

pub loop-preserved : goal.loop-preserved
loop-preserved g c = record {
  never_falls = omega (arith, c.in_ok-fill.ensures.never_falls, c.loop.invariant.never_falls);
  left = λ all is. c.in_ok-fill.ensures.filled (drop c.loop.counter all) (c.loop.invariant.left all is) ∙ ap Some (drop-drop 1 c.loop.counter all);
}

pub returns-clause-held : goal.returns-clause-held
returns-clause-held g c = λ all is.
    let few = g.met.D.Descriptors.three c.args.descriptors.now all is in
    c.loop.invariant.left all is ∙ ap Some (drop_all c.loop.counter all (omega (arith, few, c.loop-test.false)))
