use Rattle.std.proofs.Common.{arith, ◌∙◌}
use Rattle.std.proofs.lemmas.List.{length-drop, length-take}
use Rattle.sg_base.proofs.Pieces.{append-take-rest}
use Rattle.sg_base.proofs.outside.write_all.Goals as goal

pub loop-at-preserved : goal.loop-at-preserved
loop-at-preserved g c = record {
  within = let fits = simp (length-take, length-drop) at c.in_ok-at.ensures.fits in omega arith;
  no_fault = c.in_ok-at.ensures.no_fault ∙ c.loop-at.invariant.no_fault;
  prefix = λ before is_known.
      rw (← append-take-rest before c.args.text.now c.loop-at.at c.in_ok-at.field-0)
      (c.in_ok-at.ensures.appended _ (c.loop-at.invariant.prefix before is_known));
}
