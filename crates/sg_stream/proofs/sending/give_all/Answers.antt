use Rattle.std.proofs.Common.{refl, sym, ap, ◌∙◌, arith}
use Rattle.std.specs.Option.{option_map}
use Rattle.std.proofs.lemmas.List.{length-drop, length-take}
use Rattle.sg_stream.specs.declared.conns.ConnFaults.{ConnFaults}
use Rattle.sg_stream.specs.Traffic.{after_give}
use Rattle.sg_stream.proofs.Giving.{traffic-none, traffic-more, pieces_joined}
use Rattle.sg_stream.proofs.sending.give_all.Goals as goal

pub loop-at-init : goal.loop-at-init
loop-at-init g c = record {
  within = omega arith;
  bound = refl;
  never_falls = omega arith;
  counted = refl;
  prefix = sym (traffic-none c.args.conn (g.C.Conns.held c.args.conns.now));
}

pub loop-at-preserved : goal.loop-at-preserved
loop-at-preserved g c = record {
  within = let fits = simp (length-take, length-drop) at c.in_ok-at.ensures.fits in omega arith;
  bound = c.in_ok-at.ensures.kept_bound ∙ c.loop-at.invariant.bound;
  never_falls = omega (arith, c.in_ok-at.ensures.never_falls, c.loop-at.invariant.never_falls);
  counted =
      c.in_ok-at.ensures.no_fault ∙ c.loop-at.invariant.counted
      ∙ ap (λ (f : ConnFaults). record (g.C.Conns.faults c.args.conns.now) { gives = f.gives }) (sym c.in_ok-at.ensures.no_fault);
  prefix =
      c.in_ok-at.ensures.given
      ∙ (ap (option_map (after_give c.args.conn _)) c.loop-at.invariant.prefix
      ∙ (traffic-more c.args.conn _ _ (g.C.Conns.held c.args.conns.now)
      ∙ ap (λ b. option_map (after_give c.args.conn b) (g.C.Conns.held c.args.conns.now)) (pieces_joined c.args.bytes.now c.loop-at.at c.in_ok-at.field-0)));
}
