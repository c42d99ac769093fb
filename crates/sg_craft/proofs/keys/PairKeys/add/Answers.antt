use Rattle.std.proofs.Common.{sym, subst, All}
use Rattle.sg_protocol.specs.Schedule.{PairKey}
use Rattle.sg_craft.specs.Invariant.{AreApart}
use Rattle.sg_craft.proofs.KeyLaws.{kept_apart}
use Rattle.sg_craft.proofs.keys.PairKeys.add.Goals as goal

pub put_last-requires : goal.put_last-requires
put_last-requires c = subst (All (λ (k : PairKey). AreApart k c.args.key.now)) (sym c.self.view_is) c.requires

pub invariant_of-self : goal.invariant_of-self
invariant_of-self c = kept_apart c.put_last.result c.self.inside.table.entries c.put_last.new.table.entries c.args.key.now c.put_last.ensures.ok c.put_last.ensures.err c.self.invariant (subst (All (λ (k : PairKey). AreApart k c.args.key.now)) (sym c.self.view_is) c.requires)
