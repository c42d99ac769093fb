use Rattle.std.proofs.Common.{◌∙◌, ap, subst, find, option_map, AllPairs}
use Rattle.sg_protocol.specs.Schedule.{PairKey}
use Rattle.sg_craft.specs.Model.{is_in_order}
use Rattle.sg_craft.specs.Invariant.{AreApart}
use Rattle.sg_craft.proofs.KeyLaws.{lookup-in_order}
use Rattle.sg_craft.proofs.keys.PairKeys.of.Goals as goal

pub returns-clause-key : goal.returns-clause-key
returns-clause-key c =
    c.get.ensures.value
    ∙ lookup-in_order c.args.one.now c.args.two.now c.self.inside.table.entries
    ∙ ap (λ ks. option_map (λ (k : PairKey). k.key) (find (is_in_order c.args.one.now c.args.two.now) ks)) c.self.view_is

pub returns-clause-apart : goal.returns-clause-apart
returns-clause-apart c = subst (AllPairs AreApart) c.self.view_is c.self.invariant
