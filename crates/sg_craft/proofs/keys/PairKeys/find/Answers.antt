use Rattle.sg_craft.proofs.KeyLaws.{key_first, key_second, key_none}
use Rattle.sg_craft.proofs.keys.PairKeys.find.Goals as goal

pub returns-in-Some : goal.returns-in-Some
returns-in-Some c = key_first c.args.one.now c.args.two.now c.args.self.now c.in-Some.key.now c.in-Some.ensures.apart c.in-Some.ensures.key

pub returns-in-Some-of : goal.returns-in-Some-of
returns-in-Some-of c = key_second c.args.one.now c.args.two.now c.args.self.now c.in-Some-of.key.now c.in-None.ensures.key c.in-Some-of.ensures.key

pub returns-in-None-of : goal.returns-in-None-of
returns-in-None-of c = key_none c.args.one.now c.args.two.now c.args.self.now c.in-None.ensures.key c.in-None-of.ensures.key
