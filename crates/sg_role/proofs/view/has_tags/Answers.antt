use Rattle.std.proofs.Common.{filter, not, sym, arith}
use Rattle.sg_model.specs.Lists.{is_in, keys_of}
use Rattle.sg_role.proofs.Rising.{equal_rising, numbers_filter}
use Rattle.sg_role.proofs.view.has_tags.Goals as goal

pub returns : goal.returns
returns c = sym (equal_rising 16 (keys_of c.args.tags.now) (filter (λ t. not (is_in t c.args.later)) c.args.targets) c.requires.tags (numbers_filter (λ t. not (is_in t c.args.later)) 16 c.args.targets c.requires.targets)
    (λ x l. c.loop-number.invariant x (omega (arith, l, c.loop-number-test.false))))
