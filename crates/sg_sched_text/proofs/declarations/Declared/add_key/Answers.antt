use Rattle.std.proofs.Common.{◌∙◌, sym}
use Rattle.sg_sched.proofs.KeyAmong.{key_among}
use Rattle.sg_sched_text.proofs.declarations.Declared.add_key.Goals as goal

pub add-requires : goal.add-requires
add-requires c = key_among c.args.one c.args.two c.self.inside.keys ∙ sym c.if-has_pair.ensures
