use Rattle.std.proofs.Common.{◌∙◌}
use Rattle.sg_text.proofs.SameSid.{is_some-lookup}
use Rattle.sg_text.proofs.names.has_sid.Goals as goal

pub returns : goal.returns
returns c = c.contains_key.ensures ∙ is_some-lookup c.args.sid.now c.args.names.now.entries
