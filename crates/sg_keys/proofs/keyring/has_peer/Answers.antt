use Rattle.std.proofs.Common.{◌∙◌}
use Rattle.sg_keys.proofs.Contacts.{is_some-lookup}
use Rattle.sg_keys.proofs.keyring.has_peer.Goals as goal

pub returns : goal.returns
returns c = c.contains_key.ensures ∙ is_some-lookup c.args.name.now c.args.peers.now.entries
