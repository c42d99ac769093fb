use Rattle.std.proofs.Common.{◌∙◌}
use Rattle.indexmap.proofs.CallerLemmas.{insert_entry-new}
use Rattle.sg_base.proofs.SameName.{same}
use Rattle.sg_keys.proofs.Contacts.{lookup-absent}
use Rattle.sg_keys.proofs.keyring.put_last.Goals as goal

pub returns-clause-ok : goal.returns-clause-ok
returns-clause-ok c =
    c.in_ok-insert.ensures.entries ∙ insert_entry-new same c.args.peers.now c.args.peer c.args.contact (lookup-absent c.args.peer c.args.peers.now.entries c.requires)
